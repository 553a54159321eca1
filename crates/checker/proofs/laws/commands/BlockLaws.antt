-- Blocks: the declaration's names, then the command in the scope with them.
use Prim.Native.Nat.{ℕ, zero, suc, ◌+◌, ◌<◌, ◌≤◌}
use mathlib.Core.Path.{◌≡◌, refl, sym, ap, ◌∙◌, subst}
use mathlib.Core.List.{List, ◌++◌}
use native.Mathlib.Omega.{arith}
use lib.ListN.{get_or}
use Rattle.rules.specs.paper.Limits.{most_nodes}
use Rattle.rules.specs.paper.Tree.{Command, Block, Blk, Declaration}
use Rattle.rules.specs.paper.Checker.{Scope, Judged, fine, ◌>>=◌, command_ok, block_ok, declaration_gives}
use Rattle.reader.specs.Pack.{packed_end}
use Rattle.reader.specs.Stored.{StoredCommand, StoredBlock, blk, StoredDeclaration}
use Rattle.reader.proofs.StandingLaws.{command_low, declaration_low, declaration_on, declaration_end, after_node}
use Rattle.typing.specs.Rows.{Rows, ScopeAt}
use Rattle.typing.specs.Answers.{fine_answer}
use Rattle.checker.specs.Commands.{WritesRowsFrom, CommandAt, BlockAt, DeclarationAt, NamesFrom, names_from, names_fault, CommandJudgedAt, BlockJudgedAt, DeclarationJudgedAt}
use Rattle.std.specs.Prelude.{Result, Ok, Err}
use Rattle.rules.specs.Answers.{refused_at, answer}
use Rattle.rules.specs.declared.refusals.Refused.{Refused}
use Rattle.typing.proofs.laws.codes.AnswerLaws.{two_answers, same_ok, same_err}
use Rattle.checker.proofs.laws.commands.KeptLaws.{kept_command, kept_scope, scope_with, kept_end}

-- ---- Names that were declared.

pub record Names (words : List ℕ) (to node t : ℕ) (j : Judged Scope) : Type 0 where
  pub names : Scope
  pub given : j ≡ fine names
  pub rows : Rows words t to names
  pub low : t ≤ node

pub names_are : {words : List ℕ} {to node : ℕ} {j : Judged Scope} {r : Result ℕ Refused} (t : ℕ) → NamesFrom words to node j r → r ≡ Ok t → Names words to node t j
names_are {words} {to} {node} t (names_from {t = u} {Δ = Δ} rows low) q =
    let same : u ≡ t = same_ok (Ok u) u t refl q in
    record { names = Δ; given = refl; rows = subst (λ v. Rows words v to Δ) same rows; low = subst (λ v. v ≤ node) same low }
names_are t (names_fault {r = r} {p = p}) q = absurd (two_answers (refused_at r p) t (record { refusal = r; place = p }) q refl)

pub names_not : {B Y : Type 0} (value : B → Y) {words : List ℕ} {to node : ℕ} {j : Judged Scope} {r : Result ℕ Refused} (s : Result Y Refused) (f : Scope → Judged B) (x : Refused) →
    NamesFrom words to node j r → r ≡ Err x → s ≡ Err x → s ≡ answer value (j >>= f)
names_not value s f x (names_from {t = t} rows low) q stays = absurd (two_answers (Ok t) t x refl q)
names_not value s f x (names_fault {r = y} {p = p}) q stays = stays ∙ ap Err (same_err (refused_at y p) x (record { refusal = y; place = p }) q refl)

-- ---- The parts of a block.

pub record BlockParts (words : List ℕ) (node : ℕ) (b : Block) : Type 0 where
  pub declared : Declaration
  pub inside : Command
  pub split : b ≡ Blk node declared inside
  pub declaration_stands : DeclarationAt words (node + 1) (packed_end (get_or words (node + 1) 0)) declared
  pub command_stands : CommandAt words (packed_end (get_or words (node + 1) 0)) inside
  pub on : node < packed_end (get_or words (node + 1) 0)

pub block_parts : (words : List ℕ) (node : ℕ) (b : Block) → BlockAt words node b → BlockParts words node b
block_parts words node b at = by at.stored
  where
    by : {d j : ℕ} {b : Block} → StoredBlock words d node j b → BlockParts words node b
    by {d = zero} {j = j} x = elim x [ ]
    by {d = suc d} (blk {j = j} {k = m} {dec = dec} {c = c} h a b) =
        let moved : StoredDeclaration words d (node + 1) j dec = subst (λ i. StoredDeclaration words d i j dec) (after_node node) a in
        let end : packed_end (get_or words (node + 1) 0) ≡ j = declaration_end moved in
        record {
          declared = dec;
          inside = c;
          split = refl;
          declaration_stands = record { depth = d; stored = subst (λ n. StoredDeclaration words d (node + 1) n dec) (sym end) moved };
          command_stands = record { depth = d; next = m; stored = subst (λ i. StoredCommand words d i m c) (sym end) b };
          on = subst (λ i. node < i) (sym end) (omega (arith, declaration_on a));
        }

pub block_first_low : (words : List ℕ) (node : ℕ) → ((b : Block) × BlockAt words node b) → node + 1 < most_nodes
block_first_low words node b = declaration_low (block_parts words node b.0 b.1).declaration_stands.stored

-- ---- What it is judged.

module _ (words words' : List ℕ) (registers scope node : ℕ) (r : Result ℕ Refused) (declares : DeclarationJudgedAt words words' registers scope (node + 1) r) where
  named : (b : Block) (Γ : Scope) (at : BlockAt words node b) → ScopeAt words registers scope Γ →
      NamesFrom words' scope (packed_end (get_or words (node + 1) 0)) (declaration_gives Γ (block_parts words node b at).declared) r
  named b Γ at s = let parts = block_parts words node b at in declares parts.declared (packed_end (get_or words (node + 1) 0)) Γ parts.declaration_stands s

  pub block_fault : (x : Refused) → r ≡ Err x → (a : Result (Unit {0}) Refused) → a ≡ Err x → BlockJudgedAt words registers scope node a
  block_fault x q a stays b Γ at s =
      let parts = block_parts words node b at in
      subst (λ c. a ≡ fine_answer (block_ok Γ c)) (sym parts.split)
      (unfold block_ok in (names_not (λ done. tt) a (λ Δ. command_ok (Δ ++ Γ) parts.inside) x (named b Γ at s) q stays))

  module _ (t next : ℕ) (got : r ≡ Ok t) (kept : WritesRowsFrom words words' (node + 1)) (low : scope ≤ node) (end : next ≡ packed_end (get_or words' (node + 1) 0)) where
    end_before : ((b : Block) × BlockAt words node b) → next ≡ packed_end (get_or words (node + 1) 0)
    end_before b = end ∙ kept_end (node + 1) kept (block_first_low words node b)

    inner_scope : (b : Block) (Γ : Scope) (at : BlockAt words node b) (s : ScopeAt words registers scope Γ) → ScopeAt words' registers t ((names_are t (named b Γ at s) got).names ++ Γ)
    inner_scope b Γ at s = scope_with (kept_scope kept (omega (arith, low)) s) (names_are t (named b Γ at s) got).rows

    inner_command : (b : Block) (at : BlockAt words node b) → CommandAt words' next (block_parts words node b at).inside
    inner_command b at = kept_command kept (subst (λ i. CommandAt words i (block_parts words node b at).inside) (sym (end_before (b, at))) (block_parts words node b at).command_stands)

    -- what the call of `command` asks
    pub block_inside : ((Γ : Scope) × ScopeAt words registers scope Γ) → ((b : Block) × BlockAt words node b) →
        (t ≤ next) × (node < next) × (next < most_nodes) × ((Δ : Scope) × ScopeAt words' registers t Δ) × ((c : Command) × CommandAt words' next c)
    block_inside Γ b =
        let names = names_are t (named b.0 Γ.0 b.1 Γ.1) got in
        let inside = inner_command b.0 b.1 in (
          subst (λ i. t ≤ i) (sym (end_before b)) names.low,
          subst (λ i. node < i) (sym (end_before b)) (block_parts words node b.0 b.1).on,
          command_low inside.stored,
          (names.names ++ Γ.0, inner_scope b.0 Γ.0 b.1 Γ.1),
          ((block_parts words node b.0 b.1).inside, inside),
        )

    pub block_fine : (s : Result (Unit {0}) Refused) → CommandJudgedAt words' registers t next s → BlockJudgedAt words registers scope node s
    block_fine a judged b Γ at s =
        let parts = block_parts words node b at in
        let names = names_are t (named b Γ at s) got in
        subst (λ c. a ≡ fine_answer (block_ok Γ c)) (sym parts.split)
        (unfold block_ok in
        (subst (λ j. a ≡ fine_answer (j >>= λ Δ. command_ok (Δ ++ Γ) parts.inside)) (sym names.given)
        (judged parts.inside (names.names ++ Γ) (inner_command b at) (inner_scope b Γ at s))))
