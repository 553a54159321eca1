-- The root: an expression, a command or absent, with the registers in scope.
use Prim.Native.Nat.{ℕ, ◌<◌}
use mathlib.Core.Path.{◌≡◌, refl, sym, ap, subst}
use mathlib.Core.List.{List, []}
use lib.ListN.{get_or}
use Rattle.rules.specs.paper.Tree.{Root, Expression, Command, Block}
use Rattle.rules.specs.paper.Tree as Tree
use Rattle.rules.specs.paper.Limits.{codes}
use Rattle.rules.specs.paper.Kinds.{kind_number}
use Rattle.rules.specs.declared.kinds.Kind.{Kind}
use Rattle.rules.specs.declared.kinds.Kind.TheVariants.{Expression as expression_kind}
use Rattle.rules.specs.declared.kinds.ExpressionKind.{ExpressionKind}
use Rattle.rules.specs.paper.Checker.{Judged, fine, ◌>>=◌, register_scope, root_is, expression_code, command_ok}
use Rattle.rules.specs.declared.kinds.Passed.{Passed}
use Rattle.rules.specs.declared.kinds.Passed.TheVariants.{Expression as expression_of_code, Command as a_command}
use Rattle.reader.specs.Pack.{packed_kind}
use Rattle.reader.specs.Stored.{StoredCommand, StoredRoot, root_expression, root_command, root_absent, RootAt}
use Rattle.reader.proofs.StandingLaws.{absent_root}
use Rattle.reader.specs.NodeKinds.{Known}
use Rattle.reader.proofs.NodeKindLaws.{expression_known, command_known, expression_is, command_is}
use Rattle.typing.specs.Rows.{ScopeAt, no_rows}
use Rattle.typing.specs.Answers.{code_answer, fine_answer, ExpressionAt, ExpressionJudgedAt}
use Rattle.checker.specs.Commands.{CommandAt, CommandJudgedAt, root_answer, RootJudgedAt}
use Rattle.std.specs.Prelude.{Result, Ok, Err}
use Rattle.rules.specs.declared.refusals.Refused.{Refused}
use Rattle.typing.proofs.laws.codes.AnswerLaws.{then_fault, then_code, then_done, then_inverse}
use Rattle.typing.proofs.laws.expressions.CodeRangeLaws.{code_low}

-- Before any declaration the scope is the registers.
pub register_scope_at : (words : List ℕ) (registers : ℕ) → ScopeAt words registers 0 (register_scope registers)
register_scope_at words registers = record { own = []; rows = no_rows; whole = refl }

-- ---- With no node the root is absent.

pub absent_judged : (words : List ℕ) (registers nodes : ℕ) → nodes ≡ 0 → RootJudgedAt words registers nodes (Ok a_command)
unfolding root_is
absent_judged words registers nodes none t at = ap (λ u. root_answer (root_is (register_scope registers) u)) (sym (absent_root none at))

-- ---- With a node its kind tells what the root is.

-- With a node some kind is known there.
pub root_known : (words : List ℕ) (nodes : ℕ) → (nodes ≡ 0 → ⊥) → ((t : Root) × RootAt words nodes t) → Known (get_or words 0 0)
root_known words nodes some t = by some t.1.stored
  where
    by : {d j : ℕ} {t : Root} → (j ≡ 0 → ⊥) → StoredRoot words d 0 j t → Known (get_or words 0 0)
    by q (root_expression s) = expression_known s
    by q (root_command s) = command_known s
    by q root_absent = absurd (q refl)

module _ (words : List ℕ) (nodes : ℕ) (some : nodes ≡ 0 → ⊥) (k : Kind) (known : kind_number k ≡ packed_kind (get_or words 0 0)) where
  no_command : (x : ExpressionKind) → k ≡ expression_kind x → {d j : ℕ} {c : Command} → StoredCommand words d 0 j c → ⊥
  no_command x is s = let told = command_is k s known in cc

  pub expression_root : (x : ExpressionKind) → k ≡ expression_kind x → ((t : Root) × RootAt words nodes t) → (e : Expression) × ExpressionAt words 0 e
  expression_root x is t = by some t.1.stored
    where
      by : {d j : ℕ} {t : Root} → (j ≡ 0 → ⊥) → StoredRoot words d 0 j t → (e : Expression) × ExpressionAt words 0 e
      by {d = d} {j = j} q (root_expression {e = e} s) = (e, record { depth = d; next = j; stored = s })
      by q (root_command s) = absurd (no_command x is s)
      by q root_absent = absurd (q refl)

  pub command_root : ((x : ExpressionKind) → k ≡ expression_kind x → ⊥) → ((t : Root) × RootAt words nodes t) → (c : Command) × CommandAt words 0 c
  command_root other t = by some t.1.stored
    where
      by : {d j : ℕ} {t : Root} → (j ≡ 0 → ⊥) → StoredRoot words d 0 j t → (c : Command) × CommandAt words 0 c
      by q (root_expression s) = absurd (other _ (expression_is k s known))
      by {d = d} {j = j} q (root_command {c = c} s) = (c, record { depth = d; next = j; stored = s })
      by q root_absent = absurd (q refl)

  module _ (registers : ℕ) (x : ExpressionKind) (is : k ≡ expression_kind x) (one : Result ℕ Refused) (judged : ExpressionJudgedAt words registers 0 0 one) where
    of_expression : (r : Result Passed Refused) → ((e : Expression) → one ≡ code_answer (expression_code (register_scope registers) e) →
        r ≡ root_answer (expression_code (register_scope registers) e >>= λ c. fine (expression_of_code c))) → RootJudgedAt words registers nodes r
    unfolding root_is
    of_expression r done t at = by some at.stored
      where
        by : {d j : ℕ} {t : Root} → (j ≡ 0 → ⊥) → StoredRoot words d 0 j t → r ≡ root_answer (root_is (register_scope registers) t)
        by {d = d} {j = j} q (root_expression {e = e} s) = done e (judged e (register_scope registers) (record { depth = d; next = j; stored = s }) (register_scope_at words registers))
        by q (root_command s) = absurd (no_command x is s)
        by q root_absent = absurd (q refl)

    pub expression_fails : (x : Refused) → one ≡ Err x → (r : Result Passed Refused) → r ≡ Err x → RootJudgedAt words registers nodes r
    expression_fails x q r stays =
        of_expression r (λ e g. then_fault (λ c. c) (λ c. c) (expression_code (register_scope registers) e) (λ c. fine (expression_of_code c)) one r x g q stays)

    pub expression_passes : (c : ℕ) → one ≡ Ok c → RootJudgedAt words registers nodes (Ok (expression_of_code c))
    expression_passes c q =
        of_expression (Ok (expression_of_code c)) (λ e g. then_code (λ c. c) (expression_code (register_scope registers) e) (λ c. fine (expression_of_code c)) one (Ok (expression_of_code c)) c g q refl)

  module _ (registers : ℕ) (other : (x : ExpressionKind) → k ≡ expression_kind x → ⊥) (one : Result (Unit {0}) Refused) (judged : CommandJudgedAt words registers 0 0 one) where
    of_command : (r : Result Passed Refused) → ((c : Command) → one ≡ fine_answer (command_ok (register_scope registers) c) →
        r ≡ root_answer (command_ok (register_scope registers) c >>= λ done. fine a_command)) → RootJudgedAt words registers nodes r
    unfolding root_is
    of_command r done t at = by some at.stored
      where
        by : {d j : ℕ} {t : Root} → (j ≡ 0 → ⊥) → StoredRoot words d 0 j t → r ≡ root_answer (root_is (register_scope registers) t)
        by q (root_expression s) = absurd (other _ (expression_is k s known))
        by {d = d} {j = j} q (root_command {c = c} s) = done c (judged c (register_scope registers) (record { depth = d; next = j; stored = s }) (register_scope_at words registers))
        by q root_absent = absurd (q refl)

    pub command_fails : (x : Refused) → one ≡ Err x → (r : Result Passed Refused) → r ≡ Err x → RootJudgedAt words registers nodes r
    command_fails x q r stays = of_command r (λ c g. then_fault (λ done. tt) (λ c. c) (command_ok (register_scope registers) c) (λ done. fine a_command) one r x g q stays)

    pub command_passes : (u : Unit {0}) → one ≡ Ok u → RootJudgedAt words registers nodes (Ok a_command)
    command_passes u q = of_command (Ok a_command) (λ c g. then_done (λ c. c) (command_ok (register_scope registers) c) (fine a_command) one (Ok a_command) u g q refl)

-- A command has no code.
no_code : (c : ℕ) → ◌≡◌ {A = Judged Passed} (fine a_command) (fine (expression_of_code c)) → ⊥
no_code c h = cc

-- The code of a root that is an expression is a type code.
pub root_code_low : (registers : ℕ) (t : Root) (c : ℕ) → root_is (register_scope registers) t ≡ fine (expression_of_code c) → c < codes
unfolding root_is
root_code_low registers (Tree.expression e) c q =
    let inside = then_inverse (expression_code (register_scope registers) e) (λ k. fine (expression_of_code k)) (expression_of_code c) q in
    subst (λ k. k < codes) (same_code inside.0 c inside.2) (code_low (register_scope_at [] registers) e inside.0 inside.1)
  where
    same_code : (k c : ℕ) → ◌≡◌ {A = Judged Passed} (fine (expression_of_code k)) (fine (expression_of_code c)) → k ≡ c
    same_code k c h = cc
root_code_low registers (Tree.command k) c q =
    absurd (no_code c (then_inverse (command_ok (register_scope registers) k) (λ done. fine a_command) (expression_of_code c) q).2)
root_code_low registers Tree.absent c q = absurd (no_code c q)
