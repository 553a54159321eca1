-- Cond: where its test and its two commands stand, and what it is judged from their judgements.
use Prim.Native.Nat.{ℕ, zero, suc, ◌+◌, ◌<◌}
use mathlib.Core.Path.{◌≡◌, sym, ap, ◌∙◌, subst}
use mathlib.Core.List.{List}
use native.Mathlib.Omega.{arith}
use lib.ListN.{get_or}
use Rattle.rules.specs.paper.Limits.{most_nodes}
use Rattle.rules.specs.paper.Tree.{Expression, Command, Cond}
use Rattle.rules.specs.paper.Checker.{Scope, Judged, Fine, ◌>>=◌, ok, same_code, truth_only, expression_code, command_ok}
use Rattle.reader.specs.Pack.{packed_end}
use Rattle.reader.specs.Stored.{StoredExpression, StoredCommand}
use Rattle.reader.specs.Stored as Stored
use Rattle.reader.proofs.StandingLaws.{expression_on, expression_end, command_on, command_end, after_node}
use Rattle.typing.specs.Rows.{ScopeAt}
use Rattle.typing.specs.Answers.{fine_answer, ExpressionAt, ExpressionJudgedAt}
use Rattle.checker.specs.Commands.{WritesRowsFrom, CommandAt, CommandJudgedAt, ConditionalJudgedAt}
use Rattle.std.specs.Prelude.{Result, Ok, Err}
use Rattle.rules.specs.declared.refusals.Refused.{Refused}
use Rattle.typing.proofs.laws.codes.AnswerLaws.{then_fault, then_fine, then_code, truth_fine}
use Rattle.checker.proofs.laws.commands.KeptLaws.{kept_end}
use Rattle.checker.proofs.laws.commands.CommandLaws.{second_place}

-- The node after the second child and its descendants.
abbrev pub third_place : List ℕ → ℕ → ℕ
third_place words node = packed_end (get_or words (second_place words node) 0)

-- ---- Where its children stand.

pub record ConditionalParts (words : List ℕ) (node : ℕ) (e : Expression) (c₁ c₂ : Command) : Type 0 where
  pub test : ExpressionAt words (node + 1) e
  pub first : CommandAt words (second_place words node) c₁
  pub second : CommandAt words (third_place words node) c₂
  pub first_after : node < second_place words node
  pub second_after : second_place words node < third_place words node

pub conditional_parts : (words : List ℕ) (node : ℕ) (e : Expression) (c₁ c₂ : Command) → CommandAt words node (Cond node e c₁ c₂) → ConditionalParts words node e c₁ c₂
conditional_parts words node e c₁ c₂ at = by at.stored
  where
    by : {d l m : ℕ} → StoredCommand words d node l (Cond m e c₁ c₂) → ConditionalParts words node e c₁ c₂
    by {d = zero} {l = l} x = elim x [ ]
    by {d = suc d} (Stored.conditional {j = j} {k = k} {l = l} h a b c) =
        let test : StoredExpression words d (node + 1) j e = subst (λ i. StoredExpression words d i j e) (after_node node) a in
        let end : second_place words node ≡ j = expression_end test in
        let first : StoredCommand words d (second_place words node) k c₁ = subst (λ i. StoredCommand words d i k c₁) (sym end) b in
        let later : third_place words node ≡ k = command_end first in
        record {
          test = record { depth = d; next = j; stored = test };
          first = record { depth = d; next = k; stored = first };
          second = record { depth = d; next = l; stored = subst (λ i. StoredCommand words d i l c₂) (sym later) c };
          first_after = subst (λ i. node < i) (sym end) (omega (arith, expression_on a));
          second_after = subst (λ i. second_place words node < i) (sym later) (command_on first);
        }

-- The second command's place, where rows were written while the first was judged.
pub second_found : {words words' : List ℕ} {low : ℕ} (node where_true where_false : ℕ) → WritesRowsFrom words words' low → where_true ≡ second_place words node →
    second_place words node < most_nodes → where_false ≡ packed_end (get_or words' where_true 0) → where_false ≡ third_place words node
second_found {words} {words'} node where_true where_false kept end low later =
    later ∙ ap (λ i. packed_end (get_or words' i 0)) end ∙ kept_end (second_place words node) kept low

-- ---- What it is judged.

module _ (words : List ℕ) (registers scope node : ℕ) (test : Result ℕ Refused) (tested : ExpressionJudgedAt words registers scope (node + 1) test) where
  abbrev Judges : Result (Unit {0}) Refused → Type 0
  Judges r = ConditionalJudgedAt words registers scope node r

  abbrev after_first : Scope → Command → ℕ → Judged Fine
  after_first Γ c₂ t = command_ok Γ c₂ >>= λ second. truth_only node ok t

  abbrev after_test : Scope → (c₁ c₂ : Command) → ℕ → Judged Fine
  after_test Γ c₁ c₂ t = command_ok Γ c₁ >>= λ first. after_first Γ c₂ t

  pub conditional_test_fault : (x : Refused) → test ≡ Err x → (r : Result (Unit {0}) Refused) → r ≡ Err x → Judges r
  unfolding command_ok
  conditional_test_fault x q r stays e c₁ c₂ Γ at s =
      then_fault (λ t. t) (λ done. tt) (expression_code Γ e) (after_test Γ c₁ c₂) test r x (tested e Γ (conditional_parts words node e c₁ c₂ at).test s) q stays

  module _ (t where_true : ℕ) (first : Result (Unit {0}) Refused) (got : test ≡ Ok t) (end : where_true ≡ second_place words node) (judged : CommandJudgedAt words registers scope where_true first) where
    of_first : (r : Result (Unit {0}) Refused) → ((c₁ c₂ : Command) (Γ : Scope) → first ≡ fine_answer (command_ok Γ c₁) → CommandAt words (third_place words node) c₂ → ScopeAt words registers scope Γ →
        r ≡ fine_answer (after_test Γ c₁ c₂ t)) → Judges r
    unfolding command_ok
    of_first r done e c₁ c₂ Γ at s =
        let parts = conditional_parts words node e c₁ c₂ at in
        then_code (λ done. tt) (expression_code Γ e) (after_test Γ c₁ c₂) test r t (tested e Γ parts.test s) got
        (done c₁ c₂ Γ (judged c₁ Γ (subst (λ i. CommandAt words i c₁) (sym end) parts.first) s) parts.second s)

    pub conditional_first_fault : (x : Refused) → first ≡ Err x → (r : Result (Unit {0}) Refused) → r ≡ Err x → Judges r
    conditional_first_fault x q r stays =
        of_first r (λ c₁ c₂ Γ b a s. then_fault (λ done. tt) (λ done. tt) (command_ok Γ c₁) (λ done. after_first Γ c₂ t) first r x b q stays)

    module _ (z : Unit {0}) (where_false : ℕ) (second : Result (Unit {0}) Refused) (fine : first ≡ Ok z) (later : where_false ≡ third_place words node) (judged₂ : CommandJudgedAt words registers scope where_false second) where
      of_second : (r : Result (Unit {0}) Refused) → ((c₂ : Command) (Γ : Scope) → second ≡ fine_answer (command_ok Γ c₂) → r ≡ fine_answer (after_first Γ c₂ t)) → Judges r
      of_second r done =
          of_first r
          (λ c₁ c₂ Γ b a s.
          then_fine (λ done. tt) (λ done. tt) (command_ok Γ c₁) (λ done. after_first Γ c₂ t) first r z b fine
          (λ a' k e. done c₂ Γ (judged₂ c₂ Γ (subst (λ i. CommandAt words i c₂) (sym later) a) s)))

      pub conditional_second_fault : (x : Refused) → second ≡ Err x → (r : Result (Unit {0}) Refused) → r ≡ Err x → Judges r
      conditional_second_fault x q r stays = of_second r (λ c₂ Γ b. then_fault (λ done. tt) (λ done. tt) (command_ok Γ c₂) (λ done. truth_only node ok t) second r x b q stays)

      pub conditional_fine : (z : Unit {0}) (r : Result (Unit {0}) Refused) → second ≡ Ok z → r ≡ fine_answer (same_code node 1 t) → Judges r
      conditional_fine z r q done =
          of_second r (λ c₂ Γ b. then_fine (λ done. tt) (λ done. tt) (command_ok Γ c₂) (λ done. truth_only node ok t) second r z b q (λ a k e. done ∙ truth_fine node t))
