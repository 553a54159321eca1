-- Assign: the value, the name, whether it is assignable, and the codes.
use Prim.Native.Nat.{ℕ, ◌+◌}
use mathlib.Core.Path.{◌≡◌, ◌∙◌, subst}
use mathlib.Core.List.{List}
use native.Mathlib.Omega.{arith}
use lib.ListN.{get_or}
use Rattle.rules.specs.paper.Checker.{Meaning, Scope, Judged, ◌>>=◌, Fine, meaning_of, bound_name, assignable, same_code, expression_code, command_ok}
use Rattle.reader.specs.Pack.{packed_operand}
use Rattle.reader.proofs.StoredFields.{operand_is}
use Rattle.typing.specs.Rows.{meaning_number, ScopeAt}
use Rattle.typing.specs.Answers.{code_answer, fine_answer, meaning_answer, Numbered, ExpressionJudgedAt}
use Rattle.checker.specs.Commands.{AssignJudgedAt}
use Rattle.std.specs.Prelude.{Result, Ok, Err}
use Rattle.rules.specs.declared.refusals.Refused.{Refused}
use Rattle.typing.proofs.laws.codes.AnswerLaws.{then_fault, then_fine, then_code}
use Rattle.typing.proofs.laws.expressions.NameLaws.{scope_numbered}

unfoldable after_meaning : (p c : ℕ) → Meaning → Judged Fine
after_meaning p c m = assignable p m >>= λ w. same_code p w c

unfoldable after_value : (p x : ℕ) → Scope → (c : ℕ) → Judged Fine
after_value p x Γ c = bound_name p (meaning_of x Γ) >>= after_meaning p c

module _ (words : List ℕ) (registers scope node : ℕ) (given : Result ℕ Refused) (value : ExpressionJudgedAt words registers scope (node + 1) given) where
  pub assign_value_fault : (y : Refused) → given ≡ Err y → (r : Result (Unit {0}) Refused) → r ≡ Err y → AssignJudgedAt words registers scope node r
  unfolding command_ok after_value after_meaning
  assign_value_fault y q r stays x e Γ a s = then_fault (λ c. c) (λ done. tt) (expression_code Γ e) (after_value node x Γ) given r y (value e Γ a.value s) q stays

  module _ (c name : ℕ) (got : given ≡ Ok c) (name_known : name ≡ packed_operand (get_or words node 0)) (bound : Result ℕ Refused)
      (found : (Γ : Scope) → ScopeAt words registers scope Γ → bound ≡ meaning_answer (bound_name node (meaning_of name Γ))) where
    after : (r : Result (Unit {0}) Refused) → ((x : ℕ) (Γ : Scope) → bound ≡ meaning_answer (bound_name node (meaning_of x Γ)) → ScopeAt words registers scope Γ → r ≡ fine_answer (after_value node x Γ c)) →
        AssignJudgedAt words registers scope node r
    unfolding command_ok after_value after_meaning
    after r done x e Γ a s =
        then_code (λ done. tt) (expression_code Γ e) (after_value node x Γ) given r c (value e Γ a.value s) got
        (done x Γ (subst (λ y. bound ≡ meaning_answer (bound_name node (meaning_of y Γ))) (name_known ∙ operand_is a.word (omega arith)) (found Γ s)) s)

    pub assign_name_fault : (y : Refused) → bound ≡ Err y → (r : Result (Unit {0}) Refused) → r ≡ Err y → AssignJudgedAt words registers scope node r
    assign_name_fault y q r stays = after r (λ x Γ b s. unfold after_value in (then_fault meaning_number (λ done. tt) (bound_name node (meaning_of x Γ)) (after_meaning node c) bound r y b q stays))

    module _ (number : ℕ) (target : Result ℕ Refused) (known : bound ≡ Ok number) (takes : (m : Meaning) → Numbered number m → target ≡ code_answer (assignable node m)) where
      next : (r : Result (Unit {0}) Refused) → ((m : Meaning) → target ≡ code_answer (assignable node m) → r ≡ fine_answer (after_meaning node c m)) → AssignJudgedAt words registers scope node r
      next r done =
          after r
          (λ x Γ b s. unfold after_value in
          (then_fine meaning_number (λ done. tt) (bound_name node (meaning_of x Γ)) (after_meaning node c) bound r number b known
          (λ m meant q. done m (takes m (subst (λ k. Numbered k m) q (scope_numbered words registers scope node x Γ m s meant))))))

      pub assign_target_fault : (y : Refused) → target ≡ Err y → (r : Result (Unit {0}) Refused) → r ≡ Err y → AssignJudgedAt words registers scope node r
      assign_target_fault y q r stays = next r (λ m t. unfold after_meaning in (then_fault (λ w. w) (λ done. tt) (assignable node m) (λ w. same_code node w c) target r y t q stays))

      pub assign_same : (w : ℕ) (r : Result (Unit {0}) Refused) → target ≡ Ok w → r ≡ fine_answer (same_code node w c) → AssignJudgedAt words registers scope node r
      assign_same w r q done = next r (λ m t. unfold after_meaning in (then_code (λ done. tt) (assignable node m) (λ w. same_code node w c) target r w t q done))
