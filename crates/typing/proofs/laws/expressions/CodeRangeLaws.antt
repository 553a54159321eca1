-- Every expression's code is a type code.
use Prim.Native.Nat.{ℕ, zero, suc, ◌<◌}
use mathlib.Core.Path.{◌≡◌, refl, subst}
use mathlib.Core.List.{List}
use native.Mathlib.Omega.{arith}
use Rattle.rules.specs.paper.Limits.{codes}
use Rattle.rules.specs.paper.Tree.{Expression, Num, Boo, Id, DeRef, ValRef, Binary, Not}
use Rattle.rules.specs.declared.kinds.Operator.{Operator}
use Rattle.rules.specs.declared.kinds.Operator.TheVariants.{Arithmetic as arithmetic, Eq, Order as order, Logic as logic}
use Rattle.rules.specs.paper.Checker.{Meaning, code, function, Scope, Judged, fault, fine, ◌>>=◌, meaning_of, bound_name, id_code, deref_code, valref_code, integers_give, truths_give, equals_give, operator_code, truth_only, expression_code}
use Rattle.typing.specs.Rows.{meaning_number, ScopeAt}
use Rattle.typing.specs.Answers.{code_answer, Numbered, numbered_code, ExpressionAt, ExpressionJudgedAt}
use Rattle.std.specs.Prelude.{Result, Ok}
use Rattle.rules.specs.declared.refusals.Refused.{Refused}
use Rattle.typing.proofs.laws.codes.AnswerLaws.{two_answers, same_ok, no_fault, same_fine, then_inverse}
use Rattle.typing.proofs.laws.expressions.NameLaws.{scope_numbered}

code_below : {n c : ℕ} → Numbered n (code c) → c < codes
code_below (numbered_code l) = l

id_low : (p : ℕ) (m : Meaning) (c : ℕ) → Numbered (meaning_number m) m → id_code p m ≡ fine c → c < codes
id_low p (code zero) c h q = omega (arith, same_fine 0 c q)
id_low p (code (suc zero)) c h q = omega (arith, same_fine 1 c q)
id_low p (code (suc (suc k))) c h q = omega (arith, code_below h, same_fine k c q)
id_low p (function fs) c h q = absurd (no_fault _ p c q)

deref_low : (p : ℕ) (m : Meaning) (c : ℕ) → Numbered (meaning_number m) m → deref_code p m ≡ fine c → c < codes
deref_low p (code zero) c h q = absurd (no_fault _ p c q)
deref_low p (code (suc zero)) c h q = absurd (no_fault _ p c q)
deref_low p (code (suc (suc k))) c h q = omega (arith, code_below h, same_fine (suc (suc k)) c q)
deref_low p (function fs) c h q = absurd (no_fault _ p c q)

valref_low : (p : ℕ) (m : Meaning) (c : ℕ) → Numbered (meaning_number m) m → valref_code p m ≡ fine c → c < codes
valref_low p (code zero) c h q = absurd (no_fault _ p c q)
valref_low p (code (suc zero)) c h q = absurd (no_fault _ p c q)
valref_low p (code (suc (suc zero))) c h q = absurd (no_fault _ p c q)
valref_low p (code (suc (suc (suc zero)))) c h q = absurd (no_fault _ p c q)
valref_low p (code (suc (suc (suc (suc k))))) c h q = omega (arith, code_below h, same_fine k c q)
valref_low p (function fs) c h q = absurd (no_fault _ p c q)

integers_low : (r p a b c : ℕ) → r < codes → integers_give r p a b ≡ fine c → c < codes
integers_low r p zero zero c l q = omega (arith, l, same_fine r c q)
integers_low r p zero (suc b) c l q = absurd (no_fault _ p c q)
integers_low r p (suc a) b c l q = absurd (no_fault _ p c q)

truths_low : (p a b c : ℕ) → truths_give p a b ≡ fine c → c < codes
truths_low p zero b c q = absurd (no_fault _ p c q)
truths_low p (suc zero) zero c q = absurd (no_fault _ p c q)
truths_low p (suc zero) (suc zero) c q = omega (arith, same_fine 1 c q)
truths_low p (suc zero) (suc (suc b)) c q = absurd (no_fault _ p c q)
truths_low p (suc (suc a)) b c q = absurd (no_fault _ p c q)

equals_low : (p a b c : ℕ) → equals_give p a b ≡ fine c → c < codes
equals_low p zero zero c q = omega (arith, same_fine 1 c q)
equals_low p zero (suc b) c q = absurd (no_fault _ p c q)
equals_low p (suc zero) zero c q = absurd (no_fault _ p c q)
equals_low p (suc zero) (suc zero) c q = omega (arith, same_fine 1 c q)
equals_low p (suc zero) (suc (suc b)) c q = absurd (no_fault _ p c q)
equals_low p (suc (suc a)) b c q = absurd (no_fault _ p c q)

operator_low : (o : Operator) (p a b c : ℕ) → operator_code o p a b ≡ fine c → c < codes
operator_low (arithmetic o) p a b c q = integers_low 0 p a b c (omega arith) q
operator_low Eq p a b c q = equals_low p a b c q
operator_low (order o) p a b c q = integers_low 1 p a b c (omega arith) q
operator_low (logic o) p a b c q = truths_low p a b c q

truth_low : (p a c : ℕ) → truth_only p 1 a ≡ fine c → c < codes
truth_low p zero c q = absurd (no_fault _ p c q)
truth_low p (suc zero) c q = omega (arith, same_fine 1 c q)
truth_low p (suc (suc a)) c q = absurd (no_fault _ p c q)

pub code_low : {words : List ℕ} {registers scope : ℕ} {Γ : Scope} → ScopeAt words registers scope Γ → (e : Expression) (c : ℕ) → expression_code Γ e ≡ fine c → c < codes
unfolding expression_code
code_low s (Num p n) c q = omega (arith, same_fine 0 c q)
code_low s (Boo p b) c q = omega (arith, same_fine 1 c q)
code_low {words} {registers} {scope} {Γ} s (Id p x) c q =
    let t = then_inverse (bound_name p (meaning_of x Γ)) (id_code p) c q in
    id_low p t.0 c (scope_numbered words registers scope p x Γ t.0 s t.1) t.2
code_low {words} {registers} {scope} {Γ} s (DeRef p x) c q =
    let t = then_inverse (bound_name p (meaning_of x Γ)) (deref_code p) c q in
    deref_low p t.0 c (scope_numbered words registers scope p x Γ t.0 s t.1) t.2
code_low {words} {registers} {scope} {Γ} s (ValRef p x) c q =
    let t = then_inverse (bound_name p (meaning_of x Γ)) (valref_code p) c q in
    valref_low p t.0 c (scope_numbered words registers scope p x Γ t.0 s t.1) t.2
code_low {Γ = Γ} s (Binary p o e₁ e₂) c q =
    let t = then_inverse (expression_code Γ e₁) (λ a. expression_code Γ e₂ >>= λ b. operator_code o p a b) c q in
    let u = then_inverse (expression_code Γ e₂) (λ b. operator_code o p t.0 b) c t.2 in
    operator_low o p t.0 u.0 c u.2
code_low {Γ = Γ} s (Not p e) c q =
    let t = then_inverse (expression_code Γ e) (truth_only p 1) c q in
    truth_low p t.0 c t.2

-- So is the code of the expression that stands there.
pub judged_low : (words : List ℕ) (registers scope node : ℕ) → ((Γ : Scope) × ScopeAt words registers scope Γ) → ((e : Expression) × ExpressionAt words node e) → (one : Result ℕ Refused) →
    ExpressionJudgedAt words registers scope node one → (c : ℕ) → one ≡ Ok c → c < codes
judged_low words registers scope node s e one judged c q = by (expression_code s.0 e.0) refl (judged e.0 s.0 e.1 s.1)
  where
    by : (j : Judged ℕ) → expression_code s.0 e.0 ≡ j → one ≡ code_answer j → c < codes
    by (fault x p) known h = absurd (two_answers one c (record { refusal = x; place = p }) q h)
    by (fine d) known h = subst (λ k. k < codes) (same_ok one d c h q) (code_low s.1 e.0 d known)
