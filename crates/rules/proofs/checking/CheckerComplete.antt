-- What the rules of Typing.antt derive, the checker passes with the same code: one half of CheckerExact.antt.
use Rattle.std.specs.Prelude.{ℕ, zero, suc, ◌≤◌, ◌<◌, ◌≡◌, refl, Bool, true, false, cond, ◌||◌, List, [], ◌∷◌, ◌++◌, T, eqb, ltb}
use Rattle.std.proofs.Common.{zero-le, suc-le-suc, sym, ap, ◌∙◌, subst, le_of_suc-le-suc, not-suc-le-zero, eqb→eq, lt→ltb}
use Rattle.std.proofs.Math.Option.{Option, none, some}
use Rattle.std.proofs.Math.Dec.{eqb_refl}
use Rattle.rules.proofs.Basics.{false_test, or_cases, true_test}
use Rattle.rules.specs.paper.Tree.{Operator, arithmetic, Eq, order, logic, Expression, Formal, Command, Block, Declaration, Bound}
use Rattle.rules.specs.paper.Limits.{plain_codes}
use Rattle.rules.specs.paper.Checker.{Meaning, code, function, Named, Scope, meaning_of, Judged, fault, fine, ◌>>=◌, bound_name, id_code, deref_code, operator_code, expression_code, assignable, Fine, ok, same_code, expression_codes, same_count, same_codes, has_name, shares_name, distinct, with_formals, ref_code, command_ok, block_ok, declaration_gives, bound_means}
use Rattle.rules.specs.claims.Typing.{HasCode, ActualsFit, no_actuals, actual, Declares, here, there, Distinct, CommandOk, BlockOk, Gives, Means}
use Rattle.rules.specs.claims.Typing as Typing

-- Two answers, one after the other.
then_fine : {A B : Type 0} (m : Judged A) (a : A) (f : A → Judged B) → m ≡ fine a → m >>= f ≡ f a
then_fine m a f q = ap (λ j. j >>= f) q

low : (P : ℕ → Type 0) → P 0 → P 1 → (c : ℕ) → c < 2 → P c
low P z o zero h = z
low P z o (suc zero) h = o
low P z o (suc (suc c)) h = absurd (not-suc-le-zero (le_of_suc-le-suc (le_of_suc-le-suc h)))

deref_fine : (p c : ℕ) → 2 ≤ c → deref_code p (code c) ≡ fine c
deref_fine p zero h = absurd (not-suc-le-zero h)
deref_fine p (suc zero) h = absurd (not-suc-le-zero (le_of_suc-le-suc h))
deref_fine p (suc (suc c)) h = refl

ref_fine : (p c : ℕ) → c ≤ 5 → ref_code p c ≡ fine (code (suc (suc c)))
ref_fine p zero h = refl
ref_fine p (suc zero) h = refl
ref_fine p (suc (suc zero)) h = refl
ref_fine p (suc (suc (suc zero))) h = refl
ref_fine p (suc (suc (suc (suc zero)))) h = refl
ref_fine p (suc (suc (suc (suc (suc zero))))) h = refl
ref_fine p (suc (suc (suc (suc (suc (suc c)))))) h =
    absurd (not-suc-le-zero (le_of_suc-le-suc (le_of_suc-le-suc (le_of_suc-le-suc (le_of_suc-le-suc (le_of_suc-le-suc h))))))

same_fine : (p c : ℕ) → same_code p c c ≡ fine ok
same_fine p c = rw (true_test (eqb c c) (eqb_refl c))

pub expression_fine : (Γ : Scope) (e : Expression) (c : ℕ) → HasCode Γ e c → expression_code Γ e ≡ fine c
unfolding expression_code
expression_fine Γ e c Typing.num = refl
expression_fine Γ e c Typing.boo = refl
expression_fine Γ e c (Typing.id_plain {p = p} {c = d} h q) = rw q (low (λ k. id_code p (code k) ≡ fine k) refl refl d h)
expression_fine Γ e c (Typing.id_cell q) = rw q
expression_fine Γ e c (Typing.deref {p = p} {c = d} h q) = rw q (deref_fine p d h)
expression_fine Γ e c (Typing.valref q) = rw q
expression_fine Γ e c (Typing.arithmetic_of {e₁ = e₁} {e₂ = e₂} h k) = rw (expression_fine Γ e₁ 0 h, expression_fine Γ e₂ 0 k)
expression_fine Γ e c (Typing.order_of {e₁ = e₁} {e₂ = e₂} h k) = rw (expression_fine Γ e₁ 0 h, expression_fine Γ e₂ 0 k)
expression_fine Γ e c (Typing.equal_of {p = p} {c = d} {e₁ = e₁} {e₂ = e₂} l h k) =
    rw (expression_fine Γ e₁ d h, expression_fine Γ e₂ d k) (low (λ j. operator_code Eq p j j ≡ fine 1) refl refl d l)
expression_fine Γ e c (Typing.logic_of {e₁ = e₁} {e₂ = e₂} h k) = rw (expression_fine Γ e₁ 1 h, expression_fine Γ e₂ 1 k)
expression_fine Γ e c (Typing.not_of {e = d} h) = rw (expression_fine Γ d 1 h)

-- The codes of Formals.
codes_of : List Formal → List ℕ
codes_of [] = []
codes_of (f ∷ fs) = f.code ∷ codes_of fs

actuals_fine : (Γ : Scope) (es : List Expression) (fs : List Formal) → ActualsFit Γ es fs → expression_codes Γ es ≡ fine (codes_of fs)
unfolding expression_codes codes_of
actuals_fine Γ es fs no_actuals = refl
actuals_fine Γ es fs (actual {e = e} {es = is} {f = f} {fs = gs} h k) = rw (expression_fine Γ e f.code h, actuals_fine Γ is gs k)

count_fine : (p : ℕ) (fs : List Formal) → same_count p fs (codes_of fs) ≡ fine ok
unfolding codes_of
count_fine p [] = refl
count_fine p (f ∷ fs) = count_fine p fs

codes_fine : (p : ℕ) (fs : List Formal) → same_codes p fs (codes_of fs) ≡ fine ok
unfolding codes_of
codes_fine p [] = refl
codes_fine p (f ∷ fs) = rw (same_fine p f.code) (codes_fine p fs)

tests_declared : (x : ℕ) (Γ : Scope) → T (has_name x Γ) → Declares x Γ
unfolding has_name
tests_declared x [] h = absurd h
tests_declared x (n ∷ Γ) h = or_cases (eqb n.name x) (has_name x Γ) h (λ t. here (eqb→eq n.name x t)) (λ t. there (tests_declared x Γ t))

tests_shared : (Δ Γ : Scope) → T (shares_name Δ Γ) → (x : ℕ) × Declares x Δ × Declares x Γ
unfolding shares_name
tests_shared [] Γ h = absurd h
tests_shared (n ∷ Δ) Γ h =
    or_cases (has_name n.name Γ) (shares_name Δ Γ) h
    (λ t. (n.name, here refl, tests_declared n.name Γ t))
    (λ t. let s = tests_shared Δ Γ t in (s.0, there s.1, s.2))

distinct_fine : (seen : Scope) (fs : List Formal) → Distinct seen fs → distinct seen fs ≡ fine ok
unfolding distinct
distinct_fine seen fs Typing.no_formals = refl
distinct_fine seen fs (Typing.formal {f = f} {fs = gs} h k) =
    rw (false_test (has_name f.name seen) (λ t. h (tests_declared f.name seen t)))
    (distinct_fine (record { name = f.name; meaning = code f.code } ∷ seen) gs k)

assign_fine : (p c : ℕ) → c < plain_codes → (assignable p (code (suc (suc c))) >>= λ wanted. same_code p wanted c) ≡ fine ok
assign_fine p c h = rw (true_test (ltb c plain_codes) (lt→ltb c plain_codes h)) (same_fine p c)

mutual
  unfolding command_ok

  pub command_fine : {Γ : Scope} {c : Command} → CommandOk Γ c → command_ok Γ c ≡ fine ok
  command_fine (Typing.assign {Γ = Γ} {p = p} {c = c} {e = e} h l q) = rw (expression_fine Γ e c h, q) (assign_fine p c l)
  command_fine (Typing.loop {Γ = Γ} {e = e} {c = c} h k) = rw (expression_fine Γ e 1 h, command_fine k)
  command_fine (Typing.cseq h k) = rw (command_fine h) (command_fine k)
  command_fine (Typing.block_of h) = block_fine h
  command_fine (Typing.call {Γ = Γ} {p = p} {es = es} {fs = fs} h q) =
      rw (actuals_fine Γ es fs h, q, count_fine p fs) (codes_fine p fs)
  command_fine (Typing.conditional {Γ = Γ} {e = e} h k₁ k₂) = rw (expression_fine Γ e 1 h, command_fine k₁, command_fine k₂)

  pub block_fine : {Γ : Scope} {b : Block} → BlockOk Γ b → block_ok Γ b ≡ fine ok
  block_fine (Typing.blk h k) = rw (declaration_fine h) (command_fine k)

  pub declaration_fine : {Γ Δ : Scope} {d : Declaration} → Gives Γ d Δ → declaration_gives Γ d ≡ fine Δ
  declaration_fine (Typing.bind h q) = rw (bound_fine h) (ap {B = Judged Scope} fine (sym q))
  declaration_fine (Typing.dseq {Δ₁ = Δ₁} {Δ₂ = Δ₂} h k apart q) =
      rw (declaration_fine h, declaration_fine k, false_test (shares_name Δ₁ Δ₂) (λ t. let s = tests_shared Δ₁ Δ₂ t in apart s.0 s.1 s.2))
      (ap {B = Judged Scope} fine (sym q))

  pub bound_fine : {Γ : Scope} {b : Bound} {m : Meaning} → Means Γ b m → bound_means Γ b ≡ fine m
  bound_fine (Typing.plain_of {Γ = Γ} {e = e} {c = c} h) = rw (expression_fine Γ e c h)
  bound_fine (Typing.ref {Γ = Γ} {p = p} {c = c} {e = e} h l) = rw (expression_fine Γ e c h) (ref_fine p c l)
  bound_fine (Typing.abs {fs = fs} h k) = rw (distinct_fine [] fs h, block_fine k)
