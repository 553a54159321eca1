-- An answer is what was asked or a refusal, and one only; what comes after each.
use Prim.Native.Nat.{ℕ, zero, suc}
use mathlib.Core.Path.{◌≡◌, refl, sym, ap, ◌∙◌, subst}
use native.Mathlib.Omega.{arith}
use lib.Dec.{T, eqb, eqb→eq, eqb_refl}
use Rattle.std.specs.Prelude.{Result, Ok, Err}
use Rattle.rules.proofs.Basics.{true_test, false_test}
use Rattle.rules.specs.declared.refusals.Refusal.TheVariants.{Mistyped}
use Rattle.rules.specs.Answers.{answer}
use Rattle.rules.specs.declared.refusals.Refusal.{Refusal}
use Rattle.rules.specs.declared.refusals.Refused.{Refused}
use Rattle.rules.specs.paper.Checker.{Judged, fault, fine, ◌>>=◌, Fine, ok, same_code, truth_only}
use Rattle.typing.specs.Answers.{code_answer, fine_answer}

pub two_answers : {A : Type 0} (r : Result A Refused) (a : A) (e : Refused) → r ≡ Ok a → r ≡ Err e → ⊥
two_answers r a e g h = cc

pub same_ok : {A : Type 0} (r : Result A Refused) (a b : A) → r ≡ Ok a → r ≡ Ok b → a ≡ b
same_ok r a b g h = cc

pub same_err : {A : Type 0} (r : Result A Refused) (e d : Refused) → r ≡ Err e → r ≡ Err d → e ≡ d
same_err r e d g h = cc

pub stays_as : {A : Type 0} (r s : Result A Refused) (e : Refused) → r ≡ Err e → s ≡ Err e → s ≡ r
stays_as r s e g h = cc

-- A refusal stays the refusal.
pub then_fault : {A B X Y : Type 0} (value : A → X) (value' : B → Y) (j : Judged A) (f : A → Judged B) (r : Result X Refused) (s : Result Y Refused) (e : Refused) →
    r ≡ answer value j → r ≡ Err e → s ≡ Err e → s ≡ answer value' (j >>= f)
then_fault value value' (fault x p) f r s e g h stays = stays ∙ ap Err (same_err r e (record { refusal = x; place = p }) h g)
then_fault value value' (fine a) f r s e g h stays = absurd (two_answers r (value a) e g h)

-- What was asked goes on.
pub then_fine : {A B X Y : Type 0} (value : A → X) (value' : B → Y) (j : Judged A) (f : A → Judged B) (r : Result X Refused) (s : Result Y Refused) (c : X) →
    r ≡ answer value j → r ≡ Ok c → ((a : A) → j ≡ fine a → value a ≡ c → s ≡ answer value' (f a)) → s ≡ answer value' (j >>= f)
then_fine value value' (fault x p) f r s c g h next = absurd (two_answers r c (record { refusal = x; place = p }) h g)
then_fine value value' (fine a) f r s c g h next = next a refl (same_ok r (value a) c g h)

-- A code goes on as itself.
pub then_code : {B Y : Type 0} (value' : B → Y) (j : Judged ℕ) (f : ℕ → Judged B) (r : Result ℕ Refused) (s : Result Y Refused) (c : ℕ) →
    r ≡ code_answer j → r ≡ Ok c → s ≡ answer value' (f c) → s ≡ answer value' (j >>= f)
then_code value' j f r s c g h next = then_fine (λ a. a) value' j f r s c g h (λ a known q. subst (λ b. s ≡ answer value' (f b)) (sym q) next)

-- What is fine goes on, whatever comes after.
pub then_done : {B Y : Type 0} (value' : B → Y) (j : Judged Fine) (f : Judged B) (r : Result (Unit {0}) Refused) (s : Result Y Refused) (u : Unit {0}) →
    r ≡ fine_answer j → r ≡ Ok u → s ≡ answer value' f → s ≡ answer value' (j >>= λ done. f)
then_done value' j f r s u g h next = then_fine (λ done. tt) value' j (λ done. f) r s u g h (λ a known q. next)

-- ---- Codes that have to be the same.

pub same_yes : (p a b : ℕ) → a ≡ b → same_code p a b ≡ fine ok
same_yes p a b q = rw (true_test (eqb a b) (subst (λ c. T (eqb a c)) q (eqb_refl a)))

pub same_no : (p a b : ℕ) → (a ≡ b → ⊥) → same_code p a b ≡ fault Mistyped p
same_no p a b f = rw (false_test (eqb a b) (λ t. f (eqb→eq a b t)))

-- So it is for a command.
pub truth_fine : (p t : ℕ) → fine_answer (same_code p 1 t) ≡ fine_answer (truth_only p ok t)
truth_fine p zero = ap fine_answer (same_no p 1 0 (λ q. omega (arith, q)))
truth_fine p (suc zero) = refl
truth_fine p (suc (suc t)) = ap fine_answer (same_no p 1 (suc (suc t)) (λ q. omega (arith, q)))

-- ---- Judgements that are fine.

pub no_fault : {A : Type 0} (r : Refusal) (p : ℕ) (a : A) → ◌≡◌ {A = Judged A} (fault r p) (fine a) → ⊥
no_fault r p a q = cc

pub same_fine : {A : Type 0} (a b : A) → ◌≡◌ {A = Judged A} (fine a) (fine b) → a ≡ b
same_fine a b q = cc

pub then_inverse : {A B : Type 0} (j : Judged A) (f : A → Judged B) (b : B) → (j >>= f) ≡ fine b → (a : A) × (j ≡ fine a) × (f a ≡ fine b)
then_inverse (fault r p) f b q = absurd (no_fault r p b q)
then_inverse (fine a) f b q = (a, refl, q)
