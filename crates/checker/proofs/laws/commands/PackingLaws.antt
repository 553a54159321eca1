-- Codes packed one after the other have room in a word, and two lots of as many codes are the same exactly when they pack into one number.
use Prim.Native.Nat.{ℕ, zero, suc, ◌+◌, ◌*◌, ◌-◌, ◌/◌, ◌%◌, ◌<◌, ◌≤◌}
use mathlib.Core.Path.{◌≡◌, refl, sym, ap, ◌∙◌, subst}
use mathlib.Core.Bool.{Bool, true, false}
use mathlib.Core.List.{List, [], ◌∷◌}
use native.Mathlib.Omega.{arith}
use lib.Dec.{T, eqb, eqb→eq, eqb_refl}
use lib.ListN.{length}
use Rattle.rules.specs.paper.Limits.{codes, most_parameters}
use Rattle.rules.specs.paper.Tree.{Formal}
use Rattle.rules.specs.paper.Checker.{Judged, fault, fine, ◌>>=◌, Fine, ok, same_code, same_codes}
use Rattle.typing.proofs.laws.codes.AnswerLaws.{same_yes, same_no}
use Rattle.checker.specs.Packing.{packed_onto, packed_codes, packed_last, packed_others, packings, AllCodes, formal_codes}

-- ---- How many are left in a loop over some.

pub some_left : (count at : ℕ) → at < count → count - at ≡ 0 → ⊥
some_left count at h q = omega arith

pub none_left : (count at : ℕ) → count ≤ at → count - at ≡ 0
none_left count at h = omega arith

pub one_less : (count at : ℕ) → count - at - 1 ≡ count - (at + 1)
one_less count at = omega arith

-- ---- Room.

-- Of this many codes, those that are not left are packed.
pub record PackedSoFar (count left so_far : ℕ) : Type 0 where
  pub passed : ℕ
  pub counted : passed + left ≡ count
  pub low : so_far < packings passed

pub none_packed : (count : ℕ) → PackedSoFar count count 0
none_packed count = record { passed = 0; counted = omega arith; low = omega arith }

pub one_packed : (count left so_far c : ℕ) → PackedSoFar count left so_far → (left ≡ 0 → ⊥) → c < codes → PackedSoFar count (left - 1) (so_far * codes + c)
one_packed count left so_far c known f h = record { passed = suc known.passed; counted = omega (arith, known.counted, f); low = more (packings known.passed) known.low }
  where
    more : (room : ℕ) → so_far < room → so_far * codes + c < codes * room
    more room l = omega (arith, l, h)

-- All but one of the codes, at most seven: 8 to the power of 7.
pub packed_room : (count left so_far : ℕ) → PackedSoFar count left so_far → (left ≡ 0 → ⊥) → count ≤ most_parameters → so_far < 2097152
packed_room count left so_far known f few = within known.passed (omega (arith, known.counted, f, few)) known.low
  where
    packings_low : (k : ℕ) → k < most_parameters → packings k ≤ 2097152
    packings_low zero h = omega arith
    packings_low (suc zero) h = omega arith
    packings_low (suc (suc zero)) h = omega arith
    packings_low (suc (suc (suc zero))) h = omega arith
    packings_low (suc (suc (suc (suc zero)))) h = omega arith
    packings_low (suc (suc (suc (suc (suc zero))))) h = omega arith
    packings_low (suc (suc (suc (suc (suc (suc zero)))))) h = omega arith
    packings_low (suc (suc (suc (suc (suc (suc (suc zero))))))) h = omega arith
    packings_low (suc (suc (suc (suc (suc (suc (suc (suc k)))))))) h = absurd (omega (arith, h))

    within : (k : ℕ) → k < most_parameters → so_far < packings k → so_far < 2097152
    within k h l = omega (arith, l, packings_low k h)

-- ---- Comparing.

equal_or_not : {A : Type 0} (a b : ℕ) → (a ≡ b → A) → ((a ≡ b → ⊥) → A) → A
equal_or_not {A} a b equal apart = by (eqb a b) (λ t. equal (eqb→eq a b t)) (λ n. apart (λ q. n (subst (λ c. T (eqb a c)) q (eqb_refl a))))
  where
    by : (x : Bool) → (T x → A) → ((T x → ⊥) → A) → A
    by true f g = f tt
    by false f g = g (λ t. t)

-- Two packed numbers are the same where their last codes and the others are.
one_more : (p m n a b : ℕ) → a < codes → b < codes → same_code p (m * codes + a) (n * codes + b) ≡ (same_code p m n >>= λ done. same_code p a b)
one_more p m n a b h l = equal_or_not m n others_same others_apart
  where
    others_same : m ≡ n → same_code p (m * codes + a) (n * codes + b) ≡ (same_code p m n >>= λ done. same_code p a b)
    others_same q = subst (λ j. same_code p (m * codes + a) (n * codes + b) ≡ (j >>= λ done. same_code p a b)) (sym (same_yes p m n q)) (equal_or_not a b last_same last_apart)
      where
        last_same : a ≡ b → same_code p (m * codes + a) (n * codes + b) ≡ same_code p a b
        last_same e = same_yes p (m * codes + a) (n * codes + b) (omega (arith, q, e)) ∙ sym (same_yes p a b e)

        last_apart : (a ≡ b → ⊥) → same_code p (m * codes + a) (n * codes + b) ≡ same_code p a b
        last_apart f = same_no p (m * codes + a) (n * codes + b) (λ e. f (sym (packed_last m a h) ∙ ap (λ k. k % codes) e ∙ packed_last n b l)) ∙ sym (same_no p a b f)

    others_apart : (m ≡ n → ⊥) → same_code p (m * codes + a) (n * codes + b) ≡ (same_code p m n >>= λ done. same_code p a b)
    others_apart f =
        subst (λ j. same_code p (m * codes + a) (n * codes + b) ≡ (j >>= λ done. same_code p a b)) (sym (same_no p m n f))
        (same_no p (m * codes + a) (n * codes + b) (λ e. f (sym (packed_others m a h) ∙ ap (λ k. k / codes) e ∙ packed_others n b l)))

then_ok : (j : Judged Fine) → j ≡ (j >>= λ done. fine ok)
then_ok (fault r p) = refl
then_ok (fine ok) = refl

then_both : (j k l : Judged Fine) → ((j >>= λ done. k) >>= λ done. l) ≡ (j >>= λ done. k >>= λ done. l)
then_both (fault r p) k l = refl
then_both (fine done) k l = refl

same_onto : (p m n : ℕ) (fs : List Formal) (cs : List ℕ) → length fs ≡ length cs → AllCodes (formal_codes fs) → AllCodes cs →
    same_code p (packed_onto m (formal_codes fs)) (packed_onto n cs) ≡ (same_code p m n >>= λ done. same_codes p fs cs)
same_onto p m n [] [] q h l = then_ok (same_code p m n)
same_onto p m n [] (c ∷ cs) q h l = absurd (omega (arith, q))
same_onto p m n (f ∷ fs) [] q h l = absurd (omega (arith, q))
same_onto p m n (f ∷ fs) (c ∷ cs) q h l =
    same_onto p (m * codes + f.code) (n * codes + c) fs cs (omega (arith, q)) h.1 l.1 ∙
    ap (λ j. j >>= λ done. same_codes p fs cs) (one_more p m n f.code c h.0 l.0) ∙
    then_both (same_code p m n) (same_code p f.code c) (same_codes p fs cs)

pub same_packed : (p : ℕ) (fs : List Formal) (cs : List ℕ) → length fs ≡ length cs → AllCodes (formal_codes fs) → AllCodes cs →
    same_code p (packed_codes (formal_codes fs)) (packed_codes cs) ≡ same_codes p fs cs
same_packed p fs cs q h l = same_onto p 0 0 fs cs q h l
