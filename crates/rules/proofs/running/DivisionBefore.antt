-- Div and the rule before it, which dropped the fraction toward zero: quotients that are below 0 and not exact are one less, and no other
-- differs (claims/Division.antt). Where the signs differ, a magnitude a + 1 is divided, rounded up now and down before.
use Rattle.std.specs.Prelude.{ℕ, zero, suc, ◌+◌, ◌*◌, ◌/◌, ◌%◌, ◌≤◌, ◌<◌, ◌≡◌, refl, Bool, true, false, cond, T, ℤ, pos, negsuc, neg_ℤ, ◌-ℤ◌, ◌*ℤ◌}
use Rattle.std.proofs.Common.{sym, ap, ◌∙◌, arith, div-add-mod', mod-lt, suc-mul, zero-mul, add-one}
use Rattle.std.proofs.Math.Nat.{div-eq_of_lt-le, zero-div}
use Rattle.std.proofs.Math.IntN.{pos-ne-negsuc, -ℤ_one}
use Rattle.std.specs.Int.Signed.{non_neg}
use Rattle.rules.proofs.Basics.{true_test}
use Rattle.rules.specs.paper.Refusals.{ZeroDivisor, OutOfRange}
use Rattle.rules.specs.paper.Integers.{in_range, number, failed, ranged, compute}
use Rattle.rules.specs.claims.Division.{SinceBefore, both_refused, one_sign, exact, one_less, OneLessBelowZero}
use Rattle.rules.proofs.running.Division.{smaller_in_range}

-- ---- A magnitude above 0 by a number above 0: exact, or with something left over.

data Parts (a b : ℕ) : Type 0 where
  whole : (c : ℕ) → suc c * suc b ≡ suc a → a / suc b ≡ c → suc a / suc b ≡ suc c → Parts a b
  left_over : (c : ℕ) → (c * suc b ≡ suc a → ⊥) → a / suc b ≡ c → suc a / suc b ≡ c → c ≤ a → Parts a b

parts : (a b : ℕ) → Parts a b
parts a b = by (suc a / suc b) refl (suc a % suc b) refl
  where
    -- A number below the next product and not below this one.
    counted : (c : ℕ) → c * suc b ≤ a → a < c * suc b + suc b → a / suc b ≡ c
    counted c low high = div-eq_of_lt-le (suc b) low (rw (add-one c, suc-mul c (suc b)) high)

    by : (q : ℕ) → suc a / suc b ≡ q → (r : ℕ) → suc a % suc b ≡ r → Parts a b
    by zero quotient zero rest =
        let all : 0 * suc b + 0 ≡ suc a = rw (quotient, rest) at (div-add-mod' (suc a) (suc b)) in
        absurd (omega (arith, zero-mul (suc b)))
    by (suc c) quotient zero rest =
        let all : suc c * suc b + 0 ≡ suc a = rw (quotient, rest) at (div-add-mod' (suc a) (suc b)) in
        let next : suc c * suc b ≡ c * suc b + suc b = suc-mul c (suc b) in
        whole c (omega arith) (counted c (omega arith) (omega arith)) quotient
    by c quotient (suc r) rest =
        let all : c * suc b + suc r ≡ suc a = rw (quotient, rest) at (div-add-mod' (suc a) (suc b)) in
        let less : suc r < suc b = rw rest at (mod-lt (suc a) {m = suc b} (omega arith)) in
        left_over c (λ same. omega arith) (counted c (omega arith) (omega arith)) quotient (omega arith)

-- ---- Results.

-- An integer that is the same now and before.
unchanged : (a b q : ℤ) → SinceBefore a b (number q) (number q) → SinceBefore a b (ranged q) (ranged q)
unchanged a b q same = by (in_range q)
  where
    by : (t : Bool) → SinceBefore a b (cond t (number q) (failed OutOfRange)) (cond t (number q) (failed OutOfRange))
    by true = same
    by false = both_refused OutOfRange

-- One that is one less than before, where both are in range.
lowered : (a b : ℤ) (c d : ℕ) → c ≤ d → T (in_range (pos d)) → (non_neg a ≡ non_neg b → ⊥) → (neg_ℤ (pos c) *ℤ b ≡ a → ⊥) →
    SinceBefore a b (ranged (negsuc c)) (ranged (neg_ℤ (pos c)))
lowered a b c d small fits signs rest =
    rw (true_test (in_range (negsuc c)) (smaller_in_range c d small fits), true_test (in_range (neg_ℤ (pos c))) (before_in_range c small), ← less c) (one_less (neg_ℤ (pos c)) signs rest)
  where
    before_in_range : (c : ℕ) → c ≤ d → T (in_range (neg_ℤ (pos c)))
    before_in_range zero small = tt
    before_in_range (suc c) small = smaller_in_range c d (omega arith) fits

    less : (c : ℕ) → neg_ℤ (pos c) -ℤ pos 1 ≡ negsuc c
    less zero = -ℤ_one (pos 0)
    less (suc c) = -ℤ_one (negsuc c)

-- ---- Different signs.

-- A dividend x of magnitude a + 1 and a divisor y of magnitude b + 1: what a product with y is x hangs on, and that it is in range.
module _ (x y : ℤ) (a b : ℕ) (signs : non_neg x ≡ non_neg y → ⊥) (fits : T (in_range (pos a)))
    (makes : (c : ℕ) → suc c * suc b ≡ suc a → negsuc c *ℤ y ≡ x) (made : (c : ℕ) → neg_ℤ (pos c) *ℤ y ≡ x → c * suc b ≡ suc a) where
  different : SinceBefore x y (ranged (negsuc (a / suc b))) (ranged (neg_ℤ (pos (suc a / suc b))))
  different = by (parts a b)
    where
      by : Parts a b → SinceBefore x y (ranged (negsuc (a / suc b))) (ranged (neg_ℤ (pos (suc a / suc b))))
      by (whole c same now before) = rw (now, before) (unchanged x y (negsuc c) (exact (negsuc c) (makes c same)))
      by (left_over c rest now before small) = rw (now, before) (lowered x y c a small fits signs (λ same. rest (made c same)))

negated_is : (n a : ℕ) → neg_ℤ (pos n) ≡ negsuc a → n ≡ suc a
negated_is zero a same = absurd (pos-ne-negsuc 0 a same)
negated_is (suc n) a same = cc

-- The product of a negated number, by the sign of the other factor.
negated_by_positive : (c b : ℕ) → neg_ℤ (pos c) *ℤ pos b ≡ neg_ℤ (pos (c * b))
negated_by_positive zero b = rw (zero-mul b)
negated_by_positive (suc c) b = refl

negated_by_negative : (c b : ℕ) → neg_ℤ (pos c) *ℤ negsuc b ≡ pos (c * suc b)
negated_by_negative zero b = rw (zero-mul (suc b))
negated_by_negative (suc c) b = refl

truths_differ : true ≡ false → ⊥
truths_differ same = let clash : ◌≡◌ {A = ℕ} 0 1 = cc in omega arith

negative_by_positive : (a b : ℕ) → T (in_range (negsuc a)) → SinceBefore (negsuc a) (pos (suc b)) (ranged (negsuc (a / suc b))) (ranged (neg_ℤ (pos (suc a / suc b))))
negative_by_positive a b fits =
    different (negsuc a) (pos (suc b)) a b (λ same. truths_differ (sym same)) fits
    (λ c same. ap (λ n. neg_ℤ (pos n)) same)
    (λ c same. negated_is (c * suc b) a (sym (negated_by_positive c (suc b)) ∙ same))

positive_by_negative : (a b : ℕ) → T (in_range (pos (suc a))) → SinceBefore (pos (suc a)) (negsuc b) (ranged (negsuc (a / suc b))) (ranged (neg_ℤ (pos (suc a / suc b))))
positive_by_negative a b fits =
    different (pos (suc a)) (negsuc b) a b truths_differ (smaller_in_range a (suc a) (omega arith) fits)
    (λ c same. ap pos same)
    (λ c same. let equal : pos (c * suc b) ≡ pos (suc a) = sym (negated_by_negative c b) ∙ same in cc)

-- ---- All signs.

pub one_less_below_zero : OneLessBelowZero
unfolding compute
one_less_below_zero a (pos zero) fits = both_refused ZeroDivisor
one_less_below_zero (pos a) (pos (suc b)) fits = unchanged (pos a) (pos (suc b)) (pos (a / suc b)) (one_sign (pos (a / suc b)) refl)
one_less_below_zero (negsuc a) (pos (suc b)) fits = negative_by_positive a b fits
one_less_below_zero (pos zero) (negsuc b) fits = rw (zero-div (suc b)) (exact (pos 0) (rw (zero-mul (suc b))))
one_less_below_zero (pos (suc a)) (negsuc b) fits = positive_by_negative a b fits
one_less_below_zero (negsuc a) (negsuc b) fits =
    unchanged (negsuc a) (negsuc b) (pos (suc a / suc b)) (one_sign (pos (suc a / suc b)) refl)
