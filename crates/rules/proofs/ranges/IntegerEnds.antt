-- Integers between ends: the order's laws, the lower and the higher of two, and that sum, difference, product and quotient at one fixed operand
-- stay between their values at the ends of the other.
use Rattle.std.specs.Prelude.{ℕ, zero, suc, ◌*◌, ◌/◌, ◌≤◌, ◌≡◌, Bool, T, ℤ, pos, negsuc, neg_ℤ, ◌+ℤ◌, ◌-ℤ◌, ◌*ℤ◌, ◌≤ℤ◌}
use Rattle.std.proofs.Math.Path.{refl}
use Rattle.std.proofs.Math.Bool.{true, false, cond}
use Rattle.std.proofs.Common.{arith, mul-le-mul_left, mul-le-mul_right, div-mul-le_self, le-div_iff_mul-le, le_trans, leb→le, le→leb, ltb→lt, lt→ltb}
use Rattle.std.proofs.Math.IntN.{+ℤ_comm, *ℤ_comm, *ℤ-negsuc}
use Rattle.std.specs.Int.Signed.{lt_z, le_z, lt_z_no, ≤ℤ_refl}
use Rattle.rules.proofs.Basics.{passed_test}
use Rattle.rules.proofs.IntegerOrder.{at_most, negation_turns, sum_keeps_order}
use Rattle.rules.specs.paper.Integers.{range_bound, in_range, floor}
use Rattle.rules.specs.paper.Carried.{lower, higher}

-- ---- The order.

through : (a b c : ℤ) → T (le_z a b) → T (le_z b c) → T (le_z a c)
through (pos a) (pos b) (pos c) h k = le→leb a c (omega (arith, leb→le a b h, leb→le b c k))
through (pos a) (pos b) (negsuc c) h k = absurd k
through (pos a) (negsuc b) c h k = absurd h
through (negsuc a) (pos b) (pos c) h k = tt
through (negsuc a) (pos b) (negsuc c) h k = absurd k
through (negsuc a) (negsuc b) (pos c) h k = tt
through (negsuc a) (negsuc b) (negsuc c) h k = le→leb c a (omega (arith, leb→le b a h, leb→le c b k))

pub order_trans : {a b c : ℤ} → a ≤ℤ b → b ≤ℤ c → a ≤ℤ c
order_trans {a} {b} {c} h k = at_most (through a b c h.le k.le)

below_at_most : (a b : ℤ) → T (lt_z a b) → T (le_z a b)
below_at_most (pos a) (pos b) h = le→leb a b (omega (arith, ltb→lt a b h))
below_at_most (pos a) (negsuc b) h = absurd h
below_at_most (negsuc a) (pos b) h = tt
below_at_most (negsuc a) (negsuc b) h = le→leb b a (omega (arith, ltb→lt b a h))

pub below : (a b : ℤ) → lt_z a b ≡ true → a ≤ℤ b
below a b q = at_most (below_at_most a b (passed_test q))

pub not_below : (a b : ℤ) → lt_z a b ≡ false → b ≤ℤ a
not_below a b q = lt_z_no {a = a} {b = b} (rw q tt)

-- An integer between two of the range is in the range.
pub in_range_between : (l z h : ℤ) → l ≤ℤ z → z ≤ℤ h → T (in_range l) → T (in_range h) → T (in_range z)
in_range_between l (pos z) (pos h) p q r s = lt→ltb z range_bound (omega (arith, leb→le z h q.le, ltb→lt h range_bound s))
in_range_between l (pos z) (negsuc h) p q r s = absurd q.le
in_range_between (pos l) (negsuc z) h p q r s = absurd p.le
in_range_between (negsuc l) (negsuc z) h p q r s = lt→ltb z range_bound (omega (arith, leb→le z l p.le, ltb→lt l range_bound r))

-- ---- The lower and the higher of two: one of both, and at most or at least each.

module _ (a b : ℤ) where
  pub lower_first : lower a b ≤ℤ a
  unfolding lower
  lower_first = by (lt_z a b) refl
    where
      by : (t : Bool) → lt_z a b ≡ t → cond t a b ≤ℤ a
      by true q = ≤ℤ_refl a
      by false q = not_below a b q

  pub lower_second : lower a b ≤ℤ b
  unfolding lower
  lower_second = by (lt_z a b) refl
    where
      by : (t : Bool) → lt_z a b ≡ t → cond t a b ≤ℤ b
      by true q = below a b q
      by false q = ≤ℤ_refl b

  pub higher_first : a ≤ℤ higher a b
  unfolding higher
  higher_first = by (lt_z a b) refl
    where
      by : (t : Bool) → lt_z a b ≡ t → a ≤ℤ cond t b a
      by true q = below a b q
      by false q = ≤ℤ_refl a

  pub higher_second : b ≤ℤ higher a b
  unfolding higher
  higher_second = by (lt_z a b) refl
    where
      by : (t : Bool) → lt_z a b ≡ t → b ≤ℤ cond t b a
      by true q = ≤ℤ_refl b
      by false q = not_below a b q

  pub lower_is : (P : ℤ → Type 0) → P a → P b → P (lower a b)
  unfolding lower
  lower_is P h k = by (lt_z a b)
    where
      by : (t : Bool) → P (cond t a b)
      by true = h
      by false = k

  pub higher_is : (P : ℤ → Type 0) → P a → P b → P (higher a b)
  unfolding higher
  higher_is P h k = by (lt_z a b)
    where
      by : (t : Bool) → P (cond t b a)
      by true = k
      by false = h

-- ---- Between two integers, whichever of them is the lower.

pub data Amid (p q z : ℤ) : Type 0 where
  rising : p ≤ℤ z → z ≤ℤ q → Amid p q z
  falling : q ≤ℤ z → z ≤ℤ p → Amid p q z

pub amid_from : {p q z l : ℤ} → Amid p q z → l ≤ℤ p → l ≤ℤ q → l ≤ℤ z
amid_from (rising h k) f g = order_trans f h
amid_from (falling h k) f g = order_trans g h

pub amid_to : {p q z l : ℤ} → Amid p q z → p ≤ℤ l → q ≤ℤ l → z ≤ℤ l
amid_to (rising h k) f g = order_trans k g
amid_to (falling h k) f g = order_trans k f

pub amid_turned : {p q z : ℤ} → Amid p q z → Amid q p z
amid_turned (rising h k) = falling h k
amid_turned (falling h k) = rising h k

-- ---- A sum and a difference.

sum_second : {a b : ℤ} (k : ℤ) → a ≤ℤ b → (k +ℤ a) ≤ℤ (k +ℤ b)
sum_second {a} {b} k h = rw (+ℤ_comm k a, +ℤ_comm k b) (sum_keeps_order k h)

pub sum_in_first : (a b x y : ℤ) → a ≤ℤ x → x ≤ℤ b → Amid (a +ℤ y) (b +ℤ y) (x +ℤ y)
sum_in_first a b x y h k = rising (sum_keeps_order y h) (sum_keeps_order y k)

pub sum_in_second : (x c d y : ℤ) → c ≤ℤ y → y ≤ℤ d → Amid (x +ℤ c) (x +ℤ d) (x +ℤ y)
sum_in_second x c d y h k = rising (sum_second x h) (sum_second x k)

pub difference_in_second : (x c d y : ℤ) → c ≤ℤ y → y ≤ℤ d → Amid (x -ℤ c) (x -ℤ d) (x -ℤ y)
difference_in_second x c d y h k = falling (sum_second x (negation_turns k)) (sum_second x (negation_turns h))

-- ---- A product.

-- What is negated is at most any number.
negated_below : (m n : ℕ) → neg_ℤ (pos m) ≤ℤ pos n
negated_below zero n = at_most (le→leb zero n (omega arith))
negated_below (suc m) n = at_most tt

product_rises : (a b : ℤ) (n : ℕ) → a ≤ℤ b → (a *ℤ pos n) ≤ℤ (b *ℤ pos n)
product_rises (pos a) (pos b) n h = at_most (le→leb _ _ (mul-le-mul_right n (leb→le a b h.le)))
product_rises (pos a) (negsuc b) n h = absurd h.le
product_rises (negsuc a) (pos b) n h = negated_below (suc a * n) (b * n)
product_rises (negsuc a) (negsuc b) n h =
    let bigger : suc b ≤ suc a = omega (arith, leb→le b a h.le) in
    negation_turns {a = pos (suc b * n)} {b = pos (suc a * n)} (at_most (le→leb _ _ (mul-le-mul_right n bigger)))

product_falls : (a b : ℤ) (n : ℕ) → a ≤ℤ b → (b *ℤ negsuc n) ≤ℤ (a *ℤ negsuc n)
product_falls a b n h = rw (*ℤ-negsuc a n, *ℤ-negsuc b n) (negation_turns (product_rises a b (suc n) h))

pub product_in_first : (a b x y : ℤ) → a ≤ℤ x → x ≤ℤ b → Amid (a *ℤ y) (b *ℤ y) (x *ℤ y)
product_in_first a b x (pos n) h k = rising (product_rises a x n h) (product_rises x b n k)
product_in_first a b x (negsuc n) h k = falling (product_falls x b n k) (product_falls a x n h)

pub product_in_second : (x c d y : ℤ) → c ≤ℤ y → y ≤ℤ d → Amid (x *ℤ c) (x *ℤ d) (x *ℤ y)
product_in_second x c d y h k = rw (*ℤ_comm x c, *ℤ_comm x d, *ℤ_comm x y) (product_in_first c d y x h k)

-- ---- A quotient.

-- A larger dividend has a larger quotient, a larger divisor a smaller one.
dividend_rises : (a b n : ℕ) → a ≤ b → a / suc n ≤ b / suc n
dividend_rises a b n h = (le-div_iff_mul-le {k = suc n} (omega arith)).1 (le_trans (div-mul-le_self a (suc n)) h)

divisor_falls : (a m n : ℕ) → m ≤ n → a / suc n ≤ a / suc m
divisor_falls a m n h =
    let bigger : suc m ≤ suc n = omega (arith, h) in
    (le-div_iff_mul-le {k = suc m} (omega arith)).1 (le_trans (mul-le-mul_left (a / suc n) bigger) (div-mul-le_self a (suc n)))

floor_rises : (a b : ℤ) (n : ℕ) → a ≤ℤ b → floor a (suc n) ≤ℤ floor b (suc n)
floor_rises (pos a) (pos b) n h = at_most (le→leb _ _ (dividend_rises a b n (leb→le a b h.le)))
floor_rises (pos a) (negsuc b) n h = absurd h.le
floor_rises (negsuc a) (pos b) n h = at_most tt
floor_rises (negsuc a) (negsuc b) n h = at_most (le→leb _ _ (dividend_rises b a n (leb→le b a h.le)))

-- For a divisor between two of one sign.
floor_in_divisor : (a : ℤ) (m k n : ℕ) → m ≤ k → k ≤ n → Amid (floor a (suc m)) (floor a (suc n)) (floor a (suc k))
floor_in_divisor (pos a) m k n h l = falling (at_most (le→leb _ _ (divisor_falls a k n l))) (at_most (le→leb _ _ (divisor_falls a m k h)))
floor_in_divisor (negsuc a) m k n h l = rising (at_most (le→leb _ _ (divisor_falls a m k h))) (at_most (le→leb _ _ (divisor_falls a k n l)))

abbrev pub quotient : ℤ → ℤ → ℤ
quotient a (pos b) = floor a b
quotient a (negsuc b) = floor (neg_ℤ a) (suc b)

-- The divisor lies on one side of 0, with its ends.
pub data OneSign (c d y : ℤ) : Type 0 where
  above_zero : (m n k : ℕ) → c ≡ pos (suc m) → d ≡ pos (suc n) → y ≡ pos (suc k) → OneSign c d y
  below_zero : (m n k : ℕ) → c ≡ negsuc m → d ≡ negsuc n → y ≡ negsuc k → OneSign c d y

pub one_sign_above : (c d y : ℤ) → lt_z (pos 0) c ≡ true → c ≤ℤ y → y ≤ℤ d → OneSign c d y
one_sign_above (pos zero) d y q h k = absurd (omega (arith, ltb→lt 0 0 (passed_test q)))
one_sign_above (pos (suc m)) (pos zero) (pos zero) q h k = absurd (omega (arith, leb→le (suc m) 0 h.le))
one_sign_above (pos (suc m)) (pos zero) (pos (suc i)) q h k = absurd (omega (arith, leb→le (suc i) 0 k.le))
one_sign_above (pos (suc m)) (pos (suc n)) (pos zero) q h k = absurd (omega (arith, leb→le (suc m) 0 h.le))
one_sign_above (pos (suc m)) (pos (suc n)) (pos (suc i)) q h k = above_zero m n i refl refl refl
one_sign_above (pos (suc m)) (negsuc n) (pos i) q h k = absurd k.le
one_sign_above (pos (suc m)) d (negsuc i) q h k = absurd h.le
one_sign_above (negsuc m) d y q h k = absurd (passed_test q)

pub one_sign_below : (c d y : ℤ) → lt_z d (pos 0) ≡ true → c ≤ℤ y → y ≤ℤ d → OneSign c d y
one_sign_below c (pos n) y q h k = absurd (omega (arith, ltb→lt n 0 (passed_test q)))
one_sign_below c (negsuc n) (pos i) q h k = absurd k.le
one_sign_below (pos m) (negsuc n) (negsuc i) q h k = absurd h.le
one_sign_below (negsuc m) (negsuc n) (negsuc i) q h k = below_zero m n i refl refl refl

pub quotient_in_first : (a b x y : ℤ) → (y ≡ pos 0 → ⊥) → a ≤ℤ x → x ≤ℤ b → Amid (quotient a y) (quotient b y) (quotient x y)
quotient_in_first a b x (pos zero) nonzero h k = absurd (nonzero refl)
quotient_in_first a b x (pos (suc n)) nonzero h k = rising (floor_rises a x n h) (floor_rises x b n k)
quotient_in_first a b x (negsuc n) nonzero h k =
    falling (floor_rises (neg_ℤ b) (neg_ℤ x) n (negation_turns k)) (floor_rises (neg_ℤ x) (neg_ℤ a) n (negation_turns h))

pub quotient_in_second : (x c d y : ℤ) → OneSign c d y → c ≤ℤ y → y ≤ℤ d → Amid (quotient x c) (quotient x d) (quotient x y)
quotient_in_second x c d y (above_zero m n i p q r) h k =
    rw (p, q, r) (floor_in_divisor x m i n
    (omega (arith, leb→le (suc m) (suc i) (rw (p, r) at h).le)) (omega (arith, leb→le (suc i) (suc n) (rw (r, q) at k).le)))
quotient_in_second x c d y (below_zero m n i p q r) h k =
    rw (p, q, r) (amid_turned (floor_in_divisor (neg_ℤ x) n i m (leb→le n i (rw (r, q) at k).le) (leb→le i m (rw (p, r) at h).le)))
