-- What Sum, Sub, Mul and Div give of integers within the operands' ends lies within the carried ends, and is in range.
use Rattle.std.specs.Prelude.{ℕ, suc, ◌≡◌, refl, Bool, true, false, cond, not, ◌&&◌, T, ℤ, pos, neg_ℤ, ◌+ℤ◌, ◌-ℤ◌, ◌*ℤ◌, ◌≤ℤ◌}
use Rattle.std.proofs.Common.{sym, ap, ◌∙◌, subst, arith}
use Rattle.std.proofs.Math.Option.{none, some, some-injective}
use Rattle.std.specs.Int.Signed.{lt_z}
use Rattle.rules.proofs.Basics.{missing, true_test, passed_test}
use Rattle.rules.specs.paper.Refusals.{OutOfRange}
use Rattle.rules.specs.paper.Tree.{Arithmetic, Sum, Sub, Mul, Div}
use Rattle.rules.specs.paper.Integers.{in_range, Result, number, failed, ranged, compute}
use Rattle.rules.specs.paper.Carried.{Carried, numbers, lower, higher, with_number, over_ends, divisor_may_be_zero, carry_arithmetic}
use Rattle.rules.proofs.ranges.IntegerEnds.{order_trans, in_range_between, lower_first, lower_second, higher_first, higher_second, lower_is, higher_is, Amid, amid_from, amid_to, sum_in_first, sum_in_second, difference_in_second, product_in_first, product_in_second, quotient, OneSign, above_zero, below_zero, one_sign_above, one_sign_below, quotient_in_first, quotient_in_second}

-- ---- Each operator has its value at each pair, and each pair's lies between those at the ends.

-- A number that is given is in range.
record Ranged (z q : ℤ) : Type 0 where
  same : z ≡ q
  fits : T (in_range q)

ranged_number : (z q : ℤ) → ranged z ≡ number q → Ranged z q
ranged_number z q = by (in_range z) refl
  where
    by : (t : Bool) → in_range z ≡ t → cond t (number z) (failed OutOfRange) ≡ number q → Ranged z q
    by true r same = let e : z ≡ q = cc in record { same = e; fits = subst (λ x. T (in_range x)) e (passed_test r) }
    by false r same = let clash : ◌≡◌ {A = ℕ} 0 1 = cc in absurd (omega arith)

-- The integer that the operator comes to, before its range is tested.
abbrev result : Arithmetic → ℤ → ℤ → ℤ
result Sum x y = x +ℤ y
result Sub x y = x -ℤ y
result Mul x y = x *ℤ y
result Div x y = quotient x y

-- The divisor's range does not hold 0.
abbrev SafeDivisor : Arithmetic → (c d y : ℤ) → Type 0
SafeDivisor Sum c d y = Unit {0}
SafeDivisor Sub c d y = Unit {0}
SafeDivisor Mul c d y = Unit {0}
SafeDivisor Div c d y = OneSign c d y

safe_divisor : (o : Arithmetic) (c d y : ℤ) → divisor_may_be_zero o c d ≡ false → c ≤ℤ y → y ≤ℤ d → SafeDivisor o c d y
safe_divisor Sum c d y q h k = tt
safe_divisor Sub c d y q h k = tt
safe_divisor Mul c d y q h k = tt
safe_divisor Div c d y q h k = by (lt_z (pos 0) c) (lt_z d (pos 0)) refl refl q
  where
    by : (s t : Bool) → lt_z (pos 0) c ≡ s → lt_z d (pos 0) ≡ t → not s && not t ≡ false → OneSign c d y
    by true t p r e = one_sign_above c d y p h k
    by false true p r e = one_sign_below c d y r h k
    by false false p r e = absurd (subst T e tt)

module _ (c d y : ℤ) where
  nonzero : OneSign c d y → y ≡ pos 0 → ⊥
  nonzero (above_zero m n k p q r) e = let clash : suc k ≡ 0 = cc in omega arith
  nonzero (below_zero m n k p q r) e = let clash : ◌≡◌ {A = ℕ} 0 1 = cc in omega arith

  low_safe : OneSign c d y → OneSign c d c
  low_safe (above_zero m n k p q r) = above_zero m n m p q p
  low_safe (below_zero m n k p q r) = below_zero m n m p q p

  high_safe : OneSign c d y → OneSign c d d
  high_safe (above_zero m n k p q r) = above_zero m n n p q q
  high_safe (below_zero m n k p q r) = below_zero m n n p q q

divided : (x c d y : ℤ) → OneSign c d y → compute Div x y ≡ ranged (quotient x y)
unfolding compute
divided x c d y (above_zero m n k p q r) = rw r
divided x c d y (below_zero m n k p q r) = rw r

computes : (o : Arithmetic) (x c d y : ℤ) → SafeDivisor o c d y → compute o x y ≡ ranged (result o x y)
unfolding compute
computes Sum x c d y s = refl
computes Sub x c d y s = refl
computes Mul x c d y s = refl
computes Div x c d y s = divided x c d y s

in_first : (o : Arithmetic) (a b x c d y : ℤ) → SafeDivisor o c d y → a ≤ℤ x → x ≤ℤ b → Amid (result o a y) (result o b y) (result o x y)
in_first Sum a b x c d y s h k = sum_in_first a b x y h k
in_first Sub a b x c d y s h k = sum_in_first a b x (neg_ℤ y) h k
in_first Mul a b x c d y s h k = product_in_first a b x y h k
in_first Div a b x c d y s h k = quotient_in_first a b x y (nonzero c d y s) h k

in_second : (o : Arithmetic) (x c d y : ℤ) → SafeDivisor o c d y → c ≤ℤ y → y ≤ℤ d → Amid (result o x c) (result o x d) (result o x y)
in_second Sum x c d y s h k = sum_in_second x c d y h k
in_second Sub x c d y s h k = difference_in_second x c d y h k
in_second Mul x c d y s h k = product_in_second x c d y h k
in_second Div x c d y s h k = quotient_in_second x c d y s h k

safe_low : (o : Arithmetic) (c d y : ℤ) → SafeDivisor o c d y → SafeDivisor o c d c
safe_low Sum c d y s = tt
safe_low Sub c d y s = tt
safe_low Mul c d y s = tt
safe_low Div c d y s = low_safe c d y s

safe_high : (o : Arithmetic) (c d y : ℤ) → SafeDivisor o c d y → SafeDivisor o c d d
safe_high Sum c d y s = tt
safe_high Sub c d y s = tt
safe_high Mul c d y s = tt
safe_high Div c d y s = high_safe c d y s

-- ---- The ends.

-- What is carried where there are ends: the least and greatest of the four pairs.
record Corners (o : Arithmetic) (a b c d : ℤ) (v : Carried) : Type 0 where
  w : ℤ
  x : ℤ
  y : ℤ
  z : ℤ
  at_w : compute o a c ≡ number w
  at_x : compute o a d ≡ number x
  at_y : compute o b c ≡ number y
  at_z : compute o b d ≡ number z
  is : v ≡ numbers (lower (lower w x) (lower y z)) (higher (higher w x) (higher y z))

corners : (o : Arithmetic) (a b c d : ℤ) (v : Carried) → over_ends o a b c d ≡ some v → Corners o a b c d v
unfolding over_ends
corners o a b c d v q = first (compute o a c) refl q
  where
    ends : (w x y z : ℤ) → Carried
    ends w x y z = numbers (lower (lower w x) (lower y z)) (higher (higher w x) (higher y z))

    fourth : (w x y : ℤ) → compute o a c ≡ number w → compute o a d ≡ number x → compute o b c ≡ number y →
        (r : Result) → compute o b d ≡ r → with_number r (λ z. some (ends w x y z)) ≡ some v → Corners o a b c d v
    fourth w x y p₁ p₂ p₃ (number z) p₄ e =
        record { w = w; x = x; y = y; z = z; at_w = p₁; at_x = p₂; at_y = p₃; at_z = p₄; is = sym (some-injective (ends w x y z) v e) }
    fourth w x y p₁ p₂ p₃ (failed s) p₄ e = missing e

    third : (w x : ℤ) → compute o a c ≡ number w → compute o a d ≡ number x →
        (r : Result) → compute o b c ≡ r → with_number r (λ y. with_number (compute o b d) (λ z. some (ends w x y z))) ≡ some v → Corners o a b c d v
    third w x p₁ p₂ (number y) p₃ e = fourth w x y p₁ p₂ p₃ (compute o b d) refl e
    third w x p₁ p₂ (failed s) p₃ e = missing e

    second : (w : ℤ) → compute o a c ≡ number w →
        (r : Result) → compute o a d ≡ r → with_number r (λ x. with_number (compute o b c) (λ y. with_number (compute o b d) (λ z. some (ends w x y z)))) ≡ some v →
        Corners o a b c d v
    second w p₁ (number x) p₂ e = third w x p₁ p₂ (compute o b c) refl e
    second w p₁ (failed s) p₂ e = missing e

    first : (r : Result) → compute o a c ≡ r →
        with_number r (λ w. with_number (compute o a d) (λ x. with_number (compute o b c) (λ y. with_number (compute o b d) (λ z. some (ends w x y z))))) ≡ some v →
        Corners o a b c d v
    first (number w) p₁ e = second w p₁ (compute o a d) refl e
    first (failed s) p₁ e = missing e

-- The ends are in order.
pub record CarriedEnds (o : Arithmetic) (a b c d : ℤ) (v : Carried) : Type 0 where
  pub lowest : ℤ
  pub highest : ℤ
  pub is_numbers : v ≡ numbers lowest highest
  pub ordered : lowest ≤ℤ highest
  pub within : (x y : ℤ) → a ≤ℤ x → x ≤ℤ b → c ≤ℤ y → y ≤ℤ d → (z : ℤ) × (compute o x y ≡ number z) × (lowest ≤ℤ z) × (z ≤ℤ highest)

module _ (o : Arithmetic) (a b c d : ℤ) (v : Carried) (safe : divisor_may_be_zero o c d ≡ false) (k : Corners o a b c d v) where
  least : ℤ
  least = lower (lower k.w k.x) (lower k.y k.z)

  greatest : ℤ
  greatest = higher (higher k.w k.x) (higher k.y k.z)

  least_w : least ≤ℤ k.w
  unfolding least
  least_w = order_trans (lower_first (lower k.w k.x) (lower k.y k.z)) (lower_first k.w k.x)

  least_x : least ≤ℤ k.x
  unfolding least
  least_x = order_trans (lower_first (lower k.w k.x) (lower k.y k.z)) (lower_second k.w k.x)

  least_y : least ≤ℤ k.y
  unfolding least
  least_y = order_trans (lower_second (lower k.w k.x) (lower k.y k.z)) (lower_first k.y k.z)

  least_z : least ≤ℤ k.z
  unfolding least
  least_z = order_trans (lower_second (lower k.w k.x) (lower k.y k.z)) (lower_second k.y k.z)

  greatest_w : k.w ≤ℤ greatest
  unfolding greatest
  greatest_w = order_trans (higher_first k.w k.x) (higher_first (higher k.w k.x) (higher k.y k.z))

  greatest_x : k.x ≤ℤ greatest
  unfolding greatest
  greatest_x = order_trans (higher_second k.w k.x) (higher_first (higher k.w k.x) (higher k.y k.z))

  greatest_y : k.y ≤ℤ greatest
  unfolding greatest
  greatest_y = order_trans (higher_first k.y k.z) (higher_second (higher k.w k.x) (higher k.y k.z))

  greatest_z : k.z ≤ℤ greatest
  unfolding greatest
  greatest_z = order_trans (higher_second k.y k.z) (higher_second (higher k.w k.x) (higher k.y k.z))

  module _ (x y : ℤ) (h₁ : a ≤ℤ x) (h₂ : x ≤ℤ b) (h₃ : c ≤ℤ y) (h₄ : y ≤ℤ d) where
    here : SafeDivisor o c d y
    here = safe_divisor o c d y safe h₃ h₄

    at_corner : (p q r : ℤ) → SafeDivisor o c d q → compute o p q ≡ number r → Ranged (result o p q) r
    at_corner p q r s e = ranged_number (result o p q) r (sym (computes o p c d q s) ∙ e)

    is_w : Ranged (result o a c) k.w
    is_w = at_corner a c k.w (safe_low o c d y here) k.at_w

    is_x : Ranged (result o a d) k.x
    is_x = at_corner a d k.x (safe_high o c d y here) k.at_x

    is_y : Ranged (result o b c) k.y
    is_y = at_corner b c k.y (safe_low o c d y here) k.at_y

    is_z : Ranged (result o b d) k.z
    is_z = at_corner b d k.z (safe_high o c d y here) k.at_z

    from_least : least ≤ℤ result o x y
    from_least =
        amid_from (in_first o a b x c d y here h₁ h₂)
        (amid_from (in_second o a c d y here h₃ h₄) (rw is_w.same least_w) (rw is_x.same least_x))
        (amid_from (in_second o b c d y here h₃ h₄) (rw is_y.same least_y) (rw is_z.same least_z))

    to_greatest : result o x y ≤ℤ greatest
    to_greatest =
        amid_to (in_first o a b x c d y here h₁ h₂)
        (amid_to (in_second o a c d y here h₃ h₄) (rw is_w.same greatest_w) (rw is_x.same greatest_x))
        (amid_to (in_second o b c d y here h₃ h₄) (rw is_y.same greatest_y) (rw is_z.same greatest_z))

    abbrev Fits : ℤ → Type 0
    Fits z = T (in_range z)

    least_fits : T (in_range least)
    unfolding least
    least_fits =
        lower_is (lower k.w k.x) (lower k.y k.z) Fits
        (lower_is k.w k.x Fits is_w.fits is_x.fits) (lower_is k.y k.z Fits is_y.fits is_z.fits)

    greatest_fits : T (in_range greatest)
    unfolding greatest
    greatest_fits =
        higher_is (higher k.w k.x) (higher k.y k.z) Fits
        (higher_is k.w k.x Fits is_w.fits is_x.fits) (higher_is k.y k.z Fits is_y.fits is_z.fits)

    in_ends : (z : ℤ) × (compute o x y ≡ number z) × (least ≤ℤ z) × (z ≤ℤ greatest)
    in_ends =
        let fits = in_range_between least (result o x y) greatest from_least to_greatest least_fits greatest_fits in
        let is_number = ap (λ t. cond t (number (result o x y)) (failed OutOfRange)) (true_test (in_range (result o x y)) fits) in
        (result o x y, computes o x c d y here ∙ is_number, from_least, to_greatest)

  ends_carried : CarriedEnds o a b c d v
  unfolding least greatest
  ends_carried = record { lowest = least; highest = greatest; is_numbers = k.is; ordered = order_trans least_w greatest_w; within = in_ends }

-- Where an arithmetic mark's ends are carried, every pair within the operands' ends has a result within them.
pub arithmetic_within : (o : Arithmetic) (a b c d : ℤ) (v : Carried) → carry_arithmetic o a b c d ≡ some v → CarriedEnds o a b c d v
unfolding carry_arithmetic
arithmetic_within o a b c d v q = by (divisor_may_be_zero o c d) refl q
  where
    by : (t : Bool) → divisor_may_be_zero o c d ≡ t → cond t none (over_ends o a b c d) ≡ some v → CarriedEnds o a b c d v
    by true p e = missing e
    by false p e = ends_carried o a b c d v p (corners o a b c d v e)
