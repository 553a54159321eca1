-- Div gives the largest integer not above the quotient, as claims/Division.antt states it. For a divisor above 0 that is a fact on
-- the quotients of numbers, by the signs of the dividend; a divisor below 0 is one above 0 with both signs turned.
use Rattle.std.specs.Prelude.{ℕ, zero, suc, ◌-◌, ◌*◌, ◌/◌, ◌≤◌, ◌<◌, ◌≡◌, refl, Bool, true, false, cond, T, ℤ, pos, negsuc, neg_ℤ, ◌+ℤ◌, ◌-ℤ◌, ◌*ℤ◌, ◌≤ℤ◌}
use Rattle.std.proofs.Common.{sym, ap, ◌∙◌, arith, div-mul-le_self, le-div_iff_mul-le, div-lt_iff_lt-mul, div-le_self, suc-mul, le-ltb, leb→le, le→leb, ltb→lt, lt→ltb}
use Rattle.std.proofs.Math.Nat.{lt-div-mul-add, div-lt_self}
use Rattle.std.proofs.Math.IntN.{pos-ne-negsuc, neg_ℤ-neg_ℤ, *ℤ-negsuc, +ℤ_idr, +ℤ_one, +ℤ_assoc, +ℤ_invr, zero-*ℤ, -ℤ-+ℤ_cancel}
use Rattle.rules.proofs.Basics.{by_order, true_test}
use Rattle.rules.proofs.IntegerOrder.{at_most, above, same_by_order, negated_at_most, negation_turns, sum_keeps_order, successor_above, sum_of_products}
use Rattle.rules.specs.paper.Refusals.{OutOfRange}
use Rattle.rules.specs.paper.Tree.{Div}
use Rattle.rules.specs.paper.Integers.{range_bound, in_range, number, failed, ranged, floor, compute}
use Rattle.rules.specs.claims.Division.{NotAbove, LargestNotAbove, Between, Divided, Division, by_zero, lowest_by_minus_one, gives, DivisionClaim}

-- ---- A divisor above 0.

module _ (b : ℕ) where
  next_product : (a : ℕ) → a < suc (a / suc b) * suc b
  next_product a = rw (suc-mul (a / suc b) (suc b)) (lt-div-mul-add (omega arith))

  floor_not_above : (a : ℤ) → NotAbove (floor a (suc b)) a (pos (suc b))
  floor_not_above (pos a) = at_most (le→leb (a / suc b * suc b) a (div-mul-le_self a (suc b)))
  floor_not_above (negsuc a) = (negated_at_most (suc (a / suc b) * suc b) a).1 (next_product a)

  floor_largest : (a p : ℤ) → NotAbove p a (pos (suc b)) → p ≤ℤ floor a (suc b)
  floor_largest (pos a) (pos p) h = at_most (le→leb p (a / suc b) ((le-div_iff_mul-le (omega arith)).1 (leb→le (p * suc b) a h.le)))
  floor_largest (pos a) (negsuc p) h = at_most tt
  floor_largest (negsuc a) (pos p) h = absurd h.le
  floor_largest (negsuc a) (negsuc p) h =
      let below : a / suc b < suc p = (div-lt_iff_lt-mul {k = suc b} (omega arith)).1 ((negated_at_most (suc p * suc b) a).0 h) in
      at_most (le→leb (a / suc b) p (omega arith))

  largest_floor : (a : ℤ) → LargestNotAbove (floor a (suc b)) a (pos (suc b))
  largest_floor a = record { not_above = floor_not_above a; largest = floor_largest a }

  -- ---- A divisor below 0.

  both_turned : (q a : ℤ) → NotAbove q (neg_ℤ a) (pos (suc b)) → NotAbove q a (negsuc b)
  both_turned q a h = rw (*ℤ-negsuc q b, ← neg_ℤ-neg_ℤ a) (negation_turns h)

  turned_back : (q a : ℤ) → NotAbove q a (negsuc b) → NotAbove q (neg_ℤ a) (pos (suc b))
  turned_back q a h = rw (← neg_ℤ-neg_ℤ (q *ℤ pos (suc b)), ← *ℤ-negsuc q b) (negation_turns h)

  largest_turned : (a : ℤ) → LargestNotAbove (floor (neg_ℤ a) (suc b)) a (negsuc b)
  largest_turned a =
      record {
        not_above = both_turned (floor (neg_ℤ a) (suc b)) a (floor_not_above (neg_ℤ a));
        largest = λ p h. floor_largest (neg_ℤ a) p (turned_back p a h);
      }

-- ---- Both.

quotient_of : (a b : ℤ) → ℤ
quotient_of a (pos b) = floor a b
quotient_of a (negsuc b) = floor (neg_ℤ a) (suc b)

quotient_largest : (a b : ℤ) → (b ≡ pos 0 → ⊥) → LargestNotAbove (quotient_of a b) a b
unfolding quotient_of
quotient_largest a (pos zero) nonzero = absurd (nonzero refl)
quotient_largest a (pos (suc b)) nonzero = largest_floor b a
quotient_largest a (negsuc b) nonzero = largest_turned b a

quotient_answered : (a b : ℤ) → (b ≡ pos 0 → ⊥) → compute Div a b ≡ ranged (quotient_of a b)
unfolding quotient_of compute
quotient_answered a (pos zero) nonzero = absurd (nonzero refl)
quotient_answered a (pos (suc b)) nonzero = refl
quotient_answered a (negsuc b) nonzero = refl

one_largest : (p q a b : ℤ) → LargestNotAbove p a b → LargestNotAbove q a b → p ≡ q
one_largest p q a b h k = same_by_order p q (k.largest p h.not_above) (h.largest q k.not_above)

-- Were the next integer not above the quotient, it would be at most the largest.
next_above : (q a b : ℤ) → LargestNotAbove q a b → NotAbove (q +ℤ pos 1) a b → ⊥
next_above q a b h k = successor_above q (rw (+ℤ_one q) at (h.largest (q +ℤ pos 1) k))

largest_between : (q a b : ℤ) → LargestNotAbove q a b → Between q a b
largest_between q a (pos b) h = (h.not_above, above ((q +ℤ pos 1) *ℤ pos b) a (next_above q a (pos b) h))
largest_between q a (negsuc b) h = (h.not_above, above a ((q +ℤ pos 1) *ℤ negsuc b) (next_above q a (negsuc b) h))

divided : (a b : ℤ) → (b ≡ pos 0 → ⊥) → Divided a b
divided a b nonzero =
    let largest = quotient_largest a b nonzero in
    record {
      quotient = quotient_of a b;
      is_largest = largest;
      only = λ q h. one_largest q (quotient_of a b) a b h largest;
      between = largest_between (quotient_of a b) a b largest;
      answered = quotient_answered a b nonzero;
    }

-- ---- Integers of the range.

pub smaller_in_range : (m n : ℕ) → m ≤ n → T (in_range (pos n)) → T (in_range (pos m))
smaller_in_range m n smaller fits = lt→ltb m range_bound (omega (arith, ltb→lt n range_bound fits))

floor_in_range : (a : ℤ) (b : ℕ) → T (in_range a) → T (in_range (floor a b))
floor_in_range (pos a) b fits = smaller_in_range (a / b) a (div-le_self a b) fits
floor_in_range (negsuc a) b fits = smaller_in_range (a / b) a (div-le_self a b) fits

negated_in_range : (a : ℕ) → T (in_range (pos a)) → T (in_range (neg_ℤ (pos a)))
negated_in_range zero fits = tt
negated_in_range (suc a) fits = smaller_in_range a (suc a) (omega arith) fits

positive_nonzero : (b : ℕ) → pos (suc b) ≡ pos 0 → ⊥
positive_nonzero b e = let same : suc b ≡ 0 = cc in omega arith

negative_nonzero : (b : ℕ) → negsuc b ≡ pos 0 → ⊥
negative_nonzero b e = pos-ne-negsuc 0 b (sym e)

module _ (a b : ℤ) (nonzero : b ≡ pos 0 → ⊥) where
  given : (q : ℤ) → LargestNotAbove q a b → T (in_range q) → Division a b (ranged q)
  given q largest fits = rw (true_test (in_range q) fits) (gives q nonzero largest fits)

-- Only the lowest integer by −1 leaves the range: a larger divisor makes the quotient smaller.
negative_by_negative : (a b : ℕ) → T (in_range (negsuc a)) → Division (negsuc a) (negsuc b) (compute Div (negsuc a) (negsuc b))
unfolding compute
negative_by_negative a b fits =
    by_order (suc a / suc b) range_bound
    (λ low. given (negsuc a) (negsuc b) (negative_nonzero b) (pos (suc a / suc b)) (largest_turned b (negsuc a)) (lt→ltb (suc a / suc b) range_bound low))
    (λ high. rw (le-ltb (suc a / suc b) range_bound high) (lowest_by_minus_one (ap negsuc (lowest high)) (ap negsuc (one b high))))
  where
    lowest : range_bound ≤ suc a / suc b → a ≡ range_bound - 1
    lowest high = omega (arith, div-le_self (suc a) (suc b), ltb→lt a range_bound fits)

    one : (b : ℕ) → range_bound ≤ suc a / suc b → b ≡ 0
    one zero high = refl
    one (suc b) high = absurd (omega (arith, div-lt_self {n = suc a} {k = suc (suc b)} (omega arith) (omega arith), ltb→lt a range_bound fits))

answers : (a b : ℤ) → T (in_range a) → T (in_range b) → Division a b (compute Div a b)
unfolding compute
answers a (pos zero) fits_a fits_b = by_zero refl
answers a (pos (suc b)) fits_a fits_b = given a (pos (suc b)) (positive_nonzero b) (floor a (suc b)) (largest_floor b a) (floor_in_range a (suc b) fits_a)
answers (pos a) (negsuc b) fits_a fits_b =
    given (pos a) (negsuc b) (negative_nonzero b) (floor (neg_ℤ (pos a)) (suc b)) (largest_turned b (pos a)) (floor_in_range (neg_ℤ (pos a)) (suc b) (negated_in_range a fits_a))
answers (negsuc a) (negsuc b) fits_a fits_b = negative_by_negative a b fits_a

-- ---- A dividend moved by a multiple of the divisor.

not_above_moved : (k q a b : ℤ) → NotAbove q a b → NotAbove (q +ℤ k) (a +ℤ k *ℤ b) b
not_above_moved k q a (pos b) h = rw (sum_of_products q (pos b) k) (sum_keeps_order (k *ℤ pos b) h)
not_above_moved k q a (negsuc b) h = rw (sum_of_products q (negsuc b) k) (sum_keeps_order (k *ℤ negsuc b) h)

moved_back : (k a b : ℤ) → (a +ℤ k *ℤ b) +ℤ neg_ℤ k *ℤ b ≡ a
moved_back k a b =
    +ℤ_assoc a (k *ℤ b) (neg_ℤ k *ℤ b) ∙ ap (λ x. a +ℤ x) (sym (sum_of_products k b (neg_ℤ k)) ∙ ap (λ x. x *ℤ b) (+ℤ_invr k) ∙ zero-*ℤ b) ∙ +ℤ_idr a

largest_moved : (k q a b : ℤ) → LargestNotAbove q a b → LargestNotAbove (q +ℤ k) (a +ℤ k *ℤ b) b
largest_moved k q a b h = record { not_above = not_above_moved k q a b h.not_above; largest = at_most_moved }
  where
    at_most_moved : (p : ℤ) → NotAbove p (a +ℤ k *ℤ b) b → p ≤ℤ (q +ℤ k)
    at_most_moved p l =
        let back : NotAbove (p -ℤ k) a b = rw (← moved_back k a b) (not_above_moved (neg_ℤ k) p (a +ℤ k *ℤ b) b l) in
        rw (-ℤ-+ℤ_cancel p k) at (sum_keeps_order k (h.largest (p -ℤ k) back))

ranged_number : (z q : ℤ) → ranged z ≡ number q → z ≡ q
ranged_number z q = by (in_range z)
  where
    by : (t : Bool) → cond t (number z) (failed OutOfRange) ≡ number q → z ≡ q
    by true same = cc
    by false same = let clash : ◌≡◌ {A = ℕ} 0 1 = cc in absurd (omega arith)

by_nonzero : (a b q : ℤ) → compute Div a b ≡ number q → b ≡ pos 0 → ⊥
unfolding compute
by_nonzero a (pos zero) q given zeroed = let clash : ◌≡◌ {A = ℕ} 0 1 = cc in omega arith
by_nonzero a (pos (suc b)) q given zeroed = positive_nonzero b zeroed
by_nonzero a (negsuc b) q given zeroed = negative_nonzero b zeroed

moves : (k q a b : ℤ) → compute Div a b ≡ number q → compute Div (a +ℤ k *ℤ b) b ≡ ranged (q +ℤ k)
moves k q a b same =
    let nonzero = by_nonzero a b q same in
    let here = divided a b nonzero in
    let there = divided (a +ℤ k *ℤ b) b nonzero in
    let is : here.quotient ≡ q = ranged_number here.quotient q (sym here.answered ∙ same) in
    let moved : (q +ℤ k) ≡ there.quotient = there.only (q +ℤ k) (rw is at (largest_moved k here.quotient a b here.is_largest)) in
    there.answered ∙ ap ranged (sym moved)

-- ---- The claim.

pub division : DivisionClaim
division = record { divides = divided; answers = answers; moves = moves }
