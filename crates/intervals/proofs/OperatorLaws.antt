-- The operators, Eq, Not and the wider of two values: what each comes to by the sorts of what it is given.
use Prim.Native.Nat.{ℕ}
use Rattle.std.specs.Prelude.{Result, Ok, bit_or}
use Rattle.rules.specs.declared.refusals.Refused.{Refused}
use mathlib.Core.Path.{◌≡◌, refl}
use mathlib.Core.Bool.{Bool, true, false, cond, not, ◌&&◌, ◌||◌}
use mathlib.Core.Option.{none, some}
use native.Mathlib.Omega.{arith}
use lib.Dec.{eqb}
use lib.IntN.{ℤ}
use lib.Signed.{lt_z}
use Rattle.rules.specs.declared.kinds.Arithmetic.{Arithmetic}
use Rattle.rules.specs.declared.kinds.Order.{Order}
use Rattle.rules.specs.declared.kinds.Order.TheVariants.{Lt, Le, Gt, Ge}
use mathlib.Core.Logic.{◌⊎◌, inl, inr}
use Rattle.rules.specs.declared.kinds.Logic.{Logic}
use Rattle.rules.specs.declared.kinds.Operator.{Operator}
use Rattle.rules.specs.declared.kinds.Operator.TheVariants.{Arithmetic as arithmetic, Eq, Order as order, Logic as logic}
use Rattle.rules.specs.paper.Integers.{compare, equal_integers, equal_truths, combine}
use Rattle.rules.specs.paper.Carried.{Carried, numbers, truths, location, lower, higher, safe, carry_arithmetic, carry_order, carry_equal, carry_choice, carry_not, carry_both_equal, carry_operator, carry_negation, wider}
use Rattle.integers.specs.Words.{integer_of}
use Rattle.intervals.specs.declared.values.Value.{Value}
use Rattle.intervals.specs.Values.{numbers_sort, location_sort, truths_sort, numbers_value, truths_value, HoldsValue, holds_numbers, holds_truths, holds_location, ExpressedAs, Gives}
use Rattle.intervals.proofs.ChoiceLaws.{some_flag, value_holds, false_word, true_word}
use Rattle.intervals.proofs.EndLaws.{lower_in_range, higher_in_range, low_end, high_end, low_in_range, high_in_range}

-- ---- The sort of what a value holds.

module _ {r : Value} where
  numbers_sorted : {a b : ℤ} → HoldsValue r (numbers a b) → r.sort ≡ numbers_sort
  numbers_sorted (holds_numbers s l h p q) = s

  truths_sorted : {f t : Bool} → HoldsValue r (truths f t) → r.sort ≡ truths_sort
  truths_sorted (holds_truths s l h) = s

  location_sorted : {l : ℕ} → HoldsValue r (location l) → r.sort ≡ location_sort
  location_sorted (holds_location s l h) = s

-- ---- Not.

pub negated : (first : Value) (v : Carried) → HoldsValue first v → Gives (carry_negation v) (record { sort = truths_sort; low = first.high; high = first.low })
unfolding carry_not
negated first (numbers a b) holds = tt
negated first (truths f t) holds = holds_truths refl (true_word holds) (false_word holds)
negated first (location l) holds = tt

-- ---- Eq.

module _ (first second r : Value) where
  abbrev IsEqual : Type 0
  IsEqual = (v w : Carried) → HoldsValue first v → HoldsValue second w → Gives (carry_both_equal v w) r

  pub equal_numbers : (same may : Bool) → first.sort ≡ numbers_sort →
      same ≡ (equal_integers (integer_of first.low) (integer_of second.high) && equal_integers (integer_of first.high) (integer_of second.low)) →
      may ≡ (not (lt_z (integer_of second.high) (integer_of first.low)) && not (lt_z (integer_of first.high) (integer_of second.low))) →
      r ≡ truths_value (not same) may → IsEqual
  unfolding carry_equal
  equal_numbers same may sorted told_same told_may told (numbers a b) (numbers c d) f g =
      value_holds (not (equal_integers a d && equal_integers b c)) (not (lt_z d a) && not (lt_z b c)) (rw (← low_end f, ← high_end f, ← low_end g, ← high_end g) (rw (← told_same, ← told_may) told))
  equal_numbers same may sorted told_same told_may told (numbers a b) (truths g u) f h = tt
  equal_numbers same may sorted told_same told_may told (numbers a b) (location l) f h = tt
  equal_numbers same may sorted told_same told_may told (truths f t) w h k = absurd (omega (arith, sorted, truths_sorted h))
  equal_numbers same may sorted told_same told_may told (location l) w h k = tt

  pub equal_others : (first.sort ≡ numbers_sort → ⊥) →
      ((f t g u : Bool) → HoldsValue first (truths f t) → HoldsValue second (truths g u) → HoldsValue r (carry_choice equal_truths f t g u)) →
      IsEqual
  equal_others unsorted chosen (numbers a b) w f g = absurd (unsorted (numbers_sorted f))
  equal_others unsorted chosen (truths f t) (numbers c d) h k = tt
  equal_others unsorted chosen (truths f t) (truths g u) h k = chosen f t g u h k
  equal_others unsorted chosen (truths f t) (location l) h k = tt
  equal_others unsorted chosen (location l) w h k = tt

-- ---- The orders.

pub below_carried : (o : Order) (a b c d : ℤ) (r : Value) → (o ≡ Lt) ⊎ (o ≡ Le) → r ≡ truths_value (not (compare o b c)) (compare o a d) →
    HoldsValue r (carry_order o a b c d)
unfolding carry_order
below_carried Lt a b c d r is told = value_holds (not (compare Lt b c)) (compare Lt a d) told
below_carried Le a b c d r is told = value_holds (not (compare Le b c)) (compare Le a d) told
below_carried Gt a b c d r (inl is) told = cc
below_carried Gt a b c d r (inr is) told = cc
below_carried Ge a b c d r (inl is) told = cc
below_carried Ge a b c d r (inr is) told = cc

pub above_carried : (o : Order) (a b c d : ℤ) (r : Value) → (o ≡ Gt) ⊎ (o ≡ Ge) → r ≡ truths_value (not (compare o a d)) (compare o b c) →
    HoldsValue r (carry_order o a b c d)
unfolding carry_order
above_carried Lt a b c d r (inl is) told = cc
above_carried Lt a b c d r (inr is) told = cc
above_carried Le a b c d r (inl is) told = cc
above_carried Le a b c d r (inr is) told = cc
above_carried Gt a b c d r is told = value_holds (not (compare Gt a d)) (compare Gt b c) told
above_carried Ge a b c d r is told = value_holds (not (compare Ge a d)) (compare Ge b c) told

-- ---- An operator at a node.

module _ (node : ℕ) (first second : Value) where
  abbrev IsExpressed : Operator → Result Value Refused → Type 0
  IsExpressed o r = (v w : Carried) → HoldsValue first v → HoldsValue second w → ExpressedAs (carry_operator node o v w) r

  pub by_arithmetic : (o : Arithmetic) (r : Result Value Refused) →
      ((a b c d : ℤ) → HoldsValue first (numbers a b) → HoldsValue second (numbers c d) → ExpressedAs (safe node (carry_arithmetic o a b c d)) r) →
      IsExpressed (arithmetic o) r
  unfolding carry_operator
  by_arithmetic o r told (numbers a b) (numbers c d) h k = told a b c d h k
  by_arithmetic o r told (numbers a b) (truths g u) h k = tt
  by_arithmetic o r told (numbers a b) (location l) h k = tt
  by_arithmetic o r told (truths f t) w h k = tt
  by_arithmetic o r told (location l) w h k = tt

  module _ (r : Value) where
    pub by_equal : IsEqual first second r → IsExpressed Eq (Ok r)
    unfolding carry_operator
    by_equal told (numbers a b) (numbers c d) h k = (r, refl, told (numbers a b) (numbers c d) h k)
    by_equal told (numbers a b) (truths g u) h k = tt
    by_equal told (numbers a b) (location l) h k = tt
    by_equal told (truths f t) (numbers c d) h k = tt
    by_equal told (truths f t) (truths g u) h k = (r, refl, told (truths f t) (truths g u) h k)
    by_equal told (truths f t) (location l) h k = tt
    by_equal told (location l) w h k = tt

    pub by_order : (o : Order) →
        HoldsValue r (carry_order o (integer_of first.low) (integer_of first.high) (integer_of second.low) (integer_of second.high)) →
        IsExpressed (order o) (Ok r)
    unfolding carry_operator
    by_order o told (numbers a b) (numbers c d) h k = (r, refl, rw (← low_end h, ← high_end h, ← low_end k, ← high_end k) told)
    by_order o told (numbers a b) (truths g u) h k = tt
    by_order o told (numbers a b) (location l) h k = tt
    by_order o told (truths f t) w h k = tt
    by_order o told (location l) w h k = tt

    pub by_logic : (o : Logic) →
        ((f t g u : Bool) → HoldsValue first (truths f t) → HoldsValue second (truths g u) → HoldsValue r (carry_choice (combine o) f t g u)) →
        IsExpressed (logic o) (Ok r)
    unfolding carry_operator
    by_logic o told (truths f t) (truths g u) h k = (r, refl, told f t g u h k)
    by_logic o told (truths f t) (numbers c d) h k = tt
    by_logic o told (truths f t) (location l) h k = tt
    by_logic o told (numbers a b) w h k = tt
    by_logic o told (location l) w h k = tt

-- ---- The wider of two values.

module _ (first second : Value) where
  abbrev IsWider : Value → Type 0
  IsWider r = (v w x : Carried) → HoldsValue first v → HoldsValue second w → wider v w ≡ some x → HoldsValue r x

  wider_held : (r : Value) (a b c d : ℤ) → HoldsValue first (numbers a b) → HoldsValue second (numbers c d) →
      r ≡ numbers_value (lower a c) (higher b d) → HoldsValue r (numbers (lower a c) (higher b d))
  wider_held r a b c d f g told =
      rw told
      (holds_numbers refl refl refl
      (lower_in_range a c (low_in_range f) (low_in_range g))
      (higher_in_range b d (high_in_range f) (high_in_range g)))

  pub wider_numbers : (r : Value) → first.sort ≡ numbers_sort →
      r ≡ numbers_value (lower (integer_of first.low) (integer_of second.low)) (higher (integer_of first.high) (integer_of second.high)) →
      IsWider r
  wider_numbers r sorted told (numbers a b) (numbers c d) x f g e =
      let same : numbers (lower a c) (higher b d) ≡ x = cc in
      rw same at (wider_held r a b c d f g (rw (low_end f, high_end f, low_end g, high_end g) at told))
  wider_numbers r sorted told (numbers a b) (truths g u) x f h e = cc
  wider_numbers r sorted told (numbers a b) (location l) x f h e = cc
  wider_numbers r sorted told (truths f t) w x h k e = absurd (omega (arith, sorted, truths_sorted h))
  wider_numbers r sorted told (location l) w x h k e = absurd (omega (arith, sorted, location_sorted h))

  same_location : (k : ℕ) (x : Carried) (t : Bool) → HoldsValue first (location k) → cond t (some (location k)) none ≡ some x → HoldsValue first x
  same_location k x true h e = let same : location k ≡ x = cc in rw same at h
  same_location k x false h e = cc

  pub wider_location : first.sort ≡ location_sort → IsWider first
  wider_location sorted (numbers a b) w x f g e = absurd (omega (arith, sorted, numbers_sorted f))
  wider_location sorted (truths f t) w x h k e = absurd (omega (arith, sorted, truths_sorted h))
  wider_location sorted (location l) (numbers c d) x h k e = cc
  wider_location sorted (location l) (truths g u) x h k e = cc
  wider_location sorted (location l) (location m) x h k e = same_location l x (eqb l m) h e

  pub wider_truths : (first.sort ≡ numbers_sort → ⊥) → (first.sort ≡ location_sort → ⊥) →
      IsWider (record { sort = truths_sort; low = bit_or first.low second.low; high = bit_or first.high second.high })
  wider_truths no_numbers no_location (numbers a b) w x h k e = absurd (no_numbers (numbers_sorted h))
  wider_truths no_numbers no_location (truths f t) (numbers c d) x h k e = cc
  wider_truths no_numbers no_location (truths f t) (truths g u) x h k e =
      let same : truths (f || g) (t || u) ≡ x = cc in
      let held : HoldsValue (record { sort = truths_sort; low = bit_or first.low second.low; high = bit_or first.high second.high }) (truths (f || g) (t || u)) =
      holds_truths refl (rw (false_word h, false_word k) (some_flag f g)) (rw (true_word h, true_word k) (some_flag t u)) in
      rw same at held
  wider_truths no_numbers no_location (truths f t) (location l) x h k e = cc
  wider_truths no_numbers no_location (location l) w x h k e = absurd (no_location (location_sorted h))
