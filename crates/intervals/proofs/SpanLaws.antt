-- Sum, Sub, Mul and Div over the ends: the least and the greatest of two results, then of four, in words; where a result is missing or a divisor may
-- be 0 there are no ends; and what the operator's answer holds.
use Rattle.std.specs.Prelude.{ℕ, ◌≡◌, Bool, true, false, cond, T, ℤ, Result, Ok, Option as Present, Some, None, refl}
use Rattle.std.proofs.Common.{sym, ap, ◌∙◌}
use Rattle.std.proofs.Math.Option.{Option, none, some}
use Rattle.std.specs.Result.{result_ok}
use Rattle.rules.specs.declared.refusals.Reason.{Reason}
use Rattle.rules.specs.declared.refusals.Refusal.TheVariants.{UnsafeArithmetic}
use Rattle.rules.specs.declared.kinds.Arithmetic.{Arithmetic}
use Rattle.rules.specs.Answers.{refused_at}
use Rattle.rules.specs.paper.Integers.{Result as Computed, number, failed, in_range, compute}
use Rattle.rules.specs.paper.Carried.{Carried, numbers, truths, location, lower, higher, safe, with_number, over_ends, divisor_may_be_zero, carry_arithmetic}
use Rattle.integers.specs.Words.{integer_of, word_of, computed}
use Rattle.integers.specs.WordLaws.{integer_of_word, computed_in_range}
use Rattle.intervals.specs.declared.values.Value.{Value}
use Rattle.intervals.specs.Values.{numbers_sort, HoldsValue, holds_numbers, ExpressedAs, span_words, two_results}
use Rattle.intervals.proofs.EndLaws.{lower_in_range, higher_in_range, low_end, high_end}

-- ---- Two results.

-- What the code finds of a result in words: none, or a word.
pub first_missing : (p q : Computed) (r : Result ℕ Reason) → r ≡ computed p → None ≡ result_ok r → None ≡ two_results p q
unfolding computed
first_missing (number w) q r told missing = let clash : ◌≡◌ {A = Present ℕ} None (Some (word_of w)) = rw told at missing in cc
first_missing (failed x) q r told missing = refl

pub second_missing : (p q : Computed) (r : Result ℕ Reason) → r ≡ computed q → None ≡ result_ok r → None ≡ two_results p q
unfolding computed
second_missing (number w) (number x) r told missing = let clash : ◌≡◌ {A = Present ℕ} None (Some (word_of x)) = rw told at missing in cc
second_missing (number w) (failed x) r told missing = refl
second_missing (failed y) q r told missing = refl

pub word_found : (p : Computed) (w : ℕ) (r : Result ℕ Reason) → r ≡ computed p → Some w ≡ result_ok r → computed p ≡ Ok w
unfolding computed
word_found (number z) w r told found = let same : ◌≡◌ {A = Present ℕ} (Some w) (Some (word_of z)) = rw told at found in cc
word_found (failed x) w r told found = let clash : ◌≡◌ {A = Present ℕ} (Some w) None = rw told at found in cc

pub two_numbers : (p q : Computed) (w x least greatest : ℕ) → p ≡ number (integer_of w) → q ≡ number (integer_of x) →
    least ≡ word_of (lower (integer_of w) (integer_of x)) → greatest ≡ word_of (higher (integer_of w) (integer_of x)) →
    Some (least, greatest) ≡ two_results p q
two_numbers p q w x least greatest is_w is_x is_least is_greatest = rw (is_w, is_x, is_least, is_greatest)

same_ends : {a b c d : ℕ} → ◌≡◌ {A = Present (ℕ × ℕ)} (Some (a, b)) (Some (c, d)) → (a ≡ c) × (b ≡ d)
same_ends {a} {b} {c} {d} e = let pairs : ◌≡◌ {A = ℕ × ℕ} (a, b) (c, d) = cc in (ap (λ (p : ℕ × ℕ). p.0) pairs, ap (λ (p : ℕ × ℕ). p.1) pairs)

-- Any number that a result is is of the range.
abbrev Ranged : Computed → Type 0
Ranged p = (y : ℤ) → p ≡ number y → T (in_range y)

-- Two results with these ends are two numbers, and the ends hold the lower and the higher of them.
record Two (p q : Computed) (least greatest : ℕ) : Type 0 where
  first : ℤ
  second : ℤ
  is_first : p ≡ number first
  is_second : q ≡ number second
  is_lower : integer_of least ≡ lower first second
  is_higher : integer_of greatest ≡ higher first second

two : (p q : Computed) (least greatest : ℕ) → Ranged p → Ranged q → Some (least, greatest) ≡ two_results p q → Two p q least greatest
two (number w) (number x) least greatest ranges_p ranges_q told =
    let ends = same_ends told in
    let low = ends.0 in
    let high = ends.1 in
    record {
      first = w;
      second = x;
      is_first = refl;
      is_second = refl;
      is_lower = ap integer_of low ∙ integer_of_word (lower w x) (lower_in_range w x (ranges_p w refl) (ranges_q x refl));
      is_higher = ap integer_of high ∙ integer_of_word (higher w x) (higher_in_range w x (ranges_p w refl) (ranges_q x refl));
    }
two (number w) (failed r) least greatest ranges_p ranges_q told = cc
two (failed r) q least greatest ranges_p ranges_q told = cc

-- ---- Four results.

abbrev over_results : (p q r s : Computed) → Option Carried
over_results p q r s =
    with_number p (λ w.
    with_number q (λ x.
    with_number r (λ y.
    with_number s (λ z.
    some (numbers (lower (lower w x) (lower y z)) (higher (higher w x) (higher y z)))))))

first_open : (p q r s : Computed) → None ≡ two_results p q → None ≡ span_words (over_results p q r s)
first_open (number w) (number x) r s told = cc
first_open (number w) (failed x) r s told = refl
first_open (failed w) q r s told = refl

second_open : (p q r s : Computed) → None ≡ two_results r s → None ≡ span_words (over_results p q r s)
second_open (number w) (number x) (number y) (number z) told = cc
second_open (number w) (number x) (number y) (failed z) told = refl
second_open (number w) (number x) (failed y) s told = refl
second_open (number w) (failed x) r s told = refl
second_open (failed w) q r s told = refl

all_ends : (p q r s : Computed) (l g m h least greatest : ℕ) → Two p q l g → Two r s m h → least ≡ word_of (lower (integer_of l) (integer_of m)) →
    greatest ≡ word_of (higher (integer_of g) (integer_of h)) → Some (least, greatest) ≡ span_words (over_results p q r s)
all_ends p q r s l g m h least greatest one other is_least is_greatest =
    rw (is_least, is_greatest, one.is_first, one.is_second, other.is_first, other.is_second, one.is_lower, one.is_higher, other.is_lower, other.is_higher)

-- ---- The operators over the ends a and b, c and d.

over_four : (o : Arithmetic) (a b c d : ℤ) → divisor_may_be_zero o c d ≡ false →
    carry_arithmetic o a b c d ≡ over_results (compute o a c) (compute o a d) (compute o b c) (compute o b d)
unfolding carry_arithmetic over_ends
over_four o a b c d safe = rw safe

module _ (o : Arithmetic) (a b c d : ℤ) (may : Bool) (told : may ≡ divisor_may_be_zero o c d) where
  pub zero_refused : may ≡ true → None ≡ span_words (carry_arithmetic o a b c d)
  unfolding carry_arithmetic
  zero_refused holds = rw (sym told ∙ holds)

  module _ (safe : may ≡ false) where
    carried_four : span_words (over_results (compute o a c) (compute o a d) (compute o b c) (compute o b d)) ≡ span_words (carry_arithmetic o a b c d)
    carried_four = ap span_words (sym (over_four o a b c d (sym told ∙ safe)))

    pub no_first_ends : None ≡ two_results (compute o a c) (compute o a d) → None ≡ span_words (carry_arithmetic o a b c d)
    no_first_ends missing = first_open (compute o a c) (compute o a d) (compute o b c) (compute o b d) missing ∙ carried_four

    pub no_second_ends : None ≡ two_results (compute o b c) (compute o b d) → None ≡ span_words (carry_arithmetic o a b c d)
    no_second_ends missing = second_open (compute o a c) (compute o a d) (compute o b c) (compute o b d) missing ∙ carried_four

    pub ends_of_four : (l g m h least greatest : ℕ) → Some (l, g) ≡ two_results (compute o a c) (compute o a d) →
        Some (m, h) ≡ two_results (compute o b c) (compute o b d) → least ≡ word_of (lower (integer_of l) (integer_of m)) →
        greatest ≡ word_of (higher (integer_of g) (integer_of h)) → Some (least, greatest) ≡ span_words (carry_arithmetic o a b c d)
    ends_of_four l g m h least greatest one other is_least is_greatest =
        all_ends (compute o a c) (compute o a d) (compute o b c) (compute o b d) l g m h least greatest
        (two (compute o a c) (compute o a d) l g (computed_in_range o a c) (computed_in_range o a d) one)
        (two (compute o b c) (compute o b d) m h (computed_in_range o b c) (computed_in_range o b d) other)
        is_least is_greatest
        ∙ carried_four

-- ---- The operator's answer.

-- None, or numbers whose ends are of the range.
abbrev Spanned : Option Carried → Type 0
Spanned none = Unit {0}
Spanned (some (numbers a b)) = T (in_range a) × T (in_range b)
Spanned (some (truths f t)) = ⊥
Spanned (some (location l)) = ⊥

results_spanned : (p q r s : Computed) → Ranged p → Ranged q → Ranged r → Ranged s → Spanned (over_results p q r s)
results_spanned (number w) (number x) (number y) (number z) f g h k = (
  lower_in_range (lower w x) (lower y z) (lower_in_range w x (f w refl) (g x refl)) (lower_in_range y z (h y refl) (k z refl)),
  higher_in_range (higher w x) (higher y z) (higher_in_range w x (f w refl) (g x refl)) (higher_in_range y z (h y refl) (k z refl)),
)
results_spanned (number w) (number x) (number y) (failed z) f g h k = tt
results_spanned (number w) (number x) (failed y) s f g h k = tt
results_spanned (number w) (failed x) r s f g h k = tt
results_spanned (failed w) q r s f g h k = tt

spanned : (o : Arithmetic) (a b c d : ℤ) → Spanned (carry_arithmetic o a b c d)
unfolding carry_arithmetic over_ends
spanned o a b c d = by_test (divisor_may_be_zero o c d)
  where
    by_test : (t : Bool) → Spanned (cond t none (over_results (compute o a c) (compute o a d) (compute o b c) (compute o b d)))
    by_test true = tt
    by_test false =
        results_spanned (compute o a c) (compute o a d) (compute o b c) (compute o b d)
        (computed_in_range o a c) (computed_in_range o a d) (computed_in_range o b c) (computed_in_range o b d)

open_is_unsafe : (x : Option Carried) (node : ℕ) → Spanned x → None ≡ span_words x → ExpressedAs (safe node x) (refused_at UnsafeArithmetic node)
open_is_unsafe none node spans told = refl
open_is_unsafe (some (numbers a b)) node spans told = cc
open_is_unsafe (some (truths f t)) node spans told = absurd spans
open_is_unsafe (some (location l)) node spans told = absurd spans

ends_are_carried : (x : Option Carried) (node low high : ℕ) → Spanned x → Some (low, high) ≡ span_words x →
    ExpressedAs (safe node x) (Ok (record { sort = numbers_sort; low = low; high = high }))
ends_are_carried none node low high spans told = cc
ends_are_carried (some (numbers a b)) node low high spans told =
    let ends = same_ends told in
    (record { sort = numbers_sort; low = low; high = high }, refl, holds_numbers refl ends.0 ends.1 spans.0 spans.1)
ends_are_carried (some (truths f t)) node low high spans told = absurd spans
ends_are_carried (some (location l)) node low high spans told = absurd spans

module _ (o : Arithmetic) (node : ℕ) {first second : Value} {a b c d : ℤ} (f : HoldsValue first (numbers a b)) (g : HoldsValue second (numbers c d)) where
  at_ends : carry_arithmetic o (integer_of first.low) (integer_of first.high) (integer_of second.low) (integer_of second.high) ≡ carry_arithmetic o a b c d
  at_ends = rw (low_end f, high_end f, low_end g, high_end g)

  pub not_carried : None ≡ span_words (carry_arithmetic o (integer_of first.low) (integer_of first.high) (integer_of second.low) (integer_of second.high)) →
      ExpressedAs (safe node (carry_arithmetic o a b c d)) (refused_at UnsafeArithmetic node)
  not_carried told = open_is_unsafe (carry_arithmetic o a b c d) node (spanned o a b c d) (told ∙ ap span_words at_ends)

  pub is_carried : (low high : ℕ) →
      Some (low, high) ≡ span_words (carry_arithmetic o (integer_of first.low) (integer_of first.high) (integer_of second.low) (integer_of second.high)) →
      ExpressedAs (safe node (carry_arithmetic o a b c d)) (Ok (record { sort = numbers_sort; low = low; high = high }))
  is_carried low high told = ends_are_carried (carry_arithmetic o a b c d) node low high (spanned o a b c d) (told ∙ ap span_words at_ends)
