-- Which carried value a sort and two words hold, and what the operators' functions answer in words. Of numbers the words are the two ends; of a
-- location both are the location; of truths they are 1 or 0: whether false is possible, and whether true is.
use Rattle.std.specs.Prelude.{ℕ, ◌≡◌, Bool, true, false, T, ℤ, Result, Ok, Option as Present, Some, None}
use Rattle.std.proofs.Math.Option.{Option, none, some}
use Rattle.rules.specs.declared.kinds.Order.{Order}
use Rattle.rules.specs.declared.refusals.Refusal.TheVariants.{UnsafeArithmetic}
use Rattle.rules.specs.declared.refusals.Refused.{Refused}
use Rattle.rules.specs.Answers.{refused_at}
use Rattle.rules.specs.paper.Integers.{Result as Computed, number, failed, in_range, equal_truths, combine}
use Rattle.rules.specs.declared.kinds.Logic.TheVariants.{And, Or}
use Rattle.rules.specs.paper.Carried.{Carried, numbers, truths, location, Carrying, carried, unsafe, unfit, lower, higher, carry_order, carry_choice}
use Rattle.integers.specs.Words.{word_of}
use Rattle.intervals.specs.declared.values.Value.{Value}

-- ---- The sorts' numbers, and the word of a truth's being possible.

abbrev pub numbers_sort : ℕ
numbers_sort = 0

abbrev pub location_sort : ℕ
location_sort = 1

abbrev pub truths_sort : ℕ
truths_sort = 2

abbrev pub flag : Bool → ℕ
flag false = 0
flag true = 1

abbrev pub numbers_value : ℤ → ℤ → Value
numbers_value a b = record { sort = numbers_sort; low = word_of a; high = word_of b }

abbrev pub truths_value : Bool → Bool → Value
truths_value f t = record { sort = truths_sort; low = flag f; high = flag t }

pub data HoldsValue (r : Value) : Carried → Type 0 where
  holds_numbers : {a b : ℤ} → r.sort ≡ numbers_sort → r.low ≡ word_of a → r.high ≡ word_of b → T (in_range a) → T (in_range b) → HoldsValue r (numbers a b)
  holds_truths : {f t : Bool} → r.sort ≡ truths_sort → r.low ≡ flag f → r.high ≡ flag t → HoldsValue r (truths f t)
  holds_location : {l : ℕ} → r.sort ≡ location_sort → r.low ≡ l → r.high ≡ l → HoldsValue r (location l)

-- ---- What carrying comes to, as an answer. Where it is unfit, which it is of no passed image, nothing is said.

abbrev pub ExpressedAs : Carrying Carried → Result Value Refused → Type 0
ExpressedAs (carried v) r = (x : Value) × (r ≡ Ok x) × HoldsValue x v
ExpressedAs (unsafe p) r = r ≡ refused_at UnsafeArithmetic p
ExpressedAs unfit r = Unit {0}

-- The same of what cannot be unsafe.
abbrev pub Gives : Carrying Carried → Value → Type 0
Gives (carried v) r = HoldsValue r v
Gives (unsafe p) r = ⊥
Gives unfit r = Unit {0}

-- ---- Arithmetic.

-- The two ends in words, where there are ends.
abbrev pub span_words : Option Carried → Present (ℕ × ℕ)
span_words none = None
span_words (some (numbers a b)) = Some (word_of a, word_of b)
span_words (some (truths f t)) = None
span_words (some (location l)) = None

-- The least and the greatest of two results.
abbrev pub two_results : Computed → Computed → Present (ℕ × ℕ)
two_results (number w) (number x) = Some (word_of (lower w x), word_of (higher w x))
two_results (number w) (failed r) = None
two_results (failed r) x = None

-- ---- Comparisons and choices.

abbrev pub OrderCarried : Order → (a b c d : ℤ) → Value → Type 0
OrderCarried o a b c d r = HoldsValue r (carry_order o a b c d)

abbrev pub ChoiceCarried : (Bool → Bool → Bool) → (first second r : Value) → Type 0
ChoiceCarried give first second r = (f t g u : Bool) → HoldsValue first (truths f t) → HoldsValue second (truths g u) → HoldsValue r (carry_choice give f t g u)

abbrev pub AndCarried : (first second r : Value) → Type 0
AndCarried first second r = ChoiceCarried (combine And) first second r

abbrev pub OrCarried : (first second r : Value) → Type 0
OrCarried first second r = ChoiceCarried (combine Or) first second r

abbrev pub SameTruthsCarried : (first second r : Value) → Type 0
SameTruthsCarried first second r = ChoiceCarried equal_truths first second r
