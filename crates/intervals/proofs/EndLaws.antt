-- Numbers by their ends: the lower and the higher of two integers are of the range, and what a value that holds numbers says of its words.
use Rattle.std.specs.Prelude.{◌≡◌, Bool, true, false, cond, T, ℤ, pos}
use Rattle.std.specs.Int.Signed.{lt_z}
use Rattle.std.proofs.Common.{ap, ◌∙◌, arith}
use Rattle.rules.specs.paper.Integers.{in_range}
use Rattle.rules.specs.paper.Carried.{numbers, lower, higher}
use Rattle.integers.specs.Words.{integer_of}
use Rattle.integers.specs.WordLaws.{integer_low, integer_of_word}
use Rattle.intervals.specs.declared.values.Value.{Value}
use Rattle.intervals.specs.Values.{HoldsValue, holds_numbers}

pub zero_integer : integer_of 0 ≡ pos 0
zero_integer = integer_low 0 (omega arith)

-- One of two integers of the range is of the range.
picked : (y z : ℤ) → T (in_range y) → T (in_range z) → (t : Bool) → T (in_range (cond t y z))
picked y z first second true = first
picked y z first second false = second

pub lower_in_range : (y z : ℤ) → T (in_range y) → T (in_range z) → T (in_range (lower y z))
unfolding lower
lower_in_range y z first second = picked y z first second (lt_z y z)

pub higher_in_range : (y z : ℤ) → T (in_range y) → T (in_range z) → T (in_range (higher y z))
unfolding higher
higher_in_range y z first second = picked z y second first (lt_z y z)

-- ---- The words of a value that holds numbers.

module _ {r : Value} {a b : ℤ} where
  pub low_end : HoldsValue r (numbers a b) → integer_of r.low ≡ a
  low_end (holds_numbers s l h p q) = ap integer_of l ∙ integer_of_word a p

  pub high_end : HoldsValue r (numbers a b) → integer_of r.high ≡ b
  high_end (holds_numbers s l h p q) = ap integer_of h ∙ integer_of_word b q

  pub low_in_range : HoldsValue r (numbers a b) → T (in_range a)
  low_in_range (holds_numbers s l h p q) = p

  pub high_in_range : HoldsValue r (numbers a b) → T (in_range b)
  high_in_range (holds_numbers s l h p q) = q
