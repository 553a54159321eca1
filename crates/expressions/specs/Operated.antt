-- What an operator makes of the words of two operands.
use Rattle.std.specs.Prelude.{ℕ, ◌≡◌, Bool, eqb, Result, Ok}
use Rattle.rules.specs.declared.refusals.Reason.{Reason}
use Rattle.rules.specs.declared.kinds.Operator.{Operator}
use Rattle.rules.specs.declared.kinds.Operator.TheVariants.{Arithmetic as arithmetic, Eq, Order as order, Logic as logic}
use Rattle.rules.specs.claims.Listing.{truth_word}
use Rattle.rules.specs.paper.Integers.{compute, compare, combine}
use Rattle.integers.specs.Words.{integer_of, computed}

-- The integer that is computed, or the reason for which there is none; or the truth, by its word.
abbrev pub Operated : Operator → (first second : ℕ) → Result ℕ Reason → Type 0
Operated (arithmetic o) first second r = r ≡ computed (compute o (integer_of first) (integer_of second))
Operated Eq first second r = r ≡ Ok (truth_word (eqb first second))
Operated (order o) first second r = r ≡ Ok (truth_word (compare o (integer_of first) (integer_of second)))
Operated (logic o) first second r = (a b : Bool) → first ≡ truth_word a → second ≡ truth_word b → r ≡ Ok (truth_word (combine o a b))
