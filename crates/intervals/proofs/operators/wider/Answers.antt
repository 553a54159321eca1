-- wider: by the first value's sort.
use Rattle.intervals.proofs.OperatorLaws.{wider_numbers, wider_location, wider_truths}
use Rattle.intervals.proofs.operators.wider.Goals as goal

pub returns-then-first-eq-NUMBERS : goal.returns-then-first-eq-NUMBERS
returns-then-first-eq-NUMBERS c = wider_numbers _ _ _ c.if-first-eq-NUMBERS.true c.wider_ends.ensures

pub returns-then-first-eq-LOCATION : goal.returns-then-first-eq-LOCATION
returns-then-first-eq-LOCATION c = wider_location _ _ c.if-first-eq-LOCATION.true

pub returns-else-first-eq-LOCATION : goal.returns-else-first-eq-LOCATION
returns-else-first-eq-LOCATION c = wider_truths _ _ c.if-first-eq-NUMBERS.false c.if-first-eq-LOCATION.false
