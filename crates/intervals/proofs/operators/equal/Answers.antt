-- equal: by the first value's sort.
use Rattle.intervals.proofs.OperatorLaws.{equal_numbers, equal_others}
use Rattle.intervals.proofs.operators.equal.Goals as goal

pub returns-then-first-eq-NUMBERS : goal.returns-then-first-eq-NUMBERS
returns-then-first-eq-NUMBERS c = equal_numbers _ _ _ _ _ c.if-first-eq-NUMBERS.true c.same_number-same.ensures c.meet-may.ensures c.truths.ensures

pub returns-else-first-eq-NUMBERS : goal.returns-else-first-eq-NUMBERS
returns-else-first-eq-NUMBERS c = equal_others _ _ _ c.if-first-eq-NUMBERS.false c.same_truths.ensures
