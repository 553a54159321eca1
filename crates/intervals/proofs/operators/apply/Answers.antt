-- apply: by the operator.
use Rattle.intervals.proofs.OperatorLaws.{by_arithmetic, by_equal, by_order, by_logic}
use Rattle.intervals.proofs.operators.apply.Goals as goal

pub returns-in-Arithmetic : goal.returns-in-Arithmetic
returns-in-Arithmetic c = rw c.in-Arithmetic.is (by_arithmetic _ _ _ _ _ c.arithmetic.ensures)

pub returns-in-Eq : goal.returns-in-Eq
returns-in-Eq c = rw c.in-Eq.is (by_equal _ _ _ _ c.equal.ensures)

pub returns-in-Order : goal.returns-in-Order
returns-in-Order c = rw c.in-Order.is (by_order _ _ _ _ _ c.compared_ends.ensures)

pub returns-in-Logic : goal.returns-in-Logic
returns-in-Logic c = rw c.in-Logic.is (by_logic _ _ _ _ _ c.combined.ensures)
