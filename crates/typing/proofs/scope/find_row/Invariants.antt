-- The newest row of a name: so far the name has not been met.
use Rattle.typing.proofs.laws.scope.RowLaws.{Walked}
use Rattle.typing.proofs.scope.find_row.Given as goal

abbrev pub invariant-loop-at : goal.invariant-loop-at
invariant-loop-at l = Walked l.work l.from l.to l.name l.at

abbrev pub decreases-loop-at : goal.decreases-loop-at
decreases-loop-at l = l.at
