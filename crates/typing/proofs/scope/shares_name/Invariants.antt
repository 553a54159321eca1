-- A name in two lots of rows: so far none was met.
use Rattle.typing.proofs.laws.scope.RowLaws.{Compared}
use Rattle.typing.proofs.scope.shares_name.Given as goal

abbrev pub invariant-loop-at : goal.invariant-loop-at
invariant-loop-at l = Compared l.work l.from l.middle l.to l.at

abbrev pub decreases-loop-at : goal.decreases-loop-at
decreases-loop-at l = l.at
