-- The need of a name: so far the name was not met.
use Rattle.estimator.proofs.EntryLaws.{Walked}
use Rattle.estimator.proofs.names.need_of.Given as goal

abbrev pub invariant-loop-at : goal.invariant-loop-at
invariant-loop-at l = Walked l.work l.scope l.name l.at

abbrev pub decreases-loop-at : goal.decreases-loop-at
decreases-loop-at l = l.at
