-- The Formals are named one after the other.
use Rattle.carrying.proofs.ActualLaws.{NamedSoFar}
use Rattle.carrying.proofs.functions.formals.Given as goal

abbrev pub invariant-loop-at : goal.invariant-loop-at
invariant-loop-at l = NamedSoFar l.initial.work l.work l.formal l.count l.row l.below l.at l.newest
