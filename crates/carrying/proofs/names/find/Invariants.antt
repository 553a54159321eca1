-- A name along the chain of rows: so far it was not met.
use Prim.Native.Nat.{◌≤◌}
use Rattle.carrying.proofs.LookupLaws.{Walked}
use Rattle.carrying.proofs.names.find.Given as goal

abbrev pub invariant-loop-at : goal.invariant-loop-at
invariant-loop-at l = Walked l.work l.environment l.name l.at × (l.at ≤ l.environment)

abbrev pub decreases-loop-at : goal.decreases-loop-at
decreases-loop-at l = l.at
