-- A Call's actuals one after the other, as many as are not given yet.
use Prim.Native.Nat.{◌-◌}
use Rattle.estimator.proofs.ActualLaws.{NeededSoFar}
use Rattle.estimator.proofs.expressions.actuals.Given as goal

abbrev pub invariant-loop-given : goal.invariant-loop-given
invariant-loop-given l = NeededSoFar l.work l.node l.count l.at l.given (l.count - l.given) l.need
