-- The Formals of an Abs one after the other: each gets an entry.
use Prim.Native.Nat.{◌+◌, ◌-◌}
use Rattle.estimator.proofs.NameLaws.{NamedSoFar}
use Rattle.estimator.proofs.commands.formals.Given as goal

abbrev pub invariant-loop-formal : goal.invariant-loop-formal
invariant-loop-formal l = NamedSoFar l.initial.work l.work l.scope l.node l.count l.newest l.formal (l.node + l.count - l.formal)
