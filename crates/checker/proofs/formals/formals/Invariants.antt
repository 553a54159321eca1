-- The Formals of an Abs one after the other: each gets its row, unless its name has one; so many are left.
use Prim.Native.Nat.{◌+◌, ◌-◌}
use Rattle.checker.proofs.laws.declarations.FormalLaws.{RowsSoFar}
use Rattle.checker.proofs.formals.formals.Given as goal

abbrev pub invariant-loop-at : goal.invariant-loop-at
invariant-loop-at l = RowsSoFar l.initial.work l.work l.scope l.scope l.node l.count l.newest l.at (l.node + l.count - l.at)
