-- A Call's actuals one after the other, their codes packed: so many are left.
use Prim.Native.Nat.{◌-◌}
use Rattle.checker.proofs.laws.commands.ActualLaws.{CodedSoFar}
use Rattle.checker.proofs.commands.actuals.Given as goal

abbrev pub invariant-loop : goal.invariant-loop
invariant-loop l = CodedSoFar l.work l.registers l.scope l.node l.count l.at (l.count - l.counter) l.codes
