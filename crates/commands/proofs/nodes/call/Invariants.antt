-- call: the mark, then one actual after the other.
use Prim.Native.Nat.{◌-◌}
use Rattle.commands.proofs.command_laws.CallLaws.{Goes}
use Rattle.commands.proofs.nodes.call.Given as goal

abbrev pub invariant-loop : goal.invariant-loop
invariant-loop l = Goes l.initial.work l.initial.machine l.count l.initial.at l.work l.machine (l.count - l.counter) l.at
