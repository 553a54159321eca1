-- The registers' names and cells one after the other.
use Rattle.ranges.proofs.RegisterLaws.{PutSoFar}
use Rattle.ranges.proofs.registers.start.Given as goal

abbrev pub invariant-loop-i : goal.invariant-loop-i
invariant-loop-i l = PutSoFar l.initial.work l.work l.lowest l.highest l.i-iterator.count l.i-iterator.iter.a.rest.now l.i-iterator.iter.b.rest.now
