-- The registers' ends one after the other.
use Rattle.carrying.specs.Layout.{cell_lows, cell_highs}
use Rattle.ranges.proofs.RegisterLaws.{TakenSoFar}
use Rattle.ranges.proofs.registers.take_ends.Given as goal

abbrev pub invariant-loop-i : goal.invariant-loop-i
invariant-loop-i l = TakenSoFar l.work cell_lows l.i l.lowest

abbrev pub invariant-loop-i-2 : goal.invariant-loop-i-2
invariant-loop-i-2 l = TakenSoFar l.work cell_highs l.i l.highest
