-- The cells are widened one by one.
use Rattle.carrying.proofs.CopyLaws.{WidenedSoFar}
use Rattle.carrying.proofs.cells.widen.Given as goal

abbrev pub invariant-loop-at : goal.invariant-loop-at
invariant-loop-at l = WidenedSoFar l.initial.work l.work l.fn.kept l.at
