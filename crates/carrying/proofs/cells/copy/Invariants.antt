-- The cells are copied one by one.
use Rattle.carrying.specs.Frames.{Copied}
use Rattle.carrying.proofs.cells.copy.Given as goal

abbrev pub invariant-loop-at : goal.invariant-loop-at
invariant-loop-at l = Copied l.work l.ends-items l.at
