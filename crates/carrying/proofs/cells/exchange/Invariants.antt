-- The cells and their copy change places one by one.
use Rattle.carrying.proofs.CopyLaws.{ExchangedSoFar}
use Rattle.carrying.proofs.cells.exchange.Given as goal

abbrev pub invariant-loop-at : goal.invariant-loop-at
invariant-loop-at l = ExchangedSoFar l.initial.work l.work l.fn.kept l.ends-items l.at
