-- The root over the registers.
use Rattle.estimator.proofs.RootLaws.{routine_needs}
use Rattle.estimator.proofs.routine.Goals as goal

pub returns : goal.returns
returns c = record {
  routine_needs = routine_needs _ _ _ _ _ c.requires.registers_le_most_registers c.root-need.ensures.root_needs c.over.ensures;
  writes_entries_from = c.root-need.ensures.writes_entries_from;
}
