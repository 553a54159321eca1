-- put_cell: the regions after the writes.
use mathlib.Core.Path.{refl, ap, ◌∙◌}
use Rattle.machine.specs.Regions.{regions, raised_cells}
use Rattle.machine.proofs.memory_laws.RegionLaws.{cell_put}
use Rattle.machine.proofs.memory.put_cell.Goals as goal

pub returns : goal.returns
returns c = record {
  value = refl;
  m_after =
      ap (λ words. regions words (raised_cells c.args.m)) c.put_slot.ensures
      ∙ cell_put c.args.work.now c.args.m c.requires.fits c.args.label c.args.payload c.requires.cells_lt_most_cells;
}
