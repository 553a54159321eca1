-- set_cell: the regions after the writes.
use mathlib.Core.Path.{ap, ◌∙◌}
use Rattle.machine.specs.Regions.{regions}
use Rattle.machine.proofs.memory_laws.RegionLaws.{cell_set}
use Rattle.machine.proofs.memory.set_cell.Goals as goal

pub returns : goal.returns
returns c =
    ap (λ words. regions words c.args.m) c.put_slot.ensures
    ∙ cell_set c.args.work.now c.args.m c.requires.fits c.args.at.0 c.args.label c.args.payload c.requires.at_lt_cells
