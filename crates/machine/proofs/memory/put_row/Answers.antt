-- put_row: the regions after the writes.
use mathlib.Core.Path.{refl, ap, ◌∙◌}
use Rattle.machine.specs.Regions.{regions, raised_rows}
use Rattle.machine.proofs.memory_laws.RegionLaws.{row_put}
use Rattle.machine.proofs.memory.put_row.Goals as goal

pub returns : goal.returns
returns c = record {
  value = refl;
  m_after =
      ap (λ words. regions words (raised_rows c.args.m)) c.put_slot.ensures
      ∙ row_put c.args.work.now c.args.m c.requires.fits c.args.label c.args.payload c.requires.bindings_lt_most_bindings;
}
