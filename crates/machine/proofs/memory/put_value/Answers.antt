-- put_value: the regions after the writes.
use mathlib.Core.Path.{refl, ap, ◌∙◌}
use Rattle.machine.specs.Regions.{regions, raised_values}
use Rattle.machine.proofs.memory_laws.RegionLaws.{value_put}
use Rattle.machine.proofs.memory.put_value.Goals as goal

pub returns : goal.returns
returns c = record {
  value = refl;
  m_after =
      ap (λ words. regions words (raised_values c.args.m)) c.put_slot.ensures
      ∙ value_put c.args.work.now c.args.m c.requires.fits c.args.label c.args.payload c.requires.values_lt_most_value_entries;
}
