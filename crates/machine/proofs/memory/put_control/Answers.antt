-- put_control: the regions after the writes.
use mathlib.Core.Path.{refl}
use Rattle.machine.proofs.memory_laws.RegionLaws.{control_put}
use Rattle.machine.proofs.memory.put_control.Goals as goal

pub returns : goal.returns
returns c = record {
  value = refl;
  m_after = control_put c.args.work.now c.args.m c.requires.fits c.args.item c.requires.control_lt_most_control_entries;
}
