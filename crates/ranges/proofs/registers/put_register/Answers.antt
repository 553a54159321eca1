-- A register's row and its cell.
use mathlib.Core.Path.{subst}
use Rattle.carrying.specs.Frames.{PutRow}
use Rattle.ranges.proofs.RegisterLaws.{register_put}
use Rattle.ranges.proofs.registers.put_register.Goals as goal

pub returns-clause-register_put : goal.returns-clause-register_put
returns-clause-register_put c =
    let row = subst (PutRow c.args.work.now c.put_row.new.work c.args.i c.args.i c.args.i) c.location.ensures c.put_row.ensures in register_put _ _ _ _ _ _ c.requires.i_lt_most_registers c.ranges.low.fits c.ranges.high.fits row c.put_cell.ensures
