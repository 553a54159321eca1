-- put_registers: a line for each register.
use Rattle.answer.proofs.LineLaws.{lined_none, lined_next}
use Rattle.answer.proofs.lines.put_registers.Goals as goal

pub loop-i-init : goal.loop-i-init
loop-i-init c = lined_none _ _

pub loop-i-preserved : goal.loop-i-preserved
loop-i-preserved c = lined_next _ _ c.loop-i.i c.loop-i.invariant c.loop-i-test.true c.put_register.ensures
