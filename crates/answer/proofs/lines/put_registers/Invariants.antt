-- put_registers: a line for each register.
use Rattle.answer.proofs.LineLaws.{Lined}
use Rattle.answer.proofs.lines.put_registers.Given as goal

abbrev pub invariant-loop-i : goal.invariant-loop-i
invariant-loop-i l = Lined l.fn.text l.registers l.i l.text
