-- shows_registers: by the refusal's number.
use Rattle.rules.specs.paper.Refusals.{refusal_number}
use Rattle.answer.proofs.lines.shows_registers.Goals as goal

pub returns-in-Err : goal.returns-in-Err
unfolding refusal_number
returns-in-Err c = rw (c.number.ensures, c.number-in-Err.ensures, c.in-Err.is)
