-- answer_text: the outcome, the steps, the marks and the registers.
use Rattle.std.proofs.Common.{sym, ◌∙◌}
use Rattle.answer.proofs.LineLaws.{answer_with_registers, answer_without}
use Rattle.answer.proofs.lines.answer_text.Goals as goal

pub returns-then-shows_registers : goal.returns-then-shows_registers
returns-then-shows_registers c =
    answer_with_registers _ (rw c.new-text.ensures at c.put_outcome.ensures) c.put_steps.ensures c.put_marks.ensures _ (sym c.if-shows_registers.true ∙ c.shows_registers.ensures) c.put_registers.ensures

pub returns-else-shows_registers : goal.returns-else-shows_registers
returns-else-shows_registers c =
    answer_without _ (rw c.new-text.ensures at c.put_outcome.ensures) c.put_steps.ensures c.put_marks.ensures _ (sym c.if-shows_registers.false ∙ c.shows_registers.ensures)
