-- put_integer: the digits of its magnitude, behind a minus where the integer is negative.
use Rattle.std.proofs.Common.{sym, ◌∙◌}
use Rattle.answer.proofs.DecimalLaws.{integer_put, minus_put}
use Rattle.answer.proofs.text.Text.put_integer.Goals as goal
use Rattle.answer.proofs.text.Text.put_integer.Goals.{then-is_negative, else-is_negative}

pub returns : goal.returns
returns c =
    elim c.if-is_negative.branch [
      | then-is_negative w ↦ minus_put _ (sym w.if-is_negative.true ∙ c.is_negative.ensures) w.put.ensures (rw (w.self-is, c.magnitude.ensures) at c.put_number.ensures)
      | else-is_negative w ↦ integer_put _ (sym w.if-is_negative.false ∙ c.is_negative.ensures) (rw (w.self-is, c.magnitude.ensures) at c.put_number.ensures)
    ]
