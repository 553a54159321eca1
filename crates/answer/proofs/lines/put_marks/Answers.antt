-- put_marks: the four marks, and the end of their line.
use Rattle.answer.proofs.LineLaws.{marks_line}
use Rattle.answer.proofs.lines.put_marks.Goals as goal

pub returns : goal.returns
returns c = marks_line _ c.put_labelled.ensures c.put_labelled-2.ensures c.put_labelled-3.ensures c.put_labelled-4.ensures c.put.ensures
