-- answer_refused: the answer of a run that is not started.
use Rattle.integers.specs.Words.{integers_of}
use Rattle.answer.proofs.answer_refused.Goals as goal

pub returns : goal.returns
unfolding integers_of
returns c = rw c.no_marks.ensures at c.answer_text.ensures
