-- answer_run: the run and its answer.
use Rattle.std.proofs.Common.{◌∙◌}
use Rattle.answer.proofs.AnswerLaws.{ran_text_is}
use Rattle.answer.proofs.answer_run.Goals as goal

pub returns : goal.returns
returns c = c.answer_text.ensures ∙ ran_text_is _ _ _ _ _ _ (λ i h. (c.slice_known-1.given i).fits) c.run-answer.ensures
