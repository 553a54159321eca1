-- answer_counted: the room for the run.
use Rattle.std.proofs.Common.{◌∙◌}
use Rattle.answer.proofs.AnswerLaws.{counted_answer}
use Rattle.answer.proofs.answer_counted.Goals as goal

pub returns : goal.returns
returns c = c.answer_input.ensures ∙ counted_answer _ _ _ c.requires.few_nodes c.requires.few_registers
