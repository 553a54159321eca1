-- value_left: the top of the value stack.
use Rattle.automaton.proofs.run_laws.ResultLaws.{left_top}
use Rattle.automaton.proofs.ends.value_left.Goals as goal

pub returns : goal.returns
returns c C X E S L n v held = (left_top _ _ held).1
