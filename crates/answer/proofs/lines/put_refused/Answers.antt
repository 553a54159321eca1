-- put_refused: the refusal's number, and its place.
use Rattle.answer.proofs.LineLaws.{refused_parts}
use Rattle.answer.proofs.lines.put_refused.Goals as goal

pub returns : goal.returns
returns c = refused_parts _ (rw c.number.ensures at c.put_labelled.ensures) c.put_labelled-2.ensures
