-- arithmetic: the ends, or the node.
use Rattle.intervals.proofs.SpanLaws.{not_carried, is_carried}
use Rattle.intervals.proofs.operators.arithmetic.Goals as goal

pub returns-in-Some : goal.returns-in-Some
returns-in-Some c = λ w x y z f g. is_carried _ _ f g _ _ c.in-Some.ensures

pub returns-in-None : goal.returns-in-None
returns-in-None c = λ w x y z f g. not_carried _ _ f g c.in-None.ensures
