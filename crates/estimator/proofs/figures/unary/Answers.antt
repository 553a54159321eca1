-- The node's step, its child, its mark.
use Rattle.estimator.proofs.figures.unary.Goals as goal

pub returns : goal.returns
returns c = rw (c.in_turn.ensures, c.step-node.ensures, c.in_turn-rest.ensures, c.over-raised.ensures, c.step-mark.ensures)
