-- The node's step, the declaration, its mark, what runs over it, the last mark.
use Rattle.estimator.proofs.figures.scoped.Goals as goal

pub returns : goal.returns
returns c = rw (c.in_turn.ensures, c.step-node.ensures, c.in_turn-rest.ensures, c.over-raised.ensures, c.in_turn-after.ensures, c.step-mark.ensures, c.in_turn-ending.ensures, c.over-inside.ensures, c.step-last.ensures)
