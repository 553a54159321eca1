-- The node's step, both children, the mark.
use Rattle.estimator.proofs.figures.binary.Goals as goal

pub returns : goal.returns
returns c = rw (c.in_turn.ensures, c.step-node.ensures, c.in_turn-rest.ensures, c.over-sooner.ensures, c.in_turn-ending.ensures, c.over-later.ensures, c.step-mark.ensures)
