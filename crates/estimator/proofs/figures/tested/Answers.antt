-- The node's step, the test, the mark, what follows.
use Rattle.estimator.proofs.figures.tested.Goals as goal

pub returns : goal.returns
returns c = rw (c.in_turn.ensures, c.step-node.ensures, c.in_turn-rest.ensures, c.over-running.ensures, c.in_turn-ending.ensures, c.step-mark.ensures)
