-- The node's step, the actuals, the mark, the function's Blk, the mark behind it.
use Rattle.estimator.proofs.figures.called.Goals as goal

pub returns : goal.returns
returns c = rw (c.in_turn.ensures, c.step-node.ensures, c.in_turn-rest.ensures, c.over-raised.ensures, c.in_turn-after.ensures, c.step-mark.ensures, c.in_turn-ending.ensures, c.over-inside.ensures, c.step-left.ensures)
