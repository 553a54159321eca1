-- The node's step, then both commands.
use Rattle.estimator.proofs.figures.sequence.Goals as goal

pub returns : goal.returns
returns c = rw (c.in_turn.ensures, c.step-node.ensures, c.in_turn-rest.ensures, c.over-sooner.ensures)
