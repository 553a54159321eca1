-- The larger of each size, and all steps.
use Rattle.estimator.proofs.FigureLaws.{same_need}
use Rattle.estimator.proofs.figures.in_turn.Goals as goal

pub returns : goal.returns
returns c = same_need c.max.ensures c.max-2.ensures c.max-3.ensures c.max-4.ensures c.sum.ensures c.sum-2.ensures
