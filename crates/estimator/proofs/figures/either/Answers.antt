-- The larger of each, and all steps of both.
use Rattle.estimator.proofs.FigureLaws.{same_need}
use Rattle.estimator.proofs.figures.either.Goals as goal

pub returns : goal.returns
returns c =
    same_need c.max.ensures c.max-2.ensures c.max-3.ensures c.max-4.ensures c.max-steps.ensures c.sum-all_steps.ensures
