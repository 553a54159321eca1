-- The sums with what lies under it.
use Rattle.estimator.proofs.FigureLaws.{same_need}
use mathlib.Core.Path.{refl}
use Rattle.estimator.proofs.figures.over.Goals as goal

pub returns : goal.returns
returns c = same_need c.sum.ensures c.sum-2.ensures c.sum-3.ensures c.sum-4.ensures refl refl
