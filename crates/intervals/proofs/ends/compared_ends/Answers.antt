-- compared_ends: the truths by the outer and the inner ends.
use Rattle.intervals.proofs.OperatorLaws.{below_carried, above_carried}
use Rattle.intervals.proofs.ends.compared_ends.Goals as goal

pub returns-in-Lt : goal.returns-in-Lt
returns-in-Lt c = below_carried _ _ _ _ _ _ c.in-Lt.is (rw (c.compare-inner.ensures, c.compare-outer.ensures) at c.truths.ensures)

pub returns-in-Gt : goal.returns-in-Gt
returns-in-Gt c = above_carried _ _ _ _ _ _ c.in-Gt.is (rw (c.compare-inner.ensures, c.compare-outer.ensures) at c.truths-in-Gt.ensures)
