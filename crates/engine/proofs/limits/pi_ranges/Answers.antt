-- The answer of `ranges` in two numbers.
use Rattle.engine.proofs.RangesNumbers.{replied}
use Rattle.engine.proofs.limits.pi_ranges.Goals as goal

pub returns : goal.returns
returns c = replied _ c.ranges-2.ensures c.from.ensures
