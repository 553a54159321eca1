-- The answer of `check` in three numbers.
use Rattle.engine.proofs.CheckNumbers.{replied}
use Rattle.engine.proofs.pi_check.Goals as goal

pub returns : goal.returns
returns c = record {
  replies = replied _ _ _ c.check.ensures.value c.from.ensures;
  work_after = c.check.ensures.work_after;
}
