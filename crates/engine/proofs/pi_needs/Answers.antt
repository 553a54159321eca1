-- The answer of `needs` in eight numbers.
use Rattle.engine.proofs.NeedsNumbers.{replied}
use Rattle.engine.proofs.pi_needs.Goals as goal

pub returns : goal.returns
returns c = record {
  needs_replied = replied _ _ _ c.needs.ensures.value c.from.ensures;
  work_after = c.needs.ensures.work_after;
}
