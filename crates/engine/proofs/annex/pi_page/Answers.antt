-- The answer of `page` in two numbers.
use Rattle.engine.proofs.PageNumbers.{replied}
use Rattle.engine.proofs.annex.pi_page.Goals as goal

pub returns : goal.returns
returns c = replied _ c.page.ensures c.from.ensures
