-- The answer of `run` in nine numbers.
use Rattle.engine.proofs.RunNumbers.{called}
use Rattle.engine.proofs.pi_run.Goals as goal

pub returns : goal.returns
returns c = called _ c.run.ensures c.from.ensures
