-- The numbers of an entry's words.
use Rattle.estimator.proofs.EntryLaws.{entry_read}
use Rattle.estimator.proofs.names.kept.Goals as goal

pub returns : goal.returns
returns c = entry_read c.args.work.now c.args.at
