-- or: just the truths that some choice gives.
use Rattle.intervals.proofs.ChoiceLaws.{or_holds}
use Rattle.intervals.proofs.choices.or.Goals as goal

pub returns : goal.returns
returns c = or_holds _ _
