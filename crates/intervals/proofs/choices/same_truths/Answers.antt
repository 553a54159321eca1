-- same_truths: just the truths that some choice gives.
use Rattle.intervals.proofs.ChoiceLaws.{same_holds}
use Rattle.intervals.proofs.choices.same_truths.Goals as goal

pub returns : goal.returns
returns c = same_holds _ _
