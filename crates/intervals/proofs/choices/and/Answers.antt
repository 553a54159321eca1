-- and: just the truths that some choice gives.
use Rattle.intervals.proofs.ChoiceLaws.{and_holds}
use Rattle.intervals.proofs.choices.and.Goals as goal

pub returns : goal.returns
returns c = and_holds _ _
