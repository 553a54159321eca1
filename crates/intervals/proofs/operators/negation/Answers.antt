-- negation: the two words in each other's place.
use Rattle.intervals.proofs.OperatorLaws.{negated}
use Rattle.intervals.proofs.operators.negation.Goals as goal

pub returns : goal.returns
returns c = negated _
