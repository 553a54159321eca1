-- The measure of `expression`.
use Rattle.carrying.proofs.ReachLaws.{subtree_size}
use Rattle.carrying.proofs.expressions.+expression.Given as goal

abbrev pub decreases-expression : goal.decreases-expression
decreases-expression l = subtree_size l.work.now l.node
