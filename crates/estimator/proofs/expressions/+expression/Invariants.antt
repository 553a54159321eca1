-- The measure of `expression`: the size of the node's subtree.
use Rattle.estimator.proofs.SubtreeLaws.{subtree_size}
use Rattle.estimator.proofs.expressions.+expression.Given as goal

abbrev pub decreases-expression : goal.decreases-expression
decreases-expression l = subtree_size l.work.now l.node
