-- The measure of the cycle {command, declaration}: the size of the node's subtree.
use Rattle.estimator.proofs.SubtreeLaws.{subtree_size}
use Rattle.estimator.proofs.commands.+needs.Given as goal

abbrev pub decreases-command : goal.decreases-command
decreases-command l = subtree_size l.work.now l.node

abbrev pub decreases-declaration : goal.decreases-declaration
decreases-declaration l = subtree_size l.work.now l.node
