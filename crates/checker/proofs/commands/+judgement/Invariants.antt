-- The measures of the cycle {block, bound, command, conditional, declaration} of the checker: twice the number of nodes from this one
-- on, and one more for a command, which may be the block or the Cond that stands there.
use Prim.Native.Nat.{◌+◌, ◌-◌, ◌*◌}
use Rattle.rules.specs.paper.Limits.{most_nodes}
use Rattle.checker.proofs.commands.+judgement.Given as goal

abbrev pub decreases-block : goal.decreases-block
decreases-block l = 2 * (most_nodes - l.node)

abbrev pub decreases-bound : goal.decreases-bound
decreases-bound l = 2 * (most_nodes - l.node)

abbrev pub decreases-command : goal.decreases-command
decreases-command l = 2 * (most_nodes - l.node) + 1

abbrev pub decreases-conditional : goal.decreases-conditional
decreases-conditional l = 2 * (most_nodes - l.node)

abbrev pub decreases-declaration : goal.decreases-declaration
decreases-declaration l = 2 * (most_nodes - l.node)
