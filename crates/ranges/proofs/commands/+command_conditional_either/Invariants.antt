-- The measures of the cycle {command, sequence, block, call, choice, conditional, either}: how far the tree at the node reaches; at one node a command
-- comes before what is done by its kind, a Cond before what is done with its test, and that before both commands of a Cond.
use Prim.Native.Nat.{◌+◌, ◌*◌}
use Rattle.carrying.proofs.ReachLaws.{reach}
use Rattle.ranges.proofs.commands.+command_conditional_either.Given as goal

abbrev pub decreases-command : goal.decreases-command
decreases-command l = 4 * reach l.work.now l.node + 3

abbrev pub decreases-sequence : goal.decreases-sequence
decreases-sequence l = 4 * reach l.work.now l.node + 2

abbrev pub decreases-block : goal.decreases-block
decreases-block l = 4 * reach l.work.now l.node + 2

abbrev pub decreases-call : goal.decreases-call
decreases-call l = 4 * reach l.work.now l.node + 2

abbrev pub decreases-choice : goal.decreases-choice
decreases-choice l = 4 * reach l.work.now l.node + 2

abbrev pub decreases-conditional : goal.decreases-conditional
decreases-conditional l = 4 * reach l.work.now l.node + 1

abbrev pub decreases-either : goal.decreases-either
decreases-either l = 4 * reach l.work.now l.node
