-- The measure is the number of nodes from this one on.
use Prim.Native.Nat.{◌-◌}
use Rattle.rules.specs.paper.Limits.{most_nodes}
use Rattle.typing.proofs.expressions.+expression.Given as goal

abbrev pub decreases-expression : goal.decreases-expression
decreases-expression l = most_nodes - l.node
