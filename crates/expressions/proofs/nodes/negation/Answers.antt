-- negation: the operand stands after its node.
use native.Mathlib.Omega.{arith}
use Rattle.expressions.proofs.expression_laws.ExpressionLaws.{applicable_low, negation_steps}
use Rattle.expressions.proofs.nodes.negation.Goals as goal

pub overflow_add-node : goal.overflow_add-node
overflow_add-node c = record { fits = omega (arith, applicable_low _ _ _ _ c.requires.1) }

pub returns : goal.returns
returns c = negation_steps _ _ _ _ _ c.put_items.ensures
