-- binary: the operator's number is in the node's word, and the second operand stands where the first ends.
use native.Mathlib.Omega.{arith}
use Rattle.expressions.proofs.expression_laws.ExpressionLaws.{applicable_low, applicable_within, operand_within, binary_steps}
use Rattle.expressions.proofs.nodes.binary.Goals as goal

pub kind-requires : goal.kind-requires
kind-requires c = applicable_within _ _ _ _ c.requires.3

pub overflow_add-node : goal.overflow_add-node
overflow_add-node c = record { fits = omega (arith, applicable_low _ _ _ _ c.requires.3) }

pub end-second-requires : goal.end-second-requires
end-second-requires c = operand_within _ _ _ _ _ _ c.requires.3

pub overflow_add-node-2 : goal.overflow_add-node-2
overflow_add-node-2 c = record { fits = omega (arith, applicable_low _ _ _ _ c.requires.3) }

pub returns : goal.returns
returns c = binary_steps _ _ _ _ _ _ _ c.kind.ensures c.end-second.ensures c.put_items.ensures
