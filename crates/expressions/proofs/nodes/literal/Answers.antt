-- literal: the operand is the number, or the truth.
use Rattle.expressions.proofs.expression_laws.ExpressionLaws.{number_steps, truth_steps}
use Rattle.expressions.proofs.nodes.literal.Goals as goal

pub returns-clause-number : goal.returns-clause-number
returns-clause-number c = number_steps _ _ _ _ _ _ c.operand-value.ensures c.push.ensures

pub returns-clause-truth : goal.returns-clause-truth
returns-clause-truth c = truth_steps _ _ _ _ _ _ c.operand-value.ensures c.push.ensures
