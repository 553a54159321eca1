-- Assign: the value, the name, whether it is assignable, and the codes.
use Rattle.std.proofs.Common.{rules}
use Rattle.checker.proofs.laws.commands.AssignLaws.{assign_value_fault, assign_name_fault, assign_target_fault, assign_same}
use Rattle.checker.proofs.commands.assignment.Goals as goal

pub expression-requires-clause-scope_at : goal.expression-requires-clause-scope_at
expression-requires-clause-scope_at c =
    c.requires.scope_at

pub expression-requires-clause-expression_at : goal.expression-requires-clause-expression_at
expression-requires-clause-expression_at c =
    (_, c.requires.assign_at.2.value)

pub returns-in_err-code : goal.returns-in_err-code
returns-in_err-code c = assign_value_fault _ _ _ _ _ c.expression.ensures _ c.in_err-code.was _ (search rules)

pub returns-in_err-number : goal.returns-in_err-number
returns-in_err-number c = assign_name_fault _ _ _ _ _ c.expression.ensures _ _ c.in_ok-code.was c.operand-name.ensures _ c.meaning.ensures _ c.in_err-number.was _ (search rules)

pub returns-in_err-wanted : goal.returns-in_err-wanted
returns-in_err-wanted c =
    assign_target_fault _ _ _ _ _ c.expression.ensures _ _ c.in_ok-code.was c.operand-name.ensures _ c.meaning.ensures _ _ c.in_ok-number.was c.assigned_code.ensures _ c.in_err-wanted.was _ (search rules)

pub returns : goal.returns
returns c =
    assign_same _ _ _ _ _ c.expression.ensures _ _ c.in_ok-code.was c.operand-name.ensures _ c.meaning.ensures _ _ c.in_ok-number.was c.assigned_code.ensures _ _ c.in_ok-wanted.was c.same.ensures
