-- An Assign, with its value.
use mathlib.Core.Path.{refl}
use Rattle.std.proofs.lemmas.Result.{err_from_is_err_and}
use Rattle.ranges.proofs.TestLaws.{of_assign, value_there, value_unsafe, value_known, value_carried, assign_there, assign_tested}
use Rattle.ranges.proofs.commands.assignment.Goals as goal

pub expression-requires-clause-some_expression : goal.expression-requires-clause-some_expression
expression-requires-clause-some_expression c =
    value_there _ _ _ _ refl (of_assign c.requires.kind_is) c.requires.some_command

pub returns-in_err-value-clause-command_carried : goal.returns-in_err-value-clause-command_carried
returns-in_err-value-clause-command_carried c =
    let p = err_from_is_err_and c.from_residual.result c.from_residual.ensures.1 in
    rw (p.1, p.2) (value_unsafe _ _ _ _ refl (of_assign c.requires.kind_is) _ c.in_err-value.ensures)

pub assign-requires-clause-some_assign : goal.assign-requires-clause-some_assign
assign-requires-clause-some_assign c =
    assign_there _ _ _ _ _ refl c.requires.kind_is (value_known _ _ _ _ refl (of_assign c.requires.kind_is) _ c.in_ok-value.ensures c.requires.some_command)

pub returns-clause-command_carried : goal.returns-clause-command_carried
returns-clause-command_carried c =
    value_carried _ _ _ _ refl (of_assign c.requires.kind_is) _ c.in_ok-value.ensures _ _ (assign_tested _ _ _ _ _ refl c.requires.kind_is _ c.assign.ensures.assign_carried)
