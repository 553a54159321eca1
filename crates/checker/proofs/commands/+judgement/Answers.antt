-- The cycle of calls {block, bound, command, conditional, declaration}: each answers what the rules judge of the node.
use native.Mathlib.Omega.{arith}
use Rattle.std.proofs.Common.{rules}
use Rattle.typing.proofs.laws.codes.AnswerLaws.{stays_as}
use mathlib.Core.Path.{◌∙◌, sym, subst}
use Rattle.checker.proofs.laws.commands.BlockLaws.{block_fault, block_inside, block_fine}
use Rattle.checker.proofs.laws.commands.KeptLaws.{kept_then, kept_lower, kept_nothing, kept_command, kept_scope, kept_end}
use Rattle.checker.proofs.laws.declarations.BoundLaws.{bound_low, ref_child, ref_fault, ref_fine, plain_means, abs_there, abs_formals_fault, inner_low, inner_scope, inner_block, abs_body_fault, abs_body_fine}
use Rattle.checker.specs.Commands.{CommandAt}
use Rattle.checker.proofs.laws.commands.CommandLaws.{assign_there, block_there, call_there, loop_there, conditional_there, commands_there, command_assign, command_block, command_call, command_conditional, loop_test_fault, loop_body_fault, loop_fine, commands_fault, commands_fine, fine_before}
use Rattle.reader.proofs.NodeKindLaws.{command_known, declaration_known, bound_known, command_is}
use Rattle.reader.proofs.StandingLaws.{expression_low, command_low}
use Rattle.checker.proofs.laws.commands.CommandLaws as CommandLaws
use Rattle.checker.proofs.laws.declarations.DeclarationLaws as DeclarationLaws
use Rattle.checker.proofs.laws.commands.ConditionalLaws.{conditional_parts, second_found, conditional_test_fault, conditional_first_fault, conditional_second_fault, conditional_fine}
use Rattle.checker.proofs.laws.declarations.DeclarationLaws.{declaration_low, first_declaration, first_declaration_low, sequence_first_fault, second_scope, second_declaration, second_after, second_scope_low, sequence_second_fault, sequence_kept, first_rows, second_rows, sequence_repeated, sequence_fine, bind_child, bind_low, bind_fault, bind_number, bind_kept, bind_fine}
use Rattle.checker.proofs.commands.+judgement.Goals as goal

-- ---- `block`: a declaration, then a command in the scope with the names that this gives.

pub block-returns-in_err-inner-clause-block_judged_at : goal.block-returns-in_err-inner-clause-block_judged_at
block-returns-in_err-inner-clause-block_judged_at t c =
    block_fault _ _ _ _ _ _ c.declaration.ensures.declaration_judged_at _ c.in_err-inner.was _ (search rules)

pub block-command-requires : goal.block-command-requires
block-command-requires t c =
    let inside = block_inside _ _ _ _ _ _ c.declaration.ensures.declaration_judged_at _ _ c.in_ok-inner.was c.declaration.ensures.writes_rows_from c.requires.scope_low c.end-inside.ensures c.requires.scope_at c.requires.block_at in
    (omega (arith, inside.1, inside.2, c.decreases), (omega (arith, c.declaration.auto.work, c.requires.rows_end_in_bounds), (inside.0, (inside.3, inside.4))))

pub block-returns-in_err-command : goal.block-returns-in_err-command
block-returns-in_err-command t c =
    let inside = block_inside _ _ _ _ _ _ c.declaration.ensures.declaration_judged_at _ _ c.in_ok-inner.was c.declaration.ensures.writes_rows_from c.requires.scope_low c.end-inside.ensures c.requires.scope_at c.requires.block_at in record {
      block_judged_at = λ tree Γ at s. stays_as _ _ _ c.in_err-command.was (search rules) ∙ block_fine _ _ _ _ _ _ c.declaration.ensures.declaration_judged_at _ _ c.in_ok-inner.was c.declaration.ensures.writes_rows_from c.requires.scope_low c.end-inside.ensures _ c.command.ensures.command_judged_at tree Γ at s;
      writes_rows_from = kept_then (kept_lower c.declaration.ensures.writes_rows_from (omega arith)) c.command.ensures.writes_rows_from (omega (arith, inside.1));
    }

pub block-returns : goal.block-returns
block-returns t c =
    let inside = block_inside _ _ _ _ _ _ c.declaration.ensures.declaration_judged_at _ _ c.in_ok-inner.was c.declaration.ensures.writes_rows_from c.requires.scope_low c.end-inside.ensures c.requires.scope_at c.requires.block_at in record {
      block_judged_at = λ tree Γ at s. sym c.in_ok-command.was ∙ block_fine _ _ _ _ _ _ c.declaration.ensures.declaration_judged_at _ _ c.in_ok-inner.was c.declaration.ensures.writes_rows_from c.requires.scope_low c.end-inside.ensures _ c.command.ensures.command_judged_at tree Γ at s;
      writes_rows_from = kept_then (kept_lower c.declaration.ensures.writes_rows_from (omega arith)) c.command.ensures.writes_rows_from (omega (arith, inside.1));
    }

-- ---- `bound`: a Ref, an Abs, or an expression.

pub bound-node_kind-requires : goal.bound-node_kind-requires
bound-node_kind-requires t c = record {
  in_bounds = omega (arith, bound_low c.requires.bound_at.1, c.requires.rows_end_in_bounds);
  known = bound_known c.requires.bound_at.1.stored;
}

pub bound-expression-requires-clause-expression_at : goal.bound-expression-requires-clause-expression_at
bound-expression-requires-clause-expression_at t c =
    ref_child c.args.work.now c.args.registers c.args.scope c.args.node _ c.node_kind.ensures c.in-Ref.is c.requires.bound_at

pub bound-returns-in_err-code-in-Ref-clause-bound_judged_at : goal.bound-returns-in_err-code-in-Ref-clause-bound_judged_at
bound-returns-in_err-code-in-Ref-clause-bound_judged_at t c =
    ref_fault c.args.work.now c.args.registers c.args.scope c.args.node _ c.node_kind.ensures c.in-Ref.is _ c.expression.ensures _ c.in_err-code-in-Ref.was _ (search rules)

pub bound-returns-in_ok-code-in-Ref-clause-bound_judged_at : goal.bound-returns-in_ok-code-in-Ref-clause-bound_judged_at
bound-returns-in_ok-code-in-Ref-clause-bound_judged_at t c =
    ref_fine c.args.work.now c.args.registers c.args.scope c.args.node _ c.node_kind.ensures c.in-Ref.is _ c.expression.ensures _ _ c.in_ok-code-in-Ref.was c.location_code.ensures

pub bound-formals-requires-clause-end_low : goal.bound-formals-requires-clause-end_low
bound-formals-requires-clause-end_low t c =
    let function = abs_there c.args.work.now c.args.registers c.args.scope c.args.node _ c.node_kind.ensures c.in-Abs.is c.operand-count.result c.operand-count.ensures _ c.requires.bound_at.1 in
    omega (arith, function.low)

pub bound-formals-requires-clause-formals_at : goal.bound-formals-requires-clause-formals_at
bound-formals-requires-clause-formals_at t c =
    let function = abs_there c.args.work.now c.args.registers c.args.scope c.args.node _ c.node_kind.ensures c.in-Abs.is c.operand-count.result c.operand-count.ensures _ c.requires.bound_at.1 in
    (function.formals, function.formals_at)

pub bound-returns-in_err-inner-in-Abs-clause-bound_judged_at : goal.bound-returns-in_err-inner-in-Abs-clause-bound_judged_at
bound-returns-in_err-inner-in-Abs-clause-bound_judged_at t c =
    abs_formals_fault c.args.work.now c.args.registers c.args.scope c.args.node _ c.node_kind.ensures c.in-Abs.is c.operand-count.result c.operand-count.ensures c.formals.new.work c.formals.result c.formals.ensures.formals_judged_at _ c.in_err-inner-in-Abs.was _ (search rules)

pub bound-block-requires : goal.bound-block-requires
bound-block-requires t c =
    let function = abs_there c.args.work.now c.args.registers c.args.scope c.args.node _ c.node_kind.ensures c.in-Abs.is c.operand-count.result c.operand-count.ensures _ c.requires.bound_at.1 in (
      omega (arith, function.low, c.decreases),
      (
        omega (arith, c.formals.auto.work, c.requires.rows_end_in_bounds),
        (
          inner_low c.args.work.now c.args.registers c.args.scope c.args.node _ c.node_kind.ensures c.in-Abs.is c.operand-count.result c.operand-count.ensures c.formals.new.work c.formals.result c.formals.ensures.formals_judged_at c.in_ok-inner-in-Abs.inner c.in_ok-inner-in-Abs.was c.requires.bound_at,
          (
            inner_scope c.args.work.now c.args.registers c.args.scope c.args.node _ c.node_kind.ensures c.in-Abs.is c.operand-count.result c.operand-count.ensures c.formals.new.work c.formals.result c.formals.ensures.formals_judged_at c.in_ok-inner-in-Abs.inner c.in_ok-inner-in-Abs.was c.formals.ensures.writes_rows_from c.requires.scope_low c.requires.scope_at c.requires.bound_at,
            inner_block c.args.work.now c.args.registers c.args.scope c.args.node _ c.node_kind.ensures c.in-Abs.is c.operand-count.result c.operand-count.ensures c.formals.new.work c.formals.result c.formals.ensures.formals_judged_at c.in_ok-inner-in-Abs.inner c.in_ok-inner-in-Abs.was c.formals.ensures.writes_rows_from c.requires.scope_low c.requires.bound_at,
          ),
        ),
      ),
    )

pub bound-returns-in_err-block-in-Abs-clause-bound_judged_at : goal.bound-returns-in_err-block-in-Abs-clause-bound_judged_at
bound-returns-in_err-block-in-Abs-clause-bound_judged_at t c =
    abs_body_fault c.args.work.now c.args.registers c.args.scope c.args.node _ c.node_kind.ensures c.in-Abs.is c.operand-count.result c.operand-count.ensures c.formals.new.work c.formals.result c.formals.ensures.formals_judged_at c.in_ok-inner-in-Abs.inner c.in_ok-inner-in-Abs.was c.formals.ensures.writes_rows_from c.requires.scope_low c.block.result c.block.ensures.block_judged_at _ c.in_err-block-in-Abs.was _ (search rules)

pub bound-returns-in_ok-block-in-Abs-clause-bound_judged_at : goal.bound-returns-in_ok-block-in-Abs-clause-bound_judged_at
bound-returns-in_ok-block-in-Abs-clause-bound_judged_at t c =
    abs_body_fine c.args.work.now c.args.registers c.args.scope c.args.node _ c.node_kind.ensures c.in-Abs.is c.operand-count.result c.operand-count.ensures c.formals.new.work c.formals.result c.formals.ensures.formals_judged_at c.in_ok-inner-in-Abs.inner c.in_ok-inner-in-Abs.was c.formals.ensures.writes_rows_from c.requires.scope_low c.block.result c.block.ensures.block_judged_at _ c.in_ok-block-in-Abs.was

pub bound-returns-in_err-code-in_default : goal.bound-returns-in_err-code-in_default
bound-returns-in_err-code-in_default t c = record {
  bound_judged_at = λ tree Γ at s. stays_as _ _ _ c.in_err-code-in_default.was (search rules) ∙ plain_means c.args.work.now c.args.registers c.args.scope c.args.node _ c.node_kind.ensures c.in_default.not-Ref c.in_default.not-Abs _ c.expression-in_default.ensures tree Γ at s;
  writes_rows_from = kept_nothing c.args.work.now c.args.node;
}

pub bound-returns-in_ok-code-in_default : goal.bound-returns-in_ok-code-in_default
bound-returns-in_ok-code-in_default t c = record {
  bound_judged_at = λ tree Γ at s. sym c.in_ok-code-in_default.was ∙ plain_means c.args.work.now c.args.registers c.args.scope c.args.node _ c.node_kind.ensures c.in_default.not-Ref c.in_default.not-Abs _ c.expression-in_default.ensures tree Γ at s;
  writes_rows_from = kept_nothing c.args.work.now c.args.node;
}

-- ---- `command`: each kind of command in turn.

pub command-node_kind-requires : goal.command-node_kind-requires
command-node_kind-requires t c = record {
  in_bounds = omega (arith, command_low c.requires.command_at.1.stored, c.requires.rows_end_in_bounds);
  known = command_known c.requires.command_at.1.stored;
}

pub command-unreachable-requires : goal.command-unreachable-requires
command-unreachable-requires t c = let told = command_is _ c.requires.command_at.1.stored c.node_kind.ensures in search rules

pub command-assignment-requires-clause-assign_at : goal.command-assignment-requires-clause-assign_at
command-assignment-requires-clause-assign_at t c =
    assign_there _ _ (CommandLaws.kind_there _ _ _ _ _ c.node_kind.ensures c.in-Command-Assign.is c.in-Command-Assign.field-0-is) c.requires.command_at

pub command-returns-in-Command-Assign-clause-command_judged_at : goal.command-returns-in-Command-Assign-clause-command_judged_at
command-returns-in-Command-Assign-clause-command_judged_at t c =
    command_assign _ _ _ _ _ (CommandLaws.kind_there _ _ _ _ _ c.node_kind.ensures c.in-Command-Assign.is c.in-Command-Assign.field-0-is) c.assignment.ensures

pub command-returns-in_err-block-in-Command-Blk-clause-command_judged_at : goal.command-returns-in_err-block-in-Command-Blk-clause-command_judged_at
command-returns-in_err-block-in-Command-Blk-clause-command_judged_at t c =
    λ tree Γ at s. stays_as _ _ _ c.in_err-block-in-Command-Blk.was (search rules) ∙ command_block _ _ _ _ _ (CommandLaws.kind_there _ _ _ _ _ c.node_kind.ensures c.in-Command-Blk.is c.in-Command-Blk.field-0-is) c.block.ensures.block_judged_at tree Γ at s

pub command-returns-in_ok-block-in-Command-Blk-clause-command_judged_at : goal.command-returns-in_ok-block-in-Command-Blk-clause-command_judged_at
command-returns-in_ok-block-in-Command-Blk-clause-command_judged_at t c =
    λ tree Γ at s. sym c.in_ok-block-in-Command-Blk.was ∙ command_block _ _ _ _ _ (CommandLaws.kind_there _ _ _ _ _ c.node_kind.ensures c.in-Command-Blk.is c.in-Command-Blk.field-0-is) c.block.ensures.block_judged_at tree Γ at s

pub command-call-requires-clause-call_at : goal.command-call-requires-clause-call_at
command-call-requires-clause-call_at t c =
    call_there _ _ (CommandLaws.kind_there _ _ _ _ _ c.node_kind.ensures c.in-Command-Call.is c.in-Command-Call.field-0-is) c.requires.command_at

pub command-returns-in-Command-Call-clause-command_judged_at : goal.command-returns-in-Command-Call-clause-command_judged_at
command-returns-in-Command-Call-clause-command_judged_at t c =
    command_call _ _ _ _ _ (CommandLaws.kind_there _ _ _ _ _ c.node_kind.ensures c.in-Command-Call.is c.in-Command-Call.field-0-is) c.call.ensures

pub command-expression-requires-clause-expression_at : goal.command-expression-requires-clause-expression_at
command-expression-requires-clause-expression_at t c =
    let parts = loop_there _ _ (CommandLaws.kind_there _ _ _ _ _ c.node_kind.ensures c.in-Command-Loop.is c.in-Command-Loop.field-0-is) c.requires.command_at in
    (parts.0, parts.2)

pub command-returns-in_err-code-in-Command-Loop-clause-command_judged_at : goal.command-returns-in_err-code-in-Command-Loop-clause-command_judged_at
command-returns-in_err-code-in-Command-Loop-clause-command_judged_at t c =
    loop_test_fault _ _ _ _ (CommandLaws.kind_there _ _ _ _ _ c.node_kind.ensures c.in-Command-Loop.is c.in-Command-Loop.field-0-is) _ c.expression.ensures _ c.in_err-code-in-Command-Loop.was _ (search rules)

pub command-end-inside-requires : goal.command-end-inside-requires
command-end-inside-requires t c =
    let parts = loop_there _ _ (CommandLaws.kind_there _ _ _ _ _ c.node_kind.ensures c.in-Command-Loop.is c.in-Command-Loop.field-0-is) c.requires.command_at in
    omega (arith, expression_low parts.2.stored, c.requires.rows_end_in_bounds)

pub command-command-requires : goal.command-command-requires
command-command-requires t c =
    let parts = loop_there _ _ (CommandLaws.kind_there _ _ _ _ _ c.node_kind.ensures c.in-Command-Loop.is c.in-Command-Loop.field-0-is) c.requires.command_at in (
      omega (arith, parts.4, c.end-inside.ensures, command_low parts.3.stored, c.decreases),
      (c.requires.rows_end_in_bounds, (omega (arith, c.requires.scope_low, parts.4, c.end-inside.ensures), (c.requires.scope_at, (parts.1, subst (λ i. CommandAt c.args.work.now i parts.1) (sym c.end-inside.ensures) parts.3)))),
    )

pub command-returns-in_err-command-in-Command-Loop : goal.command-returns-in_err-command-in-Command-Loop
command-returns-in_err-command-in-Command-Loop t c =
    let parts = loop_there _ _ (CommandLaws.kind_there _ _ _ _ _ c.node_kind.ensures c.in-Command-Loop.is c.in-Command-Loop.field-0-is) c.requires.command_at in record {
      command_judged_at = loop_body_fault _ _ _ _ (CommandLaws.kind_there _ _ _ _ _ c.node_kind.ensures c.in-Command-Loop.is c.in-Command-Loop.field-0-is) _ c.expression.ensures _ _ _ c.in_ok-code-in-Command-Loop.was c.end-inside.ensures c.command.ensures.command_judged_at _ c.in_err-command-in-Command-Loop.was _ (search rules);
      writes_rows_from = kept_lower c.command.ensures.writes_rows_from (omega (arith, parts.4, c.end-inside.ensures));
    }

pub command-returns-in_ok-command-in-Command-Loop : goal.command-returns-in_ok-command-in-Command-Loop
command-returns-in_ok-command-in-Command-Loop t c =
    let parts = loop_there _ _ (CommandLaws.kind_there _ _ _ _ _ c.node_kind.ensures c.in-Command-Loop.is c.in-Command-Loop.field-0-is) c.requires.command_at in record {
      command_judged_at = loop_fine _ _ _ _ (CommandLaws.kind_there _ _ _ _ _ c.node_kind.ensures c.in-Command-Loop.is c.in-Command-Loop.field-0-is) _ c.expression.ensures _ _ _ c.in_ok-code-in-Command-Loop.was c.end-inside.ensures c.command.ensures.command_judged_at _ _ c.in_ok-command-in-Command-Loop.was c.same.ensures;
      writes_rows_from = kept_lower c.command.ensures.writes_rows_from (omega (arith, parts.4, c.end-inside.ensures));
    }

pub command-conditional-requires : goal.command-conditional-requires
command-conditional-requires t c =
    (omega (arith, c.decreases), (c.requires.rows_end_in_bounds, (c.requires.scope_low, (c.requires.scope_at, conditional_there _ _ (CommandLaws.kind_there _ _ _ _ _ c.node_kind.ensures c.in-Command-Cond.is c.in-Command-Cond.field-0-is) c.requires.command_at))))

pub command-returns-in_err-conditional-in-Command-Cond-clause-command_judged_at : goal.command-returns-in_err-conditional-in-Command-Cond-clause-command_judged_at
command-returns-in_err-conditional-in-Command-Cond-clause-command_judged_at t c =
    λ tree Γ at s. stays_as _ _ _ c.in_err-conditional-in-Command-Cond.was (search rules) ∙ command_conditional _ _ _ _ _ (CommandLaws.kind_there _ _ _ _ _ c.node_kind.ensures c.in-Command-Cond.is c.in-Command-Cond.field-0-is) c.conditional.ensures.conditional_judged_at tree Γ at s

pub command-returns-in_ok-conditional-in-Command-Cond-clause-command_judged_at : goal.command-returns-in_ok-conditional-in-Command-Cond-clause-command_judged_at
command-returns-in_ok-conditional-in-Command-Cond-clause-command_judged_at t c =
    λ tree Γ at s. sym c.in_ok-conditional-in-Command-Cond.was ∙ command_conditional _ _ _ _ _ (CommandLaws.kind_there _ _ _ _ _ c.node_kind.ensures c.in-Command-Cond.is c.in-Command-Cond.field-0-is) c.conditional.ensures.conditional_judged_at tree Γ at s

pub command-command-requires-in-Command-CSeq : goal.command-command-requires-in-Command-CSeq
command-command-requires-in-Command-CSeq t c =
    let parts = commands_there _ _ (CommandLaws.kind_there _ _ _ _ _ c.node_kind.ensures c.in-Command-CSeq.is c.in-Command-CSeq.field-0-is) c.requires.command_at in
    (omega (arith, command_low parts.2.stored, c.decreases), (c.requires.rows_end_in_bounds, (omega (arith, c.requires.scope_low), (c.requires.scope_at, (parts.0, parts.2)))))

pub command-returns-in_err-command-in-Command-CSeq-clause-command_judged_at : goal.command-returns-in_err-command-in-Command-CSeq-clause-command_judged_at
command-returns-in_err-command-in-Command-CSeq-clause-command_judged_at t c =
    commands_fault _ _ _ _ (CommandLaws.kind_there _ _ _ _ _ c.node_kind.ensures c.in-Command-CSeq.is c.in-Command-CSeq.field-0-is) _ c.command-in-Command-CSeq.ensures.command_judged_at _ c.in_err-command-in-Command-CSeq.was _ (search rules)

pub command-end-after-requires : goal.command-end-after-requires
command-end-after-requires t c =
    let parts = commands_there _ _ (CommandLaws.kind_there _ _ _ _ _ c.node_kind.ensures c.in-Command-CSeq.is c.in-Command-CSeq.field-0-is) c.requires.command_at in
    omega (arith, command_low parts.2.stored, c.command-in-Command-CSeq.auto.work, c.requires.rows_end_in_bounds)

pub command-command-requires-in-Command-CSeq-2 : goal.command-command-requires-in-Command-CSeq-2
command-command-requires-in-Command-CSeq-2 t c =
    let parts = commands_there _ _ (CommandLaws.kind_there _ _ _ _ _ c.node_kind.ensures c.in-Command-CSeq.is c.in-Command-CSeq.field-0-is) c.requires.command_at in
    let before = c.end-after.ensures ∙ kept_end _ c.command-in-Command-CSeq.ensures.writes_rows_from (command_low parts.2.stored) in (
      omega (arith, parts.4, before, command_low parts.3.stored, c.decreases),
      (
        omega (arith, c.command-in-Command-CSeq.auto.work, c.requires.rows_end_in_bounds),
        (
          omega (arith, c.requires.scope_low, parts.4, before),
          (
            (c.requires.scope_at.0, kept_scope c.command-in-Command-CSeq.ensures.writes_rows_from (omega (arith, c.requires.scope_low)) c.requires.scope_at.1),
            (parts.1, kept_command c.command-in-Command-CSeq.ensures.writes_rows_from (subst (λ i. CommandAt c.args.work.now i parts.1) (sym before) parts.3)),
          ),
        ),
      ),
    )

pub command-returns-in_err-command-in-Command-CSeq-2 : goal.command-returns-in_err-command-in-Command-CSeq-2
command-returns-in_err-command-in-Command-CSeq-2 t c =
    let parts = commands_there _ _ (CommandLaws.kind_there _ _ _ _ _ c.node_kind.ensures c.in-Command-CSeq.is c.in-Command-CSeq.field-0-is) c.requires.command_at in
    let before = c.end-after.ensures ∙ kept_end _ c.command-in-Command-CSeq.ensures.writes_rows_from (command_low parts.2.stored) in record {
      command_judged_at = λ tree Γ at s. stays_as _ _ _ c.in_err-command-in-Command-CSeq-2.was (search rules) ∙ commands_fine _ _ _ _ (CommandLaws.kind_there _ _ _ _ _ c.node_kind.ensures c.in-Command-CSeq.is c.in-Command-CSeq.field-0-is) _ c.command-in-Command-CSeq.ensures.command_judged_at _ _ _ c.in_ok-command-in-Command-CSeq.was before
          (fine_before _ _ _ _ c.command-in-Command-CSeq.ensures.writes_rows_from (omega (arith, c.requires.scope_low)) c.command-in-Command-CSeq-2.ensures.command_judged_at) tree Γ at s;
      writes_rows_from = kept_then (kept_lower c.command-in-Command-CSeq.ensures.writes_rows_from (omega arith)) c.command-in-Command-CSeq-2.ensures.writes_rows_from (omega (arith, parts.4, before));
    }

pub command-returns-in_ok-command-in-Command-CSeq-2 : goal.command-returns-in_ok-command-in-Command-CSeq-2
command-returns-in_ok-command-in-Command-CSeq-2 t c =
    let parts = commands_there _ _ (CommandLaws.kind_there _ _ _ _ _ c.node_kind.ensures c.in-Command-CSeq.is c.in-Command-CSeq.field-0-is) c.requires.command_at in
    let before = c.end-after.ensures ∙ kept_end _ c.command-in-Command-CSeq.ensures.writes_rows_from (command_low parts.2.stored) in record {
      command_judged_at = λ tree Γ at s. sym c.in_ok-command-in-Command-CSeq-2.was ∙ commands_fine _ _ _ _ (CommandLaws.kind_there _ _ _ _ _ c.node_kind.ensures c.in-Command-CSeq.is c.in-Command-CSeq.field-0-is) _ c.command-in-Command-CSeq.ensures.command_judged_at _ _ _ c.in_ok-command-in-Command-CSeq.was before
          (fine_before _ _ _ _ c.command-in-Command-CSeq.ensures.writes_rows_from (omega (arith, c.requires.scope_low)) c.command-in-Command-CSeq-2.ensures.command_judged_at) tree Γ at s;
      writes_rows_from = kept_then (kept_lower c.command-in-Command-CSeq.ensures.writes_rows_from (omega arith)) c.command-in-Command-CSeq-2.ensures.writes_rows_from (omega (arith, parts.4, before));
    }

-- ---- `conditional`: the test, then both commands.

pub conditional-expression-requires-clause-expression_at : goal.conditional-expression-requires-clause-expression_at
conditional-expression-requires-clause-expression_at t c =
    let parts = conditional_parts _ _ _ _ _ c.requires.command_at.3 in
    (c.requires.command_at.0, parts.test)

pub conditional-returns-in_err-code-clause-conditional_judged_at : goal.conditional-returns-in_err-code-clause-conditional_judged_at
conditional-returns-in_err-code-clause-conditional_judged_at t c =
    conditional_test_fault _ _ _ _ _ c.expression.ensures _ c.in_err-code.was _ (search rules)

pub conditional-command-requires : goal.conditional-command-requires
conditional-command-requires t c =
    let parts = conditional_parts _ _ _ _ _ c.requires.command_at.3 in (
      omega (arith, parts.first_after, c.end-where_true.ensures, command_low parts.first.stored, c.decreases),
      (c.requires.rows_end_in_bounds, (omega (arith, c.requires.scope_low, parts.first_after, c.end-where_true.ensures), (c.requires.scope_at, (c.requires.command_at.1, subst (λ i. CommandAt c.args.work.now i c.requires.command_at.1) (sym c.end-where_true.ensures) parts.first)))),
    )

pub conditional-returns-in_err-command : goal.conditional-returns-in_err-command
conditional-returns-in_err-command t c =
    let parts = conditional_parts _ _ _ _ _ c.requires.command_at.3 in record {
      conditional_judged_at = conditional_first_fault _ _ _ _ _ c.expression.ensures _ _ _ c.in_ok-code.was c.end-where_true.ensures c.command.ensures.command_judged_at _ c.in_err-command.was _ (search rules);
      writes_rows_from = kept_lower c.command.ensures.writes_rows_from (omega (arith, parts.first_after, c.end-where_true.ensures));
    }

pub conditional-end-where_false-requires : goal.conditional-end-where_false-requires
conditional-end-where_false-requires t c =
    let parts = conditional_parts _ _ _ _ _ c.requires.command_at.3 in
    omega (arith, command_low parts.first.stored, c.end-where_true.ensures, c.command.auto.work, c.requires.rows_end_in_bounds)

pub conditional-command-requires-2 : goal.conditional-command-requires-2
conditional-command-requires-2 t c =
    let parts = conditional_parts _ _ _ _ _ c.requires.command_at.3 in
    let later = second_found _ _ _ c.command.ensures.writes_rows_from c.end-where_true.ensures (command_low parts.first.stored) c.end-where_false.ensures in (
      omega (arith, parts.first_after, parts.second_after, later, command_low parts.second.stored, c.decreases),
      (
        omega (arith, c.command.auto.work, c.requires.rows_end_in_bounds),
        (
          omega (arith, c.requires.scope_low, parts.first_after, parts.second_after, later),
          (
            (c.requires.scope_at.0, kept_scope c.command.ensures.writes_rows_from (omega (arith, c.requires.scope_low, parts.first_after, c.end-where_true.ensures)) c.requires.scope_at.1),
            (c.requires.command_at.2, kept_command c.command.ensures.writes_rows_from (subst (λ i. CommandAt c.args.work.now i c.requires.command_at.2) (sym later) parts.second)),
          ),
        ),
      ),
    )

pub conditional-returns-in_err-command-2 : goal.conditional-returns-in_err-command-2
conditional-returns-in_err-command-2 t c =
    let parts = conditional_parts _ _ _ _ _ c.requires.command_at.3 in
    let later = second_found _ _ _ c.command.ensures.writes_rows_from c.end-where_true.ensures (command_low parts.first.stored) c.end-where_false.ensures in
    let second = fine_before _ _ _ _ c.command.ensures.writes_rows_from (omega (arith, c.requires.scope_low, parts.first_after, c.end-where_true.ensures)) c.command-2.ensures.command_judged_at in record {
      conditional_judged_at = conditional_second_fault _ _ _ _ _ c.expression.ensures _ _ _ c.in_ok-code.was c.end-where_true.ensures c.command.ensures.command_judged_at _ _ _ c.in_ok-command.was later second _ c.in_err-command-2.was _ (search rules);
      writes_rows_from = kept_then (kept_lower c.command.ensures.writes_rows_from (omega (arith, parts.first_after, c.end-where_true.ensures))) c.command-2.ensures.writes_rows_from (omega (arith, parts.first_after, parts.second_after, later));
    }

pub conditional-returns : goal.conditional-returns
conditional-returns t c =
    let parts = conditional_parts _ _ _ _ _ c.requires.command_at.3 in
    let later = second_found _ _ _ c.command.ensures.writes_rows_from c.end-where_true.ensures (command_low parts.first.stored) c.end-where_false.ensures in
    let second = fine_before _ _ _ _ c.command.ensures.writes_rows_from (omega (arith, c.requires.scope_low, parts.first_after, c.end-where_true.ensures)) c.command-2.ensures.command_judged_at in record {
      conditional_judged_at = conditional_fine _ _ _ _ _ c.expression.ensures _ _ _ c.in_ok-code.was c.end-where_true.ensures c.command.ensures.command_judged_at _ _ _ c.in_ok-command.was later second _ _ c.in_ok-command-2.was c.same.ensures;
      writes_rows_from = kept_then (kept_lower c.command.ensures.writes_rows_from (omega (arith, parts.first_after, c.end-where_true.ensures))) c.command-2.ensures.writes_rows_from (omega (arith, parts.first_after, parts.second_after, later));
    }

-- ---- `declaration`: a DSeq or a Bind.

pub declaration-node_kind-requires-clause-known : goal.declaration-node_kind-requires-clause-known
declaration-node_kind-requires-clause-known t c =
    declaration_known c.requires.declaration_at.2.stored

pub declaration-declaration-requires : goal.declaration-declaration-requires
declaration-declaration-requires t c =
    let low = first_declaration_low c.args.work.now c.args.registers c.args.scope c.args.node (DeclarationLaws.kind_there _ _ _ _ _ c.node_kind.ensures c.in-Declaration-DSeq.is c.in-Declaration-DSeq.field-0-is) c.requires.declaration_at in (
      omega (arith, low, c.decreases),
      (c.requires.rows_end_in_bounds, (omega (arith, c.requires.scope_low), (c.requires.scope_at, first_declaration c.args.work.now c.args.registers c.args.scope c.args.node (DeclarationLaws.kind_there _ _ _ _ _ c.node_kind.ensures c.in-Declaration-DSeq.is c.in-Declaration-DSeq.field-0-is) c.requires.declaration_at))),
    )

pub declaration-returns-in_err-middle-in-Declaration-DSeq-clause-declaration_judged_at : goal.declaration-returns-in_err-middle-in-Declaration-DSeq-clause-declaration_judged_at
declaration-returns-in_err-middle-in-Declaration-DSeq-clause-declaration_judged_at t c =
    sequence_first_fault c.args.work.now c.args.registers c.args.scope c.args.node (DeclarationLaws.kind_there _ _ _ _ _ c.node_kind.ensures c.in-Declaration-DSeq.is c.in-Declaration-DSeq.field-0-is) c.declaration.new.work c.declaration.result c.declaration.ensures.declaration_judged_at _ c.in_err-middle-in-Declaration-DSeq.was _ (search rules)

pub declaration-declaration-requires-in-Declaration-DSeq : goal.declaration-declaration-requires-in-Declaration-DSeq
declaration-declaration-requires-in-Declaration-DSeq t c =
    let beyond = second_after c.args.work.now c.args.registers c.args.scope c.args.node (DeclarationLaws.kind_there _ _ _ _ _ c.node_kind.ensures c.in-Declaration-DSeq.is c.in-Declaration-DSeq.field-0-is) c.declaration.new.work c.declaration.result c.declaration.ensures.declaration_judged_at c.in_ok-middle-in-Declaration-DSeq.middle c.end-after.result c.in_ok-middle-in-Declaration-DSeq.was c.declaration.ensures.writes_rows_from c.end-after.ensures c.requires.scope_low c.requires.declaration_at in (
      omega (arith, beyond, first_declaration_low c.args.work.now c.args.registers c.args.scope c.args.node (DeclarationLaws.kind_there _ _ _ _ _ c.node_kind.ensures c.in-Declaration-DSeq.is c.in-Declaration-DSeq.field-0-is) c.requires.declaration_at, c.decreases),
      (
        omega (arith, c.declaration.auto.work, c.requires.rows_end_in_bounds),
        (
          second_scope_low c.args.work.now c.args.registers c.args.scope c.args.node (DeclarationLaws.kind_there _ _ _ _ _ c.node_kind.ensures c.in-Declaration-DSeq.is c.in-Declaration-DSeq.field-0-is) c.declaration.new.work c.declaration.result c.declaration.ensures.declaration_judged_at c.in_ok-middle-in-Declaration-DSeq.middle c.end-after.result c.in_ok-middle-in-Declaration-DSeq.was c.declaration.ensures.writes_rows_from c.end-after.ensures c.requires.scope_low c.requires.scope_at c.requires.declaration_at,
          (
            second_scope c.args.work.now c.args.registers c.args.scope c.args.node (DeclarationLaws.kind_there _ _ _ _ _ c.node_kind.ensures c.in-Declaration-DSeq.is c.in-Declaration-DSeq.field-0-is) c.declaration.new.work c.declaration.result c.declaration.ensures.declaration_judged_at c.in_ok-middle-in-Declaration-DSeq.middle c.end-after.result c.in_ok-middle-in-Declaration-DSeq.was c.declaration.ensures.writes_rows_from c.end-after.ensures c.requires.scope_low c.requires.scope_at c.requires.declaration_at,
            second_declaration c.args.work.now c.args.registers c.args.scope c.args.node (DeclarationLaws.kind_there _ _ _ _ _ c.node_kind.ensures c.in-Declaration-DSeq.is c.in-Declaration-DSeq.field-0-is) c.declaration.new.work c.declaration.result c.declaration.ensures.declaration_judged_at c.in_ok-middle-in-Declaration-DSeq.middle c.end-after.result c.in_ok-middle-in-Declaration-DSeq.was c.declaration.ensures.writes_rows_from c.end-after.ensures c.requires.scope_low c.requires.declaration_at,
          ),
        ),
      ),
    )

pub declaration-returns-in_err-newest-in-Declaration-DSeq : goal.declaration-returns-in_err-newest-in-Declaration-DSeq
declaration-returns-in_err-newest-in-Declaration-DSeq t c = record {
  declaration_judged_at = sequence_second_fault c.args.work.now c.args.registers c.args.scope c.args.node (DeclarationLaws.kind_there _ _ _ _ _ c.node_kind.ensures c.in-Declaration-DSeq.is c.in-Declaration-DSeq.field-0-is) c.declaration.new.work c.declaration.result c.declaration.ensures.declaration_judged_at c.in_ok-middle-in-Declaration-DSeq.middle c.end-after.result c.in_ok-middle-in-Declaration-DSeq.was c.declaration.ensures.writes_rows_from c.end-after.ensures c.requires.scope_low c.declaration-in-Declaration-DSeq.new.work c.declaration-in-Declaration-DSeq.result c.declaration-in-Declaration-DSeq.ensures.declaration_judged_at _ c.in_err-newest-in-Declaration-DSeq.was _ (search rules);
  writes_rows_from = sequence_kept c.args.work.now c.args.registers c.args.scope c.args.node (DeclarationLaws.kind_there _ _ _ _ _ c.node_kind.ensures c.in-Declaration-DSeq.is c.in-Declaration-DSeq.field-0-is) c.declaration.new.work c.declaration.result c.declaration.ensures.declaration_judged_at c.in_ok-middle-in-Declaration-DSeq.middle c.end-after.result c.in_ok-middle-in-Declaration-DSeq.was c.declaration.ensures.writes_rows_from c.end-after.ensures c.requires.scope_low c.declaration-in-Declaration-DSeq.new.work c.declaration-in-Declaration-DSeq.result c.declaration-in-Declaration-DSeq.ensures.declaration_judged_at c.declaration-in-Declaration-DSeq.ensures.writes_rows_from c.requires.declaration_at;
}

pub declaration-shares_name-requires-clause-newer_rows : goal.declaration-shares_name-requires-clause-newer_rows
declaration-shares_name-requires-clause-newer_rows t c =
    second_rows c.args.work.now c.args.registers c.args.scope c.args.node (DeclarationLaws.kind_there _ _ _ _ _ c.node_kind.ensures c.in-Declaration-DSeq.is c.in-Declaration-DSeq.field-0-is) c.declaration.new.work c.declaration.result c.declaration.ensures.declaration_judged_at c.in_ok-middle-in-Declaration-DSeq.middle c.end-after.result c.in_ok-middle-in-Declaration-DSeq.was c.declaration.ensures.writes_rows_from c.end-after.ensures c.requires.scope_low c.declaration-in-Declaration-DSeq.new.work c.declaration-in-Declaration-DSeq.result c.declaration-in-Declaration-DSeq.ensures.declaration_judged_at c.declaration-in-Declaration-DSeq.ensures.writes_rows_from c.in_ok-newest-in-Declaration-DSeq.newest c.in_ok-newest-in-Declaration-DSeq.was c.requires.scope_at c.requires.declaration_at

pub declaration-shares_name-requires-clause-older_rows : goal.declaration-shares_name-requires-clause-older_rows
declaration-shares_name-requires-clause-older_rows t c =
    first_rows c.args.work.now c.args.registers c.args.scope c.args.node (DeclarationLaws.kind_there _ _ _ _ _ c.node_kind.ensures c.in-Declaration-DSeq.is c.in-Declaration-DSeq.field-0-is) c.declaration.new.work c.declaration.result c.declaration.ensures.declaration_judged_at c.in_ok-middle-in-Declaration-DSeq.middle c.end-after.result c.in_ok-middle-in-Declaration-DSeq.was c.declaration.ensures.writes_rows_from c.end-after.ensures c.requires.scope_low c.declaration-in-Declaration-DSeq.new.work c.declaration-in-Declaration-DSeq.result c.declaration-in-Declaration-DSeq.ensures.declaration_judged_at c.declaration-in-Declaration-DSeq.ensures.writes_rows_from c.requires.scope_at c.requires.declaration_at

pub declaration-returns-then-shares_name : goal.declaration-returns-then-shares_name
declaration-returns-then-shares_name t c = record {
  declaration_judged_at = sequence_repeated c.args.work.now c.args.registers c.args.scope c.args.node (DeclarationLaws.kind_there _ _ _ _ _ c.node_kind.ensures c.in-Declaration-DSeq.is c.in-Declaration-DSeq.field-0-is) c.declaration.new.work c.declaration.result c.declaration.ensures.declaration_judged_at c.in_ok-middle-in-Declaration-DSeq.middle c.end-after.result c.in_ok-middle-in-Declaration-DSeq.was c.declaration.ensures.writes_rows_from c.end-after.ensures c.requires.scope_low c.declaration-in-Declaration-DSeq.new.work c.declaration-in-Declaration-DSeq.result c.declaration-in-Declaration-DSeq.ensures.declaration_judged_at c.declaration-in-Declaration-DSeq.ensures.writes_rows_from c.in_ok-newest-in-Declaration-DSeq.newest c.in_ok-newest-in-Declaration-DSeq.was _ c.shares_name.ensures c.if-shares_name.true;
  writes_rows_from = sequence_kept c.args.work.now c.args.registers c.args.scope c.args.node (DeclarationLaws.kind_there _ _ _ _ _ c.node_kind.ensures c.in-Declaration-DSeq.is c.in-Declaration-DSeq.field-0-is) c.declaration.new.work c.declaration.result c.declaration.ensures.declaration_judged_at c.in_ok-middle-in-Declaration-DSeq.middle c.end-after.result c.in_ok-middle-in-Declaration-DSeq.was c.declaration.ensures.writes_rows_from c.end-after.ensures c.requires.scope_low c.declaration-in-Declaration-DSeq.new.work c.declaration-in-Declaration-DSeq.result c.declaration-in-Declaration-DSeq.ensures.declaration_judged_at c.declaration-in-Declaration-DSeq.ensures.writes_rows_from c.requires.declaration_at;
}

pub declaration-returns-else-shares_name : goal.declaration-returns-else-shares_name
declaration-returns-else-shares_name t c = record {
  declaration_judged_at = sequence_fine c.args.work.now c.args.registers c.args.scope c.args.node (DeclarationLaws.kind_there _ _ _ _ _ c.node_kind.ensures c.in-Declaration-DSeq.is c.in-Declaration-DSeq.field-0-is) c.declaration.new.work c.declaration.result c.declaration.ensures.declaration_judged_at c.in_ok-middle-in-Declaration-DSeq.middle c.end-after.result c.in_ok-middle-in-Declaration-DSeq.was c.declaration.ensures.writes_rows_from c.end-after.ensures c.requires.scope_low c.declaration-in-Declaration-DSeq.new.work c.declaration-in-Declaration-DSeq.result c.declaration-in-Declaration-DSeq.ensures.declaration_judged_at c.declaration-in-Declaration-DSeq.ensures.writes_rows_from c.in_ok-newest-in-Declaration-DSeq.newest c.in_ok-newest-in-Declaration-DSeq.was _ c.shares_name.ensures c.if-shares_name.false;
  writes_rows_from = sequence_kept c.args.work.now c.args.registers c.args.scope c.args.node (DeclarationLaws.kind_there _ _ _ _ _ c.node_kind.ensures c.in-Declaration-DSeq.is c.in-Declaration-DSeq.field-0-is) c.declaration.new.work c.declaration.result c.declaration.ensures.declaration_judged_at c.in_ok-middle-in-Declaration-DSeq.middle c.end-after.result c.in_ok-middle-in-Declaration-DSeq.was c.declaration.ensures.writes_rows_from c.end-after.ensures c.requires.scope_low c.declaration-in-Declaration-DSeq.new.work c.declaration-in-Declaration-DSeq.result c.declaration-in-Declaration-DSeq.ensures.declaration_judged_at c.declaration-in-Declaration-DSeq.ensures.writes_rows_from c.requires.declaration_at;
}

pub declaration-bound-requires : goal.declaration-bound-requires
declaration-bound-requires t c =
    let low = bind_low c.args.work.now c.args.registers c.args.scope c.args.node (DeclarationLaws.kind_there _ _ _ _ _ c.node_kind.ensures c.in-Declaration-Bind.is c.in-Declaration-Bind.field-0-is) c.requires.declaration_at in
    (omega (arith, low, c.decreases), (c.requires.rows_end_in_bounds, (omega (arith, c.requires.scope_low), (c.requires.scope_at, bind_child c.args.work.now c.args.registers c.args.scope c.args.node (DeclarationLaws.kind_there _ _ _ _ _ c.node_kind.ensures c.in-Declaration-Bind.is c.in-Declaration-Bind.field-0-is) c.requires.declaration_at))))

pub declaration-returns-in_err-number-in-Declaration-Bind-clause-declaration_judged_at : goal.declaration-returns-in_err-number-in-Declaration-Bind-clause-declaration_judged_at
declaration-returns-in_err-number-in-Declaration-Bind-clause-declaration_judged_at t c =
    bind_fault c.args.work.now c.args.registers c.args.scope c.args.node (DeclarationLaws.kind_there _ _ _ _ _ c.node_kind.ensures c.in-Declaration-Bind.is c.in-Declaration-Bind.field-0-is) c.bound.new.work c.bound.result c.bound.ensures.bound_judged_at _ c.in_err-number-in-Declaration-Bind.was _ (search rules)

pub declaration-row_word-requires-clause-number_low : goal.declaration-row_word-requires-clause-number_low
declaration-row_word-requires-clause-number_low t c =
    let low = bind_low c.args.work.now c.args.registers c.args.scope c.args.node (DeclarationLaws.kind_there _ _ _ _ _ c.node_kind.ensures c.in-Declaration-Bind.is c.in-Declaration-Bind.field-0-is) c.requires.declaration_at in
    bind_number c.args.work.now c.args.registers c.args.scope c.args.node (DeclarationLaws.kind_there _ _ _ _ _ c.node_kind.ensures c.in-Declaration-Bind.is c.in-Declaration-Bind.field-0-is) c.bound.new.work c.bound.result c.bound.ensures.bound_judged_at c.in_ok-number-in-Declaration-Bind.number c.in_ok-number-in-Declaration-Bind.was c.requires.scope_at c.requires.declaration_at

pub declaration-returns-in_ok-number-in-Declaration-Bind-clause-declaration_judged_at : goal.declaration-returns-in_ok-number-in-Declaration-Bind-clause-declaration_judged_at
declaration-returns-in_ok-number-in-Declaration-Bind-clause-declaration_judged_at t c =
    bind_fine c.args.work.now c.args.registers c.args.scope c.args.node (DeclarationLaws.kind_there _ _ _ _ _ c.node_kind.ensures c.in-Declaration-Bind.is c.in-Declaration-Bind.field-0-is) c.bound.new.work c.bound.result c.bound.ensures.bound_judged_at c.in_ok-number-in-Declaration-Bind.number c.in_ok-number-in-Declaration-Bind.was c.bound.ensures.writes_rows_from _ _ c.operand-name.ensures c.row_word.ensures (omega (arith, c.bound.auto.work, c.requires.rows_end_in_bounds)) c.requires.scope_low
