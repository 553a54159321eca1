-- The answers of the functions of the cycle: what each makes of the node.
use mathlib.Core.Path.{ap, ◌∙◌, sym, subst}
use native.Mathlib.Omega.{arith}
use Rattle.rules.specs.paper.Kinds.{kind_number}
use Rattle.rules.specs.declared.kinds.CommandKind.TheVariants.{Assign as assign_kind, Loop as loop_kind, CSeq as cseq_kind, Blk as blk_kind, Call as call_kind}
use Rattle.rules.specs.declared.kinds.DeclarationKind.TheVariants.{Bind as bind_kind, DSeq as dseq_kind}
use Rattle.rules.specs.declared.kinds.Kind.TheVariants.{Ref as ref_kind, Abs as abs_kind}
use Rattle.reader.proofs.NodeKindLaws.{kinds_told, command_known, command_is, declaration_known, declaration_is}
use Rattle.reader.proofs.StandingLaws.{expression_low, command_low, declaration_low}
use Rattle.estimator.specs.Figures.{tested_figures, unary_figures}
use Rattle.estimator.proofs.EntryLaws.{entries_same, entries_lower, entries_then, names_kept, figures_small}
use Rattle.estimator.proofs.CommandLaws.{is_number, is_not, assign_needs, call_there, call_command, block_declaration, block_body, block_needs, sequence_first, sequence_second, sequence_needs, value_there, true_there, loop_needs, false_there, conditional_needs}
use Prim.Native.Nat.{◌+◌}
use Rattle.rules.specs.paper.Needs.{nothing, command_need}
use Rattle.estimator.specs.Entries.{SmallFigures}
use Rattle.estimator.proofs.DeclarationLaws.{declaration_is_number, bound_there, first_there, second_there, sequence_declared, bound_low, name_low, formals_there, function_low, function_there, function_declared, referent_there, reference_declared, plain_declared}
use Rattle.estimator.proofs.DeclarationLaws as declaration_laws
use Rattle.estimator.proofs.commands.+needs.Goals as goal

-- command
pub command-node_kind-requires : goal.command-node_kind-requires
command-node_kind-requires t c = record {
  in_bounds = omega (arith, command_low c.requires.some_command.3, c.requires.entries_end_in_bounds);
  known = command_known c.requires.some_command.3;
}

pub command-unreachable-requires : goal.command-unreachable-requires
command-unreachable-requires t c = c.in_default.not-Command _ (command_is _ c.requires.some_command.3 c.node_kind.ensures)

pub command-call-requires : goal.command-call-requires
command-call-requires t c = record {
  entries_end_in_bounds = c.requires.entries_end_in_bounds;
  names_at = c.requires.names_at;
  some_call = call_there _ _ _ c.node_kind.ensures (is_number _ _ call_kind c.in-Command.is c.in-Call.is) c.requires.some_command;
}

pub command-returns-in-Call : goal.command-returns-in-Call
command-returns-in-Call t c = record {
  command_needs = call_command _ _ _ c.node_kind.ensures (is_number _ _ call_kind c.in-Command.is c.in-Call.is) _ _ c.call.ensures;
  writes_entries_from = entries_same _ _;
}

pub command-overflow_add-node : goal.command-overflow_add-node
command-overflow_add-node t c = record { fits = omega (arith, declaration_low (block_declaration _ _ _ c.node_kind.ensures (is_number _ _ blk_kind c.in-Command.is c.in-Blk.is) c.requires.some_command).0.3) }

pub command-declaration-declared-requires : goal.command-declaration-declared-requires
command-declaration-declared-requires t c =
    let there = block_declaration _ _ _ c.node_kind.ensures (is_number _ _ blk_kind c.in-Command.is c.in-Blk.is) c.requires.some_command in
    (omega (arith, c.decreases, there.1), (c.requires.entries_end_in_bounds, (omega (arith, c.requires.scope_le_node), (c.requires.names_at, there.0))))

pub command-overflow_add-node-in-Blk : goal.command-overflow_add-node-in-Blk
command-overflow_add-node-in-Blk t c = record { fits = omega (arith, declaration_low (block_declaration _ _ _ c.node_kind.ensures (is_number _ _ blk_kind c.in-Command.is c.in-Blk.is) c.requires.some_command).0.3) }

pub command-end-inside-requires : goal.command-end-inside-requires
command-end-inside-requires t c = omega (arith, declaration_low (block_declaration _ _ _ c.node_kind.ensures (is_number _ _ blk_kind c.in-Command.is c.in-Blk.is) c.requires.some_command).0.3, c.requires.entries_end_in_bounds, c.declaration-declared.ensures.writes_entries_from.same_length)

pub command-command-second-requires : goal.command-command-second-requires
command-command-second-requires t c =
    let inside = block_body _ _ _ c.node_kind.ensures (is_number _ _ blk_kind c.in-Command.is c.in-Blk.is) _ _ _ _ c.declaration-declared.ensures.writes_entries_from c.declaration-declared.ensures.declaration_needs c.end-inside.ensures c.requires.some_command c.requires.names_at in
    (omega (arith, c.decreases, inside.less), (omega (arith, c.requires.entries_end_in_bounds, c.declaration-declared.ensures.writes_entries_from.same_length), (inside.pointed, (inside.named, inside.there))))

pub command-returns-in-Blk : goal.command-returns-in-Blk
command-returns-in-Blk t c =
    let inside = block_body _ _ _ c.node_kind.ensures (is_number _ _ blk_kind c.in-Command.is c.in-Blk.is) _ _ _ _ c.declaration-declared.ensures.writes_entries_from c.declaration-declared.ensures.declaration_needs c.end-inside.ensures c.requires.some_command c.requires.names_at in record {
      command_needs = block_needs _ _ _ c.node_kind.ensures (is_number _ _ blk_kind c.in-Command.is c.in-Blk.is) _ _ _ _ _ _ c.declaration-declared.ensures.writes_entries_from c.declaration-declared.ensures.declaration_needs c.end-inside.ensures c.command-second.ensures.command_needs c.scoped.ensures;
      writes_entries_from = entries_then (entries_lower c.declaration-declared.ensures.writes_entries_from (omega arith)) c.command-second.ensures.writes_entries_from (omega (arith, inside.later));
    }

pub command-overflow_add-node-in-CSeq : goal.command-overflow_add-node-in-CSeq
command-overflow_add-node-in-CSeq t c = record { fits = omega (arith, command_low (sequence_first _ _ _ c.node_kind.ensures (is_number _ _ cseq_kind c.in-Command.is c.in-CSeq.is) c.requires.some_command).0.3) }

pub command-command-first-requires : goal.command-command-first-requires
command-command-first-requires t c =
    let there = sequence_first _ _ _ c.node_kind.ensures (is_number _ _ cseq_kind c.in-Command.is c.in-CSeq.is) c.requires.some_command in
    (omega (arith, c.decreases, there.1), (c.requires.entries_end_in_bounds, (omega (arith, c.requires.scope_le_node), (c.requires.names_at, there.0))))

pub command-overflow_add-node-in-CSeq-2 : goal.command-overflow_add-node-in-CSeq-2
command-overflow_add-node-in-CSeq-2 t c = record { fits = omega (arith, command_low (sequence_first _ _ _ c.node_kind.ensures (is_number _ _ cseq_kind c.in-Command.is c.in-CSeq.is) c.requires.some_command).0.3) }

pub command-end-after-requires : goal.command-end-after-requires
command-end-after-requires t c = omega (arith, command_low (sequence_first _ _ _ c.node_kind.ensures (is_number _ _ cseq_kind c.in-Command.is c.in-CSeq.is) c.requires.some_command).0.3, c.requires.entries_end_in_bounds, c.command-first.ensures.writes_entries_from.same_length)

pub command-command-second-requires-in-CSeq : goal.command-command-second-requires-in-CSeq
command-command-second-requires-in-CSeq t c =
    let second = sequence_second _ _ _ c.node_kind.ensures (is_number _ _ cseq_kind c.in-Command.is c.in-CSeq.is) _ _ c.command-first.ensures.writes_entries_from c.end-after.ensures c.requires.some_command in
    (omega (arith, c.decreases, second.2), (omega (arith, c.requires.entries_end_in_bounds, c.command-first.ensures.writes_entries_from.same_length), (omega (arith, c.requires.scope_le_node, second.1), ((c.requires.names_at.0, names_kept c.command-first.ensures.writes_entries_from (omega (arith, c.requires.scope_le_node)) c.requires.names_at.1), second.0))))

pub command-returns-in-CSeq : goal.command-returns-in-CSeq
command-returns-in-CSeq t c =
    let second = sequence_second _ _ _ c.node_kind.ensures (is_number _ _ cseq_kind c.in-Command.is c.in-CSeq.is) _ _ c.command-first.ensures.writes_entries_from c.end-after.ensures c.requires.some_command in record {
      command_needs = sequence_needs _ _ _ c.node_kind.ensures (is_number _ _ cseq_kind c.in-Command.is c.in-CSeq.is) _ _ _ _ _ _ c.command-first.ensures.writes_entries_from c.end-after.ensures c.requires.scope_le_node c.command-first.ensures.command_needs c.command-second-in-CSeq.ensures.command_needs c.sequence.ensures;
      writes_entries_from = entries_then (entries_lower c.command-first.ensures.writes_entries_from (omega arith)) c.command-second-in-CSeq.ensures.writes_entries_from (omega (arith, second.1));
    }

pub command-overflow_add-node-2 : goal.command-overflow_add-node-2
command-overflow_add-node-2 t c = record { fits = omega (arith, expression_low (value_there _ _ _ c.node_kind.ensures (is_not _ _ call_kind c.in-Command.is c.in_default-which.not-Call) (is_not _ _ blk_kind c.in-Command.is c.in_default-which-2.not-Blk) (is_not _ _ cseq_kind c.in-Command.is c.in_default-which-3.not-CSeq) c.requires.some_command).3) }

pub command-expression-value-requires : goal.command-expression-value-requires
command-expression-value-requires t c = record {
  most_nodes_in_bounds = omega (arith, c.requires.entries_end_in_bounds);
  some_expression = value_there _ _ _ c.node_kind.ensures (is_not _ _ call_kind c.in-Command.is c.in_default-which.not-Call) (is_not _ _ blk_kind c.in-Command.is c.in_default-which-2.not-Blk) (is_not _ _ cseq_kind c.in-Command.is c.in_default-which-3.not-CSeq) c.requires.some_command;
}

pub command-returns-in-Assign : goal.command-returns-in-Assign
command-returns-in-Assign t c = record {
  command_needs = assign_needs _ _ _ c.node_kind.ensures (is_number _ _ assign_kind c.in-Command.is c.in-Assign.is) _ _ _ c.expression-value.ensures c.unary.ensures;
  writes_entries_from = entries_same _ _;
}

pub command-overflow_add-node-3 : goal.command-overflow_add-node-3
command-overflow_add-node-3 t c = record { fits = omega (arith, expression_low (value_there _ _ _ c.node_kind.ensures (is_not _ _ call_kind c.in-Command.is c.in_default-which.not-Call) (is_not _ _ blk_kind c.in-Command.is c.in_default-which-2.not-Blk) (is_not _ _ cseq_kind c.in-Command.is c.in_default-which-3.not-CSeq) c.requires.some_command).3) }

pub command-end-where_true-requires : goal.command-end-where_true-requires
command-end-where_true-requires t c = omega (arith, expression_low (value_there _ _ _ c.node_kind.ensures (is_not _ _ call_kind c.in-Command.is c.in_default-which.not-Call) (is_not _ _ blk_kind c.in-Command.is c.in_default-which-2.not-Blk) (is_not _ _ cseq_kind c.in-Command.is c.in_default-which-3.not-CSeq) c.requires.some_command).3, c.requires.entries_end_in_bounds)

pub command-command-first-requires-2 : goal.command-command-first-requires-2
command-command-first-requires-2 t c =
    let there = true_there _ _ _ c.node_kind.ensures (is_not _ _ assign_kind c.in-Command.is c.in_default-which-4.not-Assign) (is_not _ _ call_kind c.in-Command.is c.in_default-which.not-Call) (is_not _ _ blk_kind c.in-Command.is c.in_default-which-2.not-Blk) (is_not _ _ cseq_kind c.in-Command.is c.in_default-which-3.not-CSeq) _ c.end-where_true.ensures c.requires.some_command in
    (omega (arith, c.decreases, there.2), (c.requires.entries_end_in_bounds, (omega (arith, c.requires.scope_le_node, there.1), (c.requires.names_at, there.0))))

pub command-returns-in-Loop : goal.command-returns-in-Loop
command-returns-in-Loop t c =
    let there = true_there _ _ _ c.node_kind.ensures (is_not _ _ assign_kind c.in-Command.is c.in_default-which-4.not-Assign) (is_not _ _ call_kind c.in-Command.is c.in_default-which.not-Call) (is_not _ _ blk_kind c.in-Command.is c.in_default-which-2.not-Blk) (is_not _ _ cseq_kind c.in-Command.is c.in_default-which-3.not-CSeq) _ c.end-where_true.ensures c.requires.some_command in record {
      command_needs = loop_needs _ _ _ c.node_kind.ensures (is_number _ _ loop_kind c.in-Command.is c.in-Loop.is) _ _ _ _ _ c.end-where_true.ensures c.expression-value.ensures c.command-first-2.ensures.command_needs (c.tested.ensures ∙ ap (tested_figures c.expression-value.result) c.over-turn.ensures);
      writes_entries_from = entries_lower c.command-first-2.ensures.writes_entries_from (omega (arith, there.1));
    }

pub command-end-where_false-requires : goal.command-end-where_false-requires
command-end-where_false-requires t c =
    let there = true_there _ _ _ c.node_kind.ensures (is_not _ _ assign_kind c.in-Command.is c.in_default-which-4.not-Assign) (is_not _ _ call_kind c.in-Command.is c.in_default-which.not-Call) (is_not _ _ blk_kind c.in-Command.is c.in_default-which-2.not-Blk) (is_not _ _ cseq_kind c.in-Command.is c.in_default-which-3.not-CSeq) _ c.end-where_true.ensures c.requires.some_command in
    omega (arith, command_low there.0.3, c.requires.entries_end_in_bounds, c.command-first-2.ensures.writes_entries_from.same_length)

pub command-command-second-requires-2 : goal.command-command-second-requires-2
command-command-second-requires-2 t c =
    let there = true_there _ _ _ c.node_kind.ensures (is_not _ _ assign_kind c.in-Command.is c.in_default-which-4.not-Assign) (is_not _ _ call_kind c.in-Command.is c.in_default-which.not-Call) (is_not _ _ blk_kind c.in-Command.is c.in_default-which-2.not-Blk) (is_not _ _ cseq_kind c.in-Command.is c.in_default-which-3.not-CSeq) _ c.end-where_true.ensures c.requires.some_command in
    let second = false_there _ _ _ c.node_kind.ensures (is_not _ _ assign_kind c.in-Command.is c.in_default-which-4.not-Assign) (is_not _ _ call_kind c.in-Command.is c.in_default-which.not-Call) (is_not _ _ blk_kind c.in-Command.is c.in_default-which-2.not-Blk) (is_not _ _ cseq_kind c.in-Command.is c.in_default-which-3.not-CSeq) (is_not _ _ loop_kind c.in-Command.is c.in_default-which-5.not-Loop) _ _ _ c.end-where_true.ensures c.command-first-2.ensures.writes_entries_from c.end-where_false.ensures c.requires.some_command in
    (omega (arith, c.decreases, second.2), (omega (arith, c.requires.entries_end_in_bounds, c.command-first-2.ensures.writes_entries_from.same_length), (omega (arith, c.requires.scope_le_node, there.1, second.1), ((c.requires.names_at.0, names_kept c.command-first-2.ensures.writes_entries_from (omega (arith, c.requires.scope_le_node, there.1)) c.requires.names_at.1), second.0))))

pub command-returns : goal.command-returns
command-returns t c =
    let there = true_there _ _ _ c.node_kind.ensures (is_not _ _ assign_kind c.in-Command.is c.in_default-which-4.not-Assign) (is_not _ _ call_kind c.in-Command.is c.in_default-which.not-Call) (is_not _ _ blk_kind c.in-Command.is c.in_default-which-2.not-Blk) (is_not _ _ cseq_kind c.in-Command.is c.in_default-which-3.not-CSeq) _ c.end-where_true.ensures c.requires.some_command in
    let second = false_there _ _ _ c.node_kind.ensures (is_not _ _ assign_kind c.in-Command.is c.in_default-which-4.not-Assign) (is_not _ _ call_kind c.in-Command.is c.in_default-which.not-Call) (is_not _ _ blk_kind c.in-Command.is c.in_default-which-2.not-Blk) (is_not _ _ cseq_kind c.in-Command.is c.in_default-which-3.not-CSeq) (is_not _ _ loop_kind c.in-Command.is c.in_default-which-5.not-Loop) _ _ _ c.end-where_true.ensures c.command-first-2.ensures.writes_entries_from c.end-where_false.ensures c.requires.some_command in record {
      command_needs = conditional_needs _ _ _ c.node_kind.ensures (is_not _ _ assign_kind c.in-Command.is c.in_default-which-4.not-Assign) (is_not _ _ call_kind c.in-Command.is c.in_default-which.not-Call) (is_not _ _ blk_kind c.in-Command.is c.in_default-which-2.not-Blk) (is_not _ _ cseq_kind c.in-Command.is c.in_default-which-3.not-CSeq) (is_not _ _ loop_kind c.in-Command.is c.in_default-which-5.not-Loop) _ _ _ c.end-where_true.ensures c.command-first-2.ensures.writes_entries_from c.end-where_false.ensures _ _ _ _ _ (omega (arith, c.requires.scope_le_node, there.1)) c.expression-value.ensures c.command-first-2.ensures.command_needs c.command-second-2.ensures.command_needs (c.tested-2.ensures ∙ ap (tested_figures c.expression-value.result) c.either-larger.ensures);
      writes_entries_from = entries_then (entries_lower c.command-first-2.ensures.writes_entries_from (omega (arith, there.1))) c.command-second-2.ensures.writes_entries_from (omega (arith, there.1, second.1));
    }

-- declaration
pub declaration-node_kind-requires : goal.declaration-node_kind-requires
declaration-node_kind-requires t c = record {
  in_bounds = omega (arith, declaration_low c.requires.some_declaration.3, c.requires.entries_end_in_bounds);
  known = declaration_known c.requires.some_declaration.3;
}

pub declaration-unreachable-requires : goal.declaration-unreachable-requires
declaration-unreachable-requires t c = c.in_default.not-Declaration _ (declaration_is _ c.requires.some_declaration.3 c.node_kind.ensures)

pub declaration-overflow_add-node : goal.declaration-overflow_add-node
declaration-overflow_add-node t c = record { fits = omega (arith, declaration_low (first_there _ _ _ c.node_kind.ensures (declaration_is_number _ _ dseq_kind c.in-Declaration.is c.in-DSeq.is) c.requires.some_declaration).0.3) }

pub declaration-declaration-first-requires : goal.declaration-declaration-first-requires
declaration-declaration-first-requires t c =
    let there = first_there _ _ _ c.node_kind.ensures (declaration_is_number _ _ dseq_kind c.in-Declaration.is c.in-DSeq.is) c.requires.some_declaration in
    (omega (arith, c.decreases, there.1), (c.requires.entries_end_in_bounds, (omega (arith, c.requires.scope_le_node), (c.requires.names_at, there.0))))

pub declaration-overflow_add-node-in-DSeq : goal.declaration-overflow_add-node-in-DSeq
declaration-overflow_add-node-in-DSeq t c = record { fits = omega (arith, declaration_low (first_there _ _ _ c.node_kind.ensures (declaration_is_number _ _ dseq_kind c.in-Declaration.is c.in-DSeq.is) c.requires.some_declaration).0.3) }

pub declaration-end-after-requires : goal.declaration-end-after-requires
declaration-end-after-requires t c = omega (arith, declaration_low (first_there _ _ _ c.node_kind.ensures (declaration_is_number _ _ dseq_kind c.in-Declaration.is c.in-DSeq.is) c.requires.some_declaration).0.3, c.requires.entries_end_in_bounds, c.declaration-first.ensures.writes_entries_from.same_length)

pub declaration-declaration-second-requires : goal.declaration-declaration-second-requires
declaration-declaration-second-requires t c =
    let second = second_there _ _ _ c.node_kind.ensures (declaration_is_number _ _ dseq_kind c.in-Declaration.is c.in-DSeq.is) _ _ _ _ c.declaration-first.ensures.writes_entries_from c.declaration-first.ensures.declaration_needs c.end-after.ensures c.requires.some_declaration c.requires.names_at in
    (omega (arith, c.decreases, second.less), (omega (arith, c.requires.entries_end_in_bounds, c.declaration-first.ensures.writes_entries_from.same_length), (second.pointed, (second.named, second.there))))

pub declaration-returns-in-DSeq : goal.declaration-returns-in-DSeq
declaration-returns-in-DSeq t c =
    let second = second_there _ _ _ c.node_kind.ensures (declaration_is_number _ _ dseq_kind c.in-Declaration.is c.in-DSeq.is) _ _ _ _ c.declaration-first.ensures.writes_entries_from c.declaration-first.ensures.declaration_needs c.end-after.ensures c.requires.some_declaration c.requires.names_at in record {
      declaration_needs = sequence_declared _ _ _ c.node_kind.ensures (declaration_is_number _ _ dseq_kind c.in-Declaration.is c.in-DSeq.is) _ _ _ _ _ _ _ _ _ c.declaration-first.ensures.writes_entries_from c.declaration-first.ensures.declaration_needs c.end-after.ensures c.declaration-second.ensures.declaration_needs c.sum-cells.ensures c.sum-bindings.ensures c.scoped-need.ensures;
      writes_entries_from = entries_then (entries_lower c.declaration-first.ensures.writes_entries_from (omega arith)) c.declaration-second.ensures.writes_entries_from (omega (arith, second.later));
    }

pub declaration-operand-name-requires : goal.declaration-operand-name-requires
declaration-operand-name-requires t c = omega (arith, declaration_low c.requires.some_declaration.3, c.requires.entries_end_in_bounds)

pub declaration-overflow_add-node-2 : goal.declaration-overflow_add-node-2
declaration-overflow_add-node-2 t c = record { fits = omega (arith, bound_low _ _ _ c.node_kind.ensures (λ z. omega (arith, z, declaration_is_number _ _ bind_kind c.in-Declaration.is c.in_default-which.is)) c.requires.some_declaration) }

pub declaration-node_kind-requires-2 : goal.declaration-node_kind-requires-2
declaration-node_kind-requires-2 t c = record {
  in_bounds = omega (arith, bound_low _ _ _ c.node_kind.ensures (λ z. omega (arith, z, declaration_is_number _ _ bind_kind c.in-Declaration.is c.in_default-which.is)) c.requires.some_declaration, c.requires.entries_end_in_bounds);
  known = bound_there _ _ _ c.node_kind.ensures (λ z. omega (arith, z, declaration_is_number _ _ bind_kind c.in-Declaration.is c.in_default-which.is)) c.requires.some_declaration;
}

pub declaration-overflow_add-node-in-Abs : goal.declaration-overflow_add-node-in-Abs
declaration-overflow_add-node-in-Abs t c = record { fits = omega (arith, bound_low _ _ _ c.node_kind.ensures (λ z. omega (arith, z, declaration_is_number _ _ bind_kind c.in-Declaration.is c.in_default-which.is)) c.requires.some_declaration) }

pub declaration-operand-count-requires : goal.declaration-operand-count-requires
declaration-operand-count-requires t c = omega (arith, bound_low _ _ _ c.node_kind.ensures (λ z. omega (arith, z, declaration_is_number _ _ bind_kind c.in-Declaration.is c.in_default-which.is)) c.requires.some_declaration, c.requires.entries_end_in_bounds)

pub declaration-overflow_add-node-in-Abs-2 : goal.declaration-overflow_add-node-in-Abs-2
declaration-overflow_add-node-in-Abs-2 t c = record { fits = omega (arith, bound_low _ _ _ c.node_kind.ensures (λ z. omega (arith, z, declaration_is_number _ _ bind_kind c.in-Declaration.is c.in_default-which.is)) c.requires.some_declaration) }

pub declaration-formals-inner-requires : goal.declaration-formals-inner-requires
declaration-formals-inner-requires t c = record {
  entries_end_in_bounds = c.requires.entries_end_in_bounds;
  scope_le_node = omega (arith, c.requires.scope_le_node);
  names_at = c.requires.names_at;
  some_formals = formals_there _ _ _ c.node_kind.ensures (λ z. omega (arith, z, declaration_is_number _ _ bind_kind c.in-Declaration.is c.in_default-which.is)) _ c.node_kind-2.ensures (ap kind_number c.in-Abs.is) _ c.operand-count.ensures c.requires.some_declaration;
}

pub declaration-overflow_add-node-in-Abs-3 : goal.declaration-overflow_add-node-in-Abs-3
declaration-overflow_add-node-in-Abs-3 t c = record { fits = omega (arith, function_low _ _ _ c.node_kind.ensures (λ z. omega (arith, z, declaration_is_number _ _ bind_kind c.in-Declaration.is c.in_default-which.is)) _ c.node_kind-2.ensures (ap kind_number c.in-Abs.is) _ c.operand-count.ensures c.requires.some_declaration) }

pub declaration-overflow_add-node-in-Abs-4 : goal.declaration-overflow_add-node-in-Abs-4
declaration-overflow_add-node-in-Abs-4 t c = record { fits = omega (arith, function_low _ _ _ c.node_kind.ensures (λ z. omega (arith, z, declaration_is_number _ _ bind_kind c.in-Declaration.is c.in_default-which.is)) _ c.node_kind-2.ensures (ap kind_number c.in-Abs.is) _ c.operand-count.ensures c.requires.some_declaration) }

pub declaration-command-function-requires : goal.declaration-command-function-requires
declaration-command-function-requires t c =
    let there = function_there _ _ _ c.node_kind.ensures (λ z. omega (arith, z, declaration_is_number _ _ bind_kind c.in-Declaration.is c.in_default-which.is)) _ c.node_kind-2.ensures (ap kind_number c.in-Abs.is) _ c.operand-count.ensures _ _ _ c.formals-inner.ensures.writes_entries_from c.formals-inner.ensures.formals_named c.requires.some_declaration c.requires.names_at in
    (omega (arith, c.decreases, there.3), (omega (arith, c.requires.entries_end_in_bounds, c.formals-inner.ensures.writes_entries_from.same_length), (there.1, (there.2, there.0))))

pub declaration-keep-requires : goal.declaration-keep-requires
declaration-keep-requires t c =
    let there = function_there _ _ _ c.node_kind.ensures (λ z. omega (arith, z, declaration_is_number _ _ bind_kind c.in-Declaration.is c.in_default-which.is)) _ c.node_kind-2.ensures (ap kind_number c.in-Abs.is) _ c.operand-count.ensures _ _ _ c.formals-inner.ensures.writes_entries_from c.formals-inner.ensures.formals_named c.requires.some_declaration c.requires.names_at in
    let function = c.command-function.ensures.command_needs _ _ _ _ there.0.3 there.2.1 in record {
      entries_end_in_bounds = omega (arith, c.requires.entries_end_in_bounds, c.formals-inner.ensures.writes_entries_from.same_length, c.command-function.ensures.writes_entries_from.same_length);
      node_lt_most_nodes = declaration_low c.requires.some_declaration.3;
      name_lt_names = omega (arith, c.operand-name.ensures, name_low _ _ _ c.node_kind.ensures (λ z. omega (arith, z, declaration_is_number _ _ bind_kind c.in-Declaration.is c.in_default-which.is)) c.requires.some_declaration);
      link_le_node = c.requires.scope_le_node;
      small_figures = subst SmallFigures (sym function) (figures_small (command_need there.2.0 there.0.2));
    }

pub declaration-returns-in-Abs : goal.declaration-returns-in-Abs
declaration-returns-in-Abs t c =
    let kept = entries_then {low = c.args.node + 1} (entries_lower c.formals-inner.ensures.writes_entries_from (omega arith)) c.command-function.ensures.writes_entries_from (omega arith) in record {
      declaration_needs = function_declared _ _ _ c.node_kind.ensures (λ z. omega (arith, z, declaration_is_number _ _ bind_kind c.in-Declaration.is c.in_default-which.is)) _ c.node_kind-2.ensures (ap kind_number c.in-Abs.is) _ c.operand-count.ensures _ _ _ _ _ _ _ _ c.requires.scope_le_node c.formals-inner.ensures.writes_entries_from c.formals-inner.ensures.formals_named kept c.command-function.ensures.command_needs c.operand-name.ensures c.keep.ensures
          (c.unary-need.ensures ∙ ap (λ n. unary_figures n 1 2 0 1) c.step-closure.ensures);
      writes_entries_from = entries_then (entries_lower kept (omega arith)) c.keep.ensures.others (omega arith);
    }

pub declaration-keep-requires-in-Ref : goal.declaration-keep-requires-in-Ref
declaration-keep-requires-in-Ref t c = record {
  entries_end_in_bounds = c.requires.entries_end_in_bounds;
  node_lt_most_nodes = declaration_low c.requires.some_declaration.3;
  name_lt_names = omega (arith, c.operand-name.ensures, name_low _ _ _ c.node_kind.ensures (λ z. omega (arith, z, declaration_is_number _ _ bind_kind c.in-Declaration.is c.in_default-which.is)) c.requires.some_declaration);
  link_le_node = c.requires.scope_le_node;
  small_figures = subst SmallFigures (sym c.nothing.ensures) (figures_small nothing);
}

pub declaration-overflow_add-node-in-Ref : goal.declaration-overflow_add-node-in-Ref
declaration-overflow_add-node-in-Ref t c = record { fits = omega (arith, bound_low _ _ _ c.node_kind.ensures (λ z. omega (arith, z, declaration_is_number _ _ bind_kind c.in-Declaration.is c.in_default-which.is)) c.requires.some_declaration) }

pub declaration-expression-value-requires : goal.declaration-expression-value-requires
declaration-expression-value-requires t c = record {
  most_nodes_in_bounds = omega (arith, c.requires.entries_end_in_bounds, c.keep-in-Ref.ensures.others.same_length);
  some_expression = referent_there _ _ _ c.node_kind.ensures (λ z. omega (arith, z, declaration_is_number _ _ bind_kind c.in-Declaration.is c.in_default-which.is)) _ c.node_kind-2.ensures _ _ _ _ c.requires.scope_le_node c.nothing.ensures c.operand-name.ensures c.keep-in-Ref.ensures (ap kind_number c.in-Ref.is) c.requires.some_declaration;
}

pub declaration-returns-in-Ref : goal.declaration-returns-in-Ref
declaration-returns-in-Ref t c = record {
  declaration_needs = reference_declared _ _ _ c.node_kind.ensures (λ z. omega (arith, z, declaration_is_number _ _ bind_kind c.in-Declaration.is c.in_default-which.is)) _ c.node_kind-2.ensures _ _ _ _ c.requires.scope_le_node c.nothing.ensures c.operand-name.ensures c.keep-in-Ref.ensures (ap kind_number c.in-Ref.is) _ _ _ c.expression-value.ensures c.unary-reference.ensures c.unary-need-in-Ref.ensures;
  writes_entries_from = c.keep-in-Ref.ensures.others;
}

pub declaration-keep-requires-in_default-node_kind : goal.declaration-keep-requires-in_default-node_kind
declaration-keep-requires-in_default-node_kind t c = record {
  entries_end_in_bounds = c.requires.entries_end_in_bounds;
  node_lt_most_nodes = declaration_low c.requires.some_declaration.3;
  name_lt_names = omega (arith, c.operand-name.ensures, name_low _ _ _ c.node_kind.ensures (λ z. omega (arith, z, declaration_is_number _ _ bind_kind c.in-Declaration.is c.in_default-which.is)) c.requires.some_declaration);
  link_le_node = c.requires.scope_le_node;
  small_figures = subst SmallFigures (sym c.nothing-in_default-node_kind.ensures) (figures_small nothing);
}

pub declaration-overflow_add-node-in_default-node_kind : goal.declaration-overflow_add-node-in_default-node_kind
declaration-overflow_add-node-in_default-node_kind t c = record { fits = omega (arith, bound_low _ _ _ c.node_kind.ensures (λ z. omega (arith, z, declaration_is_number _ _ bind_kind c.in-Declaration.is c.in_default-which.is)) c.requires.some_declaration) }

pub declaration-expression-value-requires-in_default-node_kind : goal.declaration-expression-value-requires-in_default-node_kind
declaration-expression-value-requires-in_default-node_kind t c = record {
  most_nodes_in_bounds = omega (arith, c.requires.entries_end_in_bounds, c.keep-in_default-node_kind.ensures.others.same_length);
  some_expression = declaration_laws.value_there _ _ _ c.node_kind.ensures (λ z. omega (arith, z, declaration_is_number _ _ bind_kind c.in-Declaration.is c.in_default-which.is)) _ c.node_kind-2.ensures _ _ _ _ c.requires.scope_le_node c.nothing-in_default-node_kind.ensures c.operand-name.ensures c.keep-in_default-node_kind.ensures (λ z. c.in_default-node_kind.not-Abs (kinds_told _ abs_kind z)) (λ z. c.in_default-node_kind.not-Ref (kinds_told _ ref_kind z)) c.requires.some_declaration;
}

pub declaration-returns-in_default-node_kind : goal.declaration-returns-in_default-node_kind
declaration-returns-in_default-node_kind t c = record {
  declaration_needs = plain_declared _ _ _ c.node_kind.ensures (λ z. omega (arith, z, declaration_is_number _ _ bind_kind c.in-Declaration.is c.in_default-which.is)) _ c.node_kind-2.ensures _ _ _ _ c.requires.scope_le_node c.nothing-in_default-node_kind.ensures c.operand-name.ensures c.keep-in_default-node_kind.ensures (λ z. c.in_default-node_kind.not-Abs (kinds_told _ abs_kind z)) (λ z. c.in_default-node_kind.not-Ref (kinds_told _ ref_kind z)) _ _ c.expression-value-in_default-node_kind.ensures c.unary-need-in_default-node_kind.ensures;
  writes_entries_from = c.keep-in_default-node_kind.ensures.others;
}
