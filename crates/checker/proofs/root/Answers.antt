-- The root: with no node it is absent, else its kind says whether it is an expression or a command.
use native.Mathlib.Omega.{arith}
use Rattle.std.proofs.Common.{rules}
use Rattle.checker.proofs.laws.RootLaws.{register_scope_at, root_known, absent_judged, expression_root, command_root, expression_fails, expression_passes, command_fails, command_passes}
use Rattle.checker.proofs.root.Goals as goal

pub returns-then-nodes-eq0-clause-root_judged_at : goal.returns-then-nodes-eq0-clause-root_judged_at
returns-then-nodes-eq0-clause-root_judged_at c =
    absent_judged _ _ _ c.if-nodes-eq0.true

pub node_kind-requires-clause-known : goal.node_kind-requires-clause-known
node_kind-requires-clause-known c = root_known _ _ c.if-nodes-eq0.false c.requires.root_at

pub expression-requires-clause-scope_at : goal.expression-requires-clause-scope_at
expression-requires-clause-scope_at c =
    (_, register_scope_at _ _)

pub expression-requires-clause-expression_at : goal.expression-requires-clause-expression_at
expression-requires-clause-expression_at c =
    expression_root _ _ c.if-nodes-eq0.false _ c.node_kind.ensures _ c.in-Expression.is c.requires.root_at

pub returns-in_err-code-in-Expression-clause-root_judged_at : goal.returns-in_err-code-in-Expression-clause-root_judged_at
returns-in_err-code-in-Expression-clause-root_judged_at c =
    expression_fails _ _ c.if-nodes-eq0.false _ c.node_kind.ensures _ _ c.in-Expression.is _ c.expression.ensures _ c.in_err-code-in-Expression.was _ (search rules)

pub returns-in_ok-code-in-Expression-clause-root_judged_at : goal.returns-in_ok-code-in-Expression-clause-root_judged_at
returns-in_ok-code-in-Expression-clause-root_judged_at c =
    expression_passes _ _ c.if-nodes-eq0.false _ c.node_kind.ensures _ _ c.in-Expression.is _ c.expression.ensures _ c.in_ok-code-in-Expression.was

pub command-requires : goal.command-requires
command-requires c = record {
  rows_end_in_bounds = c.requires.rows_end_in_bounds;
  scope_low = omega arith;
  scope_at = (_, register_scope_at _ _);
  command_at = command_root _ _ c.if-nodes-eq0.false _ c.node_kind.ensures c.in_default.not-Expression c.requires.root_at;
}

pub returns-in_err-command-in_default : goal.returns-in_err-command-in_default
returns-in_err-command-in_default c = record {
  root_judged_at = command_fails _ _ c.if-nodes-eq0.false _ c.node_kind.ensures _ c.in_default.not-Expression _ c.command.ensures.command_judged_at _ c.in_err-command-in_default.was _ (search rules);
  writes_rows_from = c.command.ensures.writes_rows_from;
}

pub returns-in_ok-command-in_default : goal.returns-in_ok-command-in_default
returns-in_ok-command-in_default c = record {
  root_judged_at = command_passes _ _ c.if-nodes-eq0.false _ c.node_kind.ensures _ c.in_default.not-Expression _ c.command.ensures.command_judged_at _ c.in_ok-command-in_default.was;
  writes_rows_from = c.command.ensures.writes_rows_from;
}
