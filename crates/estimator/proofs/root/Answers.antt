-- The root by the kind of node 0.
use native.Mathlib.Omega.{arith}
use Rattle.rules.specs.paper.Needs.{register_needs}
use Rattle.reader.proofs.NodesKnown.{nodes_known}
use Rattle.estimator.proofs.EntryLaws.{entries_same}
use Rattle.estimator.proofs.RootLaws.{registers_named, absent_needs, expression_there, expression_needs, command_there, command_needs}
use Rattle.estimator.proofs.root.Goals as goal

pub returns-then-nodes-eq0 : goal.returns-then-nodes-eq0
returns-then-nodes-eq0 c = record {
  root_needs = absent_needs _ _ c.if-nodes-eq0.true _ c.nothing.ensures;
  writes_entries_from = entries_same _ _;
}

pub node_kind-requires : goal.node_kind-requires
node_kind-requires c = record {
  in_bounds = omega (arith, c.requires.entries_end_in_bounds);
  known = nodes_known c.requires.root_at.1 0 (omega (arith, c.if-nodes-eq0.false));
}

pub expression-requires : goal.expression-requires
expression-requires c = record {
  most_nodes_in_bounds = omega (arith, c.requires.entries_end_in_bounds);
  some_expression = expression_there _ _ c.if-nodes-eq0.false _ c.node_kind.ensures _ c.in-Expression.is c.requires.root_at;
}

pub returns-in-Expression : goal.returns-in-Expression
returns-in-Expression c = record {
  root_needs = expression_needs _ _ c.if-nodes-eq0.false _ c.node_kind.ensures _ c.in-Expression.is _ c.expression.ensures;
  writes_entries_from = entries_same _ _;
}

pub command-requires : goal.command-requires
command-requires c = record {
  entries_end_in_bounds = c.requires.entries_end_in_bounds;
  scope_le_node = omega arith;
  names_at = (register_needs 0, registers_named _ 0);
  some_command = command_there _ _ c.if-nodes-eq0.false _ c.node_kind.ensures c.in_default.not-Expression c.requires.root_at;
}

pub returns-in_default : goal.returns-in_default
returns-in_default c = record {
  root_needs = command_needs _ _ c.if-nodes-eq0.false _ c.node_kind.ensures c.in_default.not-Expression _ c.command.ensures.command_needs;
  writes_entries_from = c.command.ensures.writes_entries_from;
}
