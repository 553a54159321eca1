-- The root by the kind of node 0.
use Rattle.std.proofs.lemmas.Result.{err_from_is_err_and}
use Rattle.ranges.proofs.RootLaws.{absent_carried, known_there, expression_there, expression_carried, expression_unsafe, command_there, command_carried}
use Rattle.ranges.proofs.root.Goals as goal

pub returns-then-nodes-eq0-clause-root_carried : goal.returns-then-nodes-eq0-clause-root_carried
returns-then-nodes-eq0-clause-root_carried c = absent_carried _ _ _ c.if-nodes-eq0.true

pub node_kind-requires-clause-known : goal.node_kind-requires-clause-known
node_kind-requires-clause-known c = known_there _ _ _ c.if-nodes-eq0.false c.requires.some_root

pub expression-requires-clause-some_expression : goal.expression-requires-clause-some_expression
expression-requires-clause-some_expression c = expression_there _ _ _ c.if-nodes-eq0.false _ c.node_kind.ensures _ c.in-Expression.is c.requires.some_root

pub returns-in_err-expression-in-Expression-clause-root_carried : goal.returns-in_err-expression-in-Expression-clause-root_carried
returns-in_err-expression-in-Expression-clause-root_carried c =
    let p = err_from_is_err_and c.from_residual.result c.from_residual.ensures.1 in
    rw (p.1, p.2) (expression_unsafe _ _ _ c.if-nodes-eq0.false _ c.node_kind.ensures _ c.in-Expression.is _ c.in_err-expression-in-Expression.ensures)

pub returns-in_ok-expression-in-Expression-clause-root_carried : goal.returns-in_ok-expression-in-Expression-clause-root_carried
returns-in_ok-expression-in-Expression-clause-root_carried c = expression_carried _ _ _ c.if-nodes-eq0.false _ c.node_kind.ensures _ c.in-Expression.is _ c.in_ok-expression-in-Expression.ensures

pub command-requires-clause-some_command : goal.command-requires-clause-some_command
command-requires-clause-some_command c = command_there _ _ _ c.if-nodes-eq0.false _ c.node_kind.ensures c.in_default.not-Expression c.requires.some_root

pub returns-in_default-clause-root_carried : goal.returns-in_default-clause-root_carried
returns-in_default-clause-root_carried c = command_carried _ _ _ c.if-nodes-eq0.false _ c.node_kind.ensures c.in_default.not-Expression _ _ c.command.ensures.command_carried
