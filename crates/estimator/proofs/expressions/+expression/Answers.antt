-- The proof of `expression`, which calls itself: the node's kind says which expression stands there, and its figures follow from its
-- children's. The measure is the size of the tree that stands there.
use mathlib.Core.Path.{sym, ap, ◌∙◌}
use native.Mathlib.Omega.{arith}
use Rattle.rules.specs.declared.kinds.Kind.TheVariants.{Expression as expression_kind}
use Rattle.reader.proofs.StandingLaws.{expression_low}
use Rattle.reader.proofs.NodeKindLaws.{expression_known, expression_is}
use Rattle.estimator.proofs.ExpressionLaws.{same_kind, operator_numbers, negation_number, leaf, first_child, first_low, negation_needs, second_child, binary_needs}
use Rattle.estimator.proofs.expressions.+expression.Goals as goal

pub node_kind-requires : goal.node_kind-requires
node_kind-requires t c = record {
  in_bounds = omega (arith, expression_low c.requires.some_expression.3, c.requires.most_nodes_in_bounds);
  known = expression_known c.requires.some_expression.3;
}

pub unreachable-requires : goal.unreachable-requires
unreachable-requires t c = c.in_default.not-Expression _ (expression_is _ c.requires.some_expression.3 c.node_kind.ensures)

pub returns-in_default-which : goal.returns-in_default-which
returns-in_default-which t c =
    leaf _ _ _ c.node_kind.ensures (λ o q. c.in_default-which.not-Binary o (same_kind (sym c.in-Expression.is ∙ q))) (λ q. c.in_default-which.not-Not (same_kind (sym c.in-Expression.is ∙ q))) _ c.step.ensures

pub expression-first-requires : goal.expression-first-requires
expression-first-requires t c =
    let o = (operator_numbers _ c.in-Binary.field-0 (c.in-Expression.is ∙ ap expression_kind c.in-Binary.is)) in
    let child = first_child _ _ _ c.node_kind.ensures o.0 o.1 c.requires.some_expression in
    (omega (arith, child.1, c.decreases), (c.requires.most_nodes_in_bounds, child.0))

pub overflow_add-node : goal.overflow_add-node
overflow_add-node t c = let o = (operator_numbers _ c.in-Binary.field-0 (c.in-Expression.is ∙ ap expression_kind c.in-Binary.is)) in record { fits = omega (arith, first_low _ _ _ c.node_kind.ensures o.0 o.1 c.requires.some_expression) }

pub end-next-requires : goal.end-next-requires
end-next-requires t c =
    let o = (operator_numbers _ c.in-Binary.field-0 (c.in-Expression.is ∙ ap expression_kind c.in-Binary.is)) in
    omega (arith, first_low _ _ _ c.node_kind.ensures o.0 o.1 c.requires.some_expression, c.requires.most_nodes_in_bounds)

pub expression-second-requires : goal.expression-second-requires
expression-second-requires t c =
    let o = (operator_numbers _ c.in-Binary.field-0 (c.in-Expression.is ∙ ap expression_kind c.in-Binary.is)) in
    let child = second_child _ _ _ c.node_kind.ensures o.0 o.1 o.2 _ c.end-next.ensures c.requires.some_expression in
    (omega (arith, child.1, c.decreases), (c.requires.most_nodes_in_bounds, child.0))

pub returns-in-Binary : goal.returns-in-Binary
returns-in-Binary t c =
    let o = (operator_numbers _ c.in-Binary.field-0 (c.in-Expression.is ∙ ap expression_kind c.in-Binary.is)) in
    binary_needs _ _ _ c.node_kind.ensures o.0 o.1 o.2 _ _ _ c.end-next.ensures c.expression-first.ensures c.expression-second.ensures _ c.binary.ensures

pub expression-child-requires : goal.expression-child-requires
expression-child-requires t c =
    let n = (negation_number _ (c.in-Expression.is ∙ ap expression_kind c.in-Not.is)) in
    let child = first_child _ _ _ c.node_kind.ensures n.0 n.1 c.requires.some_expression in
    (omega (arith, child.1, c.decreases), (c.requires.most_nodes_in_bounds, child.0))

pub returns-in-Not : goal.returns-in-Not
returns-in-Not t c =
    let n = (negation_number _ (c.in-Expression.is ∙ ap expression_kind c.in-Not.is)) in
    negation_needs _ _ _ c.node_kind.ensures n.0 n.1 n.2 _ c.expression-child.ensures _ c.unary.ensures
