-- The proof of `expression`, which calls itself: the node's kind says which expression stands there, and what it gives follows from its children's.
-- The measure is the size of the tree that stands there.
use mathlib.Core.Path.{sym, ap, ◌∙◌}
use native.Mathlib.Omega.{arith}
use Rattle.std.proofs.lemmas.Result.{err_from_is_err_and}
use Rattle.rules.specs.paper.Kinds.{kind_number}
use Rattle.rules.specs.declared.kinds.Kind.TheVariants.{Expression as expression_kind}
use Rattle.carrying.proofs.ExpressionLaws.{known_there, some_leaf, leaf_carried, negated_there, negated_unsafe, negation_carried, first_there, first_unsafe, second_there, second_unsafe, binary_carried}
use Rattle.carrying.proofs.expressions.+expression.Goals as goal

pub node_kind-requires-clause-known : goal.node_kind-requires-clause-known
node_kind-requires-clause-known t c = known_there _ _ _ c.requires.some_expression

pub expression-requires : goal.expression-requires
expression-requires t c =
    let known = ap (λ k. kind_number (expression_kind k)) (sym c.in-Binary.is) ∙ c.in-Expression.ensures in
    let first = first_there _ _ _ _ known c.requires.some_expression in
    (omega (arith, first.1, c.decreases), (c.requires.regions_end_in_bounds, first.0))

pub returns-in_err-left-in-Binary : goal.returns-in_err-left-in-Binary
returns-in_err-left-in-Binary t c =
    let known = ap (λ k. kind_number (expression_kind k)) (sym c.in-Binary.is) ∙ c.in-Expression.ensures in
    let p = err_from_is_err_and c.from_residual.result c.from_residual.ensures.1 in rw (p.1, p.2) (first_unsafe _ _ _ _ known _ c.in_err-left-in-Binary.ensures)

pub expression-requires-in-Binary : goal.expression-requires-in-Binary
expression-requires-in-Binary t c =
    let known = ap (λ k. kind_number (expression_kind k)) (sym c.in-Binary.is) ∙ c.in-Expression.ensures in
    let second = second_there _ _ _ _ known _ c.in_ok-left-in-Binary.ensures _ c.end-next.ensures c.requires.some_expression in
    (omega (arith, second.1, c.decreases), (c.requires.regions_end_in_bounds, second.0))

pub returns-in_err-right-in-Binary : goal.returns-in_err-right-in-Binary
returns-in_err-right-in-Binary t c =
    let known = ap (λ k. kind_number (expression_kind k)) (sym c.in-Binary.is) ∙ c.in-Expression.ensures in
    let p = err_from_is_err_and c.from_residual-in_err-right-in-Binary.result c.from_residual-in_err-right-in-Binary.ensures.1 in
    rw (p.1, p.2) (second_unsafe _ _ _ _ known _ c.in_ok-left-in-Binary.ensures _ c.end-next.ensures _ c.in_err-right-in-Binary.ensures)

pub returns-in_ok-right-in-Binary : goal.returns-in_ok-right-in-Binary
returns-in_ok-right-in-Binary t c =
    let known = ap (λ k. kind_number (expression_kind k)) (sym c.in-Binary.is) ∙ c.in-Expression.ensures in
    binary_carried _ _ _ _ known _ c.in_ok-left-in-Binary.ensures _ c.end-next.ensures _ _ c.in_ok-right-in-Binary.ensures c.apply.ensures

pub expression-requires-in-Not : goal.expression-requires-in-Not
expression-requires-in-Not t c =
    let known = ap (λ k. kind_number (expression_kind k)) (sym c.in-Not.is) ∙ c.in-Expression.ensures in
    let negated = negated_there _ _ _ known c.requires.some_expression in
    (omega (arith, negated.1, c.decreases), (c.requires.regions_end_in_bounds, negated.0))

pub returns-in_err-negated-in-Not : goal.returns-in_err-negated-in-Not
returns-in_err-negated-in-Not t c =
    let known = ap (λ k. kind_number (expression_kind k)) (sym c.in-Not.is) ∙ c.in-Expression.ensures in
    let p = err_from_is_err_and c.from_residual-in_err-negated-in-Not.result c.from_residual-in_err-negated-in-Not.ensures.1 in rw (p.1, p.2) (negated_unsafe _ _ _ known _ c.in_err-negated-in-Not.ensures)

pub returns-in_ok-negated-in-Not : goal.returns-in_ok-negated-in-Not
returns-in_ok-negated-in-Not t c =
    let known = ap (λ k. kind_number (expression_kind k)) (sym c.in-Not.is) ∙ c.in-Expression.ensures in
    negation_carried _ _ _ known _ _ c.in_ok-negated-in-Not.ensures c.negation.ensures

pub leaf-requires : goal.leaf-requires
leaf-requires t c = record {
  regions_end_in_bounds = c.requires.regions_end_in_bounds;
  some_leaf = some_leaf _ _ _ _ c.in-Expression.ensures c.in_default-kind.not-Binary c.in_default-kind.not-Not c.requires.some_expression;
  kind_is = c.in-Expression.ensures;
}

pub returns-in_default-kind : goal.returns-in_default-kind
returns-in_default-kind t c = leaf_carried _ _ _ _ c.in-Expression.ensures c.in_default-kind.not-Binary c.in_default-kind.not-Not _ c.leaf.ensures
