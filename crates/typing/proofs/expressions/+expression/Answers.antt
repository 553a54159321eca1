-- `expression`, which calls itself: the node's kind says which expression stands there, and its code follows from its
-- children's.
use mathlib.Core.Path.{sym, subst}
use native.Mathlib.Omega.{arith}
use Rattle.std.proofs.Common.{rules}
use Rattle.reader.proofs.NodeKindLaws.{expression_known}
use Rattle.reader.proofs.StandingLaws.{expression_low}
use Rattle.typing.specs.Answers.{ExpressionAt}
use Rattle.typing.proofs.laws.expressions.ExpressionLaws.{kind_there, number_code, truth_code, id_there, deref_there, valref_there, name_fault, name_fine, not_there, not_fault, not_fine, binary_there, first_fault, second_fault, both_fine}
use Rattle.typing.proofs.expressions.+expression.Goals as goal

pub node_kind-requires-clause-known : goal.node_kind-requires-clause-known
node_kind-requires-clause-known t c = expression_known c.requires.expression_at.1.stored

pub returns-in-Expression-Num : goal.returns-in-Expression-Num
returns-in-Expression-Num t c = number_code _ _ _ _ (kind_there _ _ _ _ _ c.node_kind.ensures c.in-Expression-Num.is c.in-Expression-Num.field-0-is)

pub returns-in-Expression-Boo : goal.returns-in-Expression-Boo
returns-in-Expression-Boo t c = truth_code _ _ _ _ (kind_there _ _ _ _ _ c.node_kind.ensures c.in-Expression-Boo.is c.in-Expression-Boo.field-0-is)

pub returns-in_err-number-in-Expression-Id : goal.returns-in_err-number-in-Expression-Id
returns-in_err-number-in-Expression-Id t c = name_fault _ _ _ _ _ (id_there _ _ (kind_there _ _ _ _ _ c.node_kind.ensures c.in-Expression-Id.is c.in-Expression-Id.field-0-is)) _ c.operand.ensures _ c.meaning.ensures _ c.in_err-number-in-Expression-Id.was _ (search rules)

pub returns-in_ok-number-in-Expression-Id : goal.returns-in_ok-number-in-Expression-Id
returns-in_ok-number-in-Expression-Id t c = name_fine _ _ _ _ _ (id_there _ _ (kind_there _ _ _ _ _ c.node_kind.ensures c.in-Expression-Id.is c.in-Expression-Id.field-0-is)) _ c.operand.ensures _ c.meaning.ensures _ c.in_ok-number-in-Expression-Id.was _ c.id_code.ensures

pub returns-in_err-number-in-Expression-DeRef : goal.returns-in_err-number-in-Expression-DeRef
returns-in_err-number-in-Expression-DeRef t c = name_fault _ _ _ _ _ (deref_there _ _ (kind_there _ _ _ _ _ c.node_kind.ensures c.in-Expression-DeRef.is c.in-Expression-DeRef.field-0-is)) _ c.operand-in-Expression-DeRef.ensures _ c.meaning-in-Expression-DeRef.ensures _ c.in_err-number-in-Expression-DeRef.was _ (search rules)

pub returns-in_ok-number-in-Expression-DeRef : goal.returns-in_ok-number-in-Expression-DeRef
returns-in_ok-number-in-Expression-DeRef t c = name_fine _ _ _ _ _ (deref_there _ _ (kind_there _ _ _ _ _ c.node_kind.ensures c.in-Expression-DeRef.is c.in-Expression-DeRef.field-0-is)) _ c.operand-in-Expression-DeRef.ensures _ c.meaning-in-Expression-DeRef.ensures _ c.in_ok-number-in-Expression-DeRef.was _ c.deref_code.ensures

pub returns-in_err-number-in-Expression-ValRef : goal.returns-in_err-number-in-Expression-ValRef
returns-in_err-number-in-Expression-ValRef t c = name_fault _ _ _ _ _ (valref_there _ _ (kind_there _ _ _ _ _ c.node_kind.ensures c.in-Expression-ValRef.is c.in-Expression-ValRef.field-0-is)) _ c.operand-in-Expression-ValRef.ensures _ c.meaning-in-Expression-ValRef.ensures _ c.in_err-number-in-Expression-ValRef.was _ (search rules)

pub returns-in_ok-number-in-Expression-ValRef : goal.returns-in_ok-number-in-Expression-ValRef
returns-in_ok-number-in-Expression-ValRef t c = name_fine _ _ _ _ _ (valref_there _ _ (kind_there _ _ _ _ _ c.node_kind.ensures c.in-Expression-ValRef.is c.in-Expression-ValRef.field-0-is)) _ c.operand-in-Expression-ValRef.ensures _ c.meaning-in-Expression-ValRef.ensures _ c.in_ok-number-in-Expression-ValRef.was _ c.valref_code.ensures

pub expression-requires : goal.expression-requires
expression-requires t c =
    let e = c.requires.expression_at in
    let parts = not_there _ _ (kind_there _ _ _ _ _ c.node_kind.ensures c.in-Expression-Not.is c.in-Expression-Not.field-0-is) e.0 e.1 in
    (omega (arith, expression_low parts.inner_at.stored, c.decreases), (c.requires.rows_end_in_bounds, (c.requires.scope_at, (parts.inner, parts.inner_at))))

pub returns-in_err-code-in-Expression-Not : goal.returns-in_err-code-in-Expression-Not
returns-in_err-code-in-Expression-Not t c = not_fault _ _ _ _ (kind_there _ _ _ _ _ c.node_kind.ensures c.in-Expression-Not.is c.in-Expression-Not.field-0-is) _ c.expression.ensures _ c.in_err-code-in-Expression-Not.was _ (search rules)

pub returns-in_ok-code-in-Expression-Not : goal.returns-in_ok-code-in-Expression-Not
returns-in_ok-code-in-Expression-Not t c = not_fine _ _ _ _ (kind_there _ _ _ _ _ c.node_kind.ensures c.in-Expression-Not.is c.in-Expression-Not.field-0-is) _ c.expression.ensures _ c.in_ok-code-in-Expression-Not.was _ c.truth.ensures

pub expression-requires-in-Expression-Binary : goal.expression-requires-in-Expression-Binary
expression-requires-in-Expression-Binary t c =
    let e = c.requires.expression_at in
    let parts = binary_there _ _ _ (kind_there _ _ _ _ _ c.node_kind.ensures c.in-Expression-Binary.is c.in-Expression-Binary.field-0-is) e.0 e.1 in
    (omega (arith, expression_low parts.first_at.stored, c.decreases), (c.requires.rows_end_in_bounds, (c.requires.scope_at, (parts.first, parts.first_at))))

pub returns-in_err-first-in-Expression-Binary : goal.returns-in_err-first-in-Expression-Binary
returns-in_err-first-in-Expression-Binary t c = first_fault _ _ _ _ _ (kind_there _ _ _ _ _ c.node_kind.ensures c.in-Expression-Binary.is c.in-Expression-Binary.field-0-is) _ c.expression-in-Expression-Binary.ensures _ c.in_err-first-in-Expression-Binary.was _ (search rules)

pub expression-requires-in-Expression-Binary-2 : goal.expression-requires-in-Expression-Binary-2
expression-requires-in-Expression-Binary-2 t c =
    let e = c.requires.expression_at in
    let parts = binary_there _ _ _ (kind_there _ _ _ _ _ c.node_kind.ensures c.in-Expression-Binary.is c.in-Expression-Binary.field-0-is) e.0 e.1 in (
      omega (arith, expression_low parts.second_at.stored, parts.on, c.end-next.ensures, c.decreases),
      (c.requires.rows_end_in_bounds, (c.requires.scope_at, (parts.second, subst (λ i. ExpressionAt c.args.work.now i parts.second) (sym c.end-next.ensures) parts.second_at))),
    )

pub returns-in_err-second-in-Expression-Binary : goal.returns-in_err-second-in-Expression-Binary
returns-in_err-second-in-Expression-Binary t c = second_fault _ _ _ _ _ (kind_there _ _ _ _ _ c.node_kind.ensures c.in-Expression-Binary.is c.in-Expression-Binary.field-0-is) _ c.expression-in-Expression-Binary.ensures _ _ c.in_ok-first-in-Expression-Binary.was c.end-next.ensures _ c.expression-in-Expression-Binary-2.ensures _ c.in_err-second-in-Expression-Binary.was _ (search rules)

pub returns-in_ok-second-in-Expression-Binary : goal.returns-in_ok-second-in-Expression-Binary
returns-in_ok-second-in-Expression-Binary t c = both_fine _ _ _ _ _ (kind_there _ _ _ _ _ c.node_kind.ensures c.in-Expression-Binary.is c.in-Expression-Binary.field-0-is) _ c.expression-in-Expression-Binary.ensures _ _ c.in_ok-first-in-Expression-Binary.was c.end-next.ensures _ c.expression-in-Expression-Binary-2.ensures _ c.in_ok-second-in-Expression-Binary.was _ c.operator_code.ensures
