-- operator_mark: the operator's value in place of its operands, or the reason for which there is none.
use Rattle.std.proofs.lemmas.Result.{err_from_is_err_and}
use Rattle.expressions.proofs.operator_laws.OperatorLaws.{operands_there, replaced, operator_made, operator_withheld}
use Rattle.expressions.proofs.marks.operator_mark.Goals as goal

pub returns-in_err-value : goal.returns-in_err-value
returns-in_err-value c =
    let p = err_from_is_err_and c.from_residual.result c.from_residual.ensures.1 in
    rw (p.1, p.2) (operator_withheld _ _ _ c.operator_of.result _ c.operator_of.ensures c.in_err-value.ensures)

pub overflow_sub-m : goal.overflow_sub-m
overflow_sub-m c = operands_there c.requires.2

pub returns : goal.returns
returns c =
    operator_made _ _ _ _ _ c.operator_of.result _ c.operator_of.ensures c.in_ok-value.ensures
    (replaced _ _ _ _ _ c.requires.2.ready.fits (operands_there c.requires.2) c.put_value.ensures.value c.put_value.ensures.m_after)
