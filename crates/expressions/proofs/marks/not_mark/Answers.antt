-- not_mark: the other truth in place of one.
use Rattle.expressions.proofs.operator_laws.OperatorLaws.{truth_there, not_made}
use Rattle.expressions.proofs.marks.not_mark.Goals as goal

pub overflow_sub-m : goal.overflow_sub-m
overflow_sub-m c = (truth_there c.requires).0

pub overflow_sub-truth : goal.overflow_sub-truth
overflow_sub-truth c = (truth_there c.requires).1

pub returns : goal.returns
returns c =
    not_made _ _ _ _ _ c.requires.ready.fits (truth_there c.requires).0 c.put_value.ensures.value c.put_value.ensures.m_after
