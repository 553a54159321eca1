-- `quotient` answers what the rules compute.
use Rattle.std.proofs.Common.{◌∙◌, ap}
use Rattle.rules.specs.paper.Integers.{compute}
use Rattle.integers.specs.Words.{integer_of, computed}
use Rattle.integers.proofs.QuotientLaws.{magnitude_positive, quotient_same, quotient_other}
use Rattle.integers.proofs.quotient.Goals as goal

pub returns-then-second-eq0 : goal.returns-then-second-eq0
unfolding compute computed integer_of
returns-then-second-eq0 c = rw c.if-second-eq0.true

pub nonzero_div-dividend : goal.nonzero_div-dividend
nonzero_div-dividend c = rw c.magnitude-divisor.ensures (magnitude_positive c.args.second c.if-second-eq0.false)

pub div_ceil-requires : goal.div_ceil-requires
div_ceil-requires c = rw c.magnitude-divisor.ensures (magnitude_positive c.args.second c.if-second-eq0.false)

pub returns-then-is_negative : goal.returns-then-is_negative
returns-then-is_negative c =
    c.in_word.ensures _ c.checked_add_unsigned.ensures
    ∙ ap computed (quotient_same (integer_of c.args.first) (integer_of c.args.second) _ _ _ _
    (magnitude_positive c.args.second c.if-second-eq0.false) c.magnitude-dividend.ensures c.magnitude-divisor.ensures
    c.is_negative.ensures c.is_negative-2.ensures c.if-is_negative.true)

pub returns-else-is_negative : goal.returns-else-is_negative
returns-else-is_negative c =
    c.in_word-else-is_negative.ensures _ c.checked_sub_unsigned.ensures
    ∙ ap computed (quotient_other (integer_of c.args.first) (integer_of c.args.second) _ _ _ _
    (magnitude_positive c.args.second c.if-second-eq0.false) c.magnitude-dividend.ensures c.magnitude-divisor.ensures
    c.is_negative.ensures c.is_negative-2.ensures c.if-is_negative.false _ c.div_ceil.ensures)
