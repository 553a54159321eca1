-- over_ends: the least and the greatest over the four pairs, or none.
use Rattle.std.proofs.Common.{◌∙◌}
use Rattle.intervals.proofs.SpanLaws.{zero_refused, no_first_ends, no_second_ends, ends_of_four}
use Rattle.intervals.proofs.ends.over_ends.Goals as goal

pub returns-then-divisor_may_be_zero : goal.returns-then-divisor_may_be_zero
returns-then-divisor_may_be_zero c = zero_refused _ _ _ _ _ _ c.divisor_may_be_zero.ensures c.if-divisor_may_be_zero.true

pub returns-in_err-least : goal.returns-in_err-least
returns-in_err-least c = c.from_residual.ensures ∙ no_first_ends _ _ _ _ _ _ c.divisor_may_be_zero.ensures c.if-divisor_may_be_zero.false c.in_err-least.ensures

pub returns-in_err-later_least : goal.returns-in_err-later_least
returns-in_err-later_least c =
    c.from_residual-in_err-later_least.ensures ∙ no_second_ends _ _ _ _ _ _ c.divisor_may_be_zero.ensures c.if-divisor_may_be_zero.false c.in_err-later_least.ensures

pub returns : goal.returns
returns c =
    ends_of_four _ _ _ _ _ _ c.divisor_may_be_zero.ensures c.if-divisor_may_be_zero.false _ _ _ _ _ _ c.in_ok-least.ensures c.in_ok-later_least.ensures c.lower.ensures c.higher.ensures
