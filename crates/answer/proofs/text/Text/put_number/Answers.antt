-- put_number: the digits of a number.
use Rattle.answer.proofs.DecimalLaws.{number_put}
use Rattle.answer.proofs.text.Text.put_number.Goals as goal

pub returns : goal.returns
returns c =
    number_put _ _ c.decimal-count.new.out _ _ c.ranges.number.fits c.decimal-count.ensures.in_bounds.1 c.decimal-count.ensures.len c.decimal-count.ensures.digits c.put.ensures
