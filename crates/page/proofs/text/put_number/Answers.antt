-- A number in its columns: a byte behind them, its digits from the last one on, then blanks.
use native.Mathlib.Omega.{arith}
use Rattle.page.proofs.NumberLaws.{no_digit, digit_room, digit_written, number_written}
use Rattle.page.proofs.text.put_number.Goals as goal

pub loop-left-init : goal.loop-left-init
loop-left-init c = no_digit _ _ _ _ c.requires.number_len_bound

pub overflow_sub-column : goal.overflow_sub-column
overflow_sub-column c = omega (arith, digit_room c.loop-left.invariant)

pub loop-left-preserved : goal.loop-left-preserved
loop-left-preserved c = digit_written c.loop-left.invariant c.loop-left-test.true

pub overflow_sub-column-2 : goal.overflow_sub-column-2
overflow_sub-column-2 c = omega (arith, digit_room c.loop-left.invariant)

pub slice_bounds-fill-count : goal.slice_bounds-fill-count
slice_bounds-fill-count c = omega (arith, digit_room c.loop-left.invariant)

pub slice_bounds-fill-start : goal.slice_bounds-fill-start
slice_bounds-fill-start c = omega (arith, digit_room c.loop-left.invariant)

pub returns : goal.returns
returns c = number_written _ _ _ c.loop-left.invariant c.loop-left-test.false c.requires.columns_in_bounds (c.fill.ensures.after (λ y e. e))
