-- The newest row of a name: so far the name has not been met.
use native.Mathlib.Omega.{arith}
use Rattle.typing.proofs.laws.scope.RowLaws.{walk_on, walk_less, walk_low, walk_found, walk_absent}
use Rattle.typing.proofs.scope.find_row.Goals as goal

pub overflow_add-row : goal.overflow_add-row
overflow_add-row c = record { fits = omega (arith, walk_low _ _ _ _ _ c.requires.rows c.loop-at.invariant c.loop-at-test.true) }

pub offset_bounds-work-at : goal.offset_bounds-work-at
offset_bounds-work-at c = record { fits = omega (arith, walk_low _ _ _ _ _ c.requires.rows c.loop-at.invariant c.loop-at-test.true) }

pub bounds-work-at : goal.bounds-work-at
bounds-work-at c = omega (arith, walk_low _ _ _ _ _ c.requires.rows c.loop-at.invariant c.loop-at-test.true, c.requires.rows_end_in_bounds)

pub returns-then-row-name : goal.returns-then-row-name
returns-then-row-name c = walk_found _ _ _ _ _ c.loop-at.invariant c.loop-at-test.true c.if-row-name.true

pub loop-at-smaller : goal.loop-at-smaller
loop-at-smaller c = walk_less _ _ _ _ _ c.requires.rows c.loop-at.invariant c.loop-at-test.true

pub loop-at-preserved : goal.loop-at-preserved
loop-at-preserved c = walk_on _ _ _ _ _ c.loop-at.invariant c.loop-at-test.true c.if-row-name.false

pub returns : goal.returns
returns c = walk_absent _ _ _ _ _ c.loop-at.invariant c.loop-at-test.false
