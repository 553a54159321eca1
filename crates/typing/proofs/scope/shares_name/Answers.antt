-- A name in two lots of rows: so far none was met.
use mathlib.Core.Path.{sym, ◌∙◌}
use native.Mathlib.Omega.{arith}
use Rattle.typing.proofs.laws.scope.RowLaws.{compare_shared, compare_on, compare_none, compare_low, compare_less}
use Rattle.typing.proofs.scope.shares_name.Goals as goal

pub overflow_add-row : goal.overflow_add-row
overflow_add-row c = record { fits = omega (arith, compare_low _ _ _ _ _ c.requires.newer_rows c.requires.older_rows c.loop-at.invariant c.loop-at-test.true) }

pub offset_bounds-work-at : goal.offset_bounds-work-at
offset_bounds-work-at c = record { fits = omega (arith, compare_low _ _ _ _ _ c.requires.newer_rows c.requires.older_rows c.loop-at.invariant c.loop-at-test.true) }

pub bounds-work-at : goal.bounds-work-at
bounds-work-at c = omega (arith, compare_low _ _ _ _ _ c.requires.newer_rows c.requires.older_rows c.loop-at.invariant c.loop-at-test.true, c.requires.rows_end_in_bounds)

pub returns-then-is_some : goal.returns-then-is_some
returns-then-is_some c = compare_shared _ _ _ _ _ _ c.loop-at.invariant c.loop-at-test.true c.find_row.ensures (sym c.is_some.ensures ∙ c.if-is_some.true)

pub loop-at-smaller : goal.loop-at-smaller
loop-at-smaller c = compare_less _ _ _ _ _ c.requires.newer_rows c.requires.older_rows c.loop-at.invariant c.loop-at-test.true

pub loop-at-preserved : goal.loop-at-preserved
loop-at-preserved c = compare_on _ _ _ _ _ _ c.loop-at.invariant c.loop-at-test.true c.find_row.ensures (sym c.is_some.ensures ∙ c.if-is_some.false)

pub returns : goal.returns
returns c = compare_none _ _ _ _ _ c.loop-at.invariant c.loop-at-test.false
