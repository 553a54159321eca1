-- The need of a name: so far the name was not met.
use native.Mathlib.Omega.{arith}
use Rattle.estimator.proofs.EntryLaws.{walk_start, walk_low, walk_less, walk_on, walk_found, walk_none}
use Rattle.estimator.proofs.names.need_of.Goals as goal

pub loop-at-init : goal.loop-at-init
loop-at-init c = walk_start _ _ _

pub overflow_add-row : goal.overflow_add-row
overflow_add-row c = record { fits = omega (arith, walk_low _ _ _ _ c.requires.names_at c.loop-at.invariant c.loop-at-test.true) }

pub offset_bounds-work-at : goal.offset_bounds-work-at
offset_bounds-work-at c = record { fits = omega (arith, walk_low _ _ _ _ c.requires.names_at c.loop-at.invariant c.loop-at-test.true) }

pub bounds-work-at : goal.bounds-work-at
bounds-work-at c = omega (arith, walk_low _ _ _ _ c.requires.names_at c.loop-at.invariant c.loop-at-test.true, c.requires.entries_end_in_bounds)

pub kept-requires : goal.kept-requires
kept-requires c =
    let low = walk_low _ _ _ _ c.requires.names_at c.loop-at.invariant c.loop-at-test.true in record {
      at_le_most_nodes = low.1;
      at_positive = low.0;
      entries_end_in_bounds = c.requires.entries_end_in_bounds;
    }

pub returns-then-row-name : goal.returns-then-row-name
returns-then-row-name c = walk_found _ _ _ _ c.requires.names_at c.loop-at.invariant c.loop-at-test.true c.if-row-name.true _ c.kept.ensures

pub loop-at-smaller : goal.loop-at-smaller
loop-at-smaller c = walk_less _ _ _ _ c.requires.names_at c.loop-at.invariant c.loop-at-test.true

pub loop-at-preserved : goal.loop-at-preserved
loop-at-preserved c = walk_on _ _ _ _ c.requires.names_at c.loop-at.invariant c.loop-at-test.true c.if-row-name.false

pub returns : goal.returns
returns c = walk_none _ _ _ _ c.loop-at.invariant c.loop-at-test.false _ c.nothing.ensures
