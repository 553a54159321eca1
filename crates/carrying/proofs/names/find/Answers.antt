-- A name along the chain of rows: so far it was not met.
use native.Mathlib.Omega.{arith}
use Rattle.carrying.proofs.LookupLaws.{walk_start, walk_less, walk_on, walk_found, walk_none}
use Rattle.carrying.proofs.names.find.Goals as goal

pub loop-at-init : goal.loop-at-init
loop-at-init c = (walk_start _ _ _, omega arith)

pub returns-then-link-name-clause-found_at : goal.returns-then-link-name-clause-found_at
returns-then-link-name-clause-found_at c =
    walk_found _ _ _ _ c.requires.some_names c.loop-at.invariant.0 c.loop-at-test.true c.if-link-name.true

pub loop-at-smaller : goal.loop-at-smaller
loop-at-smaller c = walk_less _ _ _ _ c.requires.some_names c.loop-at.invariant.0 c.loop-at-test.true

pub loop-at-preserved : goal.loop-at-preserved
loop-at-preserved c =
    (walk_on _ _ _ _ c.requires.some_names c.loop-at.invariant.0 c.loop-at-test.true c.if-link-name.false, omega (arith, walk_less _ _ _ _ c.requires.some_names c.loop-at.invariant.0 c.loop-at-test.true, c.loop-at.invariant.1))

pub returns-clause-found_at : goal.returns-clause-found_at
returns-clause-found_at c =
    walk_none _ _ _ _ c.loop-at.invariant.0 c.loop-at-test.false
