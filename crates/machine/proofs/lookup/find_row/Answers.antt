-- find_row: along the chain, until the name is found.
use Prim.Native.Nat.{ℕ, ◌+◌, ◌/◌, ◌%◌, ◌<◌, ◌≤◌}
use mathlib.Core.Path.{◌≡◌}
use mathlib.Core.List.{List}
use native.Mathlib.Omega.{arith}
use lib.ListN.{get_or}
use Rattle.machine.specs.Layout.{row_labels, row_payloads, row_at_pointer}
use Rattle.machine.specs.Regions.{slots}
use Rattle.machine.specs.Lookup.{BindsName}
use Rattle.machine.proofs.memory_laws.LookupLaws.{FirstRow, first_row, row_low, row_found, row_further, row_falls}
use Rattle.machine.proofs.lookup.find_row.Invariants.{Left}
use Rattle.machine.proofs.lookup.find_row.Goals as goal

module _ (work : List ℕ) (bindings pointer name : ℕ) (binds : BindsName (slots row_labels row_payloads bindings work) pointer name) where
  whole : Left work bindings pointer name pointer
  whole nodes E b s q = first_row _ b s q

  -- What is left begins with a row.
  row_left : (at : ℕ) → Left work bindings pointer name at → FirstRow binds.0 (slots row_labels row_payloads bindings work) at name binds.2
  row_left at left = left binds.0 binds.1 binds.2 binds.3 binds.4

  low : (at : ℕ) → Left work bindings pointer name at → (0 < at) × (at ≤ bindings)
  low at left = row_low _ _ _ _ _ _ (row_left at left)

  -- Another name: the rest is left.
  further : (at : ℕ) → Left work bindings pointer name at → (get_or work (row_at_pointer + at) 0 % 64 ≡ name → ⊥) → Left work bindings pointer name (get_or work (row_at_pointer + at) 0 / 128)
  further at left other nodes E b s q =
      let more = row_further nodes _ _ at _ b (left nodes E b s q) other in
      first_row _ b more.segment more.looked

pub overflow_add-row : goal.overflow_add-row
overflow_add-row c = let bounds = low _ _ _ _ c.requires.binds_name _ c.loop-row.invariant in record { fits = omega (arith, bounds) }

pub offset_bounds-work-at : goal.offset_bounds-work-at
offset_bounds-work-at c = let bounds = low _ _ _ _ c.requires.binds_name _ c.loop-row.invariant in record { fits = omega (arith, bounds) }

pub bounds-work-at : goal.bounds-work-at
bounds-work-at c = let bounds = low _ _ _ _ c.requires.binds_name _ c.loop-row.invariant in omega (arith, bounds)

pub loop-row-init : goal.loop-row-init
loop-row-init c = whole _ _ _ _ c.requires.binds_name

pub loop-row-smaller : goal.loop-row-smaller
loop-row-smaller c = row_falls _ _ _ _ _ _ (row_left _ _ _ _ c.requires.binds_name _ c.loop-row.invariant)

pub loop-row-preserved : goal.loop-row-preserved
loop-row-preserved c = further _ _ _ _ c.requires.binds_name _ c.loop-row.invariant c.if-row-name.false

pub overflow_sub-result : goal.overflow_sub-result
overflow_sub-result c = (low _ _ _ _ c.requires.binds_name _ c.loop-row.invariant).0

pub returns : goal.returns
returns c nodes E b s q = row_found nodes _ _ _ _ b (c.loop-row.invariant nodes E b s q) c.if-row-name.true
