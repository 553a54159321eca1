-- enter: an entry of the value stack and two of control, or the reason of room.
use Prim.Native.Nat.{◌+◌, ◌≤◌}
use mathlib.Core.Path.{sym, ap, ◌∙◌}
use mathlib.Core.List.{[], ◌∷◌}
use native.Mathlib.Omega.{arith}
use Rattle.machine.specs.Regions.{with_controls}
use Rattle.rules.specs.paper.Limits.{most_bindings, most_value_entries, most_control_entries}
use Rattle.machine.proofs.state_laws.JudgeLaws.{room_left}
use Rattle.machine.proofs.stack_laws.SharedLaws.{value_fits, value_regions, enter_withheld, enter_made}
use Rattle.machine.proofs.stacks.enter.Goals as goal

pub returns-in-Some : goal.returns-in-Some
returns-in-Some c = enter_withheld _ _ c.requires _ (c.args.top ∷ c.args.below ∷ []) _ c.in-Some.ensures

pub put_value-under-requires-clause-values_lt_most_value_entries : goal.put_value-under-requires-clause-values_lt_most_value_entries
put_value-under-requires-clause-values_lt_most_value_entries c =
    omega (arith, room_left _ _ _ (sym c.in_default.is ∙ c.reason_of_room.ensures))

pub put_all-requires : goal.put_all-requires
put_all-requires c =
    let left : (c.args.m.bindings ≤ most_bindings) × (c.args.m.values + 1 ≤ most_value_entries) × (c.args.m.control + 2 ≤ most_control_entries) =
    room_left _ _ _ (sym c.in_default.is ∙ c.reason_of_room.ensures) in
    let fits = value_fits _ _ c.requires _ _ left.1 c.put_value-under.ensures.value c.put_value-under.ensures.m_after in
    (omega arith, (fits, omega (arith, ap (λ k. k.control) c.put_value-under.ensures.value, left.2)))

pub returns : goal.returns
returns c =
    enter_made _ _ c.requires _ (c.args.top ∷ c.args.below ∷ []) _ _ c.put_all.ensures.fits
    (c.put_all.ensures.m_after ∙ ap (λ κ. with_controls (c.args.top ∷ c.args.below ∷ κ.control) κ) (value_regions _ _ c.requires _ _ c.put_value-under.ensures.value c.put_value-under.ensures.m_after))
