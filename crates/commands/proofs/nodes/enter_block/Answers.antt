-- enter_block: the location set on the value stack, and four entries on control.
use Prim.Native.Nat.{◌+◌, ◌≤◌}
use mathlib.Core.Path.{sym, ap, ◌∙◌}
use native.Mathlib.Omega.{arith}
use Rattle.rules.specs.paper.Limits.{most_bindings, most_value_entries, most_control_entries}
use Rattle.machine.proofs.state_laws.JudgeLaws.{room_left}
use Rattle.commands.proofs.command_laws.CommandLaws.{command_low}
use Rattle.commands.proofs.command_laws.BlockLaws.{block_low, block_withheld, fits_opened, block_made}
use Rattle.commands.proofs.nodes.enter_block.Goals.{In_default}
use Rattle.commands.proofs.nodes.enter_block.Goals as goal

-- There is room for the value and for the four entries.
room : (c : In_default) → (c.args.m.bindings ≤ most_bindings) × (c.args.m.values + 1 ≤ most_value_entries)
    × (c.args.m.control + 4 ≤ most_control_entries)
room c = room_left _ _ _ (sym c.in_default.is ∙ c.reason_of_room.ensures)

pub returns-in-Some : goal.returns-in-Some
returns-in-Some c = block_withheld _ _ _ _ (sym c.in-Some.is ∙ c.reason_of_room.ensures)

pub overflow_add-node : goal.overflow_add-node
overflow_add-node c = record { fits = omega (arith, command_low _ _ _ _ c.requires.2) }

pub end-body-requires : goal.end-body-requires
end-body-requires c = omega (arith, block_low _ _ _ _ _ c.requires.2, c.requires.2.ready.fits.room)

pub put_value-opened-requires-clause-values_lt_most_value_entries : goal.put_value-opened-requires-clause-values_lt_most_value_entries
put_value-opened-requires-clause-values_lt_most_value_entries c =
    omega (arith, (room (goal.at.put_value-opened-requires-clause-values_lt_most_value_entries c).In_default).1)

pub overflow_add-node-2 : goal.overflow_add-node-2
overflow_add-node-2 c = record { fits = omega (arith, command_low _ _ _ _ c.requires.2) }

pub put_all-requires : goal.put_all-requires
put_all-requires c =
    let left = room (goal.at.put_all-requires c).In_default in (
      omega arith,
      (
        fits_opened _ _ c.requires.2.ready.fits left.1 _ _ c.put_value-opened.ensures.value c.put_value-opened.ensures.m_after,
        omega
            (arith, left.2, ap (λ k. k.control) c.put_value-opened.ensures.value),
      ),
    )

pub returns : goal.returns
returns c =
    block_made _ _ c.requires.2.ready.fits (room
    (goal.at.returns c).In_default).1 _ _ c.put_value-opened.ensures.value c.put_value-opened.ensures.m_after
    _ _ _ _ c.end-body.ensures c.put_all.ensures.fits c.put_all.ensures.m_after
