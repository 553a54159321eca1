-- call: the mark, then one actual after the other.
use Prim.Native.Nat.{ℕ, suc, ◌+◌, ◌-◌, ◌<◌}
use mathlib.Core.Path.{◌≡◌}
use native.Mathlib.Omega.{arith}
use Rattle.machine.proofs.stack_laws.RoomLaws.{was_put}
use Rattle.commands.proofs.command_laws.CommandLaws.{command_low}
use Rattle.commands.proofs.command_laws.CallLaws.{call_withheld, goes_first, goes_again, actual_low, begun, first_room, call_made}
use Rattle.commands.proofs.nodes.call.Goals as goal

one_left : (count i : ℕ) → i < count → count - i ≡ suc (count - (i + 1))
one_left count i h = omega arith

pub operand-word-requires : goal.operand-word-requires
operand-word-requires c = omega (arith, command_low _ _ _ _ c.requires.2, c.requires.2.ready.fits.room)

pub returns-then-m-count-gt-MOST_CONTROL_ENTRIES : goal.returns-then-m-count-gt-MOST_CONTROL_ENTRIES
returns-then-m-count-gt-MOST_CONTROL_ENTRIES c = call_withheld _ _ _ _ c.operand-word.ensures c.if-m-count-gt-MOST_CONTROL_ENTRIES.true

pub overflow_add-at : goal.overflow_add-at
overflow_add-at c = record { fits = omega (arith, command_low _ _ _ _ c.requires.2) }

pub loop-init : goal.loop-init
loop-init c =
    goes_first _ (omega arith) (first_room _ _ _ _ c.operand-word.ensures _ _
    (was_put (c.put_control-machine.ensures.value, c.put_control-machine.ensures.m_after)) c.requires.2.ready.fits
    (omega (arith, c.if-m-count-gt-MOST_CONTROL_ENTRIES.false)))

pub end-at-requires : goal.end-at-requires
end-at-requires c =
    let low =
    actual_low c.loop.invariant _ (one_left _ _ c.loop-test.true)
    (begun _ _ _ _ c.operand-word.ensures _ _ (was_put (c.put_control-machine.ensures.value, c.put_control-machine.ensures.m_after))
    _ _ c.requires.2.ready) in
    omega (arith, low, c.loop.invariant.room.fits.room, c.put_control-machine-in-loop.auto.work)

pub loop-preserved : goal.loop-preserved
loop-preserved c = goes_again c.loop.invariant _ _ _ _ (one_left _ _ c.loop-test.true)
    (was_put (c.put_control-machine-in-loop.ensures.value, c.put_control-machine-in-loop.ensures.m_after)) c.end-at.ensures

pub returns : goal.returns
returns c = call_made _ _ _ _ c.operand-word.ensures _ _ (was_put (c.put_control-machine.ensures.value, c.put_control-machine.ensures.m_after))
    _ _ _ _ (omega arith) c.loop.invariant
