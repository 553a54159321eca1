-- The Formals' codes, packed one after the other, then compared with those that are given.
use native.Mathlib.Omega.{arith}
use Rattle.checker.proofs.laws.commands.PackingLaws.{some_left, none_left, one_less, packed_room}
use Rattle.checker.proofs.laws.declarations.FormalLaws.{formal_node_low}
use Rattle.checker.proofs.laws.commands.AgreementLaws.{wanted_code_low, one_wanted, all_agree}
use Rattle.checker.proofs.commands.agreement.Goals as goal

pub operand-requires : goal.operand-requires
operand-requires c = omega (arith, formal_node_low _ _ _ c.loop-at.invariant.others (some_left _ _ c.loop-at-test.true), c.requires.rows_end_in_bounds)

pub overflow_mul-wanted : goal.overflow_mul-wanted
overflow_mul-wanted c =
    record { fits = omega (arith, packed_room _ _ _ c.loop-at.invariant.packed (some_left _ _ c.loop-at-test.true) c.requires.few) }

pub overflow_add-wanted : goal.overflow_add-wanted
overflow_add-wanted c =
    let room = packed_room _ _ _ c.loop-at.invariant.packed (some_left _ _ c.loop-at-test.true) c.requires.few in
    record { fits = omega (arith, room, wanted_code_low _ _ _ _ (some_left _ _ c.loop-at-test.true) c.operand.ensures c.loop-at.invariant.others) }

pub loop-at-preserved : goal.loop-at-preserved
loop-at-preserved c = one_wanted _ _ _ _ (some_left _ _ c.loop-at-test.true) c.operand.ensures _ _ _ c.loop-at.invariant _ (one_less _ _)

pub returns : goal.returns
returns c = all_agree _ _ _ _ _ _ c.loop-at.invariant (none_left _ _ c.loop-at-test.false) _ _ _ c.same.ensures
