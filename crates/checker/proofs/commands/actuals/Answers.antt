-- A Call's actuals one after the other, their codes packed.
use native.Mathlib.Omega.{arith}
use Rattle.std.proofs.Common.{rules}
use Rattle.checker.proofs.laws.commands.PackingLaws.{some_left, none_left, one_less, packed_room}
use Rattle.checker.proofs.laws.commands.ActualLaws.{first_actual, first_actual_low, actuals_none, actual_fault, actual_code_low, one_coded}
use Rattle.checker.proofs.commands.actuals.Goals as goal

pub expression-requires-clause-scope_at : goal.expression-requires-clause-scope_at
expression-requires-clause-scope_at c =
    let first = first_actual _ _ _ c.loop.invariant.others.0 (some_left _ _ c.loop-test.true) c.loop.invariant.others.1 in
    c.requires.scope_at

pub expression-requires-clause-expression_at : goal.expression-requires-clause-expression_at
expression-requires-clause-expression_at c =
    let first = first_actual _ _ _ c.loop.invariant.others.0 (some_left _ _ c.loop-test.true) c.loop.invariant.others.1 in
    (first.first, first.stands)

pub returns-in_err-code : goal.returns-in_err-code
returns-in_err-code c =
    c.loop.invariant.whole _ (actual_fault _ _ _ _ _ _ (some_left _ _ c.loop-test.true) _ c.expression.ensures _ c.in_err-code.was _ (search rules))

pub overflow_mul-codes : goal.overflow_mul-codes
overflow_mul-codes c =
    record { fits = omega (arith, packed_room _ _ _ c.loop.invariant.packed (some_left _ _ c.loop-test.true) c.requires.few) }

pub overflow_add-codes : goal.overflow_add-codes
overflow_add-codes c =
    let room = packed_room _ _ _ c.loop.invariant.packed (some_left _ _ c.loop-test.true) c.requires.few in
    record { fits = omega (arith, room, actual_code_low _ _ _ _ _ c.requires.scope_at c.loop.invariant.others (some_left _ _ c.loop-test.true) _ c.expression.ensures _ c.in_ok-code.was) }

pub end-at-requires : goal.end-at-requires
end-at-requires c =
    omega (arith, first_actual_low _ _ _ (some_left _ _ c.loop-test.true) c.loop.invariant.others, c.requires.rows_end_in_bounds)

pub loop-preserved : goal.loop-preserved
loop-preserved c =
    let low = actual_code_low _ _ _ _ _ c.requires.scope_at c.loop.invariant.others (some_left _ _ c.loop-test.true) _ c.expression.ensures _ c.in_ok-code.was in
    one_coded _ _ _ _ _ _ _ _ c.loop.invariant (some_left _ _ c.loop-test.true) _ c.expression.ensures _ _ c.in_ok-code.was low c.end-at.ensures _ (one_less _ _)

pub returns : goal.returns
returns c = c.loop.invariant.whole _ (actuals_none _ _ _ _ _ _ (none_left _ _ c.loop-test.false))
