-- Call: the actuals, the name, that it is a function, its count and its codes.
use native.Mathlib.Omega.{arith}
use Rattle.std.proofs.Common.{rules}
use Rattle.checker.proofs.laws.commands.CallLaws.{function_found, found_formals, call_actual_fault, call_unbound, call_no_function, call_count_apart, call_agree}
use Rattle.checker.proofs.commands.call.Goals.{then-found-ne-FUNCTION-via-then-found-ne-FUNCTION, then-found-ne-FUNCTION-via-else-found-ne-FUNCTION+then-operand-count}
use Rattle.checker.proofs.commands.call.Goals as goal

pub returns-in_err-codes : goal.returns-in_err-codes
returns-in_err-codes c = call_actual_fault _ _ _ _ _ c.operand-word.ensures _ c.actuals.ensures _ c.in_err-codes.was _ (search rules)

pub returns-in_default : goal.returns-in_default
returns-in_default c = call_unbound _ _ _ _ _ c.operand-word.ensures _ c.actuals.ensures _ _ c.in_ok-codes.was c.lookup.ensures c.in_default.is

pub operand-requires : goal.operand-requires
operand-requires c =
    let function = function_found _ (c.lookup.ensures c.requires.scope_at.0 c.requires.scope_at.1) c.in-Some.is c.if-found-ne-FUNCTION.false in
    omega (arith, function.low, c.requires.rows_end_in_bounds)

pub returns-then-found-ne-FUNCTION : goal.returns-then-found-ne-FUNCTION
returns-then-found-ne-FUNCTION c =
    elim c.then-found-ne-FUNCTION.branch [
      | then-found-ne-FUNCTION-via-then-found-ne-FUNCTION w ↦
          call_no_function _ _ _ _ _ c.operand-word.ensures _ c.actuals.ensures _ _ c.in_ok-codes.was c.lookup.ensures _ c.in-Some.is w.if-found-ne-FUNCTION.true
      | then-found-ne-FUNCTION-via-else-found-ne-FUNCTION+then-operand-count w ↦
          call_count_apart _ _ _ _ _ c.operand-word.ensures _ c.actuals.ensures _ _ c.in_ok-codes.was c.lookup.ensures _ c.in-Some.is w.if-found-ne-FUNCTION.false _ w.operand.ensures w.if-operand-count.true
    ]

pub overflow_add-found : goal.overflow_add-found
overflow_add-found c =
    let function = function_found _ (c.lookup.ensures c.requires.scope_at.0 c.requires.scope_at.1) c.in-Some.is c.if-found-ne-FUNCTION.false in
    record { fits = omega (arith, function.low) }

pub agreement-requires-clause-formals_at : goal.agreement-requires-clause-formals_at
agreement-requires-clause-formals_at c =
    let function = function_found _ (c.lookup.ensures c.requires.scope_at.0 c.requires.scope_at.1) c.in-Some.is c.if-found-ne-FUNCTION.false in
    found_formals _ _ _ _ function c.operand.ensures c.if-operand-count.false

pub returns : goal.returns
returns c =
    call_agree _ _ _ _ _ c.operand-word.ensures _ c.actuals.ensures _ _ c.in_ok-codes.was c.lookup.ensures _ c.in-Some.is c.if-found-ne-FUNCTION.false _ c.operand.ensures _ c.if-operand-count.false c.agreement.ensures
