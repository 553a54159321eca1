-- The proof of `enter`: the actuals are carried before the name is looked for, so that where they go through the name is a function of as many Formals.
use mathlib.Core.Path.{ap}
use native.Mathlib.Omega.{arith}
use Rattle.std.proofs.lemmas.Result.{err_from_is_err_and}
use Rattle.carrying.proofs.CallLaws.{actuals_there, call_unsafe, names_there, function_found, function_low, formals_there, call_entered}
use Rattle.carrying.proofs.functions.enter.Goals as goal

pub actuals-requires-clause-some_actuals : goal.actuals-requires-clause-some_actuals
actuals-requires-clause-some_actuals c =
    actuals_there _ _ _ _ c.operand-word.ensures c.requires.some_call

pub find-requires-clause-some_names : goal.find-requires-clause-some_names
find-requires-clause-some_names c =
    names_there _ _ _ _ c.operand-word.ensures _ c.in_ok-actuals.ensures.actuals_carried c.actuals.ensures.keeps c.actuals.ensures.keeps_cells c.requires.some_call

pub row_value-place-requires-clause-le_at : goal.row_value-place-requires-clause-le_at
row_value-place-requires-clause-le_at c =
    let low = function_low _ _ _ _ c.operand-word.ensures _ c.in_ok-actuals.ensures.actuals_carried c.actuals.ensures.keeps c.actuals.ensures.keeps_cells _ c.in-Some.ensures.found_at c.in-Some.ensures.upper_bound c.requires.some_call in low.0

pub row_below-below-requires-clause-le_at : goal.row_below-below-requires-clause-le_at
row_below-below-requires-clause-le_at c =
    let low = function_low _ _ _ _ c.operand-word.ensures _ c.in_ok-actuals.ensures.actuals_carried c.actuals.ensures.keeps c.actuals.ensures.keeps_cells _ c.in-Some.ensures.found_at c.in-Some.ensures.upper_bound c.requires.some_call in low.0

pub overflow_add-place : goal.overflow_add-place
overflow_add-place c =
    let place_is = ap (λ v. v.low) c.row_value-place.ensures in
    record { fits = omega (arith, place_is, (function_low _ _ _ _ c.operand-word.ensures _ c.in_ok-actuals.ensures.actuals_carried c.actuals.ensures.keeps c.actuals.ensures.keeps_cells _ c.in-Some.ensures.found_at c.in-Some.ensures.upper_bound c.requires.some_call).2) }

pub formals-environment-requires-clause-some_formals : goal.formals-environment-requires-clause-some_formals
formals-environment-requires-clause-some_formals c =
    let place_is = ap (λ v. v.low) c.row_value-place.ensures in formals_there _ _ _ _ c.operand-word.ensures _ c.in_ok-actuals.ensures.actuals_carried c.actuals.ensures.keeps c.actuals.ensures.keeps_cells _ c.in-Some.ensures.found_at c.in-Some.ensures.upper_bound _ _ place_is c.row_below-below.ensures c.requires.some_call

pub overflow_add-result-2 : goal.overflow_add-result-2
overflow_add-result-2 c =
    let place_is = ap (λ v. v.low) c.row_value-place.ensures in
    record { fits = omega (arith, place_is, (function_low _ _ _ _ c.operand-word.ensures _ c.in_ok-actuals.ensures.actuals_carried c.actuals.ensures.keeps c.actuals.ensures.keeps_cells _ c.in-Some.ensures.found_at c.in-Some.ensures.upper_bound c.requires.some_call).2) }

pub overflow_add-result-3 : goal.overflow_add-result-3
overflow_add-result-3 c =
    let place_is = ap (λ v. v.low) c.row_value-place.ensures in
    record { fits = omega (arith, place_is, (function_low _ _ _ _ c.operand-word.ensures _ c.in_ok-actuals.ensures.actuals_carried c.actuals.ensures.keeps c.actuals.ensures.keeps_cells _ c.in-Some.ensures.found_at c.in-Some.ensures.upper_bound c.requires.some_call).2) }

pub returns-clause-call_carried : goal.returns-clause-call_carried
returns-clause-call_carried c =
    let place_is = ap (λ v. v.low) c.row_value-place.ensures in call_entered _ _ _ _ c.operand-word.ensures _ c.in_ok-actuals.ensures.actuals_carried c.actuals.ensures.keeps c.actuals.ensures.keeps_cells _ c.in-Some.ensures.found_at c.in-Some.ensures.upper_bound _ _ place_is c.row_below-below.ensures _ _ c.formals-environment.ensures.formals_named c.formals-environment.ensures.upper_bound c.formals-environment.ensures.keeps c.formals-environment.ensures.keeps_cells c.requires.some_call

pub returns-in_err-actuals-clause-call_carried : goal.returns-in_err-actuals-clause-call_carried
returns-in_err-actuals-clause-call_carried c =
    let p = err_from_is_err_and c.from_residual.result c.from_residual.ensures.1 in rw (p.1, p.2) (call_unsafe _ _ _ _ c.operand-word.ensures _ _ c.in_err-actuals.ensures.actuals_carried)

pub unreachable-requires : goal.unreachable-requires
unreachable-requires c =
    function_found _ _ _ _ c.operand-word.ensures _ c.in_ok-actuals.ensures.actuals_carried c.actuals.ensures.keeps c.actuals.ensures.keeps_cells c.in_default.ensures.found_at c.requires.some_call
