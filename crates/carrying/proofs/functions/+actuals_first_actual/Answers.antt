-- The proof of `actuals` and `first_actual`: the later ones are carried before the first, whose value is put in its row. The measure is how many are left.
use Prim.Native.Nat.{ℕ, ◌≤◌}
use mathlib.Core.Path.{◌≡◌}
use native.Mathlib.Omega.{arith}
use Rattle.std.proofs.lemmas.Result.{err_from_is_err_and}
use Rattle.carrying.proofs.ActualLaws.{no_actual_left, actuals_low, later_there, later_unsafe, first_there, first_unsafe, actual_sort, actual_put}
use Rattle.carrying.proofs.functions.+actuals_first_actual.Goals as goal

some_left : {left : ℕ} → 1 ≤ left → left ≡ 0 → ⊥
some_left few none = omega arith

pub actuals-returns-then-left-eq0-clause-actuals_carried : goal.actuals-returns-then-left-eq0-clause-actuals_carried
actuals-returns-then-left-eq0-clause-actuals_carried t c =
    no_actual_left _ _ _ _ _ c.if-left-eq0.true

pub first_actual-end-next-requires : goal.first_actual-end-next-requires
first_actual-end-next-requires t c = omega (arith, (actuals_low _ _ _ _ _ (some_left c.requires.le_left) c.requires.some_actuals).0, c.requires.regions_end_in_bounds)

pub first_actual-actuals-requires : goal.first_actual-actuals-requires
first_actual-actuals-requires t c =
    (omega (arith, c.requires.le_left, c.decreases), (c.requires.regions_end_in_bounds, later_there _ _ _ _ _ (some_left c.requires.le_left) _ c.end-next.ensures c.requires.some_actuals))

pub first_actual-returns-in_err-actuals-clause-actuals_carried : goal.first_actual-returns-in_err-actuals-clause-actuals_carried
first_actual-returns-in_err-actuals-clause-actuals_carried t c =
    let p = err_from_is_err_and c.from_residual.result c.from_residual.ensures.1 in rw (p.1, p.2) (later_unsafe _ _ _ _ _ (some_left c.requires.le_left) _ c.end-next.ensures _ _ c.in_err-actuals.ensures.actuals_carried)

pub first_actual-expression-requires-clause-some_expression : goal.first_actual-expression-requires-clause-some_expression
first_actual-expression-requires-clause-some_expression t c =
    first_there _ _ _ _ _ (some_left c.requires.le_left) _ c.end-next.ensures _ c.in_ok-actuals.ensures.actuals_carried c.actuals.ensures.keeps c.actuals.ensures.keeps_cells c.requires.some_actuals

pub first_actual-put_row-requires-clause-sort_lt_sorts : goal.first_actual-put_row-requires-clause-sort_lt_sorts
first_actual-put_row-requires-clause-sort_lt_sorts t c =
    let sort = actual_sort _ _ _ _ _ (some_left c.requires.le_left) _ c.end-next.ensures _ c.in_ok-actuals.ensures.actuals_carried c.actuals.ensures.keeps c.actuals.ensures.keeps_cells _ c.in-Ok.ensures c.requires.some_actuals in sort

pub first_actual-returns-in-Ok-clause-actuals_carried : goal.first_actual-returns-in-Ok-clause-actuals_carried
first_actual-returns-in-Ok-clause-actuals_carried t c =
    actual_put _ _ _ _ _ (some_left c.requires.le_left) _ c.end-next.ensures _ c.in_ok-actuals.ensures.actuals_carried c.actuals.ensures.keeps c.actuals.ensures.keeps_cells _ c.in-Ok.ensures _ c.put_row.ensures

pub first_actual-returns-in-Err-clause-actuals_carried : goal.first_actual-returns-in-Err-clause-actuals_carried
first_actual-returns-in-Err-clause-actuals_carried t c =
    first_unsafe _ _ _ _ _ (some_left c.requires.le_left) _ c.end-next.ensures _ c.in_ok-actuals.ensures.actuals_carried c.actuals.ensures.keeps c.actuals.ensures.keeps_cells _ c.in-Err.ensures
