-- The measures of `actuals` and `first_actual`.
use Prim.Native.Nat.{◌+◌, ◌*◌}
use Rattle.carrying.proofs.functions.+actuals_first_actual.Given as goal

abbrev pub decreases-actuals : goal.decreases-actuals
decreases-actuals l = 2 * l.left + 1

abbrev pub decreases-first_actual : goal.decreases-first_actual
decreases-first_actual l = 2 * l.left
