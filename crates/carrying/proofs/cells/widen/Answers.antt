-- The cells are widened one by one.
use native.Mathlib.Omega.{arith}
use Prim.Native.Nat.{◌<◌}
use Rattle.std.proofs.lemmas.List.{get_or-take, length-take-le}
use Rattle.carrying.specs.Layout.{kept_ends}
use Rattle.carrying.proofs.CopyLaws.{widened_by, one_more_widened}
use Rattle.carrying.proofs.cells.widen.Goals as goal

pub loop-at-preserved : goal.loop-at-preserved
loop-at-preserved c =
    let small : c.loop-at.at < c.args.cells = omega (arith, c.loop-at-test.true, length-take-le c.args.cells c.args.kept.now c.requires.kept_long) in
    let same = get_or-take c.args.cells c.args.kept.now c.loop-at.at (record { low = 0; high = 0 }) small in
    one_more_widened _ _ _ _ _ (omega (arith, small, c.requires.cells_le_most_cells)) c.loop-at.invariant c.wider-both.result
    (widened_by c.loop-at.work c.loop-at.at (kept_ends c.args.kept.now c.loop-at.at) _ _ _ c.contents-second.ensures same c.wider-both.ensures) c.set_cell.ensures
