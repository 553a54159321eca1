-- The image, then the count of registers, then the run.
use native.Mathlib.Omega.{arith}
use Rattle.calls.proofs.LoadedLaws.{loaded_beyond}
use Rattle.calls.proofs.OrderLaws.{image_refused, count_refused, tree_stands, run_performed}
use Rattle.calls.proofs.perform.run_image.Goals as goal

pub returns-in-Err : goal.returns-in-Err
returns-in-Err c = image_refused _ _ _ _ c.load.ensures c.args.registers.now _ (λ i h. (c.type_inv.registers i).fits) _ c.in-Err.is _ c.unstarted.ensures

pub returns-then-registers-loaded : goal.returns-then-registers-loaded
returns-then-registers-loaded c =
    count_refused _ _ _ _ c.load.ensures c.args.registers.now _ _ c.in-Ok.is (λ i h. (c.type_inv.registers i).fits) c.if-registers-loaded.true _ c.nowhere.ensures _ c.unstarted-then-registers-loaded.ensures

pub run_tree-requires : goal.run_tree-requires
run_tree-requires c = record {
  work_words_in_bounds = omega (arith, (loaded_beyond _ _ _ _ c.load.ensures).same_length, c.requires);
  tree_stands_as = tree_stands _ _ _ _ c.load.ensures c.args.registers.now c.args.budget _ c.in-Ok.is c.if-registers-loaded.false;
}

pub returns-else-registers-loaded : goal.returns-else-registers-loaded
returns-else-registers-loaded c = run_performed _ _ _ _ c.load.ensures c.args.registers.now _ _ c.in-Ok.is c.if-registers-loaded.false _ _ _ c.run_tree.ensures
