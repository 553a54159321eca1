-- As many limits as registers, then limits that do not cross, then the tree over them.
use mathlib.Core.Path.{sym, ◌∙◌}
use native.Mathlib.Omega.{arith}
use Rattle.calls.proofs.RangesLaws.{too_few, limits_refused, small_tree, stands_counted, ranged_counted, none_touched}
use Rattle.calls.proofs.limits.limit_tree.Goals as goal

pub returns-then-lowest-registers : goal.returns-then-lowest-registers
returns-then-lowest-registers c = record {
  tree_ranged = too_few c.args.lowest.now c.args.highest.now (λ i h. (c.type_inv.lowest i).fits) (λ i h. (c.type_inv.highest i).fits) _ _ _ _ c.then-lowest-registers.either c.nowhere.ensures;
  kept_beyond = none_touched _;
}

pub crossed-requires : goal.crossed-requires
crossed-requires c = record {
  lowest_len_bound = omega (arith, (small_tree c.requires.tree_stands).0, c.if-lowest-registers.false);
  highest_len = c.if-highest-registers.false ∙ sym c.if-lowest-registers.false;
}

pub returns-then-crossed : goal.returns-then-crossed
returns-then-crossed c = record {
  tree_ranged = limits_refused c.args.lowest.now c.args.highest.now (λ i h. (c.slice_known-1.given i).fits) (λ i h. (c.slice_known-2-1.given i).fits) _ _ _ _ c.if-lowest-registers.false c.if-highest-registers.false (sym c.crossed.ensures ∙ c.if-crossed.true) c.nowhere-then-crossed.ensures;
  kept_beyond = none_touched _;
}

pub carry_tree-requires : goal.carry_tree-requires
carry_tree-requires c = record {
  work_words_in_bounds = c.requires.work_words_in_bounds;
  highest_len = c.if-highest-registers.false ∙ sym c.if-lowest-registers.false;
  highest_value = sym c.crossed.ensures ∙ c.if-crossed.false;
  tree_stands = stands_counted _ _ _ _ c.if-lowest-registers.false c.requires.tree_stands;
}

pub returns : goal.returns
returns c = record {
  tree_ranged = ranged_counted _ _ _ _ _ _ _ _ _ c.if-lowest-registers.false c.carry_tree.ensures.tree_ranged;
  kept_beyond = c.carry_tree.ensures.kept_beyond;
}
