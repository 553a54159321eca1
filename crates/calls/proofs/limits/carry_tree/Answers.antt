-- The tree over limits that do not cross: refused, or carried.
use mathlib.Core.Path.{subst}
use native.Mathlib.Omega.{arith}
use Rattle.loader.proofs.LoadLaws.{beyond_then}
use Rattle.calls.specs.Ranges.{TreeRefused}
use Rattle.calls.proofs.NeedsLaws.{beyond_entries}
use Rattle.calls.proofs.RangesLaws.{tree_refused, routine_there, carried_answered, small_tree, beyond_regions}
use Rattle.calls.proofs.limits.carry_tree.Goals as goal

pub tree_refusal-requires : goal.tree_refusal-requires
tree_refusal-requires c = let both = small_tree c.requires.tree_stands in record {
  work_words_in_bounds = c.requires.work_words_in_bounds;
  registers_le_most_registers = both.0;
  small_tree = both.1;
}

pub returns-in-Some : goal.returns-in-Some
returns-in-Some c = record {
  tree_ranged = tree_refused c.args.lowest.now c.args.highest.now (λ i h. (c.type_inv.lowest i).fits) (λ i h. (c.type_inv.highest i).fits) _ _ c.requires.highest_len c.requires.highest_value _ (subst (TreeRefused _ _ _) c.in-Some.is c.tree_refusal.ensures.tree_refused) _ c.nowhere.ensures;
  kept_beyond = beyond_entries c.tree_refusal.ensures.writes_entries_from;
}

pub carry-requires : goal.carry-requires
carry-requires c =
    let none = subst (TreeRefused _ _ _) c.in_default.is c.tree_refusal.ensures.tree_refused in record {
      regions_end_in_bounds = omega (arith, c.requires.work_words_in_bounds, c.tree_refusal.ensures.writes_entries_from.same_length);
      lowest_len_bound = (small_tree c.requires.tree_stands).0;
      highest_len = c.requires.highest_len;
      some_routine = routine_there c.args.lowest.now c.args.highest.now (λ i h. (c.slice_known-1.given i).fits) (λ i h. (c.slice_known-2-1.given i).fits) _ _ c.requires.highest_len c.requires.highest_value _ none c.tree_refusal.ensures.writes_entries_from c.requires.tree_stands;
    }

pub returns : goal.returns
returns c =
    let none = subst (TreeRefused _ _ _) c.in_default.is c.tree_refusal.ensures.tree_refused in record {
      tree_ranged = carried_answered c.args.lowest.now c.args.highest.now (λ i h. (c.slice_known-1.given i).fits) (λ i h. (c.slice_known-2-1.given i).fits) _ _ c.requires.highest_len c.requires.highest_value _ none c.tree_refusal.ensures.writes_entries_from _ _ _ c.carry.ensures.routine_carried;
      kept_beyond = beyond_then (beyond_entries c.tree_refusal.ensures.writes_entries_from) (beyond_regions c.carry.ensures.keeps);
    }
