-- The image, then its ranges.
use native.Mathlib.Omega.{arith}
use Rattle.std.proofs.Common.{rules}
use Rattle.loader.proofs.LoadLaws.{beyond_then}
use Rattle.calls.proofs.LoadedLaws.{loaded_beyond}
use Rattle.calls.proofs.RangesLaws.{tree_loaded, passed_ranged, refusal_ranged}
use Rattle.calls.proofs.limits.limit_image.Goals as goal

pub limit_tree-requires : goal.limit_tree-requires
limit_tree-requires c = record {
  work_words_in_bounds = omega (arith, c.requires, (loaded_beyond _ _ _ _ c.load.ensures).same_length);
  tree_stands = tree_loaded _ _ _ _ c.load.ensures _ c.in_ok-loaded.was;
}

pub returns : goal.returns
returns c = record {
  image_ranged = passed_ranged c.args.lowest.now c.args.highest.now (λ i h. (c.slice_known-1.given i).fits) (λ i h. (c.slice_known-2-1.given i).fits) _ _ _ _ c.load.ensures _ c.in_ok-loaded.was _ _ _ c.limit_tree.ensures.tree_ranged;
  kept_beyond = beyond_then (loaded_beyond _ _ _ _ c.load.ensures) c.limit_tree.ensures.kept_beyond;
}

pub returns-in_err-loaded : goal.returns-in_err-loaded
returns-in_err-loaded c = record {
  image_ranged = refusal_ranged c.args.lowest.now c.args.highest.now (λ i h. (c.slice_known-1.given i).fits) (λ i h. (c.slice_known-2-1.given i).fits) _ _ _ _ c.load.ensures _ c.in_err-loaded.was _ (search rules);
  kept_beyond = loaded_beyond _ _ _ _ c.load.ensures;
}
