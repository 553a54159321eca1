-- The image, then its figures.
use native.Mathlib.Omega.{arith}
use Rattle.std.proofs.Common.{rules}
use Rattle.loader.proofs.LoadLaws.{beyond_then}
use Rattle.calls.proofs.LoadedLaws.{loaded_beyond}
use Rattle.calls.proofs.NeedsLaws.{tree_loaded, passed_answered, refusal_answered}
use Rattle.calls.proofs.estimate.estimate_image.Goals as goal

pub figures-requires : goal.figures-requires
figures-requires c = let both = tree_loaded _ _ _ _ c.load.ensures _ c.in_ok-loaded.was in record {
  work_words_in_bounds = omega (arith, c.requires, (loaded_beyond _ _ _ _ c.load.ensures).same_length);
  registers_le_most_registers = both.0;
  small_tree = both.1;
}

pub returns : goal.returns
returns c = record {
  value = passed_answered _ _ _ _ c.load.ensures _ c.in_ok-loaded.was _ c.figures.ensures.estimated_as;
  kept_beyond = beyond_then (loaded_beyond _ _ _ _ c.load.ensures) c.figures.ensures.kept_beyond;
}

pub returns-in_err-loaded : goal.returns-in_err-loaded
returns-in_err-loaded c = record {
  value = refusal_answered _ _ _ _ c.load.ensures _ c.in_err-loaded.was _ (search rules);
  kept_beyond = loaded_beyond _ _ _ _ c.load.ensures;
}
