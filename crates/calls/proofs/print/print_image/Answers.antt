-- The image, then its page.
use native.Mathlib.Omega.{arith}
use Rattle.std.proofs.Common.{rules}
use Rattle.calls.proofs.LoadedLaws.{loaded_beyond}
use Rattle.calls.proofs.PageLaws.{tree_loaded, passed_printed, refusal_printed}
use Rattle.calls.proofs.print.print_image.Goals as goal

pub print_tree-requires : goal.print_tree-requires
print_tree-requires c = record {
  work_words_in_bounds = omega (arith, c.requires, (loaded_beyond _ _ _ _ c.load.ensures).same_length);
  root_at = tree_loaded _ _ _ _ c.load.ensures _ c.in_ok-loaded.was;
}

pub returns : goal.returns
returns c = record {
  printed_as = passed_printed _ _ _ _ c.load.ensures _ c.in_ok-loaded.was _ _ _ c.print_tree.ensures;
  kept_beyond = loaded_beyond _ _ _ _ c.load.ensures;
}

pub returns-in_err-loaded : goal.returns-in_err-loaded
returns-in_err-loaded c = record {
  printed_as = refusal_printed _ _ _ _ c.load.ensures _ c.in_err-loaded.was _ (search rules) _;
  kept_beyond = loaded_beyond _ _ _ _ c.load.ensures;
}
