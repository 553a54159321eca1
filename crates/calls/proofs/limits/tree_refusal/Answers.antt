-- Why a tree is not carried: 43, 40, 33 to 36.
use mathlib.Core.Path.{subst}
use native.Mathlib.Omega.{arith}
use Rattle.estimator.specs.Answers.{LoopFound}
use Rattle.reader.proofs.StandingLaws.{nodes_low}
use Rattle.calls.proofs.RangesLaws.{loop_refused, all_steps_refused, room_answered, nothing_written}
use Rattle.calls.proofs.limits.tree_refusal.Goals as goal

pub has_loop-looped-requires : goal.has_loop-looped-requires
has_loop-looped-requires c = record {
  most_nodes_in_bounds = omega (arith, c.requires.work_words_in_bounds);
  nodes_le_most_nodes = nodes_low c.requires.small_tree.1;
}

pub returns-then-looped : goal.returns-then-looped
returns-then-looped c = record {
  tree_refused = loop_refused _ _ _ (subst (LoopFound _ _) c.if-looped.true c.has_loop-looped.ensures);
  writes_entries_from = nothing_written _;
}

pub returns-then-need-gt-MOST_STEPS : goal.returns-then-need-gt-MOST_STEPS
returns-then-need-gt-MOST_STEPS c = record {
  tree_refused = all_steps_refused _ _ _ _ (subst (LoopFound _ _) c.if-looped.false c.has_loop-looped.ensures) _ c.routine-need.ensures.routine_needs c.routine-need.ensures.writes_entries_from c.if-need-gt-MOST_STEPS.true;
  writes_entries_from = c.routine-need.ensures.writes_entries_from;
}

pub returns : goal.returns
returns c = record {
  tree_refused = room_answered _ _ _ _ (subst (LoopFound _ _) c.if-looped.false c.has_loop-looped.ensures) _ c.routine-need.ensures.routine_needs c.routine-need.ensures.writes_entries_from c.if-need-gt-MOST_STEPS.false _ c.room_refusal.ensures;
  writes_entries_from = c.routine-need.ensures.writes_entries_from;
}
