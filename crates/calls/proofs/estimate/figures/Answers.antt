-- The figures of the tree: open, refused, or given.
use mathlib.Core.Path.{subst}
use native.Mathlib.Omega.{arith}
use Rattle.estimator.specs.Answers.{LoopFound}
use Rattle.reader.proofs.StandingLaws.{nodes_low}
use Rattle.calls.proofs.NeedsLaws.{beyond_entries, open_answered, steps_refused, figures_answered}
use Rattle.calls.proofs.estimate.figures.Goals as goal

pub has_loop-open-requires : goal.has_loop-open-requires
has_loop-open-requires c = record {
  most_nodes_in_bounds = omega (arith, c.requires.work_words_in_bounds, c.routine-need.ensures.writes_entries_from.same_length);
  nodes_le_most_nodes = nodes_low c.requires.small_tree.1;
}

pub returns-then-open : goal.returns-then-open
returns-then-open c = record {
  estimated_as = open_answered _ _ _ _ _ c.routine-need.ensures.routine_needs c.routine-need.ensures.writes_entries_from (subst (LoopFound _ _) c.if-open.true c.has_loop-open.ensures) _ c.with_steps.ensures;
  kept_beyond = beyond_entries c.routine-need.ensures.writes_entries_from;
}

pub returns-then-need-gt-MOST_STEPS : goal.returns-then-need-gt-MOST_STEPS
returns-then-need-gt-MOST_STEPS c = record {
  estimated_as = steps_refused _ _ _ _ _ c.routine-need.ensures.routine_needs c.routine-need.ensures.writes_entries_from (subst (LoopFound _ _) c.if-open.false c.has_loop-open.ensures) c.if-need-gt-MOST_STEPS.true _ c.nowhere.ensures;
  kept_beyond = beyond_entries c.routine-need.ensures.writes_entries_from;
}

pub returns : goal.returns
returns c = record {
  estimated_as = figures_answered _ _ _ _ _ c.routine-need.ensures.routine_needs c.routine-need.ensures.writes_entries_from (subst (LoopFound _ _) c.if-open.false c.has_loop-open.ensures) c.if-need-gt-MOST_STEPS.false _ c.with_steps-2.ensures;
  kept_beyond = beyond_entries c.routine-need.ensures.writes_entries_from;
}
