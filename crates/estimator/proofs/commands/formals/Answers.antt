-- The Formals of an Abs one after the other: each gets an entry.
use mathlib.Core.Path.{sym, subst}
use native.Mathlib.Omega.{arith}
use Rattle.rules.specs.paper.Needs.{nothing}
use Rattle.estimator.specs.Entries.{SmallFigures}
use Rattle.estimator.proofs.EntryLaws.{figures_small}
use Rattle.estimator.proofs.NameLaws.{no_formal, formal_low, formals_end, none_named, one_more_named}
use Rattle.estimator.proofs.commands.formals.Goals as goal

pub overflow_add-formal-end : goal.overflow_add-formal-end
overflow_add-formal-end c = record { fits = omega (arith, formals_end 18446744073709551615 c.requires.some_formals (omega arith) (omega arith)) }

pub loop-formal-init : goal.loop-formal-init
loop-formal-init c = none_named _ _ _ _ _ (omega arith) c.requires.some_formals c.requires.names_at c.requires.scope_le_node

pub operand-word-requires : goal.operand-word-requires
operand-word-requires c =
    omega (arith, formal_low _ _ _ (λ z. omega (arith, z, c.loop-formal-test.true)) c.loop-formal.invariant.others, c.loop-formal.invariant.kept.same_length, c.requires.entries_end_in_bounds)

pub keep-requires : goal.keep-requires
keep-requires c = record {
  entries_end_in_bounds = omega (arith, c.loop-formal.invariant.kept.same_length, c.requires.entries_end_in_bounds);
  node_lt_most_nodes = formal_low _ _ _ (λ z. omega (arith, z, c.loop-formal-test.true)) c.loop-formal.invariant.others;
  name_lt_names = omega arith;
  link_le_node = omega (arith, c.loop-formal.invariant.linked);
  small_figures = subst SmallFigures (sym c.nothing.ensures) (figures_small nothing);
}

pub loop-formal-preserved : goal.loop-formal-preserved
loop-formal-preserved c =
    one_more_named _ _ _ _ _ _ _ _ _ _ c.loop-formal.invariant (omega (arith, c.loop-formal-test.true)) _ _ c.operand-word.ensures c.nothing.ensures c.keep.ensures

pub shape_of-work : goal.shape_of-work
shape_of-work c = c.loop-formal.invariant.kept.same_length

pub returns : goal.returns
returns c = record {
  formals_named = c.loop-formal.invariant.whole _ _ (no_formal _ _ _ _ c.loop-formal.invariant.linked (omega (arith, c.loop-formal-test.false)));
  writes_entries_from = c.loop-formal.invariant.kept;
}
