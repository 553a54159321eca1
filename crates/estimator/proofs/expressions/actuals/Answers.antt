-- A Call's actuals one after the other.
use mathlib.Core.Path.{ap, ◌∙◌}
use native.Mathlib.Omega.{arith}
use Rattle.reader.proofs.StandingLaws.{expression_low}
use Rattle.estimator.specs.Figures.{raised}
use Rattle.estimator.proofs.ActualLaws.{first_actual, none_needed, one_more_needed, all_needed}
use Rattle.estimator.proofs.expressions.actuals.Goals as goal

pub loop-given-init : goal.loop-given-init
loop-given-init c = none_needed _ _ _ _ _ (omega arith) c.nothing-need.ensures c.requires.some_actuals

pub expression-one-requires : goal.expression-one-requires
expression-one-requires c = record {
  most_nodes_in_bounds = c.requires.most_nodes_in_bounds;
  some_expression = first_actual _ _ _ (λ z. omega (arith, z, c.loop-given-test.true)) c.loop-given.invariant.others;
}

pub end-at-requires : goal.end-at-requires
end-at-requires c =
    omega (arith, expression_low (first_actual _ _ _ (λ z. omega (arith, z, c.loop-given-test.true)) c.loop-given.invariant.others).3, c.requires.most_nodes_in_bounds)

pub loop-given-preserved : goal.loop-given-preserved
loop-given-preserved c =
    one_more_needed _ _ _ _ _ _ _ _ _ _ _ _ c.requires.count_le_most_parameters c.loop-given.invariant (omega (arith, c.loop-given-test.true)) c.expression-one.ensures
    (c.over-raised.ensures ∙ ap (λ n. raised c.expression-one.result c.loop-given.given n 0 0) (omega (arith, c.loop-given-test.true))) c.in_turn-need.ensures c.end-at.ensures

pub returns : goal.returns
returns c = all_needed _ _ _ _ _ _ _ c.loop-given.invariant (omega (arith, c.loop-given-test.false))
