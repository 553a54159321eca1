-- The Formals of an Abs one after the other: each gets its row, unless its name has one.
use mathlib.Core.Path.{sym, ◌∙◌}
use Rattle.checker.proofs.laws.commands.PackingLaws.{some_left, none_left, one_less}
use native.Mathlib.Omega.{arith}
use Rattle.checker.proofs.laws.declarations.FormalLaws.{formal_node_low, formal_code_low, formals_none, formals_repeated, one_row_more}
use Rattle.std.specs.Prelude.{◌≡◌, ◌+◌, ◌-◌, []}
use Rattle.rules.specs.paper.Checker.{Scope}
use Rattle.typing.specs.Rows.{Rows, no_rows}
use Rattle.checker.proofs.laws.commands.KeptLaws.{kept_nothing}
use Rattle.checker.proofs.formals.formals.Goals as goal

pub loop-at-init : goal.loop-at-init
loop-at-init c =
    let none : (seen : Scope) × Rows c.args.work.now c.args.scope c.args.scope seen = ([], no_rows) in
    let all : c.args.node + c.args.count - c.args.node ≡ c.args.count = omega arith in
    rw all (record { others = c.requires.formals_at; rows = none; linked = c.requires.scope_low; onward = omega arith; kept = kept_nothing c.args.work.now c.args.node; whole = λ r after o. o })

pub returns-then-is_some-clause-formals_judged_at : goal.returns-then-is_some-clause-formals_judged_at
returns-then-is_some-clause-formals_judged_at c =
    c.loop-at.invariant.whole _ _ (formals_repeated _ _ _ _ _ _ _ (some_left _ _ c.loop-at-test.true) c.operand-word.ensures c.find_row.ensures (sym c.is_some.ensures ∙ c.if-is_some.true))

pub row_word-requires-clause-number_low : goal.row_word-requires-clause-number_low
row_word-requires-clause-number_low c =
    let low = formal_node_low _ _ _ c.loop-at.invariant.others (some_left _ _ c.loop-at-test.true) in
    formal_code_low _ _ _ _ c.loop-at.invariant.others (some_left _ _ c.loop-at-test.true) c.operand-word.ensures

pub loop-at-preserved : goal.loop-at-preserved
loop-at-preserved c =
    one_row_more _ _ _ _ _ _ _ _ _ c.loop-at.invariant _ _ _ (some_left _ _ c.loop-at-test.true) c.operand-word.ensures c.find_row.ensures (omega (arith, c.loop-at.invariant.kept.same_length, c.requires.rows_end_in_bounds)) c.row_word.ensures (sym c.is_some.ensures ∙ c.if-is_some.false) _ (one_less _ _)

pub returns : goal.returns
returns c = record {
  formals_judged_at = c.loop-at.invariant.whole _ _ (formals_none _ _ _ _ _ (none_left _ _ c.loop-at-test.false) c.loop-at.invariant.linked);
  writes_rows_from = c.loop-at.invariant.kept;
}
