-- The proof of `read_node`: it answers what the reader of Scan.antt reads. The measure is the levels that are left. The loop over the
-- children keeps what was read so far (SiblingLaws.antt).
use mathlib.Core.Path.{refl}
use native.Mathlib.Omega.{arith}
use Rattle.std.proofs.lemmas.Result.{err_from_is_err_and}
use Rattle.reader.proofs.PassingLaws.{kind_low}
use Rattle.reader.proofs.RowLaws.{kind_answered, refusal_answered}
use Rattle.reader.proofs.ReadLaws.{missing_node, faulty_node, deep_node, node_refused, node_next}
use Rattle.reader.proofs.SiblingLaws.{all_read, one_refused, one_read}
use Rattle.reader.proofs.+read_node.Goals as goal

pub returns-then-n-at : goal.returns-then-n-at
returns-then-n-at t c =
    missing_node c.args.image.now c.args.work.now c.args.n c.args.at c.args.sort c.args.levels c.requires.readable c.if-n-at.true

pub returns-in_err-row : goal.returns-in_err-row
returns-in_err-row t c =
    let p = err_from_is_err_and c.from_residual.result c.from_residual.ensures.1 in
    rw (p.1, p.2) (faulty_node _ _ _ _ _ _ _ c.requires.readable c.if-n-at.false (refusal_answered _ _ _ c.passing.ensures.kind c.in_err-row.was))

pub returns-then-levels-eq0 : goal.returns-then-levels-eq0
returns-then-levels-eq0 t c =
    deep_node c.args.image.now c.args.work.now c.args.n c.args.at c.args.sort c.args.levels _ c.requires.readable c.if-n-at.false (kind_answered _ _ _ c.passing.ensures.kind c.in_ok-row.was) c.if-levels-eq0.true

pub returns-in_err-end : goal.returns-in_err-end
returns-in_err-end t c =
    let p = err_from_is_err_and c.from_residual-in_err-end.result c.from_residual-in_err-end.ensures.1 in
    rw (p.1, p.2)
    (node_refused _ _ _ _ _ _ _ _ _ c.requires.readable c.if-n-at.false (kind_answered _ _ _ c.passing.ensures.kind c.in_ok-row.was) c.if-levels-eq0.false _ c.children-children.ensures.sorts
    (one_refused _ _ _ _ _ _ _ _ _ c.loop-index.invariant _ _ _ c.sort.ensures c.read_node.ensures _ c.in_err-end.was) _ refl)

pub loop-index-preserved : goal.loop-index-preserved
loop-index-preserved t c = one_read _ _ _ _ _ _ _ _ _ c.loop-index.invariant _ _ _ c.sort.ensures c.read_node.ensures _ c.in_ok-end.was

pub overflow_cast-number-2 : goal.overflow_cast-number-2
overflow_cast-number-2 t c = omega (arith, kind_low _ _ _ _ _ (kind_answered _ _ _ c.passing.ensures.kind c.in_ok-row.was))

pub returns : goal.returns
returns t c =
    rw c.node_word.ensures
    (node_next _ _ _ _ _ _ _ _ _ c.requires.readable c.if-n-at.false (kind_answered _ _ _ c.passing.ensures.kind c.in_ok-row.was) c.if-levels-eq0.false _ c.children-children.ensures.sorts (all_read _ _ _ _ _ _ _ _ _ c.loop-index.invariant (omega (arith, c.count-index-end.ensures))) _ refl)
