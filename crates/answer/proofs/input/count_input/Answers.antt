-- count_input: the tests in their order.
use mathlib.Core.Path.{sym, ◌∙◌}
use Rattle.answer.proofs.InputLaws.{too_short, missized, miscounted, counted}
use Rattle.answer.proofs.input.count_input.Goals as goal

pub returns-then-input-lt8 : goal.returns-then-input-lt8
returns-then-input-lt8 c = too_short c.args.input.now c.if-input-lt8.true

pub returns-then-not-size_fits : goal.returns-then-not-size_fits
returns-then-not-size_fits c =
    missized _ _ _ c.word_at-nodes.ensures c.word_at-registers.ensures c.if-input-lt8.false
    (sym c.size_fits.ensures ∙ c.if-not-size_fits.true)

pub returns-then-input-nodes : goal.returns-then-input-nodes
returns-then-input-nodes c =
    miscounted _ _ _ c.word_at-nodes.ensures c.word_at-registers.ensures c.if-input-lt8.false
    (sym c.size_fits.ensures ∙ c.if-not-size_fits.false) c.if-input-nodes.true

pub returns : goal.returns
returns c =
    counted _ _ _ c.word_at-nodes.ensures c.word_at-registers.ensures c.if-input-lt8.false
    (sym c.size_fits.ensures ∙ c.if-not-size_fits.false) c.if-input-nodes.false
