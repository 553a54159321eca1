-- same_number: the words are equal where their integers are.
use Rattle.std.proofs.Common.{rules, Fits, w64, sym, ◌∙◌, eq-eqb, ne_eqb}
use Rattle.integers.specs.WordLaws.{equal_words}
use Rattle.intervals.proofs.ends.same_number.Goals as goal

pub returns-then-first-second : goal.returns-then-first-second
returns-then-first-second c =
    let low : Fits w64 c.args.first.low = search rules in
    let high : Fits w64 c.args.first.high = search rules in
    let bottom : Fits w64 c.args.second.low = search rules in
    let top : Fits w64 c.args.second.high = search rules in
    rw (sym (equal_words c.args.first.low c.args.second.high low.fits top.fits) ∙ eq-eqb c.args.first.low c.args.second.high c.if-first-second.true)
    (equal_words c.args.first.high c.args.second.low high.fits bottom.fits)

pub returns-else-first-second : goal.returns-else-first-second
returns-else-first-second c =
    let low : Fits w64 c.args.first.low = search rules in
    let top : Fits w64 c.args.second.high = search rules in
    let apart = ne_eqb c.args.first.low c.args.second.high c.if-first-second.false in
    rw (sym (equal_words c.args.first.low c.args.second.high low.fits top.fits) ∙ apart) apart
