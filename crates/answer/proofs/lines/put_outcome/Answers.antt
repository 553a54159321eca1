-- put_outcome: a text for each outcome.
use Rattle.std.proofs.Common.{◌≡◌, Ok, ap, ◌∙◌}
use Rattle.calls.specs.declared.Outcome.TheVariants.{Number, Truth, Location, Nothing}
use Rattle.answer.proofs.LineLaws.{number_text, truth_text, cell_text, none_text, refusal_text}
use Rattle.answer.proofs.lines.put_outcome.Goals as goal

pub returns-in-Ok-Number : goal.returns-in-Ok-Number
returns-in-Ok-Number c =
    let same : c.args.outcome ≡ Ok (Number c.in-Ok-Number.word) = c.in-Ok-Number.is ∙ ap Ok (rw c.in-Ok-Number.is at c.in-Ok-Number.field-0-is) in
    rw same (number_text _ c.put_labelled_integer.ensures)

pub returns-in-Ok-Truth : goal.returns-in-Ok-Truth
returns-in-Ok-Truth c =
    let same : c.args.outcome ≡ Ok (Truth c.in-Ok-Truth.truth) = c.in-Ok-Truth.is ∙ ap Ok (rw c.in-Ok-Truth.is at c.in-Ok-Truth.field-0-is) in
    rw same (truth_text _ c.put_labelled.ensures)

pub returns-in-Ok-Location : goal.returns-in-Ok-Location
returns-in-Ok-Location c =
    let same : c.args.outcome ≡ Ok (Location c.in-Ok-Location.cell) = c.in-Ok-Location.is ∙ ap Ok (rw c.in-Ok-Location.is at c.in-Ok-Location.field-0-is) in
    rw same (cell_text _ c.put_labelled-in-Ok-Location.ensures)

pub returns-in-Ok-Nothing : goal.returns-in-Ok-Nothing
returns-in-Ok-Nothing c =
    let same : c.args.outcome ≡ Ok Nothing = c.in-Ok-Nothing.is ∙ ap Ok (rw c.in-Ok-Nothing.is at c.in-Ok-Nothing.field-0-is) in
    rw same (none_text c.put.ensures)

pub returns-in-Err : goal.returns-in-Err
returns-in-Err c = rw c.in-Err.is (refusal_text _ c.put_refused.ensures)
