-- with_both: the lower and the higher of the two results, or none where one is missing.
use Rattle.std.proofs.Common.{◌∙◌}
use Rattle.rules.specs.paper.Integers.{compute}
use Rattle.integers.specs.Words.{integer_of}
use Rattle.integers.specs.WordLaws.{computed_number}
use Rattle.intervals.proofs.SpanLaws.{first_missing, second_missing, word_found, two_numbers}
use Rattle.intervals.proofs.ends.with_both.Goals as goal

pub returns-in_err-sooner : goal.returns-in_err-sooner
returns-in_err-sooner c =
    c.from_residual.ensures ∙ first_missing _ (compute c.args.operator (integer_of c.args.end) (integer_of c.args.second.high)) _ c.compute.ensures c.in_err-sooner.ensures.value

pub returns-in_err-later : goal.returns-in_err-later
returns-in_err-later c =
    c.from_residual-in_err-later.ensures ∙ second_missing (compute c.args.operator (integer_of c.args.end) (integer_of c.args.second.low)) _ _ c.compute-2.ensures c.in_err-later.ensures.value

pub returns : goal.returns
returns c =
    two_numbers _ _ _ _ _ _
    (computed_number c.args.operator _ _ _ (word_found _ _ _ c.compute.ensures c.in_ok-sooner.ensures.value))
    (computed_number c.args.operator _ _ _ (word_found _ _ _ c.compute-2.ensures c.in_ok-later.ensures.value))
    c.lower.ensures
    c.higher.ensures
