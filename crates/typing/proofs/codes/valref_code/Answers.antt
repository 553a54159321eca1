-- ValRef's code by the number of the name's meaning.
use Rattle.typing.proofs.laws.codes.CodeLaws.{valref_function}
use mathlib.Core.Path.{ap, ◌∙◌}
use Rattle.std.specs.Prelude.{Err}
use Rattle.typing.proofs.codes.valref_code.Goals as goal

pub returns : goal.returns
returns c = λ m n. ap Err c.mistyped-2.ensures ∙ valref_function _ _ c.if-number-lt-CODES.false m n
