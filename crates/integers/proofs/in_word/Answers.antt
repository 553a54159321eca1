-- `in_word` answers what the rules say of an integer, be it of their range or not.
use Rattle.integers.proofs.CastLaws.{is_kept, is_out}
use Rattle.integers.proofs.in_word.Goals as goal

pub returns-in-Some : goal.returns-in-Some
returns-in-Some c = λ z there. is_kept _ z there _ _ c.in-Some.is c.cast_unsigned.ensures

pub returns-in-None : goal.returns-in-None
returns-in-None c = λ z there. is_out _ z there c.in-None.is
