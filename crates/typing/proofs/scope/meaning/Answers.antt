-- A name's meaning, or Unbound.
use Rattle.typing.proofs.laws.scope.MeaningLaws.{meaning_absent, meaning_present}
use Rattle.typing.proofs.scope.meaning.Goals as goal

pub returns-in_default : goal.returns-in_default
returns-in_default c = λ Γ s. meaning_absent _ _ (c.lookup.ensures Γ s) c.in_default.is

pub returns : goal.returns
returns c = λ Γ s. meaning_present _ _ _ (c.lookup.ensures Γ s) c.in-Some.is
