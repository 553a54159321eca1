-- reference: the contents, the mark.
use native.Mathlib.Omega.{arith}
use Rattle.commands.proofs.declaration_laws.DeclarationLaws.{reference_low, reference_steps}
use Rattle.commands.proofs.declarations.reference.Goals as goal

pub overflow_add-node : goal.overflow_add-node
overflow_add-node c = record { fits = omega (arith, reference_low _ _ _ _ _ c.requires.2) }

pub returns : goal.returns
returns c = reference_steps _ _ _ _ _ c.put_items.ensures
