-- declaration_sequence: both declarations, each with a mark behind it.
use native.Mathlib.Omega.{arith}
use Rattle.commands.proofs.declaration_laws.DeclarationLaws.{declaration_low, declaration_sequence_low, declaration_sequence_steps}
use Rattle.commands.proofs.declarations.declaration_sequence.Goals as goal

pub overflow_add-node : goal.overflow_add-node
overflow_add-node c = record { fits = omega (arith, declaration_low _ _ _ _ c.requires.2) }

pub end-second-requires : goal.end-second-requires
end-second-requires c = omega (arith, declaration_sequence_low _ _ _ _ _ c.requires.2, c.requires.2.ready.fits.room)

pub overflow_add-node-2 : goal.overflow_add-node-2
overflow_add-node-2 c = record { fits = omega (arith, declaration_low _ _ _ _ c.requires.2) }

pub returns : goal.returns
returns c = declaration_sequence_steps _ _ _ _ _ _ c.end-second.ensures c.put_items.ensures
