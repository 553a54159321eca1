-- bind: the name, what it is bound to, the mark.
use native.Mathlib.Omega.{arith}
use Rattle.commands.proofs.declaration_laws.DeclarationLaws.{declaration_low, bind_steps}
use Rattle.commands.proofs.declarations.bind.Goals as goal

pub operand-name-requires : goal.operand-name-requires
operand-name-requires c = omega (arith, declaration_low _ _ _ _ c.requires.2, c.requires.2.ready.fits.room)

pub overflow_add-node : goal.overflow_add-node
overflow_add-node c = record { fits = omega (arith, declaration_low _ _ _ _ c.requires.2) }

pub returns : goal.returns
returns c = bind_steps _ _ _ _ _ _ c.operand-name.ensures c.enter.ensures
