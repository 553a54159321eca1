-- assign: the name, the value, the mark.
use native.Mathlib.Omega.{arith}
use Rattle.commands.proofs.command_laws.CommandLaws.{command_low, assign_steps}
use Rattle.commands.proofs.nodes.assign.Goals as goal

pub operand-name-requires : goal.operand-name-requires
operand-name-requires c = omega (arith, command_low _ _ _ _ c.requires.2, c.requires.2.ready.fits.room)

pub overflow_add-node : goal.overflow_add-node
overflow_add-node c = record { fits = omega (arith, command_low _ _ _ _ c.requires.2) }

pub returns : goal.returns
returns c = assign_steps _ _ _ _ _ _ c.operand-name.ensures c.enter.ensures
