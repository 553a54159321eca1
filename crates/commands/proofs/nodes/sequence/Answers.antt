-- sequence: both commands.
use native.Mathlib.Omega.{arith}
use Rattle.commands.proofs.command_laws.CommandLaws.{command_low, sequence_low, sequence_steps}
use Rattle.commands.proofs.nodes.sequence.Goals as goal

pub overflow_add-node : goal.overflow_add-node
overflow_add-node c = record { fits = omega (arith, command_low _ _ _ _ c.requires.2) }

pub end-second-requires : goal.end-second-requires
end-second-requires c = omega (arith, sequence_low _ _ _ _ _ c.requires.2, c.requires.2.ready.fits.room)

pub overflow_add-node-2 : goal.overflow_add-node-2
overflow_add-node-2 c = record { fits = omega (arith, command_low _ _ _ _ c.requires.2) }

pub returns : goal.returns
returns c = sequence_steps _ _ _ _ _ _ c.end-second.ensures c.put_items.ensures
