-- repeat: the Loop itself, the test, the mark.
use native.Mathlib.Omega.{arith}
use Rattle.commands.proofs.command_laws.CommandLaws.{command_low, loop_steps}
use Rattle.commands.proofs.nodes.repeat.Goals as goal

pub overflow_add-node : goal.overflow_add-node
overflow_add-node c = record { fits = omega (arith, command_low _ _ _ _ c.requires.2) }

pub returns : goal.returns
returns c = loop_steps _ _ _ _ _ c.enter.ensures
