-- conditional: the Cond itself, the test, the mark.
use native.Mathlib.Omega.{arith}
use Rattle.commands.proofs.command_laws.CommandLaws.{command_low, conditional_steps}
use Rattle.commands.proofs.choices.conditional.Goals as goal

pub overflow_add-node : goal.overflow_add-node
overflow_add-node c = record { fits = omega (arith, command_low _ _ _ _ c.requires.3) }

pub returns : goal.returns
returns c = conditional_steps _ _ _ _ _ c.enter.ensures
