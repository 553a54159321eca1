-- close: the closure of the function and the environment.
use native.Mathlib.Omega.{arith}
use Rattle.commands.proofs.declaration_laws.DeclarationLaws.{abstraction_low, environment_low, abstraction_steps}
use Rattle.commands.proofs.declarations.close.Goals as goal

pub overflow_mul-m : goal.overflow_mul-m
overflow_mul-m c = record { fits = omega (arith, environment_low _ _ _ _ _ _ c.requires.3) }

pub overflow_add-node : goal.overflow_add-node
overflow_add-node c = record { fits = omega (arith, environment_low _ _ _ _ _ _ c.requires.3, abstraction_low _ _ _ _ _ _ c.requires.3) }

pub returns : goal.returns
returns c = abstraction_steps _ _ _ _ _ c.push.ensures
