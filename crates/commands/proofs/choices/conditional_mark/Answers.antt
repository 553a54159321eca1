-- conditional_mark: the first command, or the second.
use mathlib.Core.Path.{◌∙◌}
use native.Mathlib.Omega.{arith}
use Rattle.commands.proofs.command_laws.ConditionalLaws.{two_there, node_low, first_low, command_put, takes_first, takes_second}
use Rattle.commands.proofs.choices.conditional_mark.Goals.{then-truth-ne0, else-truth-ne0}
use Rattle.commands.proofs.choices.conditional_mark.Goals as goal

pub overflow_sub-m : goal.overflow_sub-m
overflow_sub-m c = omega (arith, two_there _ _ c.requires)

pub overflow_add-node-2 : goal.overflow_add-node-2
overflow_add-node-2 c = record { fits = omega (arith, node_low _ _ c.requires) }

pub end-first-requires : goal.end-first-requires
end-first-requires c = omega (arith, node_low _ _ c.requires, c.requires.ready.fits.room)

pub end-taken-requires : goal.end-taken-requires
end-taken-requires c = omega (arith, first_low _ _ c.requires _ c.end-first.ensures, c.requires.ready.fits.room)

pub returns : goal.returns
returns c =
    let puts = command_put _ _ c.requires.ready.fits c.requires.ready.room _ _ _ c.put_control.ensures.value c.put_control.ensures.m_after in
    elim c.if-truth-ne0.branch [
      | then-truth-ne0 w ↦ takes_first _ _ _ _ _ _ w.if-truth-ne0.true (w.taken-is ∙ c.end-first.ensures) puts
      | else-truth-ne0 w ↦ takes_second _ _ _ _ _ _ _ w.if-truth-ne0.false c.end-first.ensures (w.taken-is ∙ w.end-taken.ensures) puts
    ]
