-- loop_mark: the command again, or what is after the Loop.
use native.Mathlib.Omega.{arith}
use Rattle.commands.proofs.command_laws.LoopLaws.{two_there, node_low, loop_ends, loop_repeats}
use Rattle.commands.proofs.marks.loop_mark.Goals as goal

pub overflow_sub-m : goal.overflow_sub-m
overflow_sub-m c = two_there _ _ c.requires

pub returns-then-truth-eq0 : goal.returns-then-truth-eq0
returns-then-truth-eq0 c = loop_ends _ _ _ c.requires.ready.fits c.if-truth-eq0.true

pub overflow_add-node-2 : goal.overflow_add-node-2
overflow_add-node-2 c = record { fits = omega (arith, node_low _ _ c.requires) }

pub end-body-requires : goal.end-body-requires
end-body-requires c = omega (arith, node_low _ _ c.requires, c.requires.ready.fits.room)

pub returns : goal.returns
returns c = loop_repeats _ _ _ _ _ _ c.if-truth-eq0.false c.end-body.ensures c.put_items.ensures
