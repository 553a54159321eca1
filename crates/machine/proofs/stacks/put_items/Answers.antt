-- put_items: some entries more on control, or the reason of control.
use Rattle.std.proofs.Common.{arith, reverse}
use Rattle.std.proofs.lemmas.List.{length-reverse}
use Rattle.machine.proofs.stack_laws.SharedLaws.{puts_withheld, puts_made}
use Rattle.machine.proofs.stacks.put_items.Goals as goal

pub returns-then-m : goal.returns-then-m
returns-then-m g c =
    puts_withheld _ _ c.requires (reverse c.args.items) (omega (arith, length-reverse c.args.items))

pub returns : goal.returns
returns g c =
    puts_made _ _ c.requires (reverse c.args.items) _ _ c.put_all.ensures.fits c.put_all.ensures.m_after
