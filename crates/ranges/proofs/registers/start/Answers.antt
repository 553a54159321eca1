-- The registers' names and cells one after the other.
use mathlib.Core.Path.{◌≡◌}
use Rattle.ranges.proofs.RegisterLaws.{none_put, one_more_put}
use Rattle.ranges.proofs.registers.start.Goals as goal

pub loop-i-init : goal.loop-i-init
loop-i-init c =
    let count : c.into_iter-i-iterator.result.count ≡ 0 = cc in
    let lows : c.into_iter-i-iterator.result.iter.a.rest.now ≡ c.args.lowest.now = cc in
    let highs : c.into_iter-i-iterator.result.iter.b.rest.now ≡ c.args.highest.now = cc in
    rw (count, lows, highs) (none_put _ _ _)

pub loop-i-preserved : goal.loop-i-preserved
loop-i-preserved c =
    let steps = c.in-Some.ensures.steps in
    one_more_put steps.0.0 steps.0.1 steps.1 steps.2 c.loop-i.invariant c.put_register.ensures.register_put c.put_register.ensures.keeps
