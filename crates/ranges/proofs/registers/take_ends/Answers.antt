-- The registers' ends one after the other.
use native.Mathlib.Omega.{arith}
use mathlib.Core.Path.{◌∙◌}
use Rattle.ranges.proofs.RegisterLaws.{all_taken}
use Rattle.ranges.proofs.registers.take_ends.Goals as goal

pub returns : goal.returns
returns c =
    all_taken _ _ _ _ _ _ c.loop-i.auto.lowest (c.loop-i-2.auto.highest ∙ c.requires.highest_len) (omega (arith, c.loop-i-test.false, c.loop-i.auto.lowest))
    (omega (arith, c.loop-i-2-test.false, c.loop-i-2.auto.highest, c.requires.highest_len)) c.loop-i.invariant c.loop-i-2.invariant
