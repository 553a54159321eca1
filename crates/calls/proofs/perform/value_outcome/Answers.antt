-- The value that is left, by the root's code.
use Rattle.std.proofs.Common.{rules, arith}
use Rattle.calls.proofs.PerformLaws.{number_left, truth_left, location_left}
use Rattle.calls.proofs.perform.value_outcome.Goals as goal

pub returns-in-0 : goal.returns-in-0
returns-in-0 c v l = number_left v _ _ l.kind_is c.in-0.is (c.value_left-word.ensures _ _ _ _ _ _ v l.stands)

pub returns-in-1 : goal.returns-in-1
returns-in-1 c v l = truth_left v _ _ _ l.kind_is c.in-1.is (c.value_left-word.ensures _ _ _ _ _ _ v l.stands) (search rules)

pub returns-in_default : goal.returns-in_default
returns-in_default c v l = location_left v _ _ l.kind_is (λ z. omega (arith, z)) (λ z. omega (arith, z)) (c.value_left-word.ensures _ _ _ _ _ _ v l.stands)
