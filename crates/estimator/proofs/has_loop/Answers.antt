-- Some node is a Loop, or none is.
use Prim.Native.Nat.{ℕ}
use Rattle.std.specs.declared.ops.Range.{Range}
use Rattle.std.proofs.iter.Yields.{nat_range_steps}
use Rattle.std.proofs.lemmas.Iterator.{cases_from_any, YieldsList-from_range}
use Rattle.std.proofs.Common.{refl, rules, tests, arith}
use Rattle.estimator.proofs.RootLaws.{IsLoop, IsOther, found_among}
use Rattle.estimator.proofs.has_loop.Goals as goal

pub returns : goal.returns
returns c =
    found_among c.args.work.now c.args.nodes c.any.result
    (cases_from_any {S = Range ℕ} {A = ℕ} {B = ℕ} {steps = nat_range_steps} _ _ _ (IsLoop c.args.work.now) (IsOther c.args.work.now) c.any.ensures.ran (YieldsList-from_range 0 c.args.nodes c.args.nodes refl (omega arith)) (λ x q k. search (rules, tests)) (λ x q k. search (rules, tests)))
