-- The Formals' codes, packed one after the other, then compared with those that are given: so many are left.
use Prim.Native.Nat.{◌+◌, ◌-◌}
use Rattle.checker.proofs.laws.commands.AgreementLaws.{WantedSoFar}
use Rattle.checker.proofs.commands.agreement.Given as goal

abbrev pub invariant-loop-at : goal.invariant-loop-at
invariant-loop-at l = WantedSoFar l.work l.formal l.count l.at (l.formal + l.count - l.at) l.wanted
