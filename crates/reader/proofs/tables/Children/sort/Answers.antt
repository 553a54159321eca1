-- `sort` answers the sort of a child of either run.
use native.Mathlib.Omega.{arith}
use Rattle.reader.proofs.ChildLaws.{runs_length, first_run, second_run}
use Rattle.reader.proofs.tables.Children.sort.Goals as goal

pub returns-then-index-self : goal.returns-then-index-self
returns-then-index-self c = first_run _ _ _ _ c.if-index-self.true

pub returns-else-index-self : goal.returns-else-index-self
returns-else-index-self c =
    let s = c.args.self in
    second_run _ _ _ _ _ c.if-index-self.false (omega (arith, runs_length s.firsts s.others s.first s.other))
