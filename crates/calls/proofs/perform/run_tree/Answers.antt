-- The outcome of the run by its root, with the steps and the marks.
use lib.ListN.{length}
use Rattle.rules.specs.paper.Engine.{start}
use Rattle.integers.specs.Words.{integers_of}
use Rattle.calls.proofs.ExecuteLaws.{ends_well}
use Rattle.calls.proofs.PerformLaws.{run_answered, run_performed}
use Rattle.calls.proofs.perform.run_tree.Goals as goal

pub outcome-requires : goal.outcome-requires
outcome-requires c =
    let (image, t, passes, stands) = c.requires.tree_stands_as in (
      _,
      run_answered c.args.budget (start (length c.args.registers.now) t (integers_of c.args.registers.now)) (length c.args.registers.now) _ _ _ _ c.args.root _
          (ends_well image c.args.registers.now t c.args.root passes (λ i h. (c.slice_known-1.given i).fits) c.args.budget) _ (c.execute-ending.ensures image t c.args.root passes stands),
    )

pub returns : goal.returns
returns c image t passes stands =
    let executed = c.execute-ending.ensures image t c.args.root passes stands in
    run_performed c.args.budget (start (length c.args.registers.now) t (integers_of c.args.registers.now)) (length c.args.registers.now) _ _ _ _ _ _ executed _
    (c.outcome.ensures _ (run_answered c.args.budget (start (length c.args.registers.now) t (integers_of c.args.registers.now)) (length c.args.registers.now) _ _ _ _ c.args.root _
    (ends_well image c.args.registers.now t c.args.root passes (λ i h. (c.slice_known-1.given i).fits) c.args.budget) _ executed))
