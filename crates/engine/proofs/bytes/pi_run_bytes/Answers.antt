-- The work words and the budget first; then the image's words are unpacked and handed on.
use Rattle.engine.proofs.BytesRun.{work_refused, budget_refused}
use Rattle.engine.proofs.bytes.pi_run_bytes.Goals as goal

pub returns-then-work-lt-WORK_WORDS : goal.returns-then-work-lt-WORK_WORDS
returns-then-work-lt-WORK_WORDS c =
    work_refused _ c.args.registers.now _ _ c.if-work-lt-WORK_WORDS.true (λ i h. (c.slice_known-1.given i).fits) _ c.at_once.ensures

pub returns-then-budget-gt-MOST_BUDGET : goal.returns-then-budget-gt-MOST_BUDGET
returns-then-budget-gt-MOST_BUDGET c =
    budget_refused _ c.args.registers.now _ _ c.if-work-lt-WORK_WORDS.false c.if-budget-gt-MOST_BUDGET.true (λ i h. (c.slice_known-1.given i).fits) _ c.at_once-then-budget-gt-MOST_BUDGET.ensures
