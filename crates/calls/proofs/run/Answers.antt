-- run: the work words, the budget, then the image and the steps, and the work words cleared.
use Rattle.calls.proofs.OrderLaws.{work_refused, budget_refused, performed}
use Rattle.calls.proofs.run.Goals as goal

pub returns-in-Err : goal.returns-in-Err
returns-in-Err c = work_refused _ c.args.registers.now _ _ (λ i h. (c.type_inv.registers i).fits) _ c.in-Err.ensures _ c.unstarted.ensures

pub returns-then-budget-gt-MOST_BUDGET : goal.returns-then-budget-gt-MOST_BUDGET
returns-then-budget-gt-MOST_BUDGET c =
    budget_refused _ c.args.registers.now _ _ (λ i h. (c.type_inv.registers i).fits) c.in_default.ensures c.if-budget-gt-MOST_BUDGET.true _ c.nowhere.ensures _ c.unstarted-then-budget-gt-MOST_BUDGET.ensures

pub returns : goal.returns
returns c =
    performed _ c.args.registers.now _ _ (λ i h. (c.slice_known-1.given i).fits) c.in_default.ensures c.if-budget-gt-MOST_BUDGET.false _ _ _ _ c.run_image-answer.ensures c.clear.ensures
