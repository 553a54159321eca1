-- A number in its columns: a byte behind them, its digits from the last one on, then blanks.
use Rattle.page.proofs.NumberLaws.{DigitsFrom}
use Rattle.page.proofs.text.put_number.Given as goal

abbrev pub invariant-loop-left : goal.invariant-loop-left
invariant-loop-left l = DigitsFrom l.initial.page l.at l.columns l.number l.left l.column l.page

abbrev pub decreases-loop-left : goal.decreases-loop-left
decreases-loop-left l = l.left
