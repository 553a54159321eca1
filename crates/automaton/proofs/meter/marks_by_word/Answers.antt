-- marks_by_word: the sizes that the item can raise, by the tests of its word.
use mathlib.Core.Path.{◌∙◌}
use Rattle.automaton.proofs.run_laws.MeterLaws.{node_marks, low_marks, other_marks}
use Rattle.automaton.proofs.meter.marks_by_word.Goals as goal

pub returns-then-word-lt-MARK : goal.returns-then-word-lt-MARK
returns-then-word-lt-MARK c = c.stacks_raised.ensures ∙ node_marks _ _ _ _ c.in-Ok.is c.if-word-lt-MARK.true

pub returns-then-word-lt-FIRST_THAT_RAISES : goal.returns-then-word-lt-FIRST_THAT_RAISES
returns-then-word-lt-FIRST_THAT_RAISES c = low_marks _ _ _ _ c.in-Ok.is c.if-word-lt-MARK.false c.if-word-lt-FIRST_THAT_RAISES.true

pub returns-else-word-lt-FIRST_THAT_RAISES : goal.returns-else-word-lt-FIRST_THAT_RAISES
returns-else-word-lt-FIRST_THAT_RAISES c = c.all_raised.ensures ∙ other_marks _ _ _ _ c.in-Ok.is c.if-word-lt-MARK.false c.if-word-lt-FIRST_THAT_RAISES.false
