-- The meter in the code's words: the high marks of a run, and what a step makes of them.
use Rattle.std.specs.Prelude.{ℕ, ◌%◌, ◌≤◌, max, ◌≡◌, cond, List, ltb, Result, Ok, Err}
use Rattle.rules.specs.declared.refusals.Reason.{Reason}
use Rattle.rules.specs.paper.States.{loop_mark}
use Rattle.machine.specs.Layout.{mark_base, mark_numbers, mark_number}
use Rattle.machine.specs.declared.Machine.{Machine}
use Rattle.automaton.specs.Runs.{StepsFrom}
use Rattle.automaton.specs.declared.meter.HighMarks.{HighMarks}
use Rattle.automaton.specs.declared.meter.Metered.{Metered}

abbrev pub first_marks : Machine → HighMarks
first_marks m = record { cells = m.cells; bindings = m.bindings; values = m.values; control = m.control }

-- ---- The marks after a step.

abbrev pub stacks_raised : HighMarks → Machine → HighMarks
stacks_raised h m = record { cells = h.cells; bindings = h.bindings; values = max h.values m.values; control = max h.control m.control }

abbrev pub all_raised : HighMarks → Machine → HighMarks
all_raised h m = record { cells = max h.cells m.cells; bindings = max h.bindings m.bindings; values = max h.values m.values; control = max h.control m.control }

-- By the state that the step leaves; a withheld step leaves none.
abbrev pub after_step : HighMarks → Result Machine Reason → HighMarks
after_step h (Ok m) = all_raised h m
after_step h (Err x) = h

-- The marks with lower numbers, of the operators, of Not and of Assign, raise nothing.
abbrev pub first_that_raises : ℕ
first_that_raises = mark_number loop_mark

-- The same by the word of the item that was on top of control, with the sizes alone that such an item can raise: a node raises the stacks alone.
abbrev pub marks_by_word : HighMarks → (word : ℕ) → Result Machine Reason → HighMarks
marks_by_word h w (Ok m) = cond (ltb w mark_base) (stacks_raised h m) (cond (ltb (w % mark_numbers) first_that_raises) h (all_raised h m))
marks_by_word h w (Err x) = h

-- No size of the machine's state is above its mark.
pub record Covers (h : HighMarks) (m : Machine) : Type 0 where
  pub cells_below : m.cells ≤ h.cells
  pub bindings_below : m.bindings ≤ h.bindings
  pub values_below : m.values ≤ h.values
  pub control_below : m.control ≤ h.control

-- The step of whatever state the machine holds, and the marks after it.
pub record MeteredStep (before : List ℕ) (m : Machine) (h : HighMarks) (r : Metered) (after : List ℕ) : Type 0 where
  pub steps : StepsFrom before m r.stepped after
  pub marks_are : r.marks ≡ after_step h r.stepped
