-- For want of which room a step is withheld: the bindings, control or the value stack, the first that holds in the order of the reasons.
-- The order stands in the rules.
use Rattle.std.specs.Prelude.{ℕ, Bool, false, ltb, Option, Some, None}
use Rattle.std.proofs.Math.Option.{Option as Found, none, some}
use Rattle.rules.specs.declared.refusals.Reason.{Reason}
use Rattle.rules.specs.declared.refusals.Reason.TheVariants.{Steps, ZeroDivisor, OutOfRange, Cells, Bindings, ValueEntries, ControlEntries}
use Rattle.rules.specs.paper.Limits.{most_bindings, most_value_entries, most_control_entries}
use Rattle.rules.specs.paper.Run.{priority, first_holding}

-- Whether so many live bindings, and so many entries on the stacks, are more than the limit.
abbrev pub over_limit : (bindings values control : ℕ) → Reason → Bool
over_limit bindings values control Steps = false
over_limit bindings values control ZeroDivisor = false
over_limit bindings values control OutOfRange = false
over_limit bindings values control Cells = false
over_limit bindings values control Bindings = ltb most_bindings bindings
over_limit bindings values control ValueEntries = ltb most_value_entries values
over_limit bindings values control ControlEntries = ltb most_control_entries control

-- What the rules find, as the code answers it.
abbrev pub answered : {A : Type 0} → Found A → Option A
answered none = None
answered (some x) = Some x

-- The reason, for a step that leaves so many of each, if there is no room for them.
unfoldable pub reason_of_room : (bindings values control : ℕ) → Option Reason
reason_of_room bindings values control = answered (first_holding (over_limit bindings values control) priority)
