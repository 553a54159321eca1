-- reason_of_room: the tests in the order of the reasons.
use native.Mathlib.Omega.{arith}
use Rattle.machine.proofs.state_laws.JudgeLaws.{over_bindings, over_control, over_values, within_limits}
use Rattle.machine.proofs.stacks.reason_of_room.Goals as goal

pub returns-then-bindings-gt-MOST_BINDINGS : goal.returns-then-bindings-gt-MOST_BINDINGS
returns-then-bindings-gt-MOST_BINDINGS c = over_bindings _ _ _ c.if-bindings-gt-MOST_BINDINGS.true

pub returns-then-control-gt-MOST_CONTROL_ENTRIES : goal.returns-then-control-gt-MOST_CONTROL_ENTRIES
returns-then-control-gt-MOST_CONTROL_ENTRIES c = over_control _ _ _ (omega arith) c.if-control-gt-MOST_CONTROL_ENTRIES.true

pub returns-then-values-gt-MOST_VALUE_ENTRIES : goal.returns-then-values-gt-MOST_VALUE_ENTRIES
returns-then-values-gt-MOST_VALUE_ENTRIES c = over_values _ _ _ (omega arith) (omega arith) c.if-values-gt-MOST_VALUE_ENTRIES.true

pub returns : goal.returns
returns c = within_limits _ _ _ (omega arith) (omega arith) (omega arith)
