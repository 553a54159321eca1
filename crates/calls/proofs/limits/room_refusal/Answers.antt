-- The lowest of 33 to 36 whose figure passes its limit.
use Rattle.calls.proofs.RangesLaws.{cells_full, bindings_full, values_full, control_full, nothing_full}
use Rattle.calls.proofs.limits.room_refusal.Goals as goal

pub returns-then-need-gt-MOST_CELLS : goal.returns-then-need-gt-MOST_CELLS
returns-then-need-gt-MOST_CELLS c = cells_full c.args.need c.if-need-gt-MOST_CELLS.true

pub returns-then-need-gt-MOST_BINDINGS : goal.returns-then-need-gt-MOST_BINDINGS
returns-then-need-gt-MOST_BINDINGS c = bindings_full c.args.need c.if-need-gt-MOST_CELLS.false c.if-need-gt-MOST_BINDINGS.true

pub returns-then-need-gt-MOST_VALUE_ENTRIES : goal.returns-then-need-gt-MOST_VALUE_ENTRIES
returns-then-need-gt-MOST_VALUE_ENTRIES c = values_full c.args.need c.if-need-gt-MOST_CELLS.false c.if-need-gt-MOST_BINDINGS.false c.if-need-gt-MOST_VALUE_ENTRIES.true

pub returns-then-need-gt-MOST_CONTROL_ENTRIES : goal.returns-then-need-gt-MOST_CONTROL_ENTRIES
returns-then-need-gt-MOST_CONTROL_ENTRIES c = control_full c.args.need c.if-need-gt-MOST_CELLS.false c.if-need-gt-MOST_BINDINGS.false c.if-need-gt-MOST_VALUE_ENTRIES.false c.if-need-gt-MOST_CONTROL_ENTRIES.true

pub returns : goal.returns
returns c = nothing_full c.args.need c.if-need-gt-MOST_CELLS.false c.if-need-gt-MOST_BINDINGS.false c.if-need-gt-MOST_VALUE_ENTRIES.false c.if-need-gt-MOST_CONTROL_ENTRIES.false
