-- The Formals are named one after the other.
use Rattle.carrying.proofs.ActualLaws.{none_named, one_more_named, all_named}
use Rattle.carrying.proofs.functions.formals.Goals as goal

pub loop-at-init : goal.loop-at-init
loop-at-init c = none_named _ _ _ _ _ c.requires.some_formals

pub loop-at-preserved : goal.loop-at-preserved
loop-at-preserved c = one_more_named _ _ _ _ _ _ _ _ c.loop-at-test.true c.loop-at.invariant _ c.row_value-value.ensures _ c.operand-word.ensures _ c.put_row.ensures

pub returns-clause-formals_named : goal.returns-clause-formals_named
returns-clause-formals_named c = all_named _ _ _ _ _ _ _ _ c.loop-at-test.false c.loop-at.invariant
