-- bind_formals: a row for each Formal.
use native.Mathlib.Omega.{arith}
use Rattle.frames.proofs.call_laws.FormalsLoopLaws.{around_first, around_numbers, around_again}
use Rattle.frames.proofs.calls.bind_formals.Goals as goal

pub loop-formal-init : goal.loop-formal-init
loop-formal-init c = around_first _ _ _ _ c.requires.can_bind c.requires.fits

pub row_label-row-requires : goal.row_label-row-requires
row_label-row-requires c =
    let k = around_numbers _ _ _ _ c.requires.can_bind _ _ _ c.loop-formal.invariant c.loop-formal-test.true in record {
      name_low = omega arith;
      label_low = k.label_low;
      pointer_low = omega (arith, k.environment_low, c.loop-formal.invariant.fits.few_bindings);
    }

pub overflow_sub-m : goal.overflow_sub-m
overflow_sub-m c = (around_numbers _ _ _ _ c.requires.can_bind _ _ _ c.loop-formal.invariant c.loop-formal-test.true).some_values

pub loop-formal-preserved : goal.loop-formal-preserved
loop-formal-preserved c =
    around_again _ _ _ _ c.requires.can_bind _ _ _ c.loop-formal.invariant c.loop-formal-test.true c.requires.first_bound _ _ _ _ c.put_row-m.ensures.value c.operand-name.ensures c.row_label-row.ensures c.put_row-m.ensures.m_after
