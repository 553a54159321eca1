-- bind_mark: a row more, or no room for it.
use native.Mathlib.Omega.{arith}
use Rattle.frames.proofs.frame_laws.BindMarkLaws.{bind_numbers, bind_withheld, bind_made}
use Rattle.frames.proofs.declarations.bind_mark.Goals as goal

pub returns-then-m-eq-MOST_BINDINGS : goal.returns-then-m-eq-MOST_BINDINGS
returns-then-m-eq-MOST_BINDINGS c = bind_withheld _ _ _ c.if-m-eq-MOST_BINDINGS.true

pub row_label-row-requires : goal.row_label-row-requires
row_label-row-requires c = let k = bind_numbers _ _ _ c.requires.ready in record {
  name_low = k.name_low;
  label_low = k.label_low;
  pointer_low = k.environment_few;
}

pub overflow_sub-next : goal.overflow_sub-next
overflow_sub-next c = let k = bind_numbers _ _ _ c.requires.ready in omega (arith, k.two_values)

pub returns : goal.returns
returns c =
    bind_made _ _ _ _ _ _ (omega (arith, c.requires.ready.fits.few_bindings, c.if-m-eq-MOST_BINDINGS.false))
    c.row_label-row.ensures c.put_row-next.ensures.value c.put_row-next.ensures.m_after
