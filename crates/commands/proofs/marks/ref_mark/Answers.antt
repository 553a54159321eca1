-- ref_mark: one cell more, or no room for it.
use Rattle.commands.proofs.declaration_laws.RefLaws.{value_there, ref_withheld, ref_made}
use Rattle.commands.proofs.marks.ref_mark.Goals as goal

pub returns-then-cell-eq-MOST_CELLS : goal.returns-then-cell-eq-MOST_CELLS
returns-then-cell-eq-MOST_CELLS c = ref_withheld _ _ _ c.if-cell-eq-MOST_CELLS.true

pub overflow_sub-m : goal.overflow_sub-m
overflow_sub-m c = value_there c.requires

pub returns : goal.returns
returns c =
    ref_made _ _ _ _ _ _ _ c.requires.ready.fits c.if-cell-eq-MOST_CELLS.false (value_there c.requires)
    (record { machine_is = c.put_cell-made.ensures.value; regions_are = c.put_cell-made.ensures.m_after })
    c.put_value.ensures.value c.put_value.ensures.m_after
