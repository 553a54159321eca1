-- id: the name's row has a plain value, or the location of the cell that is read.
use mathlib.Core.Path.{refl}
use Rattle.expressions.specs.Named.{by_id}
use Rattle.expressions.proofs.expression_laws.NameLaws.{id_cell_low, id_plain_steps, id_cell_steps}
use Rattle.expressions.proofs.nodes.id.Goals as goal

pub row_named-row-requires : goal.row_named-row-requires
row_named-row-requires c = (c.requires.0, _, by_id, c.requires.1)

pub returns-then-work-row-eq0 : goal.returns-then-work-row-eq0
returns-then-work-row-eq0 c = id_plain_steps _ _ _ _ refl _ c.row_named-row.ensures.found _ _ c.if-work-row-eq0.true c.push.ensures

pub cell_label-label-requires-clause-at_lt_most_cells : goal.cell_label-label-requires-clause-at_lt_most_cells
cell_label-label-requires-clause-at_lt_most_cells c = id_cell_low _ _ _ _ refl _ c.row_named-row.ensures.found _ c.requires.1 c.if-work-row-eq0.false

pub cell_payload-payload-requires-clause-at_lt_most_cells : goal.cell_payload-payload-requires-clause-at_lt_most_cells
cell_payload-payload-requires-clause-at_lt_most_cells c =
    id_cell_low _ _ _ _ refl _ c.row_named-row.ensures.found _ c.requires.1 c.if-work-row-eq0.false

pub returns : goal.returns
returns c =
    id_cell_steps _ _ _ _ refl _ c.row_named-row.ensures.found _ _ _ _ c.if-work-row-eq0.false c.cell_label-label.ensures c.cell_payload-payload.ensures c.push-2.ensures
