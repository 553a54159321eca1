-- valref: the name's cell has the location of the cell that is read.
use mathlib.Core.Path.{refl}
use Rattle.expressions.specs.Named.{by_valref}
use Rattle.expressions.proofs.expression_laws.NameLaws.{valref_outer_low, valref_inner_low, valref_steps}
use Rattle.expressions.proofs.nodes.valref.Goals as goal

pub row_named-row-requires : goal.row_named-row-requires
row_named-row-requires c = (c.requires.0, _, by_valref, c.requires.1)

pub cell_payload-shown-requires-clause-at_lt_most_cells : goal.cell_payload-shown-requires-clause-at_lt_most_cells
cell_payload-shown-requires-clause-at_lt_most_cells c = valref_outer_low _ _ _ _ refl _ c.row_named-row.ensures.found _ c.requires.1

pub cell_label-label-requires-clause-at_lt_most_cells : goal.cell_label-label-requires-clause-at_lt_most_cells
cell_label-label-requires-clause-at_lt_most_cells c =
    valref_inner_low _ _ _ _ refl _ c.row_named-row.ensures.found _ _ c.requires.1 c.cell_payload-shown.ensures

pub cell_payload-payload-requires-clause-at_lt_most_cells : goal.cell_payload-payload-requires-clause-at_lt_most_cells
cell_payload-payload-requires-clause-at_lt_most_cells c =
    valref_inner_low _ _ _ _ refl _ c.row_named-row.ensures.found _ _ c.requires.1 c.cell_payload-shown.ensures

pub returns : goal.returns
returns c =
    valref_steps _ _ _ _ refl _ c.row_named-row.ensures.found _ _ _ _ _ c.cell_payload-shown.ensures c.cell_label-label.ensures c.cell_payload-payload.ensures c.push.ensures
