-- An Assign: its name's row tells the cell.
use Rattle.carrying.proofs.FrameLaws.{set_keeps}
use Rattle.ranges.proofs.AssignLaws.{row_found, row_there, cell_low, assign_carried}
use Rattle.ranges.proofs.commands.assign.Goals as goal

pub row_value-at-requires-clause-le_at : goal.row_value-at-requires-clause-le_at
row_value-at-requires-clause-le_at c =
    let row = row_there _ _ _ _ _ _ c.operand-name.ensures c.in-Some.ensures.found_at c.requires.some_assign in row.0

pub set_cell-requires-clause-at_lt_most_cells : goal.set_cell-requires-clause-at_lt_most_cells
set_cell-requires-clause-at_lt_most_cells c =
    cell_low _ _ _ _ _ _ c.operand-name.ensures c.in-Some.ensures.found_at _ c.row_value-at.ensures c.requires.some_assign

pub returns-clause-assign_carried : goal.returns-clause-assign_carried
returns-clause-assign_carried c =
    let small = cell_low _ _ _ _ _ _ c.operand-name.ensures c.in-Some.ensures.found_at _ c.row_value-at.ensures c.requires.some_assign in assign_carried _ _ _ _ _ _ c.operand-name.ensures c.in-Some.ensures.found_at _ c.row_value-at.ensures _ c.set_cell.ensures

pub returns-clause-keeps : goal.returns-clause-keeps
returns-clause-keeps c =
    let small = cell_low _ _ _ _ _ _ c.operand-name.ensures c.in-Some.ensures.found_at _ c.row_value-at.ensures c.requires.some_assign in set_keeps small c.set_cell.ensures

pub unreachable-requires : goal.unreachable-requires
unreachable-requires c = row_found _ _ _ _ _ c.operand-name.ensures c.in_default.ensures.found_at c.requires.some_assign
