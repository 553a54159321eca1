-- assign_mark: the cell of the name is set.
use native.Mathlib.Omega.{arith}
use Rattle.commands.proofs.command_laws.AssignLaws.{two_there, name_bound, row_low, cell_low, assign_made}
use Rattle.commands.proofs.marks.assign_mark.Goals as goal

pub row_of-row-requires-clause-binds_name : goal.row_of-row-requires-clause-binds_name
row_of-row-requires-clause-binds_name c = name_bound _ _ c.requires

pub overflow_add-bound : goal.overflow_add-bound
overflow_add-bound c = record { fits = omega (arith, row_low _ _ c.requires c.row_of-row.ensures) }

pub offset_bounds-work-row : goal.offset_bounds-work-row
offset_bounds-work-row c = record { fits = omega (arith, row_low _ _ c.requires c.row_of-row.ensures) }

pub bounds-work-row : goal.bounds-work-row
bounds-work-row c = omega (arith, row_low _ _ c.requires c.row_of-row.ensures, c.requires.ready.fits.room)

pub overflow_sub-m : goal.overflow_sub-m
overflow_sub-m c = two_there _ _ c.requires

pub set_cell-requires-clause-at_lt_cells : goal.set_cell-requires-clause-at_lt_cells
set_cell-requires-clause-at_lt_cells c = cell_low _ _ c.requires c.row_of-row.ensures

pub returns : goal.returns
returns c =
    assign_made _ _ _ _ _ c.requires.ready.fits c.row_of-row.ensures c.set_cell.ensures
