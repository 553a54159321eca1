-- A name's meaning: the newest row, else a register.
use native.Mathlib.Omega.{arith}
use Rattle.typing.proofs.laws.scope.RowLaws.{lookup_register, lookup_nothing, lookup_row, found_low}
use Rattle.typing.proofs.scope.lookup.Goals as goal

pub overflow_add-row : goal.overflow_add-row
overflow_add-row c = record { fits = omega (arith, found_low _ _ _ _ _ c.find_row.ensures _ c.in-Some.is c.requires.scope_at) }

pub offset_bounds-work-pointer : goal.offset_bounds-work-pointer
offset_bounds-work-pointer c = record { fits = omega (arith, found_low _ _ _ _ _ c.find_row.ensures _ c.in-Some.is c.requires.scope_at) }

pub bounds-work-pointer : goal.bounds-work-pointer
bounds-work-pointer c = omega (arith, found_low _ _ _ _ _ c.find_row.ensures _ c.in-Some.is c.requires.scope_at, c.requires.rows_end_in_bounds)

pub returns-in-Some : goal.returns-in-Some
returns-in-Some c = lookup_row _ _ _ _ _ c.find_row.ensures _ c.in-Some.is

pub returns-then-name-registers : goal.returns-then-name-registers
returns-then-name-registers c = lookup_register _ _ _ _ _ c.find_row.ensures c.in_default.is c.if-name-registers.true

pub returns : goal.returns
returns c = lookup_nothing _ _ _ _ _ c.find_row.ensures c.in_default.is c.if-name-registers.false
