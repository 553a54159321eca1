-- Where names and cells stand in the work words, behind the tree's nodes. The code has the same in layout.rt.
use Rattle.std.specs.Prelude.{ℕ, ◌+◌, ◌*◌, ◌-◌, ◌/◌, ◌%◌, List, get_or}
use Rattle.rules.specs.paper.Limits.{most_nodes, most_bindings, most_cells, names}
use Rattle.intervals.specs.Values.{location_sort}
use Rattle.intervals.specs.declared.values.Value.{Value}
use Rattle.carrying.specs.declared.Held.{Held}
use Rattle.carrying.specs.declared.cells.Ends.{Ends}

-- ---- The regions, one behind the other.

-- a row for each live binding: its link, and the two words of its value
abbrev pub row_links : ℕ
row_links = most_nodes

abbrev pub row_lows : ℕ
row_lows = row_links + most_bindings

abbrev pub row_highs : ℕ
row_highs = row_lows + most_bindings

-- the cells: the sort and the two words of each
abbrev pub cell_sorts : ℕ
cell_sorts = row_highs + most_bindings

abbrev pub cell_lows : ℕ
cell_lows = cell_sorts + most_cells

abbrev pub cell_highs : ℕ
cell_highs = cell_lows + most_cells

abbrev pub regions_end : ℕ
regions_end = cell_highs + most_cells

-- ---- A link: the name, the sort of the value, and the pointer of the row below.

abbrev pub sorts : ℕ
sorts = 4

abbrev pub pointer_unit : ℕ
pointer_unit = names * sorts

abbrev pub link : (name sort pointer : ℕ) → ℕ
link x s l = x + pointer_unit * l + names * s

-- The value that a link and two words hold, and the pointer below.
abbrev pub linked_value : (link low high : ℕ) → Value
linked_value w l h = record { sort = w / names % sorts; low = l; high = h }

-- The row at a pointer, which is one more than the number of the row.
abbrev pub row_value : List ℕ → (pointer : ℕ) → Value
row_value words at = linked_value (get_or words (row_links - 1 + at) 0) (get_or words (row_lows - 1 + at) 0) (get_or words (row_highs - 1 + at) 0)

abbrev pub row_pointer : List ℕ → (pointer : ℕ) → ℕ
row_pointer words at = get_or words (row_links - 1 + at) 0 / pointer_unit

-- ---- The value that a cell holds, and the one that its copy does.

abbrev pub cell_value : List ℕ → (cell : ℕ) → Value
cell_value words n = record { sort = get_or words (cell_sorts + n) 0; low = get_or words (cell_lows + n) 0; high = get_or words (cell_highs + n) 0 }

-- of a copy the ends alone are kept, and the sort is the cell's
abbrev pub kept_ends : List Ends → (cell : ℕ) → Ends
kept_ends kept n = get_or kept n (record { low = 0; high = 0 })

abbrev pub kept_value : List ℕ → List Ends → (cell : ℕ) → Value
kept_value words kept n = record { sort = get_or words (cell_sorts + n) 0; low = (kept_ends kept n).low; high = (kept_ends kept n).high }

-- The location of a cell, as a value.
abbrev pub location_value : (cell : ℕ) → Value
location_value n = record { sort = location_sort; low = n; high = n }

-- ---- The names and cells that there are, with one more row, which is the newest name, and with one more cell.

abbrev pub row_added : Held → Held
row_added held = record { environment = held.bindings + 1; bindings = held.bindings + 1; cells = held.cells }

abbrev pub cell_added : Held → Held
cell_added held = record { environment = held.environment; bindings = held.bindings; cells = held.cells + 1 }
