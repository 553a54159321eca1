-- What is left alone: the tree, the rows of so many bindings, the sorts of so many cells, and the words beyond the regions; and, for what sets no
-- cell, the cells' words.
use Rattle.std.specs.Prelude.{ℕ, ◌+◌, ◌<◌, ◌≤◌, ◌≡◌, List, length, get_or}
use Rattle.std.proofs.Math.Option.{some}
use Rattle.rules.specs.paper.Limits.{most_nodes, most_bindings, most_cells}
use Rattle.rules.specs.paper.Carried.{Carried, wider}
use Rattle.intervals.specs.Values.{HoldsValue}
use Rattle.intervals.specs.declared.values.Value.{Value}
use Rattle.carrying.specs.Layout.{row_links, row_lows, row_highs, cell_sorts, cell_lows, cell_highs, regions_end, link, cell_value, kept_ends, kept_value}
use Rattle.carrying.specs.declared.cells.Ends.{Ends}

pub record Keeps (words words' : List ℕ) (bindings cells : ℕ) : Type 0 where
  pub same_length : length words' ≡ length words
  pub same_nodes : (i : ℕ) → i < most_nodes → get_or words' i 0 ≡ get_or words i 0
  pub same_links : (i : ℕ) → i < bindings → get_or words' (row_links + i) 0 ≡ get_or words (row_links + i) 0
  pub same_lows : (i : ℕ) → i < bindings → get_or words' (row_lows + i) 0 ≡ get_or words (row_lows + i) 0
  pub same_highs : (i : ℕ) → i < bindings → get_or words' (row_highs + i) 0 ≡ get_or words (row_highs + i) 0
  pub same_sorts : (i : ℕ) → i < cells → get_or words' (cell_sorts + i) 0 ≡ get_or words (cell_sorts + i) 0
  pub same_beyond : (i : ℕ) → regions_end ≤ i → get_or words' i 0 ≡ get_or words i 0

pub record KeepsCells (words words' : List ℕ) (cells : ℕ) : Type 0 where
  pub same_cell_lows : (i : ℕ) → i < cells → get_or words' (cell_lows + i) 0 ≡ get_or words (cell_lows + i) 0
  pub same_cell_highs : (i : ℕ) → i < cells → get_or words' (cell_highs + i) 0 ≡ get_or words (cell_highs + i) 0

-- A row is put: its three words, and nothing else.
pub record PutRow (words words' : List ℕ) (row name below : ℕ) (value : Value) : Type 0 where
  pub link_put : get_or words' (row_links + row) 0 ≡ link name value.sort below
  pub low_put : get_or words' (row_lows + row) 0 ≡ value.low
  pub high_put : get_or words' (row_highs + row) 0 ≡ value.high
  pub others : (i : ℕ) → (i ≡ row_links + row → ⊥) → (i ≡ row_lows + row → ⊥) → (i ≡ row_highs + row → ⊥) → get_or words' i 0 ≡ get_or words i 0
  pub same_length : length words' ≡ length words

-- A cell is put, or is set and keeps its sort.
pub record PutCell (words words' : List ℕ) (cell : ℕ) (value : Value) : Type 0 where
  pub cell_put : cell_value words' cell ≡ value
  pub others : (i : ℕ) → (i ≡ cell_sorts + cell → ⊥) → (i ≡ cell_lows + cell → ⊥) → (i ≡ cell_highs + cell → ⊥) → get_or words' i 0 ≡ get_or words i 0
  pub same_length : length words' ≡ length words

pub record SetCell (words words' : List ℕ) (cell low high : ℕ) : Type 0 where
  pub low_set : get_or words' (cell_lows + cell) 0 ≡ low
  pub high_set : get_or words' (cell_highs + cell) 0 ≡ high
  pub others : (i : ℕ) → (i ≡ cell_lows + cell → ⊥) → (i ≡ cell_highs + cell → ⊥) → get_or words' i 0 ≡ get_or words i 0
  pub same_length : length words' ≡ length words

-- ---- A copy of so many cells.

pub record Copied (words : List ℕ) (kept : List Ends) (cells : ℕ) : Type 0 where
  pub lows_copied : (i : ℕ) → i < cells → (kept_ends kept i).low ≡ get_or words (cell_lows + i) 0
  pub highs_copied : (i : ℕ) → i < cells → (kept_ends kept i).high ≡ get_or words (cell_highs + i) 0

pub record Exchanged (words words' : List ℕ) (kept kept' : List Ends) (cells : ℕ) : Type 0 where
  pub lows_there : (i : ℕ) → i < cells → get_or words' (cell_lows + i) 0 ≡ (kept_ends kept i).low
  pub highs_there : (i : ℕ) → i < cells → get_or words' (cell_highs + i) 0 ≡ (kept_ends kept i).high
  pub copied : Copied words kept' cells
  pub keeps : Keeps words words' most_bindings most_cells

-- Each cell has the wider of its copy and of what it held.
pub record Widened (words words' : List ℕ) (kept : List Ends) (cells : ℕ) : Type 0 where
  pub widened : (i : ℕ) → i < cells → (v w x : Carried) → HoldsValue (kept_value words kept i) v → HoldsValue (cell_value words i) w → wider v w ≡ some x → HoldsValue (cell_value words' i) x
  pub keeps : Keeps words words' most_bindings most_cells
