-- Rows and cells written in the work words: what a write leaves alone, and that what is left alone of two writes in turn is left alone.
use Prim.Native.Nat.{ℕ, ◌+◌, ◌<◌, ◌≤◌}
use mathlib.Core.Path.{refl, ◌∙◌}
use mathlib.Core.List.{List}
use native.Mathlib.Omega.{arith}
use Rattle.rules.specs.paper.Limits.{most_bindings, most_cells}
use Rattle.reader.specs.StoredLaws.{SameNodes}
use Rattle.intervals.specs.declared.values.Value.{Value}
use Rattle.carrying.specs.Layout.{row_links, row_lows, row_highs, cell_sorts, cell_lows, cell_highs}
use Rattle.carrying.specs.Frames.{Keeps, KeepsCells, PutRow, PutCell, SetCell}

-- ---- What a row or cell that is put or set leaves alone.

-- A row leaves those before it and all cells.
pub row_keeps : {words words' : List ℕ} {row name below : ℕ} {value : Value} → row < most_bindings → PutRow words words' row name below value → Keeps words words' row most_cells
row_keeps few w =
    record {
      same_length = w.same_length;
      same_nodes = λ i h. w.others i (omega (arith, h)) (omega (arith, h)) (omega (arith, h));
      same_links = λ i h. w.others (row_links + i) (omega (arith, h)) (omega (arith, h, few)) (omega (arith, h, few));
      same_lows = λ i h. w.others (row_lows + i) (omega (arith, h, few)) (omega (arith, h)) (omega (arith, h, few));
      same_highs = λ i h. w.others (row_highs + i) (omega (arith, h, few)) (omega (arith, h, few)) (omega (arith, h));
      same_sorts = λ i h. w.others (cell_sorts + i) (omega (arith, h, few)) (omega (arith, h, few)) (omega (arith, h, few));
      same_beyond = λ i h. w.others i (omega (arith, h, few)) (omega (arith, h, few)) (omega (arith, h, few));
    }

pub row_keeps_cells : {words words' : List ℕ} {row name below : ℕ} {value : Value} → row < most_bindings → PutRow words words' row name below value → KeepsCells words words' most_cells
row_keeps_cells few w =
    record {
      same_cell_lows = λ i h. w.others (cell_lows + i) (omega (arith, h, few)) (omega (arith, h, few)) (omega (arith, h, few));
      same_cell_highs = λ i h. w.others (cell_highs + i) (omega (arith, h, few)) (omega (arith, h, few)) (omega (arith, h, few));
    }

-- A cell leaves all rows and those before it.
pub cell_keeps : {words words' : List ℕ} {cell : ℕ} {value : Value} → cell < most_cells → PutCell words words' cell value → Keeps words words' most_bindings cell
cell_keeps few w =
    record {
      same_length = w.same_length;
      same_nodes = λ i h. w.others i (omega (arith, h)) (omega (arith, h)) (omega (arith, h));
      same_links = λ i h. w.others (row_links + i) (omega (arith, h)) (omega (arith, h)) (omega (arith, h));
      same_lows = λ i h. w.others (row_lows + i) (omega (arith, h)) (omega (arith, h)) (omega (arith, h));
      same_highs = λ i h. w.others (row_highs + i) (omega (arith, h)) (omega (arith, h)) (omega (arith, h));
      same_sorts = λ i h. w.others (cell_sorts + i) (omega (arith, h)) (omega (arith, h, few)) (omega (arith, h, few));
      same_beyond = λ i h. w.others i (omega (arith, h, few)) (omega (arith, h, few)) (omega (arith, h, few));
    }

pub cell_keeps_cells : {words words' : List ℕ} {cell : ℕ} {value : Value} → cell < most_cells → PutCell words words' cell value → KeepsCells words words' cell
cell_keeps_cells few w =
    record {
      same_cell_lows = λ i h. w.others (cell_lows + i) (omega (arith, h, few)) (omega (arith, h)) (omega (arith, h, few));
      same_cell_highs = λ i h. w.others (cell_highs + i) (omega (arith, h, few)) (omega (arith, h, few)) (omega (arith, h));
    }

pub set_keeps : {words words' : List ℕ} {cell low high : ℕ} → cell < most_cells → SetCell words words' cell low high → Keeps words words' most_bindings most_cells
set_keeps few w =
    record {
      same_length = w.same_length;
      same_nodes = λ i h. w.others i (omega (arith, h)) (omega (arith, h));
      same_links = λ i h. w.others (row_links + i) (omega (arith, h)) (omega (arith, h));
      same_lows = λ i h. w.others (row_lows + i) (omega (arith, h)) (omega (arith, h));
      same_highs = λ i h. w.others (row_highs + i) (omega (arith, h)) (omega (arith, h));
      same_sorts = λ i h. w.others (cell_sorts + i) (omega (arith, h)) (omega (arith, h));
      same_beyond = λ i h. w.others i (omega (arith, h, few)) (omega (arith, h, few));
    }

-- ---- Nothing written, less that is kept, one after the other.

pub keeps_all : (words : List ℕ) (b n : ℕ) → Keeps words words b n
keeps_all words b n =
    record { same_length = refl; same_nodes = λ i h. refl; same_links = λ i h. refl; same_lows = λ i h. refl; same_highs = λ i h. refl; same_sorts = λ i h. refl; same_beyond = λ i h. refl }

pub keeps_all_cells : (words : List ℕ) (n : ℕ) → KeepsCells words words n
keeps_all_cells words n = record { same_cell_lows = λ i h. refl; same_cell_highs = λ i h. refl }

pub keeps_fewer : {words words' : List ℕ} {b n c m : ℕ} → c ≤ b → m ≤ n → Keeps words words' b n → Keeps words words' c m
keeps_fewer p q k =
    record {
      same_length = k.same_length;
      same_nodes = k.same_nodes;
      same_links = λ i h. k.same_links i (omega (arith, h, p));
      same_lows = λ i h. k.same_lows i (omega (arith, h, p));
      same_highs = λ i h. k.same_highs i (omega (arith, h, p));
      same_sorts = λ i h. k.same_sorts i (omega (arith, h, q));
      same_beyond = k.same_beyond;
    }

pub keeps_fewer_cells : {words words' : List ℕ} {n m : ℕ} → m ≤ n → KeepsCells words words' n → KeepsCells words words' m
keeps_fewer_cells q k = record { same_cell_lows = λ i h. k.same_cell_lows i (omega (arith, h, q)); same_cell_highs = λ i h. k.same_cell_highs i (omega (arith, h, q)) }

pub keeps_then : {words words' words'' : List ℕ} {b n : ℕ} → Keeps words words' b n → Keeps words' words'' b n → Keeps words words'' b n
keeps_then k l =
    record {
      same_length = l.same_length ∙ k.same_length;
      same_nodes = λ i h. l.same_nodes i h ∙ k.same_nodes i h;
      same_links = λ i h. l.same_links i h ∙ k.same_links i h;
      same_lows = λ i h. l.same_lows i h ∙ k.same_lows i h;
      same_highs = λ i h. l.same_highs i h ∙ k.same_highs i h;
      same_sorts = λ i h. l.same_sorts i h ∙ k.same_sorts i h;
      same_beyond = λ i h. l.same_beyond i h ∙ k.same_beyond i h;
    }

pub keeps_cells_then : {words words' words'' : List ℕ} {n : ℕ} → KeepsCells words words' n → KeepsCells words' words'' n → KeepsCells words words'' n
keeps_cells_then k l =
    record { same_cell_lows = λ i h. l.same_cell_lows i h ∙ k.same_cell_lows i h; same_cell_highs = λ i h. l.same_cell_highs i h ∙ k.same_cell_highs i h }

-- The tree stays.
pub kept_nodes : {words words' : List ℕ} {b n : ℕ} → Keeps words words' b n → SameNodes words words'
kept_nodes k = k.same_nodes
