-- What the machine keeps in the work words, region by region: the tree's nodes, the stacks, the rows of the bindings and the cells.
use Rattle.std.specs.Prelude.{ℕ, zero, suc, ◌+◌, ◌≤◌, List, [], ◌∷◌, cond, eqb, length, get_or, take, drop}
use Rattle.std.proofs.Math.Option.{Option, none, some}
use Rattle.machine.specs.declared.Machine.{Machine}
use Rattle.machine.specs.Layout.{control_from, value_payloads, value_labels, row_labels, row_payloads, cell_payloads, cell_labels}
use Rattle.rules.specs.paper.Limits.{most_nodes, most_cells, most_bindings, most_value_entries, most_control_entries, work_words}

-- A stack of words from a base on, newest first.
unfoldable pub stack : (base height : ℕ) → List ℕ → List ℕ
stack base zero words = []
stack base (suc k) words = get_or words (base + k) 0 ∷ stack base k words

-- Two words that belong together: an entry of the value stack, a row of the bindings, or a cell.
pub record Slot : Type 0 where
  pub label : ℕ
  pub payload : ℕ

abbrev pub slot : (label payload : ℕ) → Slot
slot l p = record { label = l; payload = p }

-- Two stacks of one height, newest first.
unfoldable pub slots : (labels payloads height : ℕ) → List ℕ → List Slot
slots l p zero words = []
slots l p (suc k) words = slot (get_or words (l + k) 0) (get_or words (p + k) 0) ∷ slots l p k words

-- The slot at a number counted from the oldest.
unfoldable pub slot_at : ℕ → List Slot → Option Slot
slot_at i [] = none
slot_at i (s ∷ older) = let found = slot_at i older in cond (eqb (length older) i) (some s) found

pub record Regions : Type 0 where
  pub nodes : List ℕ
  pub control : List ℕ
  pub values : List Slot
  pub rows : List Slot
  pub cells : List Slot
  pub environment : ℕ
  pub declared : ℕ
  pub base : ℕ
  pub beyond : List ℕ
  pub size : ℕ

unfoldable pub regions : List ℕ → Machine → Regions
regions words m =
    record {
      nodes = take most_nodes words;
      control = stack control_from m.control words;
      values = slots value_labels value_payloads m.values words;
      rows = slots row_labels row_payloads m.bindings words;
      cells = slots cell_labels cell_payloads m.cells words;
      environment = m.environment;
      declared = m.declared;
      base = m.base;
      beyond = drop work_words words;
      size = length words;
    }

-- The regions have room for what the heights say, which are within the paper's limits.
pub record Fits (words : List ℕ) (m : Machine) : Type 0 where
  pub room : work_words ≤ length words
  pub few_control : m.control ≤ most_control_entries
  pub few_values : m.values ≤ most_value_entries
  pub few_bindings : m.bindings ≤ most_bindings
  pub few_cells : m.cells ≤ most_cells

-- One more entry of control.
abbrev pub with_control : ℕ → Regions → Regions
with_control w κ =
    record {
      nodes = κ.nodes;
      control = w ∷ κ.control;
      values = κ.values;
      rows = κ.rows;
      cells = κ.cells;
      environment = κ.environment;
      declared = κ.declared;
      base = κ.base;
      beyond = κ.beyond;
      size = κ.size;
    }

-- Other entries of control.
abbrev pub with_controls : List ℕ → Regions → Regions
with_controls ws κ =
    record {
      nodes = κ.nodes;
      control = ws;
      values = κ.values;
      rows = κ.rows;
      cells = κ.cells;
      environment = κ.environment;
      declared = κ.declared;
      base = κ.base;
      beyond = κ.beyond;
      size = κ.size;
    }

-- Other entries of the value stack.
abbrev pub with_values : List Slot → Regions → Regions
with_values X κ =
    record {
      nodes = κ.nodes;
      control = κ.control;
      values = X;
      rows = κ.rows;
      cells = κ.cells;
      environment = κ.environment;
      declared = κ.declared;
      base = κ.base;
      beyond = κ.beyond;
      size = κ.size;
    }

-- Other cells.
abbrev pub with_cells : List Slot → Regions → Regions
with_cells S κ =
    record {
      nodes = κ.nodes;
      control = κ.control;
      values = κ.values;
      rows = κ.rows;
      cells = S;
      environment = κ.environment;
      declared = κ.declared;
      base = κ.base;
      beyond = κ.beyond;
      size = κ.size;
    }

-- One more row.
abbrev pub with_row : Slot → Regions → Regions
with_row s κ =
    record {
      nodes = κ.nodes;
      control = κ.control;
      values = κ.values;
      rows = s ∷ κ.rows;
      cells = κ.cells;
      environment = κ.environment;
      declared = κ.declared;
      base = κ.base;
      beyond = κ.beyond;
      size = κ.size;
    }

-- ---- The machine with one entry, row or cell more.

abbrev pub raised_control : Machine → Machine
raised_control m =
    record {
      control = m.control + 1;
      values = m.values;
      environment = m.environment;
      declared = m.declared;
      cells = m.cells;
      base = m.base;
      bindings = m.bindings;
    }

abbrev pub raised_values : Machine → Machine
raised_values m =
    record {
      control = m.control;
      values = m.values + 1;
      environment = m.environment;
      declared = m.declared;
      cells = m.cells;
      base = m.base;
      bindings = m.bindings;
    }

abbrev pub raised_rows : Machine → Machine
raised_rows m =
    record {
      control = m.control;
      values = m.values;
      environment = m.environment;
      declared = m.declared;
      cells = m.cells;
      base = m.base;
      bindings = m.bindings + 1;
    }

abbrev pub raised_cells : Machine → Machine
raised_cells m =
    record {
      control = m.control;
      values = m.values;
      environment = m.environment;
      declared = m.declared;
      cells = m.cells + 1;
      base = m.base;
      bindings = m.bindings;
    }

-- The slot at a number counted from the oldest is set.
unfoldable pub set_slot : ℕ → Slot → List Slot → List Slot
set_slot i s [] = []
set_slot i s (t ∷ older) = let rest = set_slot i s older in cond (eqb (length older) i) (s ∷ older) (t ∷ rest)
