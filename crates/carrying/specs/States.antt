-- Which names and cells the work words hold. A name's row has its value, or the node of its function's Abs; a function's own names are those below
-- its row, and its tree ends before the node at which the names are used, so that a call goes back in the tree.
use Rattle.std.specs.Prelude.{ℕ, suc, ◌+◌, ◌<◌, ◌≤◌, ◌≡◌, List, [], ◌∷◌, get_or, Option, MatchOption}
use Rattle.std.proofs.Math.Option.{some}
use Rattle.rules.specs.paper.Limits.{most_bindings, most_cells, names}
use Rattle.rules.specs.paper.Tree.{Formal, Block, Abs}
use Rattle.rules.specs.paper.Needs.{Need, NameNeed, Needs, nothing, need_of, over_formals, block_need, bindings, cells}
use Rattle.rules.specs.paper.Carried.{Carried, Carrying, fitting, ◌>>=◌}
use Rattle.rules.specs.paper.Carrying.{CarriedCells, CarriedMeaning, a_value, a_function, CarriedName, CarriedNames, carried_meaning, carry_formals, carry_block}
use Rattle.reader.specs.Stored.{StoredBound}
use Rattle.intervals.specs.Values.{HoldsValue}
use Rattle.intervals.specs.declared.values.Value.{Value}
use Rattle.carrying.specs.Layout.{row_links, row_lows, row_highs, sorts, link, cell_value}
use Rattle.carrying.specs.declared.Held.{Held}

-- ---- Names.

pub record RowAt (words : List ℕ) (row name below : ℕ) (value : Value) : Type 0 where
  pub link_is : get_or words (row_links + row) 0 ≡ link name value.sort below
  pub low_is : get_or words (row_lows + row) 0 ≡ value.low
  pub high_is : get_or words (row_highs + row) 0 ≡ value.high
  pub row_few : row < most_bindings
  pub name_low : name < names
  pub sort_low : value.sort < sorts
  pub below_older : below ≤ row

abbrev pub valued : (name : ℕ) → Carried → CarriedName
valued x v = record { name = x; meaning = a_value v }

-- A function bound among these names.
abbrev pub function_among : CarriedNames → List Formal → Block → List Carried → CarriedCells → Carrying CarriedCells
function_among A fs b vs K = fitting (carry_formals fs vs A) >>= λ F. carry_block F K b

abbrev pub functional : (name : ℕ) → CarriedNames → List Formal → Block → CarriedName
functional x A fs b = record { name = x; meaning = a_function (λ vs K. fitting (carry_formals fs vs A) >>= λ F. carry_block F K b) }

abbrev pub needing : (name : ℕ) → Need → NameNeed
needing x n = record { name = x; need = n }

-- The names at a pointer, newest first, as they are carried and with their needs. Functions end at the limit or before.
pub data NamesAt (words : List ℕ) : (limit pointer : ℕ) → CarriedNames → Needs → Type 0 where
  no_names : {limit : ℕ} → NamesAt words limit 0 [] []
  one_value : {limit k x l : ℕ} {r : Value} {v : Carried} {A : CarriedNames} {N : Needs} → RowAt words k x l r → HoldsValue r v → NamesAt words limit l A N →
      NamesAt words limit (suc k) (valued x v ∷ A) (needing x nothing ∷ N)
  one_function : {limit k x l d q j : ℕ} {r : Value} {fs : List Formal} {b : Block} {A : CarriedNames} {N : Needs} → RowAt words k x l r → r.low ≡ q →
      StoredBound words d q j (Abs q fs b) → j ≤ limit → NamesAt words q l A N →
      NamesAt words limit (suc k) (functional x A fs b ∷ A) (needing x (block_need (over_formals fs N) b) ∷ N)

abbrev pub SomeNames : List ℕ → (pointer : ℕ) → Type 0
SomeNames words pointer = (limit : ℕ) × (A : CarriedNames) × (N : Needs) × NamesAt words limit pointer A N

-- A look-up answers the pointer of the row of this meaning, with this need.
pub record FoundRow (words : List ℕ) (limit pointer name : ℕ) (m : CarriedMeaning) (n : Need) : Type 0 where
  pub others : CarriedNames
  pub other_needs : Needs
  pub names_there : NamesAt words limit pointer (record { name = name; meaning = m } ∷ others) (needing name n ∷ other_needs)

abbrev pub FoundAt : List ℕ → (environment name : ℕ) → Option ℕ → Type 0
FoundAt words environment x r =
    (limit : ℕ) (A : CarriedNames) (N : Needs) (m : CarriedMeaning) → NamesAt words limit environment A N → carried_meaning x A ≡ some m →
    MatchOption r ⊥ (λ at. FoundRow words limit at x m (need_of x N))

-- ---- Cells, newest first: so many.

pub data CellsAt (words : List ℕ) : (count : ℕ) → CarriedCells → Type 0 where
  no_cells : CellsAt words 0 []
  one_cell : {n : ℕ} {v : Carried} {K : CarriedCells} → HoldsValue (cell_value words n) v → CellsAt words n K → CellsAt words (suc n) (v ∷ K)

-- ---- Both.

pub record StateAt (words : List ℕ) (limit : ℕ) (held : Held) (A : CarriedNames) (N : Needs) (K : CarriedCells) : Type 0 where
  pub names_are : NamesAt words limit held.environment A N
  pub cells_are : CellsAt words held.cells K
  pub pointed : held.environment ≤ held.bindings

-- What an expression sees of it.
pub record Sees (words : List ℕ) (environment : ℕ) (A : CarriedNames) (K : CarriedCells) : Type 0 where
  pub limit : ℕ
  pub needs : Needs
  pub count : ℕ
  pub names_are : NamesAt words limit environment A needs
  pub cells_are : CellsAt words count K
  pub count_few : count ≤ most_cells

-- There is room for what a tree needs.
pub record Room (held : Held) (n : Need) : Type 0 where
  pub bindings_fit : held.bindings + n.most bindings ≤ most_bindings
  pub cells_fit : held.cells + n.most cells ≤ most_cells
