-- The names in scope as the work words hold them: for each node that binds a name a row, with the pointer of the row before it, from word
-- `rows_from` on, and two words with its need, from `needs_from` on. A pointer is one more than its row's node; pointer 0 stands for the
-- registers, whose names have no need.
use Rattle.std.specs.Prelude.{ℕ, suc, ◌+◌, ◌*◌, ◌-◌, ◌<◌, ◌≤◌, ◌≡◌, List, ◌∷◌, length, get_or}
use Rattle.rules.specs.paper.Limits.{most_nodes, names}
use Rattle.rules.specs.paper.Needs.{NameNeed, Needs, need_of}
use Rattle.rules.specs.paper.Needs as Rules
use Rattle.estimator.specs.Figures.{figures}
use Rattle.estimator.specs.declared.figures.Need.{Need}

abbrev pub rows_from : ℕ
rows_from = most_nodes

abbrev pub needs_from : ℕ
needs_from = rows_from + most_nodes

-- where the row of a pointer stands, less the pointer, and its need, less twice the pointer
abbrev pub pointers_from : ℕ
pointers_from = rows_from - 1

abbrev pub pointed_needs_from : ℕ
pointed_needs_from = needs_from - 2

abbrev pub row_of : ℕ → ℕ
row_of node = rows_from + node

abbrev pub need_at : ℕ → ℕ
need_at node = needs_from + 2 * node

abbrev pub entries_end : ℕ
entries_end = needs_from + 2 * most_nodes

-- The room of one number where several stand in a word.
abbrev pub room : ℕ
room = 1048576

abbrev pub name_word : (name link : ℕ) → ℕ
name_word x l = x + names * l

abbrev pub sizes_word : Need → ℕ
sizes_word n = n.control + room * n.values + room * room * n.cells

abbrev pub others_word : Need → ℕ
others_word n = n.bindings + room * n.steps + room * room * n.all_steps

pub record SmallFigures (n : Need) : Type 0 where
  pub control_small : n.control < room
  pub values_small : n.values < room
  pub cells_small : n.cells < room
  pub bindings_small : n.bindings < room
  pub steps_small : n.steps < room
  pub all_steps_small : n.all_steps < room

-- The entry of a node.
pub record HasEntry (words : List ℕ) (node name link : ℕ) (n : Need) : Type 0 where
  pub row_word : get_or words (row_of node) 0 ≡ name_word name link
  pub first_word : get_or words (need_at node) 0 ≡ sizes_word n
  pub second_word : get_or words (need_at node + 1) 0 ≡ others_word n
  pub node_low : node < most_nodes
  pub name_low : name < names
  pub link_low : link ≤ node

-- Only entries of nodes from this one on are written: the words below its row, those from the first need to its own, and those from
-- `entries_end` on are as they were.
pub record WritesEntriesFrom (words words' : List ℕ) (node : ℕ) : Type 0 where
  pub same_length : length words' ≡ length words
  pub same_below : (i : ℕ) → i < row_of node → get_or words' i 0 ≡ get_or words i 0
  pub same_needs : (i : ℕ) → needs_from ≤ i → i < need_at node → get_or words' i 0 ≡ get_or words i 0
  pub same_beyond : (i : ℕ) → entries_end ≤ i → get_or words' i 0 ≡ get_or words i 0

pub record KeptEntry (words words' : List ℕ) (node name link : ℕ) (n : Need) : Type 0 where
  pub entry : HasEntry words' node name link n
  pub others : WritesEntriesFrom words words' node

-- The names at a pointer, newest first, each with its need as the code has it; then names without a need, as the registers are.
pub data NamesAt (words : List ℕ) : (pointer : ℕ) → Needs → Type 0 where
  no_entries : {N : Needs} → ((x : ℕ) → need_of x N ≡ Rules.nothing) → NamesAt words 0 N
  one_name : {k l : ℕ} {n : NameNeed} {N : Needs} → HasEntry words k n.name l (figures n.need) → NamesAt words l N → NamesAt words (suc k) (n ∷ N)

-- The need of the entry at a pointer.
abbrev pub EntryAt : List ℕ → (pointer : ℕ) → Need → Type 0
EntryAt words at r = (k x l : ℕ) (n : Rules.Need) → at ≡ suc k → HasEntry words k x l (figures n) → r ≡ figures n

abbrev pub NeedFoundAt : List ℕ → (scope name : ℕ) → Need → Type 0
NeedFoundAt words scope name r = (N : Needs) → NamesAt words scope N → r ≡ figures (need_of name N)
