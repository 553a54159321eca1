-- The scope as the work words hold it: a row for each node that binds a name, from word `rows_from` on, with a link to the row before it.
-- A row is found by a pointer, one more than its node; pointer 0 stands for the registers.
use Rattle.std.specs.Prelude.{ℕ, suc, ◌+◌, ◌-◌, ◌*◌, ◌<◌, ◌≤◌, ◌≡◌, Bool, List, [], ◌∷◌, ◌++◌, length, get_or, Option, Some, None}
use Rattle.std.proofs.Math.Option.{none, some}
use Rattle.rules.specs.paper.Limits.{most_nodes, names, codes}
use Rattle.rules.specs.paper.Tree.{Formal}
use Rattle.rules.specs.paper.Checker.{Meaning, code, function, Named, Scope, meaning_of, shares_name, register_scope}
use Rattle.reader.specs.Stored.{HasWord, StoredFormals}

-- The words that have the rows: that of a node stands at `rows_from` + its place, so that of a pointer at `pointers_from` + the pointer.
abbrev pub rows_from : ℕ
rows_from = most_nodes

abbrev pub rows_end : ℕ
rows_end = rows_from + most_nodes

abbrev pub pointers_from : ℕ
pointers_from = rows_from - 1

-- The numbers of meanings, which are below 16, and what a link is multiplied by in a row's word.
abbrev pub meaning_numbers : ℕ
meaning_numbers = 16

abbrev pub link_factor : ℕ
link_factor = names * meaning_numbers

abbrev pub row_word : (name meaning link : ℕ) → ℕ
row_word x m l = x + names * m + link_factor * l

-- A type code is its own number; a function has one that is no code.
abbrev pub function_number : ℕ
function_number = 8

abbrev pub meaning_number : Meaning → ℕ
meaning_number (code c) = c
meaning_number (function fs) = function_number

-- What the number of a meaning leaves open: of a function, the Formals that stand after its Abs, the node after its Bind.
pub data MeaningAt (words : List ℕ) (node : ℕ) : Meaning → Type 0 where
  code_at : {c : ℕ} → c < codes → MeaningAt words node (code c)
  function_at : {fs : List Formal} {e j : ℕ} → HasWord words (suc node) 41 (length fs) e → StoredFormals words (suc (suc node)) j fs → MeaningAt words node (function fs)

pub record HasRow (words : List ℕ) (node name meaning link : ℕ) : Type 0 where
  pub word : get_or words (rows_from + node) 0 ≡ row_word name meaning link
  pub node_low : node < most_nodes
  pub name_low : name < names
  pub meaning_low : meaning < meaning_numbers
  pub link_low : link ≤ node

-- The names from one pointer to another, newest first.
pub data Rows (words : List ℕ) : (from to : ℕ) → Scope → Type 0 where
  no_rows : {t : ℕ} → Rows words t t []
  one_row : {k x m l t : ℕ} {n : Named} {Δ : Scope} → HasRow words k x m l → n.name ≡ x → meaning_number n.meaning ≡ m → MeaningAt words k n.meaning →
      Rows words l t Δ → Rows words (suc k) t (n ∷ Δ)

-- The whole scope at a pointer: its rows, then the registers.
pub record ScopeAt (words : List ℕ) (registers pointer : ℕ) (Γ : Scope) : Type 0 where
  pub own : Scope
  pub rows : Rows words pointer 0 own
  pub whole : Γ ≡ own ++ register_scope registers

-- What looking for a name among rows finds: the pointer of its newest row.
pub data RowFound (words : List ℕ) (to name : ℕ) (Δ : Scope) : Option ℕ → Type 0 where
  absent : meaning_of name Δ ≡ none → RowFound words to name Δ None
  present : {k l : ℕ} {m : Meaning} → meaning_of name Δ ≡ some m → HasRow words k name (meaning_number m) l → MeaningAt words k m → to ≤ k → RowFound words to name Δ (Some (suc k))

-- A name's newest row, whatever names the rows hold.
abbrev pub RowFoundAt : List ℕ → (from to name : ℕ) → Option ℕ → Type 0
RowFoundAt words from to name r = (Δ : Scope) → Rows words from to Δ → RowFound words to name Δ r

-- Whether some name from the second pointer to the third stands from the first to the second too.
abbrev pub NamesSharedAt : List ℕ → (from middle to : ℕ) → Bool → Type 0
NamesSharedAt words from middle to r = (Δ₁ Δ₂ : Scope) → Rows words middle to Δ₁ → Rows words from middle Δ₂ → r ≡ shares_name Δ₁ Δ₂
