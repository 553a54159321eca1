-- The state in which a run starts, as the machine holds it, and the value that is left where one ends.
use Rattle.std.specs.Prelude.{ℕ, ◌<◌, ◌≡◌, List, ◌∷◌, length}
use Rattle.rules.specs.paper.Tree.{Root}
use Rattle.rules.specs.paper.Engine.{start, registers_from}
use Rattle.rules.specs.claims.Listing.{truth_word}
use Rattle.rules.specs.claims.Ends.{RegisterHolds}
use Rattle.rules.specs.paper.States.{Value, integer, truth, location, Environment, Store, Entry, val, Item, State, store_of}
use Rattle.integers.specs.Words.{word_of, integers_of, words_of}
use Rattle.machine.specs.Steps.{Stands, Holds, Untouched}
use Rattle.machine.specs.declared.Machine.{Machine}

-- The machine holds the start of the tree's run, with these words in the registers.
pub record StartsAt (t : Root) (registers : List ℕ) (m : Machine) (before after : List ℕ) : Type 0 where
  pub holds : Holds after m (start (length registers) t (integers_of registers))
  pub untouched : Untouched before after

-- The word of a value: an integer's in two's complement, 0 or 1 for a truth, a location's number.
abbrev pub value_word : Value → ℕ
value_word (integer z) = word_of z
value_word (truth b) = truth_word b
value_word (location l) = l

-- A value is on top of the value stack.
pub record ValueLeft (words : List ℕ) (m : Machine) : Type 0 where
  pub control : List Item
  pub values : List Entry
  pub environment : Environment
  pub store : Store
  pub locations : List ℕ
  pub bindings : ℕ
  pub left : Value
  pub stands : Stands words m control (val left ∷ values) environment store locations bindings

-- The registers are the contents of the first cells of whatever state the words hold in which these are integers.
abbrev pub RegistersTaken : (words : List ℕ) (count : ℕ) (registers : List ℕ) → Type 0
RegistersTaken words count registers =
    (m : Machine) (σ : State) → Holds words m σ → ((i : ℕ) → i < count → RegisterHolds (store_of σ) i) → registers ≡ words_of (registers_from 0 count (store_of σ))

-- The word of the value on top of the value stack of whatever state the words hold.
abbrev pub ValueTaken : (words : List ℕ) → Machine → (word : ℕ) → Type 0
ValueTaken words m word =
    (C : List Item) (X : List Entry) (E : Environment) (S : Store) (L : List ℕ) (n : ℕ) (v : Value) → Stands words m C (val v ∷ X) E S L n → word ≡ value_word v
