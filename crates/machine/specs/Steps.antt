-- What a step of the machine answers, by the rules' table.
use Rattle.std.specs.Prelude.{ℕ, ◌<◌, ◌≡◌, false, List, ◌∷◌, ◌++◌, length, take, drop, Result, Ok, Err}
use Rattle.rules.specs.declared.refusals.Reason.{Reason}
use Rattle.rules.specs.paper.States.{Bindable, Environment, Store, Entry, bindable, environment, locations, Item, mark, extend_mark, State, state}
use Rattle.rules.specs.paper.Rules.{Rule, Effect, goes, Table}
use Rattle.rules.specs.paper.Run.{Verdict, made, withheld, judge}
use Rattle.rules.specs.paper.Limits.{most_nodes, most_control_entries, work_words}
use Rattle.machine.specs.Regions.{slot, regions, Fits, with_control}
use Rattle.machine.specs.Represents.{BindableAs, Mode, ControlAs, ValuesAs, Beside, Models}
use Rattle.machine.specs.declared.Machine.{Machine}

-- The machine and the work words hold this state.
pub record Stands (words : List ℕ) (m : Machine) (C : List Item) (X : List Entry) (E : Environment) (S : Store) (L : List ℕ) (n : ℕ) : Type 0 where
  pub fits : Fits words m
  pub models : Models (regions words m) C X E S L n

abbrev pub Holds : List ℕ → Machine → State → Type 0
Holds words m (state C X E S L n) = Stands words m C X E S L n

-- The tree and the words beyond the engine's are kept.
pub record Untouched (before after : List ℕ) : Type 0 where
  pub same_nodes : take most_nodes after ≡ take most_nodes before
  pub same_beyond : drop work_words after ≡ drop work_words before
  pub same_length : length after ≡ length before

-- The step is made and the state after it stands; or it is withheld, and nothing is changed.
pub record IsMade (τ : State) (r : Result Machine Reason) (before after : List ℕ) : Type 0 where
  pub machine : Machine
  pub answer : r ≡ Ok machine
  pub holds : Holds after machine τ
  pub untouched : Untouched before after

pub record IsWithheld (x : Reason) (r : Result Machine Reason) (before after : List ℕ) : Type 0 where
  pub answer : r ≡ Err x
  pub unchanged : after ≡ before

abbrev pub StepAnswer : Verdict → Result Machine Reason → (before after : List ℕ) → Type 0
StepAnswer (made τ) r before after = IsMade τ r before after
StepAnswer (withheld x) r before after = IsWithheld x r before after

-- An item was taken off control: its word, the machine without it, which has room for one entry again, and the rule that applies at the
-- item. At a block's first mark the value stack has the declared names on the location set.
abbrev pub AtExtendMark : Item → List Entry → Type 0
AtExtendMark i X = i ≡ mark extend_mark → (D : Environment) × (K : List ℕ) × (Y : List Entry) × (X ≡ environment D ∷ locations K ∷ Y)

pub record Ready (words : List ℕ) (m : Machine) (w : ℕ) (i : Item) (C : List Item) (X : List Entry) (E : Environment) (S : Store) (L : List ℕ) (n : ℕ) (r : Rule) (e : Effect) : Type 0 where
  pub fits : Fits words m
  pub room : m.control < most_control_entries
  pub models : Models (with_control w (regions words m)) (i ∷ C) X E S L n
  pub applies : Table C E S L n r i X e
  pub at_extend_mark : AtExtendMark i X

-- Some rule applies at this item.
pub record Applicable (words : List ℕ) (m : Machine) (w : ℕ) (i : Item) : Type 0 where
  pub control : List Item
  pub values : List Entry
  pub environment : Environment
  pub store : Store
  pub locations : List ℕ
  pub bindings : ℕ
  pub rule : Rule
  pub effect : Effect
  pub ready : Ready words m w i control values environment store locations bindings rule effect

-- The answer of a rule's function at this item, whatever state the words hold.
abbrev pub Steps : (before : List ℕ) → Machine → (w : ℕ) → Item → Result Machine Reason → (after : List ℕ) → Type 0
Steps before m w i answer after =
    (C : List Item) (X : List Entry) (E : Environment) (S : Store) (L : List ℕ) (n : ℕ) (r : Rule) (e : Effect) →
    Ready before m w i C X E S L n r e → StepAnswer (judge false e) answer before after

-- Some entries more on control, the top one first: what the step to them answers, whatever items control has then. They need not be in the
-- mode of the entries below them: a declaration goes from one stage to its end.
abbrev pub Puts : (before : List ℕ) → Machine → (new : List ℕ) → Result Machine Reason → (after : List ℕ) → Type 0
Puts before m new answer after =
    (C : List Item) (X : List Entry) (E : Environment) (S : Store) (L : List ℕ) (n : ℕ) (mode : Mode) → Beside (regions before m) mode X E S L n →
    ControlAs (regions before m).nodes mode (new ++ (regions before m).control) C →
    StepAnswer (judge false (goes (state C X E S L n))) answer before after

-- One value or closure more on the value stack.
abbrev pub Pushes : (before : List ℕ) → Machine → (label payload : ℕ) → Result Machine Reason → (after : List ℕ) → Type 0
Pushes before m label payload answer after =
    (C : List Item) (X : List Entry) (E : Environment) (S : Store) (L : List ℕ) (n : ℕ) (b : Bindable) → Models (regions before m) C X E S L n →
    BindableAs (regions before m).nodes (regions before m).rows label payload b →
    StepAnswer (judge false (goes (state C (bindable b ∷ X) E S L n))) answer before after

-- A name or a node on the value stack, and some entries more on control.
abbrev pub Enters : (before : List ℕ) → Machine → (payload : ℕ) (new : List ℕ) → Result Machine Reason → (after : List ℕ) → Type 0
Enters before m payload new answer after =
    (C : List Item) (X : List Entry) (E : Environment) (S : Store) (L : List ℕ) (n : ℕ) (x : Entry) (mode : Mode) → Beside (regions before m) mode X E S L n →
    ControlAs (regions before m).nodes mode (new ++ (regions before m).control) C →
    ((label : ℕ) →
    ValuesAs (regions before m).nodes (regions before m).rows (regions before m).base (regions before m).declared (regions before m).environment E mode (slot label payload ∷ (regions before m).values) (x ∷ X)) →
    StepAnswer (judge false (goes (state C (x ∷ X) E S L n))) answer before after
