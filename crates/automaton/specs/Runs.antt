-- What a step and a run of the machine answer, from the state that it holds.
use Rattle.std.specs.Prelude.{ℕ, ◌≡◌, false, List, ◌∷◌, Result, Ok, Err}
use Rattle.rules.specs.declared.refusals.Reason.{Reason}
use Rattle.rules.specs.paper.States.{Environment, Store, Entry, Item, State}
use Rattle.rules.specs.paper.Rules.{Rule, Effect, Table}
use Rattle.rules.specs.paper.Run.{judge, Ending, ended, stopped, lost}
use Rattle.rules.specs.paper.Needs.{control, values, cells, bindings, Sizes}
use Rattle.machine.specs.Steps.{Stands, Holds, Untouched, StepAnswer, AtExtendMark}
use Rattle.machine.specs.declared.Machine.{Machine}
use Rattle.automaton.specs.declared.meter.HighMarks.{HighMarks}
use Rattle.automaton.specs.declared.Ending as Endings

-- The marks of the rules, one field a size.
abbrev pub marks_of : Sizes → HighMarks
marks_of s = record { cells = s cells; bindings = s bindings; values = s values; control = s control }

-- The state that the machine holds has an item on control, and a rule applies.
pub record EnabledAt (words : List ℕ) (m : Machine) (i : Item) (C : List Item) (X : List Entry) (E : Environment) (S : Store) (L : List ℕ) (n : ℕ) (r : Rule) (e : Effect) : Type 0 where
  pub stands : Stands words m (i ∷ C) X E S L n
  pub applies : Table C E S L n r i X e
  pub at_extend_mark : AtExtendMark i X

pub record Enabled (words : List ℕ) (m : Machine) : Type 0 where
  pub item : Item
  pub control : List Item
  pub values : List Entry
  pub environment : Environment
  pub store : Store
  pub locations : List ℕ
  pub bindings : ℕ
  pub rule : Rule
  pub effect : Effect
  pub enabled : EnabledAt words m item control values environment store locations bindings rule effect

-- The step of whatever state the machine holds.
abbrev pub StepsFrom : (before : List ℕ) → Machine → Result Machine Reason → (after : List ℕ) → Type 0
StepsFrom before m answer after =
    (i : Item) (C : List Item) (X : List Entry) (E : Environment) (S : Store) (L : List ℕ) (n : ℕ) (r : Rule) (e : Effect) →
    EnabledAt before m i C X E S L n r e → StepAnswer (judge false e) answer before after

-- How a run ends: the outcome, the steps made, and the run's record with the machine in its last state.
abbrev pub ending_of : (outcome : Result (Unit {0}) Reason) (steps : ℕ) → Machine → HighMarks → Endings.Ending
ending_of o k m h = record { outcome = o; steps = k; «record» = record { machine = m; marks = h } }

-- The run ended in a state with control empty, or a step was withheld in its last state; the machine holds that state, and the meter has
-- these marks.
pub record HasEnded (most : Sizes) (steps : ℕ) (σ : State) (answer : Endings.Ending) (before after : List ℕ) : Type 0 where
  pub machine : Machine
  pub answer_is : answer ≡ ending_of (Ok tt) steps machine (marks_of most)
  pub holds : Holds after machine σ
  pub untouched : Untouched before after

pub record HasStopped (most : Sizes) (x : Reason) (steps : ℕ) (σ : State) (answer : Endings.Ending) (before after : List ℕ) : Type 0 where
  pub machine : Machine
  pub answer_is : answer ≡ ending_of (Err x) steps machine (marks_of most)
  pub holds : Holds after machine σ
  pub untouched : Untouched before after

-- What `run` answers of a run by the rules. A run without a rule never is.
abbrev pub RunAnswer : (most : Sizes) → Ending → Endings.Ending → (before after : List ℕ) → Type 0
RunAnswer most (ended k σ) answer before after = HasEnded most k σ answer before after
RunAnswer most (stopped x k σ) answer before after = HasStopped most x k σ answer before after
RunAnswer most (lost k σ) answer before after = ⊥
