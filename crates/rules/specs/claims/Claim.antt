-- Demand 3 (README, "The three demands"), stated: one claim about all states of a run, in the words of the demand and of the paper's
-- "Agreement between supplier and tester". This file names the automaton's definitions and nothing of the proof. WholeRun.antt proves it.
use Rattle.std.specs.Prelude.{ℕ, zero, suc, ◌≤◌, ◌<◌, ◌≡◌, Bool, true, false, List, [], ◌∷◌, T, eqb, ℤ, length}
use Rattle.std.proofs.Math.Option.{Option, none, some}
use Rattle.rules.specs.paper.Tree.{Expression, Num, Boo, Id, DeRef, ValRef, Binary, Not, Root}
use Rattle.rules.specs.paper.Refusals.{Reason, Steps, ZeroDivisor, OutOfRange, Cells, Bindings, ValueEntries, ControlEntries}
use Rattle.rules.specs.paper.Limits.{most_cells, most_bindings, most_value_entries, most_control_entries, most_budget}
use Rattle.rules.specs.paper.Integers.{in_range}
use Rattle.rules.specs.paper.Checker.{Passed}
use Rattle.rules.specs.paper.States.{Value, integer, truth, location, Bindable, value, closure, Environment, lookup, Store, find, Entry, bindable, name, node, environment, locations, Mark, operator_mark, not_mark, assign_mark, loop_mark, conditional_mark, ref_mark, bind_mark, dseq_extend_mark, dseq_join_mark, extend_mark, leave_mark, call_mark, Item, expression, command, declaration, reference, abstraction, mark, State, state, control_of, values_of, environment_of, store_of, locations_of, bindings_of, live_cells}
use Rattle.rules.specs.paper.Rules.{Rule, Effect, goes, fails, Applies}
use Rattle.rules.specs.paper.Run.{priority, judge, made, withheld}
use Rattle.rules.specs.paper.Engine.{check_image, passed, start}
use Rattle.rules.specs.claims.History.{Made, made_with, type_of, History, latest, leaves, note, first_history, Reach}

-- ---- "every cell read or set": Id reads the cell it names, if any, and ValRef both of its cells; Assign's mark sets.

abbrev pub named_cell : Option Bindable → List ℕ
named_cell none = []
named_cell (some (value (integer z))) = []
named_cell (some (value (truth b))) = []
named_cell (some (value (location l))) = l ∷ []
named_cell (some (closure fs b E)) = []

abbrev pub shown_cell : Option Value → List ℕ
shown_cell none = []
shown_cell (some (integer z)) = []
shown_cell (some (truth b)) = []
shown_cell (some (location l)) = l ∷ []

-- the named cell and the one whose location it holds
abbrev pub both_cells : Store → List ℕ → List ℕ
both_cells S [] = []
both_cells S (l ∷ ls) = l ∷ shown_cell (find l S)

-- the name that Assign's mark stores to, below the value
abbrev pub assigned_name : List Entry → Option ℕ
assigned_name [] = none
assigned_name (e ∷ []) = none
assigned_name (e ∷ bindable b ∷ X) = none
assigned_name (e ∷ name x ∷ X) = some x
assigned_name (e ∷ node c ∷ X) = none
assigned_name (e ∷ environment E ∷ X) = none
assigned_name (e ∷ locations L ∷ X) = none

abbrev pub assigned_cell : Environment → Option ℕ → List ℕ
assigned_cell E none = []
assigned_cell E (some x) = named_cell (lookup x E)

abbrev pub expression_cells : Expression → Environment → Store → List ℕ
expression_cells (Num p n) E S = []
expression_cells (Boo p b) E S = []
expression_cells (Id p x) E S = named_cell (lookup x E)
expression_cells (DeRef p x) E S = []
expression_cells (ValRef p x) E S = both_cells S (named_cell (lookup x E))
expression_cells (Binary p o e f) E S = []
expression_cells (Not p e) E S = []

abbrev pub mark_cells : Mark → List Entry → Environment → List ℕ
mark_cells (operator_mark o) X E = []
mark_cells not_mark X E = []
mark_cells assign_mark X E = assigned_cell E (assigned_name X)
mark_cells loop_mark X E = []
mark_cells conditional_mark X E = []
mark_cells ref_mark X E = []
mark_cells bind_mark X E = []
mark_cells dseq_extend_mark X E = []
mark_cells dseq_join_mark X E = []
mark_cells extend_mark X E = []
mark_cells (leave_mark p m) X E = []
mark_cells (call_mark p x k) X E = []

abbrev pub item_cells : Item → List Entry → Environment → Store → List ℕ
item_cells (expression e) X E S = expression_cells e E S
item_cells (command c) X E S = []
item_cells (declaration d) X E S = []
item_cells (reference p e) X E S = []
item_cells (abstraction p fs b) X E S = []
item_cells (mark m) X E S = mark_cells m X E

-- The cells that the rule on top of control reads or sets.
abbrev pub touched : State → List ℕ
touched (state [] X E S L n) = []
touched (state (i ∷ C) X E S L n) = item_cells i X E S

-- "is live and holds the type it was made with"
pub record HoldsItsType (M : Made) (S : Store) (l : ℕ) : Type 0 where
  pub contents : Value
  pub live : find l S ≡ some contents
  pub code : ℕ
  pub made_type : made_with l M ≡ some code
  pub held_type : type_of M contents ≡ some code

abbrev pub AllHoldTheirTypes : Made → Store → List ℕ → Type 0
AllHoldTheirTypes M S [] = Unit {0}
AllHoldTheirTypes M S (l ∷ ls) = HoldsItsType M S l × AllHoldTheirTypes M S ls

-- ---- "each leaving of a block or call restores environment, location set, value stack and the live cells of the state in which
-- its node came to the top": that state is the latest earlier one with this node on top of control that no earlier leaving was
-- compared with. Location set and live cells are equal as lists, which is more than as sets.

pub record Restores (p : ℕ) (h : History) (τ : State) : Type 0 where
  pub entered : State
  pub is_latest : latest p h.past ≡ some entered
  pub same_environment : environment_of τ ≡ environment_of entered
  pub same_locations : locations_of τ ≡ locations_of entered
  pub same_values : values_of τ ≡ values_of entered
  pub same_cells : live_cells (store_of τ) ≡ live_cells (store_of entered)

abbrev pub LeavingRestores : Option ℕ → History → State → Type 0
LeavingRestores none h τ = Unit {0}
LeavingRestores (some p) h τ = Restores p h τ

-- ---- "A reason holds when its condition in the list is met, for 31 to 36 by the step."

pub data ReasonHolds (budget steps : ℕ) (e : Effect) : Reason → Type 0 where
  -- 30 steps made equal the budget and control is not empty (it is not where a rule applies)
  budget_used : steps ≡ budget → ReasonHolds budget steps e Steps
  -- 31 zero divisor, 32 result outside the integers
  divisor_zero : e ≡ fails ZeroDivisor → ReasonHolds budget steps e ZeroDivisor
  result_outside : e ≡ fails OutOfRange → ReasonHolds budget steps e OutOfRange
  -- 33 a 257th cell, 34 a 513th binding, 35 a 513th value entry, 36 a 513th control entry, in the state after the step
  cells_full : (τ : State) → e ≡ goes τ → most_cells < length (store_of τ) → ReasonHolds budget steps e Cells
  bindings_full : (τ : State) → e ≡ goes τ → most_bindings < bindings_of τ → ReasonHolds budget steps e Bindings
  values_full : (τ : State) → e ≡ goes τ → most_value_entries < length (values_of τ) → ReasonHolds budget steps e ValueEntries
  control_full : (τ : State) → e ≡ goes τ → most_control_entries < length (control_of τ) → ReasonHolds budget steps e ControlEntries

-- ---- "first in this order": it holds, and none that stands before it does.

pub data FirstOf (Holds : Reason → Type 0) (x : Reason) : List Reason → Type 0 where
  at_front : (later : List Reason) → Holds x → FirstOf Holds x (x ∷ later)
  behind : (r : Reason) (later : List Reason) → (Holds r → ⊥) → FirstOf Holds x later → FirstOf Holds x (r ∷ later)

-- ---- "its step is made if no reason of 30 to 36 holds and otherwise withheld for one that does"

-- The step of this effect is made.
pub record StepMade (budget steps : ℕ) (σ : State) (h : History) (e : Effect) : Type 0 where
  pub after : State
  pub goes_there : e ≡ goes after
  -- "if no reason of 30 to 36 holds"
  pub no_reason : (r : Reason) → ReasonHolds budget steps e r → ⊥
  pub is_made : judge (eqb steps budget) e ≡ made after
  -- "every cell read or set is live and holds the type it was made with", after the step
  pub cells_after : AllHoldTheirTypes (note σ h after).made_types (store_of after) (touched σ)
  -- "each leaving of a block or call restores .."
  pub restored : LeavingRestores (leaves σ) h after

-- The step of this effect is withheld.
pub record StepWithheld (budget steps : ℕ) (e : Effect) : Type 0 where
  pub reason : Reason
  -- "for one that does"
  pub reason_holds : ReasonHolds budget steps e reason
  -- the first in the order of the reasons of those that hold
  pub first : FirstOf (ReasonHolds budget steps e) reason priority
  pub is_withheld : judge (eqb steps budget) e ≡ withheld reason

pub data StepOutcome (budget steps : ℕ) (σ : State) (h : History) (e : Effect) : Type 0 where
  step_is_made : StepMade budget steps σ h e → StepOutcome budget steps σ h e
  step_is_withheld : StepWithheld budget steps e → StepOutcome budget steps σ h e

-- ---- The claim about one state with control not empty, with these steps made.

pub record StateClaim (budget steps : ℕ) (σ : State) (h : History) : Type 0 where
  -- "exactly one rule applies": this rule, with this effect ..
  pub rule : Rule
  pub effect : Effect
  pub applies : Applies rule σ effect
  -- .. and any rule that applies is that one with that effect
  pub only : (r : Rule) (e : Effect) → Applies r σ e → (r ≡ rule) × (e ≡ effect)
  -- "every cell read or set is live and holds the type it was made with", before the step
  pub cells_before : AllHoldTheirTypes h.made_types (store_of σ) (touched σ)
  -- "its step is made if no reason of 30 to 36 holds and otherwise withheld for one that does"
  pub outcome : StepOutcome budget steps σ h effect

-- Integers are −2^63 to 2^63 − 1: so is each starting value.
abbrev pub AllInRange : List ℤ → Type 0
AllInRange [] = Unit {0}
AllInRange (z ∷ zs) = T (in_range z) × AllInRange zs

-- Demand 3: for every image that the checker passes, every list of one starting value per register, every permitted budget and
-- every state of the run with control not empty.
abbrev pub WholeRunClaim : Type 0
WholeRunClaim =
    (image : List ℕ) (r : ℕ) (t : Root) (a : Passed) → check_image image ≡ passed r t a →
    (registers : List ℤ) → length registers ≡ r → AllInRange registers →
    (budget : ℕ) → budget ≤ most_budget →
    (steps : ℕ) (σ : State) (h : History) → Reach budget (start r t registers) r steps σ h →
    (control_of σ ≡ [] → ⊥) → StateClaim budget steps σ h
