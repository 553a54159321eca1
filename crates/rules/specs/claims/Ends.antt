-- What follows from the whole-run theorem for callers, stated: how a run ends, and what holds in every state it reaches.
-- RunEnds.antt proves it. This file names the automaton's definitions and nothing of the proof.
use Rattle.std.specs.Prelude.{ℕ, zero, suc, ◌≤◌, ◌<◌, ◌≡◌, List, [], ◌∷◌, T, ℤ, length}
use Rattle.std.proofs.Math.Option.{Option, none, some}
use Rattle.rules.specs.paper.Tree.{Root}
use Rattle.rules.specs.paper.Refusals.{Reason}
use Rattle.rules.specs.paper.Limits.{most_cells, most_bindings, most_value_entries, most_control_entries, most_budget}
use Rattle.rules.specs.paper.Checker.{Passed, expression_of_code, a_command}
use Rattle.rules.specs.paper.Integers.{in_range}
use Rattle.rules.specs.paper.States.{Value, integer, truth, location, Bindable, value, closure, Environment, empty, bound, Store, find, Entry, bindable, name, node, environment, locations, val, State, control_of, values_of, environment_of, store_of, bindings_of}
use Rattle.rules.specs.paper.Rules.{Rule, Effect, Applies}
use Rattle.rules.specs.paper.Run.{Ending, ended, stopped, lost, run}
use Rattle.rules.specs.paper.Engine.{check_image, passed, start}
use Rattle.rules.specs.claims.History.{Made, type_of, History, Reach}
use Rattle.rules.specs.claims.Claim.{ReasonHolds, AllInRange, StepWithheld}

-- ---- How a run ends.

-- The value stack at a normal end: empty for a command, one value of the root's code for an expression.
abbrev pub FinalValues : Passed → Made → List Entry → Type 0
FinalValues a_command M X = X ≡ []
FinalValues (expression_of_code c) M X = (v : Value) × (X ≡ val v ∷ []) × (type_of M v ≡ some c)

-- At a state that the run reaches: with control empty, or with the step withheld for a reason that holds, the first in the order.
-- There is no line for `lost`: the run is never without a rule.
pub data EndsWell (budget : ℕ) (first : State) (r : ℕ) (a : Passed) : Ending → Type 0 where
  normally : {k : ℕ} {τ : State} (h : History) → Reach budget first r k τ h → control_of τ ≡ [] → FinalValues a h.made_types (values_of τ) →
      EndsWell budget first r a (ended k τ)
  withheld_for : {k : ℕ} {τ : State} {x : Reason} (h : History) (rule : Rule) (e : Effect) → Reach budget first r k τ h → Applies rule τ e →
      (w : StepWithheld budget k e) → w.reason ≡ x → EndsWell budget first r a (stopped x k τ)

-- ---- What holds in every state of the run.

-- The integers are within −2^63 to 2^63 − 1.
abbrev pub RangedValue : Value → Type 0
RangedValue (integer z) = T (in_range z)
RangedValue (truth b) = Unit {0}
RangedValue (location l) = Unit {0}

abbrev mutual
  pub RangedBindable : Bindable → Type 0
  RangedBindable (value v) = RangedValue v
  RangedBindable (closure fs b F) = RangedEnvironment F

  pub RangedEnvironment : Environment → Type 0
  RangedEnvironment empty = Unit {0}
  RangedEnvironment (bound x b E) = RangedBindable b × RangedEnvironment E

abbrev pub RangedEntry : Entry → Type 0
RangedEntry (bindable b) = RangedBindable b
RangedEntry (name x) = Unit {0}
RangedEntry (node c) = Unit {0}
RangedEntry (environment E) = RangedEnvironment E
RangedEntry (locations L) = Unit {0}

abbrev pub RangedValues : List Entry → Type 0
RangedValues [] = Unit {0}
RangedValues (e ∷ X) = RangedEntry e × RangedValues X

abbrev pub RangedStore : Store → Type 0
RangedStore [] = Unit {0}
RangedStore (c ∷ S) = RangedValue c.contents × RangedStore S

-- A register is an integer.
pub record RegisterHolds (S : Store) (i : ℕ) : Type 0 where
  pub number : ℤ
  pub holds_it : find i S ≡ some (integer number)
  pub ranged : T (in_range number)

pub record StateFacts (r : ℕ) (σ : State) : Type 0 where
  pub values_ranged : RangedValues (values_of σ)
  pub environment_ranged : RangedEnvironment (environment_of σ)
  pub store_ranged : RangedStore (store_of σ)
  -- registers stay integers
  pub registers_hold : (i : ℕ) → i < r → RegisterHolds (store_of σ) i
  -- the limits: 33 to 36 hold of no state that is reached
  pub few_cells : length (store_of σ) ≤ most_cells
  pub few_bindings : bindings_of σ ≤ most_bindings
  pub few_values : length (values_of σ) ≤ most_value_entries
  pub few_control : length (control_of σ) ≤ most_control_entries

-- ---- For every passed image, one starting value per register and a permitted budget:

-- the run ends well ..
abbrev pub RunEndsWell : Type 0
RunEndsWell =
    (image : List ℕ) (r : ℕ) (t : Root) (a : Passed) → check_image image ≡ passed r t a →
    (registers : List ℤ) → length registers ≡ r → AllInRange registers → (budget : ℕ) →
    EndsWell budget (start r t registers) r a (run budget 0 (start r t registers))

-- .. and these facts hold in every state that it reaches.
abbrev pub EveryStateFacts : Type 0
EveryStateFacts =
    (image : List ℕ) (r : ℕ) (t : Root) (a : Passed) → check_image image ≡ passed r t a →
    (registers : List ℤ) → length registers ≡ r → AllInRange registers → (budget : ℕ) →
    (steps : ℕ) (σ : State) (h : History) → Reach budget (start r t registers) r steps σ h → StateFacts r σ
