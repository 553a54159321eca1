-- Reasons 30 to 36, and the run with its budget (paper, "The automaton", "What the engine says no with").
use Rattle.std.specs.Prelude.{ℕ, zero, suc, Bool, true, false, cond, List, [], ◌∷◌, eqb, ltb, length}
use Rattle.std.proofs.Math.Option.{Option, none, some}
use Rattle.rules.specs.paper.Refusals.{Reason, Steps, ZeroDivisor, OutOfRange, Cells, Bindings, ValueEntries, ControlEntries, reason_number}
use Rattle.rules.specs.paper.Limits.{most_cells, most_bindings, most_value_entries, most_control_entries}
use Rattle.rules.specs.paper.States.{State, state, control_of, values_of, store_of, bindings_of}
use Rattle.rules.specs.paper.Rules.{Effect, goes, fails}
use Rattle.rules.specs.paper.Fire.{Firing, stuck, fires, fire}

-- The order of the reasons: at a step the first of these that holds wins. It is by number, but for a full control stack, which is named before
-- a full value stack (document 02, request 6).
unfoldable pub priority : List Reason
priority = Steps ∷ ZeroDivisor ∷ OutOfRange ∷ Cells ∷ Bindings ∷ ControlEntries ∷ ValueEntries ∷ []

-- Reasons 33 to 36 are judged on the state after the step.
abbrev pub exceeded : State → Reason → Bool
exceeded τ Steps = false
exceeded τ ZeroDivisor = false
exceeded τ OutOfRange = false
exceeded τ Cells = ltb most_cells (length (store_of τ))
exceeded τ Bindings = ltb most_bindings (bindings_of τ)
exceeded τ ValueEntries = ltb most_value_entries (length (values_of τ))
exceeded τ ControlEntries = ltb most_control_entries (length (control_of τ))

abbrev pub same_reason : Reason → Reason → Bool
same_reason r s = eqb (reason_number r) (reason_number s)

-- A reason holds when its condition in the list is met, for 31 to 36 by the step.
-- `spent`: the steps made equal the budget (30; control is not empty where a rule applies).
unfoldable pub holds : (spent : Bool) → Effect → Reason → Bool
holds spent (goes τ) Steps = spent
holds spent (goes τ) ZeroDivisor = exceeded τ ZeroDivisor
holds spent (goes τ) OutOfRange = exceeded τ OutOfRange
holds spent (goes τ) Cells = exceeded τ Cells
holds spent (goes τ) Bindings = exceeded τ Bindings
holds spent (goes τ) ValueEntries = exceeded τ ValueEntries
holds spent (goes τ) ControlEntries = exceeded τ ControlEntries
holds spent (fails r) Steps = spent
holds spent (fails r) ZeroDivisor = same_reason r ZeroDivisor
holds spent (fails r) OutOfRange = same_reason r OutOfRange
holds spent (fails r) Cells = false
holds spent (fails r) Bindings = false
holds spent (fails r) ValueEntries = false
holds spent (fails r) ControlEntries = false

unfoldable pub first_holding : (Reason → Bool) → List Reason → Option Reason
first_holding f [] = none
first_holding f (r ∷ rs) = let later = first_holding f rs in cond (f r) (some r) later

-- Whether the step is made, or withheld and why.
pub data Verdict : Type 0 where
  made : State → Verdict
  withheld : Reason → Verdict

abbrev pub settle : Effect → Option Reason → Verdict
settle (goes τ) none = made τ
settle (goes τ) (some r) = withheld r
settle (fails r) none = withheld r
settle (fails s) (some r) = withheld r

unfoldable pub judge : (spent : Bool) → Effect → Verdict
judge spent e = settle e (first_holding (holds spent e) priority)

-- How a run ends, with the steps made and the last state: control empty; a step withheld; or no rule applies, which the
-- whole-run theorem shows never to be the end of a passed image's run.
pub data Ending : Type 0 where
  ended : (steps : ℕ) → State → Ending
  stopped : Reason → (steps : ℕ) → State → Ending
  lost : (steps : ℕ) → State → Ending

abbrev pub proceed : Verdict → (steps : ℕ) → State → (State → Ending) → Ending
proceed (made τ) k σ go = go τ
proceed (withheld r) k σ go = stopped r k σ

abbrev pub attempt : Firing → (steps : ℕ) → State → (State → Ending) → Ending
attempt stuck k σ go = lost k σ
attempt (fires r e) k σ go = proceed (judge false e) k σ go

-- The run goes on until the control stack is empty or a step is withheld. `left` is the budget less the steps made: where
-- none is left, reason 30 stands first in the order and wins, and an empty control stack is a normal end all the same.
unfoldable pub run : (left steps : ℕ) → State → Ending
run zero k (state [] X E S L n) = ended k (state [] X E S L n)
run zero k (state (i ∷ C) X E S L n) = stopped Steps k (state (i ∷ C) X E S L n)
run (suc left) k (state [] X E S L n) = ended k (state [] X E S L n)
run (suc left) k (state (i ∷ C) X E S L n) =
    attempt (fire (state (i ∷ C) X E S L n)) k (state (i ∷ C) X E S L n) (λ τ. run left (suc k) τ)
