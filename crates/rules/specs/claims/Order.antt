-- The order of the reasons and the order before it, which was by number, so 35 before 36 (document 02, request 6): exactly the same steps
-- are withheld, a run ends in the same state after the same steps, and what differs is that 36 is named where 35 was and both hold. This
-- file names the automaton's definitions and nothing of the proof. proofs/running/Order.antt proves it.
use Rattle.std.specs.Prelude.{ℕ, zero, suc, ◌<◌, ◌≡◌, Bool, false, List, [], ◌∷◌, length}
use Rattle.rules.specs.paper.Refusals.{Reason, Steps, ZeroDivisor, OutOfRange, Cells, Bindings, ValueEntries, ControlEntries}
use Rattle.rules.specs.paper.Limits.{most_value_entries, most_control_entries}
use Rattle.rules.specs.paper.States.{State, state, control_of, values_of}
use Rattle.rules.specs.paper.Rules.{Rule, Effect, goes, fails, Applies}
use Rattle.rules.specs.paper.Fire.{Firing, stuck, fires, fire}
use Rattle.rules.specs.paper.Run.{holds, first_holding, Verdict, made, withheld, settle, judge, Ending, ended, stopped, lost, proceed, run}
use Rattle.rules.specs.paper.Needs.{Sizes}
use Rattle.rules.specs.paper.Engine.{Called, finish}

-- ---- The order before, and the run by it.

unfoldable pub by_number : List Reason
by_number = Steps ∷ ZeroDivisor ∷ OutOfRange ∷ Cells ∷ Bindings ∷ ValueEntries ∷ ControlEntries ∷ []

unfoldable pub judge_by_number : (spent : Bool) → Effect → Verdict
judge_by_number spent e = settle e (first_holding (holds spent e) by_number)

abbrev pub attempt_by_number : Firing → (steps : ℕ) → State → (State → Ending) → Ending
attempt_by_number stuck k σ go = lost k σ
attempt_by_number (fires r e) k σ go = proceed (judge_by_number false e) k σ go

unfoldable pub run_by_number : (left steps : ℕ) → State → Ending
run_by_number zero k (state [] X E S L n) = ended k (state [] X E S L n)
run_by_number zero k (state (i ∷ C) X E S L n) = stopped Steps k (state (i ∷ C) X E S L n)
run_by_number (suc left) k (state [] X E S L n) = ended k (state [] X E S L n)
run_by_number (suc left) k (state (i ∷ C) X E S L n) =
    attempt_by_number (fire (state (i ∷ C) X E S L n)) k (state (i ∷ C) X E S L n) (λ τ. run_by_number left (suc k) τ)

-- ---- One step.

-- Both 35 and 36 hold: the state after the step has a 513th value entry and a 513th control entry.
abbrev pub BothStacksFull : Effect → Type 0
BothStacksFull (goes τ) = (most_value_entries < length (values_of τ)) × (most_control_entries < length (control_of τ))
BothStacksFull (fails r) = ⊥

-- What the two orders come to for one effect, this one's verdict first: made by both, with the same state after it; withheld by both for one
-- reason, which is not 35 where both stacks are full; or withheld for 36, where the order before names 35 and both stacks are full.
pub data SameStep (e : Effect) : (now before : Verdict) → Type 0 where
  both_make : (τ : State) → SameStep e (made τ) (made τ)
  both_withhold : (x : Reason) → (BothStacksFull e → x ≡ ValueEntries → ⊥) → SameStep e (withheld x) (withheld x)
  control_named : BothStacksFull e → SameStep e (withheld ControlEntries) (withheld ValueEntries)

-- Exactly the same steps are withheld as by the order before: for every effect of a rule, with budget left or not.
abbrev pub SameStepsWithheld : Type 0
SameStepsWithheld = (spent : Bool) (e : Effect) → SameStep e (judge spent e) (judge_by_number spent e)

-- ---- A run.

-- How the two runs end, in the same state after the same steps: both normally, or both for one reason, which is not 35 where the step there
-- would fill both stacks; or there for 36, where the order before names 35; or both without a rule.
pub data SameEnding : (now before : Ending) → Type 0 where
  both_end : (k : ℕ) (σ : State) → SameEnding (ended k σ) (ended k σ)
  both_stop : (x : Reason) (k : ℕ) (σ : State) → ((rule : Rule) (e : Effect) → Applies rule σ e → BothStacksFull e → x ≡ ValueEntries → ⊥) → SameEnding (stopped x k σ) (stopped x k σ)
  stopped_for_control : (k : ℕ) (σ : State) (rule : Rule) (e : Effect) → Applies rule σ e → BothStacksFull e → SameEnding (stopped ControlEntries k σ) (stopped ValueEntries k σ)
  both_lost : (k : ℕ) (σ : State) → SameEnding (lost k σ) (lost k σ)

-- From any state, with any budget left.
abbrev pub SameRuns : Type 0
SameRuns = (left steps : ℕ) (σ : State) → SameEnding (run left steps σ) (run_by_number left steps σ)

-- ---- What a run leaves.

-- The steps that are reported, the registers and the work words are the same, whatever marks are reported: what a routine is priced by.
pub record SamePrice (now before : Called) : Type 0 where
  pub same_steps : now.reply.steps ≡ before.reply.steps
  pub same_registers : now.registers ≡ before.registers
  pub same_work : now.work ≡ before.work

abbrev pub SamePrices : Type 0
SamePrices =
    (registers : ℕ) (work : List ℕ) (most : Sizes) (left steps : ℕ) (σ : State) →
    SamePrice (finish registers work most (run left steps σ)) (finish registers work most (run_by_number left steps σ))
