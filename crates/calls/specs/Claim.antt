-- Demand 3 for what `run` runs: which reached state its reply and its registers are taken from, with the whole-run claim about every
-- state that the run reaches; what its marks are, and that they are within the needs; and that from starts within limits for which `ranges` gives
-- ends it stays within them. `Delivered` and `DeliveredRanges` have the proofs.
use Rattle.std.specs.Prelude.{ℕ, ◌<◌, ◌≤◌, ◌≡◌, List, [], ℤ, length, get_or, Result, Ok, Err}
use Rattle.rules.specs.paper.Tree.{Root}
use Rattle.rules.specs.paper.Refusals.{refusal_number}
use Rattle.rules.specs.declared.refusals.Reason.{Reason}
use Rattle.rules.specs.declared.refusals.Refusal.TheVariants.{Withheld}
use Rattle.rules.specs.declared.refusals.Refused.{Refused}
use Rattle.rules.specs.paper.Limits.{most_budget, work_words}
use Rattle.rules.specs.declared.kinds.Passed.{Passed}
use Rattle.rules.specs.paper.States.{State, control_of, values_of, store_of}
use Rattle.rules.specs.paper.Rules.{Rule, Effect, Applies}
use Rattle.rules.specs.paper.Engine.{check_image, passed, start, Answer, outcome, refused, outcome_of, registers_from, Called, engine, needs}
use Rattle.rules.specs.claims.History.{History, Reach}
use Rattle.rules.specs.claims.Claim.{StateClaim, StepWithheld, AllInRange}
use Rattle.rules.specs.claims.Ends.{FinalValues}
use Rattle.rules.specs.claims.HighMarks.{MostReached}
use Rattle.rules.specs.claims.Ranges.{Within}
use Rattle.rules.specs.paper.Needs.{Sizes}
use Rattle.integers.specs.Words.{integers_of, words_of}
use Rattle.calls.specs.Runs.{ran, run_reply, run_call, RanAs}
use Rattle.calls.specs.Needs.{needs_reply}
use Rattle.calls.specs.Ranges.{ranges_call, RangedAs}
use Rattle.automaton.specs.Runs.{marks_of}
use Rattle.automaton.specs.declared.meter.HighMarks.{HighMarks}
use Rattle.calls.specs.declared.Outcome.{Outcome}
use Rattle.calls.specs.declared.Ran.{Ran}
use Rattle.calls.specs.declared.Estimated.{Estimated}

-- The answer that a state with these steps made comes to: control is empty, and what is left is the outcome; or the step is withheld
-- for a reason that holds, the first in the order.
pub data AnsweredAt (a : Passed) (budget steps : ℕ) (σ : State) (h : History) : Answer → Type 0 where
  at_its_end : control_of σ ≡ [] → FinalValues a h.made_types (values_of σ) → AnsweredAt a budget steps σ h (outcome (outcome_of (values_of σ)))
  withheld_there : {x : Reason} (rule : Rule) (e : Effect) → Applies rule σ e → (w : StepWithheld budget steps e) → w.reason ≡ x → AnsweredAt a budget steps σ h (refused (Withheld x) 0)

pub record Delivered (a : Passed) (r : ℕ) (first : State) (budget : ℕ) (c : Called) : Type 0 where
  -- the state that the reply is taken from: the run reaches it with the steps that the reply reports
  pub last : State
  pub history : History
  pub reached : Reach budget first r c.reply.steps last history
  pub answered : AnsweredAt a budget c.reply.steps last history c.reply.answer
  pub registers_are : c.registers ≡ registers_from 0 r (store_of last)
  -- the marks that the reply reports: each is the size of a state that the run reaches, and none that it reaches is above
  pub marked : MostReached budget first r c.reply.most
  -- the claim of the rules about every state that the run reaches with control not empty
  pub claimed : (steps : ℕ) (σ : State) (h : History) → Reach budget first r steps σ h → (control_of σ ≡ [] → ⊥) → StateClaim budget steps σ h

-- For every passed image, one starting value per register, a permitted budget and enough work words.
abbrev pub EngineDelivers : Type 0
EngineDelivers =
    (image : List ℕ) (r : ℕ) (t : Root) (a : Passed) → check_image image ≡ passed r t a →
    (registers : List ℤ) → length registers ≡ r → AllInRange registers → (budget : ℕ) → budget ≤ most_budget → (work : List ℕ) → work_words ≤ length work →
    Delivered a r (start r t registers) budget (engine image registers budget work)

-- The same of the code's answer: `answer` and `last` stand for what `run` answers and leaves in its registers, which its contract gives by
-- the two equations.
pub record RunIsWhole (a : Passed) (registers : List ℕ) (t : Root) (budget : ℕ) (answer : Ran) (last : List ℕ) : Type 0 where
  pub steps : ℕ
  pub state_at_end : State
  pub history : History
  pub reached : Reach budget (start (length registers) t (integers_of registers)) (length registers) steps state_at_end history
  pub what : Answer
  pub answered : AnsweredAt a budget steps state_at_end history what
  pub most : Sizes
  pub marked : MostReached budget (start (length registers) t (integers_of registers)) (length registers) most
  pub answer_is : answer ≡ ran what steps (marks_of most)
  pub registers_are : last ≡ words_of (registers_from 0 (length registers) (store_of state_at_end))
  pub claimed : (k : ℕ) (σ : State) (h : History) → Reach budget (start (length registers) t (integers_of registers)) (length registers) k σ h → (control_of σ ≡ [] → ⊥) → StateClaim budget k σ h

abbrev pub RunsAreWhole : Type 0
RunsAreWhole =
    (image registers : List ℕ) (budget : ℕ) (work : List ℕ) (answer : Ran) (last : List ℕ) →
    -- the contract of `run`
    answer ≡ run_reply (run_call image registers budget work).reply → last ≡ words_of (run_call image registers budget work).registers →
    -- a passed image, one starting value per register, a permitted budget, enough work words
    (t : Root) (a : Passed) → check_image image ≡ passed (length registers) t a → ((i : ℕ) → i < length registers → get_or registers i 0 < 18446744073709551616) →
    budget ≤ most_budget → work_words ≤ length work → RunIsWhole a registers t budget answer last

-- ---- The marks and the needs.

-- No mark is above its figure, where there are figures.
abbrev pub MarksWithin : HighMarks → Result Estimated Refused → Type 0
MarksWithin h (Ok e) = (h.control ≤ e.control) × (h.values ≤ e.values) × (h.cells ≤ e.cells) × (h.bindings ≤ e.bindings)
MarksWithin h (Err r) = Unit {0}

-- `answer` and `estimated` stand for what `run` and `needs` answer for one image, which their contracts give by the two equations; whatever else
-- they are called with.
abbrev pub RunsWithinNeeds : Type 0
RunsWithinNeeds =
    (image registers : List ℕ) (budget : ℕ) (work lent : List ℕ) (answer : Ran) (estimated : Result Estimated Refused) →
    answer ≡ run_reply (run_call image registers budget work).reply → estimated ≡ needs_reply (needs image lent).answer →
    ((i : ℕ) → i < length registers → get_or registers i 0 < 18446744073709551616) → MarksWithin answer.marks estimated

-- ---- The runs and the ranges.

-- None of 31 to 36 is answered; and where the run has an outcome this holds.
abbrev pub OutcomeHas : Result Outcome Refused → Type 0 → Type 0
OutcomeHas (Ok o) Fact = Fact
OutcomeHas (Err r) Fact = 31 ≤ refusal_number r.refusal → refusal_number r.refusal ≤ 36 → ⊥

-- Each word of the middle list holds an integer within the ends that the others hold; there are as many of each.
abbrev pub WordsWithin : (lowest words highest : List ℕ) → Type 0
WordsWithin lowest words highest = Within (integers_of lowest) (integers_of words) (integers_of highest)

-- `ranged`, which is that ends are given, and the ends stand for what `ranges` answers and leaves, and `answer` and `last` for what `run` does, for
-- one image; their contracts give them. Whatever else they are called with, from starts within the limits a step is withheld for the budget alone,
-- and where the run has an outcome each register lies within its ends.
abbrev pub RunsWithinRanges : Type 0
RunsWithinRanges =
    (image lowest highest lent : List ℕ) (ranged : Result (Unit {0}) Refused) (lowest_ends highest_ends lent_left : List ℕ) →
    RangedAs (ranges_call image lowest highest lent) ranged lowest_ends highest_ends lent_left → ranged ≡ Ok tt →
    (registers : List ℕ) → WordsWithin lowest registers highest →
    (budget : ℕ) (work : List ℕ) (answer : Ran) (last work_left : List ℕ) → RanAs (run_call image registers budget work) answer last work_left →
    OutcomeHas answer.outcome (WordsWithin lowest_ends last highest_ends)
