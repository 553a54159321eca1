-- What a run answers, by the definitions of the rules: for each case its values, or the refusal.
use Rattle.std.specs.Prelude.{ℕ, ◌≤◌, ◌≡◌, List, [], ◌∷◌, length, Result, Ok, Err}
use Rattle.rules.specs.paper.Limits.{work_words}
use Rattle.rules.specs.Answers.{refused_at}
use Rattle.rules.specs.declared.refusals.Reason.{Reason}
use Rattle.rules.specs.declared.refusals.Refused.{Refused}
use Rattle.rules.specs.paper.Tree.{Root}
use Rattle.rules.specs.declared.refusals.Refusal.TheVariants.{Withheld}
use Rattle.rules.specs.declared.kinds.Passed.{Passed}
use Rattle.rules.specs.declared.kinds.Passed.TheVariants.{Expression as expression_of_code, Command as a_command}
use Rattle.rules.specs.paper.States.{Value, integer, truth, location, Environment, Store, val, Item, State, store_of}
use Rattle.rules.specs.paper.Run.{Ending, ended, stopped, lost, run}
use Rattle.rules.specs.paper.Needs.{Sizes}
use Rattle.rules.specs.paper.HighMarks.{no_high_marks, high_marks}
use Rattle.rules.specs.paper.Engine.{Outcome, number, truth_of, cell, nothing, outcome_of_value, Answer, outcome, refused, Reply, registers_from, Called, check_image, passed, finish, run_checked, start, engine}
use Rattle.integers.specs.Words.{word_of, integers_of, words_of}
use Rattle.machine.specs.Steps.{Stands, Holds}
use Rattle.machine.specs.declared.Machine.{Machine}
use Rattle.automaton.specs.Runs.{marks_of, ending_of}
use Rattle.automaton.specs.declared.meter.HighMarks.{HighMarks}
use Rattle.automaton.specs.declared.Ending as Endings
use Rattle.reader.specs.Stored.{RootAt}
use Rattle.reader.specs.Put.{KeptBeyond}
use Rattle.calls.specs.declared.Ran.{Ran}
use Rattle.calls.specs.declared.Outcome as Declared
use Rattle.calls.specs.declared.Outcome.TheVariants.{Number, Truth, Location, Nothing}

-- The value that is left, a number as its word; or none.
abbrev pub value_outcome : Value → Declared.Outcome
value_outcome (integer z) = Number (word_of z)
value_outcome (truth b) = Truth b
value_outcome (location l) = Location l

abbrev pub left : Outcome → Declared.Outcome
left (number z) = Number (word_of z)
left (truth_of b) = Truth b
left (cell l) = Location l
left nothing = Nothing

-- That; or the refusal with its place.
abbrev pub outcome_reply : Answer → Result Declared.Outcome Refused
outcome_reply (outcome o) = Ok (left o)
outcome_reply (refused x p) = refused_at x p

-- With the steps made and the marks.
abbrev pub ran : Answer → (steps : ℕ) → HighMarks → Ran
ran a k h = record { outcome = outcome_reply a; steps = k; marks = h }

abbrev pub run_reply : Reply → Ran
run_reply r = ran r.answer r.steps (marks_of r.most)

-- With no step made.
abbrev pub unstarted_with : Refused → Ran
unstarted_with r = record { outcome = Err r; steps = 0; marks = marks_of no_high_marks }

-- The engine's call on registers that are held as words.
abbrev pub run_call : (image registers : List ℕ) (budget : ℕ) (work : List ℕ) → Called
run_call image registers budget work = engine image (integers_of registers) budget work

-- What `run` answers and leaves: the call's reply, its registers as words, and its work words.
pub record RanAs (c : Called) (answer : Ran) (registers work : List ℕ) : Type 0 where
  pub answer_is : answer ≡ run_reply c.reply
  pub registers_are : registers ≡ words_of c.registers
  pub work_is : work ≡ c.work

-- ---- The run of a tree that stands in the work words.

-- How it ends with these marks, the registers it leaves, and the machine's last state.
pub record ExecutedEnd (outcome : Result (Unit {0}) Reason) (most : Sizes) (steps : ℕ) (σ : State) (count : ℕ) (answer : Endings.Ending) (registers before after : List ℕ) : Type 0 where
  pub machine : Machine
  pub answer_is : answer ≡ ending_of outcome steps machine (marks_of most)
  pub holds : Holds after machine σ
  pub registers_are : registers ≡ words_of (registers_from 0 count (store_of σ))
  pub beyond : KeptBeyond work_words before after

abbrev pub ExecuteAnswer : (most : Sizes) → Ending → (count : ℕ) → Endings.Ending → (registers before after : List ℕ) → Type 0
ExecuteAnswer most (ended k σ) count answer registers before after = ExecutedEnd (Ok tt) most k σ count answer registers before after
ExecuteAnswer most (stopped x k σ) count answer registers before after = ExecutedEnd (Err x) most k σ count answer registers before after
ExecuteAnswer most (lost k σ) count answer registers before after = ⊥

-- A tree of so many nodes that the checker passed, as an expression of some code or as a command, stands in the work words.
abbrev pub TreeStands : (count : ℕ) (work : List ℕ) (nodes : ℕ) → Type 0
TreeStands count work nodes = (image : List ℕ) × (t : Root) × (a : Passed) × (check_image image ≡ passed count t a) × RootAt work nodes t

abbrev pub TreeStandsAs : (count : ℕ) (a : Passed) (work : List ℕ) (nodes : ℕ) → Type 0
TreeStandsAs count a work nodes = (image : List ℕ) × (t : Root) × (check_image image ≡ passed count t a) × RootAt work nodes t

-- Every such tree that stands there is run from the registers.
abbrev pub ExecutesTree : (registers : List ℕ) (budget nodes : ℕ) → Endings.Ending → (last before after : List ℕ) → Type 0
ExecutesTree registers budget nodes answer last before after =
    (image : List ℕ) (t : Root) (a : Passed) → check_image image ≡ passed (length registers) t a → RootAt before nodes t →
    ExecuteAnswer (high_marks budget (start (length registers) t (integers_of registers))) (run budget 0 (start (length registers) t (integers_of registers))) (length registers) answer last before after

-- A call's reply and registers, with the words behind the first 8,192 as they were.
pub record Performed (c : Called) (r : Ran) (registers before after : List ℕ) : Type 0 where
  pub reply_is : r ≡ run_reply c.reply
  pub registers_are : registers ≡ words_of c.registers
  pub beyond : KeptBeyond work_words before after

-- The run of a tree that the checker passed, from its first state to what the run leaves.
abbrev pub RunOf : (registers : List ℕ) → Root → (budget : ℕ) → Called
RunOf registers t budget = finish (length registers) [] (high_marks budget (start (length registers) t (integers_of registers))) (run budget 0 (start (length registers) t (integers_of registers)))

-- Every tree passed so that stands in the work words is run from the registers.
abbrev pub RunsTreeAs : Passed → (registers : List ℕ) (budget nodes : ℕ) → Ran → (last before after : List ℕ) → Type 0
RunsTreeAs a registers budget nodes answer last before after =
    (image : List ℕ) (t : Root) → check_image image ≡ passed (length registers) t a → RootAt before nodes t → Performed (RunOf registers t budget) answer last before after

-- The run of an image behind the tests of the work words and of the budget.
abbrev pub run_of_image : (image registers : List ℕ) (budget : ℕ) → Called
run_of_image image registers budget = run_checked (check_image image) (integers_of registers) budget []

-- A value of this code: 0 an integer, 1 a truth, 2 and more a location.
abbrev pub KindOf : Value → ℕ → Type 0
KindOf (integer z) c = c ≡ 0
KindOf (truth b) c = c ≡ 1
KindOf (location l) c = 2 ≤ c

-- A value of this code is left alone on the value stack.
pub record LeftAs (words : List ℕ) (m : Machine) (code : ℕ) (v : Value) : Type 0 where
  pub control : List Item
  pub environment : Environment
  pub store : Store
  pub locations : List ℕ
  pub bindings : ℕ
  pub stands : Stands words m control (val v ∷ []) environment store locations bindings
  pub kind_is : KindOf v code

-- What the run of a tree with this root leaves where it ends: nothing of a command, and of an expression a value of its code.
abbrev pub LeavesAs : Passed → List ℕ → Machine → Outcome → Type 0
LeavesAs (expression_of_code c) words m o = (v : Value) × (o ≡ outcome_of_value v) × LeftAs words m c v
LeavesAs a_command words m o = o ≡ nothing

-- Its answer by the rules, where it ended so, in this last state.
abbrev pub AnswersAs : Passed → List ℕ → Machine → Result (Unit {0}) Reason → Answer → Type 0
AnswersAs a words m (Ok u) what = (o : Outcome) × (what ≡ outcome o) × LeavesAs a words m o
AnswersAs a words m (Err x) what = what ≡ refused (Withheld x) 0
