-- The answers of a check and of a run to a C host: the paper's numbers and values, each in a field of its own.
use Rattle.std.specs.Prelude.{ℕ, ◌≡◌, List, ℤ, Result, Ok, Err}
use Rattle.rules.specs.paper.Refusals.{refusal_number}
use Rattle.rules.specs.declared.refusals.Refused.{Refused}
use Rattle.rules.specs.declared.kinds.Passed.{Passed}
use Rattle.rules.specs.declared.kinds.Passed.TheVariants.{Expression as expression_of_code, Command as a_command}
use Rattle.rules.specs.claims.Listing.{truth_word}
use Rattle.rules.specs.paper.Needs.{control, values, cells, bindings}
use Rattle.rules.specs.paper.Engine.{CheckAnswer, root_code, root_command, not_passed, number, truth_of, cell, nothing, Answer, outcome, refused, Reply, Called}
use Rattle.integers.specs.Words.{word_of}
use Rattle.calls.specs.declared.Outcome.{Outcome}
use Rattle.calls.specs.declared.Outcome.TheVariants.{Number, Truth, Location, Nothing}
use Rattle.calls.specs.declared.Ran.{Ran}
use Rattle.engine.specs.declared.CheckReply.{CheckReply}
use Rattle.engine.specs.declared.RunReply.{RunReply}

-- ---- A check.

-- The refusal, 0 where the image passes; the value, the root's code or 8 for a command; and the place.
abbrev pub reply_refusal : CheckAnswer → ℕ
reply_refusal (root_code c) = 0
reply_refusal root_command = 0
reply_refusal (not_passed x p) = refusal_number x

abbrev pub reply_value : CheckAnswer → ℕ
reply_value (root_code c) = c
reply_value root_command = 8
reply_value (not_passed x p) = 0

abbrev pub reply_place : CheckAnswer → ℕ
reply_place (root_code c) = 0
reply_place root_command = 0
reply_place (not_passed x p) = p

-- The fields, from what the code answers.
abbrev pub check_fields : Result Passed Refused → CheckReply
check_fields (Ok (expression_of_code c)) = record { refusal = 0; value = c; place = 0 }
check_fields (Ok a_command) = record { refusal = 0; value = 8; place = 0 }
check_fields (Err r) = record { refusal = refusal_number r.refusal; value = 0; place = r.place }

pub record Replies (a : CheckAnswer) (r : CheckReply) : Type 0 where
  pub refusal_is : r.refusal ≡ reply_refusal a
  pub value_is : r.value ≡ reply_value a
  pub place_is : r.place ≡ reply_place a

-- ---- A run.

-- The refusal, 0 where the run ends; the kind of the outcome, 1 for a number, 2 for a truth, 3 for a cell and
-- 0 for none; its value; the place; the steps; and the high marks.
abbrev pub run_refusal : Answer → ℕ
run_refusal (outcome o) = 0
run_refusal (refused x p) = refusal_number x

abbrev pub run_outcome : Answer → ℕ
run_outcome (outcome (number z)) = 1
run_outcome (outcome (truth_of b)) = 2
run_outcome (outcome (cell l)) = 3
run_outcome (outcome nothing) = 0
run_outcome (refused x p) = 0

abbrev pub run_value : Answer → ℕ
run_value (outcome (number z)) = word_of z
run_value (outcome (truth_of b)) = truth_word b
run_value (outcome (cell l)) = l
run_value (outcome nothing) = 0
run_value (refused x p) = 0

abbrev pub run_place : Answer → ℕ
run_place (outcome o) = 0
run_place (refused x p) = p

pub record RunReplies (r : Reply) (reply : RunReply) : Type 0 where
  pub refusal_is : reply.refusal ≡ run_refusal r.answer
  pub outcome_is : reply.outcome ≡ run_outcome r.answer
  pub value_is : reply.value ≡ run_value r.answer
  pub place_is : reply.place ≡ run_place r.answer
  pub steps_are : reply.steps ≡ r.steps
  pub cells_are : reply.cells ≡ r.most cells
  pub bindings_are : reply.bindings ≡ r.most bindings
  pub values_are : reply.values ≡ r.most values
  pub control_is : reply.control ≡ r.most control

-- The fields, from what the code answers: of an outcome, with no step and no marks; and of a run.
abbrev pub without_steps : (refusal outcome value place : ℕ) → RunReply
without_steps x o v p = record { refusal = x; outcome = o; value = v; place = p; steps = 0; cells = 0; bindings = 0; values = 0; control = 0 }

abbrev pub outcome_fields : Result Outcome Refused → RunReply
outcome_fields (Ok (Number w)) = without_steps 0 1 w 0
outcome_fields (Ok (Truth b)) = without_steps 0 2 (truth_word b) 0
outcome_fields (Ok (Location l)) = without_steps 0 3 l 0
outcome_fields (Ok Nothing) = without_steps 0 0 0 0
outcome_fields (Err r) = without_steps (refusal_number r.refusal) 0 0 r.place

abbrev pub run_fields : Ran → RunReply
run_fields a =
    let o = outcome_fields a.outcome in
    record {
      refusal = o.refusal;
      outcome = o.outcome;
      value = o.value;
      place = o.place;
      steps = a.steps;
      cells = a.marks.cells;
      bindings = a.marks.bindings;
      values = a.marks.values;
      control = a.marks.control;
    }

-- What a run answers to a C host and leaves: the call's reply, its registers laid out as words or bytes, and its work words.
pub record RunCalled (layout : List ℤ → List ℕ) (c : Called) (reply : RunReply) (registers work : List ℕ) : Type 0 where
  pub reply_is : RunReplies c.reply reply
  pub registers_are : registers ≡ layout c.registers
  pub work_is : work ≡ c.work
