-- What the functions that write an answer do, in the code's words: an answer as `run` gives it.
use Rattle.std.specs.Prelude.{ℕ, ◌≤◌, ◌≡◌, Bool, true, cond, List, [], ◌++◌, ltb, ℤ, length, Result, Ok, Err}
use Rattle.rules.specs.paper.Refusals.{refusal_number}
use Rattle.rules.specs.declared.refusals.Refusal.{Refusal}
use Rattle.rules.specs.declared.refusals.Refused.{Refused}
use Rattle.rules.specs.paper.Limits.{most_nodes, most_registers}
use Rattle.rules.specs.paper.Decimal.{ascii, decimal, integer}
use Rattle.rules.specs.claims.Listing.{truth_word}
use Rattle.integers.specs.Words.{integer_of}
use Rattle.automaton.specs.declared.meter.HighMarks.{HighMarks}
use Rattle.calls.specs.Runs.{unstarted_with}
use Rattle.calls.specs.declared.Ran.{Ran}
use Rattle.calls.specs.declared.Outcome.{Outcome}
use Rattle.calls.specs.declared.Outcome.TheVariants.{Number, Truth, Location, Nothing}
use Rattle.answer.specs.Program.{line, spaced, register_lines, last_before_run, answer_text, input_bytes, run_input, program}
use Rattle.answer.specs.declared.input.Counts.{Counts}

unfoldable pub refused_text : Refused → List ℕ
refused_text r = ascii "refused " ++ decimal (refusal_number r.refusal) ++ ascii " at " ++ decimal r.place

unfoldable pub ran_text : Result Outcome Refused → List ℕ
ran_text (Ok (Number w)) = ascii "number " ++ integer (integer_of w)
ran_text (Ok (Truth b)) = ascii "truth " ++ decimal (truth_word b)
ran_text (Ok (Location l)) = ascii "cell " ++ decimal l
ran_text (Ok Nothing) = ascii "none"
ran_text (Err r) = refused_text r

abbrev pub ran_shows : Result Outcome Refused → Bool
ran_shows (Ok o) = true
ran_shows (Err r) = ltb last_before_run (refusal_number r.refusal)

unfoldable pub marks_text : HighMarks → List ℕ
marks_text h = ascii "most " ++ decimal h.cells ++ spaced h.bindings ++ spaced h.values ++ spaced h.control

unfoldable pub ran_answer : Ran → List ℤ → List ℕ
ran_answer r zs = line (ran_text r.outcome) ++ line (ascii "steps " ++ decimal r.steps) ++ line (marks_text r.marks) ++ cond (ran_shows r.outcome) (register_lines 0 zs) []

-- The answer to an input that is refused before its image is read.
abbrev pub refusal_answer : Refusal → List ℕ
refusal_answer x = ran_answer (unstarted_with (record { refusal = x; place = 0 })) []

-- What an input's counts come to: they fit its byte count, or it is refused.
pub record CountsFit (n r : ℕ) (input : List ℕ) : Type 0 where
  pub few_nodes : n ≤ most_nodes
  pub few_registers : r ≤ most_registers
  pub bytes : length input ≡ input_bytes n r
  pub answer : program input ≡ answer_text (run_input n r input)

abbrev pub CountAnswer : (input : List ℕ) → Result Counts Refusal → Type 0
CountAnswer input (Ok counts) = CountsFit counts.nodes counts.registers input
CountAnswer input (Err x) = program input ≡ refusal_answer x
