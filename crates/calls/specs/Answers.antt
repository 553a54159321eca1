-- What `check` answers, by the definitions of the rules: what the root is, or the refusal with its place.
use Rattle.std.specs.Prelude.{ℕ, ◌<◌, ◌≤◌, ◌≡◌, List, length, Result, Ok, Err}
use Rattle.rules.specs.Answers.{refused_at}
use Rattle.rules.specs.declared.kinds.Passed.{Passed}
use Rattle.rules.specs.declared.kinds.Passed.TheVariants.{Expression as expression_of_code, Command as a_command}
use Rattle.rules.specs.declared.refusals.Refusal.{Refusal}
use Rattle.rules.specs.declared.refusals.Refusal.TheVariants.{Work}
use Rattle.rules.specs.declared.refusals.Refused.{Refused}
use Rattle.rules.specs.paper.Limits.{work_words}
use Rattle.rules.specs.paper.Engine.{CheckAnswer, root_code, root_command, not_passed}

abbrev pub check_reply : CheckAnswer → Result Passed Refused
check_reply (root_code c) = Ok (expression_of_code c)
check_reply root_command = Ok a_command
check_reply (not_passed x p) = refused_at x p

-- A refusal that has no place.
abbrev pub without_place : Refusal → Refused
without_place x = record { refusal = x; place = 0 }

-- A caller lends as many work words as a call may write, or is refused.
abbrev pub WordsLent : List ℕ → Result (Unit {0}) Refused → Type 0
WordsLent work (Ok u) = work_words ≤ length work
WordsLent work (Err x) = (length work < work_words) × (x ≡ without_place Work)
