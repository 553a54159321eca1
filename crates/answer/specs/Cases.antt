-- Cases of the program, computed: the paper's whole output for 5 × (3 + 2), a register below zero, inputs whose byte count fits nothing, and
-- slots with no routine.
use Rattle.std.specs.Prelude.{ℕ, ◌≡◌, refl, List, [], ◌∷◌, ◌++◌, replicate}
use Rattle.rules.specs.paper.Refusals.{reason_number, refusal_number}
use Rattle.rules.specs.paper.Kinds.{kind_of, operand_fits}
use Rattle.rules.specs.paper.Reader.{node, read_expression, read_many, read_formal, read_command, read_root, nodes_of, read}
use Rattle.rules.specs.paper.Checker.{meaning_of, expression_code, expression_codes, has_name, shares_name, distinct, with_formals, command_ok, register_scope, root_is}
use Rattle.rules.specs.paper.Integers.{compute, compare, equal_integers, equal_truths, combine}
use Rattle.rules.specs.paper.States.{lookup, join, find, store_at, in_set, remove}
use Rattle.rules.specs.paper.Rules.{put_actuals, match_formals}
use Rattle.rules.specs.paper.Fire.{fire_expression, fire_command, fire_operator, fire_mark, fire_item, fire}
use Rattle.rules.specs.paper.Run.{priority, holds, first_holding, judge, run}
use Rattle.rules.specs.paper.HighMarks.{high_marks}
use Rattle.rules.specs.paper.Engine.{check_image, register_environment, register_store, start, registers_from, engine}
use Rattle.integers.specs.Words.{integer_of, integers_of}
use Rattle.rules.specs.paper.Decimal.{ascii, digits_within, decimal, integer}
use Rattle.little_endian.specs.Numbers.{little_endian, numbers}
use Rattle.answer.specs.Program.{outcome_text, most_text, register_text, register_lines, answer_text, run_input, call_input, program}

-- Words below 256, four bytes each.
abbrev words : List ℕ → List ℕ
words [] = []
words (w ∷ ws) = w ∷ 0 ∷ 0 ∷ 0 ∷ words ws

-- 5 × (3 + 2)
abbrev product : List ℕ
product = words (5 ∷ 0 ∷ 6 ∷ 1 ∷ 4 ∷ 1 ∷ 1 ∷ 0 ∷ 5 ∷ 0 ∷ 3 ∷ 2 ∷ [])

-- −7 as a starting value
abbrev minus_seven : List ℕ
minus_seven = 249 ∷ replicate 7 255

-- register 0 = −7, Div(Id 0, 2)
abbrev quotient : List ℕ
quotient = words (3 ∷ 1 ∷ 7 ∷ 3 ∷ 1 ∷ 0 ∷ 0 ∷ 2 ∷ []) ++ minus_seven

pub record CasesHold : Type 0 where
  pub a_number : program product ≡ ascii "number 25\nsteps 7\nmost 0 0 3 4\n"
  pub a_register : program quotient ≡ ascii "number -4\nsteps 4\nmost 1 1 2 3\nregister 0 -7\n"
  pub no_bytes : program [] ≡ ascii "refused 1 at 0\nsteps 0\nmost 0 0 0 0\n"
  pub one_byte_more : program (product ++ 0 ∷ []) ≡ ascii "refused 1 at 0\nsteps 0\nmost 0 0 0 0\n"
  pub no_routine : program (words (0 ∷ 0 ∷ [])) ≡ ascii "none\nsteps 0\nmost 0 0 0 0\n"
  pub no_routine_one_register : program (words (0 ∷ 1 ∷ []) ++ minus_seven) ≡ ascii "none\nsteps 0\nmost 1 1 0 0\nregister 0 -7\n"
  pub no_routine_one_word_more : program (words (0 ∷ 0 ∷ 0 ∷ [])) ≡ ascii "refused 1 at 0\nsteps 0\nmost 0 0 0 0\n"
  pub no_routine_many_registers : program (words (0 ∷ 17 ∷ [])) ≡ ascii "refused 2 at 0\nsteps 0\nmost 0 0 0 0\n"

pub cases_hold : CasesHold
unfolding program call_input run_input answer_text most_text register_lines register_text outcome_text little_endian numbers integer decimal digits_within integers_of integer_of refusal_number engine check_image read read_root read_command read_expression read_many read_formal node nodes_of kind_of operand_fits root_is register_scope command_ok expression_codes expression_code meaning_of has_name shares_name distinct with_formals start register_environment register_store run high_marks judge holds first_holding priority reason_number fire fire_item fire_expression fire_command fire_mark fire_operator compute compare equal_integers equal_truths combine lookup join find store_at in_set remove put_actuals match_formals registers_from
cases_hold =
    record {
      a_number = refl;
      a_register = refl;
      no_bytes = refl;
      one_byte_more = refl;
      no_routine = refl;
      no_routine_one_register = refl;
      no_routine_one_word_more = refl;
      no_routine_many_registers = refl;
    }
