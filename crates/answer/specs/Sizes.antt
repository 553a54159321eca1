-- How many bytes each part of an answer has at most.
use Rattle.std.specs.Prelude.{ℕ, ◌*◌}
use Rattle.rules.specs.paper.Limits.{most_registers}

-- A number below 2^64 has at most 20 digits, and an integer may have a minus in front.
abbrev pub number_bytes : ℕ
number_bytes = 20

abbrev pub integer_bytes : ℕ
integer_bytes = 21

-- `refused N at P` is the longest outcome: 8 + 20 + 4 + 20.
abbrev pub outcome_bytes : ℕ
outcome_bytes = 52

-- A newline, `steps K` and its newline: 1 + 6 + 20 + 1.
abbrev pub steps_bytes : ℕ
steps_bytes = 28

-- `most C B V K` and its newline: 4 + 4 × (1 + 20) + 1.
abbrev pub marks_bytes : ℕ
marks_bytes = 89

-- `register I V` and its newline: 9 + 20 + 1 + 21 + 1.
abbrev pub register_line_bytes : ℕ
register_line_bytes = 52

abbrev pub register_lines_bytes : ℕ
register_lines_bytes = most_registers * register_line_bytes

-- The room for an answer: its parts are 52 + 28 + 89 + 832 = 1,001.
abbrev pub answer_bytes : ℕ
answer_bytes = 1024
