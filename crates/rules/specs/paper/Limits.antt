-- The paper's limits, each once, by name.
use Rattle.std.specs.Prelude.{ℕ}

-- "The image"
abbrev pub most_nodes : ℕ
most_nodes = 2000

abbrev pub most_registers : ℕ
most_registers = 16

-- words are of 32 bits, unsigned
abbrev pub words : ℕ
words = 4294967296

-- names are 0 to 63
abbrev pub names : ℕ
names = 64

-- type codes are 0 to 7: base + 2 × level, base 0 integer or 1 boolean, level 0 to 3
abbrev pub codes : ℕ
codes = 8

-- codes 0 and 1, an integer and a truth, are plain; a code above them is a location's
abbrev pub plain_codes : ℕ
plain_codes = 2

-- actuals of a Call, Formals of an Abs: 0 to 8
abbrev pub most_parameters : ℕ
most_parameters = 8

abbrev pub most_depth : ℕ
most_depth = 64

-- "Limits"
abbrev pub most_cells : ℕ
most_cells = 256

abbrev pub most_bindings : ℕ
most_bindings = 512

abbrev pub most_value_entries : ℕ
most_value_entries = 512

abbrev pub most_control_entries : ℕ
most_control_entries = 512

-- "What the engine says no with"
abbrev pub most_budget : ℕ
most_budget = 1000000

-- "Needs of a routine before it is loaded" (document 02): the most steps that are given as a figure
abbrev pub most_steps : ℕ
most_steps = 1000000

abbrev pub work_words : ℕ
work_words = 8192
