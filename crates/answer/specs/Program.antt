-- The program as one function (paper, "The program and its cases"): from the bytes of standard input to the bytes of standard output.
use Rattle.std.specs.Prelude.{ℕ, suc, ◌+◌, ◌*◌, Bool, true, cond, List, [], ◌∷◌, ◌++◌, eqb, ltb, ℤ, length, take, drop, replicate}
use Rattle.rules.specs.paper.Refusals.{refusal_number}
use Rattle.rules.specs.declared.refusals.Refusal.TheVariants.{Length, Size}
use Rattle.rules.specs.paper.Limits.{most_budget, work_words}
use Rattle.rules.specs.claims.Listing.{truth_word}
use Rattle.rules.specs.paper.Reader.{size_fits}
use Rattle.rules.specs.paper.Needs.{control, values, cells, bindings, Sizes}
use Rattle.rules.specs.paper.Engine.{number, truth_of, cell, nothing, Answer, outcome, refused, Called, refusing, engine}
use Rattle.integers.specs.Words.{integers_of}
use Rattle.rules.specs.paper.Decimal.{ascii, decimal, integer}
use Rattle.little_endian.specs.Numbers.{little_endian, numbers}

-- A line ends in a newline.
abbrev pub line : List ℕ → List ℕ
line text = text ++ ascii "\n"

-- `number V`, `truth 0` or `truth 1`, `cell V`, `none`, `refused N at P`.
unfoldable pub outcome_text : Answer → List ℕ
outcome_text (outcome (number z)) = ascii "number " ++ integer z
outcome_text (outcome (truth_of b)) = ascii "truth " ++ decimal (truth_word b)
outcome_text (outcome (cell l)) = ascii "cell " ++ decimal l
outcome_text (outcome nothing) = ascii "none"
outcome_text (refused x p) = ascii "refused " ++ decimal (refusal_number x) ++ ascii " at " ++ decimal p

-- `most C B V K`: the most cells, bindings, value entries and control entries over all states reached.
abbrev pub spaced : ℕ → List ℕ
spaced n = ascii " " ++ decimal n

unfoldable pub most_text : Sizes → List ℕ
most_text m = ascii "most " ++ decimal (m cells) ++ spaced (m bindings) ++ spaced (m values) ++ spaced (m control)

unfoldable pub register_text : ℕ → ℤ → List ℕ
register_text i z = ascii "register " ++ decimal i ++ ascii " " ++ integer z

unfoldable pub register_lines : (first : ℕ) → List ℤ → List ℕ
register_lines i [] = []
register_lines i (z ∷ zs) = line (register_text i z) ++ register_lines (suc i) zs

-- Refusals before the run, 1 to 22, show no registers.
abbrev pub last_before_run : ℕ
last_before_run = 22

abbrev pub shows_registers : Answer → Bool
shows_registers (outcome o) = true
shows_registers (refused x p) = ltb last_before_run (refusal_number x)

-- The outcome, the steps, the high marks and the registers, a line each.
unfoldable pub answer_text : Called → List ℕ
answer_text c =
    line (outcome_text c.reply.answer) ++ line (ascii "steps " ++ decimal c.reply.steps) ++ line (most_text c.reply.most) ++
    cond (shows_registers c.reply.answer) (register_lines 0 c.registers) []

-- The byte count of an input: 4 bytes for each of the image's 2 + 2n words, 8 for each of the r starting values.
abbrev pub input_bytes : (n r : ℕ) → ℕ
input_bytes n r = 8 + 8 * n + 8 * r

-- The engine on so many words of an input and so many values behind them, 8 bytes each.
abbrev pub run_numbers : (words count : ℕ) (input work : List ℕ) → Called
run_numbers words count input work = engine (numbers 4 words input) (integers_of (numbers 8 count (drop (4 * words) input))) most_budget work

-- The engine on the image's 2 + 2n words and the r starting values behind it.
unfoldable pub run_input : (n r : ℕ) → List ℕ → Called
run_input n r input =
    engine (numbers 4 (2 + 2 * n) input) (integers_of (numbers 8 r (drop (8 + 8 * n) input))) most_budget (replicate work_words 0)

-- Too short for n and r: 1. n or r out of range: 2. A byte count that does not fit them: 1. Else the run.
unfoldable pub call_input : List ℕ → Called
call_input input =
    let n = little_endian (take 4 input) in
    let r = little_endian (take 4 (drop 4 input)) in
    let fitting = cond (eqb (length input) (input_bytes n r)) (run_input n r input) (refusing Length 0 [] []) in
    let sized = cond (size_fits n r) fitting (refusing Size 0 [] []) in
    cond (ltb (length input) 8) (refusing Length 0 [] []) sized

unfoldable pub program : List ℕ → List ℕ
program input = answer_text (call_input input)
