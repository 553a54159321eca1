-- The text of an answer in the code's words is that of the engine's call.
use Prim.Native.Nat.{ℕ, ◌+◌, ◌*◌, ◌<◌, ◌≤◌}
use mathlib.Core.Path.{◌≡◌, refl, ap, ◌∙◌}
use mathlib.Core.Bool.{Bool, cond}
use mathlib.Core.List.{List, [], ◌++◌}
use native.Mathlib.Omega.{arith}
use lib.IntN.{ℤ}
use lib.ListN.{length, take, drop, get_or, replicate, length-replicate}
use lib.Seq.{length-take-le}
use Rattle.calls.specs.Sizes.{most_image_words}
use Rattle.rules.specs.paper.Limits.{most_budget, work_words, most_nodes, most_registers}
use Rattle.rules.specs.paper.Engine.{number, truth_of, cell, nothing, Answer, outcome, refused, Called, engine}
use Rattle.integers.specs.Words.{integers_of, words_of}
use Rattle.integers.specs.WordLaws.{integer_of_word}
use Rattle.calls.specs.Runs.{outcome_reply, run_reply, run_call, RanAs}
use Rattle.calls.specs.Delivered.{all_in_range}
use Rattle.rules.specs.paper.Needs.{Sizes}
use Rattle.automaton.specs.Runs.{marks_of}
use Rattle.calls.specs.declared.Ran.{Ran}
use Rattle.rules.specs.paper.Decimal.{ascii, decimal, integer}
use Rattle.little_endian.specs.Numbers.{numbers}
use Rattle.answer.specs.Program.{line, outcome_text, most_text, register_lines, shows_registers, answer_text, run_numbers, run_input}
use Rattle.answer.specs.Writing.{refused_text, ran_text, ran_shows, marks_text, ran_answer}
use Rattle.answer.proofs.RangeLaws.{RangedAnswer, Ranged, integers_back, engine_ranged}

same_text : (a : Answer) → RangedAnswer a → ran_text (outcome_reply a) ≡ outcome_text a
unfolding ran_text outcome_text refused_text
same_text (outcome (number z)) h = ap (λ y. ascii "number " ++ integer y) (integer_of_word z h)
same_text (outcome (truth_of b)) h = refl
same_text (outcome (cell l)) h = refl
same_text (outcome nothing) h = refl
same_text (refused x p) h = refl

same_shows : (a : Answer) → ran_shows (outcome_reply a) ≡ shows_registers a
same_shows (outcome (number z)) = refl
same_shows (outcome (truth_of b)) = refl
same_shows (outcome (cell l)) = refl
same_shows (outcome nothing) = refl
same_shows (refused x p) = refl

same_marks : (m : Sizes) → marks_text (marks_of m) ≡ most_text m
unfolding marks_text most_text
same_marks m = refl

same_answer : (c : Called) → Ranged c → ran_answer (run_reply c.reply) (integers_of (words_of c.registers)) ≡ answer_text c
unfolding ran_answer answer_text
same_answer c ranged =
    let a = c.reply.answer in
    λ i. lines_of (same_text a ranged.answer i) (same_marks c.reply.most i) (same_shows a i) (integers_back c.registers ranged.registers i)
  where
    lines_of : (text marks : List ℕ) (shows : Bool) → List ℤ → List ℕ
    lines_of text marks shows zs = line text ++ line (ascii "steps " ++ decimal c.reply.steps) ++ line marks ++ cond shows (register_lines 0 zs) []

-- The text of an answer after a run is that of the engine's call.
pub ran_text_is : (image registers work last_registers last_work : List ℕ) (r : Ran) → ((i : ℕ) → i < length registers → get_or registers i 0 < 18446744073709551616) →
    RanAs (run_call image registers most_budget work) r last_registers last_work → ran_answer r (integers_of last_registers) ≡ answer_text (run_call image registers most_budget work)
ran_text_is image registers work last_registers last_work r low done =
    ap (λ a. ran_answer a (integers_of last_registers)) done.answer_is
    ∙ ap (λ l. ran_answer (run_reply (run_call image registers most_budget work).reply) (integers_of l)) done.registers_are
    ∙ same_answer (run_call image registers most_budget work) (engine_ranged image (integers_of registers) (all_in_range registers low) most_budget work)

-- ---- The room for a run.

abbrev image_room : List ℕ
image_room = replicate most_image_words 0

abbrev register_room : List ℕ
register_room = replicate most_registers 0

image_fits : (nodes : ℕ) → nodes ≤ most_nodes → length (take (2 + 2 * nodes) image_room) ≡ 2 + 2 * nodes
image_fits nodes few = length-take-le (2 + 2 * nodes) image_room (omega (arith, few, length-replicate {A = ℕ} most_image_words 0))

registers_fit : (count : ℕ) → count ≤ most_registers → length (take count register_room) ≡ count
registers_fit count few = length-take-le count register_room (omega (arith, few, length-replicate {A = ℕ} most_registers 0))

pub counted_answer : (input : List ℕ) (nodes count : ℕ) → nodes ≤ most_nodes → count ≤ most_registers →
    answer_text (run_numbers (length (take (2 + 2 * nodes) image_room)) (length (take count register_room)) input (replicate work_words 0)) ≡ answer_text (run_input nodes count input)
unfolding run_input
counted_answer input nodes count few_nodes few_registers =
    ap (λ k. called k (length (take count register_room)) (4 * k)) (image_fits nodes few_nodes)
    ∙ ap (λ k. called (2 + 2 * nodes) k (4 * (2 + 2 * nodes))) (registers_fit count few_registers)
    ∙ ap (called (2 + 2 * nodes) count) (eight nodes)
  where
    called : (words values from : ℕ) → List ℕ
    called words values from = answer_text (engine (numbers 4 words input) (integers_of (numbers 8 values (drop from input))) most_budget (replicate work_words 0))

    eight : (n : ℕ) → 4 * (2 + 2 * n) ≡ 8 + 8 * n
    eight n = omega arith
