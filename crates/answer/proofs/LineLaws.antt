-- The lines of an answer, put together from their texts.
use Prim.Native.Nat.{ℕ, suc, ◌+◌, ◌*◌, ◌<◌, ◌≤◌}
use mathlib.Core.Path.{◌≡◌, refl, sym, ap, ◌∙◌}
use mathlib.Core.Bool.{Bool, true, false, cond}
use mathlib.Core.List.{List, [], ◌∷◌, ◌++◌, append-nil, append_assoc}
use native.Mathlib.Omega.{arith}
use native.Mathlib.Nat.{add-zero, zero-add}
use lib.IntN.{ℤ}
use lib.ListN.{length, take, get_or}
use lib.Seq.{take-suc, length-take-le}
use Rattle.answer.specs.Sizes.{outcome_bytes, steps_bytes, marks_bytes, register_line_bytes, register_lines_bytes}
use Rattle.integers.specs.Words.{integer_of, integers_of}
use Rattle.integers.specs.WordLaws.{integers_length}
use Rattle.rules.specs.paper.Refusals.{refusal_number}
use Rattle.rules.specs.declared.refusals.Refused.{Refused}
use Rattle.rules.specs.claims.Listing.{truth_word}
use Rattle.automaton.specs.declared.meter.HighMarks.{HighMarks}
use Rattle.calls.specs.declared.Ran.{Ran}
use Rattle.calls.specs.declared.Outcome.TheVariants.{Number, Truth, Location, Nothing}
use Rattle.std.specs.Prelude.{Ok, Err}
use Rattle.rules.specs.paper.Decimal.{ascii, decimal, integer}
use Rattle.answer.specs.Program.{line, spaced, register_text, register_lines}
use Rattle.answer.specs.Adding.{Adds}
use Rattle.answer.specs.Writing.{refused_text, ran_text, ran_shows, marks_text, ran_answer}
use Rattle.answer.proofs.PutLaws.{adds_then, adds_as}

-- ---- The outcome.

module _ {before after : List ℕ} where
  pub number_text : (w : ℕ) → Adds 28 before (ascii "number " ++ integer (integer_of w)) after → Adds outcome_bytes before (ran_text (Ok (Number w))) after
  unfolding ran_text
  number_text w p = adds_as outcome_bytes refl (omega arith) p

  pub truth_text : (b : Bool) → Adds 26 before (ascii "truth " ++ decimal (truth_word b)) after → Adds outcome_bytes before (ran_text (Ok (Truth b))) after
  unfolding ran_text
  truth_text b p = adds_as outcome_bytes refl (omega arith) p

  pub cell_text : (l : ℕ) → Adds 25 before (ascii "cell " ++ decimal l) after → Adds outcome_bytes before (ran_text (Ok (Location l))) after
  unfolding ran_text
  cell_text l p = adds_as outcome_bytes refl (omega arith) p

  pub none_text : Adds 4 before (ascii "none") after → Adds outcome_bytes before (ran_text (Ok Nothing)) after
  unfolding ran_text
  none_text p = adds_as outcome_bytes refl (omega arith) p

  pub refusal_text : (r : Refused) → Adds outcome_bytes before (refused_text r) after → Adds outcome_bytes before (ran_text (Err r)) after
  unfolding ran_text
  refusal_text r p = p

  pub refused_parts : (r : Refused) {middle : List ℕ} → Adds 28 before (ascii "refused " ++ decimal (refusal_number r.refusal)) middle → Adds 24 middle (ascii " at " ++ decimal r.place) after →
      Adds outcome_bytes before (refused_text r) after
  unfolding refused_text
  refused_parts r f g =
      adds_as outcome_bytes (sym (append_assoc (ascii "refused " ++ decimal (refusal_number r.refusal)) (ascii " at ") (decimal r.place))) (omega arith) (adds_then f g)

-- ---- The marks, and a register.

module _ {before after : List ℕ} where
  pub marks_line : {second third fourth fifth : List ℕ} (h : HighMarks) → Adds 25 before (ascii "most " ++ decimal h.cells) second → Adds 21 second (spaced h.bindings) third → Adds 21 third (spaced h.values) fourth →
      Adds 21 fourth (spaced h.control) fifth → Adds 1 fifth (ascii "\n") after → Adds marks_bytes before (line (marks_text h)) after
  unfolding marks_text
  marks_line h p q r s t = adds_as marks_bytes refl (omega arith) (adds_then (adds_then (adds_then (adds_then p q) r) s) t)

  pub register_line : {second third : List ℕ} (i w : ℕ) → Adds 29 before (ascii "register " ++ decimal i) second → Adds 22 second (ascii " " ++ integer (integer_of w)) third → Adds 1 third (ascii "\n") after →
      Adds register_line_bytes before (line (register_text i (integer_of w))) after
  unfolding register_text
  register_line i w p q r =
      adds_as register_line_bytes (ap line (sym (append_assoc (ascii "register " ++ decimal i) (ascii " ") (integer (integer_of w))))) (omega arith) (adds_then (adds_then p q) r)

-- ---- The registers, one by one.

-- The lines of the first i registers are written.
pub record Lined (before registers : List ℕ) (i : ℕ) (after : List ℕ) : Type 0 where
  pub some : i ≤ length registers
  pub lines : Adds (register_line_bytes * i) before (register_lines 0 (integers_of (take i registers))) after

one_more_integer : (ws : List ℕ) (w : ℕ) → integers_of (ws ++ (w ∷ [])) ≡ integers_of ws ++ (integer_of w ∷ [])
unfolding integers_of
one_more_integer [] w = refl
one_more_integer (v ∷ ws) w = ap {B = List ℤ} (λ l. integer_of v ∷ l) (one_more_integer ws w)

one_more_line : (first : ℕ) (zs : List ℤ) (z : ℤ) → register_lines first (zs ++ (z ∷ [])) ≡ register_lines first zs ++ line (register_text (first + length zs) z)
unfolding register_lines
one_more_line first [] z = append-nil (line (register_text first z)) ∙ ap (λ k. line (register_text k z)) (sym (add-zero first))
one_more_line first (y ∷ zs) z =
    ap (λ l. line (register_text first y) ++ l) (one_more_line (suc first) zs z ∙ ap (λ k. register_lines (suc first) zs ++ line (register_text k z)) (moved first (length zs)))
    ∙ sym (append_assoc (line (register_text first y)) (register_lines (suc first) zs) (line (register_text (first + suc (length zs)) z)))
  where
    moved : (a b : ℕ) → suc a + b ≡ a + suc b
    moved a b = omega arith

next_lines : (registers : List ℕ) (i : ℕ) → i < length registers →
    register_lines 0 (integers_of (take i registers)) ++ line (register_text i (integer_of (get_or registers i 0))) ≡ register_lines 0 (integers_of (take (i + 1) registers))
next_lines registers i h =
    sym (ap (λ k. register_lines 0 (integers_of (take k registers))) (one_more i) ∙
    ap (λ l. register_lines 0 (integers_of l)) (take-suc registers i 0 h) ∙
    ap (register_lines 0) (one_more_integer (take i registers) (get_or registers i 0)) ∙
    one_more_line 0 (integers_of (take i registers)) (integer_of (get_or registers i 0)) ∙
    ap (λ k. register_lines 0 (integers_of (take i registers)) ++ line (register_text k (integer_of (get_or registers i 0)))) counted)
  where
    one_more : (i : ℕ) → i + 1 ≡ suc i
    one_more i = omega arith

    counted : 0 + length (integers_of (take i registers)) ≡ i
    counted = zero-add (length (integers_of (take i registers))) ∙ integers_length (take i registers) ∙ length-take-le i registers (omega (arith, h))

pub lined_none : (before registers : List ℕ) → Lined before registers 0 before
unfolding register_lines integers_of
lined_none before registers = record { some = omega arith; lines = record { added = sym (append-nil before); short = omega arith } }

pub lined_next : (before registers : List ℕ) {middle after : List ℕ} (i : ℕ) → Lined before registers i middle → i < length registers →
    Adds register_line_bytes middle (line (register_text i (integer_of (get_or registers i 0)))) after → Lined before registers (i + 1) after
lined_next before registers i l h p = record { some = omega (arith, h); lines = adds_as (register_line_bytes * (i + 1)) (next_lines registers i h) (omega arith) (adds_then l.lines p) }

-- ---- The whole answer.

module _ {second third fourth : List ℕ} (answer : Ran) (outcome : Adds outcome_bytes [] (ran_text answer.outcome) second) (counted : Adds steps_bytes second (ascii "\n" ++ line (ascii "steps " ++ decimal answer.steps)) third)
    (marked : Adds marks_bytes third (line (marks_text answer.marks)) fourth) where
  abbrev texts : List ℕ
  texts = line (ran_text answer.outcome) ++ line (ascii "steps " ++ decimal answer.steps) ++ line (marks_text answer.marks)

  three_lines : fourth ≡ texts
  three_lines =
      (adds_then (adds_as 80 (sym (append_assoc (ran_text answer.outcome) (ascii "\n") (line (ascii "steps " ++ decimal answer.steps)))) (omega arith) (adds_then outcome counted)) marked).added

  pub answer_with_registers : {after : List ℕ} (zs : List ℤ) → true ≡ ran_shows answer.outcome → Adds register_lines_bytes fourth (register_lines 0 zs) after → after ≡ ran_answer answer zs
  unfolding ran_answer
  answer_with_registers zs shows p = p.added ∙ ap (λ l. l ++ register_lines 0 zs) three_lines ∙ ap (λ t. texts ++ cond t (register_lines 0 zs) []) shows

  pub answer_without : (zs : List ℤ) → false ≡ ran_shows answer.outcome → fourth ≡ ran_answer answer zs
  unfolding ran_answer
  answer_without zs shows = three_lines ∙ sym (append-nil texts) ∙ ap (λ t. texts ++ cond t (register_lines 0 zs) []) shows
