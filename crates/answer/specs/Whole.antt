-- How a whole answer is told from one that was cut: by its lines. An answer has 3 lines, and one more for each register where it shows
-- them; and of all that an answer begins with, only the answer itself has as many. `tools/whole.sh` tests this.
use Rattle.std.specs.Prelude.{ℕ, zero, suc, ◌+◌, ◌/◌, ◌%◌, ◌<◌, ◌≡◌, refl, Bool, true, false, cond, List, [], ◌∷◌, ◌++◌, eqb, ltb, ℤ, pos, negsuc, length, take, drop}
use Rattle.std.proofs.Common.{arith, sym, ap, ◌∙◌, take-append-drop, ne_eqb, eq-eqb}
use Rattle.rules.specs.paper.Refusals.{refusal_number}
use Rattle.rules.specs.paper.Needs.{control, values, cells, bindings, Sizes}
use Rattle.rules.specs.paper.Engine.{number, truth_of, cell, nothing, Answer, outcome, refused, Called}
use Rattle.rules.specs.claims.Listing.{truth_word}
use Rattle.little_endian.specs.Numbers.{little_endian}
use Rattle.answer.specs.RegistersShown.{registers_shown}
use Rattle.rules.specs.paper.Decimal.{ascii, digit, digits_within, decimal, integer}
use Rattle.answer.specs.Program.{line, spaced, outcome_text, most_text, register_text, register_lines, shows_registers, answer_text, call_input, program}

abbrev pub newline : ℕ
newline = 10

-- How many newlines there are among these bytes.
unfoldable pub newlines : List ℕ → ℕ
newlines [] = 0
newlines (b ∷ bs) = cond (eqb b newline) 1 0 + newlines bs

-- What an answer's lines tell: they are 3, and one for each of the input's registers where the answer shows them; and of all that the
-- answer begins with, only the answer itself has as many.
pub record ToldByLines (input : List ℕ) : Type 0 where
  pub lines : newlines (program input) ≡ 3 + cond (shows_registers (call_input input).reply.answer) (little_endian (take 4 (drop 4 input))) 0
  pub whole : (k : ℕ) → newlines (take k (program input)) ≡ newlines (program input) → take k (program input) ≡ program input

-- The lines of an answer.
abbrev answer_lines : Called → ℕ
answer_lines c = 3 + cond (shows_registers c.reply.answer) (length c.registers) 0

newlines_append : (xs ys : List ℕ) → newlines (xs ++ ys) ≡ newlines xs + newlines ys
unfolding newlines
newlines_append [] ys = omega arith
newlines_append (x ∷ xs) ys = omega (arith, newlines_append xs ys)

newlines_line : (text : List ℕ) → newlines text ≡ 0 → newlines (line text) ≡ 1
unfolding newlines
newlines_line text e = newlines_append text (ascii "\n") ∙ omega (arith, e)

no_newline_digit : (n : ℕ) → newlines (digit n ∷ []) ≡ 0
unfolding newlines
no_newline_digit n = ap (λ (b : Bool). cond b 1 0 + 0) (ne_eqb (digit n) newline (λ e. absurd (omega (arith, e))))

digit_or_more : (b : Bool) (n : ℕ) (front : List ℕ) → newlines front ≡ 0 → newlines (cond b (digit n ∷ []) (front ++ (digit (n % 10) ∷ []))) ≡ 0
digit_or_more true n front e = no_newline_digit n
digit_or_more false n front e = newlines_append front (digit (n % 10) ∷ []) ∙ omega (arith, e, no_newline_digit (n % 10))

no_newline_digits : (k n : ℕ) → newlines (digits_within k n) ≡ 0
unfolding newlines digits_within
no_newline_digits zero n = refl
no_newline_digits (suc k) n = digit_or_more (ltb n 10) n (digits_within k (n / 10)) (no_newline_digits k (n / 10))

no_newline_decimal : (n : ℕ) → newlines (decimal n) ≡ 0
unfolding decimal
no_newline_decimal n = no_newline_digits (suc n) n

no_newline_integer : (z : ℤ) → newlines (integer z) ≡ 0
unfolding integer newlines
no_newline_integer (pos n) = no_newline_decimal n
no_newline_integer (negsuc n) = omega (arith, no_newline_decimal (suc n))

-- A label and a text behind it.
labelled : (label text : List ℕ) → newlines label ≡ 0 → newlines text ≡ 0 → newlines (label ++ text) ≡ 0
labelled label text e d = newlines_append label text ∙ omega (arith, e, d)

no_newline_outcome : (a : Answer) → newlines (outcome_text a) ≡ 0
unfolding outcome_text newlines
no_newline_outcome (outcome (number z)) = labelled (ascii "number ") (integer z) refl (no_newline_integer z)
no_newline_outcome (outcome (truth_of b)) = labelled (ascii "truth ") (decimal (truth_word b)) refl (no_newline_decimal (truth_word b))
no_newline_outcome (outcome (cell l)) = labelled (ascii "cell ") (decimal l) refl (no_newline_decimal l)
no_newline_outcome (outcome nothing) = refl
no_newline_outcome (refused x p) =
    labelled (ascii "refused " ++ decimal (refusal_number x) ++ ascii " at ") (decimal p)
    (labelled (ascii "refused " ++ decimal (refusal_number x)) (ascii " at ") (labelled (ascii "refused ") (decimal (refusal_number x)) refl (no_newline_decimal (refusal_number x))) refl)
    (no_newline_decimal p)

no_newline_register : (i : ℕ) (z : ℤ) → newlines (register_text i z) ≡ 0
unfolding register_text newlines
no_newline_register i z =
    labelled (ascii "register " ++ decimal i ++ ascii " ") (integer z)
    (labelled (ascii "register " ++ decimal i) (ascii " ") (labelled (ascii "register ") (decimal i) refl (no_newline_decimal i)) refl) (no_newline_integer z)

no_newline_spaced : (n : ℕ) → newlines (spaced n) ≡ 0
unfolding newlines
no_newline_spaced n = labelled (ascii " ") (decimal n) refl (no_newline_decimal n)

no_newline_most : (m : Sizes) → newlines (most_text m) ≡ 0
unfolding most_text newlines
no_newline_most m =
    labelled (ascii "most " ++ decimal (m cells) ++ spaced (m bindings) ++ spaced (m values)) (spaced (m control))
    (labelled (ascii "most " ++ decimal (m cells) ++ spaced (m bindings)) (spaced (m values))
    (labelled (ascii "most " ++ decimal (m cells)) (spaced (m bindings)) (labelled (ascii "most ") (decimal (m cells)) refl (no_newline_decimal (m cells))) (no_newline_spaced (m bindings)))
    (no_newline_spaced (m values)))
    (no_newline_spaced (m control))

newlines_registers : (i : ℕ) (zs : List ℤ) → newlines (register_lines i zs) ≡ length zs
unfolding register_lines newlines
newlines_registers i [] = refl
newlines_registers i (z ∷ zs) =
    newlines_append (line (register_text i z)) (register_lines (suc i) zs) ∙
    omega (arith, newlines_line (register_text i z) (no_newline_register i z), newlines_registers (suc i) zs)

newlines_shown : (b : Bool) (zs : List ℤ) → newlines (cond b (register_lines 0 zs) []) ≡ cond b (length zs) 0
unfolding newlines
newlines_shown true zs = newlines_registers 0 zs
newlines_shown false zs = refl

three_lines_and_more : (first second third rest : List ℕ) (k : ℕ) → newlines first ≡ 0 → newlines second ≡ 0 → newlines third ≡ 0 → newlines rest ≡ k → newlines (line first ++ line second ++ line third ++ rest) ≡ 3 + k
three_lines_and_more first second third rest k e d g m =
    newlines_append (line first ++ line second ++ line third) rest ∙
    omega (
      arith,
      newlines_line first e,
      newlines_append (line first) (line second),
      newlines_line second d,
      newlines_append (line first ++ line second) (line third),
      newlines_line third g,
      m,
    )

-- An answer has its lines.
lines_of_answer : (c : Called) → newlines (answer_text c) ≡ answer_lines c
unfolding answer_text newlines
lines_of_answer c =
    three_lines_and_more (outcome_text c.reply.answer) (ascii "steps " ++ decimal c.reply.steps) (most_text c.reply.most) (cond (shows_registers c.reply.answer) (register_lines 0 c.registers) [])
    (cond (shows_registers c.reply.answer) (length c.registers) 0) (no_newline_outcome c.reply.answer)
    (labelled (ascii "steps ") (decimal c.reply.steps) refl (no_newline_decimal c.reply.steps)) (no_newline_most c.reply.most) (newlines_shown (shows_registers c.reply.answer) c.registers)

append_nil : (xs : List ℕ) → xs ++ [] ≡ xs
append_nil [] = refl
append_nil (x ∷ xs) = ap (λ (ys : List ℕ). x ∷ ys) (append_nil xs)

-- Bytes of which the last is a newline, or none.
EndsWithNewline : List ℕ → Type 0
EndsWithNewline [] = Unit {0}
EndsWithNewline (b ∷ []) = b ≡ newline
EndsWithNewline (b ∷ c ∷ bs) = EndsWithNewline (c ∷ bs)

newline_ends_append : (xs ys : List ℕ) → EndsWithNewline xs → EndsWithNewline ys → EndsWithNewline (xs ++ ys)
unfolding EndsWithNewline
newline_ends_append [] ys e d = d
newline_ends_append (x ∷ []) [] e d = e
newline_ends_append (x ∷ []) (y ∷ ys) e d = d
newline_ends_append (x ∷ z ∷ xs) ys e d = newline_ends_append (z ∷ xs) ys e d

newline_ends_line : (text : List ℕ) → EndsWithNewline (line text)
unfolding EndsWithNewline
newline_ends_line [] = refl
newline_ends_line (x ∷ []) = refl
newline_ends_line (x ∷ y ∷ text) = newline_ends_line (y ∷ text)

newline_ends_registers : (i : ℕ) (zs : List ℤ) → EndsWithNewline (register_lines i zs)
unfolding register_lines EndsWithNewline
newline_ends_registers i [] = tt
newline_ends_registers i (z ∷ zs) = newline_ends_append (line (register_text i z)) (register_lines (suc i) zs) (newline_ends_line (register_text i z)) (newline_ends_registers (suc i) zs)

newline_ends_shown : (b : Bool) (zs : List ℤ) → EndsWithNewline (cond b (register_lines 0 zs) [])
unfolding EndsWithNewline
newline_ends_shown true zs = newline_ends_registers 0 zs
newline_ends_shown false zs = tt

newline_ends_answer : (c : Called) → EndsWithNewline (answer_text c)
unfolding answer_text
newline_ends_answer c =
    newline_ends_append (line (outcome_text c.reply.answer) ++ line (ascii "steps " ++ decimal c.reply.steps) ++ line (most_text c.reply.most)) _
    (newline_ends_append (line (outcome_text c.reply.answer) ++ line (ascii "steps " ++ decimal c.reply.steps)) _
    (newline_ends_append (line (outcome_text c.reply.answer)) _ (newline_ends_line (outcome_text c.reply.answer)) (newline_ends_line (ascii "steps " ++ decimal c.reply.steps)))
    (newline_ends_line (most_text c.reply.most)))
    (newline_ends_shown (shows_registers c.reply.answer) c.registers)

newline_ends_drop : (k : ℕ) (xs : List ℕ) → EndsWithNewline xs → EndsWithNewline (drop k xs)
unfolding EndsWithNewline
newline_ends_drop zero xs e = e
newline_ends_drop (suc k) [] e = tt
newline_ends_drop (suc k) (x ∷ []) e = newline_ends_drop k [] tt
newline_ends_drop (suc k) (x ∷ y ∷ xs) e = newline_ends_drop k (y ∷ xs) e

end_is_newline : (x : ℕ) (xs : List ℕ) → EndsWithNewline (x ∷ xs) → 0 < newlines (x ∷ xs)
unfolding EndsWithNewline newlines
end_is_newline x [] e = omega (arith, ap {B = ℕ} (λ (b : Bool). cond b 1 0) (eq-eqb x newline e))
end_is_newline x (y ∷ xs) e = omega (arith, end_is_newline y xs e)

nothing_behind : (front behind : List ℕ) → EndsWithNewline behind → newlines front ≡ newlines (front ++ behind) → front ≡ front ++ behind
nothing_behind front [] e d = sym (append_nil front)
nothing_behind front (x ∷ xs) e d = absurd (omega (arith, d, newlines_append front (x ∷ xs), end_is_newline x xs e))

whole_answer : (c : Called) (k : ℕ) → newlines (take k (answer_text c)) ≡ newlines (answer_text c) → take k (answer_text c) ≡ answer_text c
whole_answer c k e =
    nothing_behind (take k (answer_text c)) (drop k (answer_text c)) (newline_ends_drop k (answer_text c) (newline_ends_answer c)) (e ∙ ap newlines (sym (take-append-drop k (answer_text c)))) ∙
    take-append-drop k (answer_text c)

counted : (b : Bool) (m r : ℕ) → (b ≡ true → m ≡ r) → 3 + cond b m 0 ≡ 3 + cond b r 0
counted true m r e = ap (λ (n : ℕ). 3 + n) (e refl)
counted false m r e = refl

pub answers_told : (input : List ℕ) → ToldByLines input
unfolding program
answers_told input =
    record {
      lines =
          lines_of_answer (call_input input) ∙
          counted (shows_registers (call_input input).reply.answer) (length (call_input input).registers) (little_endian (take 4 (drop 4 input))) (registers_shown input).as_many;
      whole = whole_answer (call_input input);
    }
