-- What an input's counts come to, by the definition of the program.
use Prim.Native.Nat.{ℕ, ◌<◌, ◌≤◌}
use mathlib.Core.Path.{◌≡◌, refl, sym, ap, ◌∙◌}
use mathlib.Core.Bool.{true, false, cond}
use mathlib.Core.List.{List, []}
use borrow.Author.Tests.{le-ltb, lt-ltb, eq-eqb, ne_eqb}
use lib.Dec.{eqb, ltb}
use lib.ListN.{length, take, drop}
use Rattle.rules.specs.declared.refusals.Refusal.TheVariants.{Length, Size}
use Rattle.rules.specs.paper.Reader.{size_fits}
use Rattle.rules.specs.paper.Engine.{Called, refusing}
use Rattle.reader.specs.SizeLaws.{few_nodes, few_registers}
use Rattle.little_endian.specs.Numbers.{little_endian}
use Rattle.answer.specs.Program.{outcome_text, most_text, answer_text, input_bytes, run_input, call_input, program}
use Rattle.answer.specs.Writing.{refused_text, ran_text, marks_text, ran_answer, refusal_answer, CountsFit}

-- ---- Refusals before the image is read.

length_answer : answer_text (refusing Length 0 [] []) ≡ refusal_answer Length
unfolding answer_text outcome_text most_text ran_answer ran_text refused_text marks_text
length_answer = refl

size_answer : answer_text (refusing Size 0 [] []) ≡ refusal_answer Size
unfolding answer_text outcome_text most_text ran_answer ran_text refused_text marks_text
size_answer = refl

-- ---- The tests, in their order.

called : (n r : ℕ) → List ℕ → Called
called n r input =
    cond (ltb (length input) 8) (refusing Length 0 [] [])
    (cond (size_fits n r) (cond (eqb (length input) (input_bytes n r)) (run_input n r input) (refusing Length 0 [] [])) (refusing Size 0 [] []))

pub too_short : (input : List ℕ) → length input < 8 → program input ≡ refusal_answer Length
unfolding program call_input
too_short input h = ap answer_text (rw (lt-ltb (length input) 8 h)) ∙ length_answer

module _ (input : List ℕ) (n r : ℕ) (n_is : n ≡ little_endian (take 4 input)) (r_is : r ≡ little_endian (take 4 (drop 4 input))) (long : 8 ≤ length input) where
  called_at : program input ≡ answer_text (called n r input)
  unfolding program call_input called
  called_at = ap (λ k. answer_text (called k (little_endian (take 4 (drop 4 input))) input)) (sym n_is) ∙ ap (λ k. answer_text (called n k input)) (sym r_is)

  pub missized : size_fits n r ≡ false → program input ≡ refusal_answer Size
  unfolding called
  missized h = called_at ∙ ap answer_text (rw (le-ltb (length input) 8 long, h)) ∙ size_answer

  module _ (sized : size_fits n r ≡ true) where
    pub miscounted : (length input ≡ input_bytes n r → ⊥) → program input ≡ refusal_answer Length
    unfolding called
    miscounted h = called_at ∙ ap answer_text (rw (le-ltb (length input) 8 long, sized, ne_eqb (length input) (input_bytes n r) h)) ∙ length_answer

    pub counted : length input ≡ input_bytes n r → CountsFit n r input
    unfolding called
    counted h =
        record {
          few_nodes = few_nodes n r sized;
          few_registers = few_registers n r sized;
          bytes = h;
          answer = called_at ∙ ap answer_text (rw (le-ltb (length input) 8 long, sized, eq-eqb (length input) (input_bytes n r) h));
        }
