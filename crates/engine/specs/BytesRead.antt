-- What an image and registers of bytes come to, in the paper's order. Fewer than 8 bytes are refusal 1; then n or r out of range is 2; then a
-- length other than 8 + 8 n is 1; and 8 + 8 n bytes are read as their 2 + 2 n little-endian words. Registers of 8 r bytes are their r values; any
-- other length is 20 where the image passes.
use Rattle.std.specs.Prelude.{ℕ, suc, ◌+◌, ◌-◌, ◌*◌, ◌/◌, ◌%◌, ◌<◌, ◌≤◌, ◌≡◌, refl, Bool, true, false, cond, ◌&&◌, List, [], ◌∷◌, ◌++◌, T, eqb, leb, length, take, drop}
use Rattle.std.proofs.Common.{sym, ap, ◌∙◌, subst, arith, length-append, le-ltb, lt-ltb, le-leb, eq-eqb, ne_eqb}
use Rattle.std.proofs.Math.Nat.{mul-mod_right, div-eq_of_eq-mul_right}
use Rattle.calls.specs.Sizes.{most_image_words}
use Rattle.rules.specs.declared.refusals.Refusal.TheVariants as Refusals
use Rattle.rules.specs.paper.Limits.{most_registers}
use Rattle.rules.specs.paper.Tree.{Root}
use Rattle.rules.specs.declared.kinds.Passed.{Passed}
use Rattle.rules.specs.paper.Reader.{read, bad, size_fits}
use Rattle.rules.specs.paper.Engine.{check_image, passed, run_checked, refusing}
use Rattle.rules.proofs.Basics.{append_nothing}
use Rattle.rules.proofs.checking.ImageExact.{check_exact}
use Rattle.reader.specs.SizeLaws.{few_nodes}
use Rattle.integers.specs.Words.{integers_of}
use Rattle.integers.specs.WordLaws.{integers_length}
use Rattle.little_endian.specs.Numbers.{little_endian, numbers}
use Rattle.little_endian.specs.NumberLaws.{numbers_length}
use Rattle.engine.specs.Bytes.{whole, image_count, image_of_bytes, register_values}
use Rattle.engine.specs.BytesKept.{count_whole, values_whole, values_none}

-- A whole count, told by the count.
is_whole : (size most bytes count : ℕ) → 0 < size → bytes ≡ size * count → count ≤ most → whole size most bytes ≡ true
is_whole size most bytes count positive same few =
    ap (λ t. t && leb (bytes / size) most) (eq-eqb (bytes % size) 0 (ap (λ b. b % size) same ∙ mul-mod_right size count))
    ∙ le-leb (bytes / size) most (subst (λ k. k ≤ most) (sym (div-eq_of_eq-mul_right positive same)) few)

-- n and r, as they stand in the bytes.
abbrev pub nodes_said : List ℕ → ℕ
nodes_said bytes = little_endian (take 4 bytes)

abbrev pub registers_said : List ℕ → ℕ
registers_said bytes = little_endian (take 4 (drop 4 bytes))

-- ---- The image.

-- Fewer than 8 bytes: 1.
pub few_bytes : (bytes : List ℕ) → length bytes < 8 → read (image_of_bytes bytes) ≡ bad Refusals.Length 0
unfolding image_of_bytes image_count numbers read
few_bytes bytes h = rw (lt-ltb (length bytes) 8 h) (one_word (eqb (4 * 0) (length bytes)))
  where
    one_word : (none : Bool) → read (cond none [] (0 ∷ [])) ≡ bad Refusals.Length 0
    one_word true = refl
    one_word false = refl

-- From 8 bytes on, n and r are the first two words, and what is behind them is as long as 2 n words only where the length is 8 + 8 n.
record Headed (bytes : List ℕ) : Type 0 where
  rest : List ℕ
  words : image_of_bytes bytes ≡ nodes_said bytes ∷ registers_said bytes ∷ rest
  fits : (n : ℕ) → length rest ≡ 2 * n → length bytes ≡ 8 + 8 * n

two_words : (count k : ℕ) (bytes : List ℕ) → count ≡ suc (suc k) → numbers 4 count bytes ≡ nodes_said bytes ∷ registers_said bytes ∷ numbers 4 k (drop 4 (drop 4 bytes))
unfolding numbers
two_words count k bytes q = ap (λ c. numbers 4 c bytes) q

count_taken : (bytes : ℕ) (all : Bool) → 8 ≤ bytes → whole 4 most_image_words bytes ≡ all → image_count bytes ≡ cond all (bytes / 4) 2
unfolding image_count
count_taken bytes all h p = ap (λ few. cond few 0 (cond (whole 4 most_image_words bytes) (bytes / 4) 2)) (le-ltb bytes 8 h) ∙ ap (λ a. cond a (bytes / 4) 2) p

-- All bytes are taken, or one word stands for those that are left over.
pub all_taken : (bytes : List ℕ) (count : ℕ) → image_count (length bytes) ≡ count → 4 * count ≡ length bytes → image_of_bytes bytes ≡ numbers 4 count bytes
unfolding image_of_bytes
all_taken bytes count q all =
    ap (λ t. numbers 4 (image_count (length bytes)) bytes ++ cond t [] (0 ∷ [])) (eq-eqb (4 * image_count (length bytes)) (length bytes) (ap (λ k. 4 * k) q ∙ all))
    ∙ append_nothing (numbers 4 (image_count (length bytes)) bytes) ∙ ap (λ k. numbers 4 k bytes) q

pub some_left : (bytes : List ℕ) (count : ℕ) → image_count (length bytes) ≡ count → (4 * count ≡ length bytes → ⊥) → image_of_bytes bytes ≡ numbers 4 count bytes ++ 0 ∷ []
unfolding image_of_bytes
some_left bytes count q more =
    ap (λ t. numbers 4 (image_count (length bytes)) bytes ++ cond t [] (0 ∷ [])) (ne_eqb (4 * image_count (length bytes)) (length bytes) (λ all. more (ap (λ k. 4 * k) (sym q) ∙ all)))
    ∙ ap (λ k. numbers 4 k bytes ++ 0 ∷ []) q

-- Bytes that are no whole count of words are not those of n and r alone.
not_eight : (bytes : ℕ) → whole 4 most_image_words bytes ≡ false → 4 * 2 ≡ bytes → ⊥
not_eight bytes p q = let z : ◌≡◌ {A = Bool} true false = sym (is_whole 4 most_image_words bytes 2 (omega arith) (sym q) (omega arith)) ∙ p in subst T z tt

headed : (bytes : List ℕ) → 8 ≤ length bytes → Headed bytes
headed bytes h = by (whole 4 most_image_words (length bytes)) refl
  where
    by : (all : Bool) → whole 4 most_image_words (length bytes) ≡ all → Headed bytes
    by true p =
        let same = count_whole 4 most_image_words (length bytes) p in
        record {
          rest = numbers 4 (length bytes / 4 - 2) (drop 4 (drop 4 bytes));
          words = all_taken bytes (length bytes / 4) (count_taken (length bytes) true h p) (sym same) ∙ two_words (length bytes / 4) (length bytes / 4 - 2) bytes (omega (arith, same, h));
          fits = λ n e. omega (arith, same, h, e, numbers_length 4 (length bytes / 4 - 2) (drop 4 (drop 4 bytes)));
        }
    by false p =
        record {
          rest = numbers 4 0 (drop 4 (drop 4 bytes)) ++ 0 ∷ [];
          words = some_left bytes 2 (count_taken (length bytes) false h p) (not_eight (length bytes) p) ∙ ap (λ ws. ws ++ 0 ∷ []) (two_words 2 0 bytes refl);
          fits = λ n e. absurd (omega (arith, e, length-append (numbers 4 0 (drop 4 (drop 4 bytes))) (0 ∷ []), numbers_length 4 0 (drop 4 (drop 4 bytes))));
        }

-- n or r out of range: 2.
pub size_refused : (bytes : List ℕ) → 8 ≤ length bytes → size_fits (nodes_said bytes) (registers_said bytes) ≡ false → read (image_of_bytes bytes) ≡ bad Refusals.Size 0
unfolding read
size_refused bytes h q = let head = headed bytes h in ap read head.words ∙ rw q

-- Another length than 8 + 8 n: 1.
pub length_refused : (bytes : List ℕ) → 8 ≤ length bytes → size_fits (nodes_said bytes) (registers_said bytes) ≡ true → (length bytes ≡ 8 + 8 * nodes_said bytes → ⊥) →
    read (image_of_bytes bytes) ≡ bad Refusals.Length 0
unfolding read
length_refused bytes h q other =
    let head = headed bytes h in
    ap read head.words ∙ rw (q, ne_eqb (length head.rest) (2 * nodes_said bytes) (λ e. other (head.fits (nodes_said bytes) e)))

-- 8 + 8 n bytes: exactly the 2 + 2 n words are read.
pub whole_image : (bytes : List ℕ) → size_fits (nodes_said bytes) (registers_said bytes) ≡ true → length bytes ≡ 8 + 8 * nodes_said bytes → image_of_bytes bytes ≡ numbers 4 (2 + 2 * nodes_said bytes) bytes
whole_image bytes q same =
    all_taken bytes (2 + 2 * nodes_said bytes)
    (count_taken (length bytes) true (omega (arith, same)) (is_whole 4 most_image_words (length bytes) (2 + 2 * nodes_said bytes) (omega arith) (omega (arith, same)) (omega (arith, few_nodes (nodes_said bytes) (registers_said bytes) q)))
    ∙ div-eq_of_eq-mul_right (omega arith) (omega (arith, same)))
    (omega (arith, same))

-- ---- The registers.

-- 8 r bytes: exactly the r values are handed on.
pub whole_registers : (bytes : List ℕ) (r : ℕ) → r ≤ most_registers → length bytes ≡ 8 * r → register_values bytes ≡ integers_of (numbers 8 r bytes)
whole_registers bytes r h same =
    values_whole bytes (is_whole 8 most_registers (length bytes) r (omega arith) same h) ∙ ap (λ k. integers_of (numbers 8 k bytes)) (div-eq_of_eq-mul_right (omega arith) same)

-- Any other length: not as many values as an image has registers.
pub other_count : (bytes : List ℕ) (r : ℕ) → r ≤ most_registers → (length bytes ≡ 8 * r → ⊥) → length (register_values bytes) ≡ r → ⊥
other_count bytes r h other e = by (whole 8 most_registers (length bytes)) refl
  where
    by : (all : Bool) → whole 8 most_registers (length bytes) ≡ all → ⊥
    by true p =
        let counted = sym (ap length (values_whole bytes p) ∙ integers_length (numbers 8 (length bytes / 8) bytes) ∙ numbers_length 8 (length bytes / 8) bytes) in
        other (omega (arith, counted, e, count_whole 8 most_registers (length bytes) p))
    by false p = omega (arith, sym e ∙ ap length (values_none bytes p), h)

-- So it is 20 where the image passes.
pub registers_refused : (image bytes : List ℕ) (r : ℕ) (t : Root) (a : Passed) (budget : ℕ) (work : List ℕ) → check_image image ≡ passed r t a → (length bytes ≡ 8 * r → ⊥) →
    run_checked (check_image image) (register_values bytes) budget work ≡ refusing Refusals.Registers 0 (register_values bytes) work
registers_refused image bytes r t a budget work passes other =
    ap (λ k. run_checked k (register_values bytes) budget work) passes
    ∙ rw (ne_eqb (length (register_values bytes)) r (other_count bytes r ((check_exact image r t a).0 passes).shape.registers other))
