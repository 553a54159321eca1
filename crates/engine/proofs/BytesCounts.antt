-- How many words are taken and handed on: there is room for them, and there are bytes for them.
use Prim.Native.Nat.{ℕ, ◌+◌, ◌*◌, ◌/◌, ◌%◌, ◌<◌, ◌≤◌}
use mathlib.Core.Path.{◌≡◌, refl, sym, ap, ◌∙◌, subst}
use mathlib.Core.Bool.{Bool, true, false, cond}
use mathlib.Core.List.{List, [], ◌∷◌, ◌++◌}
use native.Mathlib.Omega.{arith}
use native.Mathlib.Nat.{mul-div-le, suc-add}
use lib.Dec.{eqb, leb, ltb, leb→le}
use lib.ListN.{length, take, drop, set, length-append, length-drop, length-set}
use lib.Seq.{length-take-le, take_at}
use borrow.Author.Tests.{ltb-false}
use Rattle.calls.specs.Sizes.{most_image_words}
use Rattle.rules.proofs.Basics.{passed_test, and_right}
use Rattle.little_endian.specs.Numbers.{numbers}
use Rattle.little_endian.specs.NumberLaws.{numbers_length}
use Rattle.engine.specs.Bytes.{whole, image_count, image_of_bytes}
use Rattle.engine.specs.BytesKept.{count_whole}
use Rattle.engine.specs.BytesRead.{all_taken, some_left}

pub image_count_fits : (bytes : ℕ) → (image_count bytes ≤ most_image_words) × (4 * image_count bytes ≤ bytes)
unfolding image_count
image_count_fits bytes = by (ltb bytes 8) (whole 4 most_image_words bytes) refl refl
  where
    by : (few all : Bool) → ltb bytes 8 ≡ few → whole 4 most_image_words bytes ≡ all → (cond few 0 (cond all (bytes / 4) 2) ≤ most_image_words) × (4 * cond few 0 (cond all (bytes / 4) 2) ≤ bytes)
    by true all p q = (omega arith, omega arith)
    by false false p q = (omega arith, omega (arith, ltb-false bytes 8 p))
    by false true p q = (leb→le (bytes / 4) most_image_words (and_right (eqb (bytes % 4) 0) (leb (bytes / 4) most_image_words) (passed_test q)), mul-div-le bytes 4)

-- A word written behind some words, and taken with them.
one_more : (a b : List ℕ) → 0 < length b → take (length a + 1) (set (a ++ b) (length a) 0) ≡ a ++ 0 ∷ []
one_more [] [] h = absurd (omega (arith, h))
one_more [] (y ∷ b) h = refl
one_more (x ∷ a) b h = rw (suc-add (length a) 1) (ap {B = List ℕ} (λ rest. x ∷ rest) (one_more a b h))

-- Where bytes are left over, there is room for one word more.
pub left_over_fits : (bytes : ℕ) → (4 * image_count bytes ≡ bytes → ⊥) → image_count bytes < most_image_words
unfolding image_count
left_over_fits bytes more = by (ltb bytes 8) (whole 4 most_image_words bytes) refl more
  where
    by : (few all : Bool) → whole 4 most_image_words bytes ≡ all → (4 * cond few 0 (cond all (bytes / 4) 2) ≡ bytes → ⊥) → cond few 0 (cond all (bytes / 4) 2) < most_image_words
    by true all q other = omega arith
    by false false q other = omega arith
    by false true q other = absurd (other (sym (count_whole 4 most_image_words bytes q)))

module _ (bytes words new : List ℕ) (count : ℕ) (counted : count ≡ image_count (length bytes)) (room : count ≤ length words) (q : new ≡ numbers 4 (length (take count words)) bytes) where
  long : length new ≡ count
  long = ap length q ∙ numbers_length 4 (length (take count words)) bytes ∙ length-take-le count words room

  taken : new ≡ numbers 4 count bytes
  taken = q ∙ ap (λ k. numbers 4 k bytes) (length-take-le count words room)

  pub same_size : length (new ++ drop count words) ≡ length words
  same_size = omega (arith, long, length-append new (drop count words), length-drop count words, room)

  -- The words that were unpacked stand first: they are the image's.
  pub unpacked : 4 * count ≡ length bytes → (count ≤ length (new ++ drop count words)) × (take count (new ++ drop count words) ≡ image_of_bytes bytes)
  unpacked all = (omega (arith, same_size, room), take_at new (drop count words) count long ∙ taken ∙ sym (all_taken bytes count (sym counted) all))

  -- One word stands for the bytes that are left over.
  pub unpacked_more : (4 * count ≡ length bytes → ⊥) → count < length words →
      (count + 1 ≤ length (set (new ++ drop count words) count 0)) × (take (count + 1) (set (new ++ drop count words) count 0) ≡ image_of_bytes bytes)
  unpacked_more more low = (
    omega (arith, same_size, low, length-set (new ++ drop count words) count 0),
    subst (λ k. take (k + 1) (set (new ++ drop count words) k 0) ≡ new ++ 0 ∷ []) long (one_more new (drop count words) (omega (arith, length-drop count words, low)))
        ∙ ap (λ ws. ws ++ 0 ∷ []) taken ∙ sym (some_left bytes count (sym counted) more),
  )
