-- Registers that keep their values keep their bytes.
use Rattle.std.specs.Prelude.{ℕ, ◌+◌, ◌*◌, ◌/◌, ◌%◌, ◌≡◌, refl, Bool, true, false, cond, List, eqb, leb, ℤ, pos, length, replicate}
use Rattle.std.proofs.Common.{sym, ap, ◌∙◌, arith, zero-add, eqb→eq}
use Rattle.std.proofs.Math.Nat.{mod-add-div}
use Rattle.rules.specs.paper.Limits.{most_registers}
use Rattle.rules.proofs.Basics.{passed_test, and_left}
use Rattle.integers.specs.Words.{integers_of, words_of}
use Rattle.integers.specs.WordLaws.{words_back}
use Rattle.little_endian.specs.Numbers.{numbers, bytes_of_words}
use Rattle.little_endian.specs.NumberLaws.{AllBytes, numbers_below, numbers_length, words_bytes}
use Rattle.engine.specs.Bytes.{whole, register_values, register_bytes, too_many_registers}

-- A whole count of numbers has all the bytes.
pub count_whole : (size most bytes : ℕ) → whole size most bytes ≡ true → bytes ≡ size * (bytes / size)
count_whole size most bytes p =
    sym (mod-add-div bytes size)
    ∙ ap (λ k. k + size * (bytes / size)) (eqb→eq (bytes % size) 0 (and_left (eqb (bytes % size) 0) (leb (bytes / size) most) (passed_test p)))
    ∙ zero-add (size * (bytes / size))

pub values_whole : (bytes : List ℕ) → whole 8 most_registers (length bytes) ≡ true → register_values bytes ≡ integers_of (numbers 8 (length bytes / 8) bytes)
unfolding register_values
values_whole bytes p = ap (λ all. cond all (integers_of (numbers 8 (length bytes / 8) bytes)) (replicate too_many_registers (pos 0))) p

pub values_none : (bytes : List ℕ) → whole 8 most_registers (length bytes) ≡ false → register_values bytes ≡ replicate too_many_registers (pos 0)
unfolding register_values
values_none bytes p = ap (λ all. cond all (integers_of (numbers 8 (length bytes / 8) bytes)) (replicate too_many_registers (pos 0))) p

pub bytes_whole : (before : List ℕ) (values : List ℤ) → whole 8 most_registers (length before) ≡ true → register_bytes before values ≡ bytes_of_words (words_of values)
unfolding register_bytes
bytes_whole before values p = ap (λ all. cond all (bytes_of_words (words_of values)) before) p

pub bytes_none : (before : List ℕ) (values : List ℤ) → whole 8 most_registers (length before) ≡ false → register_bytes before values ≡ before
unfolding register_bytes
bytes_none before values p = ap (λ all. cond all (bytes_of_words (words_of values)) before) p

-- Registers that keep their values keep their bytes.
pub registers_kept : (bytes : List ℕ) → AllBytes bytes → register_bytes bytes (register_values bytes) ≡ bytes
registers_kept bytes low = by (whole 8 most_registers (length bytes)) refl
  where
    back : length bytes ≡ 8 * (length bytes / 8) → bytes_of_words (words_of (integers_of (numbers 8 (length bytes / 8) bytes))) ≡ bytes
    back same =
        ap bytes_of_words (words_back (numbers 8 (length bytes / 8) bytes) (λ i h. numbers_below (length bytes / 8) bytes low i (omega (arith, h, numbers_length 8 (length bytes / 8) bytes))))
        ∙ words_bytes (length bytes / 8) bytes same low

    by : (all : Bool) → whole 8 most_registers (length bytes) ≡ all → register_bytes bytes (register_values bytes) ≡ bytes
    by true p = bytes_whole bytes (register_values bytes) p ∙ ap (λ zs. bytes_of_words (words_of zs)) (values_whole bytes p) ∙ back (count_whole 8 most_registers (length bytes) p)
    by false p = bytes_none bytes (register_values bytes) p
