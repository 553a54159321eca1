-- Bytes in place of words: the image's words and the registers' values that some bytes stand for, and the bytes of values. Words are
-- little-endian of 4 bytes, registers two's complement of 8 bytes, least byte first. `BytesRead` shows what an image of bytes comes to, in the
-- paper's order, and `BytesKept` that registers that keep their values keep their bytes.
use Rattle.std.specs.Prelude.{ℕ, ◌+◌, ◌*◌, ◌/◌, ◌%◌, Bool, cond, ◌&&◌, List, [], ◌∷◌, ◌++◌, eqb, leb, ltb, ℤ, pos, length, replicate}
use Rattle.calls.specs.Sizes.{most_image_words}
use Rattle.rules.specs.paper.Limits.{most_registers}
use Rattle.rules.specs.paper.Engine.{Called, engine}
use Rattle.integers.specs.Words.{integers_of, words_of}
use Rattle.little_endian.specs.Numbers.{numbers, bytes_of_words}

-- Whether this many bytes are a whole count of numbers of a size, and the count is at most another.
abbrev pub whole : (size most bytes : ℕ) → Bool
whole size most bytes = eqb (bytes % size) 0 && leb (bytes / size) most

-- ---- The image.

-- How many words are taken from so many bytes: all, where they are a whole count of words and at most 2 + 2 × 2,000. Of other bytes only n and r
-- are judged; fewer than 8 bytes have not even these.
unfoldable pub image_count : (bytes : ℕ) → ℕ
image_count bytes = cond (ltb bytes 8) 0 (cond (whole 4 most_image_words bytes) (bytes / 4) 2)

-- Bytes that are left over belong to no image of any n. One word stands for them: behind n and r it is the third, and three words are no such
-- image either; alone it is fewer than two.
abbrev pub left_over : (bytes : ℕ) → List ℕ
left_over bytes = cond (eqb (4 * image_count bytes) bytes) [] (0 ∷ [])

unfoldable pub image_of_bytes : List ℕ → List ℕ
image_of_bytes bytes = numbers 4 (image_count (length bytes)) bytes ++ left_over (length bytes)

-- ---- The registers.

-- A count of registers that no image has.
abbrev pub too_many_registers : ℕ
too_many_registers = 1 + most_registers

-- The values of the bytes, where they are a whole count of values and at most 16. Other bytes are no registers of any image; 17 values are not
-- either, and stand for them.
unfoldable pub register_values : List ℕ → List ℤ
register_values bytes = cond (whole 8 most_registers (length bytes)) (integers_of (numbers 8 (length bytes / 8) bytes)) (replicate too_many_registers (pos 0))

-- What the bytes become where the values become others: bytes that are no registers stay as they are.
unfoldable pub register_bytes : (before : List ℕ) → List ℤ → List ℕ
register_bytes before values = cond (whole 8 most_registers (length before)) (bytes_of_words (words_of values)) before

-- ---- The calls.

-- The values' bytes, where there is room for them all.
abbrev pub value_bytes : List ℤ → List ℕ
value_bytes values = bytes_of_words (words_of values)

-- The engine's call on registers of bytes, and on an image and registers of bytes.
abbrev pub run_call_registers : (image registers : List ℕ) (budget : ℕ) (work : List ℕ) → Called
run_call_registers image registers budget work = engine image (register_values registers) budget work

abbrev pub run_call_bytes : (image registers : List ℕ) (budget : ℕ) (work : List ℕ) → Called
run_call_bytes image registers budget work = run_call_registers (image_of_bytes image) registers budget work
