-- Bytes to numbers and back: what the library reads and writes is the number of the bytes and the bytes of the number; and of the loops, what is
-- still to be written, written over what stands there, is what was wanted.
use Prim.Native.Nat.{ℕ, zero, suc, ◌+◌, ◌-◌, ◌*◌, ◌/◌, ◌<◌, ◌≤◌}
use mathlib.Core.Path.{◌≡◌, refl, sym, ap, ◌∙◌}
use mathlib.Core.List.{List, [], ◌∷◌, ◌++◌, append-nil, append_assoc}
use native.Mathlib.Omega.{arith}
use native.Mathlib.Nat.{div-div-eq-div-mul, add-zero, add-suc, suc-add, sub-zero, mul-zero, mul-suc}
use lib.ListN.{length, get_or, take, drop, set, drop_of_length-le, length-append, length-drop}
use lib.Seq.{sets, sets-eq, drop-drop, drop-cons}
use Rattle.std.specs.Array.{IsFirstChunk}
use Rattle.std.proofs.lemmas.List.{take-take, length-take-le}
use borrow.Rule.Slice.PartMut.{put_mid}
use Rattle.std.specs.Int.{w32, w64, from_le_bytes, to_le_bytes}
use Rattle.little_endian.specs.Numbers.{little_endian, numbers, bytes_of, bytes_of_words}
use Rattle.little_endian.specs.NumberLaws.{numbers_length}

-- ---- One number.

-- The number that the library reads, of four bytes and of eight.
pub word_read : (bytes : List ℕ) → length bytes ≡ 4 → from_le_bytes w32 bytes ≡ little_endian bytes
unfolding little_endian
word_read [] h = absurd (omega (arith, h))
word_read (a ∷ []) h = absurd (omega (arith, h))
word_read (a ∷ b ∷ []) h = absurd (omega (arith, h))
word_read (a ∷ b ∷ c ∷ []) h = absurd (omega (arith, h))
word_read (a ∷ b ∷ c ∷ d ∷ []) h = omega arith
word_read (a ∷ b ∷ c ∷ d ∷ e ∷ bytes) h = absurd (omega (arith, h))

pub value_read : (bytes : List ℕ) → length bytes ≡ 8 → from_le_bytes w64 bytes ≡ little_endian bytes
unfolding little_endian
value_read [] h = absurd (omega (arith, h))
value_read (a ∷ []) h = absurd (omega (arith, h))
value_read (a ∷ b ∷ []) h = absurd (omega (arith, h))
value_read (a ∷ b ∷ c ∷ []) h = absurd (omega (arith, h))
value_read (a ∷ b ∷ c ∷ d ∷ bytes) h = omega (arith, word_read bytes (omega (arith, h)))

-- The bytes that the library takes at a place.
module _ (bytes taken : List ℕ) (at size : ℕ) (fits : at + size ≤ length bytes)
    (chunk : IsFirstChunk (take (length bytes - at) (drop at bytes)) taken size) where
  pub taken_bytes : taken ≡ take size (drop at bytes)
  taken_bytes = chunk.same ∙ take-take size (length bytes - at) (drop at bytes) (omega arith)

  pub taken_length : length taken ≡ size
  taken_length = ap length taken_bytes ∙ length-take-le size (drop at bytes) (omega (arith, length-drop at bytes))

pub bytes_length : (size number : ℕ) → length (bytes_of size number) ≡ size
unfolding bytes_of
bytes_length zero number = refl
bytes_length (suc size) number = ap suc (bytes_length size (number / 256))

-- The bytes that the library writes of a number.
value_written : (value : ℕ) → to_le_bytes w64 value ≡ bytes_of 8 value
unfolding bytes_of
value_written value = simp div-div-eq-div-mul

pub put_written : (bytes written : List ℕ) (at value : ℕ) → at + 8 ≤ length bytes → written ≡ to_le_bytes w64 value →
    put_mid at (at + 8 - at) bytes written ≡ sets bytes at (bytes_of 8 value)
put_written bytes written at value fits is =
    ap (λ k. take at bytes ++ (written ++ drop k (drop at bytes))) (eight at)
    ∙ ap (λ r. take at bytes ++ (written ++ r)) (drop-drop 8 at bytes)
    ∙ ap (λ r. take at bytes ++ (r ++ drop (at + 8) bytes)) (is ∙ value_written value)
    ∙ ap (λ k. take at bytes ++ (bytes_of 8 value ++ drop (at + k) bytes)) (sym (bytes_length 8 value))
    ∙ sym (append_assoc (take at bytes) (bytes_of 8 value) (drop (at + length (bytes_of 8 value)) bytes))
    ∙ sym (sets-eq (bytes_of 8 value) bytes at (omega (arith, bytes_length 8 value)))
  where
    eight : (at : ℕ) → at + 8 - at ≡ 8
    eight at = omega arith

-- ---- From bytes to numbers.

-- As many written from the first place on as there is room for.
pub sets_whole : (words new : List ℕ) → length new ≡ length words → sets words 0 new ≡ new
sets_whole words new same =
    sets-eq new words 0 (omega (arith, same)) ∙ ap (λ r. new ++ r) (drop_of_length-le words {i = 0 + length new} (omega (arith, same))) ∙ append-nil new

pub unpack_starts : (size : ℕ) (bytes words : List ℕ) →
    sets words 0 (numbers size (length words - 0) (drop (size * 0) bytes)) ≡ numbers size (length words) bytes
unpack_starts size bytes words =
    ap (λ k. sets words 0 (numbers size k (drop (size * 0) bytes))) (sub-zero (length words))
    ∙ ap (λ k. sets words 0 (numbers size (length words) (drop k bytes))) (mul-zero size)
    ∙ sets_whole words (numbers size (length words) bytes) (numbers_length size (length words) bytes)

after : (i : ℕ) → i + 1 ≡ suc i
after i = omega arith

left : (count i : ℕ) → i < count → suc (count - (i + 1)) ≡ count - i
left count i h = omega arith

pub unpack_next : (size count i word : ℕ) (bytes words wanted : List ℕ) → i < count → word ≡ little_endian (take size (drop (size * i) bytes)) →
    sets words i (numbers size (count - i) (drop (size * i) bytes)) ≡ wanted → sets (set words i word) (i + 1) (numbers size (count - (i + 1)) (drop (size * (i + 1)) bytes)) ≡ wanted
unfolding numbers
unpack_next size count i word bytes words wanted h p q =
    ap (λ w. sets (set words i w) (i + 1) (numbers size (count - (i + 1)) (drop (size * (i + 1)) bytes))) p
    ∙ ap (λ k. sets (set words i (little_endian (take size (drop (size * i) bytes)))) k (numbers size (count - (i + 1)) (drop (size * (i + 1)) bytes))) (after i)
    ∙ ap (λ r. sets (set words i (little_endian (take size (drop (size * i) bytes)))) (suc i) (numbers size (count - (i + 1)) r)) next
    ∙ ap (λ k. sets words i (numbers size k (drop (size * i) bytes))) (left count i h)
    ∙ q
  where
    next : drop (size * (i + 1)) bytes ≡ drop size (drop (size * i) bytes)
    next = ap (λ k. drop k bytes) (ap (λ k. size * k) (after i) ∙ mul-suc size i) ∙ sym (drop-drop size (size * i) bytes)

pub unpack_ends : (size count i : ℕ) (bytes words wanted : List ℕ) → count ≤ i →
    sets words i (numbers size (count - i) (drop (size * i) bytes)) ≡ wanted → words ≡ wanted
unfolding numbers
unpack_ends size count i bytes words wanted h q = sym (ap (λ k. sets words i (numbers size k (drop (size * i) bytes))) (none count i h)) ∙ q
  where
    none : (count i : ℕ) → count ≤ i → count - i ≡ 0
    none count i h = omega arith

-- ---- From numbers to bytes.

pub words_length : (words : List ℕ) → length (bytes_of_words words) ≡ 8 * length words
unfolding bytes_of_words
words_length [] = refl
words_length (w ∷ ws) = length-append (bytes_of 8 w) (bytes_of_words ws) ∙ both (length (bytes_of 8 w)) (length (bytes_of_words ws)) (length ws) (bytes_length 8 w) (words_length ws)
  where
    both : (a b n : ℕ) → a ≡ 8 → b ≡ 8 * n → a + b ≡ 8 * suc n
    both a b n p q = omega arith

sets_append : (words a b : List ℕ) (i : ℕ) → sets words i (a ++ b) ≡ sets (sets words i a) (i + length a) b
sets_append words [] b i = ap (λ k. sets words k b) (sym (add-zero i))
sets_append words (v ∷ a) b i =
    sets_append (set words i v) a b (suc i) ∙ ap (λ k. sets (sets (set words i v) (suc i) a) k b) (suc-add i (length a) ∙ sym (add-suc i (length a)))

-- A number is written.
pub pack_next : (i value : ℕ) (values bytes new wanted : List ℕ) → i < length values → value ≡ get_or values i 0 → new ≡ sets bytes (8 * i) (bytes_of 8 value) →
    sets bytes (8 * i) (bytes_of_words (drop i values)) ≡ wanted → sets new (8 * (i + 1)) (bytes_of_words (drop (i + 1) values)) ≡ wanted
unfolding bytes_of_words
pack_next i value values bytes new wanted h p q s =
    ap (λ r. sets r (8 * (i + 1)) rest) (q ∙ ap (λ v. sets bytes (8 * i) (bytes_of 8 v)) p)
    ∙ ap (λ k. sets (sets bytes (8 * i) (bytes_of 8 (get_or values i 0))) k rest) (next i (length (bytes_of 8 (get_or values i 0))) (bytes_length 8 (get_or values i 0)))
    ∙ sym (sets_append bytes (bytes_of 8 (get_or values i 0)) rest (8 * i))
    ∙ ap (λ r. sets bytes (8 * i) r) (ap (λ k. bytes_of 8 (get_or values i 0) ++ bytes_of_words (drop k values)) (after i) ∙ sym (ap bytes_of_words (drop-cons values i 0 h)))
    ∙ s
  where
    rest : List ℕ
    rest = bytes_of_words (drop (i + 1) values)

    next : (i n : ℕ) → n ≡ 8 → 8 * (i + 1) ≡ 8 * i + n
    next i n e = omega arith

pub pack_starts : (values bytes : List ℕ) → length bytes ≡ 8 * length values → sets bytes (8 * 0) (bytes_of_words (drop 0 values)) ≡ bytes_of_words values
pack_starts values bytes same = sets_whole bytes (bytes_of_words values) (words_length values ∙ sym same)

pub pack_ends : (i : ℕ) (values bytes wanted : List ℕ) → length values ≤ i → sets bytes (8 * i) (bytes_of_words (drop i values)) ≡ wanted → bytes ≡ wanted
unfolding bytes_of_words
pack_ends i values bytes wanted h q = sym (ap (λ r. sets bytes (8 * i) (bytes_of_words r)) (drop_of_length-le values h)) ∙ q
