-- Bytes are those of the numbers that they hold.
use Rattle.std.specs.Prelude.{ℕ, zero, suc, ◌+◌, ◌*◌, ◌/◌, ◌%◌, ◌^◌, ◌<◌, ◌≤◌, ◌≡◌, refl, List, [], ◌∷◌, ◌++◌, length, get_or, take, drop}
use Rattle.std.proofs.Common.{sym, ap, ◌∙◌, subst, arith, zero-add, pow-suc, mod-eq_of_lt, length-drop, take-append-drop, get_or-drop}
use Rattle.std.proofs.Math.Nat.{add-mul-mod_self_left, add-mul-div_left, div-eq_of_lt}
use Rattle.little_endian.specs.Numbers.{little_endian, numbers, bytes_of, bytes_of_words}

-- Every element is a byte.
abbrev pub AllBytes : List ℕ → Type 0
AllBytes bytes = (i : ℕ) → i < length bytes → get_or bytes i 0 < 256

rest_bytes : (b : ℕ) (bytes : List ℕ) → AllBytes (b ∷ bytes) → AllBytes bytes
rest_bytes b bytes low i h = low (suc i) (omega (arith, h))

later_bytes : (n : ℕ) (bytes : List ℕ) → AllBytes bytes → AllBytes (drop n bytes)
later_bytes n bytes low i h = subst (λ b. b < 256) (sym (get_or-drop n bytes i 0)) (low (n + i) (omega (arith, h, length-drop n bytes)))

-- ---- One number.

lowest_byte : (b upper : ℕ) → b < 256 → (b + 256 * upper) % 256 ≡ b
lowest_byte b upper h = add-mul-mod_self_left b 256 upper ∙ mod-eq_of_lt h

upper_bytes : (b upper : ℕ) → b < 256 → (b + 256 * upper) / 256 ≡ upper
upper_bytes b upper h = add-mul-div_left b upper (omega arith) ∙ ap (λ k. k + upper) (div-eq_of_lt h) ∙ zero-add upper

pub number_bytes : (size : ℕ) (bytes : List ℕ) → size ≤ length bytes → AllBytes bytes → bytes_of size (little_endian (take size bytes)) ≡ take size bytes
unfolding little_endian bytes_of
number_bytes zero bytes h low = refl
number_bytes (suc size) [] h low = absurd (omega (arith, h))
number_bytes (suc size) (b ∷ bytes) h low =
    let upper = little_endian (take size bytes) in
    ap {B = List ℕ} (λ k. k ∷ bytes_of size ((b + 256 * upper) / 256)) (lowest_byte b upper (low 0 (omega arith)))
    ∙ ap {B = List ℕ} (λ k. b ∷ bytes_of size k) (upper_bytes b upper (low 0 (omega arith)))
    ∙ ap {B = List ℕ} (λ r. b ∷ r) (number_bytes size bytes (omega (arith, h)) (rest_bytes b bytes low))

positive : (size : ℕ) → 0 < 256 ^ size
positive zero = omega arith
positive (suc size) = subst (λ power. 0 < power) (sym (pow-suc 256 size)) (next (256 ^ size) (positive size))
  where
    next : (power : ℕ) → 0 < power → 0 < power * 256
    next power h = omega arith

pub number_below : (size : ℕ) (bytes : List ℕ) → AllBytes bytes → little_endian (take size bytes) < 256 ^ size
unfolding little_endian
number_below zero bytes low = omega arith
number_below (suc size) [] low = positive (suc size)
number_below (suc size) (b ∷ bytes) low =
    subst (λ power. b + 256 * little_endian (take size bytes) < power) (sym (pow-suc 256 size))
    (next b (little_endian (take size bytes)) (256 ^ size) (low 0 (omega arith)) (number_below size bytes (rest_bytes b bytes low)))
  where
    next : (b upper power : ℕ) → b < 256 → upper < power → b + 256 * upper < power * 256
    next b upper power h g = omega arith

-- ---- Eight bytes a number.

pub numbers_below : (count : ℕ) (bytes : List ℕ) → AllBytes bytes → (i : ℕ) → i < count → get_or (numbers 8 count bytes) i 0 < 18446744073709551616
unfolding numbers
numbers_below zero bytes low i h = absurd (omega (arith, h))
numbers_below (suc count) bytes low zero h = number_below 8 bytes low
numbers_below (suc count) bytes low (suc i) h = numbers_below count (drop 8 bytes) (later_bytes 8 bytes low) i (omega (arith, h))

pub numbers_length : (size count : ℕ) (bytes : List ℕ) → length (numbers size count bytes) ≡ count
unfolding numbers
numbers_length size zero bytes = refl
numbers_length size (suc count) bytes = ap suc (numbers_length size count (drop size bytes))

pub words_bytes : (count : ℕ) (bytes : List ℕ) → length bytes ≡ 8 * count → AllBytes bytes → bytes_of_words (numbers 8 count bytes) ≡ bytes
unfolding numbers bytes_of_words
words_bytes zero [] h low = refl
words_bytes zero (b ∷ bytes) h low = absurd (omega (arith, h))
words_bytes (suc count) bytes h low =
    ap (λ r. r ++ bytes_of_words (numbers 8 count (drop 8 bytes))) (number_bytes 8 bytes (omega (arith, h)) low)
    ∙ ap (λ r. take 8 bytes ++ r) (words_bytes count (drop 8 bytes) (omega (arith, h, length-drop 8 bytes)) (later_bytes 8 bytes low))
    ∙ take-append-drop 8 bytes
