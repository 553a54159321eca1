-- Numbers in bytes, least byte first, and the bytes of numbers. `NumberLaws` shows that the two are one another's inverse.
use Rattle.std.specs.Prelude.{ℕ, zero, suc, ◌+◌, ◌*◌, ◌/◌, ◌%◌, List, [], ◌∷◌, ◌++◌, take, drop}

-- The number that bytes hold, least byte first.
unfoldable pub little_endian : List ℕ → ℕ
little_endian [] = 0
little_endian (b ∷ bs) = b + 256 * little_endian bs

-- The first numbers of some bytes, each of this many bytes.
unfoldable pub numbers : (size count : ℕ) → List ℕ → List ℕ
numbers size zero bytes = []
numbers size (suc count) bytes = little_endian (take size bytes) ∷ numbers size count (drop size bytes)

-- And back: the bytes of a number, and of numbers of 8 bytes one after the other.
unfoldable pub bytes_of : (size : ℕ) → ℕ → List ℕ
bytes_of zero number = []
bytes_of (suc size) number = number % 256 ∷ bytes_of size (number / 256)

unfoldable pub bytes_of_words : List ℕ → List ℕ
bytes_of_words [] = []
bytes_of_words (w ∷ ws) = bytes_of 8 w ++ bytes_of_words ws
