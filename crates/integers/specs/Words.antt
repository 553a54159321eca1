-- Integers held as words, by two's complement in 64 bits, and what an arithmetic mark comes to in words.
use Rattle.std.specs.Prelude.{ℕ, ◌-◌, ◌^◌, cond, List, [], ◌∷◌, ℤ, pos, negsuc, nat_lt, Result, Ok, Err}
use Rattle.rules.specs.paper.Integers.{Result as Computed, number, failed}
use Rattle.rules.specs.declared.refusals.Reason.{Reason}

-- The integer that a word holds: a word below 2^63 holds itself, any other holds what it is less 2^64 (`negsuc n` is −(n + 1)).
unfoldable pub integer_of : ℕ → ℤ
integer_of word = cond (nat_lt word (2 ^ 63)) (pos word) (negsuc (2 ^ 64 - 1 - word))

-- The word that holds an integer of the range.
unfoldable pub word_of : ℤ → ℕ
word_of (pos n) = n
word_of (negsuc n) = 2 ^ 64 - 1 - n

-- A result of the rules, in words.
unfoldable pub computed : Computed → Result ℕ Reason
computed (number z) = Ok (word_of z)
computed (failed reason) = Err reason

-- The integers that some words hold, and the words that hold some integers.
unfoldable pub integers_of : List ℕ → List ℤ
integers_of [] = []
integers_of (w ∷ ws) = integer_of w ∷ integers_of ws

unfoldable pub words_of : List ℤ → List ℕ
words_of [] = []
words_of (z ∷ zs) = word_of z ∷ words_of zs
