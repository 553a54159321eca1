-- Numbers and texts as bytes, in ASCII: of the program's answer and of the annex page.
use Rattle.std.specs.Prelude.{ℕ, zero, suc, ◌+◌, ◌/◌, ◌%◌, cond, List, [], ◌∷◌, ◌++◌, ltb, ℤ, pos, negsuc}
use Prim.Native.Char.{code}
use Prim.Native.String.{String, [] as end, ◌∷◌ as ◌then◌}

-- A text's characters, a byte each.
abbrev pub ascii : String → List ℕ
ascii end = []
ascii (c then s) = code c ∷ ascii s

-- The digit of a number below 10.
abbrev pub digit : ℕ → ℕ
digit n = 48 + n

-- The decimal digits of a number, with no zero in front, of at most this many.
unfoldable pub digits_within : (most : ℕ) → ℕ → List ℕ
digits_within zero n = []
digits_within (suc k) n = cond (ltb n 10) (digit n ∷ []) (digits_within k (n / 10) ++ (digit (n % 10) ∷ []))

-- A number has fewer digits than its successor counts.
unfoldable pub decimal : ℕ → List ℕ
decimal n = digits_within (suc n) n

-- An integer in decimal, with a minus in front where it is negative (`negsuc n` is −(n + 1)).
unfoldable pub integer : ℤ → List ℕ
integer (pos n) = decimal n
integer (negsuc n) = ascii "-" ++ decimal (suc n)
