-- Type codes packed in one number: a further code becomes its last digit to the base of their count.
use Rattle.std.specs.Prelude.{ℕ, zero, suc, ◌+◌, ◌*◌, ◌/◌, ◌%◌, ◌<◌, ◌≡◌, List, [], ◌∷◌}
use Rattle.std.proofs.Common.{arith}
use Rattle.rules.specs.paper.Limits.{codes}
use Rattle.rules.specs.paper.Tree.{Formal}

-- Codes onto those that are packed already.
abbrev pub packed_onto : ℕ → List ℕ → ℕ
packed_onto n [] = n
packed_onto n (c ∷ cs) = packed_onto (n * codes + c) cs

abbrev pub packed_codes : List ℕ → ℕ
packed_codes = packed_onto 0

-- The last code is taken off again.
pub packed_last : (n c : ℕ) → c < codes → (n * codes + c) % codes ≡ c
packed_last n c h = omega arith

pub packed_others : (n c : ℕ) → c < codes → (n * codes + c) / codes ≡ n
packed_others n c h = omega arith

-- So many numbers have this many codes packed in them.
abbrev pub packings : ℕ → ℕ
packings zero = 1
packings (suc k) = codes * packings k

-- All of them are type codes.
abbrev pub AllCodes : List ℕ → Type 0
AllCodes [] = Unit {0}
AllCodes (c ∷ cs) = (c < codes) × AllCodes cs

abbrev pub formal_codes : List Formal → List ℕ
formal_codes [] = []
formal_codes (f ∷ fs) = f.code ∷ formal_codes fs
