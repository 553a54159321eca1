-- Division by examples: all signs, exact quotients, 1 and −1, and the ends of the range (document 02, request 7).
use Rattle.std.specs.Prelude.{◌-◌, ◌≡◌, refl, List, [], ◌∷◌, ℤ, pos, negsuc}
use Rattle.rules.specs.paper.Refusals.{ZeroDivisor, OutOfRange}
use Rattle.rules.specs.paper.Tree.{Div}
use Rattle.rules.specs.paper.Integers.{range_bound, lowest_integer, greatest_integer, Result, number, failed, compute}

pub record Quotient : Type 0 where
  pub dividend : ℤ
  pub divisor : ℤ
  pub result : Result

abbrev quotient : ℤ → ℤ → Result → Quotient
quotient a b r = record { dividend = a; divisor = b; result = r }

-- `negsuc n` is −(n + 1).
abbrev pub quotients : List Quotient
quotients =
    -- 7 and −7 by 2 and −2: 3, −4, −4, 3
    quotient (pos 7) (pos 2) (number (pos 3)) ∷
    quotient (negsuc 6) (pos 2) (number (negsuc 3)) ∷
    quotient (pos 7) (negsuc 1) (number (negsuc 3)) ∷
    quotient (negsuc 6) (negsuc 1) (number (pos 3)) ∷
    -- 8 and −8 by 2 and −2: nothing is rounded
    quotient (negsuc 7) (pos 2) (number (negsuc 3)) ∷
    quotient (pos 8) (negsuc 1) (number (negsuc 3)) ∷
    quotient (negsuc 7) (negsuc 1) (number (pos 4)) ∷
    -- between −1 and 0, and 0 itself
    quotient (negsuc 0) greatest_integer (number (negsuc 0)) ∷
    quotient (pos 1) lowest_integer (number (negsuc 0)) ∷
    quotient (pos 0) lowest_integer (number (pos 0)) ∷
    -- the ends of the range
    quotient lowest_integer (pos 1) (number lowest_integer) ∷
    quotient greatest_integer (negsuc 0) (number (negsuc (range_bound - 2))) ∷
    quotient lowest_integer greatest_integer (number (negsuc 1)) ∷
    quotient greatest_integer lowest_integer (number (negsuc 0)) ∷
    quotient lowest_integer (negsuc 0) (failed OutOfRange) ∷
    quotient lowest_integer (pos 0) (failed ZeroDivisor) ∷
    []

-- The rules compute what the row says.
unfoldable pub Holds : Quotient → Type 0
unfolding compute
Holds q = compute Div q.dividend q.divisor ≡ q.result

unfoldable pub AllHold : List Quotient → Type 0
unfolding Holds
AllHold [] = Unit {0}
AllHold (q ∷ qs) = Holds q × AllHold qs

pub quotients_hold : AllHold quotients
unfolding AllHold
quotients_hold =
    (refl, (refl, (refl, (refl, (refl, (refl, (refl, (refl, (refl, (refl, (refl, (refl, (refl, (refl, (refl, (refl, tt))))))))))))))))
