-- Integers and what the marks of the operators do with them (paper, "The automaton").
use Rattle.std.specs.Prelude.{ℕ, zero, suc, ◌-◌, ◌/◌, Bool, true, false, cond, ◌&&◌, ◌||◌, eqb, ltb, ℤ, pos, negsuc, neg_ℤ, ◌+ℤ◌, ◌-ℤ◌, ◌*ℤ◌}
use Rattle.std.specs.Bool.{beq}
use Rattle.std.specs.Int.Signed.{mag, lt_z, le_z}
use Rattle.rules.specs.paper.Tree.{Arithmetic, Sum, Sub, Mul, Div, Order, Lt, Le, Gt, Ge, Logic, And, Or}
use Rattle.rules.specs.paper.Refusals.{Reason, ZeroDivisor, OutOfRange}

-- 2^63
abbrev pub range_bound : ℕ
range_bound = 9223372036854775808

-- Integers are −2^63 to 2^63 − 1: `mag` is n both for n and for −(n + 1), so the range is one bound.
abbrev pub in_range : ℤ → Bool
in_range z = ltb (mag z) range_bound

abbrev pub lowest_integer : ℤ
lowest_integer = negsuc (range_bound - 1)

abbrev pub greatest_integer : ℤ
greatest_integer = pos (range_bound - 1)

-- What an arithmetic mark comes to: an integer, or the reason for which its step is withheld.
pub data Result : Type 0 where
  number : ℤ → Result
  failed : Reason → Result

abbrev pub ranged : ℤ → Result
ranged z = cond (in_range z) (number z) (failed OutOfRange)

-- The largest integer not above the quotient of an integer by a number above 0. Of −(a + 1) by b it is −(q + 1), where q is that of a by b.
abbrev pub floor : ℤ → (divisor : ℕ) → ℤ
floor (pos a) b = pos (a / b)
floor (negsuc a) b = negsuc (a / b)

-- Div gives the largest integer not above the quotient (document 02, request 7). A divisor below 0 is taken with both signs turned: a by −b
-- is −a by b. That this is the largest such integer, whatever the signs, is stated in claims/Division.antt.
abbrev pub divide : ℤ → ℤ → Result
divide a (pos zero) = failed ZeroDivisor
divide a (pos (suc b)) = ranged (floor a (suc b))
divide a (negsuc b) = ranged (floor (neg_ℤ a) (suc b))

-- E1 and E2, in this order: Sub is E1 minus E2 and Div E1 by E2.
unfoldable pub compute : Arithmetic → ℤ → ℤ → Result
compute Sum a b = ranged (a +ℤ b)
compute Sub a b = ranged (a -ℤ b)
compute Mul a b = ranged (a *ℤ b)
compute Div a b = divide a b

unfoldable pub compare : Order → ℤ → ℤ → Bool
compare Lt a b = lt_z a b
compare Le a b = le_z a b
compare Gt a b = lt_z b a
compare Ge a b = le_z b a

unfoldable pub equal_integers : ℤ → ℤ → Bool
equal_integers (pos a) (pos b) = eqb a b
equal_integers (pos a) (negsuc b) = false
equal_integers (negsuc a) (pos b) = false
equal_integers (negsuc a) (negsuc b) = eqb a b

unfoldable pub equal_truths : Bool → Bool → Bool
equal_truths a b = beq a b

unfoldable pub combine : Logic → Bool → Bool → Bool
combine And a b = a && b
combine Or a b = a || b
