-- What Div gives (document 02, request 7), stated by order, sum and product alone: the largest integer not above the quotient, for both signs of
-- the divisor; for every two integers of the range which answer there is, 31 and 32 among them; and that a dividend moved by a multiple of the
-- divisor has its quotient moved by that multiple, across 0 too. And what has changed from the rule before, which dropped the fraction toward
-- zero: quotients that are below 0 and not exact are one less. proofs/running/Division.antt and DivisionBefore.antt prove it.
use Rattle.std.specs.Prelude.{zero, suc, ◌≡◌, T, ℤ, pos, negsuc, ◌+ℤ◌, ◌-ℤ◌, ◌*ℤ◌, ◌≤ℤ◌, ◌<ℤ◌}
use Rattle.std.specs.Int.Signed.{non_neg, quot_z}
use Rattle.rules.specs.paper.Refusals.{Reason, ZeroDivisor, OutOfRange}
use Rattle.rules.specs.paper.Tree.{Div}
use Rattle.rules.specs.paper.Integers.{lowest_integer, in_range, Result, number, failed, ranged, compute}

-- The integer q is not above the quotient of a by b: q × b is not above a. A divisor below 0 turns the order: a is not above q × b.
abbrev pub NotAbove : (q a b : ℤ) → Type 0
NotAbove q a (pos b) = (q *ℤ pos b) ≤ℤ a
NotAbove q a (negsuc b) = a ≤ℤ (q *ℤ negsuc b)

pub record LargestNotAbove (q a b : ℤ) : Type 0 where
  pub not_above : NotAbove q a b
  pub largest : (p : ℤ) → NotAbove p a b → p ≤ℤ q

-- The same by the next integer: q × b ≤ a < (q + 1) × b where b is above 0, and q × b ≥ a > (q + 1) × b where it is below.
abbrev pub Between : (q a b : ℤ) → Type 0
Between q a (pos b) = ((q *ℤ pos b) ≤ℤ a) × (a <ℤ ((q +ℤ pos 1) *ℤ pos b))
Between q a (negsuc b) = (a ≤ℤ (q *ℤ negsuc b)) × (((q +ℤ pos 1) *ℤ negsuc b) <ℤ a)

-- For any integers: one integer is the largest not above the quotient, and Div gives it where it is in range.
pub record Divided (a b : ℤ) : Type 0 where
  pub quotient : ℤ
  pub is_largest : LargestNotAbove quotient a b
  pub only : (q : ℤ) → LargestNotAbove q a b → q ≡ quotient
  pub between : Between quotient a b
  pub answered : compute Div a b ≡ ranged quotient

-- For integers of the range: a zero divisor is 31, the lowest integer by −1 is 32, and everything else has a quotient, in range.
pub data Division (a b : ℤ) : Result → Type 0 where
  by_zero : b ≡ pos 0 → Division a b (failed ZeroDivisor)
  lowest_by_minus_one : a ≡ lowest_integer → b ≡ negsuc 0 → Division a b (failed OutOfRange)
  gives : (q : ℤ) → (b ≡ pos 0 → ⊥) → LargestNotAbove q a b → T (in_range q) → Division a b (number q)

pub record DivisionClaim : Type 0 where
  pub divides : (a b : ℤ) → (b ≡ pos 0 → ⊥) → Divided a b
  pub answers : (a b : ℤ) → T (in_range a) → T (in_range b) → Division a b (compute Div a b)
  -- One grid on both sides of 0: of a dividend that lies k divisors further on, the quotient is k more.
  pub moves : (k q a b : ℤ) → compute Div a b ≡ number q → compute Div (a +ℤ k *ℤ b) b ≡ ranged (q +ℤ k)

-- ---- The rule before.

abbrev pub divide_toward_zero : ℤ → ℤ → Result
divide_toward_zero a (pos zero) = failed ZeroDivisor
divide_toward_zero a (pos (suc b)) = ranged (quot_z a (pos (suc b)))
divide_toward_zero a (negsuc b) = ranged (quot_z a (negsuc b))

-- What Div gives now and gave before: refused for one reason; the same integer, where dividend and divisor have one sign or the quotient is
-- exact; or one less than before, where the signs differ and the quotient is not exact.
pub data SinceBefore (a b : ℤ) : (now before : Result) → Type 0 where
  both_refused : (r : Reason) → SinceBefore a b (failed r) (failed r)
  one_sign : (q : ℤ) → non_neg a ≡ non_neg b → SinceBefore a b (number q) (number q)
  exact : (q : ℤ) → q *ℤ b ≡ a → SinceBefore a b (number q) (number q)
  one_less : (q : ℤ) → (non_neg a ≡ non_neg b → ⊥) → (q *ℤ b ≡ a → ⊥) → SinceBefore a b (number (q -ℤ pos 1)) (number q)

-- For a dividend of the range.
abbrev pub OneLessBelowZero : Type 0
OneLessBelowZero = (a b : ℤ) → T (in_range a) → SinceBefore a b (compute Div a b) (divide_toward_zero a b)
