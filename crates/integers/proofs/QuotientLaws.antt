-- The quotient rounded down is that of the magnitudes, and where the signs differ it is negative and its magnitude is rounded up.
use Rattle.std.specs.Prelude.{◌≡◌, ℕ, zero, suc, ◌+◌, ◌*◌, ◌/◌, ◌^◌, ◌<◌, ◌≤◌, Bool, true, false, ℤ, pos, negsuc, ◌+ℤ◌, ◌-ℤ◌, int_lt, nat_abs, unsigned_abs}
use Rattle.std.specs.Int.{div_ceil}
use Rattle.std.proofs.Common.{sym, ap, ◌∙◌, arith, le-ltb, lt-ltb}
use Rattle.std.proofs.Math.Nat.{zero-div, zero-mod, div-eq_of_lt-le}
use Rattle.std.proofs.lemmas.Grind.{div_ceil_times}
use mathlib.Core.Bool.{beq}
use Rattle.rules.specs.declared.kinds.Arithmetic.TheVariants.{Div}
use Rattle.rules.specs.paper.Integers.{ranged, divide, compute}
use Rattle.integers.specs.Words.{integer_of}
use Rattle.integers.specs.WordLaws.{integer_low, integer_high, by_sign}

-- A word other than 0 has a magnitude above 0.
pub magnitude_positive : (w : ℕ) → (w ≡ 0 → ⊥) → 0 < unsigned_abs (integer_of w)
magnitude_positive w nonzero =
    by_sign w
    (λ low. rw (integer_low w low) (omega arith))
    (λ high. rw (integer_high w high) (omega arith))

-- No word has a magnitude above 2^63.
pub magnitude_within : (w : ℕ) → w < 2 ^ 64 → nat_abs (integer_of w) ≤ 2 ^ 63
magnitude_within w fits =
    by_sign w
    (λ low. rw (integer_low w low) (omega arith))
    (λ high. rw (integer_high w high) (omega arith))

-- Whether the signs of two integers are the same.
abbrev same_sign : ℤ → ℤ → Bool
same_sign x y = beq (int_lt x (pos 0)) (int_lt y (pos 0))

never : false ≡ true → ⊥
never e = cc

divide_same : (x y : ℤ) → 0 < unsigned_abs y → same_sign x y ≡ true → divide x y ≡ ranged (pos 0 +ℤ pos (unsigned_abs x / unsigned_abs y))
divide_same x (pos zero) positive same = absurd (omega arith)
divide_same (pos a) (pos (suc b)) positive same = ap (λ q. ranged (pos q)) (omega arith)
divide_same (negsuc a) (pos (suc b)) positive same = absurd (never (rw (le-ltb (suc b) 0 (omega arith)) at same))
divide_same (pos a) (negsuc b) positive same = absurd (never (rw (le-ltb a 0 (omega arith)) at same))
divide_same (negsuc a) (negsuc b) positive same = ap (λ q. ranged (pos q)) (omega arith)

rounded_up : (a b : ℕ) → div_ceil (suc a) (suc b) ≡ suc (a / suc b)
rounded_up a b = let t = div_ceil_times (suc a) (suc b) (omega arith) in step (div_ceil (suc a) (suc b)) t.0 t.1
  where
    step : (c : ℕ) → suc a ≤ c * suc b → c * suc b < suc a + suc b → c ≡ suc (a / suc b)
    step zero low high = absurd (omega arith)
    step (suc k) low high = ap suc (sym (div-eq_of_lt-le {k = k} (suc b) {m = a} (omega arith) (omega arith)))

-- Below zero by a number above 0.
taken : (k : ℕ) → pos 0 -ℤ pos (suc k) ≡ negsuc k
taken k = rw (lt-ltb 0 (suc k) (omega arith)) (ap negsuc (omega arith))

divide_other : (x y : ℤ) → 0 < unsigned_abs y → same_sign x y ≡ false → divide x y ≡ ranged (pos 0 -ℤ pos (div_ceil (unsigned_abs x) (unsigned_abs y)))
divide_other x (pos zero) positive other = absurd (omega arith)
divide_other (pos a) (pos (suc b)) positive other = absurd (never (sym (rw (le-ltb a 0 (omega arith), le-ltb (suc b) 0 (omega arith)) at other)))
divide_other (negsuc a) (pos (suc b)) positive other = sym (ap ranged (ap (λ q. pos 0 -ℤ pos q) (rounded_up a b) ∙ taken (a / suc b)))
divide_other (pos zero) (negsuc b) positive other = rw (zero-div (suc b), zero-mod (suc b))
divide_other (pos (suc a)) (negsuc b) positive other = sym (ap ranged (ap (λ q. pos 0 -ℤ pos q) (rounded_up a b) ∙ taken (a / suc b)))
divide_other (negsuc a) (negsuc b) positive other = absurd (never (sym other))

-- The code's quotient, of magnitudes m and n and signs s and t.
module _ (x y : ℤ) (m n : ℕ) (s t : Bool) (positive : 0 < unsigned_abs y) (first : m ≡ unsigned_abs x) (second : n ≡ unsigned_abs y)
    (sign_first : s ≡ int_lt x (pos 0)) (sign_second : t ≡ int_lt y (pos 0)) where
  pub quotient_same : beq s t ≡ true → ranged (pos 0 +ℤ pos (m / n)) ≡ compute Div x y
  unfolding compute
  quotient_same test = rw (first, second) (sym (divide_same x y positive (rw (sign_first, sign_second) at test)))

  pub quotient_other : beq s t ≡ false → (q : ℕ) → q ≡ div_ceil m n → ranged (pos 0 -ℤ pos q) ≡ compute Div x y
  unfolding compute
  quotient_other test q is = rw (is, first, second) (sym (divide_other x y positive (rw (sign_first, sign_second) at test)))
