-- The fewest digits that hold a number are its decimal digits, and a word's integer has those of its magnitude.
use Prim.Native.Nat.{ℕ, zero, suc, ◌-◌, ◌*◌, ◌/◌, ◌%◌, ◌^◌, ◌<◌, ◌≤◌}
use mathlib.Core.Path.{◌≡◌, refl, sym, ap, ◌∙◌, subst}
use mathlib.Core.List.{List, [], ◌∷◌, ◌++◌}
use native.Mathlib.Omega.{arith}
use native.Mathlib.Nat.{pow-suc, pow-le-pow_right, mod-lt, mod-eq_of_lt, le-div_iff_mul-le, div-lt_iff_lt-mul}
use borrow.Author.Tests.{lt-ltb, le-ltb, ltb-true}
use lib.ListN.{length, take}
use Rattle.answer.specs.Sizes.{number_bytes, integer_bytes}
use Rattle.io.specs.Digits.{hex_digit_ascii, last_digits, IsDigitCount}
use Rattle.std.specs.Prelude.{ℤ, pos, negsuc, int_lt, unsigned_abs, true, false}
use Rattle.std.proofs.lemmas.Bool.{false≢true}
use Rattle.rules.proofs.Basics.{by_order}
use Rattle.rules.specs.paper.Decimal.{digit, digits_within, decimal, integer}
use Rattle.answer.specs.Adding.{Adds}
use Rattle.answer.proofs.PutLaws.{adds_then, adds_as}

glyph_digit : (d : ℕ) → d < 10 → digit d ≡ hex_digit_ascii d
glyph_digit d h = rw (lt-ltb d 10 h)

one_before : (k : ℕ) → suc k - 1 ≡ k
one_before k = omega arith

-- ---- The digits.

one_digit : (n fuel : ℕ) → n < 10 → digits_within (suc fuel) n ≡ last_digits 10 1 n
unfolding digits_within
one_digit n fuel h = rw (lt-ltb n 10 h) (ap {B = List ℕ} (λ d. d ∷ []) (glyph_digit n h ∙ ap hex_digit_ascii (sym (mod-eq_of_lt h))))

more_digits : (n fuel k : ℕ) → 10 ≤ n → digits_within fuel (n / 10) ≡ last_digits 10 k (n / 10) → digits_within (suc fuel) n ≡ last_digits 10 (suc k) n
unfolding digits_within
more_digits n fuel k h e =
    rw (le-ltb n 10 h) (ap (λ l. l ++ (digit (n % 10) ∷ [])) e ∙ ap (λ d. last_digits 10 k (n / 10) ++ (d ∷ [])) (glyph_digit (n % 10) (mod-lt n (omega arith))))

ten_times : (k : ℕ) → 10 ^ suc k ≡ 10 ^ k * 10
ten_times k = pow-suc 10 k

positive : (k : ℕ) → 1 ≤ 10 ^ k
positive zero = omega arith
positive (suc k) = omega (arith, ten_times k, positive k)

below_power : (k : ℕ) → k < 10 ^ k
below_power zero = omega arith
below_power (suc k) = omega (arith, ten_times k, below_power k)

fewest_digits : (k fuel n : ℕ) → k ≤ fuel → 1 ≤ k → n < 10 ^ k → (1 < k → 10 ^ (k - 1) ≤ n) → digits_within fuel n ≡ last_digits 10 k n
fewest_digits zero fuel n room some high low = absurd (omega (arith, some))
fewest_digits (suc k) zero n room some high low = absurd (omega (arith, room))
fewest_digits (suc zero) (suc fuel) n room some high low = one_digit n fuel (omega (arith, high, ten_times 0))
fewest_digits (suc (suc k)) (suc fuel) n room some high low =
    more_digits n fuel (suc k) (omega (arith, least, ten_times k, positive k))
    (fewest_digits (suc k) fuel (n / 10) (omega (arith, room)) (omega arith) ((div-lt_iff_lt-mul (omega arith)).1 (subst (λ p. n < p) (ten_times (suc k)) high))
    (λ more. subst (λ p. 10 ^ p ≤ n / 10) (sym (one_before k)) ((le-div_iff_mul-le (omega arith)).1 (subst (λ p. p ≤ n) (ten_times k) least))))
  where
    least : 10 ^ suc k ≤ n
    least = subst (λ p. 10 ^ p ≤ n) (one_before (suc k)) (low (omega arith))

digits_are : (n k : ℕ) → IsDigitCount 10 1 n k → last_digits 10 k n ≡ decimal n
unfolding decimal
digits_are n k few = sym (fewest_digits k (suc n) n (enough k few) few.0 few.1 few.2)
  where
    enough : (k : ℕ) → IsDigitCount 10 1 n k → k ≤ suc n
    enough zero f = omega arith
    enough (suc zero) f = omega arith
    enough (suc (suc k)) f = omega (arith, below_power (suc k), subst (λ p. 10 ^ p ≤ n) (one_before (suc k)) (f.2 (omega arith)))

-- A word has at most 20 digits.
pub few_digits : (n k : ℕ) → n < 18446744073709551616 → IsDigitCount 10 1 n k → k ≤ number_bytes
few_digits n k small few = by_order number_bytes k (λ more. absurd (many more)) (λ h. h)
  where
    many : number_bytes < k → ⊥
    many more =
        let power : 10 ^ number_bytes ≤ 10 ^ (k - 1) = pow-le-pow_right (omega arith) {i = number_bytes} {j = k - 1} (omega (arith, more)) in
        omega (arith, power, few.2 (omega (arith, more)), small)

-- ---- A number, and an integer.

pub number_put : (before after digits_now : List ℕ) (n k : ℕ) → n < 18446744073709551616 → k ≡ length (take k digits_now) → IsDigitCount 10 1 n k → take k digits_now ≡ last_digits 10 k n →
    Adds (length (take k digits_now)) before (take k digits_now) after → Adds number_bytes before (decimal n) after
number_put before after digits_now n k small count fewest same p = adds_as number_bytes (same ∙ digits_are n k fewest) (omega (arith, few_digits n k small fewest, count)) p

pub integer_put : {before after : List ℕ} (z : ℤ) → false ≡ int_lt z (pos 0) → Adds number_bytes before (decimal (unsigned_abs z)) after → Adds integer_bytes before (integer z) after
unfolding integer
integer_put (pos n) sign p = adds_as integer_bytes refl (omega arith) p
integer_put (negsuc n) sign p = absurd (false≢true sign)

pub minus_put : {before middle after : List ℕ} (z : ℤ) → true ≡ int_lt z (pos 0) → Adds 1 before (45 ∷ []) middle → Adds number_bytes middle (decimal (unsigned_abs z)) after → Adds integer_bytes before (integer z) after
unfolding integer
minus_put (pos n) sign p q = absurd (omega (arith, ltb-true n 0 (sym sign)))
minus_put (negsuc n) sign p q = adds_as integer_bytes refl (omega arith) (adds_then p q)
