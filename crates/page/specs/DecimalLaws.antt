-- The decimal digits of a number: the last one behind those of its tenth part; how many there are; and that each is one of ten bytes.
use Rattle.std.specs.Prelude.{ℕ, zero, suc, ◌+◌, ◌/◌, ◌%◌, ◌^◌, ◌<◌, ◌≤◌, ◌≡◌, [], ◌∷◌, ◌++◌, length}
use Rattle.std.proofs.Common.{sym, ap, ◌∙◌, subst, arith, pow-suc, div-lt_iff_lt-mul, lt-ltb, le-ltb, length-append}
use Rattle.rules.proofs.Basics.{by_order}
use Rattle.rules.specs.paper.Decimal.{digit, digits_within, decimal}

-- ---- The last digit, and those before it.

one_digit : (k n : ℕ) → n < 10 → digits_within (suc k) n ≡ digit n ∷ []
unfolding digits_within
one_digit k n h = rw (lt-ltb n 10 h)

more_digits : (k n : ℕ) → 10 ≤ n → digits_within (suc k) n ≡ digits_within k (n / 10) ++ (digit (n % 10) ∷ [])
unfolding digits_within
more_digits k n h = rw (le-ltb n 10 h)

-- A number has fewer digits than its successor counts: a larger bound leaves them the same.
same_digits : (k m n : ℕ) → n < k → n < m → digits_within k n ≡ digits_within m n
same_digits zero m n h g = absurd (omega (arith, h))
same_digits (suc k) zero n h g = absurd (omega (arith, g))
same_digits (suc k) (suc m) n h g =
    by_order n 10
    (λ low. one_digit k n low ∙ sym (one_digit m n low))
    (λ high. more_digits k n high ∙ ap (λ l. l ++ (digit (n % 10) ∷ [])) (same_digits k m (n / 10) (omega (arith, h, high)) (omega (arith, g, high))) ∙ sym (more_digits m n high))

pub decimal_short : (n : ℕ) → n < 10 → decimal n ≡ digit n ∷ []
unfolding decimal
decimal_short n h = one_digit n n h

pub decimal_long : (n : ℕ) → 10 ≤ n → decimal n ≡ decimal (n / 10) ++ (digit (n % 10) ∷ [])
unfolding decimal
decimal_long n h = more_digits n n h ∙ ap (λ l. l ++ (digit (n % 10) ∷ [])) (same_digits n (suc (n / 10)) (n / 10) (omega (arith, h)) (omega arith))

-- ---- How many there are.

pub length_long : (n : ℕ) → 10 ≤ n → length (decimal n) ≡ length (decimal (n / 10)) + 1
length_long n h = ap length (decimal_long n h) ∙ length-append (decimal (n / 10)) (digit (n % 10) ∷ [])

pub decimal_within : (k n : ℕ) → n < 10 ^ suc k → length (decimal n) ≤ suc k
decimal_within zero n h = omega (arith, ap length (decimal_short n (subst (λ p. n < p) (pow-suc 10 0) h)))
decimal_within (suc k) n h =
    by_order n 10
    (λ low. omega (arith, ap length (decimal_short n low)))
    (λ high. omega (arith, length_long n high, decimal_within k (n / 10) ((div-lt_iff_lt-mul (omega arith)).1 (subst (λ p. n < p) (pow-suc 10 (suc k)) h))))

pub decimal_some : (n : ℕ) → 1 ≤ length (decimal n)
decimal_some n = by_order n 10 (λ low. omega (arith, ap length (decimal_short n low))) (λ high. omega (arith, length_long n high))

-- As many as there are do: a number's digits can be computed.
pub decimal_computed : (k n : ℕ) → n < 10 ^ suc k → decimal n ≡ digits_within (suc k) n
decimal_computed zero n h = let low = subst (λ p. n < p) (pow-suc 10 0) h in decimal_short n (omega (arith, low)) ∙ sym (one_digit 0 n (omega (arith, low)))
decimal_computed (suc k) n h =
    by_order n 10
    (λ low. decimal_short n low ∙ sym (one_digit (suc k) n low))
    (λ high.
    decimal_long n high
    ∙ ap (λ l. l ++ (digit (n % 10) ∷ [])) (decimal_computed k (n / 10) ((div-lt_iff_lt-mul (omega arith)).1 (subst (λ p. n < p) (pow-suc 10 (suc k)) h)))
    ∙ sym (more_digits (suc k) n high))
