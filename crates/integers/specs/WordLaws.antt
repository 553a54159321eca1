-- Laws of the words that hold integers: word and integer are one another's inverse within the range, words are equal where
-- their integers are, every integer that the rules compute is of the range, and what a computed word or reason says of the
-- rules' result.
use Rattle.std.specs.Prelude.{◌≡◌, ℕ, zero, suc, ◌-◌, ◌^◌, ◌<◌, ◌≤◌, Bool, true, false, cond, T, List, [], ◌∷◌, length, get_or, ℤ, pos, negsuc, ◌+ℤ◌, ◌-ℤ◌, ◌*ℤ◌, neg_ℤ, ◌==◌, refl, Ok, Err}
use Rattle.std.proofs.Common.{sym, ap, ◌∙◌, subst, arith, ltb→lt, lt→ltb, lt-ltb, le-ltb, eqb-true, eq-eqb}
use Rattle.rules.proofs.Basics.{by_order}
use Rattle.rules.specs.declared.refusals.Reason.{Reason}
use Rattle.rules.specs.declared.refusals.Reason.TheVariants.{OutOfRange}
use Rattle.rules.specs.declared.kinds.Arithmetic.{Arithmetic}
use Rattle.rules.specs.declared.kinds.Arithmetic.TheVariants.{Sum, Sub, Mul, Div}
use Rattle.rules.specs.paper.Integers.{Result as Computed, in_range, ranged, floor, divide, compute, number, failed, equal_integers}
use Rattle.integers.specs.Words.{integer_of, word_of, computed, integers_of, words_of}

pub by_sign {ℓ} : {P : Type ℓ} (w : ℕ) → (w < 2 ^ 63 → P) → (2 ^ 63 ≤ w → P) → P
by_sign w = by_order w (2 ^ 63)

-- ---- the integer of a word

pub integer_low : (w : ℕ) → w < 2 ^ 63 → integer_of w ≡ pos w
unfolding integer_of
integer_low w low = rw (lt-ltb w (2 ^ 63) low)

pub integer_high : (w : ℕ) → 2 ^ 63 ≤ w → integer_of w ≡ negsuc (2 ^ 64 - 1 - w)
unfolding integer_of
integer_high w high = rw (le-ltb w (2 ^ 63) high)

pub integer_in_range : (w : ℕ) → w < 2 ^ 64 → T (in_range (integer_of w))
integer_in_range w fits =
    by_sign w
    (λ low. rw (integer_low w low) (lt→ltb w (2 ^ 63) low))
    (λ high. rw (integer_high w high) (lt→ltb (2 ^ 64 - 1 - w) (2 ^ 63) (omega arith)))

pub word_of_integer : (w : ℕ) → w < 2 ^ 64 → word_of (integer_of w) ≡ w
unfolding word_of
word_of_integer w fits =
    by_sign w
    (λ low. rw (integer_low w low))
    (λ high. rw (integer_high w high) (omega arith))

-- ---- the word of an integer

pub word_below : (z : ℤ) → T (in_range z) → word_of z < 2 ^ 64
unfolding word_of
word_below (pos n) ranges = omega (arith, ltb→lt n (2 ^ 63) ranges)
word_below (negsuc n) ranges = omega arith

pub integer_of_word : (z : ℤ) → T (in_range z) → integer_of (word_of z) ≡ z
unfolding word_of
integer_of_word (pos n) ranges = integer_low n (ltb→lt n (2 ^ 63) ranges)
integer_of_word (negsuc n) ranges =
    let below = ltb→lt n (2 ^ 63) ranges in
    integer_high (2 ^ 64 - 1 - n) (omega arith) ∙ ap negsuc (omega arith)

-- ---- equality

equal_self : (z : ℤ) → equal_integers z z ≡ true
unfolding equal_integers
equal_self (pos n) = eq-eqb n n refl
equal_self (negsuc n) = eq-eqb n n refl

equal_same : (y z : ℤ) → equal_integers y z ≡ true → y ≡ z
unfolding equal_integers
equal_same (pos m) (pos n) equal = ap pos (eqb-true m n equal)
equal_same (pos m) (negsuc n) equal = let clash : ◌≡◌ {A = ℕ} 0 1 = cc in absurd (omega arith)
equal_same (negsuc m) (pos n) equal = let clash : ◌≡◌ {A = ℕ} 0 1 = cc in absurd (omega arith)
equal_same (negsuc m) (negsuc n) equal = ap negsuc (eqb-true m n equal)

-- Two tests are one where each implies the other.
same_test : (s t : Bool) → (s ≡ true → t ≡ true) → (t ≡ true → s ≡ true) → s ≡ t
same_test true t there back = sym (there refl)
same_test false true there back = back refl
same_test false false there back = refl

pub equal_words : (v w : ℕ) → v < 2 ^ 64 → w < 2 ^ 64 → (v == w) ≡ equal_integers (integer_of v) (integer_of w)
equal_words v w fits_v fits_w =
    same_test (v == w) (equal_integers (integer_of v) (integer_of w))
    (λ equal. rw (eqb-true v w equal) (equal_self (integer_of w)))
    (λ equal. eq-eqb v w
    (sym (word_of_integer v fits_v) ∙ ap word_of (equal_same (integer_of v) (integer_of w) equal) ∙ word_of_integer w fits_w))

-- ---- what the rules compute

kept : (z y : ℤ) (t : Bool) → in_range z ≡ t → cond t (number z) (failed OutOfRange) ≡ number y → T (in_range y)
kept z y true ranges same = let e : z ≡ y = cc in subst (λ x. T (in_range x)) e (rw ranges tt)
kept z y false ranges same = let clash : ◌≡◌ {A = ℕ} 0 1 = cc in absurd (omega arith)

ranged_in_range : (z y : ℤ) → ranged z ≡ number y → T (in_range y)
ranged_in_range z y = kept z y (in_range z) refl

divided_in_range : (a b y : ℤ) → divide a b ≡ number y → T (in_range y)
divided_in_range a (pos zero) y same = let clash : ◌≡◌ {A = ℕ} 0 1 = cc in absurd (omega arith)
divided_in_range a (pos (suc b)) y same = ranged_in_range (floor a (suc b)) y same
divided_in_range a (negsuc b) y same = ranged_in_range (floor (neg_ℤ a) (suc b)) y same

pub computed_in_range : (o : Arithmetic) (a b y : ℤ) → compute o a b ≡ number y → T (in_range y)
unfolding compute
computed_in_range Sum a b y same = ranged_in_range (a +ℤ b) y same
computed_in_range Sub a b y same = ranged_in_range (a -ℤ b) y same
computed_in_range Mul a b y same = ranged_in_range (a *ℤ b) y same
computed_in_range Div a b y same = divided_in_range a b y same

computed_word : (r : Computed) (w : ℕ) → ((y : ℤ) → r ≡ number y → T (in_range y)) → computed r ≡ Ok w → r ≡ number (integer_of w)
unfolding computed
computed_word (number z) w ranges told =
    let same : word_of z ≡ w = cc in
    ap number (sym (integer_of_word z (ranges z refl)) ∙ ap integer_of same)
computed_word (failed reason) w ranges told = let clash : ◌≡◌ {A = ℕ} 0 1 = cc in absurd (omega arith)

pub computed_number : (o : Arithmetic) (a b : ℤ) (w : ℕ) → computed (compute o a b) ≡ Ok w → compute o a b ≡ number (integer_of w)
computed_number o a b w = computed_word (compute o a b) w (computed_in_range o a b)

pub computed_failed : (r : Computed) (reason : Reason) → computed r ≡ Err reason → r ≡ failed reason
unfolding computed
computed_failed (number z) reason told = cc
computed_failed (failed other) reason told = cc

-- ---- Lists of integers.

pub integers_length : (ws : List ℕ) → length (integers_of ws) ≡ length ws
unfolding integers_of
integers_length [] = refl
integers_length (w ∷ ws) = ap suc (integers_length ws)

pub integers_at : (ws : List ℕ) (i : ℕ) → i < length ws → get_or (integers_of ws) i (pos 0) ≡ integer_of (get_or ws i 0)
unfolding integers_of
integers_at [] i h = absurd (omega (arith, h))
integers_at (w ∷ ws) zero h = refl
integers_at (w ∷ ws) (suc i) h = integers_at ws i (omega (arith, h))

-- Words below 2^64 are those of the integers they hold.
pub words_back : (ws : List ℕ) → ((i : ℕ) → i < length ws → get_or ws i 0 < 18446744073709551616) → words_of (integers_of ws) ≡ ws
unfolding integers_of words_of
words_back [] low = refl
words_back (w ∷ ws) low =
    two_parts (word_of_integer w (low 0 (omega arith))) (words_back ws (λ i h. low (suc i) (omega (arith, h))))
  where
    two_parts : word_of (integer_of w) ≡ w → words_of (integers_of ws) ≡ ws → ◌≡◌ {A = List ℕ} (word_of (integer_of w) ∷ words_of (integers_of ws)) (w ∷ ws)
    two_parts p q = cc
