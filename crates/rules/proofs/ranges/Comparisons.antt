-- A comparison or Eq of integers within ends gives exactly the truths that are carried (claims/Ranges.antt, ComparisonsExact).
use Rattle.std.specs.Prelude.{◌≡◌, refl, ◌↔◌, Bool, true, false, not, ◌&&◌, T, ℤ, pos, negsuc, ◌≤ℤ◌}
use Rattle.std.proofs.Common.{ap, subst, T_not, eqb→eq}
use Rattle.std.proofs.Math.Dec.{not_T, eqb_refl}
use Rattle.std.specs.Int.Signed.{lt_z, le_z, lt_z_no, ≤ℤ_refl, <ℤ-≤ℤ_trans, clash_ℤ}
use Rattle.rules.proofs.Basics.{passed_test, failed_test, true_test, false_test, and_both, and_left, and_right}
use Rattle.rules.proofs.IntegerOrder.{at_most, above, same_by_order}
use Rattle.rules.specs.paper.Tree.{Order, Lt, Le, Gt, Ge}
use Rattle.rules.specs.paper.Integers.{compare, equal_integers}
use Rattle.rules.specs.paper.Carried.{possible, carry_order, carry_equal, higher}
use Rattle.rules.specs.claims.Ranges.{SomePair, JustTruths, ComparisonsExact}
use Rattle.rules.proofs.ranges.IntegerEnds.{order_trans, higher_first, higher_second, higher_is}

-- ---- A test that a lower first and a higher second integer keep true.

abbrev Keeps : (ℤ → ℤ → Bool) → Type 0
Keeps give = (x y u w : ℤ) → u ≤ℤ x → y ≤ℤ w → T (give x y) → T (give u w)

at_most_keeps : Keeps le_z
at_most_keeps x y u w h k t = (order_trans h (order_trans (at_most {a = x} {b = y} t) k)).le

-- u ≤ x and x below y: u is below y.
below_keeps : Keeps lt_z
below_keeps x y u w h k t = (above w u (λ back. clash_ℤ (<ℤ-≤ℤ_trans (record { lt = t }) (order_trans k back)) h)).lt

module _ (a b c d : ℤ) (first_ends : a ≤ℤ b) (second_ends : c ≤ℤ d) where
  pair_low : (give : ℤ → ℤ → Bool) (w : Bool) → give a d ≡ w → SomePair a b c d give w
  pair_low give w q = record { first = a; second = d; first_within = (≤ℤ_refl a, first_ends); second_within = (second_ends, ≤ℤ_refl d); gives = q }

  pair_high : (give : ℤ → ℤ → Bool) (w : Bool) → give b c ≡ w → SomePair a b c d give w
  pair_high give w q = record { first = b; second = c; first_within = (first_ends, ≤ℤ_refl b); second_within = (≤ℤ_refl c, second_ends); gives = q }

  -- The lowest of the first with the highest of the second is true if any pair is, and the other two are false if any pair is.
  keeping_exact : (give : ℤ → ℤ → Bool) → Keeps give → (w : Bool) → T (possible w (not (give b c)) (give a d)) ↔ SomePair a b c d give w
  keeping_exact give keeps true =
      (λ t. pair_low give true (true_test (give a d) t), λ p. keeps p.first p.second a d p.first_within.0 p.second_within.1 (passed_test p.gives))
  keeping_exact give keeps false = (
    λ t. pair_high give false (false_test (give b c) (T_not (give b c) t)),
    λ p. not_T (give b c) (λ t. failed_test p.gives (keeps b c p.first p.second p.first_within.1 p.second_within.0 t)),
  )

turned_pair : {a b c d : ℤ} {give : ℤ → ℤ → Bool} {w : Bool} → SomePair a b c d give w → SomePair c d a b (λ x y. give y x) w
turned_pair p = record { first = p.second; second = p.first; first_within = p.second_within; second_within = p.first_within; gives = p.gives }

order_exact : (a b c d : ℤ) → a ≤ℤ b → c ≤ℤ d → (o : Order) → JustTruths (carry_order o a b c d) (SomePair a b c d (compare o))
unfolding carry_order compare
order_exact a b c d h k Lt = λ w. keeping_exact a b c d h k lt_z below_keeps w
order_exact a b c d h k Le = λ w. keeping_exact a b c d h k le_z at_most_keeps w
order_exact a b c d h k Gt = λ w. let e = keeping_exact c d a b k h lt_z below_keeps w in (λ t. turned_pair (e.0 t), λ p. e.1 (turned_pair p))
order_exact a b c d h k Ge = λ w. let e = keeping_exact c d a b k h le_z at_most_keeps w in (λ t. turned_pair (e.0 t), λ p. e.1 (turned_pair p))

-- ---- Eq.

pub equal_same : (x y : ℤ) → T (equal_integers x y) → x ≡ y
unfolding equal_integers
equal_same (pos a) (pos b) t = ap pos (eqb→eq a b t)
equal_same (pos a) (negsuc b) t = absurd t
equal_same (negsuc a) (pos b) t = absurd t
equal_same (negsuc a) (negsuc b) t = ap negsuc (eqb→eq a b t)

equal_self : (x : ℤ) → T (equal_integers x x)
unfolding equal_integers
equal_self (pos a) = eqb_refl a
equal_self (negsuc a) = eqb_refl a

same_equal : (x y : ℤ) → x ≡ y → T (equal_integers x y)
same_equal x y q = subst (λ z. T (equal_integers x z)) q (equal_self x)

not_above : (x y : ℤ) → x ≤ℤ y → T (not (lt_z y x))
not_above x y h = not_T (lt_z y x) (λ t. clash_ℤ {a = y} {b = x} (record { lt = t }) h)

module _ (a b c d : ℤ) (h : a ≤ℤ b) (k : c ≤ℤ d) where
  -- They may be equal where the ranges meet, at the higher of the lowest ends.
  meeting : T (not (lt_z d a) && not (lt_z b c)) → SomePair a b c d equal_integers true
  meeting t =
      let a≤d = lt_z_no {a = d} {b = a} (and_left (not (lt_z d a)) (not (lt_z b c)) t) in
      let c≤b = lt_z_no {a = b} {b = c} (and_right (not (lt_z d a)) (not (lt_z b c)) t) in
      record {
        first = higher a c;
        second = higher a c;
        first_within = (higher_first a c, higher_is a c (λ z. z ≤ℤ b) h c≤b);
        second_within = (higher_second a c, higher_is a c (λ z. z ≤ℤ d) a≤d k);
        gives = true_test (equal_integers (higher a c) (higher a c)) (equal_self (higher a c));
      }

  met : SomePair a b c d equal_integers true → T (not (lt_z d a) && not (lt_z b c))
  met p =
      let same = equal_same p.first p.second (passed_test p.gives) in
      and_both (not (lt_z d a)) (not (lt_z b c))
      (not_above a d (order_trans p.first_within.0 (rw same p.second_within.1)))
      (not_above c b (order_trans p.second_within.0 (rw (← same) p.first_within.1)))

  -- They may differ unless both are one number.
  differing : T (not (equal_integers a d && equal_integers b c)) → SomePair a b c d equal_integers false
  differing t = by (equal_integers a d) (equal_integers b c) refl refl t
    where
      by : (s u : Bool) → equal_integers a d ≡ s → equal_integers b c ≡ u → T (not (s && u)) → SomePair a b c d equal_integers false
      by true true p q e = absurd e
      by true false p q e = pair_high a b c d h k equal_integers false q
      by false u p q e = pair_low a b c d h k equal_integers false p

  differed : SomePair a b c d equal_integers false → T (not (equal_integers a d && equal_integers b c))
  differed p =
      not_T (equal_integers a d && equal_integers b c)
      (λ t. failed_test p.gives (all_same (equal_same a d (and_left (equal_integers a d) (equal_integers b c) t))
      (equal_same b c (and_right (equal_integers a d) (equal_integers b c) t))))
    where
      all_same : a ≡ d → b ≡ c → T (equal_integers p.first p.second)
      all_same q r =
          same_equal p.first p.second
          (same_by_order p.first p.second
          (order_trans p.first_within.1 (rw r p.second_within.0))
          (order_trans p.second_within.1 (rw (← q) p.first_within.0)))

equal_exact : (a b c d : ℤ) → a ≤ℤ b → c ≤ℤ d → JustTruths (carry_equal a b c d) (SomePair a b c d equal_integers)
unfolding carry_equal
equal_exact a b c d h k = by
  where
    by : (w : Bool) → T (possible w (not (equal_integers a d && equal_integers b c)) (not (lt_z d a) && not (lt_z b c))) ↔ SomePair a b c d equal_integers w
    by true = (meeting a b c d h k, met a b c d h k)
    by false = (differing a b c d h k, differed a b c d h k)

pub comparisons_exact : ComparisonsExact
comparisons_exact a b c d h k = (order_exact a b c d h k, equal_exact a b c d h k)
