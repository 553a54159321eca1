-- Laws of the integers' order, sum and product: what the lemmas of the library leave out. Negation turns the order, a summand on both sides
-- keeps it, and products distribute over a first factor's sum.
use Rattle.std.specs.Prelude.{ℕ, zero, suc, ◌<◌, ◌≡◌, refl, Bool, true, false, ◌↔◌, T, ℤ, pos, negsuc, neg_ℤ, ◌+ℤ◌, ◌-ℤ◌, ◌*ℤ◌, ◌≤ℤ◌, ◌<ℤ◌}
use Rattle.std.proofs.Common.{sym, ap, ◌∙◌, arith, le_antisymm, leb→le, le→leb}
use Rattle.std.proofs.Math.IntN.{suc_ℤ, pred_ℤ, neg_ℤ-neg_ℤ, neg_ℤ-suc_ℤ, +ℤ_idr, +ℤ_assoc, +ℤ-suc_ℤ, +ℤ-pred_ℤ, -ℤ_one, zero-*ℤ, suc_ℤ-*ℤ, pred_ℤ-*ℤ}
use Rattle.std.specs.Int.Signed.{lt_z, le_z, lt_z_no}

-- ---- Tests of the order.

pub at_most : {a b : ℤ} → T (le_z a b) → a ≤ℤ b
at_most t = record { le = t }

-- What is not at most is above.
pub above : (a b : ℤ) → (a ≤ℤ b → ⊥) → b <ℤ a
above a b never = by (lt_z b a) refl
  where
    by : (t : Bool) → lt_z b a ≡ t → b <ℤ a
    by true q = record { lt = rw q tt }
    by false q = absurd (never (lt_z_no {a = b} {b = a} (rw q tt)))

pub same_by_order : (a b : ℤ) → a ≤ℤ b → b ≤ℤ a → a ≡ b
same_by_order (pos a) (pos b) h k = ap pos (le_antisymm (leb→le a b h.le) (leb→le b a k.le))
same_by_order (pos a) (negsuc b) h k = absurd h.le
same_by_order (negsuc a) (pos b) h k = absurd k.le
same_by_order (negsuc a) (negsuc b) h k = ap negsuc (le_antisymm (leb→le a b k.le) (leb→le b a h.le))

-- A negated number is at most −(a + 1) exactly where it is above a.
pub negated_at_most : (n a : ℕ) → (neg_ℤ (pos n) ≤ℤ negsuc a) ↔ (a < n)
negated_at_most zero a = (λ h. absurd h.le, λ h. absurd (omega arith))
negated_at_most (suc n) a = (λ h. omega (arith, leb→le a n h.le), λ h. at_most (le→leb a n (omega arith)))

-- ---- Negation turns the order.

turned : (a b : ℤ) → T (le_z a b) → T (le_z (neg_ℤ b) (neg_ℤ a))
turned (pos zero) (pos zero) h = tt
turned (pos zero) (pos (suc b)) h = tt
turned (pos (suc a)) (pos zero) h = absurd (omega (arith, leb→le (suc a) zero h))
turned (pos (suc a)) (pos (suc b)) h = le→leb a b (omega (arith, leb→le (suc a) (suc b) h))
turned (pos a) (negsuc b) h = absurd h
turned (negsuc a) (pos zero) h = le→leb zero (suc a) (omega arith)
turned (negsuc a) (pos (suc b)) h = tt
turned (negsuc a) (negsuc b) h = le→leb (suc b) (suc a) (omega (arith, leb→le b a h))

pub negation_turns : {a b : ℤ} → a ≤ℤ b → neg_ℤ b ≤ℤ neg_ℤ a
negation_turns {a} {b} h = at_most (turned a b h.le)

-- ---- The same summand on both sides.

successors : (a b : ℤ) → T (le_z a b) → T (le_z (suc_ℤ a) (suc_ℤ b))
successors (pos a) (pos b) h = le→leb (suc a) (suc b) (omega (arith, leb→le a b h))
successors (pos a) (negsuc b) h = absurd h
successors (negsuc zero) (pos b) h = le→leb zero (suc b) (omega arith)
successors (negsuc (suc a)) (pos b) h = tt
successors (negsuc zero) (negsuc zero) h = tt
successors (negsuc zero) (negsuc (suc b)) h = absurd (omega (arith, leb→le (suc b) zero h))
successors (negsuc (suc a)) (negsuc zero) h = tt
successors (negsuc (suc a)) (negsuc (suc b)) h = le→leb b a (omega (arith, leb→le (suc b) (suc a) h))

-- A predecessor is a successor with the signs turned.
predecessors : (a b : ℤ) → T (le_z a b) → T (le_z (pred_ℤ a) (pred_ℤ b))
predecessors a b h =
    rw (← turned_back a, ← turned_back b) (turned (suc_ℤ (neg_ℤ b)) (suc_ℤ (neg_ℤ a)) (successors (neg_ℤ b) (neg_ℤ a) (turned a b h)))
  where
    turned_back : (z : ℤ) → neg_ℤ (suc_ℤ (neg_ℤ z)) ≡ pred_ℤ z
    turned_back z = neg_ℤ-suc_ℤ (neg_ℤ z) ∙ ap pred_ℤ (neg_ℤ-neg_ℤ z)

added : (k a b : ℤ) → T (le_z a b) → T (le_z (a +ℤ k) (b +ℤ k))
added (pos zero) a b h = rw (+ℤ_idr a, +ℤ_idr b) h
added (pos (suc k)) a b h = rw (+ℤ-suc_ℤ a (pos k), +ℤ-suc_ℤ b (pos k)) (successors (a +ℤ pos k) (b +ℤ pos k) (added (pos k) a b h))
added (negsuc zero) a b h = rw (-ℤ_one a, -ℤ_one b) (predecessors a b h)
added (negsuc (suc k)) a b h = rw (+ℤ-pred_ℤ a (negsuc k), +ℤ-pred_ℤ b (negsuc k)) (predecessors (a +ℤ negsuc k) (b +ℤ negsuc k) (added (negsuc k) a b h))

pub sum_keeps_order : {a b : ℤ} (k : ℤ) → a ≤ℤ b → (a +ℤ k) ≤ℤ (b +ℤ k)
sum_keeps_order {a} {b} k h = at_most (added k a b h.le)

pub successor_above : (a : ℤ) → suc_ℤ a ≤ℤ a → ⊥
successor_above (pos a) h = omega (arith, leb→le (suc a) a h.le)
successor_above (negsuc zero) h = h.le
successor_above (negsuc (suc a)) h = omega (arith, leb→le (suc a) a h.le)

-- ---- Products of a sum.

module _ (p b : ℤ) where
  abbrev Distributes : ℤ → Type 0
  Distributes q = (p +ℤ q) *ℤ b ≡ p *ℤ b +ℤ q *ℤ b

  one_more : (q : ℤ) → Distributes q → Distributes (suc_ℤ q)
  one_more q h =
      ap (λ x. x *ℤ b) (+ℤ-suc_ℤ p q) ∙ suc_ℤ-*ℤ (p +ℤ q) b ∙ ap (λ x. x +ℤ b) h ∙ +ℤ_assoc (p *ℤ b) (q *ℤ b) b ∙ sym (ap (λ x. p *ℤ b +ℤ x) (suc_ℤ-*ℤ q b))

  one_less : (q : ℤ) → Distributes q → Distributes (pred_ℤ q)
  one_less q h =
      ap (λ x. x *ℤ b) (+ℤ-pred_ℤ p q) ∙ pred_ℤ-*ℤ (p +ℤ q) b ∙ ap (λ x. x -ℤ b) h ∙ +ℤ_assoc (p *ℤ b) (q *ℤ b) (neg_ℤ b) ∙ sym (ap (λ x. p *ℤ b +ℤ x) (pred_ℤ-*ℤ q b))

  of_zero : Distributes (pos zero)
  of_zero = ap (λ x. x *ℤ b) (+ℤ_idr p) ∙ sym (ap (λ x. p *ℤ b +ℤ x) (zero-*ℤ b) ∙ +ℤ_idr (p *ℤ b))

  pub sum_of_products : (q : ℤ) → (p +ℤ q) *ℤ b ≡ p *ℤ b +ℤ q *ℤ b
  sum_of_products (pos zero) = of_zero
  sum_of_products (pos (suc q)) = one_more (pos q) (sum_of_products (pos q))
  sum_of_products (negsuc zero) = one_less (pos zero) of_zero
  sum_of_products (negsuc (suc q)) = one_less (negsuc q) (sum_of_products (negsuc q))
