-- A call's actuals one after the other: each runs over the earlier ones on control, with the later ones' values on the value stack. What
-- those that are left come to, over the earlier ones, together with what these came to, is what all of them come to.
use Prim.Native.Nat.{ℕ, suc, ◌+◌, ◌-◌, ◌≤◌, max}
use mathlib.Core.Path.{◌≡◌, refl, sym, ap, ◌∙◌, subst}
use mathlib.Core.List.{List, ◌∷◌, []}
use native.Mathlib.Omega.{arith}
use lib.ListN.{length, get_or}
use Rattle.rules.specs.paper.Limits.{most_steps, most_parameters}
use Rattle.rules.specs.paper.Tree.{Expression}
use Rattle.rules.specs.paper.Needs.{sizes, over, expression_need, actuals_need}
use Rattle.rules.proofs.needs.NodeStretches.{expression_least}
use Rattle.reader.specs.Pack.{packed_end}
use Rattle.reader.specs.Stored.{StoredActuals, no_actuals, one_actual}
use Rattle.reader.proofs.StandingLaws.{expression_end}
use Rattle.estimator.specs.Figures.{stopped, numbers, raised, both_in_turn}
use Rattle.estimator.specs.Answers.{SomeExpression, SomeActuals, ExpressionNeeds, ActualsNeed}
use Rattle.estimator.specs.declared.figures.Need.{Need}
use Rattle.estimator.proofs.FigureLaws.{same_need, over_of, turn_of, last_of}

-- ---- None, and one with those after it.

module _ (words : List ℕ) (node count : ℕ) where
  pub no_actual : count ≡ 0 → (r : Need) → r ≡ numbers 0 0 0 0 0 0 → ActualsNeed words node count r
  unfolding actuals_need
  no_actual z r q d j es no_actuals n = q
  no_actual z r q d j es (one_actual h g) n = absurd (omega (arith, z, n))

  module _ (some_left : count ≡ 0 → ⊥) where
    pub first_actual : SomeActuals words node count → SomeExpression words node
    first_actual s = by s.3 s.4
      where
        by : {d j : ℕ} {es : List Expression} → StoredActuals words d node j es → length es ≡ count → SomeExpression words node
        by no_actuals n = absurd (some_left (sym n))
        by (one_actual h g) n = (_, _, _, h)

    pub later_actuals : SomeActuals words node count → SomeActuals words (packed_end (get_or words node 0)) (count - 1)
    later_actuals s = by s.3 s.4
      where
        by : {d j : ℕ} {es : List Expression} → StoredActuals words d node j es → length es ≡ count → SomeActuals words (packed_end (get_or words node 0)) (count - 1)
        by no_actuals n = absurd (some_left (sym n))
        by {d} (one_actual {k = k} {es = es} h g) n = (d, k, es, subst (λ i. StoredActuals words d i k es) (sym (expression_end h)) g, omega (arith, n))

    pub actuals_together : count ≤ most_parameters → (r s : Need) (next : ℕ) → next ≡ packed_end (get_or words node 0) → ExpressionNeeds words node r → ActualsNeed words next (count - 1) s →
        (t : Need) → t ≡ both_in_turn (raised s 1 0 0 0) (raised r 0 (count - 1) 0 0) → ActualsNeed words node count t
    unfolding actuals_need
    actuals_together few r s next p first later t q d j es no_actuals n = absurd (some_left (sym n))
    actuals_together few r s next p first later t q d j es (one_actual {k = k} {e = e} {es = es'} h g) n =
        q
        ∙ ap (λ m. both_in_turn (raised s 1 0 0 0) (raised r 0 m 0 0)) (fewer n few)
        ∙ (turn_of (over (sizes 0 (length es') 0 0) (expression_need e) ∷ [])
        (over_of 1 0 0 0 (record { equal = later d k es' (subst (λ i. StoredActuals words d i k es') (sym (p ∙ expression_end h)) g) (omega (arith, n)) }))
        (last_of (over_of 0 (length es') 0 0 (record { equal = first _ _ e h })))).equal
      where
        fewer : suc (length es') ≡ count → count ≤ most_parameters → count - 1 ≡ stopped (length es')
        fewer m l = omega (arith, m, l)

-- ---- Those that are worked out so far.

-- The others stand here. Those before them have needed control for themselves and for the ones before them, so that no more is added where
-- none is left.
pub record NeededSoFar (words : List ℕ) (node count at given left : ℕ) (so_far : Need) : Type 0 where
  pub others : SomeActuals words at left
  pub together : given + left ≡ count
  pub above : given ≤ so_far.control
  pub within : so_far.steps ≤ suc most_steps
  pub all_within : so_far.all_steps ≤ suc most_steps
  pub whole : (r : Need) → ActualsNeed words at left r → ActualsNeed words node count (both_in_turn so_far (raised r given 0 0 0))

pub none_needed : (words : List ℕ) (node count left : ℕ) (so_far : Need) → left ≡ count → so_far ≡ numbers 0 0 0 0 0 0 → SomeActuals words node count → NeededSoFar words node count node 0 left so_far
none_needed words node count left so_far e q s =
    subst (NeededSoFar words node count node 0 left) (sym q)
    (record {
      others = subst (SomeActuals words node) (sym e) s;
      together = omega arith;
      above = omega arith;
      within = omega arith;
      all_within = omega arith;
      whole =
          λ r all d j es stored n.
          ap (λ m. both_in_turn (numbers 0 0 0 0 0 0) (raised m 0 0 0 0)) (all d j es stored (n ∙ sym e))
          ∙ same_need (omega arith) (omega arith) (omega arith) (omega arith) (omega arith) (omega arith);
    })

-- One size of both, raised, beside what is so far.
moved_size : (so_far rest one i l k a b : ℕ) → a ≡ l + k → b ≡ i + k →
    max so_far (stopped (max (stopped (rest + i)) (stopped (one + l)) + k)) ≡ max (max so_far (stopped (one + a))) (stopped (rest + b))
moved_size so_far rest one i l k a b p q =
    ap (max so_far) (each (stopped (rest + i)) (stopped (one + l)) k ∙ ap (λ x. max x (stopped (stopped (one + l) + k))) (once rest i k b q) ∙ ap (max (stopped (rest + b))) (once one l k a p))
    ∙ turned so_far (stopped (rest + b)) (stopped (one + a))
  where
    each : (x y k : ℕ) → stopped (max x y + k) ≡ max (stopped (x + k)) (stopped (y + k))
    each x y k = omega arith

    once : (x i k b : ℕ) → b ≡ i + k → stopped (stopped (x + i) + k) ≡ stopped (x + b)
    once x i k b q = omega (arith, q)

    turned : (x y z : ℕ) → max x (max y z) ≡ max (max x z) y
    turned x y z = omega arith

pub one_more_needed : (words : List ℕ) (node count at given left later : ℕ) (so_far one raised_one now_so_far : Need) (next : ℕ) → count ≤ most_parameters → NeededSoFar words node count at given left so_far →
    left ≡ suc later → ExpressionNeeds words at one → raised_one ≡ raised one given later 0 0 → now_so_far ≡ both_in_turn so_far raised_one → next ≡ packed_end (get_or words at 0) →
    NeededSoFar words node count next (given + 1) later now_so_far
one_more_needed words node count at given left later so_far one raised_one now_so_far next few known one_left first p q e =
    subst (NeededSoFar words node count next (given + 1) later) (sym (q ∙ ap (both_in_turn so_far) p))
    (record {
      others = subst (SomeActuals words next) fewer (subst (λ i. SomeActuals words i (left - 1)) (sym e) (later_actuals words at left some_left known.others));
      together = omega (arith, known.together, one_left);
      above = raised_above given (given + 1) one.control so_far.control (omega arith) (omega (arith, few, known.together)) control_of_one;
      within = omega arith;
      all_within = omega arith;
      whole =
          λ r after.
          subst (ActualsNeed words node count) (moved r given later (given + 1) (omega arith))
          (known.whole (both_in_turn (raised r 1 0 0 0) (raised one 0 later 0 0))
          (subst (λ n. ActualsNeed words at left (both_in_turn (raised r 1 0 0 0) (raised one 0 n 0 0))) fewer
          (actuals_together words at left some_left (omega (arith, known.together, few)) one r next e first (subst (λ n. ActualsNeed words next n r) (sym fewer) after) (both_in_turn (raised r 1 0 0 0) (raised one 0 (left - 1) 0 0)) refl)));
    })
  where
    some_left : left ≡ 0 → ⊥
    some_left z = omega (arith, z, one_left)

    fewer : left - 1 ≡ later
    fewer = omega (arith, one_left)

    raised_above : (k m n s : ℕ) → m ≡ suc k → k ≤ most_parameters → 1 ≤ n → m ≤ max s (stopped (n + k))
    raised_above k m n s h few g = omega (arith, h, few, g)

    there : SomeExpression words at
    there = first_actual words at left some_left known.others

    control_of_one : 1 ≤ one.control
    control_of_one = subst (λ n. 1 ≤ n.control) (sym (first there.0 there.1 there.2 there.3)) (omega (arith, expression_least there.2))

    -- The later ones' need over one entry of control more, in the place of the need of this one and them.
    moved : (r : Need) (k l m : ℕ) → m ≡ suc k →
        both_in_turn so_far (raised (both_in_turn (raised r 1 0 0 0) (raised one 0 l 0 0)) k 0 0 0) ≡ both_in_turn (both_in_turn so_far (raised one k l 0 0)) (raised r m 0 0 0)
    moved r k l m h =
        same_need (moved_size so_far.control r.control one.control 1 0 k k m (omega arith) (omega (arith, h))) (moved_size so_far.values r.values one.values 0 l 0 l 0 (omega arith) refl)
        (moved_size so_far.cells r.cells one.cells 0 0 0 0 0 refl refl)
        (moved_size so_far.bindings r.bindings one.bindings 0 0 0 0 0 refl refl) (omega arith) (omega arith)

-- None is left: what they came to is what all of them come to.
pub all_needed : (words : List ℕ) (node count at given left : ℕ) (so_far : Need) → NeededSoFar words node count at given left so_far → left ≡ 0 → ActualsNeed words node count so_far
all_needed words node count at given left so_far known none_left =
    subst (ActualsNeed words node count) (same_need (omega (arith, known.above)) (omega arith) (omega arith) (omega arith) (omega (arith, known.within)) (omega (arith, known.all_within)))
    (known.whole (numbers 0 0 0 0 0 0) (no_actual words at left none_left (numbers 0 0 0 0 0 0) refl))
