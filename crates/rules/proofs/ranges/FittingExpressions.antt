-- The carrying of a well-typed expression always has a rule, and what it gives has the expression's code.
use Rattle.std.specs.Prelude.{ℕ, suc, ◌≤◌, ◌<◌, ◌≡◌, refl, Bool, not, ◌||◌, List, ◌∷◌, ℤ, pos, ◌≤ℤ◌}
use Rattle.std.proofs.Common.{sym, arith, le_of_suc-le-suc, not-suc-le-zero}
use Rattle.std.proofs.Math.Path.{subst}
use Rattle.std.proofs.Math.Bool.{true, false}
use Rattle.std.proofs.Math.Option.{Option, some}
use Rattle.std.proofs.Math.Dec.{T}
use Rattle.std.specs.Int.Signed.{≤ℤ_refl}
use Rattle.rules.proofs.Basics.{or_left, or_right}
use Rattle.rules.specs.paper.Tree.{Arithmetic, Order, Logic, arithmetic, Eq, order, logic, Expression, Formal}
use Rattle.rules.specs.paper.Integers.{compare, equal_integers, equal_truths, combine}
use Rattle.rules.specs.paper.Checker.{code, Scope, meaning_of}
use Rattle.rules.specs.paper.Carried.{Carried, numbers, truths, location, possible, some_choice, carry_arithmetic, carry_order, carry_equal, carry_choice, carry_not, carry_operator, carry_negation}
use Rattle.rules.specs.paper.Carrying.{CarriedCells, CarriedMeaning, CarriedNames, carried_meaning, value_of, location_in, contents_at, carry_id, located, carry_expression, carry_actuals}
use Rattle.rules.specs.claims.Typing.{HasCode, num, boo, id_plain, id_cell, deref, valref, arithmetic_of, order_of, equal_of, logic_of, not_of, ActualsFit, no_actuals, actual}
use Rattle.rules.specs.claims.Ranges.{SomePair, JustTruths}
use Rattle.rules.proofs.running.World.{World, code_at}
use Rattle.rules.proofs.ranges.Arithmetic.{arithmetic_within}
use Rattle.rules.proofs.ranges.Comparisons.{comparisons_exact}
use Rattle.rules.proofs.ranges.Operators.{choice_possible}
use Rattle.rules.proofs.ranges.CarriedTyping.{Fits, fits_after, Given, fits_fitting, fits_safe, CarriedTyped, numbers_typed, truths_typed, location_typed, CellsTyped, at_typed, ActualsTyped, one_actual, MeaningTyped, value_typed, NamesTyped, meaning_typed}
use Rattle.rules.proofs.ranges.CarriedTyping as CarriedTyping

-- ---- Sets of truths that are not empty.

some_truth : (w f t : Bool) → T (possible w f t) → T (f || t)
some_truth true f t h = or_right f t h
some_truth false f t h = or_left f t h

-- A truth of the set.
truth_of : (f t : Bool) → T (f || t) → (w : Bool) × T (possible w f t)
truth_of true t h = (false, tt)
truth_of false t h = (true, h)

just_typed : {W : World} (v : Carried) (Property : Bool → Type 0) → JustTruths v Property → (w : Bool) → Property w → CarriedTyped W v 1
just_typed (numbers a b) Property h w p = absurd h
just_typed (truths f t) Property h w p = truths_typed (some_truth w f t ((h w).1 p))
just_typed (location l) Property h w p = absurd h

choice_typed : {W : World} (give : Bool → Bool → Bool) (f t g u : Bool) → T (f || t) → T (g || u) → CarriedTyped W (carry_choice give f t g u) 1
unfolding carry_choice
choice_typed give f t g u h k =
    let x = truth_of f t h in
    let y = truth_of g u k in
    truths_typed (some_truth (give x.0 y.0) (some_choice give f t g u false) (some_choice give f t g u true)
    (choice_possible give x.0 y.0 f t g u x.1 y.1))

lowest_pair : (a b c d : ℤ) → a ≤ℤ b → c ≤ℤ d → (give : ℤ → ℤ → Bool) → SomePair a b c d give (give a c)
lowest_pair a b c d h k give = record { first = a; second = c; first_within = (≤ℤ_refl a, h); second_within = (≤ℤ_refl c, k); gives = refl }

-- ---- Operators.

module _ {W : World} where
  arithmetic_fits : (p : ℕ) (o : Arithmetic) (v w : Carried) → CarriedTyped W v 0 → CarriedTyped W w 0 →
      Fits (λ u. CarriedTyped W u 0) (carry_operator p (arithmetic o) v w)
  unfolding carry_operator
  arithmetic_fits p o v w (numbers_typed {a = a} {b = b} h) (numbers_typed {a = c} {b = d} k) =
      fits_safe (λ u. CarriedTyped W u 0) p (carry_arithmetic o a b c d) (λ u q.
      let ends = arithmetic_within o a b c d u q in
      subst (λ u. CarriedTyped W u 0) (sym ends.is_numbers) (numbers_typed ends.ordered))

  order_fits : (p : ℕ) (o : Order) (v w : Carried) → CarriedTyped W v 0 → CarriedTyped W w 0 → Fits (λ u. CarriedTyped W u 1) (carry_operator p (order o) v w)
  unfolding carry_operator
  order_fits p o v w (numbers_typed {a = a} {b = b} h) (numbers_typed {a = c} {b = d} k) =
      just_typed (carry_order o a b c d) (SomePair a b c d (compare o)) ((comparisons_exact a b c d h k).0 o) (compare o a c) (lowest_pair a b c d h k (compare o))

  equal_fits : (p c : ℕ) (v w : Carried) → c < 2 → CarriedTyped W v c → CarriedTyped W w c → Fits (λ u. CarriedTyped W u 1) (carry_operator p Eq v w)
  unfolding carry_operator
  equal_fits p c v w l (numbers_typed {a = a} {b = b} h) (numbers_typed {a = i} {b = d} k) =
      just_typed (carry_equal a b i d) (SomePair a b i d equal_integers) (comparisons_exact a b i d h k).1 (equal_integers a i) (lowest_pair a b i d h k equal_integers)
  equal_fits p c v w l (truths_typed {f = f} {t = t} h) (truths_typed {f = g} {t = u} k) = choice_typed equal_truths f t g u h k
  equal_fits p c v w l (location_typed q) k = absurd (not-suc-le-zero (le_of_suc-le-suc (le_of_suc-le-suc l)))

  logic_fits : (p : ℕ) (o : Logic) (v w : Carried) → CarriedTyped W v 1 → CarriedTyped W w 1 → Fits (λ u. CarriedTyped W u 1) (carry_operator p (logic o) v w)
  unfolding carry_operator
  logic_fits p o v w (truths_typed {f = f} {t = t} h) (truths_typed {f = g} {t = u} k) = choice_typed (combine o) f t g u h k

  negation_fits : (v : Carried) → CarriedTyped W v 1 → Fits (λ u. CarriedTyped W u 1) (carry_negation v)
  unfolding carry_not
  negation_fits v (truths_typed {f = f} {t = t} h) = truths_typed (turned f t h)
    where
      turned : (f t : Bool) → T (f || t) → T (t || f)
      turned true t h = or_right t true tt
      turned false t h = or_left t false h

one_truth : (b : Bool) → T (not b || b)
one_truth true = tt
one_truth false = tt

-- ---- Expressions.

module _ (W : World) (N : CarriedNames) (K : CarriedCells) (Γ : Scope) (names : NamesTyped W N Γ) (cells : CellsTyped K W) where
  abbrev Coded : ℕ → Carried → Type 0
  Coded c v = CarriedTyped W v c

  pub value_at : (x c : ℕ) → meaning_of x Γ ≡ some (code c) → Given (Coded c) (value_of (carried_meaning x N))
  value_at x c q = let g = meaning_typed x (code c) names q in by g.what g.is_there g.holds
    where
      by : (u : CarriedMeaning) → carried_meaning x N ≡ some u → MeaningTyped W u (code c) → Given (Coded c) (value_of (carried_meaning x N))
      by u r (value_typed {v = v} t) = record { what = v; is_there = rw r; holds = t }

  location_of : (c : ℕ) (o : Option Carried) → Given (Coded (suc (suc c))) o → Given (λ l. code_at l W ≡ some c) (location_in o)
  location_of c o g = by g.what g.is_there g.holds
    where
      by : (v : Carried) → o ≡ some v → CarriedTyped W v (suc (suc c)) → Given (λ l. code_at l W ≡ some c) (location_in o)
      by v r (location_typed {l = l} q) = record { what = l; is_there = rw r; holds = q }

  contents_of : (c : ℕ) (o : Option ℕ) → Given (λ l. code_at l W ≡ some c) o → Given (Coded c) (contents_at o K)
  contents_of c o g = subst (λ a. Given (Coded c) (contents_at a K)) (sym g.is_there) (at_typed g.what c cells g.holds)

  pub location_at : (x c : ℕ) → meaning_of x Γ ≡ some (code (suc (suc c))) → Given (λ l. code_at l W ≡ some c) (location_in (value_of (carried_meaning x N)))
  location_at x c q = location_of c (value_of (carried_meaning x N)) (value_at x (suc (suc c)) q)

  plain_given : (c : ℕ) (o : Option Carried) → c < 2 → Given (Coded c) o → Given (Coded c) (carry_id o K)
  plain_given c o l g = by g.what g.is_there g.holds
    where
      by : (v : Carried) → o ≡ some v → CarriedTyped W v c → Given (Coded c) (carry_id o K)
      by v r t = subst (λ a. Given (Coded c) (carry_id a K)) (sym r) (plain_there l t)
        where
          plain_there : {c : ℕ} {v : Carried} → c < 2 → CarriedTyped W v c → Given (Coded c) (carry_id (some v) K)
          plain_there l (numbers_typed {a = a} {b = b} h) = record { what = numbers a b; is_there = refl; holds = numbers_typed h }
          plain_there l (truths_typed {f = f} {t = t} h) = record { what = truths f t; is_there = refl; holds = truths_typed h }
          plain_there l (location_typed q) = absurd (not-suc-le-zero (le_of_suc-le-suc (le_of_suc-le-suc l)))

  cell_given : (c : ℕ) (o : Option Carried) → Given (Coded (suc (suc c))) o → Given (Coded c) (carry_id o K)
  cell_given c o g = by g.what g.is_there g.holds
    where
      by : (v : Carried) → o ≡ some v → CarriedTyped W v (suc (suc c)) → Given (Coded c) (carry_id o K)
      by v r (location_typed {l = l} q) = subst (λ a. Given (Coded c) (carry_id a K)) (sym r) (at_typed l c cells q)

  located_given : (c : ℕ) (o : Option Carried) → 2 ≤ c → Given (Coded c) o → Given (Coded c) (located (location_in o))
  located_given c o l g = subst (λ a. Given (Coded c) (located (location_in a))) (sym g.is_there) (there l g.holds)
    where
      there : {c : ℕ} {v : Carried} → 2 ≤ c → CarriedTyped W v c → Given (Coded c) (located (location_in (some v)))
      there few (numbers_typed h) = absurd (never few)
        where
          never : 2 ≤ 0 → ⊥
          never k = omega (arith, k)
      there few (truths_typed h) = absurd (never few)
        where
          never : 2 ≤ 1 → ⊥
          never k = omega (arith, k)
      there few (location_typed {l = l} q) = record { what = location l; is_there = refl; holds = location_typed q }

  pub expression_fits : {e : Expression} {c : ℕ} → HasCode Γ e c → Fits (Coded c) (carry_expression N K e)
  unfolding carry_expression
  expression_fits (num {n = n}) = numbers_typed (≤ℤ_refl (pos n))
  expression_fits (boo {b = b}) = truths_typed (one_truth b)
  expression_fits (id_plain {x = x} {c = c} l q) = fits_fitting (Coded c) _ (plain_given c (value_of (carried_meaning x N)) l (value_at x c q))
  expression_fits (id_cell {x = x} {c = c} q) = fits_fitting (Coded c) _ (cell_given c (value_of (carried_meaning x N)) (value_at x (suc (suc c)) q))
  expression_fits (deref {x = x} {c = c} l q) = fits_fitting (Coded c) _ (located_given c (value_of (carried_meaning x N)) l (value_at x c q))
  expression_fits (valref {x = x} {c = c} q) =
      fits_fitting (Coded c) _ (contents_of c _ (location_of c _ (contents_of (suc (suc c)) _ (location_at x (suc (suc c)) q))))
  expression_fits (arithmetic_of {p = p} {o = o} {e₁ = e₁} {e₂ = e₂} h k) =
      fits_after (Coded 0) (Coded 0) (carry_expression N K e₁) _ (expression_fits h) (λ v t.
      fits_after (Coded 0) (Coded 0) (carry_expression N K e₂) _ (expression_fits k) (λ w u. arithmetic_fits p o v w t u))
  expression_fits (order_of {p = p} {o = o} {e₁ = e₁} {e₂ = e₂} h k) =
      fits_after (Coded 0) (Coded 1) (carry_expression N K e₁) _ (expression_fits h) (λ v t.
      fits_after (Coded 0) (Coded 1) (carry_expression N K e₂) _ (expression_fits k) (λ w u. order_fits p o v w t u))
  expression_fits (equal_of {p = p} {c = c} {e₁ = e₁} {e₂ = e₂} l h k) =
      fits_after (Coded c) (Coded 1) (carry_expression N K e₁) _ (expression_fits h) (λ v t.
      fits_after (Coded c) (Coded 1) (carry_expression N K e₂) _ (expression_fits k) (λ w u. equal_fits p c v w l t u))
  expression_fits (logic_of {p = p} {o = o} {e₁ = e₁} {e₂ = e₂} h k) =
      fits_after (Coded 1) (Coded 1) (carry_expression N K e₁) _ (expression_fits h) (λ v t.
      fits_after (Coded 1) (Coded 1) (carry_expression N K e₂) _ (expression_fits k) (λ w u. logic_fits p o v w t u))
  expression_fits (not_of {e = e} h) = fits_after (Coded 1) (Coded 1) (carry_expression N K e) carry_negation (expression_fits h) (λ v t. negation_fits v t)

  pub actuals_fit : {es : List Expression} {fs : List Formal} → ActualsFit Γ es fs → Fits (λ vs. ActualsTyped W vs fs) (carry_actuals N K es)
  unfolding carry_actuals
  actuals_fit no_actuals = CarriedTyping.no_actuals
  actuals_fit (actual {e = e} {es = es} {f = f} {fs = fs} h more) =
      fits_after (λ vs. ActualsTyped W vs fs) (λ vs. ActualsTyped W vs (f ∷ fs)) (carry_actuals N K es) _ (actuals_fit more) (λ vs ts.
      fits_after (Coded f.code) (λ vs. ActualsTyped W vs (f ∷ fs)) (carry_expression N K e) _ (expression_fits h) (λ v t. one_actual t ts))
