-- What an operator gives of two values that lie within what is carried of them lies within what it carries of both, and the automaton's mark
-- gives it.
use Rattle.std.specs.Prelude.{ℕ, ◌≡◌, Bool, true, false, not, ◌&&◌, ◌||◌, List, ◌∷◌, T, ℤ, ◌≤ℤ◌}
use Rattle.std.proofs.Math.Path.{refl}
use Rattle.std.proofs.Common.{sym, subst}
use Rattle.std.specs.Bool.{beq}
use Rattle.std.proofs.Math.Option.{Option, none, some}
use Rattle.rules.proofs.Basics.{and_both, or_left, or_right}
use Rattle.rules.specs.paper.Tree.{Arithmetic, Operator, arithmetic, Eq, order, logic}
use Rattle.rules.specs.paper.Integers.{compare, equal_integers, equal_truths, combine}
use Rattle.rules.specs.paper.States.{Value, integer, truth, location, Environment, Store, Entry, val, Mark, operator_mark, not_mark, Item, mark, state}
use Rattle.rules.specs.paper.Rules.{Rule, goes, pushed, Applies, mark_arithmetic, mark_Eq, mark_order, mark_logic, mark_Not}
use Rattle.rules.specs.paper.Rules as Rules
use Rattle.rules.specs.paper.Carried.{Carried, numbers, truths, Carrying, carried, unsafe, unfit, ◌>>=◌, fitting, safe, carry_arithmetic, carry_order, carry_equal, possible, some_choice, carry_choice, carry_not, carry_operator, carry_negation}
use Rattle.rules.specs.paper.Carried as Carried
use Rattle.rules.specs.claims.Ranges.{SomePair, JustTruths}
use Rattle.rules.proofs.ranges.Arithmetic.{arithmetic_within}
use Rattle.rules.proofs.ranges.Comparisons.{comparisons_exact}
use Rattle.rules.proofs.ranges.IntegerEnds.{order_trans}

-- ---- A value is one of those that are carried.

pub data ValueWithin : Value → Carried → Type 0 where
  number_within : {z a b : ℤ} → a ≤ℤ z → z ≤ℤ b → ValueWithin (integer z) (numbers a b)
  truth_within : {w f t : Bool} → T (possible w f t) → ValueWithin (truth w) (truths f t)
  location_within : {l : ℕ} → ValueWithin (location l) (Carried.location l)

-- ---- What holds of what is carried, where something is.

abbrev pub If : {A : Type 0} → (A → Type 0) → Carrying A → Type 0
If P (carried a) = P a
If P (unsafe p) = Unit {0}
If P unfit = Unit {0}

pub after : {A B : Type 0} (P : A → Type 0) (Q : B → Type 0) (m : Carrying A) (f : A → Carrying B) → If P m → ((a : A) → P a → If Q (f a)) → If Q (m >>= f)
after P Q (carried a) f h k = k a h
after P Q (unsafe p) f h k = tt
after P Q unfit f h k = tt

pub if_fitting : {A : Type 0} (P : A → Type 0) (o : Option A) → ((a : A) → o ≡ some a → P a) → If P (fitting o)
if_fitting P none h = tt
if_fitting P (some a) h = h a refl

pub if_safe : {A : Type 0} (P : A → Type 0) (p : ℕ) (o : Option A) → ((a : A) → o ≡ some a → P a) → If P (safe p o)
if_safe P p none h = tt
if_safe P p (some a) h = h a refl

-- ---- Truths.

same_truth : (w : Bool) → T (beq w w)
same_truth true = tt
same_truth false = tt

both_taken : (f g : Bool) (give : Bool) → T f → T g → T (f && g && beq give give)
both_taken f g give h k = and_both (f && g) (beq give give) (and_both f g h k) (same_truth give)

choice_there : (give : Bool → Bool → Bool) (x y f t g u : Bool) → T (possible x f t) → T (possible y g u) → T (some_choice give f t g u (give x y))
choice_there give x y f t g u h k = by x y h k
  where
    first : Bool → Bool
    first w = f && g && beq (give false false) w

    second : Bool → Bool
    second w = f && u && beq (give false true) w

    third : Bool → Bool
    third w = t && g && beq (give true false) w

    fourth : Bool → Bool
    fourth w = t && u && beq (give true true) w

    by : (x y : Bool) → T (possible x f t) → T (possible y g u) → T (first (give x y) || second (give x y) || third (give x y) || fourth (give x y))
    by false false h k =
        let w = give false false in
        or_left (first w || second w || third w) (fourth w) (or_left (first w || second w) (third w) (or_left (first w) (second w) (both_taken f g w h k)))
    by false true h k =
        let w = give false true in
        or_left (first w || second w || third w) (fourth w) (or_left (first w || second w) (third w) (or_right (first w) (second w) (both_taken f u w h k)))
    by true false h k =
        let w = give true false in
        or_left (first w || second w || third w) (fourth w) (or_right (first w || second w) (third w) (both_taken t g w h k))
    by true true h k =
        let w = give true true in
        or_right (first w || second w || third w) (fourth w) (both_taken t u w h k)

-- A truth that is some choice's is in the set.
pub choice_possible : (give : Bool → Bool → Bool) (x y f t g u : Bool) → T (possible x f t) → T (possible y g u) →
    T (possible (give x y) (some_choice give f t g u false) (some_choice give f t g u true))
choice_possible give x y f t g u h k = by (give x y) (choice_there give x y f t g u h k)
  where
    by : (w : Bool) → T (some_choice give f t g u w) → T (possible w (some_choice give f t g u false) (some_choice give f t g u true))
    by true c = c
    by false c = c

turned_possible : (w f t : Bool) → T (possible w f t) → T (possible (not w) t f)
turned_possible true f t h = h
turned_possible false f t h = h

-- A truth of the property is one of those carried.
just_within : (v : Carried) (Property : Bool → Type 0) → JustTruths v Property → (w : Bool) → Property w → ValueWithin (truth w) v
just_within (numbers a b) Property h w p = absurd h
just_within (truths f t) Property h w p = truth_within ((h w).1 p)
just_within (Carried.location l) Property h w p = absurd h

-- ---- The marks.

-- The mark's step puts a value on V that lies within what is carried.
pub record MarkGives (m : Mark) (C : List Item) (X Y : List Entry) (E : Environment) (S : Store) (L : List ℕ) (n : ℕ) (v : Carried) : Type 0 where
  pub given : Value
  pub rule : Rule
  pub applies : Applies rule (state (mark m ∷ C) X E S L n) (goes (state C (val given ∷ Y) E S L n))
  pub within : ValueWithin given v

module _ (C : List Item) (X : List Entry) (E : Environment) (S : Store) (L : List ℕ) (n : ℕ) where
  abbrev pub Gives : Operator → Value → Value → Carried → Type 0
  Gives o x y v = MarkGives (operator_mark o) C (val y ∷ val x ∷ X) X E S L n v

  arithmetic_gives : (o : Arithmetic) (x y a b c d : ℤ) (v : Carried) → a ≤ℤ x → x ≤ℤ b → c ≤ℤ y → y ≤ℤ d → carry_arithmetic o a b c d ≡ some v →
      Gives (arithmetic o) (integer x) (integer y) v
  arithmetic_gives o x y a b c d v h₁ h₂ h₃ h₄ q =
      let ends = arithmetic_within o a b c d v q in
      let r = ends.within x y h₁ h₂ h₃ h₄ in
      record {
        given = integer r.0;
        rule = mark_arithmetic;
        applies =
            subst (λ e. Rules.Table C E S L n mark_arithmetic (mark (operator_mark (arithmetic o))) (val (integer y) ∷ val (integer x) ∷ X) (pushed e C X E S L n))
            r.1 Rules.arithmetic_at;
        within = subst (ValueWithin (integer r.0)) (sym ends.is_numbers) (number_within r.2 r.3);
      }

  pub operator_gives : (p : ℕ) (o : Operator) (x y : Value) (v w : Carried) → ValueWithin x v → ValueWithin y w → If (Gives o x y) (carry_operator p o v w)
  unfolding carry_operator carry_choice
  operator_gives p (arithmetic o) x y v w (number_within {z = i} {a = a} {b = b} h₁ h₂) (number_within {z = j} {a = c} {b = d} h₃ h₄) =
      if_safe (Gives (arithmetic o) (integer i) (integer j)) p (carry_arithmetic o a b c d) (λ u q. arithmetic_gives o i j a b c d u h₁ h₂ h₃ h₄ q)
  operator_gives p (arithmetic o) x y v w (number_within h₁ h₂) (truth_within k) = tt
  operator_gives p (arithmetic o) x y v w (number_within h₁ h₂) location_within = tt
  operator_gives p (arithmetic o) x y v w (truth_within h) k = tt
  operator_gives p (arithmetic o) x y v w location_within k = tt
  operator_gives p Eq x y v w (number_within {z = i} {a = a} {b = b} h₁ h₂) (number_within {z = j} {a = c} {b = d} h₃ h₄) =
      record {
        given = truth (equal_integers i j);
        rule = mark_Eq;
        applies = Rules.equal_at refl;
        within =
            just_within (carry_equal a b c d) (SomePair a b c d equal_integers) (comparisons_exact a b c d (order_trans h₁ h₂) (order_trans h₃ h₄)).1 (equal_integers i j)
            (record { first = i; second = j; first_within = (h₁, h₂); second_within = (h₃, h₄); gives = refl });
      }
  operator_gives p Eq x y v w (number_within h₁ h₂) (truth_within k) = tt
  operator_gives p Eq x y v w (number_within h₁ h₂) location_within = tt
  operator_gives p Eq x y v w (truth_within h) (number_within h₃ h₄) = tt
  operator_gives p Eq x y v w (truth_within {w = s} {f = f} {t = t} h) (truth_within {w = r} {f = g} {t = u} k) =
      record { given = truth (equal_truths s r); rule = mark_Eq; applies = Rules.equal_at refl; within = truth_within (choice_possible equal_truths s r f t g u h k) }
  operator_gives p Eq x y v w (truth_within h) location_within = tt
  operator_gives p Eq x y v w location_within k = tt
  operator_gives p (order o) x y v w (number_within {z = i} {a = a} {b = b} h₁ h₂) (number_within {z = j} {a = c} {b = d} h₃ h₄) =
      record {
        given = truth (compare o i j);
        rule = mark_order;
        applies = Rules.order_at;
        within =
            just_within (carry_order o a b c d) (SomePair a b c d (compare o)) ((comparisons_exact a b c d (order_trans h₁ h₂) (order_trans h₃ h₄)).0 o) (compare o i j)
            (record { first = i; second = j; first_within = (h₁, h₂); second_within = (h₃, h₄); gives = refl });
      }
  operator_gives p (order o) x y v w (number_within h₁ h₂) (truth_within k) = tt
  operator_gives p (order o) x y v w (number_within h₁ h₂) location_within = tt
  operator_gives p (order o) x y v w (truth_within h) k = tt
  operator_gives p (order o) x y v w location_within k = tt
  operator_gives p (logic o) x y v w (number_within h₁ h₂) k = tt
  operator_gives p (logic o) x y v w (truth_within h) (number_within h₃ h₄) = tt
  operator_gives p (logic o) x y v w (truth_within {w = s} {f = f} {t = t} h) (truth_within {w = r} {f = g} {t = u} k) =
      record { given = truth (combine o s r); rule = mark_logic; applies = Rules.logic_at; within = truth_within (choice_possible (combine o) s r f t g u h k) }
  operator_gives p (logic o) x y v w (truth_within h) location_within = tt
  operator_gives p (logic o) x y v w location_within k = tt

  pub negation_gives : (x : Value) (v : Carried) → ValueWithin x v → If (MarkGives not_mark C (val x ∷ X) X E S L n) (carry_negation v)
  unfolding carry_not
  negation_gives x v (number_within h k) = tt
  negation_gives x v (truth_within {w = w} {f = f} {t = t} h) =
      record { given = truth (not w); rule = mark_Not; applies = Rules.not_at; within = truth_within (turned_possible w f t h) }
  negation_gives x v location_within = tt
