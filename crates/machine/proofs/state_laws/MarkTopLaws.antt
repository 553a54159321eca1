-- A mark on top of control: the state without it; and the words of the values that it takes.
use Prim.Native.Nat.{ℕ, ◌+◌, ◌-◌, ◌≤◌}
use mathlib.Core.Path.{◌≡◌, refl, sym, ap, ◌∙◌, subst}
use mathlib.Core.Bool.{Bool}
use mathlib.Core.List.{List, ◌∷◌}
use native.Mathlib.Omega.{arith}
use lib.IntN.{ℤ}
use lib.ListN.{get_or}
use Rattle.rules.specs.declared.kinds.Operator.{Operator}
use Rattle.rules.specs.claims.Listing.{truth_word}
use Rattle.rules.specs.paper.States.{Value, integer, truth, location, value, Environment, Store, Entry, val, Item, mark, operator_mark, not_mark, assign_mark, loop_mark, conditional_mark, ref_mark}
use Rattle.machine.specs.Layout.{top_payload, second_payload, top_label, second_label}
use Rattle.integers.specs.Words.{integer_of}
use Rattle.machine.specs.Regions.{Slot, Regions, regions, Fits, with_control, with_values}
use Rattle.machine.specs.Represents.{ValueAs, integer_as, truth_as, location_as, BindableAs, value_as, Mode, ControlAs, operator_on, not_on, assign_on, loop_on, conditional_on, ref_on, ValuesAs, Models}
use Rattle.machine.specs.declared.Machine.{Machine}
use Rattle.machine.proofs.state_laws.TopLaws.{at_height, one_on_top, two_on_top, bindable_top}

-- ---- Control without the mark.

module _ {nodes : List ℕ} {w : ℕ} {ws : List ℕ} {C : List Item} where
  operator_below : {m : Mode} {o : Operator} → ControlAs nodes m (w ∷ ws) (mark (operator_mark o) ∷ C) → ControlAs nodes m ws C
  operator_below (operator_on q h) = h

  not_below : {m : Mode} → ControlAs nodes m (w ∷ ws) (mark not_mark ∷ C) → ControlAs nodes m ws C
  not_below (not_on q h) = h

  assign_below : {m : Mode} → ControlAs nodes m (w ∷ ws) (mark assign_mark ∷ C) → ControlAs nodes m ws C
  assign_below (assign_on q h) = h

  pub loop_below : {m : Mode} → ControlAs nodes m (w ∷ ws) (mark loop_mark ∷ C) → ControlAs nodes m ws C
  loop_below (loop_on q h) = h

  pub conditional_below : {m : Mode} → ControlAs nodes m (w ∷ ws) (mark conditional_mark ∷ C) → ControlAs nodes m ws C
  conditional_below (conditional_on q h) = h

  ref_below : {m : Mode} → ControlAs nodes m (w ∷ ws) (mark ref_mark ∷ C) → ControlAs nodes m ws C
  ref_below (ref_on q h) = h

module _ {κ : Regions} {w : ℕ} {C : List Item} {X : List Entry} {E : Environment} {S : Store} {L : List ℕ} {n : ℕ} where
  abbrev without : {i : Item} (μ : Models (with_control w κ) (i ∷ C) X E S L n) → ControlAs κ.nodes μ.mode κ.control C → Models κ C X E S L n
  without μ h =
      record { mode = μ.mode; control_as = h; values_as = μ.values_as; environment_as = μ.environment_as; store_as = μ.store_as; locations_as = μ.locations_as; bindings_as = μ.bindings_as }

  pub operator_taken : {o : Operator} → Models (with_control w κ) (mark (operator_mark o) ∷ C) X E S L n → Models κ C X E S L n
  operator_taken μ = without μ (operator_below μ.control_as)

  pub not_taken : Models (with_control w κ) (mark not_mark ∷ C) X E S L n → Models κ C X E S L n
  not_taken μ = without μ (not_below μ.control_as)

  pub assign_taken : Models (with_control w κ) (mark assign_mark ∷ C) X E S L n → Models κ C X E S L n
  assign_taken μ = without μ (assign_below μ.control_as)

  abbrev pub loop_taken : Models (with_control w κ) (mark loop_mark ∷ C) X E S L n → Models κ C X E S L n
  loop_taken μ = without μ (loop_below μ.control_as)

  abbrev pub conditional_taken : Models (with_control w κ) (mark conditional_mark ∷ C) X E S L n → Models κ C X E S L n
  conditional_taken μ = without μ (conditional_below μ.control_as)

  pub ref_taken : Models (with_control w κ) (mark ref_mark ∷ C) X E S L n → Models κ C X E S L n
  ref_taken μ = without μ (ref_below μ.control_as)

-- ---- The machine with fewer values.

pub at_height_fits : (words : List ℕ) (m : Machine) (k : ℕ) → Fits words m → k ≤ m.values → Fits words (at_height k m)
at_height_fits words m k f low =
    record { room = f.room; few_control = f.few_control; few_values = omega (arith, f.few_values, low); few_bindings = f.few_bindings; few_cells = f.few_cells }

-- ---- The words of values.

pub integer_word : {t w : ℕ} {z : ℤ} → ValueAs t w (integer z) → z ≡ integer_of w
integer_word (integer_as q low) = q

pub truth_word_of : {t w : ℕ} {b : Bool} → ValueAs t w (truth b) → w ≡ truth_word b
truth_word_of (truth_as q) = q

pub location_word : {t w l : ℕ} → ValueAs t w (location l) → w ≡ l
location_word location_as = refl

pub value_of : {nodes : List ℕ} {rows : List Slot} {t w : ℕ} {v : Value} → BindableAs nodes rows t w (value v) → ValueAs t w v
value_of (value_as h) = h

-- One value on top of the value stack.
pub record OneValue (words : List ℕ) (m : Machine) {C : List Item} {X : List Entry} {E : Environment} {S : Store} {L : List ℕ} {n : ℕ} {v : Value} (μ : Models (regions words m) C (val v ∷ X) E S L n) : Type 0 where
  pub under : List Slot
  pub some_values : 1 ≤ m.values
  pub value_words : ValueAs (get_or words (top_label + m.values) 0) (get_or words (top_payload + m.values) 0) v
  pub popped : regions words (at_height (m.values - 1) m) ≡ with_values under (regions words m)
  pub below : ValuesAs (regions words m).nodes (regions words m).rows (regions words m).base (regions words m).declared (regions words m).environment E μ.mode under X

pub one_value : (words : List ℕ) (m : Machine) {C : List Item} {X : List Entry} {E : Environment} {S : Store} {L : List ℕ} {n : ℕ} {v : Value} (μ : Models (regions words m) C (val v ∷ X) E S L n) → OneValue words m μ
one_value words m {v = v} μ =
    let top = bindable_top μ.values_as in
    let one = one_on_top words m top.top top.rest top.are in
    record {
      under = top.rest;
      some_values = one.some_values;
      value_words = subst (λ t. ValueAs t (get_or words (top_payload + m.values) 0) v) (sym one.label_word) (subst (λ w. ValueAs top.top.label w v) (sym one.payload_word) (value_of top.as_bindable));
      popped = one.popped;
      below = top.below;
    }

-- Two values there: the first to have run is the lower one.
pub record TwoValues (words : List ℕ) (m : Machine) {C : List Item} {X : List Entry} {E : Environment} {S : Store} {L : List ℕ} {n : ℕ} {a b : Value} (μ : Models (regions words m) C (val b ∷ val a ∷ X) E S L n) : Type 0 where
  pub under : List Slot
  pub some_values : 2 ≤ m.values
  pub first_words : ValueAs (get_or words (second_label + m.values) 0) (get_or words (second_payload + m.values) 0) a
  pub second_words : ValueAs (get_or words (top_label + m.values) 0) (get_or words (top_payload + m.values) 0) b
  pub popped : regions words (at_height (m.values - 2) m) ≡ with_values under (regions words m)
  pub below : ValuesAs (regions words m).nodes (regions words m).rows (regions words m).base (regions words m).declared (regions words m).environment E μ.mode under X

pub two_values : (words : List ℕ) (m : Machine) {C : List Item} {X : List Entry} {E : Environment} {S : Store} {L : List ℕ} {n : ℕ} {a b : Value} (μ : Models (regions words m) C (val b ∷ val a ∷ X) E S L n) → TwoValues words m μ
two_values words m {a = a} {b = b} μ =
    let top = bindable_top μ.values_as in
    let next = bindable_top top.below in
    let two = two_on_top words m top.top next.top next.rest (top.are ∙ ap {B = List Slot} (λ ws. top.top ∷ ws) next.are) in
    record {
      under = next.rest;
      some_values = two.some_values;
      first_words = subst (λ t. ValueAs t (get_or words (second_payload + m.values) 0) a) (sym two.second_label_word) (subst (λ w. ValueAs next.top.label w a) (sym two.second_payload_word) (value_of next.as_bindable));
      second_words = subst (λ t. ValueAs t (get_or words (top_payload + m.values) 0) b) (sym two.label_word) (subst (λ w. ValueAs top.top.label w b) (sym two.payload_word) (value_of top.as_bindable));
      popped = two.popped;
      below = next.below;
    }
