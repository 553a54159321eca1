-- Assign's mark: the value goes to the cell that the name is bound to.
use Prim.Native.Nat.{ℕ, ◌+◌, ◌-◌, ◌<◌, ◌≤◌}
use mathlib.Core.Path.{◌≡◌, refl, sym, ap, ◌∙◌, subst}
use mathlib.Core.Bool.{false}
use mathlib.Core.List.{List, ◌∷◌}
use mathlib.Core.Option.{some}
use native.Mathlib.Omega.{arith}
use lib.ListN.{length, get_or}
use Rattle.rules.specs.paper.States.{Value, location, Bindable, value, Environment, lookup, Store, store_at, Entry, Item, mark, assign_mark, state}
use Rattle.rules.specs.paper.Rules.{Rule, Effect, goes, Table, assign_at}
use Rattle.rules.specs.paper.Run.{judge}
use Rattle.rules.specs.paper.Limits.{most_bindings}
use Rattle.machine.specs.Layout.{row_labels, row_payloads, top_payload, second_payload, top_label}
use Rattle.machine.specs.Regions.{Slot, slot, regions, Fits, with_values, with_cells, set_slot}
use Rattle.machine.specs.Represents.{ValueAs, SegmentAs, Since, ValuesAs, Models}
use Rattle.machine.specs.Lookup.{RowOf}
use Rattle.machine.specs.Steps.{StepAnswer, Applicable, Steps}
use Rattle.machine.specs.declared.Machine.{Machine}
use Rattle.std.specs.Prelude.{Ok}
use Rattle.machine.proofs.memory_laws.RegionLaws.{slots_length}
use Rattle.machine.proofs.state_laws.ModelLaws.{store_size, sizes, step_made, fits_still}
use Rattle.machine.proofs.state_laws.TopLaws.{at_height, two_on_top, bindable_top, name_top}
use Rattle.machine.proofs.state_laws.MarkTopLaws.{assign_taken, location_word, value_of}
use Rattle.machine.proofs.memory_laws.StoreLaws.{find_low, set_slot_length, store_set}

module _ (words : List ℕ) (m : Machine) where
  abbrev name_word : ℕ
  name_word = get_or words (second_payload + m.values) 0

  abbrev label_word : ℕ
  label_word = get_or words (top_label + m.values) 0

  abbrev payload_word : ℕ
  payload_word = get_or words (top_payload + m.values) 0

  -- What a look-up of the name gives.
  abbrev pub Looked : (row : ℕ) → Type 0
  Looked row =
      (nodes : List ℕ) (E : Environment) (b : Bindable) → SegmentAs nodes (regions words m).rows m.environment 0 E → lookup name_word E ≡ some b →
      RowOf nodes (regions words m).rows name_word b row (get_or words (row_labels + row) 0) (get_or words (row_payloads + row) 0)

  -- The value, and the name with its location, on top of the value stack.
  record Assigning {C : List Item} {X : List Entry} {E : Environment} {S : Store} {L : List ℕ} {n : ℕ} (μ : Models (regions words m) C X E S L n)
      (e : Effect) : Type 0 where
    pub at : ℕ
    pub new : Value
    pub rest : List Entry
    pub under : List Slot
    pub some_values : 2 ≤ m.values
    pub looked : lookup name_word E ≡ some (value (location at))
    pub low : at < m.cells
    pub value_words : ValueAs label_word payload_word new
    pub popped : regions words (at_height (m.values - 2) m) ≡ with_values under (regions words m)
    pub below : ValuesAs (regions words m).nodes (regions words m).rows (regions words m).base (regions words m).declared
        (regions words m).environment E μ.mode under rest
    pub effect : e ≡ goes (state C rest E (store_at at new S) L n)

  assigning : {C : List Item} {X : List Entry} {E : Environment} {S : Store} {L : List ℕ} {n : ℕ} {r : Rule} {e : Effect} →
      Table C E S L n r (mark assign_mark) X e → (μ : Models (regions words m) C X E S L n) → Assigning μ e
  assigning {E = E} {S = S} (assign_at {x = x} {l = l} {v = v} {w = w} {X = Y} looked found) μ =
      let top = bindable_top μ.values_as in
      let next = name_top top.below in
      let two = two_on_top words m top.top next.top next.rest (top.are ∙ ap {B = List Slot} (λ ws. top.top ∷ ws) next.are) in
      let z = sizes words m μ in
      record {
        at = l;
        new = v;
        rest = Y;
        under = next.rest;
        some_values = two.some_values;
        looked = ap (λ y. lookup y E) (two.second_payload_word ∙ next.payload_is) ∙ looked;
        low = omega (arith, find_low l w μ.store_as found, store_size μ.store_as, z.cells_height);
        value_words = subst (λ t. ValueAs t payload_word v) (sym two.label_word)
            (subst (λ p. ValueAs top.top.label p v) (sym two.payload_word) (value_of top.as_bindable));
        popped = two.popped;
        below = next.below;
        effect = refl;
      }

  chain : {C : List Item} {X : List Entry} {E : Environment} {S : Store} {L : List ℕ} {n : ℕ} → Models (regions words m) C X E S L n →
      SegmentAs (regions words m).nodes (regions words m).rows m.environment 0 E
  unfolding regions
  chain μ = μ.environment_as

  row_count : length (regions words m).rows ≡ m.bindings
  unfolding regions
  row_count = slots_length row_labels row_payloads m.bindings words

  -- ---- What the code needs.

  module _ {w : ℕ} (a : Applicable words m w (mark assign_mark)) where
    state_there : Models (regions words m) a.control a.values a.environment a.store a.locations a.bindings
    state_there = assign_taken a.ready.models

    assigned : Assigning state_there a.effect
    assigned = assigning a.ready.applies state_there

    pub two_there : 2 ≤ m.values
    two_there = assigned.some_values

    pub name_bound : (nodes : List ℕ) × (E : Environment) × (b : Bindable) × SegmentAs nodes (regions words m).rows m.environment 0 E
        × (lookup name_word E ≡ some b)
    name_bound = ((regions words m).nodes, a.environment, value (location assigned.at), chain state_there, assigned.looked)

    row_there : {row : ℕ} → Looked row → RowOf (regions words m).nodes (regions words m).rows name_word (value (location assigned.at)) row
        (get_or words (row_labels + row) 0) (get_or words (row_payloads + row) 0)
    row_there h = h (regions words m).nodes a.environment (value (location assigned.at)) (chain state_there) assigned.looked

    pub row_low : {row : ℕ} → Looked row → row < most_bindings
    row_low h = omega (arith, (row_there h).within, row_count, a.ready.fits.few_bindings)

    pub cell_low : {row : ℕ} → Looked row → get_or words (row_payloads + row) 0 < m.cells
    cell_low h = omega (arith, location_word (value_of (row_there h).bound_to), assigned.low)

-- ---- The step.

pub assign_made : (before after : List ℕ) (m : Machine) (w row : ℕ) → Fits before m → Looked before m row →
    regions after (at_height (m.values - 2) m) ≡
    with_cells (set_slot (get_or before (row_payloads + row) 0) (slot (label_word before m) (payload_word before m))
    (regions before (at_height (m.values - 2) m)).cells) (regions before (at_height (m.values - 2) m)) →
    Steps before m w (mark assign_mark) (Ok (at_height (m.values - 2) m)) after
assign_made before after m w row f looked written C X E S L n r e ready = by (assign_taken ready.models)
    (assigning before m ready.applies (assign_taken ready.models))
  where
    by : (μ : Models (regions before m) C X E S L n) → Assigning before m μ e → StepAnswer (judge false e) (Ok (at_height (m.values - 2) m))
        before after
    by μ h =
        let found = looked (regions before m).nodes E (value (location h.at)) (chain before m μ) h.looked in
        let place = location_word (value_of found.bound_to) in
        let new_slot : Slot = slot (label_word before m) (payload_word before m) in
        let all =
        written ∙ ap (λ κ. with_cells (set_slot (get_or before (row_payloads + row) 0) new_slot κ.cells) κ) h.popped
        ∙ ap (λ l. with_cells (set_slot l new_slot (regions before m).cells) (with_values h.under (regions before m))) place in
        subst (λ k. StepAnswer (judge false k) (Ok (at_height (m.values - 2) m)) before after) (sym h.effect)
        (step_made before after m (at_height (m.values - 2) m) _ C h.rest E (store_at h.at h.new S) L n refl
        (fits_still before after m (at_height (m.values - 2) m) f (ap (λ κ. κ.size) all) f.few_control (omega (arith, f.few_values))
        f.few_bindings f.few_cells)
        (subst (λ κ. Models κ C h.rest E (store_at h.at h.new S) L n) (sym all)
        (record {
          mode = μ.mode;
          control_as = μ.control_as;
          values_as = h.below;
          environment_as = μ.environment_as;
          store_as = store_set h.at new_slot h.new μ.store_as h.value_words;
          locations_as = subst (λ k. Since (regions before m).base k L) (sym (set_slot_length h.at new_slot (regions before m).cells)) μ.locations_as;
          bindings_as = μ.bindings_as;
        }))
        (ap (λ κ. κ.nodes) all) (ap (λ κ. κ.beyond) all) (ap (λ κ. κ.size) all))
