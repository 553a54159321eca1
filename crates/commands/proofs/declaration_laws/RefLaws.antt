-- Ref's mark: a cell with the value, its location in L and in the value's place.
use Prim.Native.Nat.{ℕ, suc, ◌+◌, ◌-◌, ◌<◌, ◌≤◌}
use mathlib.Core.Path.{◌≡◌, refl, sym, ap, ◌∙◌, subst}
use mathlib.Core.Bool.{false}
use mathlib.Core.List.{List, ◌∷◌}
use native.Mathlib.Omega.{arith}
use lib.ListN.{length, get_or}
use Rattle.rules.specs.declared.refusals.Reason.TheVariants.{Cells}
use Rattle.rules.specs.paper.States.{location, Environment, Store, Entry, val, Item, mark, ref_mark}
use Rattle.rules.specs.paper.Rules.{Rule, Effect, Table, ref_at}
use Rattle.rules.specs.paper.Run.{judge}
use Rattle.rules.specs.paper.Limits.{most_cells, most_value_entries}
use Rattle.machine.specs.Layout.{top_payload, top_label}
use Rattle.machine.specs.Regions.{Slot, slot, regions, Fits, with_values, with_cells, raised_values, raised_cells}
use Rattle.machine.specs.Represents.{ValueAs, location_as, value_as, one_cell, Since, one_since, bindable_on, Models}
use Rattle.machine.specs.Steps.{StepAnswer, Applicable, Steps}
use Rattle.machine.specs.declared.Machine.{Machine}
use Rattle.std.specs.Prelude.{Ok, Err}
use Rattle.machine.proofs.state_laws.JudgeLaws.{judged_cells}
use Rattle.machine.proofs.state_laws.ModelLaws.{store_size, sizes, step_made, step_withheld, fits_still}
use Rattle.machine.proofs.state_laws.TopLaws.{at_height}
use Rattle.machine.proofs.state_laws.MarkTopLaws.{ref_taken, one_value}

pub value_there : {words : List ℕ} {m : Machine} {w : ℕ} → Applicable words m w (mark ref_mark) → 1 ≤ m.values
value_there {words} {m} a = by a.ready.applies (ref_taken a.ready.models)
  where
    by : {C : List Item} {E : Environment} {S : Store} {L : List ℕ} {n : ℕ} {r : Rule} {X : List Entry} {e : Effect} →
        Table C E S L n r (mark ref_mark) X e → Models (regions words m) C X E S L n → 1 ≤ m.values
    by ref_at μ = (one_value words m μ).some_values

-- A 257th cell.
pub ref_withheld : (words : List ℕ) (m : Machine) (w : ℕ) → m.cells ≡ most_cells → Steps words m w (mark ref_mark) (Err Cells) words
ref_withheld words m w full C X E S L n r e ready = by ready.applies (ref_taken ready.models)
  where
    by : {k : Rule} {Y : List Entry} {e : Effect} → Table C E S L n k (mark ref_mark) Y e → Models (regions words m) C Y E S L n →
        StepAnswer (judge false e) (Err Cells) words words
    by (ref_at {v = v} {X = Y}) μ =
        let z = sizes words m μ in
        step_withheld words Cells _ _
        (judged_cells C (val (location (length S)) ∷ Y) E (record { where_at = length S; contents = v } ∷ S) (length S ∷ L) n
        (omega (arith, z.cells_height, full)))
        refl

-- What `put_cell` does, the value being taken off its stack.
pub record CellMade (before : List ℕ) (m : Machine) (between : List ℕ) (made : Machine) : Type 0 where
  pub machine_is : made ≡ raised_cells (at_height (m.values - 1) m)
  pub regions_are :
      regions between (raised_cells (at_height (m.values - 1) m)) ≡
      with_cells (slot (get_or before (top_label + m.values) 0) (get_or before (top_payload + m.values) 0)
      ∷ (regions before (at_height (m.values - 1) m)).cells) (regions before (at_height (m.values - 1) m))

size_same : (words : List ℕ) (m : Machine) (k : ℕ) → (regions words (at_height k m)).size ≡ (regions words m).size
unfolding regions
size_same words m k = refl

pub cell_fits : (before between : List ℕ) (m made : Machine) → Fits before m → (m.cells ≡ most_cells → ⊥) → 1 ≤ m.values →
    CellMade before m between made → Fits between made × (made.values < most_value_entries)
cell_fits before between m made f room there c = (
  subst (Fits between) (sym c.machine_is)
      (fits_still before between m (raised_cells (at_height (m.values - 1) m)) f (ap (λ κ. κ.size) c.regions_are ∙ size_same before m (m.values - 1))
      f.few_control (omega (arith, f.few_values)) f.few_bindings (omega (arith, f.few_cells, room))),
  omega (arith, ap (λ k. k.values) c.machine_is, f.few_values, there),
)

pub ref_made : (before between after : List ℕ) (m made r : Machine) (w : ℕ) → Fits before m → (m.cells ≡ most_cells → ⊥) → 1 ≤ m.values →
    CellMade before m between made → r ≡ raised_values made →
    regions after (raised_values made) ≡ with_values (slot 1 m.cells ∷ (regions between made).values) (regions between made) →
    Steps before m w (mark ref_mark) (Ok r) after
ref_made before between after m made r w f room there c q g C X E S L n rule e ready = by ready.applies (ref_taken ready.models)
  where
    by : {k : Rule} {Y : List Entry} {e : Effect} → Table C E S L n k (mark ref_mark) Y e → Models (regions before m) C Y E S L n →
        StepAnswer (judge false e) (Ok r) before after
    by (ref_at {v = v} {X = Y}) μ =
        let one = one_value before m μ in
        let z = sizes before m μ in
        let new_slot : Slot = slot (get_or before (top_label + m.values) 0) (get_or before (top_payload + m.values) 0) in
        let cells_then = ap (regions between) c.machine_is ∙ c.regions_are ∙ ap (λ κ. with_cells (new_slot ∷ κ.cells) κ) one.popped in
        let all = ap (regions after) q ∙ g ∙ ap (λ κ. with_values (slot 1 m.cells ∷ κ.values) κ) cells_then in
        let fits = cell_fits before between m made f room there c in
        let counted = store_size μ.store_as in
        step_made before after m r (Ok r) C (val (location (length S)) ∷ Y) E (record { where_at = length S; contents = v } ∷ S) (length S ∷ L) n refl
        (subst (Fits after) (sym q)
        (fits_still between after made (raised_values made) fits.0 (ap (λ κ. κ.size) g) fits.0.few_control
        (omega (arith, fits.1)) fits.0.few_bindings fits.0.few_cells))
        (subst (λ κ. Models κ C (val (location (length S)) ∷ Y) E (record { where_at = length S; contents = v } ∷ S) (length S ∷ L) n) (sym all)
        (record {
          mode = μ.mode;
          control_as = μ.control_as;
          values_as = bindable_on (value_as (subst (λ l. ValueAs 1 m.cells (location l)) (sym z.cells_height) location_as)) one.below;
          environment_as = μ.environment_as;
          store_as = one_cell counted one.value_words μ.store_as;
          locations_as = subst (λ l. Since (regions before m).base (suc (length (regions before m).cells)) (l ∷ L)) (sym counted)
              (one_since μ.locations_as);
          bindings_as = μ.bindings_as;
        }))
        (ap (λ κ. κ.nodes) all) (ap (λ κ. κ.beyond) all) (ap (λ κ. κ.size) all)
