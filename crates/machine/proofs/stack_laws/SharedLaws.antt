-- What several rules do alike: a value more, or some entries more on control, as many as there are.
use Prim.Native.Nat.{ℕ, ◌+◌, ◌<◌, ◌≤◌}
use mathlib.Core.Path.{◌≡◌, refl, sym, ap, ◌∙◌, subst}
use mathlib.Core.Bool.{false}
use mathlib.Core.List.{List, ◌∷◌, ◌++◌}
use native.Mathlib.Omega.{arith}
use lib.ListN.{length, length-append}
use Rattle.std.specs.Prelude.{Ok, Err, Some}
use Rattle.rules.specs.declared.refusals.Reason.{Reason}
use Rattle.rules.specs.declared.refusals.Reason.TheVariants.{ValueEntries, ControlEntries}
use Rattle.rules.specs.paper.States.{Environment, Store, Entry, bindable, Item, state}
use Rattle.rules.specs.paper.Rules.{goes}
use Rattle.rules.specs.paper.Run.{judge}
use Rattle.machine.specs.Room.{reason_of_room}
use Rattle.rules.specs.paper.Limits.{most_value_entries, most_control_entries}
use Rattle.machine.specs.Regions.{Slot, slot, regions, Fits, with_control, with_controls, with_values, raised_control, raised_values}
use Rattle.machine.specs.Represents.{Mode, ControlAs, bindable_on, Beside, Models}
use Rattle.machine.specs.Steps.{StepAnswer, Pushes, Puts, Enters}
use Rattle.machine.specs.declared.Machine.{Machine}
use Rattle.machine.proofs.state_laws.JudgeLaws.{judged_values, judged_control}
use Rattle.machine.proofs.state_laws.ModelLaws.{control_size, beside_sizes, control_height, sizes, step_made, step_withheld, step_withheld_for_room, fits_still}

-- What `put_control` does.
pub record Put (before : List ℕ) (m : Machine) (w : ℕ) (after : List ℕ) (r : Machine) : Type 0 where
  pub machine_is : r ≡ raised_control m
  pub regions_are : regions after (raised_control m) ≡ with_control w (regions before m)

pub put_regions : {before after : List ℕ} {m r : Machine} {w : ℕ} → Put before m w after r → regions after r ≡ with_control w (regions before m)
put_regions {after = after} p = ap (regions after) p.machine_is ∙ p.regions_are

pub put_fits : (before : List ℕ) (m : Machine) (after : List ℕ) (r : Machine) (w : ℕ) → Fits before m → Put before m w after r → m.control < most_control_entries → Fits after r
put_fits before m after r w f p low =
    subst (Fits after) (sym p.machine_is)
    (fits_still before after m (raised_control m) f (ap (λ κ. κ.size) p.regions_are) (omega (arith, low)) f.few_values f.few_bindings f.few_cells)

module _ (words : List ℕ) (m : Machine) (f : Fits words m) where
  -- A 513th value entry.
  pub push_withheld : (label payload : ℕ) → m.values ≡ most_value_entries → Pushes words m label payload (Err ValueEntries) words
  push_withheld label payload q C X E S L n b μ h =
      let z = sizes words m μ in
      step_withheld words ValueEntries _ _
      (judged_values C (bindable b ∷ X) E S L n (omega (arith, z.cells_height, f.few_cells)) (omega (arith, z.bindings_height, f.few_bindings)) (omega (arith, z.control_height, f.few_control))
      (omega (arith, z.values_height, q)))
      refl

  pub push_made : (label payload : ℕ) (after : List ℕ) (r : Machine) → m.values < most_value_entries → r ≡ raised_values m →
      regions after (raised_values m) ≡ with_values (slot label payload ∷ (regions words m).values) (regions words m) → Pushes words m label payload (Ok r) after
  push_made label payload after r low q e C X E S L n b μ h =
      step_made words after m (raised_values m) (Ok r) C (bindable b ∷ X) E S L n (ap Ok q)
      (fits_still words after m (raised_values m) f (ap (λ κ. κ.size) e) f.few_control (omega (arith, low)) f.few_bindings f.few_cells)
      (subst (λ κ. Models κ C (bindable b ∷ X) E S L n) (sym e)
      (record { mode = μ.mode; control_as = μ.control_as; values_as = bindable_on h μ.values_as; environment_as = μ.environment_as; store_as = μ.store_as; locations_as = μ.locations_as; bindings_as = μ.bindings_as }))
      (ap (λ κ. κ.nodes) e) (ap (λ κ. κ.beyond) e) (ap (λ κ. κ.size) e)

  pub value_fits : {slots_new : List Slot} (after : List ℕ) (r : Machine) → m.values + 1 ≤ most_value_entries → r ≡ raised_values m → regions after (raised_values m) ≡ with_values slots_new (regions words m) → Fits after r
  value_fits after r d q e =
      subst (Fits after) (sym q)
      (fits_still words after m (raised_values m) f (ap (λ κ. κ.size) e) f.few_control (omega (arith, f.few_values, d)) f.few_bindings f.few_cells)

  pub value_regions : {slots_new : List Slot} (after : List ℕ) (r : Machine) → r ≡ raised_values m → regions after (raised_values m) ≡ with_values slots_new (regions words m) → regions after r ≡ with_values slots_new (regions words m)
  value_regions after r q e = ap (regions after) q ∙ e

  -- A 513th control entry.
  pub puts_withheld : (new : List ℕ) → most_control_entries < m.control + length new → Puts words m new (Err ControlEntries) words
  puts_withheld new q C X E S L n mode b h =
      let z = beside_sizes words m b in
      step_withheld words ControlEntries _ _
      (judged_control C X E S L n (omega (arith, z.cells_height, f.few_cells)) (omega (arith, z.bindings_height, f.few_bindings))
      (omega (arith, control_size h, length-append new (regions words m).control, control_height words m, q)))
      refl

  -- Control grows and nothing else changes.
  pub grown_control : (after : List ℕ) (t : Machine) (ws : List ℕ) (C : List Item) (X : List Entry) (E : Environment) (S : Store) (L : List ℕ) (n : ℕ) (mode : Mode) → Beside (regions words m) mode X E S L n →
      ControlAs (regions words m).nodes mode ws C → Fits after t → regions after t ≡ with_controls ws (regions words m) → StepAnswer (judge false (goes (state C X E S L n))) (Ok t) words after
  grown_control after t ws C X E S L n mode b h fits e =
      step_made words after m t (Ok t) C X E S L n refl fits
      (subst (λ κ. Models κ C X E S L n) (sym e)
      (record { mode = mode; control_as = h; values_as = b.values_as; environment_as = b.environment_as; store_as = b.store_as; locations_as = b.locations_as; bindings_as = b.bindings_as }))
      (ap (λ κ. κ.nodes) e) (ap (λ κ. κ.beyond) e) (ap (λ κ. κ.size) e)

  pub puts_made : (new : List ℕ) (after : List ℕ) (t : Machine) → Fits after t → regions after t ≡ with_controls (new ++ (regions words m).control) (regions words m) → Puts words m new (Ok t) after
  puts_made new after t fits e C X E S L n mode b h = grown_control after t (new ++ (regions words m).control) C X E S L n mode b h fits e

  -- More than there is room for.
  pub enter_withheld : (payload : ℕ) (new : List ℕ) (reason : Reason) → Some reason ≡ reason_of_room m.bindings (m.values + 1) (m.control + length new) → Enters words m payload new (Err reason) words
  enter_withheld payload new reason is C X E S L n x mode b h g =
      let z = beside_sizes words m b in
      step_withheld_for_room words C (x ∷ X) E S L n m.bindings (m.values + 1) (m.control + length new) reason (omega (arith, z.bindings_height)) (omega (arith, z.values_height))
      (omega (arith, control_size h, length-append new (regions words m).control, control_height words m)) (omega (arith, z.cells_height, f.few_cells)) is

  pub enter_made : (payload : ℕ) (new : List ℕ) (after : List ℕ) (t : Machine) → Fits after t →
      regions after t ≡ with_controls (new ++ (regions words m).control) (with_values (slot 0 payload ∷ (regions words m).values) (regions words m)) → Enters words m payload new (Ok t) after
  enter_made payload new after t fits e C X E S L n x mode b h v =
      step_made words after m t (Ok t) C (x ∷ X) E S L n refl fits
      (subst (λ κ. Models κ C (x ∷ X) E S L n) (sym e)
      (record { mode = mode; control_as = h; values_as = v 0; environment_as = b.environment_as; store_as = b.store_as; locations_as = b.locations_as; bindings_as = b.bindings_as }))
      (ap (λ κ. κ.nodes) e) (ap (λ κ. κ.beyond) e) (ap (λ κ. κ.size) e)
