-- Bind's mark: what it finds on the stacks, and the state that it leaves.
use Prim.Native.Nat.{ℕ, suc, ◌+◌, ◌-◌, ◌*◌, ◌<◌, ◌≤◌}
use mathlib.Core.Path.{◌≡◌, refl, sym, ap, ◌∙◌, subst}
use mathlib.Core.List.{List, ◌∷◌}
use native.Mathlib.Omega.{arith}
use lib.ListN.{length, get_or}
use Rattle.rules.specs.paper.Limits.{names, most_bindings}
use Rattle.rules.specs.declared.refusals.Reason.TheVariants.{Bindings}
use Rattle.rules.specs.paper.States.{Bindable, Environment, empty, bound, Store, Entry, environment, bindable, name, bind_mark, Item, mark, state}
use Rattle.rules.specs.paper.Rules.{Rule, Effect, goes, Table, bind_at}
use Rattle.machine.specs.Layout.{top_payload, second_payload, top_label, link}
use Rattle.machine.specs.Regions.{Slot, slot, Regions, regions, with_control, with_values, with_row, raised_rows}
use Rattle.machine.specs.Represents.{no_row, BindableAs, Stage, at_end, Mode, declaring, ControlAs, bind_on, ValuesAs, declared_on, Beside, Models}
use Rattle.machine.specs.Steps.{Ready, Steps}
use Rattle.machine.specs.declared.Machine.{Machine}
use Rattle.std.specs.Prelude.{Ok, Err}
use Rattle.machine.proofs.state_laws.JudgeLaws.{judged_bindings}
use Rattle.machine.proofs.state_laws.ModelLaws.{beside_sizes, step_made, step_withheld, fits_still}
use Rattle.machine.proofs.state_laws.ItemLaws.{rest_of}
use Rattle.machine.proofs.state_laws.TopLaws.{at_height, one_on_top, TwoOnTop, two_on_top, bindable_top, name_top}
use Rattle.machine.proofs.memory_laws.EnvironmentLaws.{segment_new, segment_grows, values_grows, pointer_low}
use Rattle.frames.proofs.frame_laws.FrameLaws.{pointed, with_pointers, regions_declared, rows_height, environment_is, answered, value_label_low}

module _ (words : List ℕ) (m : Machine) where
  abbrev κ : Regions
  κ = regions words m

  pub record BindTop (C : List Item) (E : Environment) (S : Store) (L : List ℕ) (n : ℕ) (e : Effect) : Type 0 where
    pub bound_name : ℕ
    pub bound_to : Bindable
    pub rest : List Entry
    pub effect_is : e ≡ goes (state C (environment (bound bound_name bound_to empty) ∷ rest) E S L (suc n))
    pub stage : Stage
    pub opened : ℕ
    pub outer : List ℕ
    pub control_as : ControlAs κ.nodes (declaring (at_end stage) opened outer) κ.control C
    pub found : Beside κ (declaring stage opened outer) (bindable bound_to ∷ name bound_name ∷ rest) E S L n

  bind_by : (w : ℕ) {C : List Item} {X : List Entry} {E : Environment} {S : Store} {L : List ℕ} {n : ℕ} {r : Rule} {e : Effect} (mode : Mode) →
      Table C E S L n r (mark bind_mark) X e →
      Models (with_control w κ) (mark bind_mark ∷ C) X E S L n → ControlAs κ.nodes mode (w ∷ κ.control) (mark bind_mark ∷ C) →
      ValuesAs κ.nodes κ.rows κ.base κ.declared κ.environment E mode κ.values X → BindTop C E S L n e
  bind_by w mode (bind_at {x = x} {b = b} {X = Y}) μ (bind_on {g = g} {m = k} {ms = ms} q h) v =
      record {
        bound_name = x;
        bound_to = b;
        rest = Y;
        effect_is = refl;
        stage = g;
        opened = k;
        outer = ms;
        control_as = h;
        found = rest_of κ w
            (mark bind_mark) (declaring g k ms) μ v;
      }

  bind_top : (w : ℕ) {C : List Item} {X : List Entry} {E : Environment} {S : Store} {L : List ℕ} {n : ℕ} {r : Rule} {e : Effect} →
      Ready words m w (mark bind_mark) C X E S L n r e → BindTop C E S L n e
  bind_top w ready = bind_by w ready.models.mode ready.applies ready.models ready.models.control_as ready.models.values_as

  -- The two slots of a Bind's mark: the value's and the name's.
  pub record BindSlots (E : Environment) (x : ℕ) (b : Bindable) (Y : List Entry) (mode : Mode) : Type 0 where
    pub value_slot : Slot
    pub name_slot : Slot
    pub rest : List Slot
    pub are : κ.values ≡ value_slot ∷ name_slot ∷ rest
    pub bound_as : BindableAs κ.nodes κ.rows value_slot.label value_slot.payload b
    pub name_is : name_slot.payload ≡ x
    pub low : x < names
    pub below : ValuesAs κ.nodes κ.rows κ.base κ.declared κ.environment E mode rest Y

  bind_slots : {E : Environment} {x : ℕ} {b : Bindable} {Y : List Entry} {mode : Mode} →
      ValuesAs κ.nodes κ.rows κ.base κ.declared κ.environment E mode κ.values (bindable b ∷ name x ∷ Y) → BindSlots E x b Y mode
  bind_slots v =
      let one = bindable_top v in
      let two = name_top one.below in
      record {
        value_slot = one.top;
        name_slot = two.top;
        rest = two.rest;
        are = one.are ∙ ap (λ r. one.top ∷ r) two.are;
        bound_as = one.as_bindable;
        name_is = two.payload_is;
        low = two.low;
        below = two.below;
      }

  pub record BindNumbers : Type 0 where
    pub two_values : 2 ≤ m.values
    pub label_low : get_or words (top_label + m.values) 0 < 2
    pub name_low : get_or words (second_payload + m.values) 0 < 64
    pub environment_few : m.environment ≤ most_bindings

  pub bind_numbers : (w : ℕ) {C : List Item} {X : List Entry} {E : Environment} {S : Store} {L : List ℕ} {n : ℕ} {r : Rule} {e : Effect} →
      Ready words m w (mark bind_mark) C X E S L n r e → BindNumbers
  bind_numbers w ready =
      let top = bind_top w ready in
      let at = bind_slots top.found.values_as in
      let two = two_on_top words m at.value_slot at.name_slot at.rest at.are in
      record {
        two_values = two.some_values;
        label_low = subst (λ t. t < 2) (sym two.label_word) (value_label_low at.bound_as);
        name_low = subst (λ t. t < 64) (sym (two.second_payload_word ∙ at.name_is)) at.low;
        environment_few = few (pointer_low ready.models.environment_as) (rows_height words m) (environment_is words m) ready.fits.few_bindings;
      }
    where
      few : κ.environment ≤ length κ.rows → length κ.rows ≡ m.bindings → κ.environment ≡ m.environment → m.bindings ≤ most_bindings →
          m.environment ≤ most_bindings
      few a b c d = omega arith

  -- A 513th binding.
  pub bind_withheld : (w : ℕ) → m.bindings ≡ most_bindings → Steps words m w (mark bind_mark) (Err Bindings) words
  bind_withheld w full C X E S L n r e ready =
      let top = bind_top w ready in
      let z = beside_sizes words m top.found in
      answered (Err Bindings) words words top.effect_is
      (step_withheld words Bindings _ _ (judged_bindings _ _ _ _ _ _ (omega (arith, z.cells_height, ready.fits.few_cells))
      (omega (arith, z.bindings_height, full))) refl)

  abbrev bind_link : ℕ
  bind_link = get_or words (second_payload + m.values) 0 + 64 * get_or words (top_label + m.values) 0 + 128 * m.environment

  abbrev bound_machine : Machine
  bound_machine = pointed m.environment (m.bindings + 1) m.base (at_height (m.values - 1) (raised_rows m))

  -- The machine that the code makes of the one with a row more.
  abbrev bound_from : Machine → Machine
  bound_from t = record {
    control = t.control;
    values = m.values - 1;
    environment = t.environment;
    declared = t.bindings;
    cells = t.cells;
    base = t.base;
    bindings = t.bindings;
  }

  pub bind_made : (w : ℕ) (after : List ℕ) (t : Machine) (row_link : ℕ) → m.bindings < most_bindings → row_link ≡ bind_link → t ≡ raised_rows m →
      regions after (raised_rows m) ≡ with_row (slot row_link (get_or words (top_payload + m.values) 0)) (regions words m) →
      Steps words m w (mark bind_mark) (Ok (bound_from t)) after
  bind_made w after t row_link free link_is q put_there C X E S L n r e ready =
      answered (Ok (bound_from t)) words after top.effect_is
      (step_made words after m bound_machine (Ok (bound_from t)) C (environment (bound top.bound_name top.bound_to empty) ∷ top.rest) E S L (suc n)
      (ap (λ k. Ok (bound_from k)) q)
      (fits_still words after m bound_machine ready.fits (ap (λ k. k.size) all) ready.fits.few_control (omega (arith, ready.fits.few_values))
      (omega (arith, free)) ready.fits.few_cells)
      (subst (λ k. Models k C (environment (bound top.bound_name top.bound_to empty) ∷ top.rest) E S L (suc n)) (sym all) models)
      (ap (λ k. k.nodes) all) (ap (λ k. k.beyond) all) (ap (λ k. k.size) all))
    where
      top : BindTop C E S L n e
      top = bind_top w ready

      at : BindSlots E top.bound_name top.bound_to top.rest (declaring top.stage top.opened top.outer)
      at = bind_slots top.found.values_as

      two : TwoOnTop words m at.value_slot at.name_slot at.rest
      two = two_on_top words m at.value_slot at.name_slot at.rest at.are

      row : Slot
      row = slot bind_link (get_or words (top_payload + m.values) 0)

      put : regions after (raised_rows m) ≡ with_row row (regions words m)
      put = subst (λ l. regions after (raised_rows m) ≡ with_row (slot l (get_or words (top_payload + m.values) 0)) (regions words m))
          link_is put_there

      all : regions after bound_machine ≡ with_pointers κ.environment (m.bindings + 1) κ.base (with_values (at.name_slot ∷ at.rest) (with_row row κ))
      all =
          regions_declared after (at_height (m.values - 1) (raised_rows m)) (m.bindings + 1)
          ∙ ap (λ k. with_pointers k.environment (m.bindings + 1) k.base k)
          ((one_on_top after (raised_rows m) at.value_slot (at.name_slot ∷ at.rest) (ap (λ k. k.values) put ∙ at.are)).popped
          ∙ ap (with_values (at.name_slot ∷ at.rest)) put)

      label_is : bind_link ≡ link top.bound_name at.value_slot.label κ.environment
      label_is = rw (two.label_word, two.second_payload_word, at.name_is, environment_is words m)

      environment_low : κ.environment ≤ length κ.rows
      environment_low = pointer_low ready.models.environment_as

      newest : m.bindings + 1 ≡ suc (length κ.rows)
      newest = omega (arith, rows_height words m)

      bound_as : BindableAs κ.nodes κ.rows at.value_slot.label (get_or words (top_payload + m.values) 0) top.bound_to
      bound_as = subst (λ p. BindableAs κ.nodes κ.rows at.value_slot.label p top.bound_to) (sym two.payload_word) at.bound_as

      models : Models (with_pointers κ.environment (m.bindings + 1) κ.base (with_values (at.name_slot ∷ at.rest) (with_row row κ))) C
          (environment (bound top.bound_name top.bound_to empty) ∷ top.rest) E S L (suc n)
      models =
          record {
            mode = declaring (at_end top.stage) top.opened top.outer;
            control_as = top.control_as;
            values_as = declared_on (segment_new (m.bindings + 1) bind_link newest label_is at.low (value_label_low at.bound_as)
                environment_low bound_as no_row) (values_grows row at.below);
            environment_as = segment_grows row ready.models.environment_as;
            store_as = ready.models.store_as;
            locations_as = ready.models.locations_as;
            bindings_as = ap suc ready.models.bindings_as;
          }
