-- A block's two marks: what they find on the stacks, and the state that they leave.
use Prim.Native.Nat.{ℕ, ◌+◌, ◌-◌, ◌/◌, ◌≤◌}
use mathlib.Core.Path.{◌≡◌, refl, sym, ap, ◌∙◌, subst}
use mathlib.Core.List.{List, ◌∷◌}
use native.Mathlib.Omega.{arith}
use lib.ListN.{length, get_or}
use Rattle.rules.specs.paper.States.{Environment, join, Store, remove, Entry, environment, locations, extend_mark, leave_mark, Item, mark, state}
use Rattle.rules.specs.paper.Rules.{Rule, Effect, goes, Table, extend_at, leave_at}
use Rattle.rules.specs.paper.Limits.{most_cells, most_bindings}
use Rattle.machine.specs.Layout.{row_labels, row_payloads, cell_payloads, cell_labels, top_payload, second_payload, carried_unit, leave_word}
use Rattle.machine.specs.Regions.{Slot, slot, slots, Regions, regions, with_values, raised_values}
use Rattle.machine.specs.Represents.{SegmentAs, StoreAs, Since, Extends, at_block, at_end, Mode, running, declaring, ControlAs, extend_on, leave_on, ValuesAs, opened_on, frame_on, Models}
use Rattle.machine.specs.Steps.{Ready, Steps}
use Rattle.machine.specs.declared.Machine.{Machine}
use Rattle.std.specs.Prelude.{Ok}
use Rattle.machine.proofs.memory_laws.RegionLaws.{slots_length}
use Rattle.machine.proofs.state_laws.ModelLaws.{step_made, fits_still}
use Rattle.machine.proofs.state_laws.TopLaws.{at_height, one_on_top, TwoOnTop, two_on_top}
use Rattle.machine.proofs.memory_laws.EnvironmentLaws.{segment_join, values_running, Cut, cut, since_low, removed_since}
use Rattle.frames.proofs.frame_laws.FrameLaws.{with_pointers, joined, joined_regions, environment_is, base_is, cells_height, answered, DeclaredTop, declared_top}

-- ---- By entries.

-- The location set that a block's entry pushed, below its declaration's names.
pub record OpenedTop (nodes : List ℕ) (rows : List Slot) (base d p : ℕ) (E : Environment) (m : ℕ) (ms : List ℕ) (all : List Slot) (K : List ℕ)
    (X : List Entry) : Type 0 where
  pub top : Slot
  pub rest : List Slot
  pub are : all ≡ top ∷ rest
  pub older : List Slot
  pub outer_base : ℕ
  pub outer_declared : ℕ
  pub extends : Extends older rows
  pub height : length older ≡ m
  pub saved : SegmentAs nodes older p 0 E
  pub since : Since outer_base base K
  pub payload_is : top.payload ≡ outer_base
  pub below : ValuesAs nodes older outer_base outer_declared p E (running ms) rest X

opened_top : {nodes : List ℕ} {rows : List Slot} {base d p m : ℕ} {E : Environment} {ms : List ℕ} {all : List Slot} {K : List ℕ} {X : List Entry} →
    ValuesAs nodes rows base d p E (declaring at_block m ms) all (locations K ∷ X) → OpenedTop nodes rows base d p E m ms all K X
opened_top (opened_on {older = older} {b = b} {e = e} {s = s} {ws = ws} x l g k w h) =
    record {
      top = s;
      rest = ws;
      are = refl;
      older = older;
      outer_base = b;
      outer_declared = e;
      extends = x;
      height = l;
      saved = g;
      since = k;
      payload_is = w;
      below = h;
    }

-- What a block or a call saved.
pub record FrameTop (nodes : List ℕ) (rows : List Slot) (base m : ℕ) (ms : List ℕ) (all : List Slot) (F : Environment) (K : List ℕ)
    (X : List Entry) : Type 0 where
  pub top : Slot
  pub second : Slot
  pub rest : List Slot
  pub are : all ≡ top ∷ second ∷ rest
  pub older : List Slot
  pub pointer : ℕ
  pub outer_base : ℕ
  pub outer_declared : ℕ
  pub pointer_is : top.payload ≡ pointer
  pub extends : Extends older rows
  pub height : length older ≡ m
  pub saved : SegmentAs nodes older pointer 0 F
  pub since : Since outer_base base K
  pub base_is : second.payload ≡ outer_base
  pub below : ValuesAs nodes older outer_base outer_declared pointer F (running ms) rest X

frame_top : {nodes : List ℕ} {rows : List Slot} {base d p m : ℕ} {E F : Environment} {ms : List ℕ} {all : List Slot} {K : List ℕ} {X : List Entry} →
    ValuesAs nodes rows base d p E (running (m ∷ ms)) all (environment F ∷ locations K ∷ X) → FrameTop nodes rows base m ms all F K X
frame_top (frame_on {older = older} {b = b} {e = e} {f = f} {s = s} {u = u} {ws = ws} q x l g k w h) =
    record {
      top = s;
      second = u;
      rest = ws;
      are = refl;
      older = older;
      pointer = f;
      outer_base = b;
      outer_declared = e;
      pointer_is = q;
      extends = x;
      height = l;
      saved = g;
      since = k;
      base_is = w;
      below = h;
    }

module _ (words : List ℕ) (m : Machine) where
  abbrev κ : Regions
  κ = regions words m

  -- ---- The first mark.

  record FirstTop (C : List Item) (E : Environment) (S : Store) (L : List ℕ) (n : ℕ) (e : Effect) : Type 0 where
    pub declared_names : Environment
    pub outer_locations : List ℕ
    pub rest : List Entry
    pub opened : ℕ
    pub outer : List ℕ
    pub effect_is : e ≡ goes (state C (environment E ∷ locations outer_locations ∷ rest) (join declared_names E) S L n)
    pub control_as : ControlAs κ.nodes (running (opened ∷ outer)) κ.control C
    pub values_as : ValuesAs κ.nodes κ.rows κ.base κ.declared κ.environment E (declaring (at_end at_block) opened outer) κ.values
        (environment declared_names ∷ locations outer_locations ∷ rest)

  first_by : (w : ℕ) {C : List Item} {E : Environment} {S : Store} {L : List ℕ} {n : ℕ} {r : Rule} (D : Environment) (K : List ℕ)
      (Y : List Entry) {e : Effect} (mode : Mode) →
      Table C E S L n r (mark extend_mark) (environment D ∷ locations K ∷ Y) e → ControlAs κ.nodes mode (w ∷ κ.control) (mark extend_mark ∷ C) →
      ValuesAs κ.nodes κ.rows κ.base κ.declared κ.environment E mode κ.values (environment D ∷ locations K ∷ Y) → FirstTop C E S L n e
  first_by w D K Y mode extend_at (extend_on {m = k} {ms = ms} q h) v =
      record { declared_names = D; outer_locations = K; rest = Y; opened = k; outer = ms; effect_is = refl; control_as = h; values_as = v }

  first_top : (w : ℕ) {C : List Item} {X : List Entry} {E : Environment} {S : Store} {L : List ℕ} {n : ℕ} {r : Rule} {e : Effect} →
      Ready words m w (mark extend_mark) C X E S L n r e → FirstTop C E S L n e
  first_top w {C} {X} {E} {S} {L} {n} {r} {e} ready =
      let g = ready.at_extend_mark refl in
      first_by w g.0 g.1 g.2 ready.models.mode (subst (λ Z. Table C E S L n r (mark extend_mark) Z e) g.3 ready.applies) ready.models.control_as
      (subst (λ Z. ValuesAs κ.nodes κ.rows κ.base κ.declared κ.environment E ready.models.mode κ.values Z) g.3 ready.models.values_as)

  pub first_some : (w : ℕ) {C : List Item} {X : List Entry} {E : Environment} {S : Store} {L : List ℕ} {n : ℕ} {r : Rule} {e : Effect} →
      Ready words m w (mark extend_mark) C X E S L n r e → 1 ≤ m.values
  first_some w ready =
      let one = declared_top (first_top w ready).values_as in
      (one_on_top words m one.top one.rest one.are).some_values

  pub first_made : (w : ℕ) (after : List ℕ) (t : Machine) → t ≡ raised_values (joined m) →
      regions after (raised_values (joined m)) ≡ with_values (slot 0 m.environment ∷ (regions words (joined m)).values) (regions words (joined m)) →
      Steps words m w (mark extend_mark) (Ok t) after
  first_made w after t q put C X E S L n r e ready =
      answered (Ok t) words after top.effect_is
      (step_made words after m (raised_values (joined m)) (Ok t) C new (join top.declared_names E) S L n (ap Ok q)
      (fits_still words after m (raised_values (joined m)) ready.fits (ap (λ k. k.size) all) ready.fits.few_control
      (omega (arith, ready.fits.few_values, first_some w ready)) ready.fits.few_bindings ready.fits.few_cells)
      (subst (λ k. Models k C new (join top.declared_names E) S L n) (sym all) models)
      (ap (λ k. k.nodes) all) (ap (λ k. k.beyond) all) (ap (λ k. k.size) all))
    where
      top : FirstTop C E S L n e
      top = first_top w ready

      new : List Entry
      new = environment E ∷ locations top.outer_locations ∷ top.rest

      one : DeclaredTop κ.nodes κ.rows κ.base κ.declared κ.environment E (declaring at_block top.opened top.outer) κ.values top.declared_names
          (locations top.outer_locations ∷ top.rest)
      one = declared_top top.values_as

      two : OpenedTop κ.nodes κ.rows κ.base one.outer_declared κ.environment E top.opened top.outer one.rest top.outer_locations top.rest
      two = opened_top one.below

      after_regions : Regions
      after_regions = with_pointers κ.declared κ.declared κ.base (with_values (slot 0 m.environment ∷ two.top ∷ two.rest) κ)

      all : regions after (raised_values (joined m)) ≡ after_regions
      all = put ∙ ap (λ k. with_values (slot 0 m.environment ∷ k.values) k)
          (joined_regions words m one.top one.rest one.are ∙ ap (λ r. with_pointers κ.declared κ.declared κ.base (with_values r κ)) two.are)

      models : Models after_regions C new (join top.declared_names E) S L n
      models =
          record {
            mode = running (top.opened ∷ top.outer);
            control_as = top.control_as;
            values_as = frame_on (sym (environment_is words m)) two.extends two.height two.saved two.since two.payload_is two.below;
            environment_as = segment_join one.segment ready.models.environment_as;
            store_as = ready.models.store_as;
            locations_as = ready.models.locations_as;
            bindings_as = ready.models.bindings_as;
          }

  -- ---- The second mark.

  record SecondTop (w k : ℕ) (C : List Item) (E : Environment) (S : Store) (L : List ℕ) (e : Effect) : Type 0 where
    pub saved : Environment
    pub outer_locations : List ℕ
    pub rest : List Entry
    pub outer : List ℕ
    pub effect_is : e ≡ goes (state C rest saved (remove L S) outer_locations k)
    pub word_is : w ≡ leave_word k
    pub control_as : ControlAs κ.nodes (running outer) κ.control C
    pub values_as : ValuesAs κ.nodes κ.rows κ.base κ.declared κ.environment E (running (k ∷ outer)) κ.values
        (environment saved ∷ locations outer_locations ∷ rest)

  second_by : (w p k : ℕ) {C : List Item} {X : List Entry} {E : Environment} {S : Store} {L : List ℕ} {n : ℕ} {r : Rule} {e : Effect} (mode : Mode) →
      Table C E S L n r (mark (leave_mark p k)) X e → ControlAs κ.nodes mode (w ∷ κ.control) (mark (leave_mark p k) ∷ C) →
      ValuesAs κ.nodes κ.rows κ.base κ.declared κ.environment E mode κ.values X → SecondTop w k C E S L e
  second_by w p k mode (leave_at {F = F} {K = K} {X = Y}) (leave_on {ms = ms} q h) v =
      record { saved = F; outer_locations = K; rest = Y; outer = ms; effect_is = refl; word_is = q; control_as = h; values_as = v }

  second_top : (w p k : ℕ) {C : List Item} {X : List Entry} {E : Environment} {S : Store} {L : List ℕ} {n : ℕ} {r : Rule} {e : Effect} →
      Ready words m w (mark (leave_mark p k)) C X E S L n r e → SecondTop w k C E S L e
  second_top w p k ready = second_by w p k ready.models.mode ready.applies ready.models.control_as ready.models.values_as

  pub second_some : (w p k : ℕ) {C : List Item} {X : List Entry} {E : Environment} {S : Store} {L : List ℕ} {n : ℕ} {r : Rule} {e : Effect} →
      Ready words m w (mark (leave_mark p k)) C X E S L n r e → 2 ≤ m.values
  second_some w p k ready =
      let top = frame_top (second_top w p k ready).values_as in
      (two_on_top words m top.top top.second top.rest top.are).some_values

  -- The machine with what was saved.
  abbrev left : ℕ → Machine
  left w =
      record {
        control = m.control;
        values = m.values - 2;
        environment = get_or words (top_payload + m.values) 0;
        declared = m.declared;
        cells = m.base;
        base = get_or words (second_payload + m.values) 0;
        bindings = w / carried_unit;
      }

  cells_of : κ.cells ≡ slots cell_labels cell_payloads m.cells words
  unfolding regions
  cells_of = refl

  rows_of : κ.rows ≡ slots row_labels row_payloads m.bindings words
  unfolding regions
  rows_of = refl

  left_of : (w : ℕ) → regions words (left w) ≡
      record {
        nodes = κ.nodes;
        control = κ.control;
        values = (regions words (at_height (m.values - 2) m)).values;
        rows = slots row_labels row_payloads (w / carried_unit) words;
        cells = slots cell_labels cell_payloads κ.base words;
        environment = get_or words (top_payload + m.values) 0;
        declared = κ.declared;
        base = get_or words (second_payload + m.values) 0;
        beyond = κ.beyond;
        size = κ.size;
      }
  unfolding regions
  left_of w = refl

  pub second_made : (w p k : ℕ) → Steps words m w (mark (leave_mark p k)) (Ok (left w)) words
  second_made w p k C X E S L n r e ready =
      answered (Ok (left w)) words words top.effect_is
      (step_made words words m (left w) (Ok (left w)) C top.rest top.saved (remove L S) top.outer_locations k refl
      (fits_still words words m (left w) ready.fits (ap (λ j. j.size) all) ready.fits.few_control (omega (arith, ready.fits.few_values))
      (few_rows rows_are.within ready.fits.few_bindings) (few_cells (since_low since) (base_is words m) ready.fits.few_cells))
      (subst (λ j. Models j C top.rest top.saved (remove L S) top.outer_locations k) (sym all) models)
      (ap (λ j. j.nodes) all) (ap (λ j. j.beyond) all) (ap (λ j. j.size) all))
    where
      top : SecondTop w k C E S L e
      top = second_top w p k ready

      frame : FrameTop κ.nodes κ.rows κ.base k top.outer κ.values top.saved top.outer_locations top.rest
      frame = frame_top top.values_as

      two : TwoOnTop words m frame.top frame.second frame.rest
      two = two_on_top words m frame.top frame.second frame.rest frame.are

      rows_are : Cut row_labels row_payloads m.bindings words frame.older k
      rows_are = cut row_labels row_payloads words frame.older m.bindings κ.rows k rows_of frame.extends frame.height

      number : w / carried_unit ≡ k
      number = omega (arith, top.word_is)

      left_regions : Regions
      left_regions =
          record {
            nodes = κ.nodes;
            control = κ.control;
            values = frame.rest;
            rows = frame.older;
            cells = slots cell_labels cell_payloads κ.base words;
            environment = frame.pointer;
            declared = κ.declared;
            base = frame.outer_base;
            beyond = κ.beyond;
            size = κ.size;
          }

      all : regions words (left w) ≡ left_regions
      all = left_of w ∙ rw (two.popped, two.payload_word, two.second_payload_word, frame.pointer_is, frame.base_is, number, rows_are.are)

      since : Since κ.base m.cells L
      since = subst (λ j. Since κ.base j L) (cells_height words m) ready.models.locations_as

      few_rows : k ≤ m.bindings → m.bindings ≤ most_bindings → w / carried_unit ≤ most_bindings
      few_rows a b = omega (arith, number)

      few_cells : κ.base ≤ m.cells → κ.base ≡ m.base → m.cells ≤ most_cells → m.base ≤ most_cells
      few_cells a b c = omega arith

      models : Models left_regions C top.rest top.saved (remove L S) top.outer_locations k
      models =
          record {
            mode = running top.outer;
            control_as = top.control_as;
            values_as = values_running κ.declared frame.pointer top.saved frame.below;
            environment_as = frame.saved;
            store_as = removed_since cell_labels cell_payloads words κ.base since (subst (λ s. StoreAs s S) cells_of ready.models.store_as);
            locations_as = subst (λ j. Since frame.outer_base j top.outer_locations) (sym (slots_length cell_labels cell_payloads κ.base words))
                frame.since;
            bindings_as = sym frame.height;
          }
