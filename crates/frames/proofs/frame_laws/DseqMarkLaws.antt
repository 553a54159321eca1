-- A DSeq's two marks: what they find on the stacks, and the state that they leave.
use Prim.Native.Nat.{ℕ, ◌+◌, ◌-◌, ◌<◌, ◌≤◌}
use mathlib.Core.Path.{◌≡◌, refl, sym, ap, ◌∙◌, subst}
use mathlib.Core.List.{List, ◌∷◌}
use native.Mathlib.Omega.{arith}
use lib.ListN.{get_or}
use Rattle.rules.specs.paper.Limits.{most_value_entries}
use Rattle.rules.specs.declared.refusals.Reason.TheVariants.{ValueEntries}
use Rattle.rules.specs.paper.States.{Environment, join, Store, Entry, environment, dseq_extend_mark, dseq_join_mark, Item, mark, state}
use Rattle.rules.specs.paper.Rules.{Rule, Effect, goes, Table, dseq_extend_at, dseq_join_at}
use Rattle.machine.specs.Layout.{top_payload, third_payload}
use Rattle.machine.specs.Regions.{Slot, slot, Regions, regions, with_control, with_values, raised_values}
use Rattle.machine.specs.Represents.{SegmentAs, Stage, at_second, at_end, Mode, declaring, ControlAs, dseq_extend_on, dseq_join_on, ValuesAs, declared_on, saved_on, Beside, Models}
use Rattle.machine.specs.Steps.{Ready, Steps}
use Rattle.machine.specs.declared.Machine.{Machine}
use Rattle.std.specs.Prelude.{Ok, Err}
use Rattle.machine.proofs.state_laws.JudgeLaws.{judged_values}
use Rattle.machine.proofs.state_laws.ModelLaws.{control_size, beside_sizes, control_height, step_made, step_withheld, fits_still}
use Rattle.machine.proofs.state_laws.ItemLaws.{rest_of}
use Rattle.machine.proofs.state_laws.TopLaws.{at_height, OneOnTop, one_on_top, TwoOnTop, two_on_top}
use Rattle.machine.proofs.memory_laws.EnvironmentLaws.{segment_join}
use Rattle.frames.proofs.frame_laws.FrameLaws.{pointed, with_pointers, joined, joined_regions, regions_environment, environment_is, answered, DeclaredTop, declared_top}

-- The names of the first declaration, linked to the environment that was kept below them.
pub record SavedTop (nodes : List ℕ) (rows : List Slot) (base p : ℕ) (mode : Mode) (all : List Slot) (D F : Environment)
    (X : List Entry) : Type 0 where
  pub top : Slot
  pub second : Slot
  pub rest : List Slot
  pub are : all ≡ top ∷ second ∷ rest
  pub pointer : ℕ
  pub pointer_is : second.payload ≡ pointer
  pub first_names : SegmentAs nodes rows p pointer D
  pub kept : SegmentAs nodes rows pointer 0 F
  pub outer_declared : ℕ
  pub below : ValuesAs nodes rows base outer_declared pointer F mode rest X

saved_top : {nodes : List ℕ} {rows : List Slot} {base d p m : ℕ} {g : Stage} {E D F : Environment} {ms : List ℕ} {all : List Slot} {X : List Entry} →
    ValuesAs nodes rows base d p E (declaring (at_second g) m ms) all (environment D ∷ environment F ∷ X) →
    SavedTop nodes rows base p (declaring g m ms) all D F X
saved_top (saved_on {e = e} {f = f} {s = s} {u = u} {ws = ws} q d o h) =
    record { top = s; second = u; rest = ws; are = refl; pointer = f; pointer_is = q; first_names = d; kept = o; outer_declared = e; below = h }

module _ (words : List ℕ) (m : Machine) where
  abbrev κ : Regions
  κ = regions words m

  -- ---- The first mark.

  record ExtendTop (C : List Item) (E : Environment) (S : Store) (L : List ℕ) (n : ℕ) (e : Effect) : Type 0 where
    pub first_names : Environment
    pub rest : List Entry
    pub stage : Stage
    pub opened : ℕ
    pub outer : List ℕ
    pub effect_is : e ≡ goes (state C (environment first_names ∷ environment E ∷ rest) (join first_names E) S L n)
    pub control_as : ControlAs κ.nodes (declaring (at_second stage) opened outer) κ.control C
    pub found : Beside κ (declaring (at_end stage) opened outer) (environment first_names ∷ rest) E S L n

  extend_by : (w : ℕ) {C : List Item} {X : List Entry} {E : Environment} {S : Store} {L : List ℕ} {n : ℕ} {r : Rule} {e : Effect} (mode : Mode) →
      Table C E S L n r (mark dseq_extend_mark) X e →
      Models (with_control w κ) (mark dseq_extend_mark ∷ C) X E S L n → ControlAs κ.nodes mode (w ∷ κ.control) (mark dseq_extend_mark ∷ C) →
      ValuesAs κ.nodes κ.rows κ.base κ.declared κ.environment E mode κ.values X → ExtendTop C E S L n e
  extend_by w mode (dseq_extend_at {D₁ = D} {X = Y}) μ (dseq_extend_on {g = g} {m = k} {ms = ms} q h) v =
      record {
        first_names = D;
        rest = Y;
        stage = g;
        opened = k;
        outer = ms;
        effect_is = refl;
        control_as = h;
        found = rest_of κ w
            (mark dseq_extend_mark) (declaring (at_end g) k ms) μ v;
      }

  extend_top : (w : ℕ) {C : List Item} {X : List Entry} {E : Environment} {S : Store} {L : List ℕ} {n : ℕ} {r : Rule} {e : Effect} →
      Ready words m w (mark dseq_extend_mark) C X E S L n r e → ExtendTop C E S L n e
  extend_top w ready = extend_by w ready.models.mode ready.applies ready.models ready.models.control_as ready.models.values_as

  pub extend_some : (w : ℕ) {C : List Item} {X : List Entry} {E : Environment} {S : Store} {L : List ℕ} {n : ℕ} {r : Rule} {e : Effect} →
      Ready words m w (mark dseq_extend_mark) C X E S L n r e → 1 ≤ m.values
  extend_some w ready =
      let one = declared_top (extend_top w ready).found.values_as in
      (one_on_top words m one.top one.rest one.are).some_values

  -- A 513th value entry.
  pub extend_withheld : (w : ℕ) → m.values ≡ most_value_entries → Steps words m w (mark dseq_extend_mark) (Err ValueEntries) words
  extend_withheld w full C X E S L n r e ready =
      let top = extend_top w ready in
      let z = beside_sizes words m top.found in
      answered (Err ValueEntries) words words top.effect_is
      (step_withheld words ValueEntries _ _
      (judged_values _ _ _ _ _ _ (omega (arith, z.cells_height, ready.fits.few_cells)) (omega (arith, z.bindings_height, ready.fits.few_bindings))
      (omega (arith, control_size top.control_as, control_height words m, ready.fits.few_control)) (omega (arith, z.values_height, full)))
      refl)

  pub extend_made : (w : ℕ) (kept after : List ℕ) (t u : Machine) → m.values < most_value_entries → t ≡ raised_values (joined m) →
      regions kept (raised_values (joined m)) ≡ with_values (slot 0 m.environment ∷ (regions words (joined m)).values) (regions words (joined m)) →
      u ≡ raised_values t → regions after (raised_values t) ≡ with_values (slot 0 m.declared ∷ (regions kept t).values) (regions kept t) →
      Steps words m w (mark dseq_extend_mark) (Ok u) after
  extend_made w kept after t u free q put r more C X E S L n rule e ready =
      answered (Ok u) words after top.effect_is
      (step_made words after m twice (Ok u) C new (join top.first_names E) S L n (ap Ok (r ∙ ap raised_values q))
      (fits_still words after m twice ready.fits (ap (λ k. k.size) all) ready.fits.few_control (omega (arith, free, extend_some w ready))
      ready.fits.few_bindings ready.fits.few_cells)
      (subst (λ k. Models k C new (join top.first_names E) S L n) (sym all) models)
      (ap (λ k. k.nodes) all) (ap (λ k. k.beyond) all) (ap (λ k. k.size) all))
    where
      top : ExtendTop C E S L n e
      top = extend_top w ready

      new : List Entry
      new = environment top.first_names ∷ environment E ∷ top.rest

      one : DeclaredTop κ.nodes κ.rows κ.base κ.declared κ.environment E (declaring top.stage top.opened top.outer) κ.values top.first_names top.rest
      one = declared_top top.found.values_as

      twice : Machine
      twice = raised_values (raised_values (joined m))

      after_regions : Regions
      after_regions = with_pointers κ.declared κ.declared κ.base (with_values (slot 0 m.declared ∷ slot 0 m.environment ∷ one.rest) κ)

      under : regions kept (raised_values (joined m)) ≡ with_pointers κ.declared κ.declared κ.base (with_values (slot 0 m.environment ∷ one.rest) κ)
      under = put ∙ ap (λ k. with_values (slot 0 m.environment ∷ k.values) k) (joined_regions words m one.top one.rest one.are)

      all : regions after twice ≡ after_regions
      all =
          subst (λ k. regions after (raised_values k) ≡ with_values (slot 0 m.declared ∷ (regions kept k).values) (regions kept k)) q more
          ∙ ap (λ k. with_values (slot 0 m.declared ∷ k.values) k) under

      models : Models after_regions C new (join top.first_names E) S L n
      models =
          record {
            mode = declaring (at_second top.stage) top.opened top.outer;
            control_as = top.control_as;
            values_as = saved_on (sym (environment_is words m)) one.segment top.found.environment_as one.below;
            environment_as = segment_join one.segment top.found.environment_as;
            store_as = top.found.store_as;
            locations_as = top.found.locations_as;
            bindings_as = top.found.bindings_as;
          }

  -- ---- The second mark.

  record JoinTop (C : List Item) (E : Environment) (S : Store) (L : List ℕ) (n : ℕ) (e : Effect) : Type 0 where
    pub first_names : Environment
    pub second_names : Environment
    pub kept : Environment
    pub rest : List Entry
    pub stage : Stage
    pub opened : ℕ
    pub outer : List ℕ
    pub effect_is : e ≡ goes (state C (environment (join second_names first_names) ∷ rest) kept S L n)
    pub control_as : ControlAs κ.nodes (declaring (at_end stage) opened outer) κ.control C
    pub found : Beside κ (declaring (at_end (at_second stage)) opened outer)
        (environment second_names ∷ environment first_names ∷ environment kept ∷ rest) E S L n

  join_by : (w : ℕ) {C : List Item} {X : List Entry} {E : Environment} {S : Store} {L : List ℕ} {n : ℕ} {r : Rule} {e : Effect} (mode : Mode) →
      Table C E S L n r (mark dseq_join_mark) X e →
      Models (with_control w κ) (mark dseq_join_mark ∷ C) X E S L n → ControlAs κ.nodes mode (w ∷ κ.control) (mark dseq_join_mark ∷ C) →
      ValuesAs κ.nodes κ.rows κ.base κ.declared κ.environment E mode κ.values X → JoinTop C E S L n e
  join_by w mode (dseq_join_at {D₁ = D₁} {D₂ = D₂} {F = F} {X = Y}) μ (dseq_join_on {g = g} {m = k} {ms = ms} q h) v =
      record {
        first_names = D₁;
        second_names = D₂;
        kept = F;
        rest = Y;
        stage = g;
        opened = k;
        outer = ms;
        effect_is = refl;
        control_as = h;
        found = rest_of κ w (mark dseq_join_mark) (declaring (at_end (at_second g)) k ms) μ v;
      }

  join_top : (w : ℕ) {C : List Item} {X : List Entry} {E : Environment} {S : Store} {L : List ℕ} {n : ℕ} {r : Rule} {e : Effect} →
      Ready words m w (mark dseq_join_mark) C X E S L n r e → JoinTop C E S L n e
  join_top w ready = join_by w ready.models.mode ready.applies ready.models ready.models.control_as ready.models.values_as

  -- The three entries on top: the names of both declarations, and the environment that was kept.
  record ThreeOnTop (stage : Stage) (opened : ℕ) (outer : List ℕ) (E D₂ D₁ F : Environment) (X : List Entry) : Type 0 where
    pub one : DeclaredTop κ.nodes κ.rows κ.base κ.declared κ.environment E (declaring (at_second stage) opened outer) κ.values D₂
        (environment D₁ ∷ environment F ∷ X)
    pub saved : SavedTop κ.nodes κ.rows κ.base κ.environment (declaring stage opened outer) one.rest D₁ F X
    pub two : TwoOnTop words m one.top saved.top (saved.second ∷ saved.rest)
    pub third : OneOnTop words (at_height (m.values - 2) m) saved.second saved.rest

  three_on_top : {stage : Stage} {opened : ℕ} {outer : List ℕ} {E D₂ D₁ F : Environment} {X : List Entry} →
      ValuesAs κ.nodes κ.rows κ.base κ.declared κ.environment E (declaring (at_end (at_second stage)) opened outer) κ.values
      (environment D₂ ∷ environment D₁ ∷ environment F ∷ X) →
      ThreeOnTop stage opened outer E D₂ D₁ F X
  three_on_top v =
      let one = declared_top v in
      let saved = saved_top one.below in
      let two = two_on_top words m one.top saved.top (saved.second ∷ saved.rest) (one.are ∙ ap (λ r. one.top ∷ r) saved.are) in
      record {
        one = one;
        saved = saved;
        two = two;
        third = one_on_top words (at_height (m.values - 2) m) saved.second saved.rest
            (ap (λ k. k.values) two.popped);
      }

  pub join_some : (w : ℕ) {C : List Item} {X : List Entry} {E : Environment} {S : Store} {L : List ℕ} {n : ℕ} {r : Rule} {e : Effect} →
      Ready words m w (mark dseq_join_mark) C X E S L n r e → 3 ≤ m.values
  join_some w ready =
      let three = three_on_top (join_top w ready).found.values_as in
      omega (arith, three.two.some_values, three.third.some_values)

  -- The machine with the environment that was kept.
  abbrev back : Machine
  back = pointed (get_or words (third_payload + m.values) 0) m.declared m.base (at_height (m.values - 2) m)

  pub join_made : (w : ℕ) → Steps words m w (mark dseq_join_mark) (Ok back) words
  join_made w C X E S L n r e ready =
      answered (Ok back) words words top.effect_is
      (step_made words words m back (Ok back) C new top.kept S L n refl
      (fits_still words words m back ready.fits (ap (λ k. k.size) all) ready.fits.few_control (omega (arith, ready.fits.few_values))
      ready.fits.few_bindings ready.fits.few_cells)
      (subst (λ k. Models k C new top.kept S L n) (sym all) models)
      (ap (λ k. k.nodes) all) (ap (λ k. k.beyond) all) (ap (λ k. k.size) all))
    where
      top : JoinTop C E S L n e
      top = join_top w ready

      new : List Entry
      new = environment (join top.second_names top.first_names) ∷ top.rest

      three : ThreeOnTop top.stage top.opened top.outer E top.second_names top.first_names top.kept top.rest
      three = three_on_top top.found.values_as

      place : third_payload + m.values ≡ top_payload + (m.values - 2)
      place = omega (arith, three.two.some_values)

      pointer_is : get_or words (third_payload + m.values) 0 ≡ three.saved.pointer
      pointer_is = ap (λ i. get_or words i 0) place ∙ three.third.payload_word ∙ three.saved.pointer_is

      back_regions : Regions
      back_regions = with_pointers three.saved.pointer κ.declared κ.base (with_values (three.saved.second ∷ three.saved.rest) κ)

      all : regions words back ≡ back_regions
      all =
          regions_environment words (at_height (m.values - 2) m) (get_or words (third_payload + m.values) 0)
          ∙ ap (λ k. with_pointers (get_or words (third_payload + m.values) 0) k.declared k.base k) three.two.popped
          ∙ ap (λ p. with_pointers p κ.declared κ.base (with_values (three.saved.second ∷ three.saved.rest) κ)) pointer_is

      models : Models back_regions C new top.kept S L n
      models =
          record {
            mode = declaring (at_end top.stage) top.opened top.outer;
            control_as = top.control_as;
            values_as = declared_on (segment_join three.one.segment three.saved.first_names) three.saved.below;
            environment_as = three.saved.kept;
            store_as = top.found.store_as;
            locations_as = top.found.locations_as;
            bindings_as = top.found.bindings_as;
          }
