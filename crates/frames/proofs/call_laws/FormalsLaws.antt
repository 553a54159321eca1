-- A call's Formals bound one after the other: what the next one finds, and what its row leaves.
use Prim.Native.Nat.{ℕ, zero, suc, ◌+◌, ◌-◌, ◌*◌, ◌%◌, ◌<◌, ◌≤◌}
use mathlib.Core.Path.{◌≡◌, refl, sym, ap, ◌∙◌, subst}
use mathlib.Core.List.{List, [], ◌∷◌}
use mathlib.Core.Option.{some, some-injective}
use native.Mathlib.Omega.{arith}
use lib.ListN.{length, get_or}
use Rattle.rules.proofs.Basics.{missing}
use Rattle.rules.specs.paper.Tree.{Formal}
use Rattle.rules.specs.paper.Limits.{names, most_nodes}
use Rattle.rules.specs.paper.States.{Value, value, closure, Environment, bound, Entry, bindable, name, node, environment, locations}
use Rattle.rules.specs.paper.Rules.{Matched, match_formals}
use Rattle.machine.specs.Layout.{top_payload, top_label, link}
use Rattle.reader.specs.Pack.{packed_operand}
use Rattle.reader.specs.Stored.{HasWord, StoredFormals, no_formals, one_formal}
use Rattle.reader.proofs.StoredFields.{operand_is}
use Rattle.machine.specs.Regions.{Slot, slot, Regions, regions, with_values, with_row, raised_rows}
use Rattle.machine.specs.Represents.{SegmentAs, BindableAs, value_as, Extends, one_more, Mode, ValuesAs}
use Rattle.frames.specs.Formals.{with_bound, Binding}
use Rattle.machine.specs.declared.Machine.{Machine}
use Rattle.machine.proofs.state_laws.NodeLaws.{node_word}
use Rattle.machine.proofs.state_laws.TopLaws.{at_height, OneOnTop, one_on_top, BindableTop, bindable_top}
use Rattle.machine.proofs.memory_laws.EnvironmentLaws.{segment_new, pointer_low}
use Rattle.frames.proofs.frame_laws.FrameLaws.{pointed, with_pointers, regions_environment, rows_height, value_label_low}

-- ---- The lists.

pub formals_end : {nodes : List ℕ} {i k : ℕ} {fs : List Formal} → StoredFormals nodes i k fs → k ≡ i + length fs
formals_end no_formals = omega arith
formals_end (one_formal p n c w h) = omega (arith, formals_end h)

record FirstFormal (nodes : List ℕ) (i k : ℕ) (fs : List Formal) : Type 0 where
  pub formal : Formal
  pub rest : List Formal
  pub are : fs ≡ formal ∷ rest
  pub name_low : formal.name < names
  pub word : HasWord nodes i 42 (formal.name + names * formal.code) (suc i)
  pub stored : StoredFormals nodes (suc i) k rest

first_formal : {nodes : List ℕ} {i k : ℕ} {fs : List Formal} → StoredFormals nodes i k fs → i < k → FirstFormal nodes i k fs
first_formal no_formals l = absurd (omega (arith, l))
first_formal (one_formal {f = f} {fs = fs} p n c w h) l = record { formal = f; rest = fs; are = refl; name_low = n; word = w; stored = h }

record FirstActual (f : Formal) (k : ℕ) (fs : List Formal) (X : List Entry) (F : Environment) (M : Matched) : Type 0 where
  pub actual : Value
  pub rest : List Entry
  pub are : X ≡ bindable (value actual) ∷ rest
  pub matches : match_formals k fs rest (bound f.name (value actual) F) ≡ some M

first_actual : (f : Formal) (k : ℕ) (fs : List Formal) (X : List Entry) (F : Environment) (M : Matched) → match_formals (suc k) (f ∷ fs) X F
    ≡ some M → FirstActual f k fs X F M
unfolding match_formals
first_actual f k fs [] F M q = missing q
first_actual f k fs (bindable (value v) ∷ X) F M q = record { actual = v; rest = X; are = refl; matches = q }
first_actual f k fs (bindable (closure gs b E) ∷ X) F M q = missing q
first_actual f k fs (name x ∷ X) F M q = missing q
first_actual f k fs (node c ∷ X) F M q = missing q
first_actual f k fs (environment E ∷ X) F M q = missing q
first_actual f k fs (locations L ∷ X) F M q = missing q

-- As many Formals as actuals, which are on top of the value stack.
pub record Counted (k : ℕ) (fs : List Formal) (X : List Entry) (M : Matched) : Type 0 where
  pub formals_count : k ≡ length fs
  pub entries_count : length X ≡ k + length M.rest

pub counted : (k : ℕ) (fs : List Formal) (X : List Entry) (F : Environment) (M : Matched) → match_formals k fs X F ≡ some M → Counted k fs X M
unfolding match_formals
counted zero [] X F M q = record {
  formals_count = refl;
  entries_count = same
      (ap (λ r. length r.rest) (some-injective (record { environment_with = F; rest = X }) M q));
}
  where
    same : length X ≡ length M.rest → length X ≡ 0 + length M.rest
    same e = omega arith
counted zero (f ∷ fs) X F M q = missing q
counted (suc k) [] X F M q = missing q
counted (suc k) (f ∷ fs) X F M q =
    let a = first_actual f k fs X F M q in
    let c = counted k fs a.rest (bound f.name (value a.actual) F) M a.matches in
    record { formals_count = ap suc c.formals_count; entries_count = one_more (ap (λ Z. length Z) a.are) c.entries_count }
  where
    one_more : {y : ℕ} → length X ≡ suc y → y ≡ k + length M.rest → length X ≡ suc k + length M.rest
    one_more e h = omega arith

-- The numbers that the code meets.
pub record Numbers (words : List ℕ) (m : Machine) (formal : ℕ) : Type 0 where
  pub some_values : 1 ≤ m.values
  pub label_low : get_or words (top_label + m.values) 0 < 2
  pub environment_low : m.environment ≤ m.bindings
  pub place_low : formal < most_nodes

-- The link of a Formal's row, and the machine after it.
abbrev pub formal_link : List ℕ → Machine → (formal : ℕ) → ℕ
formal_link words m formal = packed_operand (get_or words formal 0) % 64 + 64 * get_or words (top_label + m.values) 0 + 128 * m.environment

abbrev pub one_bound : Machine → Machine
one_bound m = pointed (m.bindings + 1) m.declared m.base (at_height (m.values - 1) (raised_rows m))

module _ (κ : Regions) (base d p : ℕ) (E : Environment) (mode : Mode) (M : Matched) (words : List ℕ) (m : Machine) (formal block : ℕ) where
  -- The next Formal, and its actual on top of the value stack.
  pub record NextFormal : Type 0 where
    pub parameter : Formal
    pub actual : Value
    pub formals : List Formal
    pub actuals : List Entry
    pub made : Environment
    pub made_pointer : ℕ
    pub rows : List Slot
    pub top : Slot
    pub values : List Slot
    pub regions_are : regions words m ≡ with_bound rows (top ∷ values) made_pointer κ
    pub extends : Extends κ.rows rows
    pub value_is : BindableAs κ.nodes rows top.label top.payload (value actual)
    pub name_low : parameter.name < names
    pub word : HasWord κ.nodes formal 42 (parameter.name + names * parameter.code) (suc formal)
    pub matches : match_formals (length formals) formals actuals (bound parameter.name (value actual) made) ≡ some M
    pub stored : StoredFormals κ.nodes (suc formal) block formals
    pub segment : SegmentAs κ.nodes rows made_pointer 0 made
    pub values_as : ValuesAs κ.nodes κ.rows base d p E mode values actuals

  pub next_formal : Binding κ base d p E mode M (regions words m) formal block → formal < block → NextFormal
  next_formal σ low =
      record {
        parameter = one.formal;
        actual = first.actual;
        formals = one.rest;
        actuals = first.rest;
        made = σ.made;
        made_pointer = σ.made_pointer;
        rows = σ.rows;
        top = on.top;
        values = on.rest;
        regions_are = σ.regions_are ∙ ap (λ r. with_bound σ.rows r σ.made_pointer κ) on.are;
        extends = σ.extends;
        value_is = any_rows on.as_bindable;
        name_low = one.name_low;
        word = one.word;
        matches = first.matches;
        stored = one.stored;
        segment = σ.segment;
        values_as = on.below;
      }
    where
      one : FirstFormal κ.nodes formal block σ.formals
      one = first_formal σ.stored low

      first : FirstActual one.formal (length one.rest) one.rest σ.actuals σ.made M
      first =
          first_actual one.formal (length one.rest) one.rest σ.actuals σ.made M
          (subst (λ fs. match_formals (length fs) fs σ.actuals σ.made ≡ some M) one.are σ.matches)

      on : BindableTop κ.nodes κ.rows base d p E mode σ.values first.rest (value first.actual)
      on = bindable_top (subst (λ X. ValuesAs κ.nodes κ.rows base d p E mode σ.values X) first.are σ.values_as)

      any_rows : {nodes : List ℕ} {older rows : List Slot} {t w : ℕ} {v : Value} → BindableAs nodes older t w (value v) →
          BindableAs nodes rows t w (value v)
      any_rows (value_as h) = value_as h

  environment_of : (rows values : List Slot) (e : ℕ) → regions words m ≡ with_bound rows values e κ → m.environment ≡ e
  unfolding regions
  environment_of rows values e q = ap (λ k. k.environment) q

  pub formal_numbers : NextFormal → Numbers words m formal
  formal_numbers next =
      let on = one_on_top words m next.top next.values (ap (λ k. k.values) next.regions_are) in
      record {
        some_values = on.some_values;
        label_low = subst (λ t. t < 2) (sym on.label_word) (value_label_low next.value_is);
        environment_low =
            low (environment_of next.rows (next.top ∷ next.values) next.made_pointer next.regions_are) (pointer_low next.segment)
            (ap (λ k. length k.rows) next.regions_are) (rows_height words m);
        place_low = next.word.place_low;
      }
    where
      low : m.environment ≡ next.made_pointer → next.made_pointer ≤ length next.rows → length (regions words m).rows ≡ length next.rows →
          length (regions words m).rows ≡ m.bindings →
          m.environment ≤ m.bindings
      low a b c e = omega arith

  -- ---- Its row.

  pub formal_bound : NextFormal → (after : List ℕ) →
      regions after (raised_rows m) ≡ with_row (slot (formal_link words m formal) (get_or words (top_payload + m.values) 0)) (regions words m) →
      Binding κ base d p E mode M (regions after (one_bound m)) (formal + 1) block
  formal_bound next after put =
      record {
        rows = row ∷ next.rows;
        values = next.values;
        made_pointer = m.bindings + 1;
        formals = next.formals;
        actuals = next.actuals;
        made = bound next.parameter.name (value next.actual) next.made;
        regions_are =
            regions_environment after (at_height (m.values - 1) (raised_rows m)) (m.bindings + 1)
            ∙ ap (λ k. with_pointers (m.bindings + 1) k.declared k.base k)
            ((one_on_top after (raised_rows m) next.top next.values (ap (λ k. k.values) (put ∙ ap (with_row row) next.regions_are))).popped
            ∙ ap (with_values next.values) (put ∙ ap (with_row row) next.regions_are));
        extends = one_more next.extends;
        matches = next.matches;
        stored = subst (λ i. StoredFormals κ.nodes i block next.formals) (after_it formal) next.stored;
        segment =
            segment_new (m.bindings + 1) (formal_link words m formal) newest label_is next.name_low (value_label_low next.value_is)
            (pointer_low next.segment)
            (subst (λ w. BindableAs κ.nodes next.rows next.top.label w (value next.actual)) (sym on.payload_word) next.value_is) next.segment;
        values_as = next.values_as;
      }
    where
      row : Slot
      row = slot (formal_link words m formal) (get_or words (top_payload + m.values) 0)

      after_it : (i : ℕ) → suc i ≡ i + 1
      after_it i = omega arith

      on : OneOnTop words m next.top next.values
      on = one_on_top words m next.top next.values (ap (λ k. k.values) next.regions_are)

      newest : m.bindings + 1 ≡ suc (length next.rows)
      newest = omega (arith, rows_height words m, ap (λ k. length k.rows) next.regions_are)

      word : HasWord words formal 42 (next.parameter.name + names * next.parameter.code) (suc formal)
      word = node_word words m (subst (λ nodes. HasWord nodes formal 42 (next.parameter.name + names * next.parameter.code) (suc formal))
          (sym (ap (λ k. k.nodes) next.regions_are)) next.word)

      name_is : packed_operand (get_or words formal 0) % 64 ≡ next.parameter.name
      name_is = low_part (operand_is word (omega arith)) next.name_low
        where
          low_part : packed_operand (get_or words formal 0) ≡ next.parameter.name + names * next.parameter.code → next.parameter.name < names →
              packed_operand (get_or words formal 0) % 64 ≡ next.parameter.name
          low_part e l = omega arith

      label_is : formal_link words m formal ≡ link next.parameter.name next.top.label next.made_pointer
      label_is = rw (name_is, on.label_word, environment_of next.rows (next.top ∷ next.values) next.made_pointer next.regions_are)
