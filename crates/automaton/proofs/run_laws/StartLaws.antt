-- The start of a run: the registers' rows and cells, one by one, and the root on control.
use Prim.Native.Nat.{ℕ, suc, ◌+◌, ◌*◌, ◌<◌, ◌≤◌}
use mathlib.Core.Path.{◌≡◌, refl, sym, ap, ◌∙◌, subst}
use mathlib.Core.List.{List, [], ◌∷◌}
use native.Mathlib.Omega.{arith}
use lib.ListN.{length, get_or, take, drop}
use lib.Seq.{get_or-take}
use Rattle.rules.specs.paper.Tree.{Root, expression, command, absent}
use Rattle.rules.specs.paper.Engine.{register_environment, register_store, root_control, start}
use Rattle.rules.specs.paper.Limits.{most_nodes, most_bindings, work_words}
use Rattle.machine.specs.Layout.{row_labels, row_payloads, cell_payloads, cell_labels, link}
use Rattle.reader.specs.Stored.{StoredRoot, root_expression, root_command, root_absent, RootAt}
use Rattle.reader.proofs.StandingLaws.{absent_root}
use Rattle.reader.specs.StoredLaws.{same_root}
use Rattle.integers.specs.Words.{integers_of}
use Rattle.integers.specs.WordLaws.{integers_at}
use Rattle.machine.specs.Regions.{stack, Slot, slot, slots, Regions, regions, Fits, with_control, with_row, with_cells, raised_control, raised_rows, raised_cells}
use Rattle.machine.specs.Represents.{integer_as, location_as, SegmentAs, no_row, value_as, StoreAs, no_cell, one_cell, Since, none_since, running, ControlAs, nothing_left, expression_on, command_on, nothing_on, Models}
use Rattle.machine.specs.Steps.{Holds, Untouched}
use Rattle.automaton.specs.Starts.{StartsAt}
use Rattle.machine.specs.declared.Machine.{Machine}
use Rattle.machine.proofs.memory_laws.RegionLaws.{slots_length}
use Rattle.machine.proofs.memory_laws.EnvironmentLaws.{segment_new}
use Rattle.machine.proofs.state_laws.ModelLaws.{fits_still}

-- A machine with nothing but the rows and cells of this many registers.
abbrev pub with_registers : ℕ → Machine
with_registers i = record { control = 0; values = 0; environment = 0; declared = 0; cells = i; base = 0; bindings = i }

-- The first so many registers have their rows and cells.
pub record RegistersSet (before : List ℕ) (registers : List ℕ) (words : List ℕ) (m : Machine) (i : ℕ) : Type 0 where
  pub machine_is : m ≡ with_registers i
  pub fits : Fits words m
  pub names_as : (nodes : List ℕ) → SegmentAs nodes (regions words m).rows i 0 (register_environment i)
  pub cells_as : StoreAs (regions words m).cells (register_store i (integers_of registers))
  pub same_nodes : (regions words m).nodes ≡ take most_nodes before
  pub same_beyond : (regions words m).beyond ≡ drop work_words before
  pub same_size : (regions words m).size ≡ length before

pub none_set : (before registers : List ℕ) → work_words ≤ length before → RegistersSet before registers before (with_registers 0) 0
unfolding regions register_environment register_store slots
none_set before registers h =
    record {
      machine_is = refl;
      fits = record { room = h; few_control = omega arith; few_values = omega arith; few_bindings = omega arith; few_cells = omega arith };
      names_as = λ nodes. no_row;
      cells_as = no_cell;
      same_nodes = refl;
      same_beyond = refl;
      same_size = refl;
    }

rows_height : (words : List ℕ) (m : Machine) → length (regions words m).rows ≡ m.bindings
unfolding regions
rows_height words m = slots_length row_labels row_payloads m.bindings words

cells_height : (words : List ℕ) (m : Machine) → length (regions words m).cells ≡ m.cells
unfolding regions
cells_height words m = slots_length cell_labels cell_payloads m.cells words

pub row_fits : (words : List ℕ) (m : Machine) (after : List ℕ) (r : Machine) {s : Slot} → Fits words m → m.bindings < most_bindings → r ≡ raised_rows m → regions after (raised_rows m) ≡ with_row s (regions words m) → Fits after r
row_fits words m after r f low q e =
    subst (Fits after) (sym q)
    (fits_still words after m (raised_rows m) f (ap (λ κ. κ.size) e) f.few_control f.few_values (omega (arith, low)) f.few_cells)

-- One register more: its name is bound to its cell's location.
module _ (before registers words named after : List ℕ) (m r s : Machine) (i : ℕ) (so_far : RegistersSet before registers words m i) (some_left : i < length registers) (few : length registers ≤ 16)
    (low : get_or registers i 0 < 18446744073709551616)
    (row_is : r ≡ raised_rows m) (rows_are : regions named (raised_rows m) ≡ with_row (slot (64 + 129 * i) i) (regions words m))
    (cell_is : s ≡ raised_cells r) (cells_are : regions after (raised_cells r) ≡ with_cells (slot 0 (get_or registers i 0) ∷ (regions named r).cells) (regions named r)) where
  all : regions after s ≡ with_cells (slot 0 (get_or registers i 0) ∷ (regions words m).cells) (with_row (slot (64 + 129 * i) i) (regions words m))
  all = ap (regions after) cell_is ∙ cells_are ∙ ap (λ κ. with_cells (slot 0 (get_or registers i 0) ∷ κ.cells) κ) (ap (regions named) row_is ∙ rows_are)

  machine : s ≡ with_registers (i + 1)
  machine = cell_is ∙ ap raised_cells (row_is ∙ ap raised_rows so_far.machine_is)

  bindings_are : m.bindings ≡ i
  bindings_are = ap (λ k. k.bindings) so_far.machine_is

  cells_so_far : m.cells ≡ i
  cells_so_far = ap (λ k. k.cells) so_far.machine_is

  names : (nodes : List ℕ) → SegmentAs nodes (slot (64 + 129 * i) i ∷ (regions words m).rows) (suc i) 0 (register_environment (suc i))
  unfolding register_environment
  names nodes =
      segment_new (suc i) (64 + 129 * i) (ap suc (sym bindings_are ∙ sym (rows_height words m))) (packed i) (omega (arith, some_left, few)) (omega arith) (omega (arith, rows_height words m, bindings_are))
      (value_as location_as) (so_far.names_as nodes)
    where
      packed : (i : ℕ) → 64 + 129 * i ≡ link i 1 i
      packed i = omega arith

  stored : StoreAs (slot 0 (get_or registers i 0) ∷ (regions words m).cells) (register_store (suc i) (integers_of registers))
  unfolding register_store
  stored = one_cell (sym cells_so_far ∙ sym (cells_height words m)) (integer_as (integers_at registers i some_left) low) so_far.cells_as

  one_more : (i : ℕ) → suc i ≡ i + 1
  one_more i = omega arith

  pub one_set : RegistersSet before registers after s (i + 1)
  one_set =
      record {
        machine_is = machine;
        fits =
            fits_still words after m s so_far.fits (ap (λ κ. κ.size) all) (omega (arith, ap (λ k. k.control) machine)) (omega (arith, ap (λ k. k.values) machine))
            (omega (arith, ap (λ k. k.bindings) machine, some_left, few)) (omega (arith, ap (λ k. k.cells) machine, some_left, few));
        names_as = λ nodes. subst (λ k. SegmentAs nodes (regions after s).rows k 0 (register_environment k)) (one_more i) (subst (λ κ. SegmentAs nodes κ.rows (suc i) 0 (register_environment (suc i))) (sym all) (names nodes));
        cells_as = subst (λ k. StoreAs (regions after s).cells (register_store k (integers_of registers))) (one_more i) (subst (λ κ. StoreAs κ.cells (register_store (suc i) (integers_of registers))) (sym all) stored);
        same_nodes = ap (λ κ. κ.nodes) all ∙ so_far.same_nodes;
        same_beyond = ap (λ κ. κ.beyond) all ∙ so_far.same_beyond;
        same_size = ap (λ κ. κ.size) all ∙ so_far.same_size;
      }

pub all_set : {before registers words : List ℕ} {m : Machine} {i : ℕ} → RegistersSet before registers words m i → i ≤ length registers → length registers ≤ i → RegistersSet before registers words m (length registers)
all_set {before} {registers} {words} {m} so_far p q = subst (RegistersSet before registers words m) (omega arith) so_far

-- ---- The root on control; with no node control is empty.

abbrev pub ready : ℕ → Machine
ready i = record { control = 0; values = 0; environment = i; declared = i; cells = i; base = i; bindings = i }

pub ready_fits : (before registers words : List ℕ) (m : Machine) (i : ℕ) → RegistersSet before registers words m i → Fits words (ready i)
ready_fits before registers words m i so_far =
    let f = subst (Fits words) so_far.machine_is so_far.fits in
    record { room = f.room; few_control = omega arith; few_values = omega arith; few_bindings = f.few_bindings; few_cells = f.few_cells }

root_on : (nodes : List ℕ) (t : Root) {d j : ℕ} → (j ≡ 0 → ⊥) → StoredRoot nodes d 0 j t → ControlAs nodes (running []) (0 ∷ []) (root_control t)
root_on nodes (expression e) some (root_expression h) = expression_on h nothing_left
root_on nodes (command c) some (root_command h) = command_on h nothing_left
root_on nodes absent some root_absent = absurd (some refl)

module _ (before registers words : List ℕ) (m : Machine) (so_far : RegistersSet before registers words m (length registers)) where
  abbrev i : ℕ
  i = length registers

  -- The regions at the start, with these entries on control.
  start_regions : (entries : List ℕ) → Regions
  start_regions entries =
      record { nodes = take most_nodes before; control = entries; values = []; rows = (regions words (with_registers i)).rows; cells = (regions words (with_registers i)).cells; environment = i; declared = i; base = i; beyond = drop work_words before; size = length before }

  regions_ready : regions words (ready i) ≡ start_regions []
  unfolding regions stack slots start_regions
  regions_ready =
      let same = subst (λ k. RegistersSet before registers words k i) so_far.machine_is so_far in
      rw (same.same_nodes, same.same_beyond, same.same_size)

  module _ (after : List ℕ) (r : Machine) (entries : List ℕ) (t : Root) (whole : regions after r ≡ start_regions entries) (fits : Fits after r)
      (on_control : ControlAs (take most_nodes before) (running []) entries (root_control t)) where
    models : Models (start_regions entries) (root_control t) [] (register_environment i) (register_store i (integers_of registers)) [] i
    unfolding start_regions
    models =
        let same = subst (λ k. RegistersSet before registers words k i) so_far.machine_is so_far in
        record {
          mode = running [];
          control_as = on_control;
          values_as = nothing_on;
          environment_as = same.names_as (take most_nodes before);
          store_as = same.cells_as;
          locations_as = subst (λ k. Since i k []) (sym (cells_height words (with_registers i))) none_since;
          bindings_as = sym (rows_height words (with_registers i));
        }

    holds : Holds after r (start i t (integers_of registers))
    unfolding start
    holds =
        record { fits = fits; models = subst (λ κ. Models κ (root_control t) [] (register_environment i) (register_store i (integers_of registers)) [] i) (sym whole) models }

    kept : Untouched before after
    unfolding regions start_regions
    kept = record { same_nodes = ap (λ κ. κ.nodes) whole; same_beyond = ap (λ κ. κ.beyond) whole; same_length = ap (λ κ. κ.size) whole }

    starts : StartsAt t registers r before after
    starts = record { holds = holds; untouched = kept }

  pub absent_started : (nodes : ℕ) → nodes ≡ 0 → (t : Root) → RootAt before nodes t → StartsAt t registers (ready i) before words
  absent_started nodes none t stands =
      subst (λ u. StartsAt u registers (ready i) before words) (sym (absent_root none stands))
      (starts words (ready i) [] absent regions_ready (ready_fits before registers words m i so_far) nothing_left)

  pub root_started : (after : List ℕ) (r : Machine) → r ≡ raised_control (ready i) → regions after (raised_control (ready i)) ≡ with_control 0 (regions words (ready i)) →
      (nodes : ℕ) → (nodes ≡ 0 → ⊥) → (t : Root) → RootAt before nodes t → StartsAt t registers r before after
  unfolding start_regions
  root_started after r control_is control_are nodes some t stands =
      let f = ready_fits before registers words m i so_far in
      starts after r (0 ∷ []) t
      (ap (regions after) control_is ∙ control_are ∙ ap (with_control 0) regions_ready)
      (subst (Fits after) (sym control_is) (fits_still words after (ready i) (raised_control (ready i)) f (ap (λ κ. κ.size) control_are) (omega arith) (omega arith) f.few_bindings f.few_cells))
      (root_on (take most_nodes before) t some (same_root before (take most_nodes before) (λ k l. get_or-take most_nodes before k 0 l) stands.stored))
