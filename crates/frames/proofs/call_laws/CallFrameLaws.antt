-- Call's mark: the state that it leaves, with the frame that it saves.
use Prim.Native.Nat.{ℕ, ◌+◌, ◌-◌, ◌/◌, ◌≤◌}
use mathlib.Core.Path.{◌≡◌, refl, sym, ap, ◌∙◌, subst}
use mathlib.Core.Bool.{false}
use mathlib.Core.List.{List, [], ◌∷◌}
use mathlib.Core.Option.{some, some-injective}
use native.Mathlib.Omega.{arith}
use lib.ListN.{length, get_or}
use Rattle.rules.specs.paper.Tree.{Formal, block}
use Rattle.rules.specs.paper.States.{Environment, Store, Entry, environment, locations, call_mark, leave_mark, Item, command, mark}
use Rattle.rules.specs.paper.Rules.{Rule, Effect, Matched, match_formals}
use Rattle.rules.specs.paper.Run.{judge}
use Rattle.rules.specs.paper.Limits.{most_bindings, most_value_entries, most_control_entries}
use Rattle.machine.specs.Layout.{row_payloads, closure_unit, count_unit, leave_word}
use Rattle.reader.specs.Stored.{StoredCommand, block_of}
use Rattle.machine.specs.Regions.{Slot, Regions, regions, Fits}
use Rattle.machine.specs.Represents.{SegmentAs, Since, none_since, Extends, Mode, running, ControlAs, command_on, leave_on, ValuesAs, frame_on, Models}
use Rattle.machine.specs.Steps.{StepAnswer, Ready}
use Rattle.frames.specs.Formals.{with_bound, machine_with_formals, Binding, Binds, with_frame}
use Rattle.machine.specs.declared.Machine.{Machine}
use Rattle.std.specs.Prelude.{Ok}
use Rattle.machine.proofs.state_laws.ModelLaws.{step_made, fits_still}
use Rattle.frames.proofs.frame_laws.FrameLaws.{with_pointers, environment_is, base_is, cells_height, answered, rows_height}
use Rattle.frames.proofs.call_laws.FormalsLaws.{formals_end}
use Rattle.frames.proofs.call_laws.CallMarkLaws.{CallTop, call_top, call_numbers, RowFound, formal_first, called, regions_called, ClosureAt, called_closure, block_is, call_binding}

-- ---- All Formals are bound.

pub record AllBound (κ : Regions) (base d p : ℕ) (E : Environment) (mode : Mode) (M : Matched) (now : Regions) : Type 0 where
  pub rows : List Slot
  pub values : List Slot
  pub pointer : ℕ
  pub regions_are : now ≡ with_bound rows values pointer κ
  pub extends : Extends κ.rows rows
  pub segment : SegmentAs κ.nodes rows pointer 0 M.environment_with
  pub values_as : ValuesAs κ.nodes κ.rows base d p E mode values M.rest

matched_none : (fs : List Formal) (X : List Entry) (F : Environment) (M : Matched) → length fs ≡ 0 → match_formals (length fs) fs X F ≡ some M →
    record { environment_with = F; rest = X } ≡ M
unfolding match_formals
matched_none [] X F M l q = some-injective _ M q
matched_none (f ∷ fs) X F M l q = absurd (omega (arith, l))

pub all_bound : (κ : Regions) (base d p : ℕ) (E : Environment) (mode : Mode) (M : Matched) (now : Regions) (place : ℕ) →
    Binding κ base d p E mode M now place place → AllBound κ base d p E mode M now
all_bound κ base d p E mode M now place σ =
    record {
      rows = σ.rows;
      values = σ.values;
      pointer = σ.made_pointer;
      regions_are = σ.regions_are;
      extends = σ.extends;
      segment = subst (λ N. SegmentAs κ.nodes σ.rows σ.made_pointer 0 N.environment_with) done σ.segment;
      values_as = subst (λ N. ValuesAs κ.nodes κ.rows base d p E mode σ.values N.rest) done σ.values_as;
    }
  where
    none_left : (k : ℕ) → place ≡ place + k → k ≡ 0
    none_left k q = omega arith

    done : record { environment_with = σ.made; rest = σ.actuals } ≡ M
    done = matched_none σ.formals σ.actuals σ.made M (none_left (length σ.formals) (formals_end σ.stored)) σ.matches

-- ---- The step.

-- The machine after its Formals are bound has room for the frame.
pub record Formed (after : List ℕ) (t : Machine) : Type 0 where
  pub fits : Fits after t
  pub few_values : t.values + 2 ≤ most_value_entries
  pub few_control : t.control + 2 ≤ most_control_entries

module _ (words : List ℕ) (m : Machine) (w row : ℕ) (found : RowFound words m w row) (after : List ℕ) (t : Machine)
    (machine_is : t ≡ machine_with_formals (formal_first words m row + w / count_unit - formal_first words m row) t.environment (called words m row))
    (binds : Binds words (called words m row) (formal_first words m row) (formal_first words m row + w / count_unit) t after)
    (free : m.bindings + w / count_unit ≤ most_bindings) (low : m.values - w / count_unit + 2 ≤ most_value_entries)
    (short : m.control + 2 ≤ most_control_entries) where
  abbrev κ : Regions
  κ = regions words m

  values_are : t.values ≡ m.values - w / count_unit
  values_are = omega (arith, ap (λ k. k.values) machine_is)

  bindings_are : t.bindings ≡ m.bindings + w / count_unit
  bindings_are = omega (arith, ap (λ k. k.bindings) machine_is)

  module _ (p x k : ℕ) {C : List Item} {X : List Entry} {E : Environment} {S : Store} {L : List ℕ} {n : ℕ} {r : Rule} {e : Effect}
      (ready : Ready words m w (mark (call_mark p x k)) C X E S L n r e) where
    abbrev top : CallTop words m w p x k C X E S L n e
    top = call_top words m w p x k ready

    abbrev called_regions : Regions
    called_regions = with_pointers (get_or words (row_payloads + row) 0 / closure_unit) κ.declared m.cells κ

    bound_all : AllBound called_regions κ.base κ.declared κ.environment E (running top.outer) top.matched (regions after t)
    bound_all =
        subst (λ j. AllBound j κ.base κ.declared κ.environment E (running top.outer) top.matched (regions after t)) (regions_called words m row)
        (all_bound _ _ _ _ _ _ _ _ _ (binds κ.base κ.declared κ.environment E (running top.outer) top.matched
        (call_binding words m w p x k ready row found)))

    abbrev bound_regions : Regions
    bound_regions = with_bound bound_all.rows bound_all.values bound_all.pointer called_regions

    bound_are : regions after t ≡ bound_regions
    bound_are = bound_all.regions_are

    pub call_formed : Formed after t
    call_formed =
        record {
          fits =
              fits_still words after m t ready.fits (ap (λ j. j.size) bound_are) (omega (arith, short, ap (λ j. j.control) machine_is))
              (omega (arith, values_are, ready.fits.few_values)) (omega (arith, bindings_are, free))
              (omega (arith, ap (λ j. j.cells) machine_is, ready.fits.few_cells));
          few_values = omega (arith, values_are, low);
          few_control = omega (arith, short, ap (λ j. j.control) machine_is);
        }

    module _ (last : List ℕ) (u : Machine) (fits : Fits last u)
        (put : regions last u ≡ with_frame m.base m.environment (leave_word m.bindings) (formal_first words m row + w / count_unit)
        (regions after t)) where
      abbrev last_regions : Regions
      last_regions = with_frame m.base m.environment (leave_word m.bindings) (formal_first words m row + w / count_unit) bound_regions

      all : regions last u ≡ last_regions
      all = put ∙ ap (λ j. with_frame m.base m.environment (leave_word m.bindings) (formal_first words m row + w / count_unit) j) bound_are

      abbrev control_after : List Item
      control_after = command (block top.body) ∷ mark (leave_mark p n) ∷ C

      abbrev values_after : List Entry
      values_after = environment E ∷ locations L ∷ top.matched.rest

      abbrev closure : ClosureAt κ.nodes κ.rows (get_or words (row_payloads + row) 0) top.formals top.body top.definition
      closure = called_closure words m w p x k ready row found

      bindings_before : n ≡ m.bindings
      bindings_before = ready.models.bindings_as ∙ rows_height words m

      control_as : ControlAs κ.nodes (running (n ∷ top.outer)) last_regions.control control_after
      control_as =
          command_on
          (subst (λ i. StoredCommand κ.nodes closure.depth i closure.block_end (block top.body)) (sym (block_is words m w p x k ready row found))
          (block_of closure.block_stored))
          (leave_on (ap (λ i. leave_word i) (sym bindings_before)) top.control_as)

      values_as : ValuesAs κ.nodes bound_all.rows m.cells κ.declared bound_all.pointer top.matched.environment_with
          (running (n ∷ top.outer)) last_regions.values values_after
      values_as =
          frame_on (sym (environment_is words m)) bound_all.extends (sym ready.models.bindings_as) ready.models.environment_as
          (subst (λ j. Since κ.base j L) (cells_height words m) ready.models.locations_as) (sym (base_is words m)) bound_all.values_as

      models : Models last_regions control_after values_after top.matched.environment_with S [] (n + k)
      models =
          record {
            mode = running (n ∷ top.outer);
            control_as = control_as;
            values_as = values_as;
            environment_as = bound_all.segment;
            store_as = ready.models.store_as;
            locations_as = subst (λ j. Since m.cells j []) (sym (cells_height words m)) none_since;
            bindings_as = counted_rows (length bound_all.rows) bindings_before bindings_are (call_numbers words m w p x k ready).count_is
                (rows_height after t) (ap (λ j. length j.rows) bound_are);
          }
        where
          counted_rows : (h : ℕ) → n ≡ m.bindings → t.bindings ≡ m.bindings + w / count_unit → w / count_unit ≡ k → length (regions after t).rows
              ≡ t.bindings → length (regions after t).rows ≡ h → n + k ≡ h
          counted_rows h a b c f g = omega arith

      pub call_made : StepAnswer (judge false e) (Ok u) words last
      call_made =
          answered (Ok u) words last top.effect_is
          (step_made words last m u (Ok u) control_after values_after top.matched.environment_with S [] (n + k) refl fits
          (subst (λ j. Models j control_after values_after top.matched.environment_with S [] (n + k)) (sym all) models)
          (ap (λ j. j.nodes) all) (ap (λ j. j.beyond) all) (ap (λ j. j.size) all))
