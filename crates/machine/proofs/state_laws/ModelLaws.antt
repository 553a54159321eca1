-- The heights of the machine are the sizes of the state it holds; and a state that a step leaves, put together from its parts.
use Prim.Native.Nat.{ℕ, suc, ◌≤◌}
use mathlib.Core.Path.{◌≡◌, refl, sym, ap, ◌∙◌, subst}
use mathlib.Core.Bool.{false}
use mathlib.Core.List.{List}
use native.Mathlib.Omega.{arith}
use lib.ListN.{length}
use Rattle.std.specs.Prelude.{Result, Ok, Err, Some}
use Rattle.rules.specs.declared.refusals.Reason.{Reason}
use Rattle.rules.specs.paper.States.{Environment, Store, Entry, Item, state}
use Rattle.rules.specs.paper.Rules.{goes}
use Rattle.rules.specs.paper.Run.{Verdict, withheld, judge}
use Rattle.rules.specs.paper.Limits.{most_cells, most_bindings, most_value_entries, most_control_entries}
use Rattle.machine.specs.Layout.{control_from, value_payloads, value_labels, row_labels, row_payloads, cell_payloads, cell_labels}
use Rattle.machine.specs.Room.{reason_of_room}
use Rattle.machine.specs.Regions.{Slot, Regions, regions, Fits}
use Rattle.machine.specs.Represents.{StoreAs, no_cell, one_cell, Mode, ControlAs, nothing_left, expression_on, command_on, declaration_on, reference_on, abstraction_on, operator_on, not_on, assign_on, loop_on, conditional_on, ref_on, bind_on, dseq_extend_on, dseq_join_on, extend_on, leave_on, call_on, ValuesAs, nothing_on, bindable_on, name_on, node_on, declared_on, saved_on, opened_on, frame_on, Beside, Models}
use Rattle.machine.specs.Steps.{Untouched, StepAnswer}
use Rattle.machine.specs.declared.Machine.{Machine}
use Rattle.machine.proofs.memory_laws.RegionLaws.{stack_length, slots_length}
use Rattle.machine.proofs.state_laws.JudgeLaws.{judged_made, judged_over}

-- ---- Sizes.

pub control_size : {nodes : List ℕ} {m : Mode} {ws : List ℕ} {C : List Item} → ControlAs nodes m ws C → length C ≡ length ws
control_size nothing_left = refl
control_size (expression_on s h) = ap suc (control_size h)
control_size (command_on s h) = ap suc (control_size h)
control_size (declaration_on s h) = ap suc (control_size h)
control_size (reference_on s h) = ap suc (control_size h)
control_size (abstraction_on s h) = ap suc (control_size h)
control_size (operator_on q h) = ap suc (control_size h)
control_size (not_on q h) = ap suc (control_size h)
control_size (assign_on q h) = ap suc (control_size h)
control_size (loop_on q h) = ap suc (control_size h)
control_size (conditional_on q h) = ap suc (control_size h)
control_size (ref_on q h) = ap suc (control_size h)
control_size (bind_on q h) = ap suc (control_size h)
control_size (dseq_extend_on q h) = ap suc (control_size h)
control_size (dseq_join_on q h) = ap suc (control_size h)
control_size (extend_on q h) = ap suc (control_size h)
control_size (leave_on q h) = ap suc (control_size h)
control_size (call_on q x k h) = ap suc (control_size h)

pub values_size : {nodes : List ℕ} {rows : List Slot} {base d p : ℕ} {E : Environment} {m : Mode} {ws : List Slot} {X : List Entry} →
    ValuesAs nodes rows base d p E m ws X → length X ≡ length ws
values_size nothing_on = refl
values_size (bindable_on b h) = ap suc (values_size h)
values_size (name_on q l h) = ap suc (values_size h)
values_size (node_on s h) = ap suc (values_size h)
values_size (declared_on s h) = ap suc (values_size h)
values_size (saved_on q s f h) = ap (λ n. suc (suc n)) (values_size h)
values_size (opened_on x l s k w h) = ap suc (values_size h)
values_size (frame_on q x l s k w h) = ap (λ n. suc (suc n)) (values_size h)

pub store_size : {cells : List Slot} {S : Store} → StoreAs cells S → length S ≡ length cells
store_size no_cell = refl
store_size (one_cell q v h) = ap suc (store_size h)

-- A state and its parts but control.
abbrev pub beside : {κ : Regions} {C : List Item} {X : List Entry} {E : Environment} {S : Store} {L : List ℕ} {n : ℕ} (μ : Models κ C X E S L n) → Beside κ μ.mode X E S L n
beside μ = record { values_as = μ.values_as; environment_as = μ.environment_as; store_as = μ.store_as; locations_as = μ.locations_as; bindings_as = μ.bindings_as }

abbrev pub with_items : {κ : Regions} {mode : Mode} {C : List Item} {X : List Entry} {E : Environment} {S : Store} {L : List ℕ} {n : ℕ} →
    ControlAs κ.nodes mode κ.control C → Beside κ mode X E S L n → Models κ C X E S L n
with_items {mode = mode} h b =
    record { mode = mode; control_as = h; values_as = b.values_as; environment_as = b.environment_as; store_as = b.store_as; locations_as = b.locations_as; bindings_as = b.bindings_as }

pub record BesideSizes (m : Machine) (X : List Entry) (S : Store) (n : ℕ) : Type 0 where
  pub values_height : length X ≡ m.values
  pub cells_height : length S ≡ m.cells
  pub bindings_height : n ≡ m.bindings

pub beside_sizes : (words : List ℕ) (m : Machine) {mode : Mode} {X : List Entry} {E : Environment} {S : Store} {L : List ℕ} {n : ℕ} → Beside (regions words m) mode X E S L n → BesideSizes m X S n
unfolding regions
beside_sizes words m b =
    record {
      values_height = values_size b.values_as ∙ slots_length value_labels value_payloads m.values words;
      cells_height = store_size b.store_as ∙ slots_length cell_labels cell_payloads m.cells words;
      bindings_height = b.bindings_as ∙ slots_length row_labels row_payloads m.bindings words;
    }

pub control_height : (words : List ℕ) (m : Machine) → length (regions words m).control ≡ m.control
unfolding regions
control_height words m = stack_length control_from m.control words

pub record Sizes (m : Machine) (C : List Item) (X : List Entry) (S : Store) (n : ℕ) : Type 0 where
  pub control_height : length C ≡ m.control
  pub values_height : length X ≡ m.values
  pub cells_height : length S ≡ m.cells
  pub bindings_height : n ≡ m.bindings

pub sizes : (words : List ℕ) (m : Machine) {C : List Item} {X : List Entry} {E : Environment} {S : Store} {L : List ℕ} {n : ℕ} → Models (regions words m) C X E S L n → Sizes m C X S n
sizes words m μ =
    let z = beside_sizes words m (beside μ) in
    record {
      control_height = control_size μ.control_as ∙ control_height words m;
      values_height = z.values_height;
      cells_height = z.cells_height;
      bindings_height = z.bindings_height;
    }

-- ---- A step's answer.

pub untouched : (before after : List ℕ) (m m' : Machine) → (regions after m').nodes ≡ (regions before m).nodes → (regions after m').beyond ≡ (regions before m).beyond → (regions after m').size ≡ (regions before m).size →
    Untouched before after
unfolding regions
untouched before after m m' a b c = record { same_nodes = a; same_beyond = b; same_length = c }

-- The machine after the step has its words, is within the limits and holds the state after the step: the step is made.
pub step_made : (before after : List ℕ) (m m' : Machine) (r : Result Machine Reason) (C : List Item) (X : List Entry) (E : Environment) (S : Store) (L : List ℕ) (n : ℕ) →
    r ≡ Ok m' → Fits after m' → Models (regions after m') C X E S L n →
    (regions after m').nodes ≡ (regions before m).nodes → (regions after m').beyond ≡ (regions before m).beyond → (regions after m').size ≡ (regions before m).size →
    StepAnswer (judge false (goes (state C X E S L n))) r before after
step_made before after m m' r C X E S L n q f μ a b c =
    subst (λ v. StepAnswer v r before after)
    (sym (judged_made C X E S L n (omega (arith, z.cells_height, f.few_cells)) (omega (arith, z.bindings_height, f.few_bindings)) (omega (arith, z.values_height, f.few_values)) (omega (arith, z.control_height, f.few_control))))
    (record { machine = m'; answer = q; holds = record { fits = f; models = μ }; untouched = untouched before after m m' a b c })
  where
    z : Sizes m' C X S n
    z = sizes after m' μ

-- The step is withheld for this reason, and nothing is written.
pub step_withheld : (words : List ℕ) (x : Reason) (v : Verdict) (r : Result Machine Reason) → v ≡ withheld x → r ≡ Err x → StepAnswer v r words words
step_withheld words x v r q a = subst (λ w. StepAnswer w r words words) (sym q) (record { answer = a; unchanged = refl })

-- The step leaves more bindings or entries than there is room for: it is withheld for the reason that the code names.
pub step_withheld_for_room : (words : List ℕ) (C : List Item) (X : List Entry) (E : Environment) (S : Store) (L : List ℕ) (n bindings values control : ℕ) (reason : Reason) →
    bindings ≡ n → values ≡ length X → control ≡ length C → length S ≤ most_cells → Some reason ≡ reason_of_room bindings values control →
    StepAnswer (judge false (goes (state C X E S L n))) (Err reason) words words
step_withheld_for_room words C X E S L n bindings values control reason b v c cells is =
    step_withheld words reason _ _ (judged_over C X E S L n cells reason (is ∙ sizes_are)) refl
  where
    sizes_are : reason_of_room bindings values control ≡ reason_of_room n (length X) (length C)
    sizes_are = rw (b, v, c) refl

-- The words have room as long as none is added or lost.
pub fits_still : (before after : List ℕ) (m m' : Machine) → Fits before m → (regions after m').size ≡ (regions before m).size →
    m'.control ≤ most_control_entries → m'.values ≤ most_value_entries → m'.bindings ≤ most_bindings → m'.cells ≤ most_cells → Fits after m'
unfolding regions
fits_still before after m m' f q a b c d = record { room = omega (arith, f.room, q); few_control = a; few_values = b; few_bindings = c; few_cells = d }
