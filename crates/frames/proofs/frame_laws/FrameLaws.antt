-- What the marks of declarations, blocks and calls share: the machine with other pointers, the parts of the work words by number, and
-- declared names on the value stack.
use Prim.Native.Nat.{ℕ, ◌-◌, ◌<◌}
use mathlib.Core.Path.{◌≡◌, refl, sym, ap, ◌∙◌, subst}
use mathlib.Core.Bool.{false}
use mathlib.Core.List.{List, ◌∷◌}
use native.Mathlib.Omega.{arith}
use lib.ListN.{length}
use Rattle.rules.specs.paper.States.{Bindable, Environment, Entry, environment}
use Rattle.rules.specs.paper.Rules.{Effect}
use Rattle.rules.specs.paper.Run.{judge}
use Rattle.machine.specs.Layout.{row_labels, row_payloads, cell_payloads, cell_labels}
use Rattle.machine.specs.Regions.{Slot, Regions, regions, with_values}
use Rattle.machine.specs.Represents.{integer_as, truth_as, location_as, SegmentAs, BindableAs, value_as, closure_as, Stage, at_end, Mode, declaring, ValuesAs, declared_on}
use Rattle.machine.specs.Steps.{StepAnswer}
use Rattle.machine.specs.declared.Machine.{Machine}
use Rattle.std.specs.Prelude.{Result}
use Rattle.machine.proofs.memory_laws.RegionLaws.{slots_length}
use Rattle.machine.proofs.state_laws.TopLaws.{at_height, one_on_top}
use Rattle.rules.specs.declared.refusals.Reason.{Reason}

-- ---- The machine with other pointers.

abbrev pub pointed : (environment declared base : ℕ) → Machine → Machine
pointed e d b m =
    record { control = m.control; values = m.values; environment = e; declared = d; cells = m.cells; base = b; bindings = m.bindings }

abbrev pub with_pointers : (environment declared base : ℕ) → Regions → Regions
with_pointers e d b κ =
    record {
      nodes = κ.nodes;
      control = κ.control;
      values = κ.values;
      rows = κ.rows;
      cells = κ.cells;
      environment = e;
      declared = d;
      base = b;
      beyond = κ.beyond;
      size = κ.size;
    }

pub regions_declared : (words : List ℕ) (m : Machine) (d : ℕ) → regions words (pointed m.environment d m.base m) ≡ with_pointers
    (regions words m).environment d (regions words m).base (regions words m)
unfolding regions
regions_declared words m d = refl

pub regions_environment : (words : List ℕ) (m : Machine) (e : ℕ) → regions words (pointed e m.declared m.base m) ≡ with_pointers e
    (regions words m).declared (regions words m).base (regions words m)
unfolding regions
regions_environment words m e = refl

pub rows_height : (words : List ℕ) (m : Machine) → length (regions words m).rows ≡ m.bindings
unfolding regions
rows_height words m = slots_length row_labels row_payloads m.bindings words

pub cells_height : (words : List ℕ) (m : Machine) → length (regions words m).cells ≡ m.cells
unfolding regions
cells_height words m = slots_length cell_labels cell_payloads m.cells words

pub environment_is : (words : List ℕ) (m : Machine) → (regions words m).environment ≡ m.environment
unfolding regions
environment_is words m = refl

pub declared_is : (words : List ℕ) (m : Machine) → (regions words m).declared ≡ m.declared
unfolding regions
declared_is words m = refl

pub base_is : (words : List ℕ) (m : Machine) → (regions words m).base ≡ m.base
unfolding regions
base_is words m = refl

-- The machine without the declared names on the value stack, and with them in the environment.
abbrev pub joined : Machine → Machine
joined m = pointed m.declared m.declared m.base (at_height (m.values - 1) m)

pub joined_regions : (words : List ℕ) (m : Machine) (s : Slot) (ws : List Slot) → (regions words m).values ≡ s ∷ ws →
    regions words (joined m) ≡ with_pointers (regions words m).declared (regions words m).declared (regions words m).base
    (with_values ws (regions words m))
joined_regions words m s ws q =
    regions_environment words (at_height (m.values - 1) m) m.declared
    ∙ ap (λ κ. with_pointers m.declared κ.declared κ.base κ) (one_on_top words m s ws q).popped
    ∙ ap (λ d. with_pointers d (regions words m).declared (regions words m).base (with_values ws (regions words m))) (sym (declared_is words m))

-- The answer to the effect that a mark was found to have.
pub answered : {e f : Effect} (answer : Result Machine Reason) (before after : List ℕ) → e ≡ f → StepAnswer (judge false f) answer before after →
    StepAnswer (judge false e) answer before after
answered answer before after q h = subst (λ g. StepAnswer (judge false g) answer before after) (sym q) h

-- ---- On the value stack.

-- A label is 0 or 1.
pub value_label_low : {t w : ℕ} {nodes : List ℕ} {rows : List Slot} {b : Bindable} → BindableAs nodes rows t w b → t < 2
value_label_low (value_as (integer_as q l)) = omega arith
value_label_low (value_as (truth_as q)) = omega arith
value_label_low (value_as location_as) = omega arith
value_label_low (closure_as q l h e) = omega arith

-- The names of a declaration that has ended, on the value stack: they are linked to the environment.
pub record DeclaredTop (nodes : List ℕ) (rows : List Slot) (base d p : ℕ) (E : Environment) (mode : Mode) (all : List Slot) (D : Environment)
    (X : List Entry) : Type 0 where
  pub top : Slot
  pub rest : List Slot
  pub are : all ≡ top ∷ rest
  pub outer_declared : ℕ
  pub segment : SegmentAs nodes rows d p D
  pub below : ValuesAs nodes rows base outer_declared p E mode rest X

pub declared_top : {nodes : List ℕ} {rows : List Slot} {base d p m : ℕ} {g : Stage} {E D : Environment} {ms : List ℕ} {all : List Slot} {X : List Entry} →
    ValuesAs nodes rows base d p E (declaring (at_end g) m ms) all (environment D ∷ X) → DeclaredTop nodes rows base d p E (declaring g m ms) all D X
declared_top (declared_on {e = e} {s = s} {ws = ws} g h) = record { top = s; rest = ws; are = refl; outer_declared = e; segment = g; below = h }
