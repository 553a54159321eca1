-- What a call does to the regions: a row for each Formal, and the frame that it saves.
use Rattle.std.specs.Prelude.{ℕ, ◌+◌, ◌-◌, ◌≡◌, List, ◌∷◌, length}
use Rattle.std.proofs.Math.Option.{some}
use Rattle.rules.specs.paper.Tree.{Formal}
use Rattle.rules.specs.paper.States.{Environment, Entry}
use Rattle.rules.specs.paper.Rules.{Matched, match_formals}
use Rattle.reader.specs.Stored.{StoredFormals}
use Rattle.machine.specs.Regions.{Slot, slot, Regions, regions, with_control, with_values}
use Rattle.machine.specs.Represents.{SegmentAs, Extends, Mode, ValuesAs}
use Rattle.machine.specs.declared.Machine.{Machine}

-- Other rows, another value stack, and another environment.
abbrev pub with_bound : (rows values : List Slot) (environment : ℕ) → Regions → Regions
with_bound rows values environment κ =
    record {
      nodes = κ.nodes;
      control = κ.control;
      values = values;
      rows = rows;
      cells = κ.cells;
      environment = environment;
      declared = κ.declared;
      base = κ.base;
      beyond = κ.beyond;
      size = κ.size;
    }

-- The machine with so many rows more, the values of which were taken off the value stack, and this environment.
abbrev pub machine_with_formals : (count environment : ℕ) → Machine → Machine
machine_with_formals count environment m =
    record {
      control = m.control;
      values = m.values - count;
      environment = environment;
      declared = m.declared;
      cells = m.cells;
      base = m.base;
      bindings = m.bindings + count;
    }

-- The Formals from one place to another are left to be bound; the actuals for them are on the value stack, of which the older rows are
-- all that it knows; and the environment is the one that the Formals bound so far were added to.
pub record Binding (κ : Regions) (base declared pointer : ℕ) (E : Environment) (mode : Mode) (M : Matched) (now : Regions)
    (formal block : ℕ) : Type 0 where
  pub rows : List Slot
  pub values : List Slot
  pub made_pointer : ℕ
  pub formals : List Formal
  pub actuals : List Entry
  pub made : Environment
  pub regions_are : now ≡ with_bound rows values made_pointer κ
  pub extends : Extends κ.rows rows
  pub matches : match_formals (length formals) formals actuals made ≡ some M
  pub stored : StoredFormals κ.nodes formal block formals
  pub segment : SegmentAs κ.nodes rows made_pointer 0 made
  pub values_as : ValuesAs κ.nodes κ.rows base declared pointer E mode values actuals

-- There are Formals to bind and actuals for them.
pub record CanBind (words : List ℕ) (m : Machine) (formal block : ℕ) : Type 0 where
  pub base : ℕ
  pub declared : ℕ
  pub pointer : ℕ
  pub environment : Environment
  pub mode : Mode
  pub matched : Matched
  pub start : Binding (regions words m) base declared pointer environment mode matched (regions words m) formal block

-- They are all bound.
abbrev pub Binds : (before : List ℕ) → Machine → (formal block : ℕ) → Machine → (after : List ℕ) → Type 0
Binds before m formal block answer after =
    (base declared pointer : ℕ) (E : Environment) (mode : Mode) (M : Matched) →
    Binding (regions before m) base declared pointer E mode M (regions before m) formal block →
    Binding (regions before m) base declared pointer E mode M (regions after answer) block block

-- A call's frame: the caller's location set and environment on the value stack, and on control the block over its second mark.
abbrev pub with_frame : (base environment below top : ℕ) → Regions → Regions
with_frame base environment below top κ = with_control top (with_control below (with_values (slot 0 environment ∷ slot 0 base ∷ κ.values) κ))
