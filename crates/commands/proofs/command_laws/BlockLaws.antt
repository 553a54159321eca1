-- The rule of Blk: the location set is saved on the value stack and becomes empty; the declaration, the first mark, the command and the
-- second mark go on control.
use Prim.Native.Nat.{ℕ, ◌+◌, ◌<◌, ◌≤◌}
use mathlib.Core.Path.{◌≡◌, refl, sym, ap, ◌∙◌, subst}
use mathlib.Core.Bool.{false}
use mathlib.Core.List.{List, [], ◌∷◌, ◌++◌}
use native.Mathlib.Omega.{arith}
use lib.ListN.{length, get_or}
use Rattle.std.specs.Prelude.{Ok, Err, Some}
use Rattle.rules.specs.declared.refusals.Reason.{Reason}
use Rattle.rules.specs.paper.Tree.{Command, block, Blk, Declaration}
use Rattle.rules.specs.paper.States.{Environment, Store, Entry, locations, Item, command, declaration, mark, extend_mark, leave_mark, state}
use Rattle.rules.specs.paper.Rules.{Rule, Effect, goes, Table}
use Rattle.rules.specs.paper.Rules as Rules
use Rattle.rules.specs.paper.Run.{judge}
use Rattle.rules.specs.paper.Limits.{most_nodes, most_value_entries}
use Rattle.machine.specs.Layout.{cell_payloads, cell_labels, mark_word, leave_word}
use Rattle.reader.specs.Pack.{packed_end}
use Rattle.reader.specs.Stored.{StoredCommand, block_of, blk, StoredDeclaration}
use Rattle.machine.specs.Regions.{slot, Regions, regions, Fits, with_controls, with_values, raised_values}
use Rattle.machine.specs.Represents.{Since, none_since, no_more, at_block, declaring, declaration_on, command_on, extend_on, leave_on, opened_on, Models}
use Rattle.machine.specs.Steps.{StepAnswer, Applicable, Steps}
use Rattle.machine.specs.declared.Machine.{Machine}
use Rattle.machine.proofs.memory_laws.RegionLaws.{slots_length}
use Rattle.machine.specs.Room.{reason_of_room}
use Rattle.machine.proofs.state_laws.ModelLaws.{with_items, beside_sizes, sizes, step_made, step_withheld_for_room}
use Rattle.machine.proofs.stack_laws.SharedLaws.{value_fits}
use Rattle.reader.proofs.StandingLaws.{after_node, declaration_root}
use Rattle.machine.proofs.state_laws.ItemLaws.{RunningTop, node_end, command_top}

-- ---- The tree.

record BlockAt (nodes : List ℕ) (i : ℕ) (d : Declaration) (c : Command) : Type 0 where
  depth : ℕ
  middle : ℕ
  next : ℕ
  declared : StoredDeclaration nodes depth (i + 1) middle d
  body : StoredCommand nodes depth middle next c

block_at : {nodes : List ℕ} {h i j p : ℕ} {d : Declaration} {c : Command} → StoredCommand nodes h i j (block (Blk p d c)) → BlockAt nodes i d c
block_at {nodes} {d = dec} (block_of (blk {d = d} {i = i} {j = j} {k = k} h a b)) =
    record { depth = d; middle = j; next = k; declared = subst (λ l. StoredDeclaration nodes d l j dec) (after_node i) a; body = b }

block_effect : {C : List Item} {E : Environment} {S : Store} {L : List ℕ} {n : ℕ} {r : Rule} {p : ℕ} {d : Declaration} {c : Command} {X : List Entry} {f : Effect} →
    Table C E S L n r (command (block (Blk p d c))) X f →
    goes (state (declaration d ∷ mark extend_mark ∷ command c ∷ mark (leave_mark p n) ∷ C) (locations L ∷ X) E S [] n) ≡ f
block_effect Rules.blk = refl

-- The declaration's place is a node's.
pub block_low : (words : List ℕ) (m : Machine) (i : ℕ) (d : Declaration) (c : Command) → Applicable words m i (command (block (Blk i d c))) →
    i + 1 < most_nodes
block_low words m i d c a = (declaration_root
    (block_at (command_top (regions words m) i (block (Blk i d c)) a.ready.models).stored).declared).word.place_low

-- ---- The machine of the block.

-- No cell is made yet.
abbrev pub opened : Machine → Machine
opened m =
    record {
      control = m.control;
      values = m.values;
      environment = m.environment;
      declared = m.declared;
      cells = m.cells;
      base = m.cells;
      bindings = m.bindings;
    }

abbrev opened_at : ℕ → Regions → Regions
opened_at base κ =
    record {
      nodes = κ.nodes;
      control = κ.control;
      values = κ.values;
      rows = κ.rows;
      cells = κ.cells;
      environment = κ.environment;
      declared = κ.declared;
      base = base;
      beyond = κ.beyond;
      size = κ.size;
    }

opened_regions : (words : List ℕ) (m : Machine) → regions words (opened m) ≡ opened_at m.cells (regions words m)
unfolding regions
opened_regions words m = refl

cells_counted : (words : List ℕ) (m : Machine) → length (regions words m).cells ≡ m.cells
unfolding regions
cells_counted words m = slots_length cell_labels cell_payloads m.cells words

base_is : (words : List ℕ) (m : Machine) → m.base ≡ (regions words m).base
unfolding regions
base_is words m = refl

opened_fits : {words : List ℕ} {m : Machine} → Fits words m → Fits words (opened m)
opened_fits f = record {
  room = f.room;
  few_control = f.few_control;
  few_values = f.few_values;
  few_bindings = f.few_bindings;
  few_cells = f.few_cells;
}

-- ---- The answers.

pub block_withheld : (words : List ℕ) (m : Machine) (i : ℕ) (reason : Reason) → Some reason ≡ reason_of_room m.bindings (m.values + 1)
    (m.control + 4) →
    (d : Declaration) (c : Command) → Steps words m i (command (block (Blk i d c))) (Err reason) words
block_withheld words m i reason is d c C X E S L n rule f ready =
    let t = command_top (regions words m) i (block (Blk i d c)) ready.models in
    let z = sizes words m (with_items t.control_as t.rest) in
    let fits = ready.fits in
    subst (λ g. StepAnswer (judge false g) (Err reason) words words) (block_effect ready.applies)
    (step_withheld_for_room words (declaration d ∷ mark extend_mark ∷ command c ∷ mark (leave_mark i n) ∷ C) (locations L ∷ X) E S [] n m.bindings
    (m.values + 1) (m.control + 4) reason
    (omega (arith, z.bindings_height)) (omega (arith, z.values_height)) (omega (arith, z.control_height))
    (omega (arith, z.cells_height, fits.few_cells)) is)

-- What `enter_block` does.
module _ (words : List ℕ) (m : Machine) (fits : Fits words m) (few : m.values + 1 ≤ most_value_entries) (saved : List ℕ) (u : Machine)
    (q : u ≡ raised_values m)
    (e : regions saved (raised_values m) ≡ with_values (slot 0 m.base ∷ (regions words m).values) (regions words m)) where
  pub fits_opened : Fits saved (opened u)
  fits_opened = opened_fits (value_fits words m fits saved u few q e)

  bindings_kept : u.bindings ≡ m.bindings
  bindings_kept = ap (λ k. k.bindings) q

  cells_kept : u.cells ≡ m.cells
  cells_kept = ap (λ k. k.cells) q

  abbrev saved_regions : Regions
  saved_regions = opened_at u.cells (with_values (slot 0 m.base ∷ (regions words m).values) (regions words m))

  all : regions saved (opened u) ≡ saved_regions
  all = opened_regions saved u ∙ ap (opened_at u.cells) (ap (regions saved) q ∙ e)

  abbrev four : (i body : ℕ) → List ℕ
  four i body = (i + 1) ∷ mark_word extend_mark ∷ body ∷ leave_word u.bindings ∷ []

  pub block_made : (i body : ℕ) (r : Machine) (after : List ℕ) → body ≡ packed_end (get_or words (i + 1) 0) → Fits after r →
      regions after r ≡ with_controls (four i body ++ (regions saved (opened u)).control) (regions saved (opened u)) →
      (d : Declaration) (c : Command) → Steps words m i (command (block (Blk i d c))) (Ok r) after
  block_made i body r after place after_fits put d c C X E S L n rule f ready =
      subst (λ g. StepAnswer (judge false g) (Ok r) words after) (block_effect ready.applies)
      (step_made words after m r (Ok r) (declaration d ∷ mark extend_mark ∷ command c ∷ mark (leave_mark i n) ∷ C)
      (locations L ∷ X) E S [] n refl after_fits
      (subst (λ κ. Models κ (declaration d ∷ mark extend_mark ∷ command c ∷ mark (leave_mark i n) ∷ C) (locations L ∷ X) E S [] n) (sym after_are)
      (record {
        mode = declaring at_block n top.blocks;
        control_as =
            declaration_on tree.declared
            (extend_on refl
            (command_on (subst (λ l. StoredCommand (regions words m).nodes tree.depth l tree.next c) (sym body_is) tree.body)
            (leave_on (ap (λ l. leave_word l) (bindings_kept ∙ sym bindings_are)) top.control_as)));
        values_as = opened_on no_more (sym top.rest.bindings_as) top.rest.environment_as
            (subst (λ l. Since (regions words m).base l L) cells_are top.rest.locations_as) (base_is words m) top.rest.values_as;
        environment_as = top.rest.environment_as;
        store_as = top.rest.store_as;
        locations_as = subst (λ l. Since u.cells l []) (sym cells_are) none_since;
        bindings_as = top.rest.bindings_as;
      }))
      (ap (λ κ. κ.nodes) after_are) (ap (λ κ. κ.beyond) after_are) (ap (λ κ. κ.size) after_are))
    where
      top : RunningTop (regions words m) (λ k j. StoredCommand (regions words m).nodes k i j (block (Blk i d c))) C X E S L n
      top = command_top (regions words m) i (block (Blk i d c)) ready.models

      tree : BlockAt (regions words m).nodes i d c
      tree = block_at top.stored

      body_is : body ≡ tree.middle
      body_is = place ∙ node_end words m (declaration_root tree.declared)

      cells_are : length (regions words m).cells ≡ u.cells
      cells_are = cells_counted words m ∙ sym cells_kept

      bindings_are : n ≡ m.bindings
      bindings_are = (beside_sizes words m top.rest).bindings_height

      after_are : regions after r ≡ with_controls (four i body ++ (regions words m).control) saved_regions
      after_are = put ∙ ap (λ κ. with_controls (four i body ++ κ.control) κ) all
