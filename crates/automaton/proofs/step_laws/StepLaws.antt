-- The item on top of control: where its word stands, and of which sort it is by its word.
use Prim.Native.Nat.{ℕ, suc, ◌+◌, ◌-◌, ◌<◌, ◌≤◌}
use mathlib.Core.Path.{◌≡◌, sym, ap, ◌∙◌, subst}
use mathlib.Core.List.{List, ◌∷◌}
use native.Mathlib.Omega.{arith}
use lib.ListN.{get_or}
use lib.Seq.{get_or-take}
use Rattle.rules.specs.paper.Kinds.{kind_number}
use Rattle.rules.specs.declared.kinds.Kind.TheVariants.{Expression as expression_kind, Command as command_kind, Declaration as declaration_kind, Ref as ref, Abs as abs}
use Rattle.rules.specs.paper.Tree.{Expression, Formal, Command, Block, Declaration}
use Rattle.rules.specs.paper.States.{Environment, Store, Entry, Item, Mark, expression, command, declaration, reference, abstraction, mark}
use Rattle.rules.specs.paper.Rules.{Rule, Effect}
use Rattle.rules.specs.paper.Limits.{most_nodes}
use Rattle.machine.specs.Layout.{top_control, mark_base}
use Rattle.reader.specs.Pack.{packed_kind}
use Rattle.reader.specs.Stored as Stored
use Rattle.reader.specs.NodeKinds.{expression_kind_of, command_kind_of, declaration_kind_of}
use Rattle.reader.proofs.StandingLaws.{expression_root, command_root, declaration_root, root_low}
use Rattle.reader.proofs.NodeKindLaws.{expression_number, command_number, declaration_number, bound_number}
use Rattle.machine.specs.Regions.{stack, regions, with_control}
use Rattle.machine.specs.Represents.{Mode, ControlAs, expression_on, command_on, declaration_on, reference_on, abstraction_on, operator_on, not_on, assign_on, loop_on, conditional_on, ref_on, bind_on, dseq_extend_on, dseq_join_on, extend_on, leave_on, call_on, Models}
use Rattle.machine.specs.Steps.{Ready}
use Rattle.automaton.specs.Runs.{EnabledAt}
use Rattle.machine.specs.declared.Machine.{Machine}
use Rattle.machine.proofs.state_laws.ModelLaws.{sizes}

-- The machine without the top of control.
abbrev pub lowered : Machine → Machine
lowered m =
    record {
      control = m.control - 1;
      values = m.values;
      environment = m.environment;
      declared = m.declared;
      cells = m.cells;
      base = m.base;
      bindings = m.bindings;
    }

pub some_control : (words : List ℕ) (m : Machine) {i : Item} {C : List Item} {X : List Entry} {E : Environment} {S : Store} {L : List ℕ} {n : ℕ} → Models (regions words m) (i ∷ C) X E S L n → 1 ≤ m.control
some_control words m μ = omega (arith, (sizes words m μ).control_height)

stack_top : (base height : ℕ) (words : List ℕ) (k : ℕ) → height ≡ suc k → stack (suc base) height words ≡ get_or words (base + height) 0 ∷ stack (suc base) (height - 1) words
unfolding stack
stack_top base height words k q =
    ap (λ h. stack (suc base) h words) q
    ∙ ap {B = List ℕ} (λ i. get_or words i 0 ∷ stack (suc base) k words) (place q)
    ∙ ap {B = List ℕ} (λ h. get_or words (base + height) 0 ∷ stack (suc base) h words) (less q)
  where
    place : height ≡ suc k → suc base + k ≡ base + height
    place e = omega arith

    less : height ≡ suc k → k ≡ height - 1
    less e = omega arith

-- The regions are those of the lowered machine with the top word on control.
pub taken_off : (words : List ℕ) (m : Machine) → 1 ≤ m.control → regions words m ≡ with_control (get_or words (top_control + m.control) 0) (regions words (lowered m))
unfolding regions
taken_off words m h = rw (stack_top top_control m.control words (m.control - 1) (one_less m.control h))
  where
    one_less : (k : ℕ) → 1 ≤ k → k ≡ suc (k - 1)
    one_less k l = omega arith

-- ---- The item's sort, with the kind of its node.

pub data ItemSort (words : List ℕ) (w : ℕ) : Item → Type 0 where
  expression_sort : {e : Expression} → w < most_nodes → packed_kind (get_or words w 0) ≡ kind_number (expression_kind (expression_kind_of e)) → ItemSort words w (expression e)
  command_sort : {c : Command} → w < most_nodes → packed_kind (get_or words w 0) ≡ kind_number (command_kind (command_kind_of c)) → ItemSort words w (command c)
  declaration_sort : {d : Declaration} → w < most_nodes → packed_kind (get_or words w 0) ≡ kind_number (declaration_kind (declaration_kind_of d)) → ItemSort words w (declaration d)
  reference_sort : {p : ℕ} {e : Expression} → w < most_nodes → packed_kind (get_or words w 0) ≡ kind_number ref → ItemSort words w (reference p e)
  abstraction_sort : {p : ℕ} {fs : List Formal} {b : Block} → w < most_nodes → packed_kind (get_or words w 0) ≡ kind_number abs → ItemSort words w (abstraction p fs b)
  mark_sort : {k : Mark} → mark_base ≤ w → ItemSort words w (mark k)

module _ (words : List ℕ) (m : Machine) where
  -- The tree's word is the work word.
  same_kind : (i k : ℕ) → i < most_nodes → packed_kind (get_or (regions words m).nodes i 0) ≡ k → packed_kind (get_or words i 0) ≡ k
  unfolding regions
  same_kind i k low q = ap packed_kind (sym (get_or-take most_nodes words i 0 low)) ∙ q

  item_sort : {mode : Mode} {w : ℕ} {ws : List ℕ} {i : Item} {C : List Item} → ControlAs (regions words m).nodes mode (w ∷ ws) (i ∷ C) → ItemSort words w i
  item_sort (expression_on s h) = let low = root_low (expression_root s) in expression_sort low (same_kind _ _ low (expression_number s))
  item_sort (command_on s h) = let low = root_low (command_root s) in command_sort low (same_kind _ _ low (command_number s))
  item_sort (declaration_on s h) = let low = root_low (declaration_root s) in declaration_sort low (same_kind _ _ low (declaration_number s))
  item_sort (reference_on (Stored.ref k s) h) = reference_sort k.place_low (same_kind _ _ k.place_low (bound_number (Stored.ref k s)))
  item_sort (abstraction_on (Stored.abs l k f s) h) = abstraction_sort k.place_low (same_kind _ _ k.place_low (bound_number (Stored.abs l k f s)))
  item_sort (operator_on q h) = mark_sort (omega (arith, q))
  item_sort (not_on q h) = mark_sort (omega (arith, q))
  item_sort (assign_on q h) = mark_sort (omega (arith, q))
  item_sort (loop_on q h) = mark_sort (omega (arith, q))
  item_sort (conditional_on q h) = mark_sort (omega (arith, q))
  item_sort (ref_on q h) = mark_sort (omega (arith, q))
  item_sort (bind_on q h) = mark_sort (omega (arith, q))
  item_sort (dseq_extend_on q h) = mark_sort (omega (arith, q))
  item_sort (dseq_join_on q h) = mark_sort (omega (arith, q))
  item_sort (extend_on q h) = mark_sort (omega (arith, q))
  item_sort (leave_on q h) = mark_sort (omega (arith, q))
  item_sort (call_on q x k h) = mark_sort (omega (arith, q))

-- ---- The item taken off control.

pub record Taken (words : List ℕ) (m : Machine) (i : Item) (C : List Item) (X : List Entry) (E : Environment) (S : Store) (L : List ℕ) (n : ℕ) (r : Rule) (e : Effect) : Type 0 where
  pub some_left : 1 ≤ m.control
  pub ready : Ready words (lowered m) (get_or words (top_control + m.control) 0) i C X E S L n r e
  pub sort : ItemSort words (get_or words (top_control + m.control) 0) i

pub taken : (words : List ℕ) (m : Machine) {i : Item} {C : List Item} {X : List Entry} {E : Environment} {S : Store} {L : List ℕ} {n : ℕ} {r : Rule} {e : Effect} →
    EnabledAt words m i C X E S L n r e → Taken words m i C X E S L n r e
taken words m {i} {C} {X} {E} {S} {L} {n} h =
    let f = h.stands.fits in
    let one = some_control words m h.stands.models in
    let top = get_or words (top_control + m.control) 0 in
    let μ = subst (λ κ. Models κ (i ∷ C) X E S L n) (taken_off words m one) h.stands.models in
    record {
      some_left = one;
      ready =
          record {
            fits = record { room = f.room; few_control = omega (arith, f.few_control); few_values = f.few_values; few_bindings = f.few_bindings; few_cells = f.few_cells };
            room = omega (arith, f.few_control, one);
            models = μ;
            applies = h.applies;
            at_extend_mark = h.at_extend_mark;
          };
      sort = item_sort words (lowered m) μ.control_as;
    }
