-- Which state of the automaton the regions hold. A value's label is 1 for a location and 0 for anything else; a row's is its name, its
-- value's label and the pointer of the row below it; a location set is the count of cells there were before its first.
use Rattle.std.specs.Prelude.{ℕ, suc, ◌+◌, ◌*◌, ◌<◌, ◌≤◌, ◌≡◌, Bool, List, [], ◌∷◌, ℤ, length}
use Rattle.std.proofs.Math.Option.{some}
use Rattle.rules.specs.paper.Tree.{Expression, Formal, Command, Block, Declaration, Ref, Abs}
use Rattle.rules.specs.declared.kinds.Operator.{Operator}
use Rattle.rules.specs.paper.Limits.{names, most_parameters, most_nodes}
use Rattle.rules.specs.claims.Listing.{truth_word}
use Rattle.rules.specs.paper.States.{Value, integer, truth, location, Bindable, value, closure, Environment, empty, bound, Cell, Store, Entry, bindable, name, node, environment, locations, operator_mark, not_mark, assign_mark, loop_mark, conditional_mark, ref_mark, bind_mark, dseq_extend_mark, dseq_join_mark, extend_mark, leave_mark, call_mark, Item, expression, command, declaration, reference, abstraction, mark}
use Rattle.machine.specs.Layout.{closure_unit, mark_word, link}
use Rattle.reader.specs.Stored.{StoredExpression, StoredCommand, StoredDeclaration, StoredBound}
use Rattle.integers.specs.Words.{integer_of}
use Rattle.machine.specs.Regions.{Slot, slot_at, Regions}

-- ---- Values, environments and cells.

pub data ValueAs : (label payload : ℕ) → Value → Type 0 where
  integer_as : {w : ℕ} {z : ℤ} → z ≡ integer_of w → w < 18446744073709551616 → ValueAs 0 w (integer z)
  truth_as : {w : ℕ} {b : Bool} → w ≡ truth_word b → ValueAs 0 w (truth b)
  location_as : {l : ℕ} → ValueAs 1 l (location l)

mutual
  -- The rows from one pointer to another are this environment, newest first. A pointer is one more than the number of its row, and 0
  -- is the empty environment's.
  pub data SegmentAs (nodes : List ℕ) (rows : List Slot) : (from to : ℕ) → Environment → Type 0 where
    no_row : {p : ℕ} → SegmentAs nodes rows p p empty
    one_row : {i q to x t : ℕ} {s : Slot} {b : Bindable} {E : Environment} → slot_at i rows ≡ some s → s.label ≡ link x t q → x < names → t < 2 → q ≤ i →
        BindableAs nodes rows t s.payload b → SegmentAs nodes rows q to E → SegmentAs nodes rows (suc i) to (bound x b E)

  -- A closure is the place of its Abs and the pointer of its environment.
  pub data BindableAs (nodes : List ℕ) (rows : List Slot) : (label payload : ℕ) → Bindable → Type 0 where
    value_as : {t w : ℕ} {v : Value} → ValueAs t w v → BindableAs nodes rows t w (value v)
    closure_as : {w d p j f : ℕ} {fs : List Formal} {b : Block} {F : Environment} → w ≡ p + closure_unit * f → p < most_nodes → StoredBound nodes d p j (Abs p fs b) →
        SegmentAs nodes rows f 0 F → BindableAs nodes rows 0 w (closure fs b F)

-- The live cells: each location is the number of cells that are older.
pub data StoreAs : List Slot → Store → Type 0 where
  no_cell : StoreAs [] []
  one_cell : {s : Slot} {cells : List Slot} {c : Cell} {S : Store} → c.where_at ≡ length cells → ValueAs s.label s.payload c.contents → StoreAs cells S → StoreAs (s ∷ cells) (c ∷ S)

-- The cells made since there were so many.
pub data Since (base : ℕ) : ℕ → List ℕ → Type 0 where
  none_since : Since base base []
  one_since : {k : ℕ} {L : List ℕ} → Since base k L → Since base (suc k) (k ∷ L)

-- Some rows with others on top of them.
pub data Extends (older : List Slot) : List Slot → Type 0 where
  no_more : Extends older older
  one_more : {s : Slot} {rows : List Slot} → Extends older rows → Extends older (s ∷ rows)

-- ---- The stacks.

-- How far the declaration of a block just entered is: at its beginning; at the second declaration of a DSeq that began in some stage; or at
-- the end of a declaration that began in some stage, with its names on top of the value stack.
pub data Stage : Type 0 where
  at_block : Stage
  at_second : Stage → Stage
  at_end : Stage → Stage

-- Whether commands run or, in a block just entered, its declaration; with the live bindings that each open block or call goes back to.
pub data Mode : Type 0 where
  running : List ℕ → Mode
  declaring : Stage → ℕ → List ℕ → Mode

-- A node is its place; a mark is its word (Layout.antt).
pub data ControlAs (nodes : List ℕ) : Mode → List ℕ → List Item → Type 0 where
  nothing_left : ControlAs nodes (running []) [] []
  expression_on : {m : Mode} {ws : List ℕ} {C : List Item} {d i j : ℕ} {e : Expression} → StoredExpression nodes d i j e →
      ControlAs nodes m ws C → ControlAs nodes m (i ∷ ws) (expression e ∷ C)
  command_on : {ms : List ℕ} {ws : List ℕ} {C : List Item} {d i j : ℕ} {c : Command} → StoredCommand nodes d i j c →
      ControlAs nodes (running ms) ws C → ControlAs nodes (running ms) (i ∷ ws) (command c ∷ C)
  declaration_on : {g : Stage} {m : ℕ} {ms : List ℕ} {ws : List ℕ} {C : List Item} {d i j : ℕ} {dec : Declaration} → StoredDeclaration nodes d i j dec →
      ControlAs nodes (declaring (at_end g) m ms) ws C → ControlAs nodes (declaring g m ms) (i ∷ ws) (declaration dec ∷ C)
  reference_on : {g : Stage} {m : ℕ} {ms : List ℕ} {ws : List ℕ} {C : List Item} {d i j p : ℕ} {e : Expression} → StoredBound nodes d i j (Ref p e) →
      ControlAs nodes (declaring g m ms) ws C → ControlAs nodes (declaring g m ms) (i ∷ ws) (reference p e ∷ C)
  abstraction_on : {g : Stage} {m : ℕ} {ms : List ℕ} {ws : List ℕ} {C : List Item} {d i j p : ℕ} {fs : List Formal} {b : Block} → StoredBound nodes d i j (Abs p fs b) →
      ControlAs nodes (declaring g m ms) ws C → ControlAs nodes (declaring g m ms) (i ∷ ws) (abstraction p fs b ∷ C)
  operator_on : {m : Mode} {ws : List ℕ} {C : List Item} {w : ℕ} {o : Operator} → w ≡ mark_word (operator_mark o) →
      ControlAs nodes m ws C → ControlAs nodes m (w ∷ ws) (mark (operator_mark o) ∷ C)
  not_on : {m : Mode} {ws : List ℕ} {C : List Item} {w : ℕ} → w ≡ mark_word not_mark → ControlAs nodes m ws C → ControlAs nodes m (w ∷ ws) (mark not_mark ∷ C)
  assign_on : {ms : List ℕ} {ws : List ℕ} {C : List Item} {w : ℕ} → w ≡ mark_word assign_mark →
      ControlAs nodes (running ms) ws C → ControlAs nodes (running ms) (w ∷ ws) (mark assign_mark ∷ C)
  loop_on : {ms : List ℕ} {ws : List ℕ} {C : List Item} {w : ℕ} → w ≡ mark_word loop_mark →
      ControlAs nodes (running ms) ws C → ControlAs nodes (running ms) (w ∷ ws) (mark loop_mark ∷ C)
  conditional_on : {ms : List ℕ} {ws : List ℕ} {C : List Item} {w : ℕ} → w ≡ mark_word conditional_mark →
      ControlAs nodes (running ms) ws C → ControlAs nodes (running ms) (w ∷ ws) (mark conditional_mark ∷ C)
  ref_on : {g : Stage} {m : ℕ} {ms : List ℕ} {ws : List ℕ} {C : List Item} {w : ℕ} → w ≡ mark_word ref_mark →
      ControlAs nodes (declaring g m ms) ws C → ControlAs nodes (declaring g m ms) (w ∷ ws) (mark ref_mark ∷ C)
  bind_on : {g : Stage} {m : ℕ} {ms : List ℕ} {ws : List ℕ} {C : List Item} {w : ℕ} → w ≡ mark_word bind_mark →
      ControlAs nodes (declaring (at_end g) m ms) ws C → ControlAs nodes (declaring g m ms) (w ∷ ws) (mark bind_mark ∷ C)
  dseq_extend_on : {g : Stage} {m : ℕ} {ms : List ℕ} {ws : List ℕ} {C : List Item} {w : ℕ} → w ≡ mark_word dseq_extend_mark →
      ControlAs nodes (declaring (at_second g) m ms) ws C → ControlAs nodes (declaring (at_end g) m ms) (w ∷ ws) (mark dseq_extend_mark ∷ C)
  dseq_join_on : {g : Stage} {m : ℕ} {ms : List ℕ} {ws : List ℕ} {C : List Item} {w : ℕ} → w ≡ mark_word dseq_join_mark →
      ControlAs nodes (declaring (at_end g) m ms) ws C → ControlAs nodes (declaring (at_end (at_second g)) m ms) (w ∷ ws) (mark dseq_join_mark ∷ C)
  extend_on : {m : ℕ} {ms : List ℕ} {ws : List ℕ} {C : List Item} {w : ℕ} → w ≡ mark_word extend_mark →
      ControlAs nodes (running (m ∷ ms)) ws C → ControlAs nodes (declaring (at_end at_block) m ms) (w ∷ ws) (mark extend_mark ∷ C)
  leave_on : {m : ℕ} {ms : List ℕ} {ws : List ℕ} {C : List Item} {w p : ℕ} → w ≡ mark_word (leave_mark p m) →
      ControlAs nodes (running ms) ws C → ControlAs nodes (running (m ∷ ms)) (w ∷ ws) (mark (leave_mark p m) ∷ C)
  call_on : {ms : List ℕ} {ws : List ℕ} {C : List Item} {w p x k : ℕ} → w ≡ mark_word (call_mark p x k) → x < names → k ≤ most_parameters →
      ControlAs nodes (running ms) ws C → ControlAs nodes (running ms) (w ∷ ws) (mark (call_mark p x k) ∷ C)

-- The value stack, by the rows, the count of cells when the running block was entered, the pointer of the names declared last, and the
-- environment with its pointer. Declared names are linked to the environment in which their declaration ran. While the second declaration of
-- a DSeq runs, the names of the first lie on the environment that is kept for it, which they are linked to. Below a location set stand
-- entries that know the older rows alone.
pub data ValuesAs (nodes : List ℕ) : (rows : List Slot) (base declared pointer : ℕ) → Environment → Mode → List Slot → List Entry → Type 0 where
  nothing_on : {rows : List Slot} {base d p : ℕ} {E : Environment} → ValuesAs nodes rows base d p E (running []) [] []
  bindable_on : {rows : List Slot} {base d p : ℕ} {E : Environment} {m : Mode} {s : Slot} {ws : List Slot} {X : List Entry} {b : Bindable} →
      BindableAs nodes rows s.label s.payload b → ValuesAs nodes rows base d p E m ws X → ValuesAs nodes rows base d p E m (s ∷ ws) (bindable b ∷ X)
  name_on : {rows : List Slot} {base d p : ℕ} {E : Environment} {m : Mode} {s : Slot} {ws : List Slot} {X : List Entry} {x : ℕ} →
      s.payload ≡ x → x < names → ValuesAs nodes rows base d p E m ws X → ValuesAs nodes rows base d p E m (s ∷ ws) (name x ∷ X)
  node_on : {rows : List Slot} {base d p : ℕ} {E : Environment} {m : Mode} {s : Slot} {ws : List Slot} {X : List Entry} {depth j : ℕ} {c : Command} →
      StoredCommand nodes depth s.payload j c → ValuesAs nodes rows base d p E m ws X → ValuesAs nodes rows base d p E m (s ∷ ws) (node c ∷ X)
  declared_on : {rows : List Slot} {base d e p m : ℕ} {g : Stage} {ms : List ℕ} {E D : Environment} {s : Slot} {ws : List Slot} {X : List Entry} →
      SegmentAs nodes rows d p D → ValuesAs nodes rows base e p E (declaring g m ms) ws X → ValuesAs nodes rows base d p E (declaring (at_end g) m ms) (s ∷ ws) (environment D ∷ X)
  saved_on : {rows : List Slot} {base d e f p m : ℕ} {g : Stage} {ms : List ℕ} {E D F : Environment} {s u : Slot} {ws : List Slot} {X : List Entry} →
      u.payload ≡ f → SegmentAs nodes rows p f D → SegmentAs nodes rows f 0 F → ValuesAs nodes rows base e f F (declaring g m ms) ws X →
      ValuesAs nodes rows base d p E (declaring (at_second g) m ms) (s ∷ u ∷ ws) (environment D ∷ environment F ∷ X)
  opened_on : {rows older : List Slot} {base b d e p m : ℕ} {ms : List ℕ} {E : Environment} {K : List ℕ} {s : Slot} {ws : List Slot} {X : List Entry} →
      Extends older rows → length older ≡ m → SegmentAs nodes older p 0 E → Since b base K → s.payload ≡ b →
      ValuesAs nodes older b e p E (running ms) ws X → ValuesAs nodes rows base d p E (declaring at_block m ms) (s ∷ ws) (locations K ∷ X)
  frame_on : {rows older : List Slot} {base b d e p f m : ℕ} {ms : List ℕ} {E F : Environment} {K : List ℕ} {s u : Slot} {ws : List Slot} {X : List Entry} →
      s.payload ≡ f → Extends older rows → length older ≡ m → SegmentAs nodes older f 0 F → Since b base K → u.payload ≡ b →
      ValuesAs nodes older b e f F (running ms) ws X → ValuesAs nodes rows base d p E (running (m ∷ ms)) (s ∷ u ∷ ws) (environment F ∷ locations K ∷ X)

-- ---- The state.

-- All of a state but control, in a mode.
pub record Beside (κ : Regions) (mode : Mode) (X : List Entry) (E : Environment) (S : Store) (L : List ℕ) (n : ℕ) : Type 0 where
  pub values_as : ValuesAs κ.nodes κ.rows κ.base κ.declared κ.environment E mode κ.values X
  pub environment_as : SegmentAs κ.nodes κ.rows κ.environment 0 E
  pub store_as : StoreAs κ.cells S
  pub locations_as : Since κ.base (length κ.cells) L
  pub bindings_as : n ≡ length κ.rows

pub record Models (κ : Regions) (C : List Item) (X : List Entry) (E : Environment) (S : Store) (L : List ℕ) (n : ℕ) : Type 0 where
  pub mode : Mode
  pub control_as : ControlAs κ.nodes mode κ.control C
  pub values_as : ValuesAs κ.nodes κ.rows κ.base κ.declared κ.environment E mode κ.values X
  pub environment_as : SegmentAs κ.nodes κ.rows κ.environment 0 E
  pub store_as : StoreAs κ.cells S
  pub locations_as : Since κ.base (length κ.cells) L
  pub bindings_as : n ≡ length κ.rows
