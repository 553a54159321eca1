-- The rules of Id, DeRef and ValRef: the name's row, the cells that it leads to, and the value that goes on the stack.
use Prim.Native.Nat.{ℕ, ◌+◌, ◌/◌, ◌%◌, ◌<◌}
use mathlib.Core.Path.{◌≡◌, refl, sym, ap, ◌∙◌, subst}
use mathlib.Core.Bool.{Bool, true, false, cond}
use mathlib.Core.List.{List, ◌∷◌}
use mathlib.Core.Option.{some, some-injective}
use native.Mathlib.Omega.{arith}
use lib.Dec.{eqb}
use lib.ListN.{length, get_or}
use Rattle.rules.proofs.Basics.{missing}
use Rattle.rules.specs.paper.Tree.{Expression, Id, DeRef, ValRef}
use Rattle.rules.specs.paper.States.{Value, location, Bindable, value, Environment, lookup, Store, find, Entry, Item, expression}
use Rattle.rules.specs.paper.Rules.{Rule, Effect, IsPlain, Table, id_plain, id_cell, deref, valref}
use Rattle.rules.specs.paper.Run.{judge}
use Rattle.rules.specs.paper.Limits.{most_cells, most_bindings}
use Rattle.machine.specs.Layout.{row_labels, row_payloads, cell_payloads, cell_labels, link}
use Rattle.reader.specs.Pack.{packed_operand}
use Rattle.reader.specs.Stored.{StoredExpression}
use Rattle.reader.proofs.StoredFields.{operand_is}
use Rattle.reader.specs.Stored as Stored
use Rattle.machine.specs.Regions.{Slot, slot_at, regions, Fits}
use Rattle.machine.specs.Represents.{ValueAs, integer_as, truth_as, location_as, SegmentAs, BindableAs, value_as, StoreAs, no_cell, one_cell, Models}
use Rattle.expressions.specs.Named.{Named, by_id, by_deref, by_valref}
use Rattle.machine.specs.Lookup.{RowOf}
use Rattle.machine.specs.Steps.{StepAnswer, Ready, Applicable, Steps, Pushes}
use Rattle.machine.specs.declared.Machine.{Machine}
use Rattle.std.specs.Prelude.{Result}
use Rattle.machine.proofs.memory_laws.RegionLaws.{slots_length}
use Rattle.machine.proofs.memory_laws.LookupLaws.{slot_words}
use Rattle.machine.proofs.state_laws.NodeLaws.{node_word, ExpressionTop, expression_top}
use Rattle.rules.specs.declared.refusals.Reason.{Reason}

-- ---- Values by their labels.

pub record OfLocation (label payload l : ℕ) : Type 0 where
  pub label_is : label ≡ 1
  pub payload_is : payload ≡ l

pub location_value : {t p l : ℕ} → ValueAs t p (location l) → OfLocation t p l
location_value location_as = record { label_is = refl; payload_is = refl }

pub bound_value : {nodes : List ℕ} {rows : List Slot} {t p : ℕ} {v : Value} → BindableAs nodes rows t p (value v) → ValueAs t p v
bound_value (value_as h) = h

plain_value : {t p : ℕ} {v : Value} → IsPlain v → ValueAs t p v → t ≡ 0
plain_value plain (integer_as q l) = refl
plain_value plain (truth_as q) = refl
plain_value plain location_as = absurd plain

link_label : (x t q : ℕ) → x < 64 → t < 2 → link x t q / 64 % 2 ≡ t
link_label x t q h g = omega arith

-- ---- The cell at a location.

pub record CellOf (cells : List Slot) (l : ℕ) (v : Value) : Type 0 where
  pub cell : Slot
  pub at : slot_at l cells ≡ some cell
  pub holds : ValueAs cell.label cell.payload v

pub cell_of : {cells : List Slot} {S : Store} (l : ℕ) (v : Value) → StoreAs cells S → find l S ≡ some v → CellOf cells l v
unfolding find slot_at
cell_of l v no_cell q = missing q
cell_of l v (one_cell {s = s} {cells = cells} {c = c} {S = S} e h older) q =
    choose (eqb (length cells) l) refl (subst (λ k. cond (eqb k l) (some c.contents) (find l S) ≡ some v) e q) (cell_of l v older)
  where
    choose : (t : Bool) → eqb (length cells) l ≡ t → cond t (some c.contents) (find l S) ≡ some v → (find l S ≡ some v → CellOf cells l v) →
        CellOf (s ∷ cells) l v
    choose true u p rest = record { cell = s; at = rw u; holds = subst (ValueAs s.label s.payload) (some-injective c.contents v p) h }
    choose false u p rest = let o = rest p in record { cell = o.cell; at = rw u o.at; holds = o.holds }

-- Its words.
pub record CellWords (words : List ℕ) (l : ℕ) (v : Value) : Type 0 where
  pub within : l < most_cells
  pub holds : ValueAs (get_or words (cell_labels + l) 0) (get_or words (cell_payloads + l) 0) v

pub cell_words : (words : List ℕ) (m : Machine) {S : Store} (l : ℕ) (v : Value) → Fits words m → StoreAs (regions words m).cells S →
    find l S ≡ some v → CellWords words l v
unfolding regions
cell_words words m l v f s q =
    let c = cell_of l v s q in
    let w = slot_words cell_labels cell_payloads m.cells words l c.cell c.at in
    record {
      within = omega (arith, w.within, f.few_cells);
      holds = subst (λ t. ValueAs t (get_or words (cell_payloads + l) 0) v) w.label_word
          (subst (λ p. ValueAs c.cell.label p v) w.payload_word c.holds);
    }

-- The words that the code reads are those of the cell at the location.
cell_at : (words : List ℕ) (m : Machine) {S : Store} (read l : ℕ) (v : Value) → Fits words m → StoreAs (regions words m).cells S → read ≡ l →
    find l S ≡ some v →
    CellWords words read v
cell_at words m {S} read l v f s e q = cell_words words m read v f s (subst (λ k. find k S ≡ some v) (sym e) q)

read_value : {words : List ℕ} {read t p : ℕ} {v : Value} → t ≡ get_or words (cell_labels + read) 0 → p ≡ get_or words (cell_payloads + read) 0 →
    CellWords words read v → ValueAs t p v
read_value {words} {read} {t} {p} {v} tq pq c = subst (λ u. ValueAs u p v) (sym tq)
    (subst (λ u. ValueAs (get_or words (cell_labels + read) 0) u v) (sym pq) c.holds)

-- ---- The expressions that look up a name.

operand_name : (words : List ℕ) (m : Machine) {d i j p x : ℕ} {e : Expression} → Named p x e →
    StoredExpression (regions words m).nodes d i j e → packed_operand (get_or words i 0) ≡ x
operand_name words m by_id (Stored.id l h) = operand_is (node_word words m h) (omega arith)
operand_name words m by_deref (Stored.deref l h) = operand_is (node_word words m h) (omega arith)
operand_name words m by_valref (Stored.valref l h) = operand_is (node_word words m h) (omega arith)

bound_name : {C : List Item} {E : Environment} {S : Store} {L : List ℕ} {n : ℕ} {r : Rule} {X : List Entry} {f : Effect} {p x : ℕ} {e : Expression} →
    Named p x e → Table C E S L n r (expression e) X f → (b : Bindable) × (lookup x E ≡ some b)
bound_name by_id (id_plain {v = v} p q) = (value v, q)
bound_name by_id (id_cell {l = l} q c) = (value (location l), q)
bound_name by_deref (deref {l = l} q) = (value (location l), q)
bound_name by_valref (valref {l = l} q c d) = (value (location l), q)

module _ (words : List ℕ) (m : Machine) (w name : ℕ) (operand : name ≡ packed_operand (get_or words w 0)) where
  module _ {C : List Item} {X : List Entry} {E : Environment} {S : Store} {L : List ℕ} {n : ℕ} {r : Rule} {f : Effect} (x : ℕ) (e : Expression)
      (named : Named w x e)
      (ready : Ready words m w (expression e) C X E S L n r f) where
    top : ExpressionTop (regions words m) w e C X E S L n
    top = expression_top (regions words m) w e ready.models

    chain : SegmentAs (regions words m).nodes (regions words m).rows m.environment 0 E
    unfolding regions
    chain = top.lowered.environment_as

    named_alike : (b : Bindable) → lookup x E ≡ some b → lookup name E ≡ some b
    named_alike b q = subst (λ y. lookup y E ≡ some b) (sym (operand ∙ operand_name words m named top.stored)) q

  -- What `row_of` asks for.
  pub name_bound : (x : ℕ) (e : Expression) → Named w x e → Applicable words m w (expression e) →
      (nodes : List ℕ) × (E : Environment) × (b : Bindable) × SegmentAs nodes (regions words m).rows m.environment 0 E × (lookup name E ≡ some b)
  name_bound x e named a =
      let b = bound_name named a.ready.applies in
      ((regions words m).nodes, a.environment, b.0, chain x e named a.ready, named_alike x e named a.ready b.0 b.1)

  -- What `row_of` gives.
  module _ (row : ℕ) (found : (nodes : List ℕ) (E : Environment) (b : Bindable) → SegmentAs nodes (regions words m).rows m.environment 0 E →
      lookup name E ≡ some b →
      RowOf nodes (regions words m).rows name b row (get_or words (row_labels + row) 0) (get_or words (row_payloads + row) 0)) where
    abbrev label : ℕ
    label = get_or words (row_labels + row) 0

    abbrev bound : ℕ
    bound = get_or words (row_payloads + row) 0

    abbrev NameRow : Bindable → Type 0
    NameRow b = RowOf (regions words m).nodes (regions words m).rows name b row label bound

    row_for : {C : List Item} {X : List Entry} {E : Environment} {S : Store} {L : List ℕ} {n : ℕ} {r : Rule} {f : Effect} (x : ℕ) (e : Expression) →
        Named w x e →
        Ready words m w (expression e) C X E S L n r f → (b : Bindable) → lookup x E ≡ some b → NameRow b
    row_for {E = E} x e named ready b q = found (regions words m).nodes E b (chain x e named ready) (named_alike x e named ready b q)

    rows_low : (b : Bindable) → Fits words m → NameRow b → row < most_bindings
    unfolding regions
    rows_low b f h = omega (arith, h.within, slots_length row_labels row_payloads m.bindings words, f.few_bindings)

    pub name_row_low : (x : ℕ) (e : Expression) → Named w x e → Applicable words m w (expression e) → row < most_bindings
    name_row_low x e named a = let b = bound_name named a.ready.applies in rows_low b.0 a.ready.fits (row_for x e named a.ready b.0 b.1)

    -- The row's label and payload are those of what the name is bound to.
    record Row (t : ℕ) (v : Value) : Type 0 where
      pub label_of : label / 64 % 2 ≡ t
      pub bound_as : ValueAs t bound v

    value_row : (v : Value) → NameRow (value v) → (t : ℕ) × Row t v
    value_row v h = (
      h.value_label,
      record {
        label_of = ap (λ k. k / 64 % 2) h.label_is ∙ link_label name h.value_label h.pointer h.name_low h.value_label_low;
        bound_as = bound_value h.bound_to;
      },
    )

    record LocationRow (l : ℕ) : Type 0 where
      pub marked : label / 64 % 2 ≡ 1
      pub bound_is : bound ≡ l

    location_row : (l : ℕ) → NameRow (value (location l)) → LocationRow l
    location_row l h =
        let r = value_row (location l) h in
        let o = location_value r.1.bound_as in
        record { marked = r.1.label_of ∙ o.label_is; bound_is = o.payload_is }

    record PlainRow (v : Value) : Type 0 where
      pub unmarked : label / 64 % 2 ≡ 0
      pub bound_as : ValueAs 0 bound v

    plain_row : (v : Value) → IsPlain v → NameRow (value v) → PlainRow v
    plain_row v plain h =
        let r = value_row v h in
        let z = plain_value plain r.1.bound_as in
        record { unmarked = r.1.label_of ∙ z; bound_as = subst (λ t. ValueAs t bound v) z r.1.bound_as }

    -- ---- Id.

    pub id_cell_low : (x : ℕ) → Applicable words m w (expression (Id w x)) → (label / 64 % 2 ≡ 0 → ⊥) → bound < most_cells
    id_cell_low x a marked = by a.ready.applies (row_for x (Id w x) by_id a.ready) (top x (Id w x) by_id a.ready).lowered
      where
        by : {C : List Item} {X : List Entry} {E : Environment} {S : Store} {L : List ℕ} {n : ℕ} {r : Rule} {f : Effect} →
            Table C E S L n r (expression (Id w x)) X f →
            ((b : Bindable) → lookup x E ≡ some b → NameRow b) → Models (regions words m) C X E S L n → bound < most_cells
        by (id_plain {v = v} plain q) rows μ = absurd (marked (plain_row v plain (rows (value v) q)).unmarked)
        by (id_cell {l = l} {v = v} q c) rows μ =
            (cell_at words m bound l v a.ready.fits μ.store_as (location_row l (rows (value (location l)) q)).bound_is c).within

    -- ---- ValRef: the cell that the name is bound to has the location of the cell that is read.

    record Shown (v : Value) : Type 0 where
      pub outer_low : bound < most_cells
      pub inner : (shown : ℕ) → shown ≡ get_or words (cell_payloads + bound) 0 → CellWords words shown v

    shown_cell : {S : Store} (l k : ℕ) (v : Value) → Fits words m → StoreAs (regions words m).cells S → NameRow (value (location l)) →
        find l S ≡ some (location k) → find k S ≡ some v → Shown v
    shown_cell l k v f s h q g =
        let outer = cell_at words m bound l (location k) f s (location_row l h).bound_is q in
        record { outer_low = outer.within; inner = λ shown e. cell_at words m shown k v f s (e ∙ (location_value outer.holds).payload_is) g }

    some_shown : (x : ℕ) → Applicable words m w (expression (ValRef w x)) → (v : Value) × Shown v
    some_shown x a = by a.ready.applies (row_for x (ValRef w x) by_valref a.ready) (top x (ValRef w x) by_valref a.ready).lowered
      where
        by : {C : List Item} {X : List Entry} {E : Environment} {S : Store} {L : List ℕ} {n : ℕ} {r : Rule} {f : Effect} →
            Table C E S L n r (expression (ValRef w x)) X f →
            ((b : Bindable) → lookup x E ≡ some b → NameRow b) → Models (regions words m) C X E S L n → (v : Value) × Shown v
        by (valref {l = l} {k = k} {v = v} q c d) rows μ = (v, shown_cell l k v a.ready.fits μ.store_as (rows (value (location l)) q) c d)

    pub valref_outer_low : (x : ℕ) → Applicable words m w (expression (ValRef w x)) → bound < most_cells
    valref_outer_low x a = (some_shown x a).1.outer_low

    pub valref_inner_low : (x shown : ℕ) → Applicable words m w (expression (ValRef w x)) → shown ≡ get_or words (cell_payloads + bound) 0 →
        shown < most_cells
    valref_inner_low x shown a e = ((some_shown x a).1.inner shown e).within

    module _ (answer : Result Machine Reason) (after : List ℕ) where
      -- The name is bound to a value that is no location.
      pub id_plain_steps : label / 64 % 2 ≡ 0 → Pushes words m 0 bound answer after → (x : ℕ) → Steps words m w (expression (Id w x)) answer after
      id_plain_steps unmarked pushes x C X E S L n r f ready = by ready.applies
        where
          rows : (b : Bindable) → lookup x E ≡ some b → NameRow b
          rows = row_for x (Id w x) by_id ready

          by : {r : Rule} {f : Effect} → Table C E S L n r (expression (Id w x)) X f → StepAnswer (judge false f) answer words after
          by (id_plain {v = v} plain q) = pushes C X E S L n (value v) (top x (Id w x) by_id ready).lowered
              (value_as (plain_row v plain (rows (value v) q)).bound_as)
          by (id_cell {l = l} q c) = absurd (omega (arith, unmarked, (location_row l (rows (value (location l)) q)).marked))

      -- The name is bound to a location.
      pub id_cell_steps : (t p : ℕ) → (label / 64 % 2 ≡ 0 → ⊥) → t ≡ get_or words (cell_labels + bound) 0 →
          p ≡ get_or words (cell_payloads + bound) 0 → Pushes words m t p answer after →
          (x : ℕ) → Steps words m w (expression (Id w x)) answer after
      id_cell_steps t p marked tq pq pushes x C X E S L n r f ready = by ready.applies
        where
          rows : (b : Bindable) → lookup x E ≡ some b → NameRow b
          rows = row_for x (Id w x) by_id ready

          lowered : Models (regions words m) C X E S L n
          lowered = (top x (Id w x) by_id ready).lowered

          by : {r : Rule} {f : Effect} → Table C E S L n r (expression (Id w x)) X f → StepAnswer (judge false f) answer words after
          by (id_plain {v = v} plain q) = absurd (marked (plain_row v plain (rows (value v) q)).unmarked)
          by (id_cell {l = l} {v = v} q c) =
              pushes C X E S L n (value v) lowered
              (value_as (read_value tq pq (cell_at words m bound l v ready.fits lowered.store_as
              (location_row l (rows (value (location l)) q)).bound_is c)))

      -- ---- DeRef.

      pub deref_steps : Pushes words m 1 bound answer after → (x : ℕ) → Steps words m w (expression (DeRef w x)) answer after
      deref_steps pushes x C X E S L n r f ready = by ready.applies
        where
          by : {r : Rule} {f : Effect} → Table C E S L n r (expression (DeRef w x)) X f → StepAnswer (judge false f) answer words after
          by (deref {l = l} q) =
              pushes C X E S L n (value (location l)) (top x (DeRef w x) by_deref ready).lowered
              (value_as (subst (λ p. ValueAs 1 p (location l))
              (sym (location_row l (row_for x (DeRef w x) by_deref ready (value (location l)) q)).bound_is) location_as))

      -- ---- ValRef.

      pub valref_steps : (shown t p : ℕ) → shown ≡ get_or words (cell_payloads + bound) 0 → t ≡ get_or words (cell_labels + shown) 0 →
          p ≡ get_or words (cell_payloads + shown) 0 → Pushes words m t p answer after →
          (x : ℕ) → Steps words m w (expression (ValRef w x)) answer after
      valref_steps shown t p sq tq pq pushes x C X E S L n r f ready = by ready.applies
        where
          lowered : Models (regions words m) C X E S L n
          lowered = (top x (ValRef w x) by_valref ready).lowered

          by : {r : Rule} {f : Effect} → Table C E S L n r (expression (ValRef w x)) X f → StepAnswer (judge false f) answer words after
          by (valref {l = l} {k = k} {v = v} q c d) =
              pushes C X E S L n (value v) lowered
              (value_as (read_value tq pq ((shown_cell l k v ready.fits lowered.store_as
              (row_for x (ValRef w x) by_valref ready (value (location l)) q) c d).inner shown sq)))
