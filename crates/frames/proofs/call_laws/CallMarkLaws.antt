-- Call's mark: what it finds on the stacks and in the closure, and when its step is withheld.
use Prim.Native.Nat.{ℕ, suc, ◌+◌, ◌-◌, ◌*◌, ◌/◌, ◌%◌, ◌<◌, ◌≤◌}
use mathlib.Core.Path.{◌≡◌, refl, sym, ap, ◌∙◌, subst}
use mathlib.Core.List.{List, [], ◌∷◌}
use mathlib.Core.Option.{some}
use native.Mathlib.Omega.{arith}
use lib.ListN.{get_or}
use Rattle.rules.specs.paper.Tree.{Formal, Block, block, Abs}
use Rattle.rules.specs.paper.Limits.{names, most_parameters, most_nodes}
use Rattle.rules.specs.paper.States.{Bindable, closure, Environment, lookup, Store, Entry, environment, locations, call_mark, leave_mark, Item, command, mark, state}
use Rattle.rules.specs.paper.Rules.{Rule, Effect, goes, Table, call_at, Matched, match_formals}
use Rattle.machine.specs.Layout.{row_labels, row_payloads, closure_unit, carried_unit, count_unit, call_word}
use Rattle.reader.specs.Stored.{StoredFormals, StoredBlock, StoredBound, abs}
use Rattle.machine.specs.Regions.{Slot, Regions, regions, with_control}
use Rattle.machine.specs.Represents.{SegmentAs, BindableAs, closure_as, no_more, Mode, running, ControlAs, call_on, ValuesAs, Models}
use Rattle.machine.specs.Lookup.{RowOf}
use Rattle.machine.specs.Steps.{Ready, Steps}
use Rattle.frames.specs.Formals.{Binding, CanBind}
use Rattle.machine.specs.declared.Machine.{Machine}
use Rattle.std.specs.Prelude.{Err, Some}
use Rattle.rules.specs.declared.refusals.Reason.{Reason}
use Rattle.machine.specs.Room.{reason_of_room}
use Rattle.machine.proofs.state_laws.ModelLaws.{with_items, sizes, step_withheld_for_room}
use Rattle.machine.proofs.state_laws.ItemLaws.{rest_of}
use Rattle.frames.proofs.frame_laws.FrameLaws.{pointed, with_pointers, answered, environment_is, rows_height}
use Rattle.frames.proofs.call_laws.FormalsLaws.{formals_end, counted}

-- ---- A closure.

-- An Abs: its Formals, and its block behind them.
record AbsAt (nodes : List ℕ) (i j : ℕ) (fs : List Formal) (b : Block) : Type 0 where
  pub depth : ℕ
  pub block_place : ℕ
  pub formals : StoredFormals nodes (suc i) block_place fs
  pub block_stored : StoredBlock nodes depth block_place j b

abs_at : {nodes : List ℕ} {d i j p : ℕ} {fs : List Formal} {b : Block} → StoredBound nodes d i j (Abs p fs b) → AbsAt nodes i j fs b
abs_at (abs {d = d} {j = j} few word formals body) = record { depth = d; block_place = j; formals = formals; block_stored = body }

pub record ClosureAt (nodes : List ℕ) (rows : List Slot) (w : ℕ) (fs : List Formal) (b : Block) (F : Environment) : Type 0 where
  pub place : ℕ
  pub pointer : ℕ
  pub depth : ℕ
  pub block_place : ℕ
  pub block_end : ℕ
  pub word_is : w ≡ place + closure_unit * pointer
  pub place_low : place < most_nodes
  pub formals : StoredFormals nodes (suc place) block_place fs
  pub block_stored : StoredBlock nodes depth block_place block_end b
  pub segment : SegmentAs nodes rows pointer 0 F

pub closure_at : {nodes : List ℕ} {rows : List Slot} {t w : ℕ} {fs : List Formal} {b : Block} {F : Environment} →
    BindableAs nodes rows t w (closure fs b F) → ClosureAt nodes rows w fs b F
closure_at (closure_as {p = p} {j = j} {f = f} q l h s) =
    let at = abs_at h in
    record {
      place = p;
      pointer = f;
      depth = at.depth;
      block_place = at.block_place;
      block_end = j;
      word_is = q;
      place_low = l;
      formals = at.formals;
      block_stored = at.block_stored;
      segment = s;
    }

module _ (words : List ℕ) (m : Machine) where
  abbrev κ : Regions
  κ = regions words m

  -- ---- The stacks.

  pub record CallTop (w p x k : ℕ) (C : List Item) (X : List Entry) (E : Environment) (S : Store) (L : List ℕ) (n : ℕ) (e : Effect) : Type 0 where
    pub formals : List Formal
    pub body : Block
    pub definition : Environment
    pub matched : Matched
    pub outer : List ℕ
    pub effect_is : e ≡ goes (state (command (block body) ∷ mark (leave_mark p n) ∷ C) (environment E ∷ locations L ∷ matched.rest)
        matched.environment_with S [] (n + k))
    pub looked : lookup x E ≡ some (closure formals body definition)
    pub matches : match_formals k formals X definition ≡ some matched
    pub word_is : w ≡ call_word (x + names * k)
    pub name_low : x < names
    pub count_low : k ≤ most_parameters
    pub control_as : ControlAs κ.nodes (running outer) κ.control C
    pub values_as : ValuesAs κ.nodes κ.rows κ.base κ.declared κ.environment E (running outer) κ.values X
    pub models : Models κ C X E S L n

  call_by : (w p x k : ℕ) {C : List Item} {X : List Entry} {E : Environment} {S : Store} {L : List ℕ} {n : ℕ} {r : Rule} {e : Effect} (mode : Mode) →
      Models (with_control w κ) (mark (call_mark p x k) ∷ C) X E S L n →
      Table C E S L n r (mark (call_mark p x k)) X e → ControlAs κ.nodes mode (w ∷ κ.control) (mark (call_mark p x k) ∷ C) →
      ValuesAs κ.nodes κ.rows κ.base κ.declared κ.environment E mode κ.values X → CallTop w p x k C X E S L n e
  call_by w p x k mode μ (call_at {fs = fs} {b = b} {F = F} {m = M} looked matches) (call_on {ms = ms} q low few h) v =
      record {
        formals = fs;
        body = b;
        definition = F;
        matched = M;
        outer = ms;
        effect_is = refl;
        looked = looked;
        matches = matches;
        word_is = q;
        name_low = low;
        count_low = few;
        control_as = h;
        values_as = v;
        models = with_items h (rest_of κ w (mark (call_mark p x k)) (running ms) μ v);
      }

  pub call_top : (w p x k : ℕ) {C : List Item} {X : List Entry} {E : Environment} {S : Store} {L : List ℕ} {n : ℕ} {r : Rule} {e : Effect} →
      Ready words m w (mark (call_mark p x k)) C X E S L n r e → CallTop w p x k C X E S L n e
  call_top w p x k ready = call_by w p x k ready.models.mode ready.models ready.applies ready.models.control_as ready.models.values_as

  -- The numbers in the mark's word.
  pub record CallNumbers (w x k : ℕ) : Type 0 where
    pub name_is : w / carried_unit % 64 ≡ x
    pub count_is : w / count_unit ≡ k
    pub few : k ≤ 8

  pub call_numbers : (w p x k : ℕ) {C : List Item} {X : List Entry} {E : Environment} {S : Store} {L : List ℕ} {n : ℕ} {r : Rule} {e : Effect} →
      Ready words m w (mark (call_mark p x k)) C X E S L n r e → CallNumbers w x k
  call_numbers w p x k ready = let top = call_top w p x k ready in record {
    name_is = name_in top.word_is top.name_low;
    count_is = count_in top.word_is top.name_low;
    few = top.count_low;
  }
    where
      name_in : w ≡ call_word (x + names * k) → x < names → w / carried_unit % 64 ≡ x
      name_in q l = omega arith

      count_in : w ≡ call_word (x + names * k) → x < names → w / count_unit ≡ k
      count_in q l = omega arith

  -- ---- Limits.

  module _ (w : ℕ) where
    -- The actuals are on the value stack.
    pub call_actuals : (p x k : ℕ) {C : List Item} {X : List Entry} {E : Environment} {S : Store} {L : List ℕ} {n : ℕ} {r : Rule} {e : Effect} →
        Ready words m w (mark (call_mark p x k)) C X E S L n r e → w / count_unit ≤ m.values
    call_actuals p x k {X = X} ready =
        let top = call_top w p x k ready in
        let z = sizes words m top.models in
        let count = counted k top.formals X top.definition top.matched top.matches in
        omega (arith, z.values_height, count.entries_count, (call_numbers w p x k ready).count_is)

    pub call_withheld : (reason : Reason) → Some reason ≡ reason_of_room (m.bindings + w / count_unit) (m.values - w / count_unit + 2)
        (m.control + 2) →
        (p x k : ℕ) → Steps words m w (mark (call_mark p x k)) (Err reason) words
    call_withheld reason is p x k C X E S L n r e ready =
        let top = call_top w p x k ready in
        let z = sizes words m top.models in
        let count = counted k top.formals X top.definition top.matched top.matches in
        let numbers = call_numbers w p x k ready in
        answered (Err reason) words words top.effect_is
        (step_withheld_for_room words _ _ _ _ _ _ (m.bindings + w / count_unit) (m.values - w / count_unit + 2) (m.control + 2) reason
        (omega (arith, z.bindings_height, numbers.count_is)) (omega (arith, z.values_height, count.entries_count, numbers.count_is))
        (omega (arith, z.control_height))
        (omega (arith, z.cells_height, ready.fits.few_cells)) is)

  -- ---- The closure in its row, and its Formals.

  -- What `row_of` answers.
  abbrev pub RowFound : (w row : ℕ) → Type 0
  RowFound w row =
      (nodes : List ℕ) (E : Environment) (b : Bindable) → SegmentAs nodes κ.rows m.environment 0 E → lookup (w / carried_unit % 64) E ≡ some b →
      RowOf nodes κ.rows (w / carried_unit % 64) b row (get_or words (row_labels + row) 0) (get_or words (row_payloads + row) 0)

  abbrev pub formal_first : ℕ → ℕ
  formal_first row = get_or words (row_payloads + row) 0 % closure_unit + 1

  abbrev pub called : ℕ → Machine
  called row = pointed (get_or words (row_payloads + row) 0 / closure_unit) m.declared m.cells m

  pub regions_called : (row : ℕ) → regions words (called row) ≡ with_pointers (get_or words (row_payloads + row) 0 / closure_unit)
      κ.declared m.cells κ
  unfolding regions
  regions_called row = refl

  module _ (w p x k : ℕ) {C : List Item} {X : List Entry} {E : Environment} {S : Store} {L : List ℕ} {n : ℕ} {r : Rule} {e : Effect}
      (ready : Ready words m w (mark (call_mark p x k)) C X E S L n r e) where
    abbrev top : CallTop w p x k C X E S L n e
    top = call_top w p x k ready

    in_environment : SegmentAs κ.nodes κ.rows m.environment 0 E
    in_environment = subst (λ q. SegmentAs κ.nodes κ.rows q 0 E) (environment_is words m) ready.models.environment_as

    looked_up : lookup (w / carried_unit % 64) E ≡ some (closure top.formals top.body top.definition)
    looked_up = ap (λ y. lookup y E) (call_numbers w p x k ready).name_is ∙ top.looked

    pub call_looked : (nodes : List ℕ) × (E : Environment) × (b : Bindable) × SegmentAs nodes κ.rows m.environment 0 E
        × (lookup (w / carried_unit % 64) E ≡ some b)
    call_looked = (κ.nodes, E, closure top.formals top.body top.definition, in_environment, looked_up)

    module _ (row : ℕ) (found : RowFound w row) where
      row_is : RowOf κ.nodes κ.rows (w / carried_unit % 64) (closure top.formals top.body top.definition) row (get_or words (row_labels + row) 0)
          (get_or words (row_payloads + row) 0)
      row_is = found κ.nodes E (closure top.formals top.body top.definition) in_environment looked_up

      pub row_low : row < m.bindings
      row_low = omega (arith, row_is.within, rows_height words m)

      pub called_closure : ClosureAt κ.nodes κ.rows (get_or words (row_payloads + row) 0) top.formals top.body top.definition
      called_closure = closure_at row_is.bound_to

      pub first_is : formal_first row ≡ suc called_closure.place
      first_is = plus_one _ _ _ called_closure.word_is called_closure.place_low
        where
          plus_one : (v q f : ℕ) → v ≡ q + closure_unit * f → q < most_nodes → v % closure_unit + 1 ≡ suc q
          plus_one v q f a l = omega arith

      pub pointer_is : get_or words (row_payloads + row) 0 / closure_unit ≡ called_closure.pointer
      pointer_is = over _ _ _ called_closure.word_is called_closure.place_low
        where
          over : (v q f : ℕ) → v ≡ q + closure_unit * f → q < most_nodes → v / closure_unit ≡ f
          over v q f a l = omega arith

      -- The block stands behind its Formals.
      pub block_is : formal_first row + w / count_unit ≡ called_closure.block_place
      block_is =
          behind _ _ _ _ _ (formals_end called_closure.formals) first_is (call_numbers w p x k ready).count_is
          (counted k top.formals X top.definition top.matched top.matches).formals_count
        where
          behind : (j q f c l : ℕ) → j ≡ suc q + l → f ≡ suc q → c ≡ k → k ≡ l → f + c ≡ j
          behind j q f c l a b g h = omega arith

      pub call_binding : Binding (regions words (called row)) κ.base κ.declared κ.environment E (running top.outer) top.matched
          (regions words (called row)) (formal_first row) (formal_first row + w / count_unit)
      call_binding =
          subst (λ j. Binding j κ.base κ.declared κ.environment E (running top.outer) top.matched j (formal_first row)
          (formal_first row + w / count_unit)) (sym (regions_called row))
          (record {
            rows = κ.rows;
            values = κ.values;
            made_pointer = get_or words (row_payloads + row) 0 / closure_unit;
            formals = top.formals;
            actuals = X;
            made = top.definition;
            regions_are = refl;
            extends = no_more;
            matches = subst (λ j. match_formals j top.formals X top.definition ≡ some top.matched)
                (counted k top.formals X top.definition top.matched top.matches).formals_count top.matches;
            stored =
                subst (λ i. StoredFormals κ.nodes i (formal_first row + w / count_unit) top.formals) (sym first_is)
                (subst (λ j. StoredFormals κ.nodes (suc called_closure.place) j top.formals) (sym block_is) called_closure.formals);
            segment = subst (λ q. SegmentAs κ.nodes κ.rows q 0 top.definition) (sym pointer_is) called_closure.segment;
            values_as = top.values_as;
          })

      pub call_can_bind : CanBind words (called row) (formal_first row) (formal_first row + w / count_unit)
      call_can_bind = record {
        base = κ.base;
        declared = κ.declared;
        pointer = κ.environment;
        environment = E;
        mode = running top.outer;
        matched = top.matched;
        start = call_binding;
      }
