-- Part of the whole-run proof: what is shown at one state, and the frame that the steps of all rules share.
use Rattle.std.specs.Prelude.{ℕ, zero, suc, ◌≡◌, refl, Bool, true, false, cond, List, [], ◌∷◌}
use Rattle.std.proofs.Common.{sym, ap, ◌∙◌, subst}
use Rattle.std.proofs.Math.Option.{Option, none, some}
use Rattle.rules.specs.paper.Refusals.{Reason, ZeroDivisor, OutOfRange}
use Rattle.rules.specs.paper.Checker.{Scope, Passed}
use Rattle.rules.specs.paper.States.{Environment, Store, Entry, Item, State, state, store_of}
use Rattle.rules.specs.paper.Rules.{Rule, Effect, goes, fails, Table, Applies}
use Rattle.rules.specs.claims.History.{Made, History, item_place, left_by_item, leaves, note, remake}
use Rattle.rules.specs.claims.Claim.{touched, item_cells, AllHoldTheirTypes, LeavingRestores}
use Rattle.rules.proofs.running.World.{World, EnvironmentTyped}
use Rattle.rules.proofs.running.Stores.{StoreTyped, store_cells, world_made, remade}
use Rattle.rules.proofs.running.Continuation.{StackShape, ControlTyped, Entered, ValuesTyped, open_states, Invariant}

-- The reasons that an arithmetic mark meets instead of a state.
pub data ArithmeticFault : Reason → Type 0 where
  zero_divisor : ArithmeticFault ZeroDivisor
  out_of_range : ArithmeticFault OutOfRange

-- The state after a step, if the step has one, keeps the invariant; its cells and what it leaves are as claimed.
pub record Advance (a : Passed) (r : ℕ) (σ : State) (h : History) (τ : State) : Type 0 where
  pub invariant : Invariant a r τ (note σ h τ)
  pub cells_after : AllHoldTheirTypes (note σ h τ).made_types (store_of τ) (touched σ)
  pub restored : LeavingRestores (leaves σ) h τ

abbrev pub Next : Passed → ℕ → State → History → Effect → Type 0
Next a r σ h (goes τ) = Advance a r σ h τ
Next a r σ h (fails x) = ArithmeticFault x

pub record Progress (a : Passed) (r : ℕ) (σ : State) (h : History) : Type 0 where
  pub rule : Rule
  pub effect : Effect
  pub applies : Applies rule σ effect
  pub cells_before : AllHoldTheirTypes h.made_types (store_of σ) (touched σ)
  pub next : Next a r σ h effect

-- A step at an item that opens and leaves no node keeps the open states.
pub quiet_open : (i : Item) (C : List Item) (X : List Entry) (E : Environment) (S : Store) (L : List ℕ) (n : ℕ) (h : History) (τ : State) →
    item_place i ≡ none → left_by_item i ≡ none → open_states (note (state (i ∷ C) X E S L n) h τ).past ≡ open_states h.past
unfolding open_states
quiet_open i C X E S L n h τ p q = rw (p, q)

module _ (a : Passed) (r : ℕ) (i : Item) (C : List Item) (X : List Entry) (E : Environment) (S : Store) (L : List ℕ) (n : ℕ) (h : History)
    (opens : item_place i ≡ none) (left : left_by_item i ≡ none) where
  -- The invariant after such a step, from its parts.
  pub quiet_invariant : (C' : List Item) (X' : List Entry) (E' : Environment) (S' : Store) (L' : List ℕ) (n' : ℕ) {Γ : Scope} {Θ : StackShape} {W : World} {P : List State} →
      open_states h.past ≡ P →
      ControlTyped a C' Γ Θ → EnvironmentTyped W E' Γ → StoreTyped S' W → ValuesTyped r E' W L' X' Θ P →
      remake h.made_types S' ≡ world_made W →
      Invariant a r (state C' X' E' S' L' n') (note (state (i ∷ C) X E S L n) h (state C' X' E' S' L' n'))
  quiet_invariant C' X' E' S' L' n' {Γ} {Θ} {W} q c e s v m =
      record {
        scope = Γ;
        shape = Θ;
        world = W;
        control = c;
        names = e;
        cells = s;
        values = subst (ValuesTyped r E' W L' X' Θ) (sym (quiet_open i C X E S L n h (state C' X' E' S' L' n') opens left ∙ q)) v;
        types = m;
      }

-- A store of the same world keeps the types.
pub kept : (M : _) (S : Store) (W : World) → M ≡ world_made W → StoreTyped S W → remake M S ≡ world_made W
kept M S W q s = ap (λ N. remake N S) q ∙ remade W s (λ l c p. p)

-- A step that leaves store and location set as they are: from the line of the table, the typing of what it leaves as environment
-- and on both stacks, and its cells, which hold their types by any history of this world.
pub same_store : {a : Passed} {r : ℕ} {i : Item} {C C' : List Item} {X X' : List Entry} {E E' : Environment} {S : Store} {L : List ℕ} {n n' : ℕ} {h : History}
    {Γ : Scope} {Θ : StackShape} {W : World} {P : List State} (rule : Rule) →
    item_place i ≡ none → left_by_item i ≡ none → Table C E S L n rule i X (goes (state C' X' E' S L n')) →
    EnvironmentTyped W E' Γ → StoreTyped S W → h.made_types ≡ world_made W → open_states h.past ≡ P →
    ControlTyped a C' Γ Θ → ValuesTyped r E' W L X' Θ P →
    ((M : Made) → M ≡ world_made W → AllHoldTheirTypes M S (item_cells i X E S)) →
    Progress a r (state (i ∷ C) X E S L n) h
same_store {a} {r} {i} {C} {C'} {X} {X'} {E} {E'} {S} {L} {n} {n'} {h} {W = W} rule opens left line names cells types pending control values hold =
    record {
      rule = rule;
      effect = goes (state C' X' E' S L n');
      applies = line;
      cells_before = hold h.made_types types;
      next = record {
        invariant = quiet_invariant a r i C X E S L n h opens left C' X' E' S L n' pending control names cells values (kept h.made_types S W types cells);
        cells_after = hold (remake h.made_types S) (kept h.made_types S W types cells);
        restored = subst (λ o. LeavingRestores o h (state C' X' E' S L n')) (sym left) tt;
      };
    }

-- A step at a Blk or Call puts its own state with the open ones.
pub opening_open : (i : Item) (C : List Item) (X : List Entry) (E : Environment) (S : Store) (L : List ℕ) (n : ℕ) (h : History) (τ : State) (p : ℕ) →
    item_place i ≡ some p → left_by_item i ≡ none →
    open_states (note (state (i ∷ C) X E S L n) h τ).past ≡ state (i ∷ C) X E S L n ∷ open_states h.past
unfolding open_states
opening_open i C X E S L n h τ p q l = rw (q, l)

-- Such a step leaves environment and store as they are.
pub opening_step : {a : Passed} {r : ℕ} {i : Item} {C C' : List Item} {X X' : List Entry} {E : Environment} {S : Store} {L L' : List ℕ} {n : ℕ} {h : History}
    {Γ : Scope} {Θ : StackShape} {W : World} {P : List State} (p : ℕ) (rule : Rule) →
    item_place i ≡ some p → left_by_item i ≡ none → Table C E S L n rule i X (goes (state C' X' E S L' n)) →
    EnvironmentTyped W E Γ → StoreTyped S W → h.made_types ≡ world_made W → open_states h.past ≡ P →
    ControlTyped a C' Γ Θ → (Entered p (state (i ∷ C) X E S L n) E L X W → ValuesTyped r E W L' X' Θ (state (i ∷ C) X E S L n ∷ P)) →
    ((M : Made) → AllHoldTheirTypes M S (item_cells i X E S)) →
    Progress a r (state (i ∷ C) X E S L n) h
opening_step {a} {r} {i} {C} {C'} {X} {X'} {E} {S} {L} {L'} {n} {h} {Γ} {Θ} {W} {P} p rule opens left line names cells types pending control values hold =
    record {
      rule = rule;
      effect = goes (state C' X' E S L' n);
      applies = line;
      cells_before = hold h.made_types;
      next = record {
        invariant = record {
          scope = Γ;
          shape = Θ;
          world = W;
          control = control;
          names = names;
          cells = cells;
          values =
              subst (ValuesTyped r E W L' X' Θ)
              (sym (opening_open i C X E S L n h (state C' X' E S L' n) p opens left ∙ ap {B = List State} (λ R. state (i ∷ C) X E S L n ∷ R) pending))
              (values (record { top = opens; environment_then = refl; locations_then = refl; values_then = refl; cells_then = store_cells cells }));
          types = kept h.made_types S W types cells;
        };
        cells_after = hold (remake h.made_types S);
        restored = subst (λ o. LeavingRestores o h (state C' X' E S L' n)) (sym left) tt;
      };
    }
