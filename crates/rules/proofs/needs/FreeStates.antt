-- The states of free runs of a passed image: the invariant of the whole run holds in them, and every step is of one of the three kinds.
use Rattle.std.specs.Prelude.{ℕ, ◌+◌, ◌-◌, ◌≡◌, refl, Bool, true, false, List, [], ◌∷◌, T, ℤ, length}
use Rattle.std.proofs.Common.{subst, arith}
use Rattle.rules.specs.paper.Tree.{Arithmetic, arithmetic, Expression, Command, Loop, Cond}
use Rattle.rules.specs.paper.Integers.{in_range, number}
use Rattle.rules.specs.paper.Checker.{Scope, Passed}
use Rattle.rules.specs.paper.States.{integer, truth, Environment, Store, remove, Entry, val, node, Item, mark, operator_mark, loop_mark, conditional_mark, leave_mark, State, state, control_of, bindings_of}
use Rattle.rules.specs.paper.Rules.{goes, Applies}
use Rattle.rules.specs.paper.Rules as Rules
use Rattle.rules.specs.paper.Fire.{after_test, chosen}
use Rattle.rules.specs.claims.History.{History}
use Rattle.rules.specs.claims.FreeRun.{FreeStep, by_rule, any_integer, either_turn, either_command}
use Rattle.rules.proofs.running.World.{World, truth_typed, value_typed}
use Rattle.rules.proofs.running.Stores.{StoreTyped, store_length, Grown, same, grown, remove_grown}
use Rattle.rules.proofs.running.Continuation.{StackShape, ControlTyped, operator_mark_typed, loop_mark_typed, conditional_mark_typed, leave_mark_typed, arithmetic_typed, ValuesTyped, value_on, frame_on, open_states, Invariant}
use Rattle.rules.proofs.running.MarkSteps.{arithmetic_next}
use Rattle.rules.proofs.running.WholeRun.{step_invariant}
use Rattle.rules.proofs.needs.StepKinds.{Ordered, Classified, LeavesCells, classified, integer_classified, turn_classified, choice_classified}

-- ---- A leaving finds as many live cells in its location set as there are more than at its entering.

grown_length : {U W : World} {L : List ℕ} → Grown U W L → length W ≡ length U + length L
grown_length same = omega arith
grown_length (grown g) = omega (arith, grown_length g)

leave_cells : {a : Passed} {r p m : ℕ} {C : List Item} {X : List Entry} {E : Environment} {S : Store} {L : List ℕ} {Γ : Scope} {Θ : StackShape} {W : World} {P : List State} →
    ControlTyped a (mark (leave_mark p m) ∷ C) Γ Θ → ValuesTyped r E W L X Θ P → StoreTyped S W → length (remove L S) ≡ length S - length L
leave_cells (leave_mark_typed k) (frame_on e g entered values) cells = omega (arith, store_length (remove_grown cells g), store_length cells, grown_length g)

pub leaves_cells : (a : Passed) (r : ℕ) (i : Item) (C : List Item) (X : List Entry) (E : Environment) (S : Store) (L : List ℕ) (n : ℕ) (h : History) →
    Invariant a r (state (i ∷ C) X E S L n) h → LeavesCells i S L
leaves_cells a r i C X E S L n h inv p m q =
    leave_cells (subst (λ j. ControlTyped a (j ∷ C) inv.scope inv.shape) q inv.control) inv.values inv.cells

-- ---- The invariant.

pub record FreeInvariant (a : Passed) (r : ℕ) (σ : State) : Type 0 where
  pub history : History
  pub typed : Invariant a r σ history
  pub ordered : Ordered (control_of σ) (bindings_of σ)

pub free_classified : {a : Passed} {r : ℕ} {σ τ : State} → FreeInvariant a r σ → FreeStep σ τ → Classified σ τ
free_classified {a} {r} inv (by_rule {σ = σ} {τ = τ} x line) = at σ inv line
  where
    at : (σ : State) → FreeInvariant a r σ → Applies x σ (goes τ) → Classified σ τ
    at (state [] X E S L n) i l = absurd l
    at (state (j ∷ C) X E S L n) i l = classified C E S L n x j X (goes τ) l (leaves_cells a r j C X E S L n i.history i.typed) i.ordered
free_classified inv (any_integer {o = o} {y = y} {z = z} {C = C} {X = X} {E = E} {S = S} {L = L} {n = n} q v h) = integer_classified C E S L n (arithmetic o) y z v X inv.ordered
free_classified inv (either_turn {C = C} {X = X} {E = E} {S = S} {L = L} {n = n} t) = turn_classified C E S L n X t inv.ordered
free_classified inv (either_command {C = C} {X = X} {E = E} {S = S} {L = L} {n = n} t) = choice_classified C E S L n X t inv.ordered

record Typed (a : Passed) (r : ℕ) (σ : State) : Type 0 where
  history : History
  typed : Invariant a r σ history

-- Any integer that is in range is as well typed as another.
integer_typed_on : (a : Passed) (r : ℕ) (o : Arithmetic) (y z v : ℤ) (C : List Item) (X : List Entry) (E : Environment) (S : Store) (L : List ℕ) (n : ℕ) (h : History) → T (in_range v) →
    Invariant a r (state (mark (operator_mark (arithmetic o)) ∷ C) (val (integer z) ∷ val (integer y) ∷ X) E S L n) h → Typed a r (state C (val (integer v) ∷ X) E S L n)
integer_typed_on a r o y z v C X E S L n h t inv = go inv.control inv.values
  where
    go : {Θ : StackShape} → ControlTyped a (mark (operator_mark (arithmetic o)) ∷ C) inv.scope Θ →
        ValuesTyped r E inv.world L (val (integer z) ∷ val (integer y) ∷ X) Θ (open_states h.past) → Typed a r (state C (val (integer v) ∷ X) E S L n)
    go (operator_mark_typed {Θ = Θ} arithmetic_typed k) (value_on g₂ (value_on g₁ values)) =
        record {
          history = _;
          typed = (arithmetic_next a r C E S L n h inv.scope inv.world (open_states h.past) inv.names inv.cells inv.types refl o y z X Θ (number v) t k values).invariant;
        }

-- So is either truth.
retested_turn : (a : Passed) (r p : ℕ) (e : Expression) (c : Command) (b t : Bool) (C : List Item) (X : List Entry) (E : Environment) (S : Store) (L : List ℕ) (n : ℕ) (h : History) →
    Invariant a r (state (mark loop_mark ∷ C) (val (truth b) ∷ node (Loop p e c) ∷ X) E S L n) h →
    Invariant a r (state (mark loop_mark ∷ C) (val (truth t) ∷ node (Loop p e c) ∷ X) E S L n) h
retested_turn a r p e c b t C X E S L n h inv =
    record { scope = inv.scope; shape = inv.shape; world = inv.world; control = inv.control; names = inv.names; cells = inv.cells; values = go inv.control inv.values; types = inv.types }
  where
    go : {Θ : StackShape} → ControlTyped a (mark loop_mark ∷ C) inv.scope Θ → ValuesTyped r E inv.world L (val (truth b) ∷ node (Loop p e c) ∷ X) Θ (open_states h.past) →
        ValuesTyped r E inv.world L (val (truth t) ∷ node (Loop p e c) ∷ X) Θ (open_states h.past)
    go (loop_mark_typed g s d w k) (value_on g₁ values) = value_on (value_typed truth_typed) values

retested_choice : (a : Passed) (r p : ℕ) (e : Expression) (c₁ c₂ : Command) (b t : Bool) (C : List Item) (X : List Entry) (E : Environment) (S : Store) (L : List ℕ) (n : ℕ) (h : History) →
    Invariant a r (state (mark conditional_mark ∷ C) (val (truth b) ∷ node (Cond p e c₁ c₂) ∷ X) E S L n) h →
    Invariant a r (state (mark conditional_mark ∷ C) (val (truth t) ∷ node (Cond p e c₁ c₂) ∷ X) E S L n) h
retested_choice a r p e c₁ c₂ b t C X E S L n h inv =
    record { scope = inv.scope; shape = inv.shape; world = inv.world; control = inv.control; names = inv.names; cells = inv.cells; values = go inv.control inv.values; types = inv.types }
  where
    go : {Θ : StackShape} → ControlTyped a (mark conditional_mark ∷ C) inv.scope Θ → ValuesTyped r E inv.world L (val (truth b) ∷ node (Cond p e c₁ c₂) ∷ X) Θ (open_states h.past) →
        ValuesTyped r E inv.world L (val (truth t) ∷ node (Cond p e c₁ c₂) ∷ X) Θ (open_states h.past)
    go (conditional_mark_typed d₁ s₁ d₂ s₂ k) (value_on g₁ values) = value_on (value_typed truth_typed) values

-- The rule's step where the test gave this truth.
turn_line : (p : ℕ) (e : Expression) (c : Command) (t : Bool) (C : List Item) (X : List Entry) (E : Environment) (S : Store) (L : List ℕ) (n : ℕ) →
    Applies Rules.mark_Loop (state (mark loop_mark ∷ C) (val (truth t) ∷ node (Loop p e c) ∷ X) E S L n) (goes (state (after_test t (record { place = p; test = e; body = c }) C) X E S L n))
turn_line p e c true C X E S L n = Rules.loop_true
turn_line p e c false C X E S L n = Rules.loop_false

choice_line : (p : ℕ) (e : Expression) (c₁ c₂ : Command) (t : Bool) (C : List Item) (X : List Entry) (E : Environment) (S : Store) (L : List ℕ) (n : ℕ) →
    Applies Rules.mark_Cond (state (mark conditional_mark ∷ C) (val (truth t) ∷ node (Cond p e c₁ c₂) ∷ X) E S L n) (goes (state (Rattle.rules.specs.paper.States.command (chosen t c₁ c₂) ∷ C) X E S L n))
choice_line p e c₁ c₂ true C X E S L n = Rules.conditional_true
choice_line p e c₁ c₂ false C X E S L n = Rules.conditional_false

free_typed : (a : Passed) (r : ℕ) {σ τ : State} (h : History) → Invariant a r σ h → FreeStep σ τ → Typed a r τ
free_typed a r h inv (by_rule {σ = σ} {τ = τ} x line) = record { history = _; typed = step_invariant a r x σ τ h inv line }
free_typed a r h inv (any_integer {o = o} {y = y} {z = z} {C = C} {X = X} {E = E} {S = S} {L = L} {n = n} q v t) = integer_typed_on a r o y z v C X E S L n h t inv
free_typed a r h inv (either_turn {p = p} {e = e} {c = c} {b = b} {C = C} {X = X} {E = E} {S = S} {L = L} {n = n} t) =
    record { history = _; typed = step_invariant a r Rules.mark_Loop _ _ h (retested_turn a r p e c b t C X E S L n h inv) (turn_line p e c t C X E S L n) }
free_typed a r h inv (either_command {p = p} {e = e} {c₁ = c₁} {c₂ = c₂} {b = b} {C = C} {X = X} {E = E} {S = S} {L = L} {n = n} t) =
    record { history = _; typed = step_invariant a r Rules.mark_Cond _ _ h (retested_choice a r p e c₁ c₂ b t C X E S L n h inv) (choice_line p e c₁ c₂ t C X E S L n) }

pub free_invariant : {a : Passed} {r : ℕ} {σ τ : State} → FreeInvariant a r σ → FreeStep σ τ → FreeInvariant a r τ
free_invariant {a} {r} inv step =
    let o = free_typed a r inv.history inv.typed step in
    record { history = o.history; typed = o.typed; ordered = (free_classified inv step).ordered }
