-- The free runs, and what is claimed of the figures of Needs.antt (document 02, request 4): they are the most over all free runs, every run
-- of the engine is a free run, and where they are within the limits 33 to 36 hold nowhere in it. This file names the automaton's
-- definitions and nothing of the proofs, which stand in proofs/needs.
use Rattle.std.specs.Prelude.{ℕ, suc, ◌+◌, ◌*◌, ◌≤◌, ◌≡◌, Bool, false, List, [], ◌∷◌, T, ℤ, length}
use Rattle.rules.specs.paper.Tree.{Arithmetic, arithmetic, Expression, Command, Loop, Cond, Root}
use Rattle.rules.specs.paper.Refusals.{Reason, Steps, Cells, Bindings, ValueEntries, ControlEntries}
use Rattle.rules.specs.paper.Limits.{most_nodes, most_registers, most_cells, most_bindings, most_value_entries, most_control_entries}
use Rattle.rules.specs.paper.Integers.{in_range, failed, compute}
use Rattle.rules.specs.paper.Checker.{Passed}
use Rattle.rules.specs.paper.States.{integer, truth, Environment, Store, Entry, val, node, Item, command, mark, operator_mark, loop_mark, conditional_mark, State, state, control_of}
use Rattle.rules.specs.paper.Rules.{Rule, Effect, goes, Applies}
use Rattle.rules.specs.paper.Fire.{after_test, chosen}
use Rattle.rules.specs.paper.Run.{ended, run}
use Rattle.rules.specs.paper.Needs.{Figure, control, values, cells, bindings, Sizes, sizes, routine_need, has_loop, has_conditional}
use Rattle.rules.specs.paper.HighMarks.{size}
use Rattle.rules.specs.paper.Engine.{check_image, passed, start}
use Rattle.rules.specs.claims.History.{History, Reach}
use Rattle.rules.specs.claims.Claim.{ReasonHolds, AllInRange}

-- ---- A free run: the automaton's, with no step withheld.

pub data FreeStep : State → State → Type 0 where
  by_rule : {σ τ : State} (r : Rule) → Applies r σ (goes τ) → FreeStep σ τ
  -- any integer where 31 or 32 would withhold
  any_integer : {o : Arithmetic} {y z : ℤ} {x : Reason} {C : List Item} {X : List Entry} {E : Environment} {S : Store} {L : List ℕ} {n : ℕ} →
      compute o y z ≡ failed x → (v : ℤ) → T (in_range v) →
      FreeStep (state (mark (operator_mark (arithmetic o)) ∷ C) (val (integer z) ∷ val (integer y) ∷ X) E S L n) (state C (val (integer v) ∷ X) E S L n)
  -- each test's truth free to fall either way
  either_turn : {p : ℕ} {e : Expression} {c : Command} {b : Bool} {C : List Item} {X : List Entry} {E : Environment} {S : Store} {L : List ℕ} {n : ℕ} (t : Bool) →
      FreeStep (state (mark loop_mark ∷ C) (val (truth b) ∷ node (Loop p e c) ∷ X) E S L n) (state (after_test t (record { place = p; test = e; body = c }) C) X E S L n)
  either_command : {p : ℕ} {e : Expression} {c₁ c₂ : Command} {b : Bool} {C : List Item} {X : List Entry} {E : Environment} {S : Store} {L : List ℕ} {n : ℕ} (t : Bool) →
      FreeStep (state (mark conditional_mark ∷ C) (val (truth b) ∷ node (Cond p e c₁ c₂) ∷ X) E S L n) (state (command (chosen t c₁ c₂) ∷ C) X E S L n)

-- The states of the free runs from a state, with the steps made.
pub data FreeReach (first : State) : (steps : ℕ) → State → Type 0 where
  at_start : FreeReach first 0 first
  one_more : {k : ℕ} {σ τ : State} → FreeReach first k σ → FreeStep σ τ → FreeReach first (suc k) τ

-- ---- For every passed image and one starting value per register:

abbrev pub ForPassed : (ℕ → Root → Passed → List ℤ → Type 0) → Type 0
ForPassed claim =
    (image : List ℕ) (r : ℕ) (t : Root) (a : Passed) → check_image image ≡ passed r t a →
    (registers : List ℤ) → length registers ≡ r → AllInRange registers → claim r t a registers

-- 1. In no state of a free run does any size exceed its figure, and without Loop no free run has more steps than the figure.
abbrev pub NothingExceeds : Type 0
NothingExceeds =
    ForPassed
    (λ r t a registers.
    (k : ℕ) (σ : State) → FreeReach (start r t registers) k σ →
    ((f : Figure) → size σ f ≤ (routine_need r t).most f) × (has_loop t ≡ false → k ≤ (routine_need r t).steps))

-- 2. Each of the four figures is the size of some state of some free run, and without Loop some free run has exactly the steps, and ends.
pub record SizeReached (first : State) (f : Figure) (most : ℕ) : Type 0 where
  pub steps : ℕ
  pub there : State
  pub reached : FreeReach first steps there
  pub equal : size there f ≡ most

pub record StepsReached (first : State) (steps : ℕ) : Type 0 where
  pub there : State
  pub reached : FreeReach first steps there
  pub at_end : control_of there ≡ []

abbrev pub EachReached : Type 0
EachReached =
    ForPassed
    (λ r t a registers.
    ((f : Figure) → SizeReached (start r t registers) f ((routine_need r t).most f))
    × (has_loop t ≡ false → StepsReached (start r t registers) (routine_need r t).steps))

-- 3. Every run of the engine is a free run up to its end. So no run passes any figure ..
abbrev pub RunIsFree : Type 0
RunIsFree =
    (budget r steps : ℕ) (first σ : State) (h : History) → Reach budget first r steps σ h → FreeReach first steps σ

abbrev pub RunExceedsNothing : Type 0
RunExceedsNothing =
    ForPassed
    (λ r t a registers.
    (budget steps : ℕ) (σ : State) (h : History) → Reach budget (start r t registers) r steps σ h →
    ((f : Figure) → size σ f ≤ (routine_need r t).most f) × (has_loop t ≡ false → steps ≤ (routine_need r t).steps))

-- .. and if the four are within the limits, 33 to 36 hold nowhere in it.
abbrev pub limits : Sizes
limits = sizes most_control_entries most_value_entries most_cells most_bindings

-- The reason for which a step that passes the limit of a size is withheld.
abbrev pub room_reason : Figure → Reason
room_reason control = ControlEntries
room_reason values = ValueEntries
room_reason cells = Cells
room_reason bindings = Bindings

abbrev pub RoomSuffices : Type 0
RoomSuffices =
    ForPassed
    (λ r t a registers.
    ((f : Figure) → (routine_need r t).most f ≤ limits f) →
    (budget steps : ℕ) (σ : State) (h : History) → Reach budget (start r t registers) r steps σ h →
    (x : Rule) (e : Effect) → Applies x σ e → (f : Figure) → ReasonHolds budget steps e (room_reason f) → ⊥)

-- Without Loop a budget of the steps is enough: 30 holds nowhere in it.
abbrev pub BudgetSuffices : Type 0
BudgetSuffices =
    ForPassed
    (λ r t a registers.
    has_loop t ≡ false →
    (budget steps : ℕ) → (routine_need r t).steps ≤ budget → (σ : State) (h : History) → Reach budget (start r t registers) r steps σ h →
    (x : Rule) (e : Effect) → Applies x σ e → ReasonHolds budget steps e Steps → ⊥)

-- 4. Without Loop and Cond, a run that ends normally reaches each figure exactly, and its steps are the figure.
pub record SizeMet (budget : ℕ) (first : State) (r : ℕ) (f : Figure) (most : ℕ) : Type 0 where
  pub steps : ℕ
  pub there : State
  pub history : History
  pub reached : Reach budget first r steps there history
  pub equal : size there f ≡ most

abbrev pub ReachesExactly : Type 0
ReachesExactly =
    ForPassed
    (λ r t a registers.
    has_loop t ≡ false → has_conditional t ≡ false →
    (budget k : ℕ) (τ : State) → run budget 0 (start r t registers) ≡ ended k τ →
    (k ≡ (routine_need r t).steps) × ((f : Figure) → SizeMet budget (start r t registers) r f ((routine_need r t).most f)))

-- ---- The four room figures of a passed image are small: at most four for each node, and the registers.
abbrev pub most_room : ℕ
most_room = most_registers + 4 * most_nodes

abbrev pub FiguresSmall : Type 0
FiguresSmall =
    (image : List ℕ) (r : ℕ) (t : Root) (a : Passed) → check_image image ≡ passed r t a → (f : Figure) → (routine_need r t).most f ≤ most_room
