-- How a run ends and what holds in every state it reaches, proved from the whole-run invariant.
use Prim.Native.Nat.{ℕ, zero, suc, ◌+◌, ◌≤◌, ◌<◌}
use Rattle.std.specs.Prelude.{◌≡◌, refl, Bool, true, false, T, eqb, ℤ, length}
use Rattle.std.proofs.Common.{sym, ap, ◌∙◌, subst, arith, add-zero, zero-add, eqb→eq, lit≤}
use mathlib.Core.List.{List, [], ◌∷◌}
use Rattle.std.proofs.Math.Option.{Option, none, some}
use Rattle.std.proofs.Math.Dec.{eqb_refl}
use Rattle.rules.proofs.Basics.{passed_test, failed_test, false_test, cons_not_empty}
use Rattle.rules.specs.paper.Tree.{Root}
use Rattle.rules.specs.paper.Tree as Tree
use Rattle.rules.specs.paper.Refusals.{Reason, Steps, Cells, Bindings, ValueEntries, ControlEntries}
use Rattle.rules.specs.paper.Limits.{most_cells, most_bindings, most_value_entries, most_control_entries, most_registers}
use Rattle.rules.specs.paper.Checker.{code, Passed, expression_of_code, a_command}
use Rattle.rules.specs.paper.States.{Value, integer, Bindable, Environment, Store, find, Entry, bindable, val, State, state, control_of, values_of, environment_of, store_of, bindings_of}
use Rattle.rules.specs.paper.Rules.{Rule, Effect, goes, Applies}
use Rattle.rules.specs.paper.Fire.{fire, fires}
use Rattle.rules.specs.paper.Run.{priority, Ending, ended, stopped, Verdict, made, withheld, proceed, judge, attempt, run}
use Rattle.rules.specs.paper.Engine.{check_image, passed, root_control, register_store, start}
use Rattle.rules.proofs.running.FireExact.{applies→fires}
use Rattle.rules.proofs.checking.ImageExact.{check_exact}
use Rattle.rules.specs.claims.Image.{IsImage}
use Rattle.rules.specs.claims.History.{Made, type_of, History, note, first_history, Reach, at_start, step_made}
use Rattle.rules.specs.claims.Claim.{ReasonHolds, budget_used, cells_full, bindings_full, values_full, control_full, FirstOf, at_front, behind, StepOutcome, step_is_made, step_is_withheld, StepMade, StepWithheld, StateClaim, AllInRange}
use Rattle.rules.specs.claims.Ends.{FinalValues, EndsWell, normally, withheld_for, RangedValue, RangedBindable, RangedEnvironment, RangedEntry, RangedValues, RangedStore, RegisterHolds, StateFacts, RunEndsWell, EveryStateFacts}
use Rattle.rules.proofs.running.World.{World, code_at, code_older, code_newest, ValueTyped, integer_typed, truth_typed, location_typed, EnvironmentTyped, no_names, one_name, BindableTyped, value_typed, closure_typed}
use Rattle.rules.proofs.running.Stores.{StoreTyped, no_cells, one_cell, store_length, Held, find_typed, grown_keeps, world_made, type_is}
use Rattle.rules.proofs.running.Continuation.{StackShape, end, value_of, Final, final_command, final_value, ControlTyped, done, register_world, ValuesTyped, nothing_left, value_on, name_on, testing_on, declared_on, saved_on, calling_on, opened_on, frame_on, open_states, Invariant}
use Rattle.rules.proofs.running.Judging.{Judgement, no_reason, for_reason, judged, reason→holds}
use Rattle.rules.proofs.running.WholeRun.{start_invariant, reach_invariant, claim, world_length}

-- ---- Integers in range.

ranged_value : {W : World} {v : Value} {c : ℕ} → ValueTyped W v c → RangedValue v
ranged_value (integer_typed h) = h
ranged_value truth_typed = tt
ranged_value (location_typed q) = tt

mutual
  ranged_environment : {W : World} {E : Environment} {Γ : _} → EnvironmentTyped W E Γ → RangedEnvironment E
  ranged_environment no_names = tt
  ranged_environment (one_name q b e) = (ranged_bindable b, ranged_environment e)

  ranged_bindable : {W : World} {b : Bindable} {m : _} → BindableTyped W b m → RangedBindable b
  ranged_bindable (value_typed t) = ranged_value t
  ranged_bindable (closure_typed Γ e ok s) = ranged_environment e

ranged_store : {S : Store} {W : World} → StoreTyped S W → RangedStore S
ranged_store no_cells = tt
ranged_store (one_cell q t h) = (ranged_value t, ranged_store h)

ranged_values : {r : ℕ} {E : Environment} {W : World} {L : List ℕ} {X : List Entry} {Θ : StackShape} {P : List State} → ValuesTyped r E W L X Θ P → RangedValues X
ranged_values (nothing_left q l) = tt
ranged_values (value_on b v) = (ranged_bindable b, ranged_values v)
ranged_values (name_on v) = (tt, ranged_values v)
ranged_values (testing_on v) = (tt, ranged_values v)
ranged_values (declared_on e v) = (ranged_environment e, ranged_values v)
ranged_values (saved_on e f v) = (ranged_environment e, (ranged_environment f, ranged_values v))
ranged_values (calling_on e v) = ranged_values v
ranged_values (opened_on e g s v) = (tt, ranged_values v)
ranged_values (frame_on e g s v) = (ranged_environment e, (tt, ranged_values v))

-- ---- Registers stay integers: their cells are the oldest of every world.

registers_oldest : (r i : ℕ) → i < r → code_at i (register_world r) ≡ some 0
unfolding register_world
registers_oldest zero i h = absurd (never h)
  where
    never : i < 0 → ⊥
    never g = omega arith
registers_oldest (suc r) i h = choose (eqb i r) refl (registers_oldest r i)
  where
    choose : (t : Bool) → eqb i r ≡ t → (i < r → code_at i (register_world r) ≡ some 0) → code_at i (0 ∷ register_world r) ≡ some 0
    choose true q older = subst (λ k. code_at k (0 ∷ register_world r) ≡ some 0) (world_length r ∙ sym (eqb→eq i r (passed_test q))) (code_newest (register_world r) 0)
    choose false q older = code_older i (register_world r) 0 0 (older (below (λ e. failed_test q (subst (λ k. T (eqb i k)) e (eqb_refl i)))))
      where
        below : (i ≡ r → ⊥) → i < r
        below d = omega (arith, h, d)

world_keeps : {r : ℕ} {E : Environment} {W : World} {L : List ℕ} {X : List Entry} {Θ : StackShape} {P : List State} → ValuesTyped r E W L X Θ P →
    (i : ℕ) → i < r → code_at i W ≡ some 0
world_keeps {r} (nothing_left q l) i h = subst (λ W. code_at i W ≡ some 0) (sym q) (registers_oldest r i h)
world_keeps (value_on b v) i h = world_keeps v i h
world_keeps (name_on v) i h = world_keeps v i h
world_keeps (testing_on v) i h = world_keeps v i h
world_keeps (declared_on e v) i h = world_keeps v i h
world_keeps (saved_on e f v) i h = world_keeps v i h
world_keeps (calling_on e v) i h = world_keeps v i h
world_keeps (opened_on e g s v) i h = grown_keeps i 0 g (world_keeps v i h)
world_keeps (frame_on e g s v) i h = grown_keeps i 0 g (world_keeps v i h)

register_holds : (S : Store) (W : World) (i : ℕ) → Held S W i 0 → RegisterHolds S i
register_holds S W i held = take held.contents held.found held.typed
  where
    take : (v : Value) → find i S ≡ some v → ValueTyped W v 0 → RegisterHolds S i
    take v f (integer_typed {z = z} t) = record { number = z; holds_it = f; ranged = t }

-- ---- The limits hold in every state that is reached.

record Within (σ : State) : Type 0 where
  few_cells : length (store_of σ) ≤ most_cells
  few_bindings : bindings_of σ ≤ most_bindings
  few_values : length (values_of σ) ≤ most_value_entries
  few_control : length (control_of σ) ≤ most_control_entries

at_most : (k n : ℕ) → (k < n → ⊥) → n ≤ k
at_most k n h = omega (arith, h)

made_within : (budget steps : ℕ) (τ : State) → ((x : Reason) → ReasonHolds budget steps (goes τ) x → ⊥) → Within τ
made_within budget steps τ none_holds =
    record {
      few_cells = at_most most_cells (length (store_of τ)) (λ h. none_holds Cells (cells_full τ refl h));
      few_bindings = at_most most_bindings (bindings_of τ) (λ h. none_holds Bindings (bindings_full τ refl h));
      few_values = at_most most_value_entries (length (values_of τ)) (λ h. none_holds ValueEntries (values_full τ refl h));
      few_control = at_most most_control_entries (length (control_of τ)) (λ h. none_holds ControlEntries (control_full τ refl h));
    }

pub store_count : (r : ℕ) (zs : List ℤ) → length (register_store r zs) ≡ r
unfolding register_store
store_count zero zs = refl
store_count (suc r) zs = ap suc (store_count r zs)

-- At most the root is on control.
root_within : (t : Root) → length (root_control t) ≤ most_control_entries
root_within (Tree.expression e) = lit≤ tt
root_within (Tree.command c) = lit≤ tt
root_within Tree.absent = lit≤ tt

start_within : (r : ℕ) (t : Root) (zs : List ℤ) → r ≤ most_registers → Within (start r t zs)
unfolding start
start_within r t zs h =
    record { few_cells = omega (arith, store_count r zs, h); few_bindings = omega (arith, h); few_values = lit≤ tt; few_control = root_within t }

-- What `judge` lets pass has no reason against it.
made_no_reason : (budget steps : ℕ) (τ υ : State) → judge (eqb steps budget) (goes τ) ≡ made υ → (x : Reason) → ReasonHolds budget steps (goes τ) x → ⊥
made_no_reason budget steps τ υ q x h = by_judgement (judged (eqb steps budget) (goes τ))
  where
    IsMade : Verdict → Type 0
    IsMade (made ρ) = Unit {0}
    IsMade (withheld y) = ⊥

    by_judgement : Judgement (eqb steps budget) (goes τ) → ⊥
    by_judgement (no_reason f p) = f x (reason→holds budget steps (goes τ) x h)
    by_judgement (for_reason y t l p) = subst IsMade (sym q ∙ p) tt

reach_within : (budget r : ℕ) (first : State) → Within first → (n : ℕ) (σ : State) (h : History) → Reach budget first r n σ h → Within σ
reach_within budget r first w n σ h at_start = w
reach_within budget r first w n σ h (step_made {n = m} x τ reached line q) = made_within budget m τ (made_no_reason budget m τ τ q)

-- The facts of every state that is reached.
pub state_facts : EveryStateFacts
state_facts image r t a passes registers count ranged budget steps σ h reached =
    let m = (check_exact image r t a).0 passes in
    let inv = reach_invariant a r budget (start r t registers) (start_invariant image r t a m registers ranged) steps σ h reached in
    let w = reach_within budget r (start r t registers) (start_within r t registers m.shape.registers) steps σ h reached in
    record {
      values_ranged = ranged_values inv.values;
      environment_ranged = ranged_environment inv.names;
      store_ranged = ranged_store inv.cells;
      registers_hold = λ i l. register_holds (store_of σ) inv.world i (find_typed i 0 inv.cells (world_keeps inv.values i l));
      few_cells = w.few_cells;
      few_bindings = w.few_bindings;
      few_values = w.few_values;
      few_control = w.few_control;
    }

-- ---- How the run ends.

final_values : {a : Passed} {r : ℕ} {E : Environment} {W : World} {L : List ℕ} {X : List Entry} {Θ : StackShape} {P : List State} (M : Made) → M ≡ world_made W →
    Final a Θ → ValuesTyped r E W L X Θ P → FinalValues a M X
final_values M m final_command (nothing_left q l) = refl
final_values M m final_value (value_on (value_typed {v = v} t) (nothing_left q l)) = (v, refl, ap (λ N. type_of N v) m ∙ type_is t)

-- 30 stands first in the order.
steps_first : {Holds : Reason → Type 0} (x : Reason) → FirstOf Holds x priority → Holds Steps → x ≡ Steps
unfolding priority
steps_first x (at_front later t) h = refl
steps_first x (behind r later n f) h = absurd (n h)

module _ (budget : ℕ) (first : State) (r : ℕ) (a : Passed) (inv₀ : Invariant a r first (first_history r)) where
  abbrev Ends : Ending → Type 0
  Ends x = EndsWell budget first r a x

  reached_invariant : {k : ℕ} {σ : State} {h : History} → Reach budget first r k σ h → Invariant a r σ h
  reached_invariant {k} {σ} {h} reached = reach_invariant a r budget first inv₀ k σ h reached

  -- control is empty
  ended_well : (k : ℕ) (X : List Entry) (E : Environment) (S : Store) (L : List ℕ) (n : ℕ) (h : History) → Reach budget first r k (state [] X E S L n) h → Ends (ended k (state [] X E S L n))
  ended_well k X E S L n h reached = normally h reached refl (final (reached_invariant reached))
    where
      at_end : (M : Made) {Γ : _} {W : World} {Θ : StackShape} {P : List State} → M ≡ world_made W → ControlTyped a [] Γ Θ → ValuesTyped r E W L X Θ P → FinalValues a M X
      at_end M m (done f) v = final_values M m f v

      final : Invariant a r (state [] X E S L n) h → FinalValues a h.made_types X
      final inv = at_end h.made_types inv.types inv.control inv.values

  -- a step is tried with budget left
  tried : (k left : ℕ) (σ : State) (h : History) (c : StateClaim budget k σ h) → k + suc left ≡ budget → Reach budget first r k σ h → (go : State → Ending) →
      ((τ : State) → Reach budget first r (suc k) τ (note σ h τ) → Ends (go τ)) → Ends (attempt (fire σ) k σ go)
  tried k left σ h c q reached go continue =
      subst (λ f. Ends (attempt f k σ go)) (sym (applies→fires c.rule σ c.effect c.applies)) (by_outcome c.outcome)
    where
      more : eqb k budget ≡ false
      more = false_test (eqb k budget) (λ t. later (eqb→eq k budget t))
        where
          later : k ≡ budget → ⊥
          later e = omega (arith, q, e)

      verdict : {v : Verdict} → judge (eqb k budget) c.effect ≡ v → judge false c.effect ≡ v
      verdict {v} p = subst (λ b. judge b c.effect ≡ v) more p

      by_outcome : StepOutcome budget k σ h c.effect → Ends (proceed (judge false c.effect) k σ go)
      by_outcome (step_is_made m) =
          subst (λ v. Ends (proceed v k σ go)) (sym (verdict m.is_made))
          (continue m.after
          (step_made c.rule m.after reached (subst (Applies c.rule σ) m.goes_there c.applies) (subst (λ e. judge (eqb k budget) e ≡ made m.after) m.goes_there m.is_made)))
      by_outcome (step_is_withheld w) =
          subst (λ v. Ends (proceed v k σ go)) (sym (verdict w.is_withheld)) (withheld_for h c.rule c.effect reached c.applies w refl)

  -- no budget is left
  spent : (k : ℕ) (σ : State) (h : History) (c : StateClaim budget k σ h) → k ≡ budget → Reach budget first r k σ h → Ends (stopped Steps k σ)
  spent k σ h c q reached = by_outcome c.outcome
    where
      by_outcome : StepOutcome budget k σ h c.effect → Ends (stopped Steps k σ)
      by_outcome (step_is_made m) = absurd (m.no_reason Steps (budget_used q))
      by_outcome (step_is_withheld w) = withheld_for h c.rule c.effect reached c.applies w (steps_first w.reason w.first (budget_used q))

  ends : (left k : ℕ) (σ : State) (h : History) → k + left ≡ budget → Reach budget first r k σ h → Ends (run left k σ)
  unfolding run
  ends zero k (state [] X E S L n) h q reached = ended_well k X E S L n h reached
  ends zero k (state (i ∷ C) X E S L n) h q reached =
      spent k (state (i ∷ C) X E S L n) h
      (claim a r budget k (state (i ∷ C) X E S L n) h (reached_invariant reached) cons_not_empty) (sym (add-zero k) ∙ q) reached
  ends (suc left) k (state [] X E S L n) h q reached = ended_well k X E S L n h reached
  ends (suc left) k (state (i ∷ C) X E S L n) h q reached =
      tried k left (state (i ∷ C) X E S L n) h
      (claim a r budget k (state (i ∷ C) X E S L n) h (reached_invariant reached) cons_not_empty) q reached (λ τ. run left (suc k) τ)
      (λ τ reached'. ends left (suc k) τ (note (state (i ∷ C) X E S L n) h τ) (omega (arith, q)) reached')

-- The run ends at a reached state, with control empty or with a reason that holds, and is never without a rule.
pub run_ends : RunEndsWell
run_ends image r t a passes registers count ranged budget =
    ends budget (start r t registers) r a (start_invariant image r t a ((check_exact image r t a).0 passes) registers ranged) budget 0 (start r t registers) (first_history r)
    (zero-add budget) at_start
