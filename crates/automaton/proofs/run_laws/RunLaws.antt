-- The run's loop: what holds each time round, and how it ends.
use Prim.Native.Nat.{ℕ, zero, suc, ◌+◌}
use mathlib.Core.Path.{◌≡◌, refl, sym, ap, ◌∙◌, subst}
use mathlib.Core.Bool.{false}
use mathlib.Core.List.{List, [], ◌∷◌}
use native.Mathlib.Omega.{arith}
use Rattle.rules.specs.declared.refusals.Reason.{Reason}
use Rattle.rules.specs.declared.refusals.Reason.TheVariants.{Steps}
use Rattle.rules.specs.paper.Checker.{Scope}
use Rattle.rules.specs.declared.kinds.Passed.{Passed}
use Rattle.rules.specs.paper.States.{Environment, Store, Entry, environment, locations, Item, mark, extend_mark, State, state}
use Rattle.rules.specs.paper.Rules.{Rule, Effect, Applies}
use Rattle.rules.specs.paper.Fire.{fire, fires}
use Rattle.rules.proofs.running.FireExact.{applies→fires}
use Rattle.rules.proofs.running.Judging.{made_goes}
use Rattle.rules.specs.paper.Run.{Verdict, made, withheld, judge, ended, stopped, attempt, run}
use Rattle.rules.specs.paper.HighMarks.{high_marks}
use Rattle.rules.specs.claims.History.{History, note}
use Rattle.rules.proofs.running.Continuation.{StackShape, declared, opened, ControlTyped, extend_mark_typed, ValuesTyped, declared_on, opened_on, Invariant}
use Rattle.rules.proofs.running.World.{World}
use Rattle.rules.proofs.running.Progress.{Next}
use Rattle.rules.proofs.running.WholeRun.{progress}
use Rattle.machine.specs.Steps.{Holds, Untouched, StepAnswer, AtExtendMark}
use Rattle.automaton.specs.Runs.{EnabledAt, Enabled, StepsFrom, ending_of, RunAnswer}
use Rattle.machine.specs.declared.Machine.{Machine}
use Rattle.std.specs.Prelude.{Result, Ok, Err}
use Rattle.automaton.specs.Meter.{first_marks, after_step}
use Rattle.automaton.specs.declared.meter.HighMarks.{HighMarks}
use Rattle.automaton.proofs.run_laws.MarkedLaws.{Marked, marked_at_start, marked_on, marked_at_end, marked_spent, marked_withheld}
use Rattle.machine.proofs.state_laws.ModelLaws.{sizes}

-- ---- A rule applies in every state of the run.

-- At a block's first mark the declared names lie on the block's location set.
first_values : {a : Passed} {r : ℕ} {C : List Item} {X : List Entry} {E : Environment} {W : World} {L : List ℕ} {P : List State} {Γ : Scope} {Θ : StackShape} →
    ControlTyped a (mark extend_mark ∷ C) Γ Θ → ValuesTyped r E W L X Θ P → (D : Environment) × (K : List ℕ) × (Y : List Entry) × (X ≡ environment D ∷ locations K ∷ Y)
first_values (extend_mark_typed c) v = below v
  where
    below : {r : ℕ} {X : List Entry} {E : Environment} {W : World} {L : List ℕ} {P : List State} {Δ Γ : Scope} {p : ℕ} {Θ : StackShape} →
        ValuesTyped r E W L X (declared Δ (opened p Γ Θ)) P → (D : Environment) × (K : List ℕ) × (Y : List Entry) × (X ≡ environment D ∷ locations K ∷ Y)
    below (declared_on {D = D} e (opened_on {K = K} {X = Y} t g s w)) = (D, K, Y, refl)

extend_mark_shape : (a : Passed) (r : ℕ) (i : Item) (C : List Item) (X : List Entry) (E : Environment) (S : Store) (L : List ℕ) (n : ℕ) (h : History) →
    Invariant a r (state (i ∷ C) X E S L n) h → AtExtendMark i X
extend_mark_shape a r i C X E S L n h inv q = first_values (subst (λ j. ControlTyped a (j ∷ C) inv.scope inv.shape) q inv.control) inv.values

pub record Moves (words : List ℕ) (m : Machine) (a : Passed) (r : ℕ) (σ : State) (h : History) : Type 0 where
  pub item : Item
  pub control : List Item
  pub values : List Entry
  pub environment_then : Environment
  pub store : Store
  pub locations_then : List ℕ
  pub bindings : ℕ
  pub rule : Rule
  pub effect : Effect
  pub is : σ ≡ state (item ∷ control) values environment_then store locations_then bindings
  pub enabled : EnabledAt words m item control values environment_then store locations_then bindings rule effect
  pub applies : Applies rule σ effect
  pub fired : fire σ ≡ fires rule effect
  pub next : Next a r σ h effect

pub moves : (words : List ℕ) (m : Machine) (a : Passed) (r : ℕ) (σ : State) (h : History) → Holds words m σ → Invariant a r σ h → (m.control ≡ 0 → ⊥) → Moves words m a r σ h
moves words m a r (state [] X E S L n) h held inv d = absurd (d (sym (sizes words m held.models).control_height))
moves words m a r (state (i ∷ C) X E S L n) h held inv d =
    let p = progress a r (state (i ∷ C) X E S L n) h inv some_left in
    record {
      item = i;
      control = C;
      values = X;
      environment_then = E;
      store = S;
      locations_then = L;
      bindings = n;
      rule = p.rule;
      effect = p.effect;
      is = refl;
      enabled = record { stands = held; applies = p.applies; at_extend_mark = extend_mark_shape a r i C X E S L n h inv };
      applies = p.applies;
      fired = applies→fires p.rule (state (i ∷ C) X E S L n) p.effect p.applies;
      next = p.next;
    }
  where
    IsEmpty : List Item → Type 0
    IsEmpty [] = Unit {0}
    IsEmpty (j ∷ D) = ⊥

    some_left : i ∷ C ≡ [] → ⊥
    some_left q = subst IsEmpty (sym q) tt

-- ---- One turn of the run.

turn : (left k : ℕ) (i : Item) (C : List Item) (X : List Entry) (E : Environment) (S : Store) (L : List ℕ) (n : ℕ) (r : Rule) (e : Effect) → fire (state (i ∷ C) X E S L n) ≡ fires r e →
    run (suc left) k (state (i ∷ C) X E S L n) ≡ attempt (fires r e) k (state (i ∷ C) X E S L n) (λ τ. run left (suc k) τ)
unfolding run
turn left k i C X E S L n r e q = rw q

pub turn_made : (words : List ℕ) (m : Machine) (a : Passed) (r left k : ℕ) (σ : State) (h : History) (μ : Moves words m a r σ h) (τ : State) → judge false μ.effect ≡ made τ →
    run (suc left) k σ ≡ run left (suc k) τ
turn_made words m a r left k σ h μ τ q =
    ap (run (suc left) k) μ.is
    ∙ turn left k μ.item μ.control μ.values μ.environment_then μ.store μ.locations_then μ.bindings μ.rule μ.effect (ap fire (sym μ.is) ∙ μ.fired)
    ∙ rw q

pub turn_withheld : (words : List ℕ) (m : Machine) (a : Passed) (r left k : ℕ) (σ : State) (h : History) (μ : Moves words m a r σ h) (x : Reason) → judge false μ.effect ≡ withheld x →
    run (suc left) k σ ≡ stopped x k σ
turn_withheld words m a r left k σ h μ x q =
    ap (run (suc left) k) μ.is
    ∙ turn left k μ.item μ.control μ.values μ.environment_then μ.store μ.locations_then μ.bindings μ.rule μ.effect (ap fire (sym μ.is) ∙ μ.fired)
    ∙ rw q (ap (stopped x k) (sym μ.is))

pub empty_end : (words : List ℕ) (m : Machine) (left k : ℕ) (σ : State) → Holds words m σ → m.control ≡ 0 → run left k σ ≡ ended k σ
unfolding run
empty_end words m zero k (state [] X E S L n) held q = refl
empty_end words m (suc left) k (state [] X E S L n) held q = refl
empty_end words m left k (state (i ∷ C) X E S L n) held q = absurd (omega (arith, (sizes words m held.models).control_height, q))

pub spent_end : (words : List ℕ) (m : Machine) (left k : ℕ) (σ : State) → Holds words m σ → (m.control ≡ 0 → ⊥) → left ≡ 0 → run left k σ ≡ stopped Steps k σ
unfolding run
spent_end words m zero k (state [] X E S L n) held d q = absurd (d (sym (sizes words m held.models).control_height))
spent_end words m zero k (state (i ∷ C) X E S L n) held d q = refl
spent_end words m (suc left) k σ held d q = absurd (omega (arith, q))

-- ---- Each time round.

-- After so many steps the machine holds a state of the run, from which the run goes on with what is left of the budget.
pub record Reached (budget : ℕ) (first : State) (a : Passed) (r : ℕ) (before words : List ℕ) (m : Machine) (marks : HighMarks) (steps left : ℕ) : Type 0 where
  pub now_in : State
  pub history : History
  pub held : Holds words m now_in
  pub invariant : Invariant a r now_in history
  pub goes_on : run budget 0 first ≡ run left steps now_in
  pub marked : Marked budget first left now_in m marks
  pub untouched : Untouched before words

pub at_start : (budget : ℕ) (σ : State) (a : Passed) (r : ℕ) (h : History) (words : List ℕ) (m : Machine) (marks : HighMarks) (left : ℕ) → left ≡ budget → marks ≡ first_marks m → Holds words m σ → Invariant a r σ h →
    Reached budget σ a r words words m marks 0 left
at_start budget σ a r h words m marks left whole same held inv =
    record {
      now_in = σ;
      history = h;
      held = held;
      invariant = inv;
      goes_on = ap (λ l. run l 0 σ) (sym whole);
      marked = subst (λ l. Marked budget σ l σ m marks) (sym whole) (subst (Marked budget σ budget σ m) (sym same) (marked_at_start budget σ words m held));
      untouched = record { same_nodes = refl; same_beyond = refl; same_length = refl };
    }

module _ (budget : ℕ) (first : State) (a : Passed) (r : ℕ) (before words : List ℕ) (m : Machine) (marks : HighMarks) (steps left : ℕ) (here : Reached budget first a r before words m marks steps left) where
  -- What `run` answers with the run's record as it is now.
  abbrev Answers : Result (Unit {0}) Reason → (steps_made : ℕ) → (after : List ℕ) → Type 0
  Answers outcome k after = RunAnswer (high_marks budget first) (run budget 0 first) (ending_of outcome k m marks) before after

  pub enabled_here : (m.control ≡ 0 → ⊥) → Enabled words m
  enabled_here d =
      let μ = moves words m a r here.now_in here.history here.held here.invariant d in
      record {
        item = μ.item;
        control = μ.control;
        values = μ.values;
        environment = μ.environment_then;
        store = μ.store;
        locations = μ.locations_then;
        bindings = μ.bindings;
        rule = μ.rule;
        effect = μ.effect;
        enabled = μ.enabled;
      }

  pub ends_here : m.control ≡ 0 → (k : ℕ) → k ≡ steps → Answers (Ok tt) k words
  ends_here q k so_many =
      subst (λ e. RunAnswer (high_marks budget first) e (ending_of (Ok tt) k m marks) before words) (sym (here.goes_on ∙ empty_end words m left steps here.now_in here.held q))
      (record {
        machine = m;
        answer_is = ap (λ n. ending_of (Ok tt) n m marks) so_many ∙ ap (ending_of (Ok tt) steps m) (marked_at_end budget first here.now_in words m marks here.held left here.marked q);
        holds = here.held;
        untouched = here.untouched;
      })

  pub spent_here : (m.control ≡ 0 → ⊥) → left ≡ 0 → (k : ℕ) → k ≡ steps → Answers (Err Steps) k words
  spent_here d q k so_many =
      subst (λ e. RunAnswer (high_marks budget first) e (ending_of (Err Steps) k m marks) before words) (sym (here.goes_on ∙ spent_end words m left steps here.now_in here.held d q))
      (record {
        machine = m;
        answer_is = ap (λ n. ending_of (Err Steps) n m marks) so_many ∙ ap (ending_of (Err Steps) steps m) (marked_spent budget first here.now_in words m marks here.held left here.marked q);
        holds = here.held;
        untouched = here.untouched;
      })

  module _ (d : m.control ≡ 0 → ⊥) (rest : ℕ) (some_left : left ≡ suc rest) (answer : Result Machine Reason) (after : List ℕ) (made_is : StepsFrom words m answer after) where
    abbrev move : Moves words m a r here.now_in here.history
    move = moves words m a r here.now_in here.history here.held here.invariant d

    answered : StepAnswer (judge false move.effect) answer words after
    answered =
        made_is move.item move.control move.values move.environment_then move.store move.locations_then move.bindings move.rule move.effect move.enabled

    marked_before : Marked budget first (suc rest) here.now_in m marks
    marked_before = subst (λ l. Marked budget first l here.now_in m marks) some_left here.marked

    same_machine : (s t : Machine) → answer ≡ Ok s → answer ≡ Ok t → s ≡ t
    same_machine s t p q = cc

    not_both : (s : Machine) (x : Reason) → answer ≡ Ok s → answer ≡ Err x → ⊥
    not_both s x p q = cc

    same_reason : (x y : Reason) → answer ≡ Err x → answer ≡ Err y → x ≡ y
    same_reason x y p q = cc

    untouched_then : Untouched words after → Untouched before after
    untouched_then u =
        record {
          same_nodes = u.same_nodes ∙ here.untouched.same_nodes;
          same_beyond = u.same_beyond ∙ here.untouched.same_beyond;
          same_length = u.same_length ∙ here.untouched.same_length;
        }

    pub goes_round : (next : Machine) → answer ≡ Ok next → (raised : HighMarks) → raised ≡ after_step marks answer → Reached budget first a r before after next raised (steps + 1) rest
    goes_round next q raised same = by (judge false move.effect) refl answered
      where
        one_more : (k : ℕ) → suc k ≡ k + 1
        one_more k = omega arith

        by : (v : Verdict) → judge false move.effect ≡ v → StepAnswer v answer words after → Reached budget first a r before after next raised (steps + 1) rest
        by (made τ) e t =
            record {
              now_in = τ;
              history = note here.now_in here.history τ;
              held = subst (λ s. Holds after s τ) (same_machine t.machine next t.answer q) t.holds;
              invariant = (subst (Next a r here.now_in here.history) (made_goes move.effect τ e) move.next).invariant;
              goes_on =
                  here.goes_on
                  ∙ ap (λ l. run l steps here.now_in) some_left
                  ∙ turn_made words m a r rest steps here.now_in here.history move τ e
                  ∙ ap (λ k. run rest k τ) (one_more steps);
              marked =
                  subst (Marked budget first rest τ next) (sym same)
                  (marked_on budget first here.now_in words m marks here.held rest marked_before move.rule move.effect τ move.applies e after next
                  (subst (λ s. Holds after s τ) (same_machine t.machine next t.answer q) t.holds) answer q);
              untouched = untouched_then t.untouched;
            }
        by (withheld x) e t = absurd (not_both next x q t.answer)

    pub stops_here : (x : Reason) → answer ≡ Err x → Answers (Err x) steps after
    stops_here x q = by (judge false move.effect) refl answered
      where
        by : (v : Verdict) → judge false move.effect ≡ v → StepAnswer v answer words after → Answers (Err x) steps after
        by (made τ) e t = absurd (not_both t.machine x t.answer q)
        by (withheld y) e t =
            subst (λ f. RunAnswer (high_marks budget first) f (ending_of (Err x) steps m marks) before after)
            (sym (here.goes_on ∙ ap (λ l. run l steps here.now_in) some_left ∙ turn_withheld words m a r rest steps here.now_in here.history move y e))
            (record {
              machine = m;
              answer_is =
                  ap (λ z. ending_of (Err z) steps m marks) (same_reason x y q t.answer)
                  ∙ ap (ending_of (Err y) steps m) (marked_withheld budget first here.now_in words m marks here.held rest marked_before move.rule move.effect y move.applies e);
              holds = subst (λ ws. Holds ws m here.now_in) (sym t.unchanged) here.held;
              untouched = subst (Untouched before) (sym t.unchanged) here.untouched;
            })
