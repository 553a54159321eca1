-- The meter along a run: its marks cover the state that was reached last, and with the high marks of what is ahead they are those of the whole run.
use Prim.Native.Nat.{ℕ, suc, ◌≤◌, max}
use mathlib.Core.Path.{◌≡◌, refl, sym, ap, ◌∙◌, subst}
use mathlib.Core.Bool.{false}
use mathlib.Core.List.{List, [], ◌∷◌}
use native.Mathlib.Omega.{arith}
use Rattle.rules.specs.declared.refusals.Reason.{Reason}
use Rattle.rules.specs.paper.States.{State, state}
use Rattle.rules.specs.paper.Rules.{Rule, Effect, Applies}
use Rattle.rules.specs.paper.Run.{made, withheld, judge}
use Rattle.rules.specs.paper.Needs.{Figure, control, values, cells, bindings, Sizes, sizes}
use Rattle.rules.specs.paper.HighMarks.{size, high_marks}
use Rattle.rules.proofs.running.HighMarkLaws.{here_counted, marks_spent, marks_at_end, marks_withheld, marks_made}
use Rattle.machine.specs.Steps.{Holds}
use Rattle.machine.specs.declared.Machine.{Machine}
use Rattle.std.specs.Prelude.{Result, Ok}
use Rattle.machine.proofs.state_laws.ModelLaws as model_laws
use Rattle.automaton.specs.Runs.{marks_of}
use Rattle.automaton.specs.Meter.{first_marks, all_raised, after_step, Covers}
use Rattle.automaton.specs.declared.meter.HighMarks.{HighMarks}
use Rattle.automaton.proofs.run_laws.MeterLaws.{same_marks}

-- ---- Marks by size.

abbrev marked_size : HighMarks → Sizes
marked_size h = sizes h.control h.values h.cells h.bindings

-- The machine's heights are the sizes of the state that it holds.
held_size : (words : List ℕ) (m : Machine) (σ : State) → Holds words m σ → (f : Figure) → size σ f ≡ marked_size (first_marks m) f
held_size words m (state C X E S L n) held control = (model_laws.sizes words m held.models).control_height
held_size words m (state C X E S L n) held values = (model_laws.sizes words m held.models).values_height
held_size words m (state C X E S L n) held cells = (model_laws.sizes words m held.models).cells_height
held_size words m (state C X E S L n) held bindings = (model_laws.sizes words m held.models).bindings_height

covered : (h : HighMarks) (m : Machine) → Covers h m → (f : Figure) → marked_size (first_marks m) f ≤ marked_size h f
covered h m c control = c.control_below
covered h m c values = c.values_below
covered h m c cells = c.cells_below
covered h m c bindings = c.bindings_below

raised_size : (h : HighMarks) (m : Machine) (f : Figure) → marked_size (all_raised h m) f ≡ max (marked_size h f) (marked_size (first_marks m) f)
raised_size h m control = refl
raised_size h m values = refl
raised_size h m cells = refl
raised_size h m bindings = refl

-- ---- Along the run.

pub record Marked (budget : ℕ) (first : State) (left : ℕ) (σ : State) (m : Machine) (h : HighMarks) : Type 0 where
  pub covers : Covers h m
  pub counted : (f : Figure) → high_marks budget first f ≡ max (marked_size h f) (high_marks left σ f)

pub marked_at_start : (budget : ℕ) (σ : State) (words : List ℕ) (m : Machine) → Holds words m σ → Marked budget σ budget σ m (first_marks m)
marked_at_start budget σ words m held =
    record {
      covers = record { cells_below = omega arith; bindings_below = omega arith; values_below = omega arith; control_below = omega arith };
      counted = λ f. omega (arith, here_counted budget σ f, held_size words m σ held f);
    }

module _ (budget : ℕ) (first : State) (σ : State) (words : List ℕ) (m : Machine) (h : HighMarks) (held : Holds words m σ) where
  -- No mark is below a size of this state.
  above : Covers h m → (f : Figure) → size σ f ≤ marked_size h f
  above c f = subst (λ k. k ≤ marked_size h f) (sym (held_size words m σ held f)) (covered h m c f)

  -- A step is made.
  pub marked_on : (left : ℕ) → Marked budget first (suc left) σ m h → (r : Rule) (e : Effect) (τ : State) → Applies r σ e → judge false e ≡ made τ → (after : List ℕ) (next : Machine) → Holds after next τ →
      (answer : Result Machine Reason) → answer ≡ Ok next → Marked budget first left τ next (after_step h answer)
  marked_on left marked r e τ line q after next held_next answer is =
      subst (λ a. Marked budget first left τ next (after_step h a)) (sym is)
      (record {
        covers = record { cells_below = omega arith; bindings_below = omega arith; values_below = omega arith; control_below = omega arith };
        counted = λ f.
            omega (
              arith,
              marked.counted f,
              marks_made left σ r e τ line q f,
              above marked.covers f,
              raised_size h next f,
              held_size after next τ held_next f,
              here_counted left τ f,
            );
      })

  -- Nothing is ahead: the marks are those of the run.
  all_marked : (left : ℕ) → Marked budget first left σ m h → ((f : Figure) → high_marks left σ f ≡ size σ f) → h ≡ marks_of (high_marks budget first)
  all_marked left marked OnlyHere = same_marks (same cells) (same bindings) (same values) (same control)
    where
      same : (f : Figure) → marked_size h f ≡ high_marks budget first f
      same f = omega (arith, marked.counted f, OnlyHere f, above marked.covers f)

  pub marked_at_end : (left : ℕ) → Marked budget first left σ m h → m.control ≡ 0 → h ≡ marks_of (high_marks budget first)
  marked_at_end left marked q = all_marked left marked (at_end σ held)
    where
      at_end : (τ : State) → Holds words m τ → (f : Figure) → high_marks left τ f ≡ size τ f
      at_end (state [] X E S L n) on f = marks_at_end left (state [] X E S L n) refl f
      at_end (state (i ∷ C) X E S L n) on f = absurd (omega (arith, (model_laws.sizes words m on.models).control_height, q))

  pub marked_spent : (left : ℕ) → Marked budget first left σ m h → left ≡ 0 → h ≡ marks_of (high_marks budget first)
  marked_spent left marked q = all_marked left marked (λ f. ap (λ l. high_marks l σ f) q ∙ marks_spent σ f)

  pub marked_withheld : (left : ℕ) → Marked budget first (suc left) σ m h → (r : Rule) (e : Effect) (x : Reason) → Applies r σ e → judge false e ≡ withheld x → h ≡ marks_of (high_marks budget first)
  marked_withheld left marked r e x line q = all_marked (suc left) marked (marks_withheld left σ r e x line q)
