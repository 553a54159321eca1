-- What is claimed of the high marks of a run (document 02, request 9): each is the size of a state that the run reaches, and none that it
-- reaches is above; and the marks of a reply never exceed the needs that are worked out before loading. This file names the automaton's
-- definitions and nothing of the proofs, which stand in proofs/needs.
use Rattle.std.specs.Prelude.{ℕ, ◌≤◌, ◌≡◌, false, List, ℤ}
use Rattle.rules.specs.paper.States.{State}
use Rattle.rules.specs.paper.Run.{ended, run}
use Rattle.rules.specs.paper.Needs.{Figure, Sizes, sizes, routine_need, has_loop, has_conditional}
use Rattle.rules.specs.paper.HighMarks.{size, high_marks}
use Rattle.rules.specs.paper.Engine.{start, engine, MostSteps, figures, needs}
use Rattle.rules.specs.claims.History.{History, Reach}
use Rattle.rules.specs.claims.Claim.{AllInRange}
use Rattle.rules.specs.claims.FreeRun.{ForPassed, SizeMet}

-- ---- The most over all states that a run reaches, the first included.

pub record MostReached (budget : ℕ) (first : State) (registers : ℕ) (most : Sizes) : Type 0 where
  pub is_reached : (f : Figure) → SizeMet budget first registers f (most f)
  pub none_above : (steps : ℕ) (σ : State) (h : History) → Reach budget first registers steps σ h → (f : Figure) → size σ f ≤ most f

-- From any state, with any budget.
abbrev pub HighMarksAreMost : Type 0
HighMarksAreMost = (budget : ℕ) (first : State) (registers : ℕ) → MostReached budget first registers (high_marks budget first)

-- ---- The needs.

-- For every passed image, one starting value per register and any budget the marks are at most the figures ..
abbrev pub HighMarksWithinNeeds : Type 0
HighMarksWithinNeeds =
    ForPassed
    (λ r t a registers.
    (budget : ℕ) (f : Figure) → high_marks budget (start r t registers) f ≤ (routine_need r t).most f)

-- .. and without Loop and Cond, where the run ends normally, they are the figures.
abbrev pub HighMarksAreNeeds : Type 0
HighMarksAreNeeds =
    ForPassed
    (λ r t a registers.
    has_loop t ≡ false → has_conditional t ≡ false →
    (budget k : ℕ) (τ : State) → run budget 0 (start r t registers) ≡ ended k τ →
    (f : Figure) → high_marks budget (start r t registers) f ≡ (routine_need r t).most f)

-- Of the replies: whatever a run is called with, and whatever it answers, its marks are at most the figures that the needs give for its image.
abbrev pub RepliesWithinNeeds : Type 0
RepliesWithinNeeds =
    (image : List ℕ) (lent : List ℕ) (control values cells bindings : ℕ) (steps : MostSteps) → (needs image lent).answer ≡ figures control values cells bindings steps →
    (registers : List ℤ) → AllInRange registers → (budget : ℕ) (work : List ℕ) (f : Figure) →
    (engine image registers budget work).reply.most f ≤ sizes control values cells bindings f
