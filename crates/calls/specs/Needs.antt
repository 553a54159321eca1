-- What `needs` answers, by the definitions of the rules: the figures, with the steps or open, or the refusal with its place.
use Rattle.std.specs.Prelude.{ℕ, ◌≤◌, ◌≡◌, List, Option, Some, None, Result, Ok}
use Rattle.rules.specs.paper.Tree.{Root}
use Rattle.rules.specs.Answers.{refused_at}
use Rattle.rules.specs.declared.refusals.Refused.{Refused}
use Rattle.rules.specs.paper.Needs.{Figure, routine_need}
use Rattle.rules.specs.paper.Engine.{MostSteps, given, left_open, NeedsAnswer, figures, no_figures, figures_of}
use Rattle.rules.specs.claims.FreeRun.{most_room}
use Rattle.reader.specs.Stored.{RootAt}
use Rattle.estimator.specs.declared.figures.Need.{Need}
use Rattle.calls.specs.declared.Estimated.{Estimated}

-- The steps, none where they are open.
abbrev pub steps_given : MostSteps → Option ℕ
steps_given (given s) = Some s
steps_given left_open = None

abbrev pub needs_reply : NeedsAnswer → Result Estimated Refused
needs_reply (figures k v c b s) = Ok (record { control = k; values = v; cells = c; bindings = b; steps = steps_given s })
needs_reply (no_figures x p) = refused_at x p

-- A need's figures, with these steps.
abbrev pub with_steps : Need → Option ℕ → Estimated
with_steps n s = record { control = n.control; values = n.values; cells = n.cells; bindings = n.bindings; steps = s }

-- The room figures are small, as those of every passed image are (rules, `figures_small`).
abbrev pub SmallRoom : (registers : ℕ) → Root → Type 0
SmallRoom registers t = (f : Figure) → (routine_need registers t).most f ≤ most_room

abbrev pub SmallTree : List ℕ → (registers nodes : ℕ) → Type 0
SmallTree words registers nodes = (t : Root) × RootAt words nodes t × SmallRoom registers t

-- The figures of the tree that stands there.
abbrev pub EstimatedAs : List ℕ → (registers nodes : ℕ) → Result Estimated Refused → Type 0
EstimatedAs words registers nodes r = (t : Root) → RootAt words nodes t → SmallRoom registers t → r ≡ needs_reply (figures_of registers t)
