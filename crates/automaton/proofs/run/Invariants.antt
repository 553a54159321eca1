-- run: each time round the run's record holds a state of the run by the rules, and the marks so far.
use Prim.Native.Nat.{ℕ, ◌-◌, ◌≤◌}
use Rattle.rules.specs.declared.kinds.Passed.{Passed}
use Rattle.rules.specs.paper.States.{State}
use Rattle.rules.specs.claims.History.{History}
use Rattle.rules.proofs.running.Continuation.{Invariant}
use Rattle.machine.specs.Steps.{Holds}
use Rattle.automaton.proofs.run_laws.RunLaws.{Reached}
use Rattle.automaton.proofs.run.Given as goal

abbrev pub invariant-loop-reached : goal.invariant-loop-reached
invariant-loop-reached l =
    (l.steps ≤ l.fn.budget) × (
    (a : Passed) (r : ℕ) (σ : State) (h : History) → Holds l.initial.work l.initial.reached.machine σ → Invariant a r σ h →
    Reached l.fn.budget σ a r l.initial.work l.work l.reached.machine l.reached.marks l.steps (l.fn.budget - l.steps))

abbrev pub decreases-loop-reached : goal.decreases-loop-reached
decreases-loop-reached l = l.budget - l.steps
