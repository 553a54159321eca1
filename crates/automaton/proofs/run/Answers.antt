-- run: each time round the run's record holds a state of the run by the rules, and the marks so far.
use Prim.Native.Nat.{ℕ, ◌+◌, ◌-◌}
use mathlib.Core.Path.{refl}
use mathlib.Core.List.{List}
use native.Mathlib.Omega.{arith}
use Rattle.rules.specs.declared.kinds.Passed.{Passed}
use Rattle.rules.specs.paper.States.{State}
use Rattle.rules.specs.claims.History.{History}
use Rattle.rules.proofs.running.Continuation.{Invariant}
use Rattle.machine.specs.Steps.{Holds}
use Rattle.machine.specs.declared.Machine.{Machine}
use Rattle.automaton.specs.declared.meter.HighMarks.{HighMarks}
use Rattle.automaton.proofs.run_laws.RunLaws.{Reached, at_start, enabled_here, ends_here, spent_here, goes_round, stops_here}
use Rattle.automaton.proofs.run.Goals as goal

given : (budget : ℕ) (work₀ : List ℕ) (first : Machine) (p : (a : Passed) × (r : ℕ) × (σ : State) × (h : History) × Holds work₀ first σ × Invariant a r σ h) (words : List ℕ) (m : Machine) (marks : HighMarks) (steps left : ℕ) →
    ((a : Passed) (r : ℕ) (σ : State) (h : History) → Holds work₀ first σ → Invariant a r σ h → Reached budget σ a r work₀ words m marks steps left) →
    Reached budget p.2 p.0 p.1 work₀ words m marks steps left
given budget work₀ first p words m marks steps left always = always p.0 p.1 p.2 p.3 p.4 p.5

pub loop-reached-init : goal.loop-reached-init
loop-reached-init c = (omega arith, λ a r σ h held inv. at_start _ σ a r h _ _ _ _ (omega arith) c.first_marks.ensures held inv)

pub advance-made-requires : goal.advance-made-requires
advance-made-requires c =
    let here = given _ _ _ c.requires _ _ _ _ _ c.loop-reached.invariant.1 in
    (enabled_here _ _ _ _ _ _ _ _ _ _ here c.if-reached-eq0.false, here.marked.covers)

pub loop-reached-preserved : goal.loop-reached-preserved
loop-reached-preserved c = (
  omega arith,
  λ a r σ h held inv.
      goes_round _ σ a r _ _ _ _ _ _ (c.loop-reached.invariant.1 a r σ h held inv) c.if-reached-eq0.false (c.args.budget - (c.loop-reached.steps + 1)) (omega arith) _ _ c.advance-made.ensures.steps _ c.in-Ok.is _ c.advance-made.ensures.marks_are,
)

pub returns-then-reached-eq0 : goal.returns-then-reached-eq0
returns-then-reached-eq0 c a r σ h held inv = ends_here _ σ a r _ _ _ _ _ _ (c.loop-reached.invariant.1 a r σ h held inv) c.if-reached-eq0.true _ refl

pub returns-then-steps-budget : goal.returns-then-steps-budget
returns-then-steps-budget c a r σ h held inv =
    spent_here _ σ a r _ _ _ _ _ _ (c.loop-reached.invariant.1 a r σ h held inv) c.if-reached-eq0.false (omega arith) _ refl

pub returns-in-Err : goal.returns-in-Err
returns-in-Err c a r σ h held inv =
    stops_here _ σ a r _ _ _ _ _ _ (c.loop-reached.invariant.1 a r σ h held inv) c.if-reached-eq0.false (c.args.budget - (c.loop-reached.steps + 1)) (omega arith) _ _ c.advance-made.ensures.steps _ c.in-Err.is
