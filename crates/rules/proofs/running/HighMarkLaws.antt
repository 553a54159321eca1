-- The high marks of a run, turn by turn: what they are at its end, at a step that is withheld and at one that is made.
use Rattle.std.specs.Prelude.{ℕ, zero, suc, ◌≤◌, max, ◌≡◌, refl, false, List, [], ◌∷◌}
use Rattle.std.proofs.Common.{ap, ◌∙◌, arith}
use Rattle.rules.proofs.Basics.{cons_not_empty}
use Rattle.rules.specs.paper.Refusals.{Reason}
use Rattle.rules.specs.paper.States.{Environment, Store, Entry, Item, State, state, control_of}
use Rattle.rules.specs.paper.Rules.{Rule, Effect, goes, Applies}
use Rattle.rules.specs.paper.Fire.{Firing, stuck, fires, fire}
use Rattle.rules.specs.paper.Run.{Verdict, made, withheld, judge}
use Rattle.rules.specs.paper.Needs.{Figure}
use Rattle.rules.specs.paper.HighMarks.{size, raised_by_verdict, raised_by_firing, high_marks}
use Rattle.rules.proofs.running.FireExact.{applies→fires}

-- The state itself is counted.
pub here_counted : (left : ℕ) (σ : State) (f : Figure) → size σ f ≤ high_marks left σ f
unfolding high_marks
here_counted zero σ f = omega arith
here_counted (suc left) (state [] X E S L n) f = omega arith
here_counted (suc left) (state (i ∷ C) X E S L n) f = by (fire (state (i ∷ C) X E S L n))
  where
    by_verdict : (v : Verdict) → size (state (i ∷ C) X E S L n) f ≤ raised_by_verdict v (state (i ∷ C) X E S L n) (λ τ. high_marks left τ) f
    by_verdict (made τ) = omega arith
    by_verdict (withheld x) = omega arith

    by : (g : Firing) → size (state (i ∷ C) X E S L n) f ≤ raised_by_firing g (state (i ∷ C) X E S L n) (λ τ. high_marks left τ) f
    by stuck = omega arith
    by (fires r e) = by_verdict (judge false e)

-- Where no budget is left, or control is empty, it is all.
pub marks_spent : (σ : State) (f : Figure) → high_marks 0 σ f ≡ size σ f
unfolding high_marks
marks_spent σ f = refl

pub marks_at_end : (left : ℕ) (σ : State) → control_of σ ≡ [] → (f : Figure) → high_marks left σ f ≡ size σ f
unfolding high_marks
marks_at_end zero σ q f = refl
marks_at_end (suc left) (state [] X E S L n) q f = refl
marks_at_end (suc left) (state (i ∷ C) X E S L n) q f = absurd (cons_not_empty q)

-- A rule applies, and its step is judged so.
judged_marks : (left : ℕ) (σ : State) (r : Rule) (e : Effect) (v : Verdict) → Applies r σ e → judge false e ≡ v → (f : Figure) → high_marks (suc left) σ f ≡ raised_by_verdict v σ (λ τ. high_marks left τ) f
unfolding high_marks
judged_marks left (state [] X E S L n) r e v line q f = absurd line
judged_marks left (state (i ∷ C) X E S L n) r e v line q f =
    ap (λ g. raised_by_firing g (state (i ∷ C) X E S L n) (λ τ. high_marks left τ) f) (applies→fires r (state (i ∷ C) X E S L n) e line)
    ∙ ap (λ w. raised_by_verdict w (state (i ∷ C) X E S L n) (λ τ. high_marks left τ) f) q

pub marks_withheld : (left : ℕ) (σ : State) (r : Rule) (e : Effect) (x : Reason) → Applies r σ e → judge false e ≡ withheld x → (f : Figure) → high_marks (suc left) σ f ≡ size σ f
marks_withheld left σ r e x line q f = judged_marks left σ r e (withheld x) line q f

pub marks_made : (left : ℕ) (σ : State) (r : Rule) (e : Effect) (τ : State) → Applies r σ e → judge false e ≡ made τ → (f : Figure) → high_marks (suc left) σ f ≡ max (size σ f) (high_marks left τ f)
marks_made left σ r e τ line q f = judged_marks left σ r e (made τ) line q f
