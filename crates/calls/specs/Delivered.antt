-- Demand 3 for what `run` runs, proved: `run_is_whole` from the whole-run theorem of the rules; and that its marks are within the needs,
-- `runs_within_needs`.
use Rattle.std.specs.Prelude.{ℕ, suc, ◌<◌, ◌≤◌, refl, ◌≡◌, List, [], ◌∷◌, length, get_or}
use Rattle.std.proofs.Common.{sym, ap, ◌∙◌, subst, arith}
use borrow.Author.Tests.{le-ltb, le-leb, eq-eqb}
use Rattle.rules.specs.paper.Limits.{most_budget, work_words}
use Rattle.rules.specs.paper.Run.{Ending, ended, stopped, run, lost}
use Rattle.rules.specs.paper.HighMarks.{high_marks}
use Rattle.rules.proofs.needs.HighMarks.{high_marks_are_most, replies_within_needs}
use Rattle.rules.specs.paper.Needs.{Figure, control, values, cells, bindings, sizes}
use Rattle.rules.specs.paper.Engine.{start, cleared, finish, engine, Answer, MostSteps, NeedsAnswer, figures, no_figures, needs}
use Rattle.rules.specs.claims.Claim.{AllInRange}
use Rattle.rules.specs.claims.Ends.{EndsWell, normally, withheld_for}
use Rattle.rules.proofs.running.WholeRun.{whole_run}
use Rattle.rules.proofs.running.RunEnds.{run_ends}
use Rattle.integers.specs.Words.{integers_of, words_of}
use Rattle.integers.specs.WordLaws.{integer_in_range, integers_length}
use Rattle.automaton.specs.Runs.{marks_of}
use Rattle.automaton.specs.declared.meter.HighMarks.{HighMarks}
use Rattle.calls.specs.Needs.{needs_reply}
use Rattle.calls.specs.Runs.{ran, run_call}
use Rattle.calls.specs.Claim.{at_its_end, withheld_there, Delivered, EngineDelivers, RunsAreWhole, MarksWithin, RunsWithinNeeds}

-- Words hold integers of the range.
pub all_in_range : (ws : List ℕ) → ((i : ℕ) → i < length ws → get_or ws i 0 < 18446744073709551616) → AllInRange (integers_of ws)
unfolding integers_of
all_in_range [] low = tt
all_in_range (w ∷ ws) low = (integer_in_range w (low 0 (omega arith)), all_in_range ws (λ i h. low (suc i) (omega (arith, h))))

pub delivered : EngineDelivers
delivered image r t a passes registers count ranged budget few work room =
    subst (Delivered a r (start r t registers) budget) (sym is) (by (run budget 0 (start r t registers)) (run_ends image r t a passes registers count ranged budget))
  where
    is : engine image registers budget work ≡ finish r (cleared work) (high_marks budget (start r t registers)) (run budget 0 (start r t registers))
    is = unfold engine in (rw (le-ltb (length work) work_words room, le-leb budget most_budget few, passes, eq-eqb (length registers) r count))

    by : (e : Ending) → EndsWell budget (start r t registers) r a e → Delivered a r (start r t registers) budget (finish r (cleared work) (high_marks budget (start r t registers)) e)
    by (ended k σ) (normally h reached empty final) =
        record { last = σ; history = h; reached = reached; answered = at_its_end empty final; registers_are = refl; marked = high_marks_are_most budget (start r t registers) r; claimed = whole_run image r t a passes registers count ranged budget few }
    by (stopped x k σ) (withheld_for h rule e reached applies w q) =
        record { last = σ; history = h; reached = reached; answered = withheld_there rule e applies w q; registers_are = refl; marked = high_marks_are_most budget (start r t registers) r; claimed = whole_run image r t a passes registers count ranged budget few }
    by (lost k σ) no_end = elim no_end [ ]

pub run_is_whole : RunsAreWhole
run_is_whole image registers budget work answer last p q t a passes low few room =
    let d = delivered image (length registers) t a passes (integers_of registers) (integers_length registers) (all_in_range registers low) budget few work room in
    record {
      steps = (run_call image registers budget work).reply.steps;
      state_at_end = d.last;
      history = d.history;
      reached = d.reached;
      what = (run_call image registers budget work).reply.answer;
      answered = d.answered;
      most = (run_call image registers budget work).reply.most;
      marked = d.marked;
      answer_is = p;
      registers_are = q ∙ ap words_of d.registers_are;
      claimed = d.claimed;
    }

marks_of_reply : (a : Answer) (steps : ℕ) (h : HighMarks) → (ran a steps h).marks ≡ h
marks_of_reply a k h = refl

pub runs_within_needs : RunsWithinNeeds
runs_within_needs image registers budget work lent answer estimated p q low =
    subst (λ e. MarksWithin answer.marks e) (sym q)
    (subst (λ h. MarksWithin h (needs_reply (needs image lent).answer)) (sym (ap (λ a. a.marks) p)) (by (needs image lent).answer refl))
  where
    within : (k v c b : ℕ) (s : MostSteps) → (needs image lent).answer ≡ figures k v c b s → (f : Figure) → (run_call image registers budget work).reply.most f ≤ sizes k v c b f
    within k v c b s e f = replies_within_needs image lent k v c b s e (integers_of registers) (all_in_range registers low) budget work f

    by : (n : NeedsAnswer) → (needs image lent).answer ≡ n → MarksWithin (marks_of (run_call image registers budget work).reply.most) (needs_reply n)
    by (figures k v c b s) e = (within k v c b s e control, within k v c b s e values, within k v c b s e cells, within k v c b s e bindings)
    by (no_figures x r) e = tt
