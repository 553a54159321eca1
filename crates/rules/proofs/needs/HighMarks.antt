-- The high marks of a run are the most over the states that it reaches, and never above the needs (claims/HighMarks.antt).
use Rattle.std.specs.Prelude.{ℕ, zero, suc, ◌+◌, ◌-◌, ◌≤◌, ◌<◌, max, ◌≡◌, refl, Bool, cond, List, [], ◌∷◌, eqb, leb, ltb, ℤ, length}
use Rattle.std.proofs.Common.{sym, ap, ◌∙◌, subst, arith, zero-add, eqb-true, ne_eqb}
use Rattle.std.proofs.Math.Bool.{true, false}
use Rattle.std.proofs.lemmas.Bool.{eqb-false}
use Rattle.rules.proofs.Basics.{by_order}
use Rattle.rules.specs.paper.Tree.{Root}
use Rattle.rules.specs.paper.Refusals.{Reason, Steps}
use Rattle.rules.specs.paper.Refusals as Refusals
use Rattle.rules.specs.paper.Limits.{most_steps, most_budget, work_words}
use Rattle.rules.specs.paper.Checker.{Passed}
use Rattle.rules.specs.paper.States.{Environment, Store, Entry, Item, State, state}
use Rattle.rules.specs.paper.Rules.{Rule, Effect, goes, fails, Applies}
use Rattle.rules.specs.paper.Fire.{Firing, stuck, fires, fire}
use Rattle.rules.specs.paper.Run.{priority, holds, first_holding, Verdict, made, withheld, settle, judge, Ending, ended, stopped, lost, run}
use Rattle.rules.specs.paper.Needs.{Figure, control, values, cells, bindings, Sizes, sizes, Need, routine_need, has_loop}
use Rattle.rules.specs.paper.HighMarks.{size, larger, no_high_marks, raised_by_verdict, raised_by_firing, high_marks}
use Rattle.rules.specs.paper.Engine.{Checked, turned_back, passed, check_image, start, cleared, Called, refusing, finish, run_checked, engine, MostSteps, given, left_open, NeedsAnswer, figures, no_figures, room_figures, figures_of, needs_answer, NeedsCalled, needs}
use Rattle.rules.specs.claims.History.{History, note, Reach, at_start, step_made, first_history}
use Rattle.rules.specs.claims.Claim.{AllInRange}
use Rattle.rules.specs.claims.FreeRun.{SizeMet}
use Rattle.rules.specs.claims.HighMarks.{MostReached, HighMarksAreMost, HighMarksWithinNeeds, HighMarksAreNeeds, RepliesWithinNeeds}
use Rattle.rules.proofs.running.FireExact.{applies→fires, fires→applies}
use Rattle.rules.proofs.running.HighMarkLaws.{here_counted, marks_made}
use Rattle.rules.proofs.running.Judging.{IsWithheld, made_goes}
use Rattle.rules.proofs.needs.RunNeeds.{run_exceeds_nothing, reaches_exactly}

-- ---- None that is reached is above.

-- Where the budget is used up no step is made.
spent_withheld : (τ : State) → judge true (goes τ) ≡ withheld Steps
unfolding judge first_holding priority holds
spent_withheld τ = refl

with_budget : (steps budget : ℕ) (τ : State) → judge (eqb steps budget) (goes τ) ≡ made τ → (eqb steps budget ≡ false) × (judge false (goes τ) ≡ made τ)
with_budget steps budget τ q = by (eqb steps budget) refl
  where
    by : (t : Bool) → eqb steps budget ≡ t → (eqb steps budget ≡ false) × (judge false (goes τ) ≡ made τ)
    by true e = absurd (subst IsWithheld (sym (spent_withheld τ) ∙ ap (λ t. judge t (goes τ)) (sym e) ∙ q) tt)
    by false e = (e, ap (λ t. judge t (goes τ)) (sym e) ∙ q)

-- What is left of the budget, and the marks from a reached state on, which are among all.
record Ahead (budget : ℕ) (first : State) (steps : ℕ) (σ : State) : Type 0 where
  left : ℕ
  counted : steps + left ≡ budget
  among : (f : Figure) → high_marks left σ f ≤ high_marks budget first f

ahead : (budget : ℕ) (first : State) (r steps : ℕ) (σ : State) (h : History) → Reach budget first r steps σ h → Ahead budget first steps σ
ahead budget first r steps σ h at_start = record { left = budget; counted = zero-add budget; among = λ f. omega arith }
ahead budget first r steps σ h (step_made {n = k} {σ = ρ} {h = g} x τ reached line q) =
    let before = ahead budget first r k ρ g reached in
    let m = with_budget k budget τ q in
    by before before.left refl m
  where
    by : (before : Ahead budget first k ρ) (l : ℕ) → before.left ≡ l → (eqb k budget ≡ false) × (judge false (goes τ) ≡ made τ) → Ahead budget first (suc k) τ
    by before zero e m = absurd (eqb-false k budget m.0 (omega (arith, before.counted, e)))
    by before (suc l) e m =
        record {
          left = l;
          counted = omega (arith, before.counted, e);
          among = λ f. omega (arith, marks_made l ρ x (goes τ) τ line m.1 f, subst (λ n. high_marks n ρ f ≤ high_marks budget first f) e (before.among f));
        }

-- ---- Each is reached.

abbrev Met : (budget : ℕ) (first : State) (r : ℕ) (f : Figure) → ℕ → Type 0
Met budget first r f most = SizeMet budget first r f most

met_here : (budget : ℕ) (first : State) (r steps : ℕ) (σ : State) (h : History) (f : Figure) → Reach budget first r steps σ h → Met budget first r f (size σ f)
met_here budget first r steps σ h f reached = record { steps = steps; there = σ; history = h; reached = reached; equal = refl }

larger_met : (budget : ℕ) (first : State) (r : ℕ) (f : Figure) (m n : ℕ) → Met budget first r f m → Met budget first r f n → Met budget first r f (max m n)
larger_met budget first r f m n p q =
    by_order m n (λ l. subst (Met budget first r f) (second l) q) (λ l. subst (Met budget first r f) (first_one l) p)
  where
    second : m < n → n ≡ max m n
    second l = omega (arith, l)

    first_one : n ≤ m → m ≡ max m n
    first_one l = omega (arith, l)

met : (budget : ℕ) (first : State) (r : ℕ) (f : Figure) (left steps : ℕ) (σ : State) (h : History) → steps + left ≡ budget → Reach budget first r steps σ h → Met budget first r f (high_marks left σ f)
unfolding high_marks
met budget first r f zero steps σ h q reached = met_here budget first r steps σ h f reached
met budget first r f (suc left) steps (state [] X E S L n) h q reached = met_here budget first r steps (state [] X E S L n) h f reached
met budget first r f (suc left) steps (state (i ∷ C) X E S L n) h q reached =
    tried (fire (state (i ∷ C) X E S L n)) refl
    (λ τ reached'. met budget first r f left (suc steps) τ (note (state (i ∷ C) X E S L n) h τ) (omega (arith, q)) reached')
  where
    here : Met budget first r f (size (state (i ∷ C) X E S L n) f)
    here = met_here budget first r steps (state (i ∷ C) X E S L n) h f reached

    more : eqb steps budget ≡ false
    more = ne_eqb steps budget (λ e. used_up e)
      where
        used_up : steps ≡ budget → ⊥
        used_up e = omega (arith, q, e)

    Later : Type 0
    Later = (τ : State) → Reach budget first r (suc steps) τ (note (state (i ∷ C) X E S L n) h τ) → Met budget first r f (high_marks left τ f)

    judged : (x : Rule) (e : Effect) → Applies x (state (i ∷ C) X E S L n) e → (v : Verdict) → judge false e ≡ v → Later →
        Met budget first r f (raised_by_verdict v (state (i ∷ C) X E S L n) (λ τ. high_marks left τ) f)
    judged x e line (made τ) p later =
        larger_met budget first r f (size (state (i ∷ C) X E S L n) f) (high_marks left τ f) here
        (later τ (step_made x τ reached (subst (Applies x (state (i ∷ C) X E S L n)) (made_goes e τ p) line) (ap (λ t. judge t (goes τ)) more ∙ ap (judge false) (sym (made_goes e τ p)) ∙ p)))
    judged x e line (withheld y) p later = here

    tried : (g : Firing) → fire (state (i ∷ C) X E S L n) ≡ g → Later → Met budget first r f (raised_by_firing g (state (i ∷ C) X E S L n) (λ τ. high_marks left τ) f)
    tried stuck e later = here
    tried (fires x e) p later = judged x e (fires→applies x (state (i ∷ C) X E S L n) e p) (judge false e) refl later

pub high_marks_are_most : HighMarksAreMost
high_marks_are_most budget first r =
    record {
      is_reached = λ f. met budget first r f budget 0 first (first_history r) (zero-add budget) at_start;
      none_above = λ steps σ h reached f. let a = ahead budget first r steps σ h reached in omega (arith, here_counted a.left σ f, a.among f);
    }

-- ---- The needs.

pub high_marks_within_needs : HighMarksWithinNeeds
high_marks_within_needs image r t a passes zs count ranged budget f =
    let m = (high_marks_are_most budget (start r t zs) r).is_reached f in
    subst (λ k. k ≤ (routine_need r t).most f) m.equal
    ((run_exceeds_nothing image r t a passes zs count ranged budget m.steps m.there m.history m.reached).0 f)

pub high_marks_are_needs : HighMarksAreNeeds
high_marks_are_needs image r t a passes zs count ranged no_loops no_conditionals budget k τ q f =
    let m = (reaches_exactly image r t a passes zs count ranged no_loops no_conditionals budget k τ q).1 f in
    let above = (high_marks_are_most budget (start r t zs) r).none_above m.steps m.there m.history m.reached f in
    omega (arith, m.equal, above, high_marks_within_needs image r t a passes zs count ranged budget f)

-- A refusal before the run has marks of 0.
nothing_within : (n : ℕ) (f : Figure) → no_high_marks f ≤ n
nothing_within n control = omega arith
nothing_within n values = omega arith
nothing_within n cells = omega arith
nothing_within n bindings = omega arith

-- The figures that the needs give are those of the image's tree.
record Figured (image : List ℕ) (most : Sizes) : Type 0 where
  registers : ℕ
  tree : Root
  root : Passed
  passes : check_image image ≡ passed registers tree root
  is : (f : Figure) → (routine_need registers tree).most f ≡ most f

-- The room that an answer of the needs gives.
abbrev room_of : NeedsAnswer → Sizes
room_of (figures k v c b s) = sizes k v c b
room_of (no_figures x p) = no_high_marks

room_is : (n : Need) (s : MostSteps) (f : Figure) → n.most f ≡ room_of (room_figures n s) f
room_is n s control = refl
room_is n s values = refl
room_is n s cells = refl
room_is n s bindings = refl

abbrev HasFigures : NeedsAnswer → Type 0
HasFigures (figures k v c b s) = Unit {0}
HasFigures (no_figures x p) = ⊥

-- Where an answer has figures, they are the tree's.
figures_are : (r : ℕ) (t : Root) → HasFigures (figures_of r t) → (f : Figure) → (routine_need r t).most f ≡ room_of (figures_of r t) f
unfolding figures_of
figures_are r t given_there f = by (has_loop t) (ltb most_steps (routine_need r t).steps) given_there
  where
    answer : (loop many : Bool) → NeedsAnswer
    answer loop many =
        cond loop (room_figures (routine_need r t) left_open) (cond many (no_figures Refusals.TooManySteps 0) (room_figures (routine_need r t) (given (routine_need r t).steps)))

    by : (loop many : Bool) → HasFigures (answer loop many) → (routine_need r t).most f ≡ room_of (answer loop many) f
    by true many h = room_is (routine_need r t) left_open f
    by false true h = absurd h
    by false false h = room_is (routine_need r t) (given (routine_need r t).steps) f

of_checked : (image : List ℕ) (c : Checked) → check_image image ≡ c → HasFigures (needs_answer c) → Figured image (room_of (needs_answer c))
of_checked image (turned_back x p) q h = absurd h
of_checked image (passed r t a) q h = record { registers = r; tree = t; root = a; passes = q; is = figures_are r t h }

figured : (image lent : List ℕ) → HasFigures (needs image lent).answer → Figured image (room_of (needs image lent).answer)
unfolding needs
figured image lent h = by (ltb (length lent) work_words) h
  where
    answer : Bool → NeedsAnswer
    answer few = (cond {A = NeedsCalled} few (record { answer = no_figures Refusals.Work 0; work = lent }) (record { answer = needs_answer (check_image image); work = cleared lent })).answer

    by : (few : Bool) → HasFigures (answer few) → Figured image (room_of (answer few))
    by true g = absurd g
    by false g = of_checked image (check_image image) refl g

finish_most : (r : ℕ) (ws : List ℕ) (most : Sizes) (e : Ending) → (finish r ws most e).reply.most ≡ most
finish_most r ws most (ended k σ) = refl
finish_most r ws most (stopped x k σ) = refl
finish_most r ws most (lost k σ) = refl

module _ (image : List ℕ) (most : Sizes) (g : Figured image most) (zs : List ℤ) (ranged : AllInRange zs) (budget : ℕ) (f : Figure) where
  run_within : (ws : List ℕ) → (run_checked (check_image image) zs budget ws).reply.most f ≤ most f
  run_within ws = subst (λ k. (run_checked k zs budget ws).reply.most f ≤ most f) (sym g.passes) (by (eqb (length zs) g.registers) refl)
    where
      Ran : Called
      Ran = finish g.registers ws (high_marks budget (start g.registers g.tree zs)) (run budget 0 (start g.registers g.tree zs))

      by : (t : Bool) → eqb (length zs) g.registers ≡ t → (cond t Ran (refusing Refusals.Registers 0 zs ws)).reply.most f ≤ most f
      by true e =
          subst (λ n. Ran.reply.most f ≤ n) (g.is f)
          (subst (λ m. m f ≤ (routine_need g.registers g.tree).most f) (sym (finish_most g.registers ws (high_marks budget (start g.registers g.tree zs)) (run budget 0 (start g.registers g.tree zs))))
          (high_marks_within_needs image g.registers g.tree g.root g.passes zs (eqb-true (length zs) g.registers e) ranged budget f))
      by false e = nothing_within (most f) f

  engine_within : (ws : List ℕ) → (engine image zs budget ws).reply.most f ≤ most f
  unfolding engine
  engine_within ws = by (ltb (length ws) work_words) (leb budget most_budget)
    where
      by : (few permitted : Bool) → (cond few (refusing Refusals.Work 0 zs ws) (cond permitted (run_checked (check_image image) zs budget (cleared ws)) (refusing Refusals.Budget 0 zs ws))).reply.most f ≤ most f
      by true permitted = nothing_within (most f) f
      by false true = run_within (cleared ws)
      by false false = nothing_within (most f) f

pub replies_within_needs : RepliesWithinNeeds
replies_within_needs image lent k v c b s q zs ranged budget ws f =
    subst (λ a. (engine image zs budget ws).reply.most f ≤ room_of a f) q
    (engine_within image (room_of (needs image lent).answer) (figured image lent (subst HasFigures (sym q) tt)) zs ranged budget f ws)
