-- The engine's runs and the figures: every run is a free run (3), so no run passes a figure, and within the limits 33 to 36 hold nowhere.
-- Without Loop and Cond a run that ends normally reaches each figure exactly (4).
use Rattle.std.specs.Prelude.{ℕ, suc, ◌+◌, ◌≤◌, ◌≡◌, ◌⊎◌}
use Rattle.std.proofs.Common.{sym, ◌∙◌, subst, inl, inr, ⊎_elim, arith}
use Rattle.rules.specs.paper.Checker.{Passed}
use Rattle.rules.specs.paper.States.{State, values_of}
use Rattle.rules.specs.paper.Rules.{goes, Applies}
use Rattle.rules.specs.paper.Run.{ended}
use Rattle.rules.specs.paper.Needs.{Figure, control, values, cells, bindings, Need, routine_need, is_loop, is_conditional, has_loop, has_conditional}
use Rattle.rules.specs.paper.HighMarks.{size}
use Rattle.rules.specs.paper.Engine.{start}
use Rattle.rules.specs.claims.History.{History, Reach, at_start, step_made}
use Rattle.rules.specs.claims.Claim.{ReasonHolds, budget_used, cells_full, bindings_full, values_full, control_full}
use Rattle.rules.specs.claims.Ends.{EndsWell, normally}
use Rattle.rules.specs.claims.FreeRun.{FreeReach, by_rule, one_more, RunIsFree, RunExceedsNothing, limits, room_reason, RoomSuffices, BudgetSuffices, SizeMet, ReachesExactly}
use Rattle.rules.specs.claims.FreeRun as FreeRun
use Rattle.rules.proofs.running.RunEnds.{run_ends}
use Rattle.rules.proofs.running.WholeRun.{rule_left}
use Rattle.rules.proofs.needs.Outlook.{through, ahead_of}
use Rattle.rules.proofs.needs.StretchLaws.{Target, shown, shown_size, Replaced}
use Rattle.rules.proofs.needs.TestStretches.{Nearer, in_first, in_second, still_ahead}
use Rattle.rules.proofs.needs.StepKinds.{StepKind, replacing, turning, choosing}
use Rattle.rules.proofs.needs.FreeStates.{FreeInvariant, free_classified}
use Rattle.rules.proofs.needs.Without.{WithoutValues, Without, start_without}
use Rattle.rules.proofs.needs.FreeSteps.{goes_on, replaced_nearer, replaced_counts, no_loop, no_conditional}
use Rattle.rules.proofs.needs.FreeMost.{beginning, start_free, reach_free, reach_without, nothing_exceeds, control_left, none_ahead_of}

-- ---- 3. Every run of the engine is a free run.

free_of_run : {budget r : ℕ} {first : State} {steps : ℕ} {σ : State} {h : History} → Reach budget first r steps σ h → FreeReach first steps σ
free_of_run at_start = FreeRun.at_start
free_of_run (step_made {σ = ρ} x τ reached line made) = one_more (free_of_run reached) (by_rule {σ = ρ} x line)

pub run_is_free : RunIsFree
run_is_free budget r steps first σ h reached = free_of_run reached

pub run_exceeds_nothing : RunExceedsNothing
run_exceeds_nothing image r t a passes zs count ranged budget steps σ h reached =
    nothing_exceeds image r t a passes zs count ranged steps σ (run_is_free budget r steps (start r t zs) σ h reached)

pub room_suffices : RoomSuffices
room_suffices image r t a passes zs count ranged fits budget steps σ h reached x e applies f holds = by_reason f holds
  where
    next_fits : (τ : State) → e ≡ goes τ → (f : Figure) → size τ f ≤ limits f
    next_fits τ q f =
        let free = run_is_free budget r steps (start r t zs) σ h reached in
        omega (
          arith,
          (nothing_exceeds image r t a passes zs count ranged (suc steps) τ (one_more free (by_rule {σ = σ} x (subst (Applies x σ) q applies)))).0 f,
          fits f,
        )

    by_reason : (f : Figure) → ReasonHolds budget steps e (room_reason f) → ⊥
    by_reason control (control_full τ q l) = omega (arith, next_fits τ q control, l)
    by_reason values (values_full τ q l) = omega (arith, next_fits τ q values, l)
    by_reason cells (cells_full τ q l) = omega (arith, next_fits τ q cells, l)
    by_reason bindings (bindings_full τ q l) = omega (arith, next_fits τ q bindings, l)

pub budget_suffices : BudgetSuffices
budget_suffices image r t a passes zs count ranged no_loops budget steps enough σ h reached x e applies (budget_used q) =
    let free = run_is_free budget r steps (start r t zs) σ h reached in
    let step = goes_on σ (reach_free (start_free image r t a passes zs ranged) free) (rule_left x σ e applies) in
    omega (arith, (nothing_exceeds image r t a passes zs count ranged (suc steps) step.after (one_more free step.free)).1 no_loops, enough, q)

-- ---- 4. Without Loop and Cond.

-- A figure was met, or is ahead still; the steps made and those ahead are the figure.
record Along (budget : ℕ) (first : State) (r : ℕ) (n : Need) (steps : ℕ) (σ : State) : Type 0 where
  counted : steps + through (ahead_of σ) ≡ n.steps
  met : (f : Figure) → SizeMet budget first r f (n.most f) ⊎ ((d : ℕ) × Target f (n.most f) (ahead_of σ) d)

-- Each step is one that replaces the first stretch ahead.
only_replacing : {σ τ : State} → StepKind σ τ → WithoutValues is_loop (values_of σ) → WithoutValues is_conditional (values_of σ) → Replaced σ τ
only_replacing (replacing r) v w = r
only_replacing (turning t) v w = no_loop v
only_replacing (choosing t) v w = no_conditional w

along : {a : Passed} {r budget : ℕ} {first : State} {n : Need} → FreeInvariant a r first → Without is_loop first → Without is_conditional first → Along budget first r n 0 first →
    {steps : ℕ} {σ : State} {h : History} → Reach budget first r steps σ h → Along budget first r n steps σ
along inv v w begin at_start = begin
along {a} {r} {budget} {first} {n} inv v w begin (step_made {n = k} {σ = ρ} {h = g} x τ reached line made) =
    let before = along inv v w begin reached in
    let free = run_is_free budget r k first ρ g reached in
    let step = by_rule {σ = ρ} {τ = τ} x line in
    let replaced = only_replacing (free_classified (reach_free inv free) step).kind (reach_without is_loop v free).on_values (reach_without is_conditional w free).on_values in
    record {
      counted = omega (arith, before.counted, replaced_counts replaced);
      met = λ f. ⊎_elim (λ m. inl m) (λ t. by_nearer f (replaced_nearer replaced f (n.most f) t.0 t.1)) (before.met f);
    }
  where
    at_place : {f : Figure} {j : ℕ} (σ : State) (h : History) → Reach budget first r j σ h → shown σ f ≡ n.most f → SizeMet budget first r f (n.most f)
    at_place {f} {j} σ h reached q = record { steps = j; there = σ; history = h; reached = reached; equal = sym (shown_size σ f) ∙ q }

    by_nearer : (f : Figure) {d : ℕ} → Nearer f (n.most f) d ρ τ → SizeMet budget first r f (n.most f) ⊎ ((d : ℕ) × Target f (n.most f) (ahead_of τ) d)
    by_nearer f (in_first q) = inl (at_place ρ g reached q)
    by_nearer f (in_second q) = inl (at_place τ _ (step_made x τ reached line made) q)
    by_nearer f (still_ahead {j = j} t l) = inr (j, t)

pub reaches_exactly : ReachesExactly
unfolding has_loop has_conditional
reaches_exactly image r t a passes zs count ranged no_loops no_conditionals budget k τ q =
    at_the_end (subst (EndsWell budget (start r t zs) r a) q (run_ends image r t a passes zs count ranged budget))
  where
    first_of : Along budget (start r t zs) r (routine_need r t) 0 (start r t zs)
    first_of =
        let b = beginning r zs t in
        record {
          counted = omega (arith, b.counted);
          met = λ f.
              ⊎_elim (λ e. inl (record { steps = 0; there = start r t zs; history = _; reached = at_start; equal = sym (shown_size (start r t zs) f) ∙ e }))
              (λ h. inr ((routine_need r t).steps, h)) (b.first f);
        }

    at_the_end : EndsWell budget (start r t zs) r a (ended k τ) → (k ≡ (routine_need r t).steps) × ((f : Figure) → SizeMet budget (start r t zs) r f ((routine_need r t).most f))
    at_the_end (normally h reached empty final) =
        let all =
        along (start_free image r t a passes zs ranged) (start_without is_loop r t zs no_loops) (start_without is_conditional r t zs no_conditionals) first_of reached in
        (omega (arith, all.counted, none_ahead_of τ empty), λ f. ⊎_elim (λ m. m) (λ h. absurd (control_left τ h.1 empty)) (all.met f))
