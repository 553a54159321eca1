-- The claims of the runs (claims/Ranges.antt): where the ranges give ends, every run from starts within the limits leads to one final state, so no step
-- of it meets 31 or 32; the room figures rule out 33 to 36; and where it ends the registers lie within the ends.
use Rattle.std.specs.Prelude.{ℕ, refl, Bool, cond, List, [], eqb, leb, ltb, ℤ, length}
use Rattle.std.proofs.Math.Path.{◌≡◌}
use Rattle.std.proofs.Common.{sym, ◌∙◌, subst, arith}
use Rattle.std.proofs.Math.Bool.{true, false}
use Rattle.rules.specs.paper.Tree.{Root}
use Rattle.rules.specs.paper.Refusals.{Reason, Steps, Refusal, Withheld}
use Rattle.rules.specs.paper.Refusals as Refusals
use Rattle.rules.specs.paper.Limits.{most_budget, work_words}
use Rattle.rules.specs.paper.Checker.{Passed}
use Rattle.rules.specs.paper.States.{Environment, Store, Entry, State, state, control_of, store_of}
use Rattle.rules.specs.paper.Rules.{Rule, Effect, goes, fails, Applies}
use Rattle.rules.specs.paper.Run.{Ending, ended, run}
use Rattle.rules.specs.paper.Needs.{Sizes, control, values, cells, bindings}
use Rattle.rules.specs.paper.HighMarks.{high_marks}
use Rattle.rules.specs.paper.Engine.{check_image, passed, start, registers_from, cleared, Outcome, outcome, refused, Called, refusing, finish, run_checked, engine}
use Rattle.rules.specs.paper.Ranges.{ends_given, ranges}
use Rattle.rules.specs.claims.History.{History, Reach, at_start, step_made}
use Rattle.rules.specs.claims.Claim.{ReasonHolds, budget_used, divisor_zero, result_outside, cells_full, bindings_full, values_full, control_full, AllInRange}
use Rattle.rules.specs.claims.Ends.{EndsWell, normally, withheld_for}
use Rattle.rules.specs.claims.Ranges.{Within, OnlyTheBudget, EndsWithin, RepliesWithinRanges}
use Rattle.rules.proofs.running.FireExact.{one_rule}
use Rattle.rules.proofs.running.RunEnds.{run_ends}
use Rattle.rules.proofs.running.WholeRun.{rule_left}
use Rattle.rules.proofs.needs.RunNeeds.{room_suffices}
use Rattle.rules.proofs.ranges.Operators.{If}
use Rattle.rules.proofs.ranges.Within.{Leads, there, one_step}
use Rattle.rules.proofs.ranges.RootRuns.{as_many_starts, starts_in_range, Finishes, root_runs, registers_within}
use Rattle.rules.proofs.ranges.EndsGiven.{EndsOf, ends_of, image_passed}

-- ---- A state that leads to one with control empty.

module _ {X : List Entry} {E : Environment} {S : Store} {L : List ℕ} {n : ℕ} where
  -- Where a rule applies its step goes on, to a state that leads there too.
  goes_on : {σ : State} → Leads σ (state [] X E S L n) → (x : Rule) (e : Effect) → Applies x σ e → (τ : State) × (e ≡ goes τ) × Leads τ (state [] X E S L n)
  goes_on there x e line = absurd line
  goes_on {σ} (one_step {τ = τ} r first rest) x e line = (τ, (one_rule σ x r e (goes τ) line first).1, rest)

  still_leads : {σ : State} → Leads σ (state [] X E S L n) → (x : Rule) (τ : State) → Applies x σ (goes τ) → Leads τ (state [] X E S L n)
  still_leads {σ} h x τ line =
      let g = goes_on h x (goes τ) line in
      subst (λ ρ. Leads ρ (state [] X E S L n)) (same g.0 g.1) g.2
    where
      same : (ρ : State) → goes τ ≡ goes ρ → ρ ≡ τ
      same ρ q = cc

  reached_leads : {budget r : ℕ} {first : State} {steps : ℕ} {σ : State} {h : History} → Leads first (state [] X E S L n) → Reach budget first r steps σ h → Leads σ (state [] X E S L n)
  reached_leads h at_start = h
  reached_leads h (step_made x τ reached line made) = still_leads (reached_leads h reached) x τ line

  at_end : {σ : State} → Leads σ (state [] X E S L n) → control_of σ ≡ [] → store_of σ ≡ S
  at_end there q = refl
  at_end {σ} (one_step {τ = τ} r first rest) q = absurd (rule_left r σ (goes τ) first q)

-- ---- The run from a start within the limits.

module _ (image : List ℕ) (ls hs : List ℤ) (ws : List ℕ) (low_ranged : AllInRange ls) (high_ranged : AllInRange hs) (given : (ranges image ls hs ws).answer ≡ ends_given)
    (r : ℕ) (t : Root) (a : Passed) (passes : check_image image ≡ passed r t a) (zs : List ℤ) (starts : Within ls zs hs) where
  ends : EndsOf r t ls hs (ranges image ls hs ws)
  ends = ends_of image ls hs ws given r t a passes

  as_many : length zs ≡ r
  as_many = as_many_starts starts ∙ ends.as_many_lowest

  ranged : AllInRange zs
  ranged = starts_in_range starts low_ranged high_ranged

  final : Finishes (start r t zs) ends.left
  final = subst (If (Finishes (start r t zs))) ends.carries (root_runs r t ls zs hs starts)

  budget_alone : (budget steps : ℕ) (σ : State) (h : History) → Reach budget (start r t zs) r steps σ h → (x : Rule) (e : Effect) → Applies x σ e →
      (reason : Reason) → ReasonHolds budget steps e reason → reason ≡ Steps
  budget_alone budget steps σ h reached x e line reason holds = by holds
    where
      clashing : (τ : State) (y : Reason) → e ≡ goes τ → e ≡ fails y → ⊥
      clashing τ y p q = let clash : ◌≡◌ {A = ℕ} 0 1 = cc in omega arith

      never : (y : Reason) → e ≡ fails y → ⊥
      never y q = let on = goes_on (reached_leads final.leads reached) x e line in clashing on.0 y on.1 q

      by : {reason : Reason} → ReasonHolds budget steps e reason → reason ≡ Steps
      by (budget_used q) = refl
      by (divisor_zero q) = absurd (never Refusals.ZeroDivisor q)
      by (result_outside q) = absurd (never Refusals.OutOfRange q)
      by (cells_full τ q l) = absurd (room_suffices image r t a passes zs as_many ranged ends.room budget steps σ h reached x e line cells (cells_full τ q l))
      by (bindings_full τ q l) = absurd (room_suffices image r t a passes zs as_many ranged ends.room budget steps σ h reached x e line bindings (bindings_full τ q l))
      by (values_full τ q l) = absurd (room_suffices image r t a passes zs as_many ranged ends.room budget steps σ h reached x e line values (values_full τ q l))
      by (control_full τ q l) = absurd (room_suffices image r t a passes zs as_many ranged ends.room budget steps σ h reached x e line control (control_full τ q l))

  -- At a state of the run with control empty.
  within_ends : {budget k : ℕ} {τ : State} {h : History} → Reach budget (start r t zs) r k τ h → control_of τ ≡ [] →
      Within (ranges image ls hs ws).lowest (registers_from 0 r (store_of τ)) (ranges image ls hs ws).highest
  within_ends {τ = τ} reached empty =
      let f = final in
      rw (ends.lowest_is, ends.highest_is, at_end (reached_leads f.leads reached) empty) (registers_within f.store ends.left f.within 0 r)

  ended_within : (budget k : ℕ) (τ : State) → run budget 0 (start r t zs) ≡ ended k τ →
      Within (ranges image ls hs ws).lowest (registers_from 0 r (store_of τ)) (ranges image ls hs ws).highest
  ended_within budget k τ q = by (subst (EndsWell budget (start r t zs) r a) q (run_ends image r t a passes zs as_many ranged budget))
    where
      by : EndsWell budget (start r t zs) r a (ended k τ) → Within (ranges image ls hs ws).lowest (registers_from 0 r (store_of τ)) (ranges image ls hs ws).highest
      by (normally h reached empty last) = within_ends reached empty

  -- ---- Its reply.

  record Replies (c : Called) : Type 0 where
    for_budget : (x : Reason) (p : ℕ) → c.reply.answer ≡ refused (Withheld x) p → x ≡ Steps
    within : (o : Outcome) → c.reply.answer ≡ outcome o → Within (ranges image ls hs ws).lowest c.registers (ranges image ls hs ws).highest

  -- A refusal before the run withholds no step.
  refused_before : (y : Refusal) (work : List ℕ) → ((x : Reason) → y ≡ Withheld x → ⊥) → Replies (refusing y 0 zs work)
  refused_before y work other = record { for_budget = λ x p q. absurd (other x (same x p q)); within = λ o q. absurd (never o q) }
    where
      same : (x : Reason) (p : ℕ) → refused y 0 ≡ refused (Withheld x) p → y ≡ Withheld x
      same x p q = cc

      never : (o : Outcome) → refused y 0 ≡ outcome o → ⊥
      never o q = let clash : ◌≡◌ {A = ℕ} 0 1 = cc in omega arith

  module _ (budget : ℕ) where
    finished : (work : List ℕ) (most : Sizes) (e : Ending) → EndsWell budget (start r t zs) r a e → Replies (finish r work most e)
    finished work most e (normally {k = k} {τ = τ} h reached empty last) =
        record { for_budget = λ x p q. absurd (never (x, p, q)); within = λ o q. within_ends reached empty }
      where
        never : (x : Reason) × (p : ℕ) × ((finish r work most (ended k τ)).reply.answer ≡ refused (Withheld x) p) → ⊥
        never q = let same = q.2 in let clash : ◌≡◌ {A = ℕ} 0 1 = cc in omega arith
    finished work most e (withheld_for {k = k} {τ = τ} {x = x} h rule effect reached line w same) =
        record {
          for_budget = λ y p q. taken y p q ∙ sym same ∙ budget_alone budget k τ h reached rule effect line w.reason w.reason_holds;
          within = λ o q. absurd (never o q);
        }
      where
        taken : (y : Reason) (p : ℕ) → refused (Withheld x) 0 ≡ refused (Withheld y) p → y ≡ x
        taken y p q = cc

        never : (o : Outcome) → refused (Withheld x) 0 ≡ outcome o → ⊥
        never o q = let clash : ◌≡◌ {A = ℕ} 0 1 = cc in omega arith

    ran : (work : List ℕ) → Replies (run_checked (check_image image) zs budget work)
    ran work = subst (λ c. Replies (run_checked c zs budget work)) (sym passes) (by (eqb (length zs) r))
      where
        done : Called
        done = finish r work (high_marks budget (start r t zs)) (run budget 0 (start r t zs))

        by : (b : Bool) → Replies (cond b done (refusing Refusals.Registers 0 zs work))
        by true = finished work (high_marks budget (start r t zs)) (run budget 0 (start r t zs)) (run_ends image r t a passes zs as_many ranged budget)
        by false = refused_before Refusals.Registers work (λ x q. let clash : ◌≡◌ {A = ℕ} 0 1 = cc in omega arith)

    replied : (work : List ℕ) → Replies (engine image zs budget work)
    unfolding engine
    replied work = by (ltb (length work) work_words) (leb budget most_budget)
      where
        by : (few permitted : Bool) →
            Replies (cond few (refusing Refusals.Work 0 zs work) (cond permitted (run_checked (check_image image) zs budget (cleared work)) (refusing Refusals.Budget 0 zs work)))
        by true permitted = refused_before Refusals.Work work (λ x q. let clash : ◌≡◌ {A = ℕ} 0 1 = cc in omega arith)
        by false true = ran (cleared work)
        by false false = refused_before Refusals.Budget work (λ x q. let clash : ◌≡◌ {A = ℕ} 0 1 = cc in omega arith)

-- ---- The claims.

pub only_the_budget : OnlyTheBudget
only_the_budget image ls hs ws low high given r t a passes zs starts = budget_alone image ls hs ws low high given r t a passes zs starts

pub ends_within : EndsWithin
ends_within image ls hs ws low high given r t a passes zs starts = ended_within image ls hs ws low high given r t a passes zs starts

pub replies_within_ranges : RepliesWithinRanges
replies_within_ranges image ls hs lent low high given zs starts budget work =
    let i = image_passed image ls hs lent given in
    let c = replied image ls hs lent low high given i.registers i.tree i.root i.passes zs starts budget work in
    (c.for_budget, c.within)
