-- What `judge` says: the step is made exactly when no reason holds, and otherwise withheld for the first in the order that does.
use Rattle.std.specs.Prelude.{ℕ, ◌≡◌, ◌⊎◌, Bool, eqb, length}
use Rattle.std.proofs.Math.Path.{refl, subst}
use Rattle.std.proofs.Common.{sym, ap, ◌∙◌, inl, inr, eqb→eq, ltb→lt, lt→ltb}
use Rattle.std.proofs.Math.Bool.{true, false, cond}
use mathlib.Core.List.{List, [], ◌∷◌}
use Rattle.std.proofs.Math.Option.{Option, none, some, some-injective, some-ne-none}
use Rattle.std.proofs.Math.Dec.{T, eqb_refl}
use Rattle.rules.proofs.Basics.{missing, passed_test, failed_test}
use Rattle.rules.specs.paper.Limits.{most_cells, most_bindings, most_value_entries, most_control_entries}
use Rattle.rules.specs.paper.Refusals.{Reason, Steps, ZeroDivisor, OutOfRange, Cells, Bindings, ValueEntries, ControlEntries, reason_number}
use Rattle.rules.specs.paper.States.{State, control_of, values_of, store_of, bindings_of}
use Rattle.rules.specs.paper.Rules.{Effect, goes, fails}
use Rattle.rules.specs.claims.Claim.{ReasonHolds, budget_used, divisor_zero, result_outside, cells_full, bindings_full, values_full, control_full, FirstOf, at_front, behind}
use Rattle.rules.specs.paper.Run.{same_reason, priority, holds, first_holding, Verdict, made, withheld, settle, judge}

abbrev InList : Reason → List Reason → Type 0
InList r [] = ⊥
InList r (s ∷ ss) = (s ≡ r) ⊎ InList r ss

-- Every reason is asked.
all_asked : (r : Reason) → InList r priority
unfolding priority
all_asked Steps = inl refl
all_asked ZeroDivisor = inr (inl refl)
all_asked OutOfRange = inr (inr (inl refl))
all_asked Cells = inr (inr (inr (inl refl)))
all_asked Bindings = inr (inr (inr (inr (inl refl))))
all_asked ControlEntries = inr (inr (inr (inr (inr (inl refl)))))
all_asked ValueEntries = inr (inr (inr (inr (inr (inr (inl refl))))))

module _ (f : Reason → Bool) where
  none_holds : (rs : List Reason) → first_holding f rs ≡ none → (r : Reason) → InList r rs → T (f r) → ⊥
  unfolding first_holding
  none_holds [] q r i t = i
  none_holds (s ∷ ss) q r i t = choose (f s) refl q i (λ p j. none_holds ss p r j t)
    where
      choose : (b : Bool) → f s ≡ b → cond b (some s) (first_holding f ss) ≡ none → InList r (s ∷ ss) → (first_holding f ss ≡ none → InList r ss → ⊥) → ⊥
      choose true u p j later = some-ne-none s p
      choose false u p (inl e) later = failed_test u (subst (λ k. T (f k)) (sym e) t)
      choose false u p (inr j) later = later p j

  some_holds : (rs : List Reason) (x : Reason) → first_holding f rs ≡ some x → T (f x)
  unfolding first_holding
  some_holds [] x q = missing q
  some_holds (s ∷ ss) x q = choose (f s) refl q (some_holds ss x)
    where
      choose : (b : Bool) → f s ≡ b → cond b (some s) (first_holding f ss) ≡ some x → (first_holding f ss ≡ some x → T (f x)) → T (f x)
      choose true u p later = subst (λ k. T (f k)) (some-injective s x p) (passed_test u)
      choose false u p later = later p

  first_holds : (rs : List Reason) (x : Reason) → first_holding f rs ≡ some x → FirstOf (λ r. T (f r)) x rs
  unfolding first_holding
  first_holds [] x q = missing q
  first_holds (s ∷ ss) x q = choose (f s) refl q (first_holds ss x)
    where
      choose : (b : Bool) → f s ≡ b → cond b (some s) (first_holding f ss) ≡ some x → (first_holding f ss ≡ some x → FirstOf (λ r. T (f r)) x ss) → FirstOf (λ r. T (f r)) x (s ∷ ss)
      choose true u p later = subst (λ k. FirstOf (λ r. T (f r)) k (s ∷ ss)) (some-injective s x p) (at_front ss (passed_test u))
      choose false u p later = behind s ss (failed_test u) (later p)

-- Where the same reasons hold, the first is the same.
pub first_same : (f g : Reason → Bool) → ((r : Reason) → f r ≡ g r) → (rs : List Reason) → first_holding f rs ≡ first_holding g rs
unfolding first_holding
first_same f g same [] = refl
first_same f g same (r ∷ rs) = rw (same r, first_same f g same rs) refl

-- The first of those that hold is the first of those that hold in other words.
pub in_other_words : {Holds Meets : Reason → Type 0} (x : Reason) (rs : List Reason) → ((r : Reason) → Holds r → Meets r) → ((r : Reason) → Meets r → Holds r) →
    FirstOf Holds x rs → FirstOf Meets x rs
in_other_words x rs to from (at_front later t) = at_front later (to x t)
in_other_words x rs to from (behind r later n f) = behind r later (λ t. n (from r t)) (in_other_words x later to from f)

-- How a step is judged.
pub data Judgement (spent : Bool) (e : Effect) : Type 0 where
  no_reason : ((r : Reason) → T (holds spent e r) → ⊥) → judge spent e ≡ settle e none → Judgement spent e
  for_reason : (x : Reason) → T (holds spent e x) → FirstOf (λ r. T (holds spent e r)) x priority → judge spent e ≡ withheld x → Judgement spent e

settled : (e : Effect) (x : Reason) → settle e (some x) ≡ withheld x
settled (goes τ) x = refl
settled (fails y) x = refl

pub judged : (spent : Bool) (e : Effect) → Judgement spent e
unfolding judge
judged spent e = by_first (first_holding (holds spent e) priority) refl
  where
    by_first : (o : Option Reason) → first_holding (holds spent e) priority ≡ o → Judgement spent e
    by_first none q = no_reason (λ r. none_holds (holds spent e) priority q r (all_asked r)) (ap (settle e) q)
    by_first (some x) q =
        for_reason x (some_holds (holds spent e) priority x q) (first_holds (holds spent e) priority x q) (ap (settle e) q ∙ settled e x)

-- ---- The test of a reason and its condition are the same.

-- the reason with a given number, of the two that an arithmetic mark meets
zero_divisor_only : (x : Reason) → T (same_reason x ZeroDivisor) → x ≡ ZeroDivisor
unfolding reason_number
zero_divisor_only Steps t = absurd t
zero_divisor_only ZeroDivisor t = refl
zero_divisor_only OutOfRange t = absurd t
zero_divisor_only Cells t = absurd t
zero_divisor_only Bindings t = absurd t
zero_divisor_only ValueEntries t = absurd t
zero_divisor_only ControlEntries t = absurd t

out_of_range_only : (x : Reason) → T (same_reason x OutOfRange) → x ≡ OutOfRange
unfolding reason_number
out_of_range_only Steps t = absurd t
out_of_range_only ZeroDivisor t = absurd t
out_of_range_only OutOfRange t = refl
out_of_range_only Cells t = absurd t
out_of_range_only Bindings t = absurd t
out_of_range_only ValueEntries t = absurd t
out_of_range_only ControlEntries t = absurd t

pub holds→reason : (budget steps : ℕ) (e : Effect) (r : Reason) → T (holds (eqb steps budget) e r) → ReasonHolds budget steps e r
unfolding holds
holds→reason budget steps (goes τ) Steps t = budget_used (eqb→eq steps budget t)
holds→reason budget steps (goes τ) ZeroDivisor t = absurd t
holds→reason budget steps (goes τ) OutOfRange t = absurd t
holds→reason budget steps (goes τ) Cells t = cells_full τ refl (ltb→lt most_cells (length (store_of τ)) t)
holds→reason budget steps (goes τ) Bindings t = bindings_full τ refl (ltb→lt most_bindings (bindings_of τ) t)
holds→reason budget steps (goes τ) ValueEntries t = values_full τ refl (ltb→lt most_value_entries (length (values_of τ)) t)
holds→reason budget steps (goes τ) ControlEntries t = control_full τ refl (ltb→lt most_control_entries (length (control_of τ)) t)
holds→reason budget steps (fails x) Steps t = budget_used (eqb→eq steps budget t)
holds→reason budget steps (fails x) ZeroDivisor t = divisor_zero (ap fails (zero_divisor_only x t))
holds→reason budget steps (fails x) OutOfRange t = result_outside (ap fails (out_of_range_only x t))
holds→reason budget steps (fails x) Cells t = absurd t
holds→reason budget steps (fails x) Bindings t = absurd t
holds→reason budget steps (fails x) ValueEntries t = absurd t
holds→reason budget steps (fails x) ControlEntries t = absurd t

used_up : (budget steps : ℕ) → steps ≡ budget → T (eqb steps budget)
used_up budget steps q = subst (λ k. T (eqb steps k)) q (eqb_refl steps)

pub reason→holds : (budget steps : ℕ) (e : Effect) (r : Reason) → ReasonHolds budget steps e r → T (holds (eqb steps budget) e r)
unfolding holds reason_number
reason→holds budget steps (goes τ) r (budget_used q) = used_up budget steps q
reason→holds budget steps (fails x) r (budget_used q) = used_up budget steps q
reason→holds budget steps e r (divisor_zero q) = subst (λ f. T (holds (eqb steps budget) f ZeroDivisor)) (sym q) tt
reason→holds budget steps e r (result_outside q) = subst (λ f. T (holds (eqb steps budget) f OutOfRange)) (sym q) tt
reason→holds budget steps e r (cells_full τ q h) = subst (λ f. T (holds (eqb steps budget) f Cells)) (sym q) (lt→ltb most_cells (length (store_of τ)) h)
reason→holds budget steps e r (bindings_full τ q h) = subst (λ f. T (holds (eqb steps budget) f Bindings)) (sym q) (lt→ltb most_bindings (bindings_of τ) h)
reason→holds budget steps e r (values_full τ q h) = subst (λ f. T (holds (eqb steps budget) f ValueEntries)) (sym q) (lt→ltb most_value_entries (length (values_of τ)) h)
reason→holds budget steps e r (control_full τ q h) = subst (λ f. T (holds (eqb steps budget) f ControlEntries)) (sym q) (lt→ltb most_control_entries (length (control_of τ)) h)

abbrev pub IsWithheld : Verdict → Type 0
IsWithheld (made τ) = ⊥
IsWithheld (withheld x) = Unit {0}

-- A step that is made leaves the state that its rule says.
settled_made : (e : Effect) (o : Option Reason) (τ : State) → settle e o ≡ made τ → e ≡ goes τ
settled_made (goes ρ) none τ q = ap state_of q
  where
    state_of : Verdict → Effect
    state_of (made υ) = goes υ
    state_of (withheld x) = goes ρ
settled_made (goes ρ) (some x) τ q = absurd (subst IsWithheld q tt)
settled_made (fails y) none τ q = absurd (subst IsWithheld q tt)
settled_made (fails y) (some x) τ q = absurd (subst IsWithheld q tt)

pub made_goes : (e : Effect) (τ : State) → judge false e ≡ made τ → e ≡ goes τ
unfolding judge
made_goes e τ q = settled_made e (first_holding (holds false e) priority) τ q
