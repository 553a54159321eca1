-- The order of the reasons and the order before it withhold exactly the same steps, and no price changes (claims/Order.antt).
use Rattle.std.specs.Prelude.{ℕ, zero, suc, ◌≡◌, refl, Bool, not, List, [], ◌∷◌, T, length}
use Rattle.std.proofs.Common.{◌∙◌, subst}
use Rattle.std.proofs.Math.Bool.{true, false}
use Rattle.std.proofs.Math.Option.{Option, none, some, some-injective}
use Rattle.std.proofs.Math.Dec.{ltb→lt, lt→ltb}
use Rattle.rules.proofs.Basics.{passed_test, failed_test}
use Rattle.rules.specs.paper.Refusals.{Reason, Steps, ZeroDivisor, OutOfRange, Cells, Bindings, ValueEntries, ControlEntries, reason_number}
use Rattle.rules.specs.paper.Limits.{most_value_entries, most_control_entries}
use Rattle.rules.specs.paper.States.{State, state, control_of, values_of}
use Rattle.rules.specs.paper.Rules.{Rule, Effect, goes, fails, Applies}
use Rattle.rules.specs.paper.Fire.{Firing, stuck, fires, fire}
use Rattle.rules.specs.paper.Run.{same_reason, priority, holds, first_holding, Verdict, settle, judge, Ending, proceed, attempt, run}
use Rattle.rules.specs.paper.Needs.{Sizes}
use Rattle.rules.specs.paper.Engine.{finish}
use Rattle.rules.specs.claims.Order.{by_number, judge_by_number, attempt_by_number, run_by_number, BothStacksFull, SameStep, both_make, both_withhold, control_named, SameStepsWithheld, SameEnding, both_end, both_stop, stopped_for_control, both_lost, SameRuns, SamePrice, SamePrices}
use Rattle.rules.proofs.running.FireExact.{fires→applies, one_rule}

-- ---- One step.

other_than_values : (x : Reason) → T (not (same_reason x ValueEntries)) → x ≡ ValueEntries → ⊥
unfolding reason_number
other_than_values x t q = subst (λ y. T (not (same_reason y ValueEntries))) q t

-- The reasons that hold, by the answer to each test.
abbrev answers : (steps divisor range cells bindings control values : Bool) → Reason → Bool
answers steps divisor range cells bindings control values Steps = steps
answers steps divisor range cells bindings control values ZeroDivisor = divisor
answers steps divisor range cells bindings control values OutOfRange = range
answers steps divisor range cells bindings control values Cells = cells
answers steps divisor range cells bindings control values Bindings = bindings
answers steps divisor range cells bindings control values ControlEntries = control
answers steps divisor range cells bindings control values ValueEntries = values

-- Where the two orders find one reason, or none ..
found_alike : (e : Effect) (o : Option Reason) → ((x : Reason) → BothStacksFull e → o ≡ some x → x ≡ ValueEntries → ⊥) → SameStep e (settle e o) (settle e o)
found_alike (goes τ) none other = both_make τ
found_alike (goes τ) (some x) other = both_withhold x (λ full. other x full refl)
found_alike (fails r) none other = both_withhold r (λ full q. full)
found_alike (fails r) (some x) other = both_withhold x (λ full. other x full refl)

named_alike : (e : Effect) (x : Reason) → T (not (same_reason x ValueEntries)) → SameStep e (settle e (some x)) (settle e (some x))
named_alike e x t = found_alike e (some x) (λ y full q same. other_than_values x t (some-injective x y q ∙ same))

-- .. and where each finds another.
both_full : (e : Effect) → BothStacksFull e → SameStep e (settle e (some ControlEntries)) (settle e (some ValueEntries))
both_full (goes τ) full = control_named full
both_full (fails r) full = control_named full

module _ (spent : Bool) where
  -- The tests say whether both stacks are full.
  control_over : (e : Effect) → BothStacksFull e → T (holds spent e ControlEntries)
  unfolding holds
  control_over (goes τ) full = lt→ltb most_control_entries (length (control_of τ)) full.1
  control_over (fails r) full = full

  both_over : (e : Effect) → T (holds spent e ValueEntries) → T (holds spent e ControlEntries) → BothStacksFull e
  unfolding holds
  both_over (goes τ) values control = (ltb→lt most_value_entries (length (values_of τ)) values, ltb→lt most_control_entries (length (control_of τ)) control)
  both_over (fails r) values control = values

  -- The tests one by one, with either order's answer.
  in_both_orders : (e : Effect) (steps divisor range cells bindings control values : Bool) → holds spent e ControlEntries ≡ control → holds spent e ValueEntries ≡ values →
      SameStep e (settle e (first_holding (answers steps divisor range cells bindings control values) priority))
      (settle e (first_holding (answers steps divisor range cells bindings control values) by_number))
  unfolding priority by_number first_holding reason_number
  in_both_orders e true _ _ _ _ _ _ p q = named_alike e Steps tt
  in_both_orders e false true _ _ _ _ _ p q = named_alike e ZeroDivisor tt
  in_both_orders e false false true _ _ _ _ p q = named_alike e OutOfRange tt
  in_both_orders e false false false true _ _ _ p q = named_alike e Cells tt
  in_both_orders e false false false false true _ _ p q = named_alike e Bindings tt
  in_both_orders e false false false false false true true p q = both_full e (both_over e (passed_test q) (passed_test p))
  in_both_orders e false false false false false true false p q = named_alike e ControlEntries tt
  in_both_orders e false false false false false false true p q = found_alike e (some ValueEntries) (λ x full r same. failed_test p (control_over e full))
  in_both_orders e false false false false false false false p q = found_alike e none (λ x full r same. failed_test p (control_over e full))

pub same_steps_withheld : SameStepsWithheld
unfolding judge judge_by_number priority by_number first_holding
same_steps_withheld spent e =
    in_both_orders spent e (holds spent e Steps) (holds spent e ZeroDivisor) (holds spent e OutOfRange) (holds spent e Cells) (holds spent e Bindings) (holds spent e ControlEntries) (holds spent e ValueEntries) refl refl

-- ---- A run.

-- both go on as the step says
proceeds : (e : Effect) (now before : Verdict) (k : ℕ) (σ : State) (rule : Rule) → Applies rule σ e → (go went : State → Ending) → ((τ : State) → SameEnding (go τ) (went τ)) →
    SameStep e now before → SameEnding (proceed now k σ go) (proceed before k σ went)
proceeds e now before k σ rule applies go went continue (both_make τ) = continue τ
proceeds e now before k σ rule applies go went continue (both_withhold x other) =
    both_stop x k σ (λ s f line full. other (subst BothStacksFull (one_rule σ s rule f e line applies).1 full))
proceeds e now before k σ rule applies go went continue (control_named full) = stopped_for_control k σ rule e applies full

tries : (f : Firing) (k : ℕ) (σ : State) → fire σ ≡ f → (go went : State → Ending) → ((τ : State) → SameEnding (go τ) (went τ)) → SameEnding (attempt f k σ go) (attempt_by_number f k σ went)
tries stuck k σ q go went continue = both_lost k σ
tries (fires r e) k σ q go went continue =
    proceeds e (judge false e) (judge_by_number false e) k σ r (fires→applies r σ e q) go went continue (same_steps_withheld false e)

pub same_runs : SameRuns
unfolding run run_by_number reason_number
same_runs zero k (state [] X E S L n) = both_end k (state [] X E S L n)
same_runs zero k (state (i ∷ C) X E S L n) = both_stop Steps k (state (i ∷ C) X E S L n) (λ r e line full. other_than_values Steps tt)
same_runs (suc left) k (state [] X E S L n) = both_end k (state [] X E S L n)
same_runs (suc left) k (state (i ∷ C) X E S L n) =
    tries (fire (state (i ∷ C) X E S L n)) k (state (i ∷ C) X E S L n) refl (λ τ. run left (suc k) τ) (λ τ. run_by_number left (suc k) τ) (λ τ. same_runs left (suc k) τ)

-- ---- What a run leaves.

same_price : (registers : ℕ) (work : List ℕ) (most : Sizes) (now before : Ending) → SameEnding now before → SamePrice (finish registers work most now) (finish registers work most before)
same_price r work most now before (both_end k σ) = record { same_steps = refl; same_registers = refl; same_work = refl }
same_price r work most now before (both_stop x k σ other) = record { same_steps = refl; same_registers = refl; same_work = refl }
same_price r work most now before (stopped_for_control k σ rule e applies full) = record { same_steps = refl; same_registers = refl; same_work = refl }
same_price r work most now before (both_lost k σ) = record { same_steps = refl; same_registers = refl; same_work = refl }

pub same_prices : SamePrices
same_prices r work most left k σ = same_price r work most (run left k σ) (run_by_number left k σ) (same_runs left k σ)
