-- Every integer that the engine answers is of the range, so the word that holds it tells it.
use Prim.Native.Nat.{ℕ, zero, suc, ◌+◌, ◌<◌}
use mathlib.Core.Path.{◌≡◌, refl, sym, subst}
use mathlib.Core.Bool.{Bool, true, false, cond}
use mathlib.Core.List.{List, [], ◌∷◌}
use native.Mathlib.Omega.{arith}
use borrow.Author.Tests.{eqb-true}
use lib.Dec.{T, eqb, leb, ltb}
use lib.IntN.{ℤ}
use lib.ListN.{length}
use Rattle.rules.specs.declared.refusals.Refusal.{Refusal}
use Rattle.rules.specs.declared.refusals.Refusal.TheVariants as Refusals
use Rattle.rules.specs.paper.Limits.{most_budget, work_words}
use Rattle.rules.specs.paper.Integers.{in_range}
use Rattle.rules.specs.paper.Tree.{Root}
use Rattle.rules.specs.declared.kinds.Passed.{Passed}
use Rattle.rules.specs.paper.States.{integer, truth, location, value, closure, Entry, bindable, name, node, environment, locations, Store, find, State, values_of, store_of}
use Rattle.rules.specs.paper.Run.{Ending, ended, stopped, lost, run}
use Rattle.rules.specs.paper.HighMarks.{high_marks}
use Rattle.rules.specs.claims.History.{History, Reach}
use Rattle.rules.specs.claims.Claim.{AllInRange}
use Rattle.rules.specs.claims.Ends.{EndsWell, normally, withheld_for, RegisterHolds, RangedValues, StateFacts}
use Rattle.rules.proofs.running.RunEnds.{run_ends, state_facts}
use Rattle.rules.specs.paper.Engine.{Checked, turned_back, passed, check_image, number, truth_of, cell, nothing, outcome_of, as_register, registers_from, Answer, outcome, refused, Called, cleared, refusing, finish, start, run_checked, engine}
use Rattle.integers.specs.Words.{integers_of, words_of}
use Rattle.integers.specs.WordLaws.{integer_of_word}

abbrev pub RangedAnswer : Answer → Type 0
RangedAnswer (outcome (number z)) = T (in_range z)
RangedAnswer (outcome (truth_of b)) = Unit {0}
RangedAnswer (outcome (cell l)) = Unit {0}
RangedAnswer (outcome nothing) = Unit {0}
RangedAnswer (refused x p) = Unit {0}

pub record Ranged (c : Called) : Type 0 where
  pub answer : RangedAnswer c.reply.answer
  pub registers : AllInRange c.registers

-- ---- The integers of words of integers.

pub integers_back : (zs : List ℤ) → AllInRange zs → integers_of (words_of zs) ≡ zs
unfolding integers_of words_of
integers_back [] h = refl
integers_back (z ∷ zs) h = both (integer_of_word z h.0) (integers_back zs h.1)
  where
    both : {y : ℤ} {ys : List ℤ} → y ≡ z → ys ≡ zs → ◌≡◌ {A = List ℤ} (y ∷ ys) (z ∷ zs)
    both p q = cc

-- ---- A state's registers, and the value that is left.

registers_ranged : (S : Store) (count first : ℕ) → ((i : ℕ) → i < first + count → RegisterHolds S i) → AllInRange (registers_from first count S)
unfolding registers_from
registers_ranged S zero first holds = tt
registers_ranged S (suc count) first holds =
    (one (holds first (omega arith)), registers_ranged S count (suc first) (λ i h. holds i (omega (arith, h))))
  where
    one : RegisterHolds S first → T (in_range (as_register (find first S)))
    one h = subst (λ o. T (in_range (as_register o))) (sym h.holds_it) h.ranged

left_ranged : (X : List Entry) → RangedValues X → RangedAnswer (outcome (outcome_of X))
left_ranged [] h = tt
left_ranged (bindable (value (integer z)) ∷ X) h = h.0
left_ranged (bindable (value (truth b)) ∷ X) h = tt
left_ranged (bindable (value (location l)) ∷ X) h = tt
left_ranged (bindable (closure fs b E) ∷ X) h = tt
left_ranged (name x ∷ X) h = tt
left_ranged (node c ∷ X) h = tt
left_ranged (environment E ∷ X) h = tt
left_ranged (locations L ∷ X) h = tt

-- ---- A call.

module _ (image : List ℕ) (zs : List ℤ) (ranged : AllInRange zs) (budget : ℕ) where
  kept : (x : Refusal) (p : ℕ) (ws : List ℕ) → Ranged (refusing x p zs ws)
  kept x p ws = record { answer = tt; registers = ranged }

  run_ranged : (ws : List ℕ) (r : ℕ) (t : Root) (a : Passed) → check_image image ≡ passed r t a → length zs ≡ r → Ranged (finish r ws (high_marks budget (start r t zs)) (run budget 0 (start r t zs)))
  run_ranged ws r t a passes count = by (run budget 0 (start r t zs)) (run_ends image r t a passes zs count ranged budget)
    where
      facts : (k : ℕ) (σ : State) (h : History) → Reach budget (start r t zs) r k σ h → StateFacts r σ
      facts k σ h reached = state_facts image r t a passes zs count ranged budget k σ h reached

      by : (e : Ending) → EndsWell budget (start r t zs) r a e → Ranged (finish r ws (high_marks budget (start r t zs)) e)
      by (ended k σ) (normally h reached empty final) =
          record { answer = left_ranged (values_of σ) (facts k σ h reached).values_ranged; registers = registers_ranged (store_of σ) r 0 (λ i l. (facts k σ h reached).registers_hold i (omega (arith, l))) }
      by (stopped x k σ) (withheld_for h rule e reached applies w q) =
          record { answer = tt; registers = registers_ranged (store_of σ) r 0 (λ i l. (facts k σ h reached).registers_hold i (omega (arith, l))) }
      by (lost k σ) no_end = elim no_end [ ]

  either : (t : Bool) (c d : Called) → Ranged c → Ranged d → Ranged (cond t c d)
  either true c d p q = p
  either false c d p q = q

  checked_ranged : (ws : List ℕ) (k : Checked) → check_image image ≡ k → Ranged (run_checked k zs budget ws)
  checked_ranged ws (turned_back x p) e = kept x p ws
  checked_ranged ws (passed r t a) e = by (eqb (length zs) r) refl
    where
      by : (s : Bool) → eqb (length zs) r ≡ s → Ranged (cond s (finish r ws (high_marks budget (start r t zs)) (run budget 0 (start r t zs))) (refusing Refusals.Registers 0 zs ws))
      by true q = run_ranged ws r t a e (eqb-true (length zs) r q)
      by false q = kept Refusals.Registers 0 ws

  pub engine_ranged : (work : List ℕ) → Ranged (engine image zs budget work)
  unfolding engine
  engine_ranged work =
      either (ltb (length work) work_words) (refusing Refusals.Work 0 zs work)
      (cond (leb budget most_budget) (run_checked (check_image image) zs budget (cleared work)) (refusing Refusals.Budget 0 zs work)) (kept Refusals.Work 0 work)
      (either (leb budget most_budget) (run_checked (check_image image) zs budget (cleared work)) (refusing Refusals.Budget 0 zs work)
      (checked_ranged (cleared work) (check_image image) refl) (kept Refusals.Budget 0 work))
