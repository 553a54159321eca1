-- What is claimed of the ranges (document 02, request 10): any run from starts within the limits is withheld for nothing but the budget, so it meets
-- neither 31 nor 32, and where it ends every register lies within its ends. And of the rules by which ranges are carried: a comparison gives
-- exactly the truths that some pair of carried values gives, and the carrying of a passed image is never without a rule. This file names the
-- definitions and nothing of the proofs, which stand in proofs/ranges.
use Rattle.std.specs.Prelude.{ℕ, ◌≡◌, ◌↔◌, Bool, false, List, [], ◌∷◌, T, ℤ, length, ◌≤ℤ◌}
use Rattle.rules.specs.paper.Tree.{Order, Root}
use Rattle.rules.specs.paper.Refusals.{Reason, Steps, Withheld}
use Rattle.rules.specs.paper.Checker.{Passed}
use Rattle.rules.specs.paper.Integers.{compare, equal_integers}
use Rattle.rules.specs.paper.States.{State, store_of}
use Rattle.rules.specs.paper.Rules.{Rule, Effect, Applies}
use Rattle.rules.specs.paper.Run.{ended, run}
use Rattle.rules.specs.paper.Needs.{has_loop}
use Rattle.rules.specs.paper.Engine.{check_image, passed, start, registers_from, engine, Outcome, outcome, refused}
use Rattle.rules.specs.paper.Carried.{Carried, numbers, truths, location, unfit, possible, carry_order, carry_equal}
use Rattle.rules.specs.paper.Carrying.{carry_routine}
use Rattle.rules.specs.paper.Ranges.{ends_given, limits_cross, ranges}
use Rattle.rules.specs.claims.History.{History, Reach}
use Rattle.rules.specs.claims.Claim.{ReasonHolds, AllInRange}

-- ---- Comparisons.

-- Some integers within the ends give this truth.
pub record SomePair (a b c d : ℤ) (give : ℤ → ℤ → Bool) (w : Bool) : Type 0 where
  pub first : ℤ
  pub second : ℤ
  pub first_within : (a ≤ℤ first) × (first ≤ℤ b)
  pub second_within : (c ≤ℤ second) × (second ≤ℤ d)
  pub gives : give first second ≡ w

-- The set has just the truths of this property.
abbrev pub JustTruths : Carried → (Bool → Type 0) → Type 0
JustTruths (numbers a b) Property = ⊥
JustTruths (truths f t) Property = (w : Bool) → T (possible w f t) ↔ Property w
JustTruths (location l) Property = ⊥

abbrev pub ComparisonsExact : Type 0
ComparisonsExact =
    (a b c d : ℤ) → a ≤ℤ b → c ≤ℤ d →
    ((o : Order) → JustTruths (carry_order o a b c d) (SomePair a b c d (compare o))) × JustTruths (carry_equal a b c d) (SomePair a b c d equal_integers)

-- ---- The carrying of a passed image without Loop, over limits that do not cross, is never unfit.

abbrev pub CarryingFits : Type 0
CarryingFits =
    (image : List ℕ) (r : ℕ) (t : Root) (a : Passed) → check_image image ≡ passed r t a → has_loop t ≡ false →
    (lowest highest : List ℤ) → length lowest ≡ r → length highest ≡ r → limits_cross lowest highest ≡ false → carry_routine r t lowest highest ≡ unfit → ⊥

-- ---- The runs.

-- As many integers as there are ends, each within its own.
pub data Within : (lowest integers highest : List ℤ) → Type 0 where
  none_within : Within [] [] []
  one_within : {l z h : ℤ} {ls zs hs : List ℤ} → l ≤ℤ z → z ≤ℤ h → Within ls zs hs → Within (l ∷ ls) (z ∷ zs) (h ∷ hs)

-- For every image and limits for which the ranges give ends, every start within the limits and every budget:
abbrev pub ForRanges : ((registers : ℕ) → Root → (start lowest highest : List ℤ) → Type 0) → Type 0
ForRanges claim =
    (image : List ℕ) (lowest highest : List ℤ) (work : List ℕ) → AllInRange lowest → AllInRange highest → (ranges image lowest highest work).answer ≡ ends_given →
    (r : ℕ) (t : Root) (a : Passed) → check_image image ≡ passed r t a → (registers : List ℤ) → Within lowest registers highest →
    claim r t registers (ranges image lowest highest work).lowest (ranges image lowest highest work).highest

-- in no state of the run does a reason hold but the budget, so the run meets neither 31 nor 32 ..
abbrev pub OnlyTheBudget : Type 0
OnlyTheBudget =
    ForRanges
    (λ r t registers lowest highest.
    (budget steps : ℕ) (σ : State) (h : History) → Reach budget (start r t registers) r steps σ h →
    (x : Rule) (e : Effect) → Applies x σ e → (reason : Reason) → ReasonHolds budget steps e reason → reason ≡ Steps)

-- .. and where it ends each register lies within its ends.
abbrev pub EndsWithin : Type 0
EndsWithin =
    ForRanges
    (λ r t registers lowest highest.
    (budget k : ℕ) (τ : State) → run budget 0 (start r t registers) ≡ ended k τ → Within lowest (registers_from 0 r (store_of τ)) highest)

-- Of the replies: whatever budget and work words a run from such a start is called with, a step is withheld for the budget alone, and where the
-- run has an outcome its registers lie within the ends.
abbrev pub RepliesWithinRanges : Type 0
RepliesWithinRanges =
    (image : List ℕ) (lowest highest : List ℤ) (lent : List ℕ) → AllInRange lowest → AllInRange highest → (ranges image lowest highest lent).answer ≡ ends_given →
    (registers : List ℤ) → Within lowest registers highest → (budget : ℕ) (work : List ℕ) →
    ((x : Reason) (p : ℕ) → (engine image registers budget work).reply.answer ≡ refused (Withheld x) p → x ≡ Steps)
    × ((o : Outcome) → (engine image registers budget work).reply.answer ≡ outcome o →
    Within (ranges image lowest highest lent).lowest (engine image registers budget work).registers (ranges image lowest highest lent).highest)
