-- `runs_within_ranges`, from the theorem of the rules about the replies: a run from starts within limits for which `ranges` gives ends.
use Rattle.std.specs.Prelude.{ℕ, ◌-◌, ◌^◌, ◌≤◌, ◌≡◌, refl, List, [], ◌∷◌, T, ℤ, Result, Ok}
use Rattle.std.proofs.Common.{sym, ap, ◌∙◌, subst, arith, lt→ltb}
use Rattle.rules.specs.paper.Refusals.{reason_number, refusal_number}
use Rattle.rules.specs.declared.refusals.Reason.{Reason}
use Rattle.rules.specs.declared.refusals.Reason.TheVariants.{Steps}
use Rattle.rules.specs.declared.refusals.Refusal.{Refusal}
use Rattle.rules.specs.declared.refusals.Refusal.TheVariants.{Length, Size, Kind, Operand, Tree, Depth, Unbound, Mistyped, Repeated, NotAssignable, BadCall, Registers, Budget, Work, Withheld, TooManySteps, ShortPage, CrossedLimits, HasLoop, UnsafeArithmetic}
use Rattle.rules.specs.paper.Integers.{in_range}
use Rattle.rules.specs.paper.Engine.{Outcome, Answer, outcome, refused}
use Rattle.rules.specs.paper.Ranges.{RangesAnswer, ends_given, no_ends}
use Rattle.rules.specs.claims.Claim.{AllInRange}
use Rattle.rules.specs.claims.Ranges.{Within}
use Rattle.rules.proofs.ranges.RootRuns.{starts_in_range}
use Rattle.rules.proofs.ranges.RangesHold.{replies_within_ranges}
use Rattle.integers.specs.Words.{integer_of, word_of, integers_of, words_of}
use Rattle.integers.specs.WordLaws.{by_sign, integer_low, integer_high, integer_of_word}
use Rattle.calls.specs.Runs.{outcome_reply, run_call}
use Rattle.calls.specs.Ranges.{ranges_reply, ranges_call}
use Rattle.calls.specs.Claim.{OutcomeHas, WordsWithin, RunsWithinRanges}
use Rattle.rules.specs.declared.refusals.Refused.{Refused}

-- Whatever a word is, the integer it holds is one of the range.
word_in_range : (w : ℕ) → T (in_range (integer_of w))
word_in_range w =
    by_sign w (λ low. rw (integer_low w low) (lt→ltb w (2 ^ 63) low)) (λ high. rw (integer_high w high) (lt→ltb (2 ^ 64 - 1 - w) (2 ^ 63) (omega (arith, high))))

pub words_in_range : (ws : List ℕ) → AllInRange (integers_of ws)
unfolding integers_of
words_in_range [] = tt
words_in_range (w ∷ ws) = (word_in_range w, words_in_range ws)

-- Integers of the range are those that their words hold.
pub integers_back : (zs : List ℤ) → AllInRange zs → integers_of (words_of zs) ≡ zs
unfolding integers_of words_of
integers_back [] ranged = refl
integers_back (z ∷ zs) ranged = two_parts (integer_of_word z ranged.0) (integers_back zs ranged.1)
  where
    two_parts : integer_of (word_of z) ≡ z → integers_of (words_of zs) ≡ zs → ◌≡◌ {A = List ℤ} (integer_of (word_of z) ∷ integers_of (words_of zs)) (z ∷ zs)
    two_parts p q = cc

-- Ends are answered where they are given.
given_ends : (a : RangesAnswer) (r : Result (Unit {0}) Refused) → r ≡ ranges_reply a → r ≡ Ok tt → a ≡ ends_given
given_ends ends_given r p q = refl
given_ends (no_ends x o) r p q = cc

-- 31 to 36 are reasons, and none of them is the budget.
no_step : (x : Refusal) → ((y : Reason) → x ≡ Withheld y → y ≡ Steps) → 31 ≤ refusal_number x → refusal_number x ≤ 36 → ⊥
unfolding refusal_number reason_number
no_step Length only l h = omega (arith, l)
no_step Size only l h = omega (arith, l)
no_step Kind only l h = omega (arith, l)
no_step Operand only l h = omega (arith, l)
no_step Tree only l h = omega (arith, l)
no_step Depth only l h = omega (arith, l)
no_step Unbound only l h = omega (arith, l)
no_step Mistyped only l h = omega (arith, l)
no_step Repeated only l h = omega (arith, l)
no_step NotAssignable only l h = omega (arith, l)
no_step BadCall only l h = omega (arith, l)
no_step Registers only l h = omega (arith, l)
no_step Budget only l h = omega (arith, l)
no_step Work only l h = omega (arith, l)
no_step (Withheld y) only l h = absurd (above (subst (λ z. 31 ≤ reason_number z) (only y refl) l))
  where
    above : 31 ≤ 30 → ⊥
    above g = omega (arith, g)
no_step TooManySteps only l h = omega (arith, h)
no_step ShortPage only l h = omega (arith, h)
no_step CrossedLimits only l h = omega (arith, h)
no_step HasLoop only l h = omega (arith, h)
no_step UnsafeArithmetic only l h = omega (arith, h)

-- What an answer of the definition says of the code's.
answered : (a : Answer) (Fact : Type 0) → ((x : Reason) (p : ℕ) → a ≡ refused (Withheld x) p → x ≡ Steps) → ((o : Outcome) → a ≡ outcome o → Fact) → OutcomeHas (outcome_reply a) Fact
answered (outcome o) Fact only fact = fact o refl
answered (refused x p) Fact only fact = no_step x (λ y q. only y p (ap (λ z. refused z p) q))

-- The ends and the registers, each as its words hold them.
held_within : {ls zs hs : List ℤ} (lowest last highest : List ℕ) → integers_of lowest ≡ ls → last ≡ words_of zs → integers_of highest ≡ hs → Within ls zs hs → WordsWithin lowest last highest
held_within {ls} {zs} {hs} lowest last highest p q r within =
    let inside = starts_in_range within (subst AllInRange p (words_in_range lowest)) (subst AllInRange r (words_in_range highest)) in
    rw (p, ap integers_of q ∙ integers_back zs inside, r) within

pub runs_within_ranges : RunsWithinRanges
runs_within_ranges image lowest highest lent ranged lowest_ends highest_ends lent_left left given registers starts budget work answer last work_left ran_as =
    let ends = given_ends (ranges_call image lowest highest lent).answer ranged left.answer_is given in
    let replies = replies_within_ranges image (integers_of lowest) (integers_of highest) lent (words_in_range lowest) (words_in_range highest) ends (integers_of registers) starts budget work in
    subst (λ r. OutcomeHas r.outcome (WordsWithin lowest_ends last highest_ends)) (sym ran_as.answer_is)
    (answered (run_call image registers budget work).reply.answer (WordsWithin lowest_ends last highest_ends) replies.0
    (λ o q. held_within lowest_ends last highest_ends left.lowest_hold ran_as.registers_are left.highest_hold (replies.1 o q)))
