-- What `ranges` answers, by the definitions of the rules: ends, or the refusal with its place; and what is left of both lists.
use Rattle.std.specs.Prelude.{ℕ, ◌<◌, ◌≡◌, cond, List, ltb, length, get_or, Option, Some, None, Result, Ok}
use Rattle.std.proofs.Math.Option as Rules
use Rattle.std.proofs.Math.Option.{none, some}
use Rattle.rules.specs.paper.Limits.{most_steps}
use Rattle.rules.specs.paper.Tree.{Root}
use Rattle.rules.specs.Answers.{refused_at}
use Rattle.rules.specs.declared.refusals.Reason.{Reason}
use Rattle.rules.specs.declared.refusals.Refusal.{Refusal}
use Rattle.rules.specs.declared.refusals.Refusal.TheVariants.{Withheld, TooManySteps, HasLoop}
use Rattle.rules.specs.declared.refusals.Refused.{Refused}
use Rattle.rules.specs.declared.kinds.Passed.{Passed}
use Rattle.rules.specs.paper.Needs.{Sizes, sizes, routine_need, has_loop}
use Rattle.rules.specs.paper.Engine.{Checked, check_image, passed}
use Rattle.rules.specs.paper.Ranges.{RangesAnswer, ends_given, no_ends, RangesCalled, room_refusal, ranges_of, ranges_checked, ranges}
use Rattle.integers.specs.Words.{integers_of, words_of}
use Rattle.reader.specs.Stored.{RootAt}
use Rattle.estimator.specs.declared.figures.Need.{Need}
use Rattle.calls.specs.Needs.{SmallRoom}

abbrev pub ranges_reply : RangesAnswer → Result (Unit {0}) Refused
ranges_reply ends_given = Ok tt
ranges_reply (no_ends x p) = refused_at x p

-- The call on limits that are held as words.
abbrev pub ranges_call : (image lowest highest work : List ℕ) → RangesCalled
ranges_call image lowest highest work = ranges image (integers_of lowest) (integers_of highest) work

-- Words of 64 bits.
abbrev pub WordsFit : List ℕ → Type 0
WordsFit ws = (i : ℕ) → i < length ws → get_or ws i 0 < 18446744073709551616

-- The answer, both lists as words, which hold the integers, and the work words.
pub record RangedAs (c : RangesCalled) (r : Result (Unit {0}) Refused) (lowest highest work : List ℕ) : Type 0 where
  pub answer_is : r ≡ ranges_reply c.answer
  pub lowest_are : lowest ≡ words_of c.lowest
  pub highest_are : highest ≡ words_of c.highest
  pub lowest_hold : integers_of lowest ≡ c.lowest
  pub highest_hold : integers_of highest ≡ c.highest
  pub work_is : work ≡ c.work

-- ---- Why a tree is not carried.

-- None where nothing is refused.
abbrev pub told : Rules.Option Refusal → Option Refusal
told none = None
told (some x) = Some x

abbrev pub room_refused : Rules.Option Reason → Rules.Option Refusal
room_refused none = none
room_refused (some x) = some (Withheld x)

abbrev pub room_of : Need → Sizes
room_of n = sizes n.control n.values n.cells n.bindings

-- 43, 40, 33 to 36.
abbrev pub tree_refusal : (registers : ℕ) → Root → Rules.Option Refusal
tree_refusal r t =
    cond (has_loop t) (some HasLoop) (cond (ltb most_steps (routine_need r t).all_steps) (some TooManySteps) (room_refused (room_refusal (routine_need r t).most)))

abbrev pub TreeRefused : List ℕ → (registers nodes : ℕ) → Option Refusal → Type 0
TreeRefused words registers nodes r = (t : Root) → RootAt words nodes t → SmallRoom registers t → r ≡ told (tree_refusal registers t)

-- ---- The ranges of a tree and of an image, whatever the work words are that the call is to leave.

-- Of every tree passed so that stands in the work words.
abbrev pub TreeRanged : (registers : ℕ) → List ℕ → (nodes : ℕ) → (lowest highest : List ℕ) → Result (Unit {0}) Refused → (lowest' highest' : List ℕ) → Type 0
TreeRanged registers words nodes lowest highest r lowest' highest' =
    (image : List ℕ) (t : Root) (a : Passed) → check_image image ≡ passed registers t a → RootAt words nodes t → (work : List ℕ) →
    RangedAs (ranges_of registers t (integers_of lowest) (integers_of highest) work) r lowest' highest' work

abbrev pub ImageRanged : Checked → (lowest highest : List ℕ) → Result (Unit {0}) Refused → (lowest' highest' : List ℕ) → Type 0
ImageRanged c lowest highest r lowest' highest' = (work : List ℕ) → RangedAs (ranges_checked c (integers_of lowest) (integers_of highest) work) r lowest' highest' work
