-- The ranges of the registers (document 02, request 10): from image words, a lowest and a highest start for each register and the work slice's
-- words to the answer, the final lists and the final work words. 22 is tested first, then the image, 20 for either list, 42, 43, 40, 33 to 36
-- by the room figures, and 44.
use Rattle.std.specs.Prelude.{ℕ, zero, suc, Bool, false, cond, ◌&&◌, ◌||◌, List, [], ◌∷◌, eqb, ltb, ℤ, pos, length}
use Rattle.std.proofs.Math.Option.{Option, none, some}
use Rattle.std.specs.Int.Signed.{lt_z}
use Rattle.rules.specs.paper.Tree.{Root}
use Rattle.rules.specs.paper.Refusals.{Refusal, Withheld, Reason, Cells, Bindings, ValueEntries, ControlEntries}
use Rattle.rules.specs.paper.Refusals as Refusals
use Rattle.rules.specs.paper.Limits.{most_steps, most_cells, most_bindings, most_value_entries, most_control_entries, work_words}
use Rattle.rules.specs.paper.Needs.{Sizes, routine_need, has_loop}
use Rattle.rules.specs.paper.Needs as Needs
use Rattle.rules.specs.paper.Engine.{Checked, turned_back, passed, check_image, cleared}
use Rattle.rules.specs.paper.Carried.{Carried, numbers, truths, location, Carrying, carried, unsafe, unfit}
use Rattle.rules.specs.paper.Carrying.{CarriedCells, carried_at, carry_routine}

pub data RangesAnswer : Type 0 where
  ends_given : RangesAnswer
  no_ends : Refusal → (place : ℕ) → RangesAnswer

-- The answer, and what is left in both lists and in the work words.
pub record RangesCalled : Type 0 where
  pub answer : RangesAnswer
  pub lowest : List ℤ
  pub highest : List ℤ
  pub work : List ℕ

-- A refusal keeps both lists.
abbrev pub no_ranges : Refusal → (place : ℕ) → (lowest highest : List ℤ) → List ℕ → RangesCalled
no_ranges x p ls hs ws = record { answer = no_ends x p; lowest = ls; highest = hs; work = ws }

-- ---- The ends of the registers: cells 0 to r − 1, which are numbers in every carrying of a passed image.

abbrev pub lowest_of : Option Carried → ℤ
lowest_of none = pos 0
lowest_of (some (numbers a b)) = a
lowest_of (some (truths f t)) = pos 0
lowest_of (some (location l)) = pos 0

abbrev pub highest_of : Option Carried → ℤ
highest_of none = pos 0
highest_of (some (numbers a b)) = b
highest_of (some (truths f t)) = pos 0
highest_of (some (location l)) = pos 0

unfoldable pub ends_from : (Option Carried → ℤ) → (first count : ℕ) → CarriedCells → List ℤ
ends_from end i zero K = []
ends_from end i (suc k) K = end (carried_at i K) ∷ ends_from end (suc i) k K

-- 44 at the first such node in running order. The ends replace the starts.
abbrev pub carried_ranges : (registers : ℕ) → Carrying CarriedCells → (lowest highest : List ℤ) → List ℕ → RangesCalled
carried_ranges r (carried K) ls hs ws = record { answer = ends_given; lowest = ends_from lowest_of 0 r K; highest = ends_from highest_of 0 r K; work = ws }
carried_ranges r (unsafe p) ls hs ws = no_ranges Refusals.UnsafeArithmetic p ls hs ws
carried_ranges r unfit ls hs ws = record { answer = ends_given; lowest = ls; highest = hs; work = ws }

-- ---- The refusals before it.

-- 42: a lowest exceeds its highest.
unfoldable pub limits_cross : (lowest highest : List ℤ) → Bool
limits_cross [] hs = false
limits_cross (l ∷ ls) [] = false
limits_cross (l ∷ ls) (h ∷ hs) = lt_z h l || limits_cross ls hs

-- The lowest of 33 to 36 whose room figure passes its limit.
unfoldable pub room_refusal : Sizes → Option Reason
room_refusal s =
    let control = cond (ltb most_control_entries (s Needs.control)) (some ControlEntries) none in
    let values = cond (ltb most_value_entries (s Needs.values)) (some ValueEntries) control in
    let bindings = cond (ltb most_bindings (s Needs.bindings)) (some Bindings) values in
    cond (ltb most_cells (s Needs.cells)) (some Cells) bindings

abbrev pub with_room : Option Reason → RangesCalled → (lowest highest : List ℤ) → List ℕ → RangesCalled
with_room none body ls hs ws = body
with_room (some x) body ls hs ws = no_ranges (Withheld x) 0 ls hs ws

-- 20 for either list, 42, 43, 40 on the steps with both commands of every Cond counted, 33 to 36, 44.
unfoldable pub ranges_of : (registers : ℕ) → Root → (lowest highest : List ℤ) → List ℕ → RangesCalled
ranges_of r t ls hs ws =
    let body = carried_ranges r (carry_routine r t ls hs) ls hs ws in
    let roomy = with_room (room_refusal (routine_need r t).most) body ls hs ws in
    let counted = cond (ltb most_steps (routine_need r t).all_steps) (no_ranges Refusals.TooManySteps 0 ls hs ws) roomy in
    let straight = cond (has_loop t) (no_ranges Refusals.HasLoop 0 ls hs ws) counted in
    let limited = cond (limits_cross ls hs) (no_ranges Refusals.CrossedLimits 0 ls hs ws) straight in
    cond (eqb (length ls) r && eqb (length hs) r) limited (no_ranges Refusals.Registers 0 ls hs ws)

abbrev pub ranges_checked : Checked → (lowest highest : List ℤ) → List ℕ → RangesCalled
ranges_checked (turned_back x p) ls hs ws = no_ranges x p ls hs ws
ranges_checked (passed r t c) ls hs ws = ranges_of r t ls hs ws

-- 22 touches nothing; every other call clears the work words.
unfoldable pub ranges : (image : List ℕ) → (lowest highest : List ℤ) → (work : List ℕ) → RangesCalled
ranges im ls hs ws =
    let body = ranges_checked (check_image im) ls hs (cleared ws) in
    cond (ltb (length ws) work_words) (no_ranges Refusals.Work 0 ls hs ws) body
