-- Where the ranges give ends every refusal before them was passed: there are as many limits as registers, they do not cross, no Loop is in the tree,
-- the room figures are within their limits, and the ends are those of the carried cells.
use Rattle.std.specs.Prelude.{ℕ, ◌≤◌, ◌≡◌, Bool, true, false, cond, ◌&&◌, List, ltb, ℤ}
use Rattle.std.proofs.Math.Path.{refl}
use Rattle.std.proofs.Common.{sym, ap, ◌∙◌, subst}
use Rattle.std.proofs.Math.Option.{Option, none, some}
use borrow.Author.Tests.{eqb-true, ltb-false}
use Rattle.std.proofs.Math.Dec.{eqb}
use Rattle.std.proofs.Math.ListN.{length}
use Rattle.rules.proofs.Basics.{missing, passed_test, true_test, and_left, and_right}
use Rattle.rules.specs.paper.Tree.{Root}
use Rattle.rules.specs.paper.Refusals.{Reason, Cells, Bindings, ValueEntries, ControlEntries}
use Rattle.rules.specs.paper.Refusals as Refusals
use Rattle.rules.specs.paper.Limits.{most_steps, most_cells, most_bindings, most_value_entries, most_control_entries, work_words}
use Rattle.rules.specs.paper.Checker.{Passed}
use Rattle.rules.specs.paper.Needs.{Figure, control, values, cells, bindings, Sizes, routine_need, has_loop}
use Rattle.rules.specs.paper.Engine.{Checked, turned_back, passed, check_image, cleared}
use Rattle.rules.specs.paper.Carried.{Carrying, carried, unsafe, unfit}
use Rattle.rules.specs.paper.Carrying.{CarriedCells, carry_routine}
use Rattle.rules.specs.paper.Ranges.{RangesAnswer, ends_given, no_ends, RangesCalled, no_ranges, lowest_of, highest_of, ends_from, carried_ranges, limits_cross, room_refusal, with_room, ranges_of, ranges_checked, ranges}
use Rattle.rules.specs.claims.FreeRun.{limits}
use Rattle.rules.proofs.ranges.Fitting.{carrying_fits}

pub record EndsOf (r : ℕ) (t : Root) (ls hs : List ℤ) (c : RangesCalled) : Type 0 where
  pub as_many_lowest : length ls ≡ r
  pub as_many_highest : length hs ≡ r
  pub room : (f : Figure) → (routine_need r t).most f ≤ limits f
  pub left : CarriedCells
  pub carries : carry_routine r t ls hs ≡ carried left
  pub lowest_is : c.lowest ≡ ends_from lowest_of 0 r left
  pub highest_is : c.highest ≡ ends_from highest_of 0 r left

abbrev pub GivesEnds : RangesAnswer → Type 0
GivesEnds ends_given = Unit {0}
GivesEnds (no_ends x p) = ⊥

-- A test whose refusal is not given has failed; one whose refusal stands on the other side has passed.
past : (t : Bool) (refusal body : RangesCalled) → (GivesEnds refusal.answer → ⊥) → GivesEnds (cond t refusal body).answer → (t ≡ false) × (cond t refusal body ≡ body)
past true refusal body never h = absurd (never h)
past false refusal body never h = (refl, refl)

met : (t : Bool) (body refusal : RangesCalled) → (GivesEnds refusal.answer → ⊥) → GivesEnds (cond t body refusal).answer → (t ≡ true) × (cond t body refusal ≡ body)
met true body refusal never h = (refl, refl)
met false body refusal never h = absurd (never h)

along : {x y : RangesCalled} → x ≡ y → GivesEnds x.answer → GivesEnds y.answer
along q h = subst (λ c. GivesEnds c.answer) q h

-- ---- The room figures.

room_kept : (s : Sizes) → room_refusal s ≡ none → (f : Figure) → s f ≤ limits f
unfolding room_refusal
room_kept s q =
    first (ltb most_cells (s cells)) (ltb most_bindings (s bindings)) (ltb most_value_entries (s values)) (ltb most_control_entries (s control)) refl refl refl refl q
  where
    first : (a b c d : Bool) → ltb most_cells (s cells) ≡ a → ltb most_bindings (s bindings) ≡ b → ltb most_value_entries (s values) ≡ c →
        ltb most_control_entries (s control) ≡ d →
        cond a (some Cells) (cond b (some Bindings) (cond c (some ValueEntries) (cond d (some ControlEntries) none))) ≡ none → (f : Figure) → s f ≤ limits f
    first true b c d p₁ p₂ p₃ p₄ e f = missing (sym e)
    first false true c d p₁ p₂ p₃ p₄ e f = missing (sym e)
    first false false true d p₁ p₂ p₃ p₄ e f = missing (sym e)
    first false false false true p₁ p₂ p₃ p₄ e f = missing (sym e)
    first false false false false p₁ p₂ p₃ p₄ e control = ltb-false most_control_entries (s control) p₄
    first false false false false p₁ p₂ p₃ p₄ e values = ltb-false most_value_entries (s values) p₃
    first false false false false p₁ p₂ p₃ p₄ e cells = ltb-false most_cells (s cells) p₁
    first false false false false p₁ p₂ p₃ p₄ e bindings = ltb-false most_bindings (s bindings) p₂

roomy : (o : Option Reason) (body : RangesCalled) (ls hs : List ℤ) (ws : List ℕ) → GivesEnds (with_room o body ls hs ws).answer →
    (o ≡ none) × (with_room o body ls hs ws ≡ body)
roomy none body ls hs ws h = (refl, refl)
roomy (some x) body ls hs ws h = absurd h

-- ---- The whole call.

module _ (r : ℕ) (t : Root) (ls hs : List ℤ) (ws : List ℕ) where
  -- What was carried, where nothing was refused.
  record Left (c : RangesCalled) : Type 0 where
    left : CarriedCells
    carries : carry_routine r t ls hs ≡ carried left
    lowest_is : c.lowest ≡ ends_from lowest_of 0 r left
    highest_is : c.highest ≡ ends_from highest_of 0 r left

  left_by : (m : Carrying CarriedCells) → carry_routine r t ls hs ≡ m → (m ≡ unfit → ⊥) → GivesEnds (carried_ranges r m ls hs ws).answer →
      Left (carried_ranges r m ls hs ws)
  left_by (carried K) q fit h = record { left = K; carries = q; lowest_is = refl; highest_is = refl }
  left_by (unsafe p) q fit h = absurd h
  left_by unfit q fit h = absurd (fit refl)

  of_passed : (image : List ℕ) (a : Passed) → check_image image ≡ passed r t a → GivesEnds (ranges_of r t ls hs ws).answer → EndsOf r t ls hs (ranges_of r t ls hs ws)
  unfolding ranges_of
  of_passed image a passes h =
      let counts = met (eqb (length ls) r && eqb (length hs) r) _ (no_ranges Refusals.Registers 0 ls hs ws) (λ x. x) h in
      let h₁ = along counts.1 h in
      let ordered = past (limits_cross ls hs) (no_ranges Refusals.CrossedLimits 0 ls hs ws) _ (λ x. x) h₁ in
      let h₂ = along ordered.1 h₁ in
      let straight = past (has_loop t) (no_ranges Refusals.HasLoop 0 ls hs ws) _ (λ x. x) h₂ in
      let h₃ = along straight.1 h₂ in
      let counted = past (ltb most_steps (routine_need r t).all_steps) (no_ranges Refusals.TooManySteps 0 ls hs ws) _ (λ x. x) h₃ in
      let h₄ = along counted.1 h₃ in
      let room = roomy (room_refusal (routine_need r t).most) (carried_ranges r (carry_routine r t ls hs) ls hs ws) ls hs ws h₄ in
      let h₅ = along room.1 h₄ in
      let many = passed_test counts.0 in
      let low : length ls ≡ r = eqb-true (length ls) r (true_test _ (and_left (eqb (length ls) r) (eqb (length hs) r) many)) in
      let high : length hs ≡ r = eqb-true (length hs) r (true_test _ (and_right (eqb (length ls) r) (eqb (length hs) r) many)) in
      let same : ranges_of r t ls hs ws ≡ carried_ranges r (carry_routine r t ls hs) ls hs ws = counts.1 ∙ ordered.1 ∙ straight.1 ∙ counted.1 ∙ room.1 in
      with_left low high (room_kept (routine_need r t).most room.0)
      (subst Left (sym same) (left_by (carry_routine r t ls hs) refl (carrying_fits image r t a passes straight.0 ls hs low high ordered.0) h₅))
    where
      with_left : length ls ≡ r → length hs ≡ r → ((f : Figure) → (routine_need r t).most f ≤ limits f) → Left (ranges_of r t ls hs ws) →
          EndsOf r t ls hs (ranges_of r t ls hs ws)
      with_left low high fits last =
          record {
            as_many_lowest = low;
            as_many_highest = high;
            room = fits;
            left = last.left;
            carries = last.carries;
            lowest_is = last.lowest_is;
            highest_is = last.highest_is;
          }

pub ends_of : (image : List ℕ) (ls hs : List ℤ) (ws : List ℕ) → (ranges image ls hs ws).answer ≡ ends_given → (r : ℕ) (t : Root) (a : Passed) →
    check_image image ≡ passed r t a →
    EndsOf r t ls hs (ranges image ls hs ws)
unfolding ranges
ends_of image ls hs ws q r t a passes =
    let h = subst GivesEnds (sym q) tt in
    let lent = past (ltb (length ws) work_words) (no_ranges Refusals.Work 0 ls hs ws) (ranges_checked (check_image image) ls hs (cleared ws)) (λ x. x) h in
    let same : ranges image ls hs ws ≡ ranges_of r t ls hs (cleared ws) = lent.1 ∙ ap (λ c. ranges_checked c ls hs (cleared ws)) passes in
    subst (EndsOf r t ls hs) (sym same) (of_passed r t ls hs (cleared ws) image a passes (along same h))

-- The image was passed.
pub record ImagePassed (image : List ℕ) : Type 0 where
  pub registers : ℕ
  pub tree : Root
  pub root : Passed
  pub passes : check_image image ≡ passed registers tree root

pub image_passed : (image : List ℕ) (ls hs : List ℤ) (ws : List ℕ) → (ranges image ls hs ws).answer ≡ ends_given → ImagePassed image
unfolding ranges
image_passed image ls hs ws q =
    let h = subst GivesEnds (sym q) tt in
    let lent = past (ltb (length ws) work_words) (no_ranges Refusals.Work 0 ls hs ws) (ranges_checked (check_image image) ls hs (cleared ws)) (λ x. x) h in
    by (check_image image) refl (along lent.1 h)
  where
    by : (c : Checked) → check_image image ≡ c → GivesEnds (ranges_checked c ls hs (cleared ws)).answer → ImagePassed image
    by (turned_back x p) e h = absurd h
    by (passed r t a) e h = record { registers = r; tree = t; root = a; passes = e }
