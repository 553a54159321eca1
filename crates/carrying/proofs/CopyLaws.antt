-- The cells copied, exchanged with their copy, and widened by it, one cell after the other: what is done so far, and that the others are as they were.
use Prim.Native.Nat.{ℕ, ◌+◌, ◌<◌, ◌≤◌}
use mathlib.Core.Path.{◌≡◌, refl, sym, ap, ◌∙◌}
use mathlib.Core.List.{List}
use mathlib.Core.Option.{none, some}
use mathlib.Core.Bool.{Bool, true, false, cond}
use native.Mathlib.Omega.{arith}
use lib.Dec.{eqb}
use lib.ListN.{length, get_or}
use Rattle.std.proofs.Common.{below_more}
use Rattle.rules.specs.paper.Limits.{most_cells}
use Rattle.rules.proofs.Basics.{missing}
use Rattle.rules.specs.paper.Carried.{Carried, numbers, truths, location, wider}
use Rattle.intervals.specs.Values.{HoldsValue, holds_numbers, holds_truths, holds_location}
use Rattle.intervals.specs.declared.values.Value.{Value}
use Rattle.carrying.specs.Layout.{cell_sorts, cell_lows, cell_highs, cell_value, kept_ends, kept_value}
use Rattle.carrying.specs.Frames.{SetCell, Exchanged, Widened}
use Rattle.carrying.specs.declared.cells.Ends.{Ends}
use Rattle.carrying.proofs.FrameLaws.{set_keeps, keeps_then}
use Rattle.carrying.proofs.StateLaws.{holds_same, same_parts, cell_elsewhere}

-- ---- Exchanging.

pub record ExchangedSoFar (first words : List ℕ) (first_kept kept : List Ends) (at : ℕ) : Type 0 where
  pub so_far : Exchanged first words first_kept kept at
  pub lows_left : (i : ℕ) → at ≤ i → i < most_cells → get_or words (cell_lows + i) 0 ≡ get_or first (cell_lows + i) 0
  pub highs_left : (i : ℕ) → at ≤ i → i < most_cells → get_or words (cell_highs + i) 0 ≡ get_or first (cell_highs + i) 0
  pub kept_left : (i : ℕ) → at ≤ i → i < length kept → kept_ends kept i ≡ kept_ends first_kept i

-- ---- Widening.

pub record WidenedSoFar (first words : List ℕ) (kept : List Ends) (at : ℕ) : Type 0 where
  pub so_far : Widened first words kept at
  pub cells_left : (i : ℕ) → at ≤ i → i < most_cells → cell_value first i ≡ cell_value words i

-- The wider value has the sort of both.
wider_sort : {s t : Value} (v : Carried) {w x : Carried} → wider v w ≡ some x → HoldsValue s w → HoldsValue t x → t.sort ≡ s.sort
wider_sort (numbers a b) q (holds_numbers s l h f g) (holds_numbers s' l' h' f' g') = s' ∙ sym s
wider_sort (numbers a b) q (holds_numbers s l h f g) (holds_truths s' l' h') = absurd cc
wider_sort (numbers a b) q (holds_numbers s l h f g) (holds_location s' l' h') = absurd cc
wider_sort (numbers a b) q (holds_truths s l h) k = missing q
wider_sort (numbers a b) q (holds_location s l h) k = missing q
wider_sort (truths f t) q (holds_numbers s l h a b) k = missing q
wider_sort (truths f t) q (holds_truths s l h) (holds_numbers s' l' h' f' g') = absurd cc
wider_sort (truths f t) q (holds_truths s l h) (holds_truths s' l' h') = s' ∙ sym s
wider_sort (truths f t) q (holds_truths s l h) (holds_location s' l' h') = absurd cc
wider_sort (truths f t) q (holds_location s l h) k = missing q
wider_sort (location k) q (holds_numbers s l h a b) g = missing q
wider_sort (location k) q (holds_truths s l h) g = missing q
wider_sort {s = r} {t = t} (location k) q (holds_location {l = l} s i h) g = by (eqb k l) q g
  where
    by : {x : Carried} (b : Bool) → cond b (some (location k)) none ≡ some x → HoldsValue t x → t.sort ≡ r.sort
    by true e (holds_numbers s' l' h' f' g') = absurd cc
    by true e (holds_truths s' l' h') = absurd cc
    by true e (holds_location s' l' h') = s' ∙ sym s
    by false e m = missing e

-- The ends that the copy has, with the sort of what was read.
abbrev with_sort : (sort : ℕ) → Ends → Value
with_sort s e = record { sort = s; low = e.low; high = e.high }

-- What the wider of the copy and of the cell is, where the cell was read, and the ends in its place in the copy.
pub widened_by : (words : List ℕ) (at : ℕ) (ends read_ends : Ends) (read both : Value) → read ≡ cell_value words at → read_ends ≡ ends →
    ((v w x : Carried) → HoldsValue (with_sort read.sort read_ends) v → HoldsValue read w → wider v w ≡ some x → HoldsValue both x) →
    (v w x : Carried) → HoldsValue (with_sort (get_or words (cell_sorts + at) 0) ends) v → HoldsValue (cell_value words at) w → wider v w ≡ some x → HoldsValue both x
widened_by words at ends read_ends read both q same found v w x hv hw =
    found v w x (holds_same (same_parts (ap (λ r. r.sort) q) (ap (λ e. e.low) same) (ap (λ e. e.high) same)) hv) (holds_same (sym q) hw)

module _ (first words words' : List ℕ) (kept : List Ends) (at : ℕ) (small : at < most_cells) (so : WidenedSoFar first words kept at) (both : Value)
    (found : (v w x : Carried) → HoldsValue (with_sort (get_or words (cell_sorts + at) 0) (kept_ends kept at)) v → HoldsValue (cell_value words at) w → wider v w ≡ some x → HoldsValue both x)
    (written : SetCell words words' at both.low both.high) where
  same_sort_word : get_or words (cell_sorts + at) 0 ≡ get_or first (cell_sorts + at) 0
  same_sort_word = so.so_far.keeps.same_sorts at small

  here : (v w x : Carried) → HoldsValue (kept_value first kept at) v → HoldsValue (cell_value first at) w → wider v w ≡ some x → HoldsValue (cell_value words' at) x
  here v w x hv hw q =
      let held = holds_same (so.cells_left at (omega arith) small) hw in
      let wide = found v w x (holds_same (same_parts same_sort_word refl refl) hv) held q in
      holds_same
      (same_parts {s = both.sort} {l = both.low} {h = both.high}
      (written.others (cell_sorts + at) (omega (arith, small)) (omega (arith, small)) ∙ sym (wider_sort v q held wide)) written.low_set written.high_set)
      wide

  pub one_more_widened : WidenedSoFar first words' kept (at + 1)
  one_more_widened =
      record {
        so_far = record {
          widened =
              below_more _ _
              (λ i h v w x hv hw q. holds_same (cell_elsewhere at both.low both.high written i (omega (arith, h, small)) small (omega (arith, h))) (so.so_far.widened i h v w x hv hw q))
              here;
          keeps = keeps_then so.so_far.keeps (set_keeps small written);
        };
        cells_left = λ i h g. so.cells_left i (omega (arith, h)) g ∙ cell_elsewhere at both.low both.high written i g small (omega (arith, h));
      }
