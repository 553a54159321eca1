-- The registers: whether some limits cross, their names and cells one after the other, and their ends taken from the cells.
use Prim.Native.Nat.{ℕ, zero, suc, ◌+◌, ◌<◌, ◌≤◌}
use mathlib.Core.Path.{◌≡◌, refl, sym, ap, ◌∙◌, subst}
use mathlib.Core.Bool.{Bool, true, false, cond, ◌||◌}
use mathlib.Core.List.{List, [], ◌∷◌}
use mathlib.Core.Option.{Option, some}
use native.Mathlib.Omega.{arith}
use lib.Dec.{T, eqb, eqb_refl}
use lib.IntN.{ℤ, pos}
use lib.ListN.{length, get_or, drop, length-drop}
use Rattle.std.proofs.Common.{Iter, ◌⊎◌, inl, inr}
use Rattle.std.proofs.lemmas.Grind.{same_number_lists}
use Rattle.std.specs.List.{list_any, zip}
use lib.Signed.{lt_z}
use Rattle.rules.specs.paper.Limits.{most_registers, most_bindings, most_cells}
use Rattle.rules.specs.paper.Integers.{in_range}
use Rattle.rules.specs.paper.Needs.{register_needs}
use Rattle.rules.proofs.Basics.{by_order}
use Rattle.rules.specs.paper.Carried.{Carried}
use Rattle.rules.specs.paper.Carrying.{CarriedCells, carried_at, register_names, register_cells}
use Rattle.rules.specs.paper.Ranges.{lowest_of, highest_of, ends_from, limits_cross}
use Rattle.rules.specs.claims.Claim.{AllInRange}
use Rattle.integers.specs.Words.{integer_of, word_of, integers_of, words_of}
use Rattle.integers.specs.WordLaws.{integer_in_range, word_of_integer, integers_at}
use Rattle.intervals.specs.Values.{numbers_sort, location_sort, HoldsValue, holds_numbers, holds_truths, holds_location}
use Rattle.intervals.specs.declared.values.Value.{Value}
use Rattle.carrying.specs.Layout.{cell_sorts, cell_lows, cell_highs}
use Rattle.carrying.specs.States.{RowAt, no_names, one_value, CellsAt, no_cells, one_cell}
use Rattle.carrying.specs.Frames.{Keeps, KeepsCells, PutRow, PutCell}
use Rattle.ranges.specs.Routine.{RegistersAt, RegisterPut, EndsTaken}
use Rattle.carrying.proofs.FrameLaws.{keeps_all, row_keeps, row_keeps_cells, cell_keeps, cell_keeps_cells, keeps_then, keeps_fewer}
use Rattle.carrying.proofs.StateLaws.{names_kept, row_there, cells_kept, cells_length, cell_more, cell_there}

-- ---- Whether some limits cross.

-- A register's lowest above its highest.
abbrev pub crosses : ℕ × ℕ → Bool
crosses p = lt_z (integer_of p.1) (integer_of p.0)

pub some_cross : (lowest highest : List ℕ) → list_any crosses (zip lowest highest) ≡ limits_cross (integers_of lowest) (integers_of highest)
unfolding limits_cross integers_of
some_cross [] highest = refl
some_cross (l ∷ lowest) [] = refl
some_cross (l ∷ lowest) (h ∷ highest) = ap (λ t. lt_z (integer_of h) (integer_of l) || t) (some_cross lowest highest)

-- ---- Names and cells.

pub no_registers : (words lowest highest : List ℕ) → RegistersAt words 0 lowest highest
unfolding register_names register_needs register_cells
no_registers words lowest highest = record { names_are = λ limit. no_names; cells_are = no_cells; numbers_there = λ i h. absurd (omega (arith, h)) }

module _ (words middle words' : List ℕ) (i low high : ℕ) (few : i < most_registers) (low_fits : low < 18446744073709551616) (high_fits : high < 18446744073709551616)
    (row : PutRow words middle i i i (record { sort = location_sort; low = i; high = i })) (cell : PutCell middle words' i (record { sort = numbers_sort; low = low; high = high })) where
  rows_kept : Keeps words middle i most_cells
  rows_kept = row_keeps (omega (arith, few)) row

  cells_below : Keeps middle words' most_bindings i
  cells_below = cell_keeps (omega (arith, few)) cell

  all_kept : Keeps words words' i i
  all_kept = keeps_then (keeps_fewer (omega arith) (omega (arith, few)) rows_kept) (keeps_fewer (omega (arith, few)) (omega arith) cells_below)

  cell_words_kept : KeepsCells words words' i
  cell_words_kept =
      record {
        same_cell_lows = λ j h. (cell_keeps_cells (omega (arith, few)) cell).same_cell_lows j h ∙ (row_keeps_cells (omega (arith, few)) row).same_cell_lows j (omega (arith, h, few));
        same_cell_highs = λ j h. (cell_keeps_cells (omega (arith, few)) cell).same_cell_highs j h ∙ (row_keeps_cells (omega (arith, few)) row).same_cell_highs j (omega (arith, h, few));
      }

  row_now : RowAt words' i i i (record { sort = location_sort; low = i; high = i })
  row_now = kept_row (row_there (omega (arith, few)) (omega (arith, few)) (omega arith) (omega arith) row)
    where
      kept_row : RowAt middle i i i (record { sort = location_sort; low = i; high = i }) → RowAt words' i i i (record { sort = location_sort; low = i; high = i })
      kept_row r =
          record {
            link_is = cells_below.same_links i (omega (arith, few)) ∙ r.link_is;
            low_is = cells_below.same_lows i (omega (arith, few)) ∙ r.low_is;
            high_is = cells_below.same_highs i (omega (arith, few)) ∙ r.high_is;
            row_few = r.row_few;
            name_low = r.name_low;
            sort_low = r.sort_low;
            below_older = r.below_older;
          }

  held_integer : (ws : List ℕ) (w : ℕ) → i < length ws → w ≡ get_or ws i 0 → w < 18446744073709551616 → (w ≡ word_of (get_or (integers_of ws) i (pos 0))) × T (in_range (get_or (integers_of ws) i (pos 0)))
  held_integer ws w among q fits =
      let same : get_or (integers_of ws) i (pos 0) ≡ integer_of w = integers_at ws i among ∙ ap integer_of (sym q) in
      (sym (ap word_of same ∙ word_of_integer w fits), subst (λ z. T (in_range z)) (sym same) (integer_in_range w fits))

  pub register_put : RegisterPut words words' i low high
  unfolding register_names register_needs register_cells
  register_put lowest highest among_low among_high p q before =
      subst (λ n. RegistersAt words' n lowest highest) (one_more i)
      (record {
        names_are = λ limit. one_value row_now (holds_location refl refl refl) (names_kept all_kept (omega arith) (before.names_are limit));
        cells_are =
            let l = held_integer lowest low among_low p low_fits in
            let h = held_integer highest high among_high q high_fits in
            cell_more cell (holds_numbers refl l.0 h.0 l.1 h.1) (cells_kept all_kept cell_words_kept (omega arith) before.cells_are);
        numbers_there = λ j h. by_order j i (λ below. all_kept.same_sorts j below ∙ before.numbers_there j below) (λ above. ap (λ k. get_or words' (cell_sorts + k) 0) (omega (arith, h, above)) ∙ ap (λ v. v.sort) cell.cell_put);
      })
    where
      one_more : (i : ℕ) → suc i ≡ i + 1
      one_more i = omega arith

-- What is left of a list begins with the element at the index.
pub next_left : (words : List ℕ) (i w : ℕ) (left : List ℕ) → drop i words ≡ w ∷ left → (i < length words) × (w ≡ get_or words i 0) × (left ≡ drop (suc i) words)
next_left [] zero w left q = absurd cc
next_left [] (suc i) w left q = absurd cc
next_left (v ∷ words) zero w left q = (omega arith, cc, cc)
next_left (v ∷ words) (suc i) w left q = let later = next_left words i w left q in (omega (arith, later.0), later.1, later.2)

-- So many registers are put, and the limits of the others are left.
pub record PutSoFar (first words lowest highest : List ℕ) (count : ℕ) (lows_left highs_left : List ℕ) : Type 0 where
  pub few : count ≤ length lowest
  pub lows_are : drop count lowest ≡ lows_left
  pub highs_are : drop count highest ≡ highs_left
  pub there : RegistersAt words count lowest highest
  pub keeps : Keeps first words 0 0

pub none_put : (words lowest highest : List ℕ) → PutSoFar words words lowest highest 0 lowest highest
none_put words lowest highest = record { few = omega arith; lows_are = refl; highs_are = refl; there = no_registers words lowest highest; keeps = keeps_all words 0 0 }

pub one_more_put : {first words words' lowest highest lows_left highs_left lows_after highs_after : List ℕ} {count after i low high : ℕ} → lows_left ≡ low ∷ lows_after → highs_left ≡ high ∷ highs_after →
    i ≡ count → after ≡ count + 1 → PutSoFar first words lowest highest count lows_left highs_left → RegisterPut words words' i low high → Keeps words words' 0 0 →
    PutSoFar first words' lowest highest after lows_after highs_after
one_more_put {words = words} {words' = words'} {lowest = lowest} {highest = highest} {count = count} {after = after} {i = i} {low = low} {high = high} p q same next so put kept =
    let lows = next_left lowest count low _ (so.lows_are ∙ p) in
    let highs = next_left highest count high _ (so.highs_are ∙ q) in
    let number : suc count ≡ after = omega (arith, next) in
    record {
      few = omega (arith, lows.0, next);
      lows_are = ap (λ k. drop k lowest) (sym number) ∙ sym lows.2;
      highs_are = ap (λ k. drop k highest) (sym number) ∙ sym highs.2;
      there =
          subst (λ k. RegistersAt words' k lowest highest) (omega (arith, same, next))
          (put lowest highest (omega (arith, same, lows.0)) (omega (arith, same, highs.0)) (lows.1 ∙ ap (λ k. get_or lowest k 0) (sym same)) (highs.1 ∙ ap (λ k. get_or highest k 0) (sym same))
          (subst (λ k. RegistersAt words k lowest highest) (sym same) so.there));
      keeps = keeps_then so.keeps kept;
    }

-- Where one of the lists has no limits left, all registers are put.
pub all_put : {first words lowest highest : List ℕ} {count : ℕ} {lows highs : Iter ℕ} → PutSoFar first words lowest highest count lows.rest.now highs.rest.now → length highest ≡ length lowest →
    ((u : Iter ℕ) × ((length lows.rest.now ≡ 0) × (u ≡ lows))) ⊎ ((u : Iter ℕ) × ((length highs.rest.now ≡ 0) × (u ≡ highs))) → count ≡ length lowest
all_put {lowest = lowest} {count = count} so as_long (inl done) = omega (arith, so.few, done.1.0, ap length so.lows_are, length-drop count lowest)
all_put {highest = highest} {count = count} so as_long (inr done) = omega (arith, so.few, as_long, done.1.0, ap length so.highs_are, length-drop count highest)

-- ---- The ends.

-- So far the first of them are taken, from the words of one end of the cells.
abbrev pub TakenSoFar : List ℕ → (from at : ℕ) → List ℕ → Type 0
TakenSoFar words from at now = (i : ℕ) → i < at → get_or now i 0 ≡ get_or words (from + i) 0

ends_length : (end : Option Carried → ℤ) (first count : ℕ) (K : CarriedCells) → length (words_of (ends_from end first count K)) ≡ count
unfolding words_of ends_from
ends_length end first zero K = refl
ends_length end first (suc count) K = ap suc (ends_length end (suc first) count K)

end_at : (end : Option Carried → ℤ) (first count i : ℕ) (K : CarriedCells) → i < count → get_or (words_of (ends_from end first count K)) i 0 ≡ word_of (end (carried_at (first + i) K))
unfolding words_of ends_from
end_at end first zero i K h = absurd (omega (arith, h))
end_at end first (suc count) zero K h = ap (λ k. word_of (end (carried_at k K))) (omega arith)
end_at end first (suc count) (suc i) K h = end_at end (suc first) count i K (omega (arith, h)) ∙ ap (λ k. word_of (end (carried_at k K))) (omega arith)

-- A cell that is there.
some_cell : {words : List ℕ} {n : ℕ} {K : CarriedCells} (i : ℕ) → CellsAt words n K → i < n → (v : Carried) × (carried_at i K ≡ some v)
unfolding carried_at
some_cell i no_cells h = absurd (omega (arith, h))
some_cell i (one_cell {n = n} {v = v} {K = K} held older) h = choose (eqb (length K) i) refl (some_cell i older)
  where
    choose : (t : Bool) → eqb (length K) i ≡ t → (i < n → (w : Carried) × (carried_at i K ≡ some w)) → (w : Carried) × (carried_at i (v ∷ K) ≡ some w)
    choose true t below = (v, rw t refl)
    choose false t below =
        let other : length K ≡ i → ⊥ = λ e. absurd (subst T t (subst (λ k. T (eqb (length K) k)) e (eqb_refl (length K)))) in
        let w = below (omega (arith, h, cells_length older, other)) in
        (w.0, rw t w.1)

-- The words of a cell that holds numbers are its ends.
number_words : {r : Value} {v : Carried} → r.sort ≡ numbers_sort → HoldsValue r v → (r.low ≡ word_of (lowest_of (some v))) × (r.high ≡ word_of (highest_of (some v)))
number_words q (holds_numbers s l h a b) = (l, h)
number_words q (holds_truths s l h) = absurd (omega (arith, q, s))
number_words q (holds_location s l h) = absurd (omega (arith, q, s))

pub all_taken : (words : List ℕ) (registers at_low at_high : ℕ) (lowest highest : List ℕ) → length lowest ≡ registers → length highest ≡ registers → registers ≤ at_low → registers ≤ at_high →
    TakenSoFar words cell_lows at_low lowest → TakenSoFar words cell_highs at_high highest → EndsTaken words registers lowest highest
all_taken words registers at_low at_high lowest highest lowest_long highest_long lows_done highs_done lows highs K cells sorts = (
  same_number_lists lowest (words_of (ends_from lowest_of 0 registers K)) (lowest_long ∙ sym (ends_length lowest_of 0 registers K))
      (λ i h. lows i (omega (arith, h, lowest_long, lows_done)) ∙ (words_are i (omega (arith, h, lowest_long))).0 ∙ sym (end_at lowest_of 0 registers i K (omega (arith, h, lowest_long)))),
  same_number_lists highest (words_of (ends_from highest_of 0 registers K)) (highest_long ∙ sym (ends_length highest_of 0 registers K))
      (λ i h. highs i (omega (arith, h, highest_long, highs_done)) ∙ (words_are i (omega (arith, h, highest_long))).1 ∙ sym (end_at highest_of 0 registers i K (omega (arith, h, highest_long)))),
)
  where
    words_are : (i : ℕ) → i < registers → (get_or words (cell_lows + i) 0 ≡ word_of (lowest_of (carried_at (0 + i) K))) × (get_or words (cell_highs + i) 0 ≡ word_of (highest_of (carried_at (0 + i) K)))
    words_are i h =
        let v = some_cell i cells h in
        let held = number_words (sorts i h) (cell_there i v.0 cells v.1).holds in
        let found : carried_at (0 + i) K ≡ some v.0 = ap (λ k. carried_at k K) (omega arith) ∙ v.1 in
        (held.0 ∙ sym (ap (λ o. word_of (lowest_of o)) found), held.1 ∙ sym (ap (λ o. word_of (highest_of o)) found))

-- ---- The ends are integers.

value_ranged : {r : Value} {v : Carried} → HoldsValue r v → T (in_range (lowest_of (some v))) × T (in_range (highest_of (some v)))
value_ranged (holds_numbers s l h a b) = (a, b)
value_ranged (holds_truths s l h) = (tt, tt)
value_ranged (holds_location s l h) = (tt, tt)

cell_ranged : {words : List ℕ} {n : ℕ} {K : CarriedCells} → CellsAt words n K → (i : ℕ) → T (in_range (lowest_of (carried_at i K))) × T (in_range (highest_of (carried_at i K)))
unfolding carried_at
cell_ranged no_cells i = (tt, tt)
cell_ranged (one_cell {v = v} {K = K} held older) i = choose (eqb (length K) i) (cell_ranged older i)
  where
    choose : (t : Bool) → T (in_range (lowest_of (carried_at i K))) × T (in_range (highest_of (carried_at i K))) →
        T (in_range (lowest_of (cond t (some v) (carried_at i K)))) × T (in_range (highest_of (cond t (some v) (carried_at i K))))
    choose true below = value_ranged held
    choose false below = below

each_ranged : (end : Option Carried → ℤ) (K : CarriedCells) → ((i : ℕ) → T (in_range (end (carried_at i K)))) → (first count : ℕ) → AllInRange (ends_from end first count K)
unfolding ends_from
each_ranged end K ranged first zero = tt
each_ranged end K ranged first (suc count) = (ranged first, each_ranged end K ranged (suc first) count)

pub ends_ranged : {words : List ℕ} {n : ℕ} {K : CarriedCells} → CellsAt words n K → (registers : ℕ) → AllInRange (ends_from lowest_of 0 registers K) × AllInRange (ends_from highest_of 0 registers K)
ends_ranged {K = K} cells registers = (each_ranged lowest_of K (λ i. (cell_ranged cells i).0) 0 registers, each_ranged highest_of K (λ i. (cell_ranged cells i).1) 0 registers)
