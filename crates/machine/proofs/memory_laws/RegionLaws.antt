-- Writing a word of one region leaves the others as they are; and what the top of a stack is.
use Prim.Native.Nat.{ℕ, zero, suc, ◌+◌, ◌<◌}
use mathlib.Core.Path.{◌≡◌, refl, sym, ap, ◌∙◌, subst}
use mathlib.Core.Bool.{Bool, true, false}
use mathlib.Core.List.{List, ◌∷◌}
use native.Mathlib.Omega.{arith}
use lib.Dec.{T, eqb, eqb→eq, eqb_refl}
use lib.ListN.{length, get_or, set, length-set}
use lib.Seq.{get_or-set_same, get_or-set_other, take-set-le, drop-set-lt}
use Rattle.rules.proofs.Basics.{passed_test, failed_test}
use Rattle.rules.specs.paper.Limits.{most_nodes, most_cells, most_bindings, most_value_entries, most_control_entries, work_words}
use Rattle.machine.specs.Layout.{control_from, value_payloads, value_labels, row_labels, row_payloads, cell_payloads, cell_labels}
use Rattle.machine.specs.Regions.{stack, Slot, slot, slots, set_slot, regions, Fits, with_control, with_values, with_row, with_cells, raised_control, raised_values, raised_rows, raised_cells}
use Rattle.machine.specs.declared.Machine.{Machine}

-- ---- One stack.

pub stack_other : (base k : ℕ) (words : List ℕ) (i x : ℕ) → ((j : ℕ) → j < k → base + j ≡ i → ⊥) → stack base k (set words i x) ≡ stack base k words
unfolding stack
stack_other base zero words i x apart = refl
stack_other base (suc k) words i x apart =
    rw (get_or-set_other words i (base + k) x 0 (apart k (omega arith)), stack_other base k words i x (λ j h. apart j (omega (arith, h))))

pub stack_put : (base k : ℕ) (words : List ℕ) (x : ℕ) → base + k < length words → stack base (k + 1) (set words (base + k) x) ≡ x ∷ stack base k words
unfolding stack
stack_put base k words x h =
    ap (λ n. stack base n (set words (base + k) x)) (one_more k)
    ∙ rw (get_or-set_same words (base + k) x 0 h, stack_other base k words (base + k) x (λ j l q. omega (arith, l, q)))
  where
    one_more : (k : ℕ) → k + 1 ≡ suc k
    one_more k = omega arith

pub slots_other : (l p k : ℕ) (words : List ℕ) (i x : ℕ) → ((j : ℕ) → j < k → l + j ≡ i → ⊥) → ((j : ℕ) → j < k → p + j ≡ i → ⊥) → slots l p k (set words i x) ≡ slots l p k words
unfolding slots
slots_other l p zero words i x apart aside = refl
slots_other l p (suc k) words i x apart aside =
    rw (
      get_or-set_other words i (l + k) x 0 (apart k (omega arith)),
      get_or-set_other words i (p + k) x 0 (aside k (omega arith)),
      slots_other l p k words i x (λ j h. apart j (omega (arith, h))) (λ j h. aside j (omega (arith, h))),
    )

pub stack_length : (base k : ℕ) (words : List ℕ) → length (stack base k words) ≡ k
unfolding stack
stack_length base zero words = refl
stack_length base (suc k) words = ap suc (stack_length base k words)

pub slots_length : (l p k : ℕ) (words : List ℕ) → length (slots l p k words) ≡ k
unfolding slots
slots_length l p zero words = refl
slots_length l p (suc k) words = ap suc (slots_length l p k words)

-- Both words of a new slot are written.
pub slots_put : (l p k : ℕ) (words : List ℕ) (i x j y : ℕ) → i ≡ l + k → j ≡ p + k → i < length words → j < length words → (i ≡ j → ⊥) →
    ((h : ℕ) → h < k → p + h ≡ i → ⊥) → ((h : ℕ) → h < k → l + h ≡ j → ⊥) →
    slots l p (k + 1) (set (set words j y) i x) ≡ slot x y ∷ slots l p k words
unfolding slots
slots_put l p k words i x j y g h a b apart clear aside =
    ap (λ n. slots l p n (set (set words j y) i x)) (one_more k)
    ∙ rw (sym g, sym h, get_or-set_same (set words j y) i x 0 (omega (arith, length-set words j y, a)), get_or-set_other (set words j y) i j x 0 (λ q. apart (sym q)), get_or-set_same words j y 0 b) below
  where
    one_more : (k : ℕ) → k + 1 ≡ suc k
    one_more k = omega arith

    below : slot x y ∷ slots l p k (set (set words j y) i x) ≡ slot x y ∷ slots l p k words
    below =
        ap {B = List Slot} (λ r. slot x y ∷ r)
        (slots_other l p k (set words j y) i x (λ n m q. omega (arith, m, q, g)) clear ∙ slots_other l p k words j y aside (λ n m q. omega (arith, m, q, h)))

-- Both words of a slot are set.
pub slots_set : (l p k : ℕ) (words : List ℕ) (i x y : ℕ) → i < k → l + i < length words → p + i < length words →
    ((h : ℕ) → h < k → l + h ≡ p + i → ⊥) → ((h : ℕ) → h < k → p + h ≡ l + i → ⊥) →
    slots l p k (set (set words (p + i) y) (l + i) x) ≡ set_slot i (slot x y) (slots l p k words)
unfolding slots set_slot
slots_set l p zero words i x y low a b apart aside = absurd (omega (arith, low))
slots_set l p (suc k) words i x y low a b apart aside =
    choose (eqb k i) refl (λ under. slots_set l p k words i x y under a b (λ h g. apart h (omega (arith, g))) (λ h g. aside h (omega (arith, g))))
  where
    tested : eqb (length (slots l p k words)) i ≡ eqb k i
    tested = ap (λ n. eqb n i) (slots_length l p k words)

    choose : (t : Bool) → eqb k i ≡ t → (i < k → slots l p k (set (set words (p + i) y) (l + i) x) ≡ set_slot i (slot x y) (slots l p k words)) →
        slots l p (suc k) (set (set words (p + i) y) (l + i) x) ≡ set_slot i (slot x y) (slots l p (suc k) words)
    choose true q older = rw (tested, q) (at_top (eqb→eq k i (passed_test q)))
      where
        at_top : k ≡ i →
            slot (get_or (set (set words (p + i) y) (l + i) x) (l + k) 0) (get_or (set (set words (p + i) y) (l + i) x) (p + k) 0) ∷ slots l p k (set (set words (p + i) y) (l + i) x) ≡
            slot x y ∷ slots l p k words
        at_top e =
            rw (
              e,
              get_or-set_same (set words (p + i) y) (l + i) x 0 (omega (arith, length-set words (p + i) y, a)),
              get_or-set_other (set words (p + i) y) (l + i) (p + i) x 0 (λ g. aside i low g),
              get_or-set_same words (p + i) y 0 b,
              slots_other l p i (set words (p + i) y) (l + i) x (λ h g r. omega (arith, g, r)) (λ h g r. aside h (omega (arith, g, low)) r),
              slots_other l p i words (p + i) y (λ h g r. apart h (omega (arith, g, low)) r) (λ h g r. omega (arith, g, r)),
            )
    choose false q older =
        rw (
          tested,
          q,
          get_or-set_other (set words (p + i) y) (l + i) (l + k) x 0 (λ g. below_top (omega (arith, g))),
          get_or-set_other words (p + i) (l + k) y 0 (λ g. apart k (omega arith) g),
          get_or-set_other (set words (p + i) y) (l + i) (p + k) x 0 (λ g. aside k (omega arith) g),
          get_or-set_other words (p + i) (p + k) y 0 (λ g. below_top (omega (arith, g))),
          older (under (λ e. below_top (sym e))),
        )
      where
        below_top : i ≡ k → ⊥
        below_top e = failed_test q (subst (λ n. T (eqb k n)) (sym e) (eqb_refl k))

        under : (k ≡ i → ⊥) → i < k
        under d = omega (arith, low, d)

-- ---- One more entry.

module _ (words : List ℕ) (m : Machine) (f : Fits words m) where
  pub control_put : (w : ℕ) → m.control < most_control_entries → regions (set words (control_from + m.control) w) (raised_control m) ≡ with_control w (regions words m)
  unfolding regions
  control_put w low =
      let i : ℕ = control_from + m.control in
      rw (
        take-set-le most_nodes words i w (omega arith),
        stack_put control_from m.control words w (omega (arith, f.room, low)),
        slots_other value_labels value_payloads m.values words i w (λ j h q. omega (arith, low, h, q)) (λ j h q. omega (arith, low, h, q)),
        slots_other row_labels row_payloads m.bindings words i w (λ j h q. omega (arith, low, h, q)) (λ j h q. omega (arith, low, h, q)),
        slots_other cell_labels cell_payloads m.cells words i w (λ j h q. omega (arith, low, h, q)) (λ j h q. omega (arith, low, h, q)),
        drop-set-lt work_words words i w (omega (arith, low)),
        length-set words i w,
      )

  pub value_put : (t w : ℕ) → m.values < most_value_entries →
      regions (set (set words (value_payloads + m.values) w) (value_labels + m.values) t) (raised_values m) ≡ with_values (slot t w ∷ (regions words m).values) (regions words m)
  unfolding regions
  value_put t w low =
      let i : ℕ = value_labels + m.values in
      let j : ℕ = value_payloads + m.values in
      let once : List ℕ = set words j w in
      rw (
        take-set-le most_nodes once i t (omega arith),
        take-set-le most_nodes words j w (omega arith),
        stack_other control_from m.control once i t (λ k h q. omega (arith, low, f.few_control, h, q)),
        stack_other control_from m.control words j w (λ k h q. omega (arith, low, f.few_control, h, q)),
        slots_put value_labels value_payloads m.values words i t j w refl refl (omega (arith, f.room, low)) (omega (arith, f.room, low)) (λ q. omega (arith, q)) (λ k h q. omega (arith, low, h, q)) (λ k h q. omega (arith, low, h, q)),
        slots_other row_labels row_payloads m.bindings once i t (λ k h q. omega (arith, low, h, q)) (λ k h q. omega (arith, low, h, q)),
        slots_other row_labels row_payloads m.bindings words j w (λ k h q. omega (arith, low, h, q)) (λ k h q. omega (arith, low, h, q)),
        slots_other cell_labels cell_payloads m.cells once i t (λ k h q. omega (arith, low, h, q)) (λ k h q. omega (arith, low, h, q)),
        slots_other cell_labels cell_payloads m.cells words j w (λ k h q. omega (arith, low, h, q)) (λ k h q. omega (arith, low, h, q)),
        drop-set-lt work_words once i t (omega (arith, low)),
        drop-set-lt work_words words j w (omega (arith, low)),
        length-set once i t,
        length-set words j w,
      )

  pub row_put : (t w : ℕ) → m.bindings < most_bindings →
      regions (set (set words (row_payloads + m.bindings) w) (row_labels + m.bindings) t) (raised_rows m) ≡ with_row (slot t w) (regions words m)
  unfolding regions
  row_put t w low =
      let i : ℕ = row_labels + m.bindings in
      let j : ℕ = row_payloads + m.bindings in
      let once : List ℕ = set words j w in
      rw (
        take-set-le most_nodes once i t (omega arith),
        take-set-le most_nodes words j w (omega arith),
        stack_other control_from m.control once i t (λ k h q. omega (arith, low, f.few_control, h, q)),
        stack_other control_from m.control words j w (λ k h q. omega (arith, low, f.few_control, h, q)),
        slots_other value_labels value_payloads m.values once i t (λ k h q. omega (arith, low, f.few_values, h, q)) (λ k h q. omega (arith, low, f.few_values, h, q)),
        slots_other value_labels value_payloads m.values words j w (λ k h q. omega (arith, low, f.few_values, h, q)) (λ k h q. omega (arith, low, f.few_values, h, q)),
        slots_put row_labels row_payloads m.bindings words i t j w refl refl (omega (arith, f.room, low)) (omega (arith, f.room, low)) (λ q. omega (arith, q)) (λ k h q. omega (arith, low, h, q)) (λ k h q. omega (arith, low, h, q)),
        slots_other cell_labels cell_payloads m.cells once i t (λ k h q. omega (arith, low, h, q)) (λ k h q. omega (arith, low, h, q)),
        slots_other cell_labels cell_payloads m.cells words j w (λ k h q. omega (arith, low, h, q)) (λ k h q. omega (arith, low, h, q)),
        drop-set-lt work_words once i t (omega (arith, low)),
        drop-set-lt work_words words j w (omega (arith, low)),
        length-set once i t,
        length-set words j w,
      )

  -- Writing among the cells.
  module _ (cell t w : ℕ) (low : cell < most_cells) where
    abbrev written : List ℕ
    written = set (set words (cell_payloads + cell) w) (cell_labels + cell) t

    pub cell_write : (k : ℕ) (S : List Slot) → slots cell_labels cell_payloads k written ≡ S →
        regions written (record { control = m.control; values = m.values; environment = m.environment; declared = m.declared; cells = k; base = m.base; bindings = m.bindings }) ≡ with_cells S (regions words m)
    unfolding regions
    cell_write k S e =
        let i : ℕ = cell_labels + cell in
        let j : ℕ = cell_payloads + cell in
        let once : List ℕ = set words j w in
        rw (
          take-set-le most_nodes once i t (omega arith),
          take-set-le most_nodes words j w (omega arith),
          stack_other control_from m.control once i t (λ k h q. omega (arith, low, f.few_control, h, q)),
          stack_other control_from m.control words j w (λ k h q. omega (arith, low, f.few_control, h, q)),
          slots_other value_labels value_payloads m.values once i t (λ k h q. omega (arith, low, f.few_values, h, q)) (λ k h q. omega (arith, low, f.few_values, h, q)),
          slots_other value_labels value_payloads m.values words j w (λ k h q. omega (arith, low, f.few_values, h, q)) (λ k h q. omega (arith, low, f.few_values, h, q)),
          slots_other row_labels row_payloads m.bindings once i t (λ k h q. omega (arith, low, f.few_bindings, h, q)) (λ k h q. omega (arith, low, f.few_bindings, h, q)),
          slots_other row_labels row_payloads m.bindings words j w (λ k h q. omega (arith, low, f.few_bindings, h, q)) (λ k h q. omega (arith, low, f.few_bindings, h, q)),
          e,
          drop-set-lt work_words once i t (omega (arith, low)),
          drop-set-lt work_words words j w (omega (arith, low)),
          length-set once i t,
          length-set words j w,
        )

  pub cell_put : (t w : ℕ) → m.cells < most_cells →
      regions (set (set words (cell_payloads + m.cells) w) (cell_labels + m.cells) t) (raised_cells m) ≡ with_cells (slot t w ∷ (regions words m).cells) (regions words m)
  unfolding regions
  cell_put t w low =
      cell_write m.cells t w low (m.cells + 1) (slot t w ∷ slots cell_labels cell_payloads m.cells words)
      (slots_put cell_labels cell_payloads m.cells words (cell_labels + m.cells) t (cell_payloads + m.cells) w refl refl (omega (arith, f.room, low)) (omega (arith, f.room, low)) (λ q. omega (arith, q)) (λ k h q. omega (arith, low, h, q)) (λ k h q. omega (arith, low, h, q)))

  pub cell_set : (i t w : ℕ) → i < m.cells →
      regions (set (set words (cell_payloads + i) w) (cell_labels + i) t) m ≡ with_cells (set_slot i (slot t w) (regions words m).cells) (regions words m)
  unfolding regions
  cell_set i t w low =
      cell_write i t w (omega (arith, low, f.few_cells)) m.cells (set_slot i (slot t w) (slots cell_labels cell_payloads m.cells words))
      (slots_set cell_labels cell_payloads m.cells words i t w low (omega (arith, low, f.few_cells, f.room)) (omega (arith, low, f.few_cells, f.room)) (λ h l q. omega (arith, l, q, low, f.few_cells)) (λ h l q. omega (arith, l, q, low, f.few_cells)))
