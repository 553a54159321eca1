-- The cells and the store: where a location is found, and a cell that is set.
use Prim.Native.Nat.{ℕ, suc, ◌<◌}
use mathlib.Core.Path.{◌≡◌, refl, sym, ap, ◌∙◌}
use mathlib.Core.Bool.{Bool, true, false, cond}
use mathlib.Core.List.{List, [], ◌∷◌}
use mathlib.Core.Option.{some}
use native.Mathlib.Omega.{arith}
use lib.Dec.{eqb, eqb→eq}
use lib.ListN.{length}
use Rattle.rules.proofs.Basics.{missing, passed_test}
use Rattle.rules.specs.paper.States.{Value, Store, find, store_at}
use Rattle.machine.specs.Regions.{Slot, set_slot}
use Rattle.machine.specs.Represents.{ValueAs, StoreAs, no_cell, one_cell}

-- A location that is found is below the count of cells.
pub find_low : {cells : List Slot} {S : Store} (l : ℕ) (v : Value) → StoreAs cells S → find l S ≡ some v → l < length cells
unfolding find
find_low l v no_cell q = missing q
find_low l v (one_cell {cells = cells} {c = c} {S = S} at h older) q = choose (eqb c.where_at l) refl q (find_low l v older)
  where
    choose : (t : Bool) → eqb c.where_at l ≡ t → cond t (some c.contents) (find l S) ≡ some v → (find l S ≡ some v → l < length cells) → l < suc (length cells)
    choose true u e below = omega (arith, at, eqb→eq c.where_at l (passed_test u))
    choose false u e below = omega (arith, below e)

pub set_slot_length : (l : ℕ) (s : Slot) (cells : List Slot) → length (set_slot l s cells) ≡ length cells
unfolding set_slot
set_slot_length l s [] = refl
set_slot_length l s (t ∷ cells) = choose (eqb (length cells) l) (set_slot_length l s cells)
  where
    choose : (b : Bool) → length (set_slot l s cells) ≡ length cells → length (cond b (s ∷ cells) (t ∷ set_slot l s cells)) ≡ suc (length cells)
    choose true q = refl
    choose false q = ap suc q

-- A cell set among the cells is the location set in the store.
pub store_set : {cells : List Slot} {S : Store} (l : ℕ) (s : Slot) (v : Value) → StoreAs cells S → ValueAs s.label s.payload v → StoreAs (set_slot l s cells) (store_at l v S)
unfolding set_slot store_at
store_set l s v no_cell h = no_cell
store_set l s v (one_cell {s = t} {cells = cells} {c = c} {S = S} at w older) h = rw (ap (λ n. eqb n l) at) (choose (eqb (length cells) l) refl (store_set l s v older h))
  where
    choose : (b : Bool) → eqb (length cells) l ≡ b → StoreAs (set_slot l s cells) (store_at l v S) →
        StoreAs (cond b (s ∷ cells) (t ∷ set_slot l s cells)) (cond b (record { where_at = l; contents = v } ∷ S) (c ∷ store_at l v S))
    choose true u below = one_cell (sym (eqb→eq (length cells) l (passed_test u))) h older
    choose false u below = one_cell (at ∙ sym (set_slot_length l s cells)) w below
