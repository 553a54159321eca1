-- Part of the whole-run proof: stores typed in a world, what reading, setting, making and removing cells does to them, and the
-- types that the run's history has for them.
use Rattle.std.specs.Prelude.{ℕ, zero, suc, ◌<◌, ◌≤◌, ◌≡◌, refl, Bool, true, false, cond, ◌||◌, List, [], ◌∷◌, ◌++◌, T, eqb, ℤ, pos, length, get_or}
use Rattle.std.proofs.Common.{sym, ap, ◌∙◌, subst, arith, eqb→eq}
use Rattle.std.proofs.Math.Option.{Option, none, some, some-injective, map}
use Rattle.std.proofs.Math.Dec.{eqb_refl}
use Rattle.rules.proofs.Basics.{missing, passed_test, true_test, false_test}
use Rattle.rules.specs.paper.States.{Value, integer, truth, location, Cell, Store, find, store_at, in_set, remove, live_cells}
use Rattle.rules.specs.claims.History.{MadeCell, Made, made_with, is_made, type_of, remake, made_registers}
use Rattle.rules.specs.claims.Claim.{HoldsItsType}
use Rattle.rules.proofs.running.World.{World, code_at, code_below, code_older, code_newest, ValueTyped, integer_typed, truth_typed, location_typed, value_older, value_plain}

-- The new location is the number of live cells, and each cell's contents are typed by the older cells.
pub data StoreTyped : Store → World → Type 0 where
  no_cells : StoreTyped [] []
  one_cell : {s : Cell} {S : Store} {c : ℕ} {W : World} → s.where_at ≡ length W → ValueTyped W s.contents c → StoreTyped S W → StoreTyped (s ∷ S) (c ∷ W)

pub store_length : {S : Store} {W : World} → StoreTyped S W → length S ≡ length W
store_length no_cells = refl
store_length (one_cell q v h) = ap suc (store_length h)

unfoldable pub world_cells : World → List ℕ
world_cells [] = []
world_cells (c ∷ W) = length W ∷ world_cells W

pub store_cells : {S : Store} {W : World} → StoreTyped S W → live_cells S ≡ world_cells W
unfolding live_cells world_cells
store_cells no_cells = refl
store_cells (one_cell {S = S} {W = W} q v h) = ap {B = List ℕ} (λ l. l ∷ live_cells S) q ∙ ap {B = List ℕ} (λ r. length W ∷ r) (store_cells h)

-- ---- Reading a live cell.

pub record Held (S : Store) (W : World) (l c : ℕ) : Type 0 where
  pub contents : Value
  pub found : find l S ≡ some contents
  pub typed : ValueTyped W contents c

pub find_typed : {S : Store} {W : World} (l c : ℕ) → StoreTyped S W → code_at l W ≡ some c → Held S W l c
unfolding find code_at
find_typed l c no_cells q = missing q
find_typed l c (one_cell {s = s} {S = S} {c = d} {W = W} e v h) q = choose (eqb s.where_at l) (eqb (length W) l) refl (ap (λ k. eqb k l) e) q (find_typed l c h)
  where
    choose : (a b : Bool) → eqb s.where_at l ≡ a → a ≡ b → cond b (some d) (code_at l W) ≡ some c → (code_at l W ≡ some c → Held S W l c) → Held (s ∷ S) (d ∷ W) l c
    choose true true u w p older =
        record { contents = s.contents; found = rw u; typed = value_older d (subst (ValueTyped W s.contents) (some-injective d c p) v) }
    choose true false u w p older = absurd (subst T w tt)
    choose false true u w p older = absurd (subst T (sym w) tt)
    choose false false u w p older = let o = older p in record { contents = o.contents; found = rw u o.found; typed = value_older d o.typed }

-- ---- Setting a cell of code 0 or 1.

pub store_at_typed : {S : Store} {W U : World} (l c : ℕ) (v : Value) → StoreTyped S W → code_at l W ≡ some c → c < 2 → ValueTyped U v c → StoreTyped (store_at l v S) W
unfolding store_at code_at
store_at_typed l c v no_cells q h t = missing q
store_at_typed {U = U} l c v (one_cell {s = s} {S = S} {c = d} {W = W} e w g) q h t =
    choose (eqb s.where_at l) (eqb (length W) l) refl (ap (λ k. eqb k l) e) q (λ p. store_at_typed l c v g p h t)
  where
    choose : (a b : Bool) → eqb s.where_at l ≡ a → a ≡ b → cond b (some d) (code_at l W) ≡ some c → (code_at l W ≡ some c → StoreTyped (store_at l v S) W) →
        StoreTyped (cond a (record { where_at = l; contents = v } ∷ S) (s ∷ store_at l v S)) (d ∷ W)
    choose true true u x p older =
        one_cell (sym (eqb→eq s.where_at l (passed_test u)) ∙ e) (subst (ValueTyped W v) (sym (some-injective d c p)) (value_plain W h t)) g
    choose true false u x p older = absurd (subst T x tt)
    choose false true u x p older = absurd (subst T (sym x) tt)
    choose false false u x p older = one_cell e w (older p)

-- ---- A location set holds the cells made since its block was entered.

pub data Grown (U : World) : World → List ℕ → Type 0 where
  same : Grown U U []
  grown : {W : World} {L : List ℕ} {c : ℕ} → Grown U W L → Grown U (c ∷ W) (length W ∷ L)

-- A cell that the location set names beside one that is not live.
pub in_older : (l k : ℕ) (L : List ℕ) → (eqb k l ≡ false) → in_set l (k ∷ L) ≡ in_set l L
unfolding in_set
in_older l k L q = rw q

-- A location that no cell of the store has need not be removed.
remove_unused : {S : Store} {W : World} (k : ℕ) (L : List ℕ) → length W ≤ k → StoreTyped S W → remove (k ∷ L) S ≡ remove L S
unfolding remove
remove_unused k L h no_cells = refl
remove_unused k L h (one_cell {s = s} {S = S} {W = W} e v g) =
    rw (in_older s.where_at k L (false_test (eqb k s.where_at) (λ t. clash (eqb→eq k s.where_at t) e h)), remove_unused k L (shorter h) g)
  where
    clash : k ≡ s.where_at → s.where_at ≡ length W → suc (length W) ≤ k → ⊥
    clash p q r = omega arith

    shorter : suc (length W) ≤ k → length W ≤ k
    shorter r = omega arith

pub remove_none : (S : Store) → remove [] S ≡ S
unfolding remove in_set
remove_none [] = refl
remove_none (s ∷ S) = ap {B = Store} (λ r. s ∷ r) (remove_none S)

remove_newest : (s : Cell) {S : Store} {W : World} (L : List ℕ) → s.where_at ≡ length W → StoreTyped S W → remove (length W ∷ L) (s ∷ S) ≡ remove L S
unfolding remove in_set
remove_newest s {W = W} L e h =
    rw (true_test (eqb (length W) s.where_at) (subst (λ k. T (eqb (length W) k)) (sym e) (eqb_refl (length W)))) (remove_unused (length W) L (omega arith) h)

-- Removing the block's own location set leaves the cells there were when it was entered.
pub remove_grown : {U : World} {S : Store} {W : World} {L : List ℕ} → StoreTyped S W → Grown U W L → StoreTyped (remove L S) U
remove_grown {U} {S} {W} h same = subst (λ R. StoreTyped R W) (sym (remove_none S)) h
remove_grown {U = U} (one_cell {s = s} {S = S} {W = W} e v h) (grown {L = L} g) = subst (λ R. StoreTyped R U) (sym removed) (remove_grown h g)
  where
    removed : remove (length W ∷ L) (s ∷ S) ≡ remove L S
    removed = remove_newest s L e h

pub grown_keeps : {U W : World} {L : List ℕ} (l c : ℕ) → Grown U W L → code_at l U ≡ some c → code_at l W ≡ some c
grown_keeps l c same q = q
grown_keeps l c (grown {W = W} {c = d} g) q = code_older l W c d (grown_keeps l c g q)

-- ---- The types in the run's history are those of the world.

unfoldable pub world_made : World → Made
world_made [] = []
world_made (c ∷ W) = record { where_at = length W; code = some c } ∷ world_made W

pub made_is : (l : ℕ) (W : World) → made_with l (world_made W) ≡ code_at l W
unfolding made_with world_made code_at
made_is l [] = refl
made_is l (c ∷ W) = ap (λ o. cond (eqb (length W) l) (some c) o) (made_is l W)

code_is_made : (l c : ℕ) (W : World) → code_at l W ≡ some c → is_made l (world_made W) ≡ true
unfolding is_made world_made code_at
code_is_made l c [] q = missing q
code_is_made l c (d ∷ W) q = choose (eqb (length W) l) q (code_is_made l c W)
  where
    choose : (t : Bool) → cond t (some d) (code_at l W) ≡ some c → (code_at l W ≡ some c → is_made l (world_made W) ≡ true) → cond t true (is_made l (world_made W)) ≡ true
    choose true p older = refl
    choose false p older = older p

newest_not_made : (l : ℕ) (W : World) → length W ≤ l → is_made l (world_made W) ≡ false
unfolding is_made world_made
newest_not_made l [] h = refl
newest_not_made l (c ∷ W) h = rw (false_test (eqb (length W) l) (λ t. clash (eqb→eq (length W) l t))) (newest_not_made l W (omega arith))
  where
    clash : length W ≡ l → ⊥
    clash e = omega arith

pub type_is : {W : World} {v : Value} {c : ℕ} → ValueTyped W v c → type_of (world_made W) v ≡ some c
unfolding type_of
type_is (integer_typed h) = refl
type_is truth_typed = refl
type_is {W} (location_typed {l = l} q) = rw (made_is l W, q)

-- A live cell keeps its type.
pub remade : {S : Store} {U : World} (W : World) → StoreTyped S U → ((l c : ℕ) → code_at l U ≡ some c → code_at l W ≡ some c) → remake (world_made W) S ≡ world_made U
unfolding remake world_made
remade W no_cells keeps = refl
remade W (one_cell {s = s} {S = S} {c = c} {W = U} e v h) keeps =
    rw (
      e,
      code_is_made (length U) c W (keeps (length U) c (code_newest U c)),
      made_is (length U) W,
      keeps (length U) c (code_newest U c),
      remade W h (λ l d q. keeps l d (code_older l U d c q)),
    )

-- A new cell is made with its first value's type.
pub remade_new : {S : Store} {W : World} {v : Value} {c : ℕ} → StoreTyped S W → ValueTyped W v c →
    remake (world_made W) (record { where_at = length W; contents = v } ∷ S) ≡ world_made (c ∷ W)
unfolding remake world_made
remade_new {W = W} h t = rw (newest_not_made (length W) W (omega arith), remade W h (λ l d q. q), type_is t)

-- So every cell of the world is live and holds the type it was made with.
pub cell_holds : {S : Store} {W : World} (l c : ℕ) → StoreTyped S W → code_at l W ≡ some c → HoldsItsType (world_made W) S l
cell_holds {W = W} l c h q =
    let f = find_typed l c h q in
    record { contents = f.contents; live = f.found; code = c; made_type = made_is l W ∙ q; held_type = type_is f.typed }
