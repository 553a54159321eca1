-- An Assign: the cell that its name is bound to, and the cells with this one set.
use Prim.Native.Nat.{ℕ, ◌<◌, ◌≤◌}
use mathlib.Core.Path.{◌≡◌, refl, sym, ap, ◌∙◌, subst}
use mathlib.Core.Bool.{Bool, true, false, cond}
use mathlib.Core.List.{List}
use Rattle.std.specs.Prelude.{Some, None, Ok}
use mathlib.Core.Option.{Option, none, some}
use native.Mathlib.Omega.{arith}
use lib.ListN.{get_or}
use Rattle.rules.specs.paper.Limits.{most_bindings, most_cells}
use Rattle.rules.specs.paper.Tree.{Expression, Command, Assign}
use Rattle.rules.specs.paper.Carried.{Carried, numbers, truths, location, carried, unfit}
use Rattle.rules.specs.paper.Carrying.{CarriedCells, CarriedMeaning, a_value, a_function, CarriedNames, carried_at, carried_meaning, value_of, location_in, contents_at, same_sort, set_cell, carry_assign, carry_to}
use Rattle.reader.specs.Pack.{packed_operand}
use Rattle.reader.specs.Stored.{StoredCommand}
use Rattle.reader.proofs.StoredFields.{operand_is}
use Rattle.reader.specs.Stored as Stored
use Rattle.intervals.specs.Values.{HoldsValue, holds_location}
use Rattle.intervals.specs.declared.values.Value.{Value}
use Rattle.carrying.specs.Layout.{row_value}
use Rattle.carrying.specs.States.{FoundAt, Sees}
use Rattle.carrying.specs.Frames.{SetCell}
use Rattle.carrying.specs.Answers.{Fits, CommandAs}
use Rattle.ranges.specs.Commands.{AssignThere, assigning, SomeAssign, AssignCarried}
use Rattle.carrying.proofs.StateLaws.{holds_same, cell_there, cells_set}
use Rattle.carrying.proofs.LeafLaws.{ValueRow, found_value}

-- What it needs: the name bound to a location, and a value of the same sort in its cell.
record Target (x : ℕ) (v : Carried) (A : CarriedNames) (K : CarriedCells) : Type 0 where
  place : ℕ
  old : Carried
  meaning_is : carried_meaning x A ≡ some (a_value (location place))
  cell_is : carried_at place K ≡ some old
  sorted : same_sort old v ≡ true

-- It comes to the cells with that one set, or is unfit.
data Assigned (x : ℕ) (v : Carried) (A : CarriedNames) (K : CarriedCells) : Type 0 where
  sets : (t : Target x v A K) → assigning x v A K ≡ carried (carry_to t.place v K) → Assigned x v A K
  never_sets : assigning x v A K ≡ unfit → Assigned x v A K

assigned : (x : ℕ) (v : Carried) (A : CarriedNames) (K : CarriedCells) → Assigned x v A K
unfolding carry_assign
assigned x v A K = by_meaning (carried_meaning x A) refl
  where
    by_sort : (l : ℕ) (w : Carried) (t : Bool) → carried_meaning x A ≡ some (a_value (location l)) → carried_at l K ≡ some w → same_sort w v ≡ t → Assigned x v A K
    by_sort l w true m c s =
        sets (record { place = l; old = w; meaning_is = m; cell_is = c; sorted = s })
        (ap (λ o. set_cell (location_in (value_of o)) (contents_at (location_in (value_of o)) K) v K) m ∙ ap (λ o. set_cell (some l) o v K) c ∙ ap (λ t. cond t (carried (carry_to l v K)) unfit) s)
    by_sort l w false m c s =
        never_sets
        (ap (λ o. set_cell (location_in (value_of o)) (contents_at (location_in (value_of o)) K) v K) m ∙ ap (λ o. set_cell (some l) o v K) c ∙ ap (λ t. cond t (carried (carry_to l v K)) unfit) s)

    by_cell : (l : ℕ) (o : Option Carried) → carried_meaning x A ≡ some (a_value (location l)) → carried_at l K ≡ o → Assigned x v A K
    by_cell l none m c = never_sets (ap (λ o. set_cell (location_in (value_of o)) (contents_at (location_in (value_of o)) K) v K) m ∙ ap (λ o. set_cell (some l) o v K) c)
    by_cell l (some w) m c = by_sort l w (same_sort w v) m c refl

    by_meaning : (m : Option CarriedMeaning) → carried_meaning x A ≡ m → Assigned x v A K
    by_meaning none q = never_sets (ap (λ o. set_cell (location_in (value_of o)) (contents_at (location_in (value_of o)) K) v K) q)
    by_meaning (some (a_value (numbers a b))) q = never_sets (ap (λ o. set_cell (location_in (value_of o)) (contents_at (location_in (value_of o)) K) v K) q)
    by_meaning (some (a_value (truths f t))) q = never_sets (ap (λ o. set_cell (location_in (value_of o)) (contents_at (location_in (value_of o)) K) v K) q)
    by_meaning (some (a_value (location l))) q = by_cell l (carried_at l K) q refl
    by_meaning (some (a_function g)) q = never_sets (ap (λ o. set_cell (location_in (value_of o)) (contents_at (location_in (value_of o)) K) v K) q)

fit_target : (x : ℕ) (v : Carried) (A : CarriedNames) (K : CarriedCells) → Fits (assigning x v A K) → Target x v A K
fit_target x v A K fits = by (assigned x v A K)
  where
    by : Assigned x v A K → Target x v A K
    by (sets t q) = t
    by (never_sets q) = absurd (fits q)

module _ (words : List ℕ) (environment node word : ℕ) (value : Value) (operand : word ≡ packed_operand (get_or words node 0)) where
  assigned_name : {d j x : ℕ} {e : Expression} {c : Command} → c ≡ Assign node x e → StoredCommand words d node j c → word ≡ x
  assigned_name {x = x} q (Stored.assign {x = y} l h a) = let same : y ≡ x = cc in operand ∙ operand_is h (omega arith) ∙ same
  assigned_name q (Stored.loop w a b) = absurd cc
  assigned_name q (Stored.cseq w a b) = absurd cc
  assigned_name q (Stored.block_of a) = absurd cc
  assigned_name q (Stored.call l few w a) = absurd cc
  assigned_name q (Stored.conditional w a b c) = absurd cc

  name_is : {d j x : ℕ} {e : Expression} → StoredCommand words d node j (Assign node x e) → word ≡ x
  name_is t = assigned_name refl t

  sees_of : {count x : ℕ} {v : Carried} {A : CarriedNames} {K : CarriedCells} → AssignThere words environment node value count x v A K → Sees words environment A K
  sees_of there = record { limit = there.limit; needs = there.needs; count = _; names_are = there.names_are; cells_are = there.cells_are; count_few = there.count_few }

  -- Its row is found.
  pub row_found : FoundAt words environment word None → SomeAssign words environment node value → ⊥
  row_found found s =
      let there = s.5 in
      let t = fit_target s.1 s.2 s.3 s.4 s.6 in
      found there.limit s.3 there.needs (a_value (location t.place)) there.names_are (ap (λ y. carried_meaning y s.3) (name_is there.tree) ∙ t.meaning_is)

module _ (words : List ℕ) (environment node word r : ℕ) (value : Value) (operand : word ≡ packed_operand (get_or words node 0)) (found : FoundAt words environment word (Some r)) where
  -- The row has the cell's location.
  target_row : {count x : ℕ} {v : Carried} {A : CarriedNames} {K : CarriedCells} → AssignThere words environment node value count x v A K → (t : Target x v A K) → ValueRow words r (location t.place)
  target_row {x = x} {A = A} there t =
      found_value word r (location t.place) found (sees_of words environment node word value operand there) (ap (λ y. carried_meaning y A) (name_is words environment node word value operand there.tree) ∙ t.meaning_is)

  row_low : {l : ℕ} {s : Value} → HoldsValue s (location l) → s.low ≡ l
  row_low (holds_location p i j) = i

  pub row_there : SomeAssign words environment node value → (1 ≤ r) × (r ≤ most_bindings)
  row_there s = let row = target_row s.5 (fit_target s.1 s.2 s.3 s.4 s.6) in (row.some_row, row.few)

  module _ (s : Value) (same : s ≡ row_value words r) where
    place_is : {count x : ℕ} {v : Carried} {A : CarriedNames} {K : CarriedCells} → AssignThere words environment node value count x v A K → (t : Target x v A K) → s.low ≡ t.place
    place_is there t = row_low (holds_same (sym same) (target_row there t).holds)

    pub cell_low : SomeAssign words environment node value → s.low < most_cells
    cell_low given =
        let there = given.5 in
        let t = fit_target given.1 given.2 given.3 given.4 given.6 in
        omega (arith, place_is there t, (cell_there t.place t.old there.cells_are t.cell_is).among, there.count_few)

    pub assign_carried : (words' : List ℕ) → SetCell words words' s.low value.low value.high → AssignCarried words words' environment node value
    assign_carried words' written count x v A K there = by (assigned x v A K)
      where
        by : Assigned x v A K → CommandAs words' count (assigning x v A K) (Ok tt)
        by (sets t q) =
            subst (λ c. CommandAs words' count c (Ok tt)) (sym q) (
              refl,
              cells_set t.place value.low value.high (subst (λ l. SetCell words words' l value.low value.high) (place_is there t) written) v t.old there.count_few refl refl there.value_is
                  there.cells_are t.cell_is t.sorted,
            )
        by (never_sets q) = subst (λ c. CommandAs words' count c (Ok tt)) (sym q) tt
