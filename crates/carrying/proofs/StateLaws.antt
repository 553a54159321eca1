-- The names and cells that the work words hold: kept where their words are, found, made and set.
use Prim.Native.Nat.{ℕ, zero, suc, ◌+◌, ◌-◌, ◌*◌, ◌/◌, ◌%◌, ◌<◌, ◌≤◌}
use mathlib.Core.Path.{◌≡◌, refl, sym, ap, ◌∙◌, subst}
use mathlib.Core.Bool.{Bool, true, false, cond}
use mathlib.Core.List.{List, [], ◌∷◌}
use mathlib.Core.Option.{Option, none, some, some-injective}
use native.Mathlib.Omega.{arith}
use lib.Dec.{eqb, eqb→eq}
use lib.ListN.{length, get_or, drop}
use Rattle.rules.specs.paper.Limits.{most_bindings, most_cells, names}
use Rattle.rules.specs.paper.Needs.{Needs}
use Rattle.rules.proofs.Basics.{missing, passed_test}
use Rattle.rules.specs.paper.Carried.{Carried, wider}
use Rattle.rules.specs.paper.Carrying.{CarriedCells, CarriedNames, carried_at, carry_to, oldest_cells, wider_cells, one_cell_more, same_sort}
use Rattle.reader.specs.StoredLaws.{same_bound}
use Rattle.intervals.specs.Values.{HoldsValue, holds_numbers, holds_truths, holds_location}
use Rattle.intervals.specs.declared.values.Value.{Value}
use Rattle.carrying.specs.Layout.{row_links, row_lows, row_highs, cell_sorts, cell_lows, cell_highs, sorts, link, row_value, row_pointer, linked_value, cell_value, kept_value}
use Rattle.carrying.specs.States.{RowAt, NamesAt, no_names, one_value, one_function, CellsAt, no_cells, one_cell}
use Rattle.carrying.specs.Frames.{Keeps, KeepsCells, PutRow, PutCell, SetCell, Copied, Exchanged, Widened}
use Rattle.carrying.specs.declared.cells.Ends.{Ends}
use Rattle.carrying.proofs.FrameLaws.{kept_nodes}

-- ---- Names.

row_kept : {words words' : List ℕ} {b n k x l : ℕ} {r : Value} → Keeps words words' b n → k < b → RowAt words k x l r → RowAt words' k x l r
row_kept {k = k} kept h row =
    record {
      link_is = kept.same_links k h ∙ row.link_is;
      low_is = kept.same_lows k h ∙ row.low_is;
      high_is = kept.same_highs k h ∙ row.high_is;
      row_few = row.row_few;
      name_low = row.name_low;
      sort_low = row.sort_low;
      below_older = row.below_older;
    }

pub names_kept : {words words' : List ℕ} {b n limit p : ℕ} {A : CarriedNames} {N : Needs} → Keeps words words' b n → p ≤ b → NamesAt words limit p A N → NamesAt words' limit p A N
names_kept kept h no_names = no_names
names_kept kept h (one_value row v older) = one_value (row_kept kept (omega (arith, h)) row) v (names_kept kept (omega (arith, h, row.below_older)) older)
names_kept {words} {words'} kept h (one_function row q tree end older) =
    one_function (row_kept kept (omega (arith, h)) row) q (same_bound words words' (kept_nodes kept) tree) end (names_kept kept (omega (arith, h, row.below_older)) older)

-- What is used later has the same names.
pub names_later : {words : List ℕ} {limit later p : ℕ} {A : CarriedNames} {N : Needs} → limit ≤ later → NamesAt words limit p A N → NamesAt words later p A N
names_later h no_names = no_names
names_later h (one_value row v older) = one_value row v (names_later h older)
names_later {later = later} h (one_function row q tree end older) = one_function {limit = later} row q tree (omega (arith, h, end)) older

pub names_few : {words : List ℕ} {limit p : ℕ} {A : CarriedNames} {N : Needs} → NamesAt words limit p A N → p ≤ most_bindings
names_few no_names = omega arith
names_few (one_value row v older) = omega (arith, row.row_few)
names_few (one_function row q tree end older) = omega (arith, row.row_few)

-- A row that was put.
pub row_there : {words words' : List ℕ} {row name below : ℕ} {value : Value} → row < most_bindings → name < names → value.sort < sorts → below ≤ row →
    PutRow words words' row name below value → RowAt words' row name below value
row_there few named sorted older w =
    record { link_is = w.link_put; low_is = w.low_put; high_is = w.high_put; row_few = few; name_low = named; sort_low = sorted; below_older = older }

-- What a row is read as.
link_sort : (x s l : ℕ) → x < names → s < sorts → link x s l / names % sorts ≡ s
link_sort x s l h g = omega arith

link_pointer : (x s l : ℕ) → x < names → s < sorts → link x s l / (names * sorts) ≡ l
link_pointer x s l h g = omega arith

link_name : (x s l : ℕ) → x < names → link x s l % names ≡ x
link_name x s l h = omega arith

pub row_is_value : {words : List ℕ} {k x l : ℕ} {r : Value} → RowAt words k x l r → row_value words (suc k) ≡ r
row_is_value {words} {k} {x} {l} {r} row =
    ap (λ w. linked_value w (get_or words (row_lows - 1 + suc k) 0) (get_or words (row_highs - 1 + suc k) 0)) (there row_links (omega arith) ∙ row.link_is)
    ∙ ap (λ w. linked_value (link x r.sort l) w (get_or words (row_highs - 1 + suc k) 0)) (there row_lows (omega arith) ∙ row.low_is)
    ∙ ap (λ w. linked_value (link x r.sort l) r.low w) (there row_highs (omega arith) ∙ row.high_is)
    ∙ ap (λ s. record { sort = s; low = r.low; high = r.high }) (link_sort x r.sort l row.name_low row.sort_low)
  where
    there : (from : ℕ) → 1 ≤ from → get_or words (from - 1 + suc k) 0 ≡ get_or words (from + k) 0
    there from h = ap (λ i. get_or words i 0) (omega (arith, h))

pub row_link : {words : List ℕ} {k x l : ℕ} {r : Value} → RowAt words k x l r → get_or words (row_links - 1 + suc k) 0 ≡ link x r.sort l
row_link {words} {k} row = ap (λ i. get_or words i 0) (omega arith) ∙ row.link_is

pub row_is_pointer : {words : List ℕ} {k x l : ℕ} {r : Value} → RowAt words k x l r → row_pointer words (suc k) ≡ l
row_is_pointer {x = x} {l = l} {r = r} row = ap (λ w. w / (names * sorts)) (row_link row) ∙ link_pointer x r.sort l row.name_low row.sort_low

pub row_is_name : {words : List ℕ} {k x l : ℕ} {r : Value} → RowAt words k x l r → get_or words (row_links - 1 + suc k) 0 % names ≡ x
row_is_name {x = x} {l = l} {r = r} row = ap (λ w. w % names) (row_link row) ∙ link_name x r.sort l row.name_low

-- ---- Values.

pub holds_same : {r s : Value} {v : Carried} → r ≡ s → HoldsValue r v → HoldsValue s v
holds_same {v = v} q h = subst (λ x. HoldsValue x v) q h

-- Values are the same where their parts are.
pub same_parts : {s l h s' l' h' : ℕ} → s' ≡ s → l' ≡ l → h' ≡ h → ◌≡◌ {A = Value} (record { sort = s; low = l; high = h }) (record { sort = s'; low = l'; high = h' })
same_parts p q r = rw (p, q, r) refl

pub sort_small : {r : Value} {v : Carried} → HoldsValue r v → r.sort < sorts
sort_small (holds_numbers s l h a b) = omega (arith, s)
sort_small (holds_truths s l h) = omega (arith, s)
sort_small (holds_location s l h) = omega (arith, s)

-- ---- Cells.

pub cells_kept : {words words' : List ℕ} {b n m : ℕ} {K : CarriedCells} → Keeps words words' b n → KeepsCells words words' n → m ≤ n → CellsAt words m K → CellsAt words' m K
cells_kept kept cells h no_cells = no_cells
cells_kept kept cells h (one_cell {n = i} v older) =
    one_cell (holds_same (same_parts (kept.same_sorts i (omega (arith, h))) (cells.same_cell_lows i (omega (arith, h))) (cells.same_cell_highs i (omega (arith, h)))) v)
    (cells_kept kept cells (omega (arith, h)) older)

pub cells_length : {words : List ℕ} {n : ℕ} {K : CarriedCells} → CellsAt words n K → length K ≡ n
cells_length no_cells = refl
cells_length (one_cell v older) = ap suc (cells_length older)

-- The cell at a location.
pub record CellThere (words : List ℕ) (n l : ℕ) (v : Carried) : Type 0 where
  pub among : l < n
  pub holds : HoldsValue (cell_value words l) v

pub cell_there : {words : List ℕ} {n : ℕ} {K : CarriedCells} (l : ℕ) (v : Carried) → CellsAt words n K → carried_at l K ≡ some v → CellThere words n l v
unfolding carried_at
cell_there l v no_cells q = missing q
cell_there {words} l v (one_cell {n = n} {v = w} {K = K} h older) q = choose (eqb (length K) l) refl q (cell_there l v older)
  where
    choose : (t : Bool) → eqb (length K) l ≡ t → cond t (some w) (carried_at l K) ≡ some v → (carried_at l K ≡ some v → CellThere words n l v) → CellThere words (suc n) l v
    choose true t p below =
        let at : n ≡ l = sym (cells_length older) ∙ eqb→eq (length K) l (passed_test t) in
        record { among = omega (arith, at); holds = subst (HoldsValue (cell_value words l)) (some-injective w v p) (subst (λ i. HoldsValue (cell_value words i) w) at h) }
    choose false t p below = let o = below p in record { among = omega (arith, o.among); holds = o.holds }

-- Setting a cell to a value of its sort.
sort_stays : {r s : Value} {w v : Carried} → same_sort w v ≡ true → HoldsValue r w → HoldsValue s v → r.sort ≡ s.sort
sort_stays q (holds_numbers s l h a b) (holds_numbers s' l' h' a' b') = s ∙ sym s'
sort_stays q (holds_numbers s l h a b) (holds_truths s' l' h') = absurd cc
sort_stays q (holds_numbers s l h a b) (holds_location s' l' h') = absurd cc
sort_stays q (holds_truths s l h) (holds_numbers s' l' h' a' b') = absurd cc
sort_stays q (holds_truths s l h) (holds_truths s' l' h') = s ∙ sym s'
sort_stays q (holds_truths s l h) (holds_location s' l' h') = absurd cc
sort_stays q (holds_location s l h) g = absurd cc

module _ {words words' : List ℕ} (l low high : ℕ) (written : SetCell words words' l low high) where
  -- The cells that are newer or older.
  pub cell_elsewhere : (i : ℕ) → i < most_cells → l < most_cells → (i ≡ l → ⊥) → cell_value words i ≡ cell_value words' i
  cell_elsewhere i few small other =
      same_parts (written.others (cell_sorts + i) (omega (arith, few)) (omega (arith, few))) (written.others (cell_lows + i) (omega (arith, other)) (omega (arith, few, small)))
      (written.others (cell_highs + i) (omega (arith, few, small)) (omega (arith, other)))

  cells_older : {n : ℕ} {K : CarriedCells} → l < most_cells → n ≤ l → CellsAt words n K → CellsAt words' n K
  cells_older small h no_cells = no_cells
  cells_older small h (one_cell {n = i} v older) =
      one_cell (holds_same (cell_elsewhere i (omega (arith, h, small)) small (omega (arith, h))) v) (cells_older small (omega (arith, h)) older)

  pub cells_set : {n : ℕ} {K : CarriedCells} {r : Value} (v w : Carried) → n ≤ most_cells → low ≡ r.low → high ≡ r.high → HoldsValue r v → CellsAt words n K → carried_at l K ≡ some w → same_sort w v ≡ true →
      CellsAt words' n (carry_to l v K)
  unfolding carried_at carry_to
  cells_set v w few p q holds no_cells found sorted = missing found
  cells_set {r = r} v w few p q holds (one_cell {n = n} {v = u} {K = K} h older) found sorted =
      choose (eqb (length K) l) refl found (cells_set v w (omega (arith, few)) p q holds older)
    where
      choose : (t : Bool) → eqb (length K) l ≡ t → cond t (some u) (carried_at l K) ≡ some w → (carried_at l K ≡ some w → same_sort w v ≡ true → CellsAt words' n (carry_to l v K)) →
          CellsAt words' (suc n) (cond t (v ∷ K) (u ∷ carry_to l v K))
      choose true t s below =
          let at : n ≡ l = sym (cells_length older) ∙ eqb→eq (length K) l (passed_test t) in
          let small : l < most_cells = omega (arith, at, few) in
          let sort : get_or words (cell_sorts + l) 0 ≡ r.sort = sort_stays (ap (λ x. same_sort x v) (some-injective u w s) ∙ sorted) (subst (λ i. HoldsValue (cell_value words i) u) at h) holds in
          one_cell
          (subst (λ i. HoldsValue (cell_value words' i) v) (sym at)
          (holds_same (same_parts {s = r.sort} {l = r.low} {h = r.high} (written.others (cell_sorts + l) (omega (arith, small)) (omega (arith, small)) ∙ sort) (written.low_set ∙ p) (written.high_set ∙ q)) holds))
          (cells_older small (omega (arith, at)) older)
      choose false t s below =
          let found_below = cell_there l w older s in
          let other : n ≡ l → ⊥ = λ e. omega (arith, e, found_below.among) in
          one_cell (holds_same (cell_elsewhere n (omega (arith, few)) (omega (arith, few, found_below.among)) other) h) (below s sorted)

-- A cell more.
pub cell_more : {words words' : List ℕ} {n : ℕ} {r : Value} {v : Carried} {K : CarriedCells} → PutCell words words' n r → HoldsValue r v → CellsAt words' n K → CellsAt words' (suc n) (v ∷ K)
cell_more w h older = one_cell (holds_same (sym w.cell_put) h) older

-- The older cells.
cells_dropped : {words : List ℕ} {m : ℕ} {M : CarriedCells} (k n : ℕ) → m ≡ k + n → CellsAt words m M → CellsAt words n (drop k M)
cells_dropped {words} {m} {M} zero n q h = subst (λ i. CellsAt words i M) (same q) h
  where
    same : m ≡ 0 + n → m ≡ n
    same e = omega (arith, e)
cells_dropped (suc k) n q no_cells = absurd (omega (arith, q))
cells_dropped (suc k) n q (one_cell v older) = cells_dropped k n (omega (arith, q)) older

pub cells_oldest : {words : List ℕ} {m n : ℕ} {M : CarriedCells} → n ≤ m → CellsAt words m M → CellsAt words n (oldest_cells n M)
unfolding oldest_cells
cells_oldest {m = m} {n = n} {M = M} h cells = cells_dropped (length M - n) n (omega (arith, h, cells_length cells)) cells

-- ---- A copy of the cells.

pub data KeptAt (words : List ℕ) (kept : List Ends) : (count : ℕ) → CarriedCells → Type 0 where
  none_kept : KeptAt words kept 0 []
  one_kept : {n : ℕ} {v : Carried} {K : CarriedCells} → HoldsValue (kept_value words kept n) v → KeptAt words kept n K → KeptAt words kept (suc n) (v ∷ K)

-- It stays while other words than the sorts change.
pub kept_stays : {words words' : List ℕ} {kept : List Ends} {b n m : ℕ} {K : CarriedCells} → Keeps words words' b n → m ≤ n → KeptAt words kept m K → KeptAt words' kept m K
kept_stays k h none_kept = none_kept
kept_stays {kept = kept} k h (one_kept {n = i} v older) =
    one_kept (holds_same (same_parts (k.same_sorts i (omega (arith, h))) refl refl) v) (kept_stays k (omega (arith, h)) older)

pub cells_copied : {words : List ℕ} {kept : List Ends} {n m : ℕ} {K : CarriedCells} → Copied words kept n → m ≤ n → CellsAt words m K → KeptAt words kept m K
cells_copied c h no_cells = none_kept
cells_copied {words} {kept} c h (one_cell {n = i} v older) =
    one_kept (holds_same (same_parts refl (c.lows_copied i (omega (arith, h))) (c.highs_copied i (omega (arith, h)))) v) (cells_copied c (omega (arith, h)) older)

pub cells_exchanged : {words words' : List ℕ} {kept kept' : List Ends} {n m : ℕ} {K : CarriedCells} → Exchanged words words' kept kept' n → n ≤ most_cells → m ≤ n → KeptAt words kept m K → CellsAt words' m K
cells_exchanged x few h none_kept = no_cells
cells_exchanged {words} {words'} {kept} x few h (one_kept {n = i} v older) =
    one_cell (holds_same (same_parts (x.keeps.same_sorts i (omega (arith, h, few))) (x.lows_there i (omega (arith, h))) (x.highs_there i (omega (arith, h)))) v)
    (cells_exchanged x few (omega (arith, h)) older)

pub copy_exchanged : {words words' : List ℕ} {kept kept' : List Ends} {n m : ℕ} {K : CarriedCells} → Exchanged words words' kept kept' n → n ≤ most_cells → m ≤ n → CellsAt words m K → KeptAt words' kept' m K
copy_exchanged x few h no_cells = none_kept
copy_exchanged {words} {words'} {kept} {kept'} x few h (one_cell {n = i} v older) =
    one_kept (holds_same (same_parts (x.keeps.same_sorts i (omega (arith, h, few))) (x.copied.lows_copied i (omega (arith, h))) (x.copied.highs_copied i (omega (arith, h)))) v)
    (copy_exchanged x few (omega (arith, h)) older)

pub cells_widened : {words words' : List ℕ} {kept : List Ends} {n m : ℕ} {K M W : CarriedCells} → Widened words words' kept n → m ≤ n → KeptAt words kept m K → CellsAt words m M → wider_cells K M ≡ some W → CellsAt words' m W
unfolding wider_cells
cells_widened x h none_kept no_cells q = subst (CellsAt _ 0) (some-injective [] _ q) no_cells
cells_widened {words} {words'} {kept} x h (one_kept {n = i} {v = v} {K = K} hv older) (one_cell {v = w} {K = M} hw others) q =
    both (wider v w) (wider_cells K M) refl refl q (λ U s. cells_widened x (omega (arith, h)) older others s)
  where
    both : {W : CarriedCells} (a : Option Carried) (b : Option CarriedCells) → wider v w ≡ a → wider_cells K M ≡ b → one_cell_more a b ≡ some W →
        ((U : CarriedCells) → wider_cells K M ≡ some U → CellsAt words' i U) → CellsAt words' (suc i) W
    both none b p s t below = missing t
    both (some u) none p s t below = missing t
    both (some u) (some U) p s t below =
        subst (CellsAt words' (suc i)) (some-injective (u ∷ U) _ t) (one_cell (x.widened i (omega (arith, h)) v w u hv hw p) (below U s))
