-- Where the automaton leads from a state; and stores within the carried cells: what reading, setting, making and removing cells, and widening them,
-- does to them.
use Rattle.std.specs.Prelude.{ℕ, suc, ◌-◌, ◌≤◌, ◌≡◌, refl, Bool, true, false, cond, ◌||◌, List, [], ◌∷◌, T, eqb, length, drop}
use Rattle.std.proofs.Common.{sym, ap, ◌∙◌, subst, arith, eqb→eq}
use Rattle.std.proofs.Math.Option.{Option, none, some, some-injective}
use Rattle.std.proofs.Math.Dec.{eqb_refl}
use Rattle.rules.proofs.Basics.{missing, passed_test, true_test, false_test, or_left, or_right}
use Rattle.rules.specs.paper.States.{Value, integer, truth, location, Cell, Store, find, store_at, in_set, remove, State}
use Rattle.rules.specs.paper.Rules.{Rule, goes, Applies}
use Rattle.rules.specs.paper.Carried.{Carried, numbers, truths, possible, wider, lower, higher}
use Rattle.rules.specs.paper.Carried as Carried
use Rattle.rules.specs.paper.Carrying.{CarriedCells, carried_at, carry_to, oldest_cells, one_cell_more, wider_cells}
use Rattle.rules.proofs.running.Stores.{in_older, remove_none}
use Rattle.rules.proofs.ranges.IntegerEnds.{order_trans, lower_first, lower_second, higher_first, higher_second}
use Rattle.rules.proofs.ranges.Operators.{ValueWithin, number_within, truth_within, location_within}

-- ---- The automaton goes from one state to another.

pub data Leads : State → State → Type 0 where
  there : {σ : State} → Leads σ σ
  one_step : {σ τ ρ : State} (r : Rule) → Applies r σ (goes τ) → Leads τ ρ → Leads σ ρ

pub leads_on : {σ τ ρ : State} → Leads σ τ → Leads τ ρ → Leads σ ρ
leads_on there k = k
leads_on (one_step r a h) k = one_step r a (leads_on h k)

-- ---- Cells.

pub data StoreWithin : Store → CarriedCells → Type 0 where
  no_cells : StoreWithin [] []
  one_cell : {s : Cell} {S : Store} {v : Carried} {K : CarriedCells} → s.where_at ≡ length K → ValueWithin s.contents v → StoreWithin S K → StoreWithin (s ∷ S) (v ∷ K)

pub within_length : {S : Store} {K : CarriedCells} → StoreWithin S K → length S ≡ length K
within_length no_cells = refl
within_length (one_cell q v h) = ap suc (within_length h)

pub record Found (S : Store) (l : ℕ) (v : Carried) : Type 0 where
  pub contents : Value
  pub found : find l S ≡ some contents
  pub within : ValueWithin contents v

pub find_within : {S : Store} {K : CarriedCells} (l : ℕ) (v : Carried) → StoreWithin S K → carried_at l K ≡ some v → Found S l v
unfolding find carried_at
find_within l v no_cells q = missing q
find_within l v (one_cell {s = s} {S = S} {v = w} {K = K} e h k) q = choose (eqb s.where_at l) (eqb (length K) l) refl (ap (λ n. eqb n l) e) q (find_within l v k)
  where
    choose : (a b : Bool) → eqb s.where_at l ≡ a → a ≡ b → cond b (some w) (carried_at l K) ≡ some v → (carried_at l K ≡ some v → Found S l v) → Found (s ∷ S) l v
    choose true true u x p older = record { contents = s.contents; found = rw u; within = subst (ValueWithin s.contents) (some-injective w v p) h }
    choose true false u x p older = absurd (subst T x tt)
    choose false true u x p older = absurd (subst T (sym x) tt)
    choose false false u x p older = let o = older p in record { contents = o.contents; found = rw u o.found; within = o.within }

-- What is not carried is no cell.
pub find_none : {S : Store} {K : CarriedCells} (l : ℕ) → StoreWithin S K → carried_at l K ≡ none → find l S ≡ none
unfolding find carried_at
find_none l no_cells q = refl
find_none l (one_cell {s = s} {S = S} {v = w} {K = K} e h k) q = choose (eqb s.where_at l) (eqb (length K) l) refl (ap (λ n. eqb n l) e) q (find_none l k)
  where
    choose : (a b : Bool) → eqb s.where_at l ≡ a → a ≡ b → cond b (some w) (carried_at l K) ≡ none → (carried_at l K ≡ none → find l S ≡ none) →
        cond (eqb s.where_at l) (some s.contents) (find l S) ≡ none
    choose true true u x p older = missing (sym p)
    choose true false u x p older = absurd (subst T x tt)
    choose false true u x p older = absurd (subst T (sym x) tt)
    choose false false u x p older = rw u (older p)

pub set_length : (l : ℕ) (v : Carried) (K : CarriedCells) → length (carry_to l v K) ≡ length K
unfolding carry_to
set_length l v [] = refl
set_length l v (w ∷ K) = by (eqb (length K) l) (set_length l v K)
  where
    by : (t : Bool) → length (carry_to l v K) ≡ length K → length (cond t (v ∷ K) (w ∷ carry_to l v K)) ≡ suc (length K)
    by true older = refl
    by false older = ap suc older

pub store_within : {S : Store} {K : CarriedCells} (l : ℕ) (x : Value) (v : Carried) → StoreWithin S K → ValueWithin x v → StoreWithin (store_at l x S) (carry_to l v K)
unfolding store_at carry_to
store_within l x v no_cells t = no_cells
store_within l x v (one_cell {s = s} {S = S} {v = w} {K = K} e h k) t = choose (eqb s.where_at l) (eqb (length K) l) refl (ap (λ n. eqb n l) e) (store_within l x v k t)
  where
    choose : (a b : Bool) → eqb s.where_at l ≡ a → a ≡ b → StoreWithin (store_at l x S) (carry_to l v K) →
        StoreWithin (cond a (record { where_at = l; contents = x } ∷ S) (s ∷ store_at l x S)) (cond b (v ∷ K) (w ∷ carry_to l v K))
    choose true true u q older = one_cell (sym (eqb→eq s.where_at l (passed_test u)) ∙ e) t k
    choose true false u q older = absurd (subst T q tt)
    choose false true u q older = absurd (subst T (sym q) tt)
    choose false false u q older = one_cell (e ∙ sym (set_length l v K)) h older

-- ---- Removing the cells made since.

-- The locations on top of a set are those from k on, up to m.
pub data MadeSince (k : ℕ) (L : List ℕ) : ℕ → List ℕ → Type 0 where
  none_made : MadeSince k L k L
  one_made : {m : ℕ} {J : List ℕ} → MadeSince k L m J → MadeSince k L (suc m) (m ∷ J)

pub made_on : {k m : ℕ} {L J : List ℕ} {n : ℕ} {I : List ℕ} → MadeSince k L m J → MadeSince m J n I → MadeSince k L n I
made_on h none_made = h
made_on h (one_made g) = one_made (made_on h g)

pub made_later : {k : ℕ} {L : List ℕ} {m : ℕ} {J : List ℕ} → MadeSince k L m J → k ≤ m
made_later none_made = omega arith
made_later (one_made h) = omega (arith, made_later h)

-- A location that no cell of the store has need not be removed.
remove_unused : {S : Store} {K : CarriedCells} (k : ℕ) (L : List ℕ) → length K ≤ k → StoreWithin S K → remove (k ∷ L) S ≡ remove L S
unfolding remove
remove_unused k L h no_cells = refl
remove_unused k L h (one_cell {s = s} {S = S} {K = K} e v g) =
    rw (in_older s.where_at k L (false_test (eqb k s.where_at) (λ t. clash (eqb→eq k s.where_at t) e h)), remove_unused k L (shorter h) g)
  where
    clash : k ≡ s.where_at → s.where_at ≡ length K → suc (length K) ≤ k → ⊥
    clash p q r = omega arith

    shorter : suc (length K) ≤ k → length K ≤ k
    shorter r = omega arith

remove_newest : (s : Cell) {S : Store} {K : CarriedCells} (k : ℕ) (L : List ℕ) → s.where_at ≡ k → length K ≤ k → StoreWithin S K → remove (k ∷ L) (s ∷ S) ≡ remove L S
unfolding remove in_set
remove_newest s k L e few h = rw (true_test (eqb k s.where_at) (subst (λ n. T (eqb k n)) (sym e) (eqb_refl k))) (remove_unused k L few h)

dropped_all : (k n : ℕ) (K : CarriedCells) → n ≡ k → drop (n - k) K ≡ K
dropped_all k n K q = ap (λ m. drop m K) (none_over q)
  where
    none_over : n ≡ k → n - k ≡ 0
    none_over e = omega (arith, e)

pub older_cells : (k : ℕ) (v : Carried) (K : CarriedCells) → k ≤ length K → oldest_cells k (v ∷ K) ≡ oldest_cells k K
unfolding oldest_cells
older_cells k v K few = ap (λ m. drop m (v ∷ K)) (one_more few)
  where
    one_more : k ≤ length K → suc (length K) - k ≡ suc (length K - k)
    one_more h = omega (arith, h)

pub remove_within : {k : ℕ} {S : Store} {K : CarriedCells} {m : ℕ} {J : List ℕ} → MadeSince k [] m J → length K ≡ m → StoreWithin S K →
    StoreWithin (remove J S) (oldest_cells k K)
unfolding oldest_cells
remove_within {k} {S} {K} none_made q h = rw (remove_none S, dropped_all k (length K) K q) h
remove_within {k = k} (one_made made) q no_cells = absurd (never q)
  where
    never : {m : ℕ} → 0 ≡ suc m → ⊥
    never e = omega (arith, e)
remove_within {k = k} (one_made {m = m} {J = J} made) q (one_cell {s = s} {S = S} {v = v} {K = K} e w h) =
    let same : length K ≡ m = omega (arith, q) in
    let few : k ≤ length K = omega (arith, made_later made, same) in
    rw (remove_newest s m J (e ∙ same) (omega (arith, same)) h, older_cells k v K few) (remove_within made same h)

-- ---- Widening.

wider_first : (x : Value) (v w u : Carried) → wider v w ≡ some u → ValueWithin x v → ValueWithin x u
wider_first x v (numbers c d) u q (number_within {z = z} {a = a} {b = b} h k) =
    subst (ValueWithin (integer z)) (some-injective (numbers (lower a c) (higher b d)) u q)
    (number_within (order_trans (lower_first a c) h) (order_trans k (higher_first b d)))
wider_first x v (truths g o) u q (number_within h k) = missing q
wider_first x v (Carried.location l) u q (number_within h k) = missing q
wider_first x v (numbers c d) u q (truth_within h) = missing q
wider_first x v (truths g o) u q (truth_within {w = w} {f = f} {t = t} h) =
    subst (ValueWithin (truth w)) (some-injective (truths (f || g) (t || o)) u q) (truth_within (by w h))
  where
    by : (w : Bool) → T (possible w f t) → T (possible w (f || g) (t || o))
    by true p = or_left t o p
    by false p = or_left f g p
wider_first x v (Carried.location l) u q (truth_within h) = missing q
wider_first x v (numbers c d) u q location_within = missing q
wider_first x v (truths g o) u q location_within = missing q
wider_first x v (Carried.location l) u q (location_within {l = k}) = by (eqb k l) q
  where
    by : (t : Bool) → cond t (some (Carried.location k)) none ≡ some u → ValueWithin (location k) u
    by true p = subst (ValueWithin (location k)) (some-injective (Carried.location k) u p) location_within
    by false p = missing p

wider_second : (x : Value) (v w u : Carried) → wider v w ≡ some u → ValueWithin x w → ValueWithin x u
wider_second x (numbers c d) w u q (number_within {z = z} {a = a} {b = b} h k) =
    subst (ValueWithin (integer z)) (some-injective (numbers (lower c a) (higher d b)) u q)
    (number_within (order_trans (lower_second c a) h) (order_trans k (higher_second d b)))
wider_second x (truths g o) w u q (number_within h k) = missing q
wider_second x (Carried.location l) w u q (number_within h k) = missing q
wider_second x (numbers c d) w u q (truth_within h) = missing q
wider_second x (truths g o) w u q (truth_within {w = s} {f = f} {t = t} h) =
    subst (ValueWithin (truth s)) (some-injective (truths (g || f) (o || t)) u q) (truth_within (by s h))
  where
    by : (s : Bool) → T (possible s f t) → T (possible s (g || f) (o || t))
    by true p = or_right o t p
    by false p = or_right g f p
wider_second x (Carried.location l) w u q (truth_within h) = missing q
wider_second x (numbers c d) w u q location_within = missing q
wider_second x (truths g o) w u q location_within = missing q
wider_second x (Carried.location k) w u q (location_within {l = l}) = by (eqb k l) refl q
  where
    by : (t : Bool) → eqb k l ≡ t → cond t (some (Carried.location k)) none ≡ some u → ValueWithin (location l) u
    by true r p =
        subst (ValueWithin (location l)) (ap Carried.location (sym (eqb→eq k l (passed_test r))) ∙ some-injective (Carried.location k) u p) location_within
    by false r p = missing p

-- A cell's wider ends, and the older cells'.
pub data OneWider (v w : Carried) (K M : CarriedCells) : CarriedCells → Type 0 where
  one_wider : {u : Carried} {J : CarriedCells} → wider v w ≡ some u → wider_cells K M ≡ some J → OneWider v w K M (u ∷ J)

pub one_wider_from : (v w : Carried) (K M J : CarriedCells) → wider_cells (v ∷ K) (w ∷ M) ≡ some J → OneWider v w K M J
unfolding wider_cells
one_wider_from v w K M J q = by (wider v w) (wider_cells K M) refl refl q
  where
    by : (a : Option Carried) (b : Option CarriedCells) → wider v w ≡ a → wider_cells K M ≡ b → one_cell_more a b ≡ some J → OneWider v w K M J
    by none b p r e = missing e
    by (some u) none p r e = missing e
    by (some u) (some I) p r e = subst (OneWider v w K M) (some-injective (u ∷ I) J e) (one_wider p r)

pub wider_length : (K M J : CarriedCells) → wider_cells K M ≡ some J → length J ≡ length K
unfolding wider_cells
wider_length [] [] J q = ap length (sym (some-injective [] J q))
wider_length [] (w ∷ M) J q = missing q
wider_length (v ∷ K) [] J q = missing q
wider_length (v ∷ K) (w ∷ M) J q = by (one_wider_from v w K M J q) (wider_length K M)
  where
    by : {J : CarriedCells} → OneWider v w K M J → ((I : CarriedCells) → wider_cells K M ≡ some I → length I ≡ length K) → length J ≡ suc (length K)
    by (one_wider {J = I} p r) older = ap suc (older I r)

pub wider_store_first : {S : Store} {K : CarriedCells} (M J : CarriedCells) → wider_cells K M ≡ some J → StoreWithin S K → StoreWithin S J
unfolding wider_cells
wider_store_first [] J q no_cells = subst (StoreWithin []) (some-injective [] J q) no_cells
wider_store_first (w ∷ M) J q no_cells = missing q
wider_store_first [] J q (one_cell e v h) = missing q
wider_store_first (w ∷ M) J q (one_cell {s = s} {S = S} {v = v} {K = K} e x h) = by (one_wider_from v w K M J q) (λ I r. wider_store_first M I r h)
  where
    by : {J : CarriedCells} → OneWider v w K M J → ((I : CarriedCells) → wider_cells K M ≡ some I → StoreWithin S I) → StoreWithin (s ∷ S) J
    by (one_wider {u = u} {J = I} p r) older = one_cell (e ∙ sym (wider_length K M I r)) (wider_first s.contents v w u p x) (older I r)

pub wider_store_second : {S : Store} {M : CarriedCells} (K J : CarriedCells) → length K ≡ length M → wider_cells K M ≡ some J → StoreWithin S M → StoreWithin S J
unfolding wider_cells
wider_store_second [] J l q no_cells = subst (StoreWithin []) (some-injective [] J q) no_cells
wider_store_second (w ∷ K) J l q no_cells = missing q
wider_store_second [] J l q (one_cell e v h) = missing q
wider_store_second (v ∷ K) J l q (one_cell {s = s} {S = S} {v = w} {K = M} e x h) = by (one_wider_from v w K M J q) (λ I r. wider_store_second K I (omega (arith, l)) r h)
  where
    by : {J : CarriedCells} → OneWider v w K M J → ((I : CarriedCells) → wider_cells K M ≡ some I → StoreWithin S I) → StoreWithin (s ∷ S) J
    by (one_wider {u = u} {J = I} p r) older =
        let same : length M ≡ length I = omega (arith, l, wider_length K M I r) in
        one_cell (e ∙ same) (wider_second s.contents v w u p x) (older I r)
