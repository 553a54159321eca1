-- Carried values, cells and names typed in a world (proofs/running/World.antt), and what a command keeps of the cells: the sort of each, and of one
-- that holds a location that very location.
use Rattle.std.specs.Prelude.{ℕ, suc, ◌-◌, ◌≤◌, ◌<◌, ◌≡◌, refl, Bool, true, false, cond, ◌||◌, List, [], ◌∷◌, ◌++◌, T, eqb, ℤ, length, drop, ◌≤ℤ◌}
use Rattle.std.proofs.Common.{sym, ap, subst, arith, le_of_suc-le-suc, not-suc-le-zero}
use Rattle.std.proofs.Math.Option.{Option, none, some, some-injective}
use Rattle.std.proofs.Math.Dec.{eqb_refl}
use Rattle.rules.proofs.Basics.{missing, true_test, or_right}
use Rattle.rules.specs.paper.Tree.{Formal}
use Rattle.rules.specs.paper.Checker.{Meaning, code, function, Named, Scope, meaning_of, with_formals}
use Rattle.rules.specs.paper.Carried.{Carried, numbers, truths, location, Carrying, carried, unsafe, unfit, ◌>>=◌, fitting, safe, lower, higher}
use Rattle.rules.specs.paper.Carrying.{CarriedCells, carried_at, carry_to, oldest_cells, wider_cells, CarriedMeaning, a_value, a_function, CarriedName, CarriedNames, carried_meaning, carry_formals}
use Rattle.rules.proofs.running.World.{World, code_at, code_older}
use Rattle.rules.proofs.ranges.IntegerEnds.{order_trans, lower_first, higher_first}
use Rattle.rules.proofs.ranges.Within.{older_cells}

-- ---- What is carried is fit, and this holds of it.

abbrev pub Fits : {A : Type 0} → (A → Type 0) → Carrying A → Type 0
Fits P (carried a) = P a
Fits P (unsafe p) = Unit {0}
Fits P unfit = ⊥

pub fits_after : {A B : Type 0} (P : A → Type 0) (Q : B → Type 0) (m : Carrying A) (f : A → Carrying B) → Fits P m → ((a : A) → P a → Fits Q (f a)) → Fits Q (m >>= f)
fits_after P Q (carried a) f h k = k a h
fits_after P Q (unsafe p) f h k = tt
fits_after P Q unfit f h k = absurd h

-- There is one, and this holds of it.
pub record Given {A : Type 0} (P : A → Type 0) (o : Option A) : Type 0 where
  pub what : A
  pub is_there : o ≡ some what
  pub holds : P what

pub fits_fitting : {A : Type 0} (P : A → Type 0) (o : Option A) → Given P o → Fits P (fitting o)
fits_fitting P o g = subst (λ a. Fits P (fitting a)) (sym g.is_there) g.holds

pub fits_safe : {A : Type 0} (P : A → Type 0) (p : ℕ) (o : Option A) → ((a : A) → o ≡ some a → P a) → Fits P (safe p o)
fits_safe P p none h = tt
fits_safe P p (some a) h = h a refl

-- ---- Values.

pub data CarriedTyped (W : World) : Carried → ℕ → Type 0 where
  numbers_typed : {a b : ℤ} → a ≤ℤ b → CarriedTyped W (numbers a b) 0
  truths_typed : {f t : Bool} → T (f || t) → CarriedTyped W (truths f t) 1
  location_typed : {l c : ℕ} → code_at l W ≡ some c → CarriedTyped W (location l) (suc (suc c))

-- The world with newer cells.
pub data Newer (W : World) : World → Type 0 where
  same : Newer W W
  newer : {U : World} {c : ℕ} → Newer W U → Newer W (c ∷ U)

pub newer_on : {W U O : World} → Newer W U → Newer U O → Newer W O
newer_on h same = h
newer_on h (newer k) = newer (newer_on h k)

pub newer_keeps : {W U : World} (l c : ℕ) → Newer W U → code_at l W ≡ some c → code_at l U ≡ some c
newer_keeps l c same q = q
newer_keeps l c (newer {U = U} {c = d} h) q = code_older l U c d (newer_keeps l c h q)

pub value_newer : {W U : World} {v : Carried} {c : ℕ} → Newer W U → CarriedTyped W v c → CarriedTyped U v c
value_newer h (numbers_typed k) = numbers_typed k
value_newer h (truths_typed k) = truths_typed k
value_newer h (location_typed {l = l} {c = c} q) = location_typed (newer_keeps l c h q)

-- ---- Cells: each typed by the older ones.

pub data CellsTyped : CarriedCells → World → Type 0 where
  no_cells : CellsTyped [] []
  one_cell : {v : Carried} {K : CarriedCells} {c : ℕ} {W : World} → CarriedTyped W v c → CellsTyped K W → CellsTyped (v ∷ K) (c ∷ W)

pub cells_length : {K : CarriedCells} {W : World} → CellsTyped K W → length K ≡ length W
cells_length no_cells = refl
cells_length (one_cell v h) = ap suc (cells_length h)

pub at_typed : {K : CarriedCells} {W : World} (l c : ℕ) → CellsTyped K W → code_at l W ≡ some c → Given (λ v. CarriedTyped W v c) (carried_at l K)
unfolding carried_at code_at
at_typed l c no_cells q = missing q
at_typed l c (one_cell {v = v} {K = K} {c = d} {W = W} t h) q = choose (eqb (length K) l) (eqb (length W) l) refl (ap (λ k. eqb k l) (cells_length h)) q (at_typed l c h)
  where
    choose : (a b : Bool) → eqb (length K) l ≡ a → a ≡ b → cond b (some d) (code_at l W) ≡ some c →
        (code_at l W ≡ some c → Given (λ v. CarriedTyped W v c) (carried_at l K)) →
        Given (λ v. CarriedTyped (d ∷ W) v c) (cond a (some v) (carried_at l K))
    choose true true u x p older = record { what = v; is_there = refl; holds = value_newer (newer same) (subst (CarriedTyped W v) (some-injective d c p) t) }
    choose true false u x p older = absurd (subst T x tt)
    choose false true u x p older = absurd (subst T (sym x) tt)
    choose false false u x p older = let o = older p in record { what = o.what; is_there = o.is_there; holds = value_newer (newer same) o.holds }

-- ---- What a command keeps: cells of the same codes, and each that holds a location as it was.

pub data Kept : World → (before after : CarriedCells) → Type 0 where
  none_kept : Kept [] [] []
  numbers_kept : {W : World} {K M : CarriedCells} {v : Carried} {a b : ℤ} → a ≤ℤ b → Kept W K M → Kept (0 ∷ W) (v ∷ K) (numbers a b ∷ M)
  truths_kept : {W : World} {K M : CarriedCells} {v : Carried} {f t : Bool} → T (f || t) → Kept W K M → Kept (1 ∷ W) (v ∷ K) (truths f t ∷ M)
  location_kept : {W : World} {K M : CarriedCells} {l c : ℕ} → code_at l W ≡ some c → Kept W K M → Kept (suc (suc c) ∷ W) (location l ∷ K) (location l ∷ M)

pub kept_self : {K : CarriedCells} {W : World} → CellsTyped K W → Kept W K K
kept_self no_cells = none_kept
kept_self (one_cell (numbers_typed h) k) = numbers_kept h (kept_self k)
kept_self (one_cell (truths_typed h) k) = truths_kept h (kept_self k)
kept_self (one_cell (location_typed q) k) = location_kept q (kept_self k)

pub kept_typed : {W : World} {K M : CarriedCells} → Kept W K M → CellsTyped M W
kept_typed none_kept = no_cells
kept_typed (numbers_kept h k) = one_cell (numbers_typed h) (kept_typed k)
kept_typed (truths_kept h k) = one_cell (truths_typed h) (kept_typed k)
kept_typed (location_kept q k) = one_cell (location_typed q) (kept_typed k)

pub kept_on : {W : World} {K M J : CarriedCells} → Kept W K M → Kept W M J → Kept W K J
kept_on none_kept none_kept = none_kept
kept_on (numbers_kept h k) (numbers_kept g i) = numbers_kept g (kept_on k i)
kept_on (truths_kept h k) (truths_kept g i) = truths_kept g (kept_on k i)
kept_on (location_kept q k) (location_kept r i) = location_kept r (kept_on k i)

pub kept_length : {W : World} {K M : CarriedCells} → Kept W K M → length M ≡ length K
kept_length none_kept = refl
kept_length (numbers_kept h k) = ap suc (kept_length k)
kept_length (truths_kept h k) = ap suc (kept_length k)
kept_length (location_kept q k) = ap suc (kept_length k)

-- Setting a cell of code 0 or 1.
pub set_kept : {K : CarriedCells} {W U : World} (l c : ℕ) (v : Carried) → CellsTyped K W → code_at l W ≡ some c → c < 2 → CarriedTyped U v c → Kept W K (carry_to l v K)
unfolding carry_to code_at
set_kept l c v no_cells q h t = missing q
set_kept {U = U} l c v (one_cell {v = w} {K = K} {c = d} {W = W} s g) q h t =
    choose (eqb (length K) l) (eqb (length W) l) (ap (λ k. eqb k l) (cells_length g)) q (λ p. set_kept l c v g p h t)
  where
    newest_kept : {c : ℕ} {v : Carried} → c < 2 → CarriedTyped U v c → Kept (c ∷ W) (w ∷ K) (v ∷ K)
    newest_kept h (numbers_typed k) = numbers_kept k (kept_self g)
    newest_kept h (truths_typed k) = truths_kept k (kept_self g)
    newest_kept h (location_typed r) = absurd (not-suc-le-zero (le_of_suc-le-suc (le_of_suc-le-suc h)))

    older_kept : {d : ℕ} {w : Carried} → CarriedTyped W w d → Kept W K (carry_to l v K) → Kept (d ∷ W) (w ∷ K) (w ∷ carry_to l v K)
    older_kept (numbers_typed k) o = numbers_kept k o
    older_kept (truths_typed k) o = truths_kept k o
    older_kept (location_typed r) o = location_kept r o

    choose : (a b : Bool) → a ≡ b → cond b (some d) (code_at l W) ≡ some c → (code_at l W ≡ some c → Kept W K (carry_to l v K)) →
        Kept (d ∷ W) (w ∷ K) (cond a (v ∷ K) (w ∷ carry_to l v K))
    choose true true x p older = subst (λ k. Kept (k ∷ W) (w ∷ K) (v ∷ K)) (sym (some-injective d c p)) (newest_kept h t)
    choose true false x p older = absurd (subst T x tt)
    choose false true x p older = absurd (subst T (sym x) tt)
    choose false false x p older = older_kept s (older p)

-- Both commands of a Cond keep the cells, and so do the wider ones.
pub wider_kept : {W : World} {K M J : CarriedCells} → Kept W K M → Kept W K J → Given (Kept W K) (wider_cells M J)
unfolding wider_cells
wider_kept none_kept none_kept = record { what = []; is_there = refl; holds = none_kept }
wider_kept (numbers_kept {a = a} {b = b} h k) (numbers_kept {a = c} {b = d} g i) =
    let o = wider_kept k i in
    record {
      what = numbers (lower a c) (higher b d) ∷ o.what;
      is_there = rw o.is_there;
      holds = numbers_kept (order_trans (lower_first a c) (order_trans h (higher_first b d))) o.holds;
    }
wider_kept (truths_kept {f = f} {t = t} h k) (truths_kept {f = g} {t = u} e i) =
    let o = wider_kept k i in
    record { what = truths (f || g) (t || u) ∷ o.what; is_there = rw o.is_there; holds = truths_kept (either f t g u h) o.holds }
  where
    either : (f t g u : Bool) → T (f || t) → T (f || g || (t || u))
    either true t g u h = tt
    either false true g u h = or_right g (true || u) tt
    either false false g u h = absurd h
wider_kept (location_kept {l = l} q k) (location_kept r i) =
    let o = wider_kept k i in
    record { what = location l ∷ o.what; is_there = rw (true_test (eqb l l) (eqb_refl l), o.is_there); holds = location_kept q o.holds }

-- ---- What a declaration adds to the cells.

pub data Extends (W : World) (K : CarriedCells) : World → CarriedCells → Type 0 where
  no_more : Extends W K W K
  one_more : {U : World} {M : CarriedCells} {v : Carried} {c : ℕ} → CarriedTyped U v c → Extends W K U M → Extends W K (c ∷ U) (v ∷ M)

pub extends_on : {W U : World} {K M : CarriedCells} {O : World} {J : CarriedCells} → Extends W K U M → Extends U M O J → Extends W K O J
extends_on h no_more = h
extends_on h (one_more v k) = one_more v (extends_on h k)

pub extends_newer : {W : World} {K : CarriedCells} {U : World} {M : CarriedCells} → Extends W K U M → Newer W U
extends_newer no_more = same
extends_newer (one_more v h) = newer (extends_newer h)

pub extends_typed : {W : World} {K : CarriedCells} {U : World} {M : CarriedCells} → Extends W K U M → CellsTyped K W → CellsTyped M U
extends_typed no_more k = k
extends_typed (one_more v h) k = one_cell v (extends_typed h k)

extends_length : {W : World} {K : CarriedCells} {U : World} {M : CarriedCells} → Extends W K U M → length K ≤ length M
extends_length no_more = omega arith
extends_length (one_more v h) = omega (arith, extends_length h)

-- When the block is left the cells are those there were.
pub left_kept : {W : World} {K : CarriedCells} {U : World} {M J : CarriedCells} → Extends W K U M → Kept U M J → Kept W K (oldest_cells (length K) J)
unfolding oldest_cells
left_kept {W = W} {K = K} {J = J} no_more k = subst (λ m. Kept W K (drop m J)) (sym none_over) k
  where
    none_over : length J - length K ≡ 0
    none_over = omega (arith, kept_length k)
left_kept {W} {K = K} (one_more v h) (numbers_kept {M = J} {a = a} {b = b} g k) =
    subst (Kept W K) (sym (older_cells (length K) (numbers a b) J (omega (arith, extends_length h, kept_length k)))) (left_kept h k)
left_kept {W} {K = K} (one_more v h) (truths_kept {M = J} {f = f} {t = t} g k) =
    subst (Kept W K) (sym (older_cells (length K) (truths f t) J (omega (arith, extends_length h, kept_length k)))) (left_kept h k)
left_kept {W} {K = K} (one_more v h) (location_kept {M = J} {l = l} q k) =
    subst (Kept W K) (sym (older_cells (length K) (location l) J (omega (arith, extends_length h, kept_length k)))) (left_kept h k)

-- ---- Names.

-- The actuals have the codes of the Formals.
pub data ActualsTyped (W : World) : List Carried → List Formal → Type 0 where
  no_actuals : ActualsTyped W [] []
  one_actual : {v : Carried} {vs : List Carried} {f : Formal} {fs : List Formal} → CarriedTyped W v f.code → ActualsTyped W vs fs → ActualsTyped W (v ∷ vs) (f ∷ fs)

-- In any newer world and with actuals of the Formals' codes the function is fit and keeps the cells.
abbrev pub FunctionTyped : World → (List Carried → CarriedCells → Carrying CarriedCells) → List Formal → Type 0
FunctionTyped W give fs = (U : World) → Newer W U → (vs : List Carried) → ActualsTyped U vs fs → (K : CarriedCells) → CellsTyped K U → Fits (Kept U K) (give vs K)

pub data MeaningTyped (W : World) : CarriedMeaning → Meaning → Type 0 where
  value_typed : {v : Carried} {c : ℕ} → CarriedTyped W v c → MeaningTyped W (a_value v) (code c)
  function_typed : {give : List Carried → CarriedCells → Carrying CarriedCells} {fs : List Formal} → FunctionTyped W give fs →
      MeaningTyped W (a_function give) (function fs)

pub data NamesTyped (W : World) : CarriedNames → Scope → Type 0 where
  no_names : NamesTyped W [] []
  one_name : {n : CarriedName} {N : CarriedNames} {m : Named} {Γ : Scope} → n.name ≡ m.name → MeaningTyped W n.meaning m.meaning → NamesTyped W N Γ →
      NamesTyped W (n ∷ N) (m ∷ Γ)

meaning_newer : {W U : World} {u : CarriedMeaning} {m : Meaning} → Newer W U → MeaningTyped W u m → MeaningTyped U u m
meaning_newer h (value_typed t) = value_typed (value_newer h t)
meaning_newer h (function_typed f) = function_typed (λ O k. f O (newer_on h k))

pub names_newer : {W U : World} {N : CarriedNames} {Γ : Scope} → Newer W U → NamesTyped W N Γ → NamesTyped U N Γ
names_newer h no_names = no_names
names_newer h (one_name q t k) = one_name q (meaning_newer h t) (names_newer h k)

pub names_append : {W : World} {M N : CarriedNames} {Δ Γ : Scope} → NamesTyped W M Δ → NamesTyped W N Γ → NamesTyped W (M ++ N) (Δ ++ Γ)
names_append no_names k = k
names_append (one_name q t h) k = one_name q t (names_append h k)

pub meaning_typed : {W : World} {N : CarriedNames} {Γ : Scope} (x : ℕ) (m : Meaning) → NamesTyped W N Γ → meaning_of x Γ ≡ some m →
    Given (λ u. MeaningTyped W u m) (carried_meaning x N)
unfolding carried_meaning meaning_of
meaning_typed x m no_names q = missing q
meaning_typed {W} x m (one_name {n = n} {N = N} {m = o} {Γ = Γ} e t h) q = choose (eqb n.name x) (eqb o.name x) (ap (λ k. eqb k x) e) q (meaning_typed x m h)
  where
    choose : (a b : Bool) → a ≡ b → cond b (some o.meaning) (meaning_of x Γ) ≡ some m →
        (meaning_of x Γ ≡ some m → Given (λ u. MeaningTyped W u m) (carried_meaning x N)) →
        Given (λ u. MeaningTyped W u m) (cond a (some n.meaning) (carried_meaning x N))
    choose true true v p outer = record { what = n.meaning; is_there = refl; holds = subst (MeaningTyped W n.meaning) (some-injective o.meaning m p) t }
    choose true false v p outer = absurd (subst T v tt)
    choose false true v p outer = absurd (subst T (sym v) tt)
    choose false false v p outer = outer p

pub formals_typed : {W : World} {N : CarriedNames} {Γ : Scope} (fs : List Formal) (vs : List Carried) → ActualsTyped W vs fs → NamesTyped W N Γ →
    Given (λ M. NamesTyped W M (with_formals fs Γ)) (carry_formals fs vs N)
unfolding carry_formals with_formals
formals_typed {N = N} fs vs no_actuals h = record { what = N; is_there = refl; holds = h }
formals_typed fs vs (one_actual {v = v} {vs = us} {f = f} {fs = gs} t more) h = formals_typed gs us more (one_name refl (value_typed t) h)
