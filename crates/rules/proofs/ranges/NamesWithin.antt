-- The environment's names beside the carried ones: a value lies within what is carried of it, and a closure's Blk, run with actuals within those
-- carried and a store within the cells, leaves a store within the cells that the carried function leaves.
use Rattle.std.specs.Prelude.{ℕ, ◌≡◌, refl, Bool, true, false, cond, List, [], ◌∷◌, ◌++◌, T, eqb, length}
use Rattle.std.proofs.Common.{sym, ap, subst}
use Rattle.std.proofs.Math.Option.{Option, none, some, some-injective}
use Rattle.rules.proofs.Basics.{missing}
use Rattle.rules.specs.paper.Tree.{Formal, Command, block, Block}
use Rattle.rules.specs.paper.States.{Value, Bindable, value, closure, Environment, empty, bound, lookup, join, Store, Entry, val, Item, command, state}
use Rattle.rules.specs.paper.Rules.{match_formals}
use Rattle.rules.specs.paper.Carried.{Carried, Carrying}
use Rattle.rules.specs.paper.Carrying.{CarriedCells, CarriedMeaning, a_value, a_function, CarriedName, CarriedNames, carried_meaning, carry_formals, value_of}
use Rattle.rules.proofs.ranges.Operators.{ValueWithin, If}
use Rattle.rules.proofs.ranges.Within.{Leads, StoreWithin}

-- ---- Commands.

-- The command is done, with a store within these cells, as many as before.
pub record CommandRuns (c : Command) (C : List Item) (X : List Entry) (E : Environment) (S : Store) (L : List ℕ) (n : ℕ) (K M : CarriedCells) : Type 0 where
  pub left : Store
  pub leads : Leads (state (command c ∷ C) X E S L n) (state C X E left L n)
  pub within : StoreWithin left M
  pub as_many : length M ≡ length K

-- Over whatever lies under it.
abbrev pub RunsAnywhere : Command → Environment → Store → (before after : CarriedCells) → Type 0
RunsAnywhere c E S K M = (C : List Item) (X : List Entry) (L : List ℕ) (n : ℕ) → CommandRuns c C X E S L n K M

-- ---- Functions.

-- As many values as are carried, each within its own.
pub data ValuesWithin : List Value → List Carried → Type 0 where
  no_values : ValuesWithin [] []
  one_value : {x : Value} {v : Carried} {xs : List Value} {vs : List Carried} → ValueWithin x v → ValuesWithin xs vs → ValuesWithin (x ∷ xs) (v ∷ vs)

-- The actuals on V, the first on top.
abbrev pub on_stack : List Value → List Entry → List Entry
on_stack [] X = X
on_stack (x ∷ xs) X = val x ∷ on_stack xs X

-- The Formals are bound, and the Blk runs.
pub record FunctionRuns (fs : List Formal) (b : Block) (F : Environment) (xs : List Value) (S : Store) (K M : CarriedCells) : Type 0 where
  pub with_actuals : Environment
  pub matches : (X : List Entry) → match_formals (length xs) fs (on_stack xs X) F ≡ some (record { environment_with = with_actuals; rest = X })
  pub runs : RunsAnywhere (block b) with_actuals S K M

abbrev pub FunctionWithin : List Formal → Block → Environment → (List Carried → CarriedCells → Carrying CarriedCells) → Type 0
FunctionWithin fs b F give =
    (xs : List Value) (vs : List Carried) → ValuesWithin xs vs → (S : Store) (K : CarriedCells) → StoreWithin S K → If (λ M. FunctionRuns fs b F xs S K M) (give vs K)

-- ---- Names.

pub data BindableWithin : Bindable → CarriedMeaning → Type 0 where
  value_within : {x : Value} {v : Carried} → ValueWithin x v → BindableWithin (value x) (a_value v)
  function_within : {fs : List Formal} {b : Block} {F : Environment} {give : List Carried → CarriedCells → Carrying CarriedCells} →
      FunctionWithin fs b F give → BindableWithin (closure fs b F) (a_function give)

pub data NamesWithin : Environment → CarriedNames → Type 0 where
  no_names : NamesWithin empty []
  one_name : {x : ℕ} {b : Bindable} {E : Environment} {n : CarriedName} {N : CarriedNames} → n.name ≡ x → BindableWithin b n.meaning → NamesWithin E N →
      NamesWithin (bound x b E) (n ∷ N)

pub record NamedWithin (E : Environment) (x : ℕ) (m : CarriedMeaning) : Type 0 where
  pub what : Bindable
  pub found : lookup x E ≡ some what
  pub within : BindableWithin what m

pub lookup_within : {E : Environment} {N : CarriedNames} (x : ℕ) (m : CarriedMeaning) → NamesWithin E N → carried_meaning x N ≡ some m → NamedWithin E x m
unfolding lookup carried_meaning
lookup_within x m no_names q = missing q
lookup_within x m (one_name {x = y} {b = b} {E = E} {n = n} {N = N} e h t) q = choose (eqb y x) (eqb n.name x) refl (ap (λ k. eqb k x) (sym e)) q (lookup_within x m t)
  where
    choose : (s t : Bool) → eqb y x ≡ s → s ≡ t → cond t (some n.meaning) (carried_meaning x N) ≡ some m → (carried_meaning x N ≡ some m → NamedWithin E x m) →
        NamedWithin (bound y b E) x m
    choose true true u v p outer = record { what = b; found = rw u; within = subst (BindableWithin b) (some-injective n.meaning m p) h }
    choose true false u v p outer = absurd (subst T v tt)
    choose false true u v p outer = absurd (subst T (sym v) tt)
    choose false false u v p outer = let o = outer p in record { what = o.what; found = rw u o.found; within = o.within }

-- A name that is carried as a value is bound to one within it.
pub record NamedValue (E : Environment) (x : ℕ) (v : Carried) : Type 0 where
  pub what : Value
  pub found : lookup x E ≡ some (value what)
  pub within : ValueWithin what v

pub named_value : {E : Environment} {N : CarriedNames} (x : ℕ) (v : Carried) → NamesWithin E N → value_of (carried_meaning x N) ≡ some v → NamedValue E x v
named_value {E} {N} x v names q = by (carried_meaning x N) refl q
  where
    taken : (b : Bindable) (w : Carried) → lookup x E ≡ some b → BindableWithin b (a_value w) → NamedValue E x w
    taken b w f (value_within {x = y} h) = record { what = y; found = f; within = h }

    by : (o : Option CarriedMeaning) → carried_meaning x N ≡ o → value_of o ≡ some v → NamedValue E x v
    by none p e = missing e
    by (some (a_value w)) p e =
        let n = lookup_within x (a_value w) names p in
        subst (NamedValue E x) (some-injective w v e) (taken n.what w n.found n.within)
    by (some (a_function g)) p e = missing e

pub join_within : {D E : Environment} {M N : CarriedNames} → NamesWithin D M → NamesWithin E N → NamesWithin (join D E) (M ++ N)
unfolding join
join_within no_names h = h
join_within (one_name q b D) h = one_name q b (join_within D h)

-- The Formals take the actuals.
pub record FormalsBound (fs : List Formal) (xs : List Value) (F : Environment) (N : CarriedNames) : Type 0 where
  pub environment_with : Environment
  pub matches : (X : List Entry) → match_formals (length xs) fs (on_stack xs X) F ≡ some (record { environment_with = environment_with; rest = X })
  pub within : NamesWithin environment_with N

pub formals_within : (fs : List Formal) (xs : List Value) (vs : List Carried) (F : Environment) (N M : CarriedNames) → ValuesWithin xs vs → NamesWithin F N →
    carry_formals fs vs N ≡ some M → FormalsBound fs xs F M
unfolding carry_formals match_formals
formals_within [] xs vs F N M no_values h q = record { environment_with = F; matches = λ X. refl; within = subst (NamesWithin F) (some-injective N M q) h }
formals_within [] xs vs F N M (one_value x ys) h q = missing q
formals_within (f ∷ fs) xs vs F N M no_values h q = missing q
formals_within (f ∷ fs) xs vs F N M (one_value {x = x} {v = v} {xs = ys} {vs = ws} within more) h q =
    let b =
    formals_within fs ys ws (bound f.name (value x) F) (record { name = f.name; meaning = a_value v } ∷ N) M more (one_name refl (value_within within) h) q in
    record { environment_with = b.environment_with; matches = b.matches; within = b.within }
