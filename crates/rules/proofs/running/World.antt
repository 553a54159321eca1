-- Part of the whole-run proof: the types of the live cells ("world"), and values, environments and stores typed in it.
-- A cell's contents are typed by the older cells alone, so leaving a block takes nothing away that an older cell needs.
use Rattle.std.specs.Prelude.{ℕ, zero, suc, ◌<◌, ◌≤◌, ◌≡◌, refl, Bool, true, false, cond, List, [], ◌∷◌, ◌++◌, T, eqb, ℤ, length}
use Rattle.std.proofs.Common.{sym, ap, ◌∙◌, subst, arith, le_of_suc-le-suc, not-suc-le-zero, lt_irrefl, eqb→eq}
use Rattle.std.proofs.Math.Option.{Option, none, some, some-injective}
use Rattle.std.proofs.Math.Dec.{eqb_refl}
use Rattle.rules.proofs.Basics.{missing, passed_test, true_test, false_test}
use Rattle.rules.specs.paper.Tree.{Expression, Num, Boo, Id, DeRef, ValRef, Binary, Not, Formal, Command, Assign, Loop, CSeq, block, Call, Cond, Block, Blk, Declaration, Bind, DSeq, Bound, plain, Ref, Abs}
use Rattle.rules.specs.paper.Limits.{words}
use Rattle.rules.specs.paper.Checker.{Meaning, code, function, Named, Scope, meaning_of, with_formals}
use Rattle.rules.specs.claims.Typing.{BlockOk}
use Rattle.rules.specs.paper.Integers.{in_range}
use Rattle.rules.specs.paper.States.{Value, integer, truth, location, Bindable, value, closure, Environment, empty, bound, lookup, join, Store, find, store_at, live_cells}

-- ---- Numbers in the tree are words.

abbrev pub SmallExpression : Expression → Type 0
SmallExpression (Num p n) = n < words
SmallExpression (Boo p b) = Unit {0}
SmallExpression (Id p x) = Unit {0}
SmallExpression (DeRef p x) = Unit {0}
SmallExpression (ValRef p x) = Unit {0}
SmallExpression (Binary p o e f) = SmallExpression e × SmallExpression f
SmallExpression (Not p e) = SmallExpression e

abbrev pub SmallActuals : List Expression → Type 0
SmallActuals [] = Unit {0}
SmallActuals (e ∷ es) = SmallExpression e × SmallActuals es

abbrev mutual
  pub SmallCommand : Command → Type 0
  SmallCommand (Assign p x e) = SmallExpression e
  SmallCommand (Loop p e c) = SmallExpression e × SmallCommand c
  SmallCommand (CSeq p c d) = SmallCommand c × SmallCommand d
  SmallCommand (block b) = SmallBlock b
  SmallCommand (Call p x es) = SmallActuals es
  SmallCommand (Cond p e c d) = SmallExpression e × SmallCommand c × SmallCommand d

  pub SmallBlock : Block → Type 0
  SmallBlock (Blk p d c) = SmallDeclaration d × SmallCommand c

  pub SmallDeclaration : Declaration → Type 0
  SmallDeclaration (Bind p x b) = SmallBound b
  SmallDeclaration (DSeq p d e) = SmallDeclaration d × SmallDeclaration e

  pub SmallBound : Bound → Type 0
  SmallBound (plain e) = SmallExpression e
  SmallBound (Ref p e) = SmallExpression e
  SmallBound (Abs p fs b) = SmallBlock b

-- ---- The world: the type code that each live cell was made with, newest first. The oldest cell has location 0.

abbrev pub World : Type 0
World = List ℕ

unfoldable pub code_at : ℕ → World → Option ℕ
code_at l [] = none
code_at l (c ∷ W) = let older = code_at l W in cond (eqb (length W) l) (some c) older

pub code_below : (l : ℕ) (W : World) (c : ℕ) → code_at l W ≡ some c → l < length W
unfolding code_at
code_below l [] c q = missing q
code_below l (d ∷ W) c q = choose (eqb (length W) l) refl q (code_below l W c)
  where
    choose : (t : Bool) → eqb (length W) l ≡ t → cond t (some d) (code_at l W) ≡ some c → (code_at l W ≡ some c → l < length W) → l < suc (length W)
    choose true t p older = omega (arith, eqb→eq (length W) l (passed_test t))
    choose false t p older = omega (arith, older p)

-- An older cell keeps its code when one is made.
pub code_older : (l : ℕ) (W : World) (c d : ℕ) → code_at l W ≡ some c → code_at l (d ∷ W) ≡ some c
unfolding code_at
code_older l W c d q = rw (false_test (eqb (length W) l) (λ t. absurd (clash (eqb→eq (length W) l t) (code_below l W c q)))) q
  where
    clash : length W ≡ l → l < length W → ⊥
    clash e h = omega arith

pub code_newest : (W : World) (c : ℕ) → code_at (length W) (c ∷ W) ≡ some c
unfolding code_at
code_newest W c = rw (true_test (eqb (length W) (length W)) (eqb_refl (length W)))

-- ---- Typed values.

pub data ValueTyped (W : World) : Value → ℕ → Type 0 where
  integer_typed : {z : ℤ} → T (in_range z) → ValueTyped W (integer z) 0
  truth_typed : {b : Bool} → ValueTyped W (truth b) 1
  location_typed : {l c : ℕ} → code_at l W ≡ some c → ValueTyped W (location l) (suc (suc c))

pub value_older : {W : World} {v : Value} {c : ℕ} (d : ℕ) → ValueTyped W v c → ValueTyped (d ∷ W) v c
value_older d (integer_typed h) = integer_typed h
value_older d truth_typed = truth_typed
value_older {W} d (location_typed {l = l} {c = c} q) = location_typed (code_older l W c d q)

-- A value of code 0 or 1 is typed whatever cells there are.
pub value_plain : {W : World} {v : Value} {c : ℕ} (U : World) → c < 2 → ValueTyped W v c → ValueTyped U v c
value_plain U h (integer_typed g) = integer_typed g
value_plain U h truth_typed = truth_typed
value_plain U h (location_typed q) = absurd (not-suc-le-zero (le_of_suc-le-suc (le_of_suc-le-suc h)))

-- ---- Typed environments: pointwise, in the order of the scope.

mutual
  pub data EnvironmentTyped (W : World) : Environment → Scope → Type 0 where
    no_names : EnvironmentTyped W empty []
    one_name : {x : ℕ} {b : Bindable} {E : Environment} {n : Named} {Γ : Scope} →
        n.name ≡ x → BindableTyped W b n.meaning → EnvironmentTyped W E Γ → EnvironmentTyped W (bound x b E) (n ∷ Γ)

  pub data BindableTyped (W : World) : Bindable → Meaning → Type 0 where
    value_typed : {v : Value} {c : ℕ} → ValueTyped W v c → BindableTyped W (value v) (code c)
    closure_typed : {fs : List Formal} {b : Block} {F : Environment} (Γ : Scope) →
        EnvironmentTyped W F Γ → BlockOk (with_formals fs Γ) b → SmallBlock b → BindableTyped W (closure fs b F) (function fs)

mutual
  pub environment_older : {W : World} {E : Environment} {Γ : Scope} → EnvironmentTyped W E Γ → (d : ℕ) → EnvironmentTyped (d ∷ W) E Γ
  environment_older no_names d = no_names
  environment_older (one_name q b E) d = one_name q (bindable_older b d) (environment_older E d)

  pub bindable_older : {W : World} {b : Bindable} {m : Meaning} → BindableTyped W b m → (d : ℕ) → BindableTyped (d ∷ W) b m
  bindable_older (value_typed h) d = value_typed (value_older d h)
  bindable_older (closure_typed Γ F h s) d = closure_typed Γ (environment_older F d) h s

-- A name in scope is bound to what its meaning says.
pub record BoundAs (W : World) (E : Environment) (x : ℕ) (m : Meaning) : Type 0 where
  pub what : Bindable
  pub found : lookup x E ≡ some what
  pub typed : BindableTyped W what m

pub lookup_typed : {W : World} {E : Environment} {Γ : Scope} (x : ℕ) (m : Meaning) → EnvironmentTyped W E Γ → meaning_of x Γ ≡ some m → BoundAs W E x m
unfolding lookup meaning_of
lookup_typed x m no_names q = missing q
lookup_typed {W} x m (one_name {x = y} {b = b} {E = E} {n = n} {Γ = Γ} e h t) q = choose (eqb y x) (eqb n.name x) refl (ap (λ k. eqb k x) (sym e)) q (lookup_typed x m t)
  where
    choose : (s t : Bool) → eqb y x ≡ s → s ≡ t → cond t (some n.meaning) (meaning_of x Γ) ≡ some m → (meaning_of x Γ ≡ some m → BoundAs W E x m) → BoundAs W (bound y b E) x m
    choose true true u v p older = record { what = b; found = rw u; typed = subst (BindableTyped W b) (some-injective n.meaning m p) h }
    choose true false u v p older = absurd (subst T v tt)
    choose false true u v p older = absurd (subst T (sym v) tt)
    choose false false u v p older = let o = older p in record { what = o.what; found = rw u o.found; typed = o.typed }

pub join_typed : {W : World} {D E : Environment} {Δ Γ : Scope} → EnvironmentTyped W D Δ → EnvironmentTyped W E Γ → EnvironmentTyped W (join D E) (Δ ++ Γ)
unfolding join
join_typed no_names h = h
join_typed (one_name q b D) h = one_name q b (join_typed D h)
