-- Part of the whole-run proof: the steps at an expression.
use Rattle.std.specs.Prelude.{ℕ, zero, suc, ◌<◌, ◌≤◌, ◌≡◌, refl, Bool, true, false, List, [], ◌∷◌, T, pos}
use Rattle.std.proofs.Common.{sym, ap, ◌∙◌, subst, arith, le_of_suc-le-suc, not-suc-le-zero, lt→ltb}
use Rattle.std.proofs.Math.Option.{Option, none, some}
use Rattle.rules.specs.paper.Tree.{Operator, arithmetic, Eq, order, logic, Expression, Num, Boo, Id, DeRef, ValRef, Binary, Not}
use Rattle.rules.specs.paper.Limits.{words}
use Rattle.rules.specs.paper.Integers.{in_range}
use Rattle.rules.specs.paper.Checker.{Meaning, code, Scope, meaning_of, Passed}
use Rattle.rules.specs.claims.Typing.{HasCode}
use Rattle.rules.specs.claims.Typing as Typing
use Rattle.rules.specs.paper.States.{Value, integer, truth, location, Bindable, value, Environment, lookup, Store, find, Entry, val, Item, expression, mark, operator_mark, not_mark, State, state}
use Rattle.rules.specs.paper.Rules.{Rule, goes, Table}
use Rattle.rules.specs.paper.Rules as Rules
use Rattle.rules.specs.claims.History.{History, Made}
use Rattle.rules.specs.claims.Claim.{HoldsItsType, AllHoldTheirTypes, expression_cells}
use Rattle.rules.proofs.running.World.{World, code_at, SmallExpression, ValueTyped, integer_typed, truth_typed, location_typed, EnvironmentTyped, BindableTyped, value_typed, BoundAs, lookup_typed}
use Rattle.rules.proofs.running.Stores.{StoreTyped, Held, find_typed, world_made, cell_holds}
use Rattle.rules.proofs.running.Continuation.{StackShape, value_of, ControlTyped, expression_typed, operator_mark_typed, not_mark_typed, OperatorTyped, arithmetic_typed, equal_typed, order_typed, logic_typed, ValuesTyped, value_on, open_states}
use Rattle.rules.proofs.running.Progress.{Progress, same_store}

-- A name of a code is bound to a value of that code.
pub record BoundValue (W : World) (E : Environment) (x c : ℕ) : Type 0 where
  pub what : Value
  pub found : lookup x E ≡ some (value what)
  pub typed : ValueTyped W what c

pub bound_value_typed : {W : World} {E : Environment} {Γ : Scope} (x c : ℕ) → EnvironmentTyped W E Γ → meaning_of x Γ ≡ some (code c) → BoundValue W E x c
bound_value_typed {W} {E} x c h q = take (lookup_typed x (code c) h q)
  where
    of_value : (b : Bindable) → lookup x E ≡ some b → BindableTyped W b (code c) → BoundValue W E x c
    of_value b f (value_typed {v = v} t) = record { what = v; found = f; typed = t }

    take : BoundAs W E x (code c) → BoundValue W E x c
    take o = of_value o.what o.found o.typed

-- A name of a location's code is bound to the location of a live cell.
pub record BoundCell (W : World) (E : Environment) (x c : ℕ) : Type 0 where
  pub cell : ℕ
  pub found : lookup x E ≡ some (value (location cell))
  pub has_code : code_at cell W ≡ some c

pub bound_cell_typed : {W : World} {E : Environment} {Γ : Scope} (x c : ℕ) → EnvironmentTyped W E Γ → meaning_of x Γ ≡ some (code (suc (suc c))) → BoundCell W E x c
bound_cell_typed {W} {E} x c h q = take (bound_value_typed x (suc (suc c)) h q)
  where
    of_location : (v : Value) → lookup x E ≡ some (value v) → ValueTyped W v (suc (suc c)) → BoundCell W E x c
    of_location v f (location_typed {l = l} p) = record { cell = l; found = f; has_code = p }

    take : BoundValue W E x (suc (suc c)) → BoundCell W E x c
    take o = of_location o.what o.found o.typed

small_in_range : (n : ℕ) → n < words → T (in_range (pos n))
small_in_range n h = lt→ltb n 9223372036854775808 (omega arith)

module _ (a : Passed) (r : ℕ) (C : List Item) (X : List Entry) (E : Environment) (S : Store) (L : List ℕ) (n : ℕ) (h : History)
    (Γ : Scope) (Θ : StackShape) (W : World) (P : List State)
    (names : EnvironmentTyped W E Γ) (cells : StoreTyped S W) (values : ValuesTyped r E W L X Θ P)
    (types : h.made_types ≡ world_made W) (pending : open_states h.past ≡ P) where
  abbrev Here : Expression → Type 0
  Here e = Progress a r (state (expression e ∷ C) X E S L n) h

  -- A value of this code goes on the value stack.
  push : {e : Expression} {v : Value} {c : ℕ} (rule : Rule) → Table C E S L n rule (expression e) X (goes (state C (val v ∷ X) E S L n)) →
      ValueTyped W v c → ControlTyped a C Γ (value_of (code c) Θ) →
      ((M : Made) → M ≡ world_made W → AllHoldTheirTypes M S (expression_cells e E S)) → Here e
  push rule line t k hold = same_store rule refl refl line names cells types pending k (value_on (value_typed t) values) hold

  -- A live cell holds the type it was made with, by any history of this world.
  holds_its_type : (l c : ℕ) → code_at l W ≡ some c → (M : Made) → M ≡ world_made W → HoldsItsType M S l
  holds_its_type l c q M m = subst (λ N. HoldsItsType N S l) (sym m) (cell_holds l c cells q)

  id_plain_step : (p x c : ℕ) (v : Value) → c < 2 → lookup x E ≡ some (value v) → ValueTyped W v c → ControlTyped a C Γ (value_of (code c) Θ) → Here (Id p x)
  id_plain_step p x c v l f (integer_typed t) k = push Rules.rule_Id (Rules.id_plain tt f) (integer_typed t) k (λ M m. rw f tt)
  id_plain_step p x c v l f truth_typed k = push Rules.rule_Id (Rules.id_plain tt f) truth_typed k (λ M m. rw f tt)
  id_plain_step p x c v l f (location_typed q) k = absurd (not-suc-le-zero (le_of_suc-le-suc (le_of_suc-le-suc l)))

  id_cell_step : (p x c : ℕ) → BoundCell W E x c → ControlTyped a C Γ (value_of (code c) Θ) → Here (Id p x)
  id_cell_step p x c b k =
      let f = find_typed b.cell c cells b.has_code in
      push Rules.rule_Id (Rules.id_cell b.found f.found) f.typed k
      (λ M m. rw b.found (holds_its_type b.cell c b.has_code M m, tt))

  deref_step : (p x c : ℕ) (v : Value) → 2 ≤ c → lookup x E ≡ some (value v) → ValueTyped W v c → ControlTyped a C Γ (value_of (code c) Θ) → Here (DeRef p x)
  deref_step p x c v l f (integer_typed t) k = absurd (not-suc-le-zero l)
  deref_step p x c v l f truth_typed k = absurd (not-suc-le-zero (le_of_suc-le-suc l))
  deref_step p x c v l f (location_typed q) k = push Rules.rule_DeRef (Rules.deref f) (location_typed q) k (λ M m. tt)

  valref_second : (p x c l : ℕ) (v : Value) → lookup x E ≡ some (value (location l)) → code_at l W ≡ some (suc (suc c)) → find l S ≡ some v → ValueTyped W v (suc (suc c)) →
      ControlTyped a C Γ (value_of (code c) Θ) → Here (ValRef p x)
  valref_second p x c l v f q g (location_typed {l = j} t) k =
      let o = find_typed j c cells t in
      push Rules.rule_ValRef (Rules.valref f g o.found) o.typed k
      (λ M m. rw (f, g) (holds_its_type l (suc (suc c)) q M m, (holds_its_type j c t M m, tt)))

  valref_step : (p x c : ℕ) → BoundCell W E x (suc (suc c)) → ControlTyped a C Γ (value_of (code c) Θ) → Here (ValRef p x)
  valref_step p x c b k =
      let f = find_typed b.cell (suc (suc c)) cells b.has_code in
      valref_second p x c b.cell f.contents b.found b.has_code f.found f.typed k

  binary_step : (p : ℕ) (o : Operator) (e₁ e₂ : Expression) (c₁ c₂ c : ℕ) → OperatorTyped o c₁ c₂ c → HasCode Γ e₁ c₁ → HasCode Γ e₂ c₂ →
      SmallExpression e₁ × SmallExpression e₂ → ControlTyped a C Γ (value_of (code c) Θ) → Here (Binary p o e₁ e₂)
  binary_step p o e₁ e₂ c₁ c₂ c t g₁ g₂ s k =
      same_store Rules.rule_Binary refl refl Rules.binary names cells types pending
      (expression_typed g₁ s.0 (expression_typed g₂ s.1 (operator_mark_typed t k))) values (λ M m. tt)

  pub expression_step : (e : Expression) (c : ℕ) → HasCode Γ e c → SmallExpression e → ControlTyped a C Γ (value_of (code c) Θ) → Here e
  expression_step e c (Typing.num {n = n}) s k = push Rules.rule_Num Rules.num (integer_typed (small_in_range n s)) k (λ M m. tt)
  expression_step e c Typing.boo s k = push Rules.rule_Boo Rules.boo truth_typed k (λ M m. tt)
  expression_step e c (Typing.id_plain {p = p} {x = x} l q) s k =
      let b = bound_value_typed x c names q in id_plain_step p x c b.what l b.found b.typed k
  expression_step e c (Typing.id_cell {p = p} {x = x} q) s k = id_cell_step p x c (bound_cell_typed x c names q) k
  expression_step e c (Typing.deref {p = p} {x = x} l q) s k =
      let b = bound_value_typed x c names q in deref_step p x c b.what l b.found b.typed k
  expression_step e c (Typing.valref {p = p} {x = x} q) s k = valref_step p x c (bound_cell_typed x (suc (suc c)) names q) k
  expression_step e c (Typing.arithmetic_of {p = p} {o = o} {e₁ = e₁} {e₂ = e₂} g₁ g₂) s k = binary_step p (arithmetic o) e₁ e₂ 0 0 0 arithmetic_typed g₁ g₂ s k
  expression_step e c (Typing.order_of {p = p} {o = o} {e₁ = e₁} {e₂ = e₂} g₁ g₂) s k = binary_step p (order o) e₁ e₂ 0 0 1 order_typed g₁ g₂ s k
  expression_step e c (Typing.equal_of {p = p} {c = d} {e₁ = e₁} {e₂ = e₂} l g₁ g₂) s k = binary_step p Eq e₁ e₂ d d 1 (equal_typed l) g₁ g₂ s k
  expression_step e c (Typing.logic_of {p = p} {o = o} {e₁ = e₁} {e₂ = e₂} g₁ g₂) s k = binary_step p (logic o) e₁ e₂ 1 1 1 logic_typed g₁ g₂ s k
  expression_step e c (Typing.not_of g) s k =
      same_store Rules.rule_Not refl refl Rules.negation names cells types pending (expression_typed g s (not_mark_typed k)) values (λ M m. tt)
