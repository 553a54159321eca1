-- Part of the whole-run proof: the invariant. What stands on control is typed as a continuation: by the scope of the environment
-- it will find and by the shape that the value stack must have.
use Rattle.std.specs.Prelude.{ℕ, zero, suc, ◌<◌, ◌≤◌, ◌≡◌, Bool, true, false, cond, ◌&&◌, not, List, [], ◌∷◌, ◌++◌, length}
use Rattle.std.proofs.Math.Option.{Option, none, some}
use Rattle.rules.specs.paper.Tree.{Operator, Arithmetic, Order, Logic, arithmetic, Eq, order, logic, Expression, Formal, Command, Loop, Cond, Block, Declaration}
use Rattle.rules.specs.paper.Checker.{Meaning, code, function, Scope, meaning_of, with_formals, Passed, expression_of_code, a_command}
use Rattle.rules.specs.claims.Typing.{HasCode, CommandOk, BlockOk, Gives}
use Rattle.rules.specs.paper.States.{Bindable, Environment, Entry, bindable, name, node, environment, locations, operator_mark, not_mark, assign_mark, loop_mark, conditional_mark, ref_mark, bind_mark, dseq_extend_mark, dseq_join_mark, extend_mark, leave_mark, call_mark, Item, expression, command, declaration, reference, abstraction, mark, State, control_of, values_of, environment_of, store_of, locations_of, live_cells}
use Rattle.rules.specs.claims.History.{Earlier, History, node_on_top}
use Rattle.rules.proofs.running.World.{World, SmallExpression, SmallCommand, SmallBlock, SmallDeclaration, EnvironmentTyped, BindableTyped}
use Rattle.rules.proofs.running.Stores.{StoreTyped, Grown, world_cells, world_made}

-- The shape of the value stack, top first.
pub data StackShape : Type 0 where
  end : StackShape
  value_of : Meaning → StackShape → StackShape  -- a value or closure of this meaning
  name_of : ℕ → StackShape → StackShape  -- this name
  testing : Command → StackShape → StackShape  -- this Loop or Cond, whose test runs
  declared : Scope → StackShape → StackShape  -- the environment of a finished declaration
  saved : (first outer : Scope) → StackShape → StackShape  -- the first environment of a DSeq on E as it was, while its second declaration runs
  calling : (place : ℕ) → StackShape → StackShape  -- no entry: the actuals of this Call run
  opened : (place : ℕ) → Scope → StackShape → StackShape  -- L of the block at this place, whose declaration runs
  frame : (place : ℕ) → Scope → StackShape → StackShape  -- E and L of the block or call at this place, whose command runs

-- A Ref runs only in a declaration: names and what DSeqs saved alone lie above the opened block.
pub data Declaring : StackShape → Type 0 where
  in_block : {p : ℕ} {Γ : Scope} {Θ : StackShape} → Declaring (opened p Γ Θ)
  past_name : {x : ℕ} {Θ : StackShape} → Declaring Θ → Declaring (name_of x Θ)
  past_saved : {Δ Γ : Scope} {Θ : StackShape} → Declaring Θ → Declaring (saved Δ Γ Θ)

-- What the two operands' codes give.
pub data OperatorTyped : Operator → (first second result : ℕ) → Type 0 where
  arithmetic_typed : {o : Arithmetic} → OperatorTyped (arithmetic o) 0 0 0
  equal_typed : {c : ℕ} → c < 2 → OperatorTyped Eq c c 1
  order_typed : {o : Order} → OperatorTyped (order o) 0 0 1
  logic_typed : {o : Logic} → OperatorTyped (logic o) 1 1 1

-- The actuals of these Formals, the first on top.
abbrev pub actuals : List Formal → StackShape → StackShape
actuals [] Θ = Θ
actuals (f ∷ fs) Θ = value_of (code f.code) (actuals fs Θ)

-- How the run of a passed root ends: with nothing for a command, with one value of its code for an expression.
pub data Final : Passed → StackShape → Type 0 where
  final_command : Final a_command end
  final_value : {c : ℕ} → Final (expression_of_code c) (value_of (code c) end)

pub data ControlTyped (a : Passed) : List Item → Scope → StackShape → Type 0 where
  done : {Γ : Scope} {Θ : StackShape} → Final a Θ → ControlTyped a [] Γ Θ
  expression_typed : {e : Expression} {C : List Item} {Γ : Scope} {Θ : StackShape} {c : ℕ} →
      HasCode Γ e c → SmallExpression e → ControlTyped a C Γ (value_of (code c) Θ) → ControlTyped a (expression e ∷ C) Γ Θ
  command_typed : {c : Command} {C : List Item} {Γ : Scope} {Θ : StackShape} →
      CommandOk Γ c → SmallCommand c → ControlTyped a C Γ Θ → ControlTyped a (command c ∷ C) Γ Θ
  declaration_typed : {d : Declaration} {C : List Item} {Γ Δ : Scope} {Θ : StackShape} →
      Gives Γ d Δ → SmallDeclaration d → Declaring Θ → ControlTyped a C Γ (declared Δ Θ) → ControlTyped a (declaration d ∷ C) Γ Θ
  reference_typed : {p c : ℕ} {e : Expression} {C : List Item} {Γ : Scope} {Θ : StackShape} →
      HasCode Γ e c → SmallExpression e → Declaring Θ → ControlTyped a C Γ (value_of (code (suc (suc c))) Θ) → ControlTyped a (reference p e ∷ C) Γ Θ
  abstraction_typed : {p : ℕ} {fs : List Formal} {b : Block} {C : List Item} {Γ : Scope} {Θ : StackShape} →
      BlockOk (with_formals fs Γ) b → SmallBlock b → ControlTyped a C Γ (value_of (function fs) Θ) → ControlTyped a (abstraction p fs b ∷ C) Γ Θ
  operator_mark_typed : {o : Operator} {c₁ c₂ c : ℕ} {C : List Item} {Γ : Scope} {Θ : StackShape} →
      OperatorTyped o c₁ c₂ c → ControlTyped a C Γ (value_of (code c) Θ) → ControlTyped a (mark (operator_mark o) ∷ C) Γ (value_of (code c₂) (value_of (code c₁) Θ))
  not_mark_typed : {C : List Item} {Γ : Scope} {Θ : StackShape} →
      ControlTyped a C Γ (value_of (code 1) Θ) → ControlTyped a (mark not_mark ∷ C) Γ (value_of (code 1) Θ)
  assign_mark_typed : {x c : ℕ} {C : List Item} {Γ : Scope} {Θ : StackShape} →
      c < 2 → meaning_of x Γ ≡ some (code (suc (suc c))) → ControlTyped a C Γ Θ → ControlTyped a (mark assign_mark ∷ C) Γ (value_of (code c) (name_of x Θ))
  loop_mark_typed : {p : ℕ} {e : Expression} {c : Command} {C : List Item} {Γ : Scope} {Θ : StackShape} →
      HasCode Γ e 1 → SmallExpression e → CommandOk Γ c → SmallCommand c → ControlTyped a C Γ Θ → ControlTyped a (mark loop_mark ∷ C) Γ (value_of (code 1) (testing (Loop p e c) Θ))
  conditional_mark_typed : {p : ℕ} {e : Expression} {c₁ c₂ : Command} {C : List Item} {Γ : Scope} {Θ : StackShape} →
      CommandOk Γ c₁ → SmallCommand c₁ → CommandOk Γ c₂ → SmallCommand c₂ → ControlTyped a C Γ Θ →
      ControlTyped a (mark conditional_mark ∷ C) Γ (value_of (code 1) (testing (Cond p e c₁ c₂) Θ))
  ref_mark_typed : {c : ℕ} {C : List Item} {Γ : Scope} {Θ : StackShape} →
      Declaring Θ → ControlTyped a C Γ (value_of (code (suc (suc c))) Θ) → ControlTyped a (mark ref_mark ∷ C) Γ (value_of (code c) Θ)
  bind_mark_typed : {x : ℕ} {m : Meaning} {C : List Item} {Γ : Scope} {Θ : StackShape} →
      ControlTyped a C Γ (declared (record { name = x; meaning = m } ∷ []) Θ) → ControlTyped a (mark bind_mark ∷ C) Γ (value_of m (name_of x Θ))
  dseq_extend_mark_typed : {C : List Item} {Γ Δ₁ : Scope} {Θ : StackShape} →
      ControlTyped a C (Δ₁ ++ Γ) (saved Δ₁ Γ Θ) → ControlTyped a (mark dseq_extend_mark ∷ C) Γ (declared Δ₁ Θ)
  dseq_join_mark_typed : {C : List Item} {Γ Γ₀ Δ₁ Δ₂ : Scope} {Θ : StackShape} →
      ControlTyped a C Γ₀ (declared (Δ₂ ++ Δ₁) Θ) → ControlTyped a (mark dseq_join_mark ∷ C) Γ (declared Δ₂ (saved Δ₁ Γ₀ Θ))
  extend_mark_typed : {p : ℕ} {C : List Item} {Γ Δ : Scope} {Θ : StackShape} →
      ControlTyped a C (Δ ++ Γ) (frame p Γ Θ) → ControlTyped a (mark extend_mark ∷ C) Γ (declared Δ (opened p Γ Θ))
  leave_mark_typed : {p m : ℕ} {C : List Item} {Γ Γ₀ : Scope} {Θ : StackShape} →
      ControlTyped a C Γ₀ Θ → ControlTyped a (mark (leave_mark p m) ∷ C) Γ (frame p Γ₀ Θ)
  call_mark_typed : {p x k : ℕ} {fs : List Formal} {C : List Item} {Γ : Scope} {Θ Φ : StackShape} →
      meaning_of x Γ ≡ some (function fs) → length fs ≡ k → Φ ≡ actuals fs (calling p Θ) → ControlTyped a C Γ Θ → ControlTyped a (mark (call_mark p x k) ∷ C) Γ Φ

-- The state in which the Blk or Call at p came to the top had this environment, location set, value stack and these cells.
pub record Entered (p : ℕ) (e : State) (E : Environment) (L : List ℕ) (X : List Entry) (W : World) : Type 0 where
  pub top : node_on_top e ≡ some p
  pub environment_then : environment_of e ≡ E
  pub locations_then : locations_of e ≡ L
  pub values_then : values_of e ≡ X
  pub cells_then : live_cells (store_of e) ≡ world_cells W

-- The world at the start: the registers.
unfoldable pub register_world : ℕ → World
register_world zero = []
register_world (suc r) = 0 ∷ register_world r

-- The value stack has this shape; `open` holds the states in which the open Blks and Calls came to the top, newest first.
pub data ValuesTyped (r : ℕ) : Environment → World → List ℕ → List Entry → StackShape → (open_states : List State) → Type 0 where
  nothing_left : {E : Environment} {W : World} {L : List ℕ} → W ≡ register_world r → L ≡ [] → ValuesTyped r E W L [] end []
  value_on : {E : Environment} {W : World} {L : List ℕ} {X : List Entry} {Θ : StackShape} {P : List State} {b : Bindable} {m : Meaning} →
      BindableTyped W b m → ValuesTyped r E W L X Θ P → ValuesTyped r E W L (bindable b ∷ X) (value_of m Θ) P
  name_on : {E : Environment} {W : World} {L : List ℕ} {X : List Entry} {Θ : StackShape} {P : List State} {x : ℕ} →
      ValuesTyped r E W L X Θ P → ValuesTyped r E W L (name x ∷ X) (name_of x Θ) P
  testing_on : {E : Environment} {W : World} {L : List ℕ} {X : List Entry} {Θ : StackShape} {P : List State} {c : Command} →
      ValuesTyped r E W L X Θ P → ValuesTyped r E W L (node c ∷ X) (testing c Θ) P
  declared_on : {E D : Environment} {W : World} {L : List ℕ} {X : List Entry} {Θ : StackShape} {P : List State} {Δ : Scope} →
      EnvironmentTyped W D Δ → ValuesTyped r E W L X Θ P → ValuesTyped r E W L (environment D ∷ X) (declared Δ Θ) P
  saved_on : {E D F : Environment} {W : World} {L : List ℕ} {X : List Entry} {Θ : StackShape} {P : List State} {Δ Γ : Scope} →
      EnvironmentTyped W D Δ → EnvironmentTyped W F Γ → ValuesTyped r F W L X Θ P → ValuesTyped r E W L (environment D ∷ environment F ∷ X) (saved Δ Γ Θ) P
  calling_on : {E : Environment} {W : World} {L : List ℕ} {X : List Entry} {Θ : StackShape} {P : List State} {p : ℕ} {e : State} →
      Entered p e E L X W → ValuesTyped r E W L X Θ P → ValuesTyped r E W L X (calling p Θ) (e ∷ P)
  opened_on : {E : Environment} {U W : World} {K L : List ℕ} {X : List Entry} {Θ : StackShape} {P : List State} {p : ℕ} {e : State} {Γ : Scope} →
      EnvironmentTyped U E Γ → Grown U W L → Entered p e E K X U → ValuesTyped r E U K X Θ P → ValuesTyped r E W L (locations K ∷ X) (opened p Γ Θ) (e ∷ P)
  frame_on : {E F : Environment} {U W : World} {K L : List ℕ} {X : List Entry} {Θ : StackShape} {P : List State} {p : ℕ} {e : State} {Γ : Scope} →
      EnvironmentTyped U F Γ → Grown U W L → Entered p e F K X U → ValuesTyped r F U K X Θ P → ValuesTyped r E W L (environment F ∷ locations K ∷ X) (frame p Γ Θ) (e ∷ P)

-- The earlier states with a Blk or Call on top that no leaving was compared with.
abbrev pub is_some : Option ℕ → Bool
is_some none = false
is_some (some p) = true

unfoldable pub open_states : List Earlier → List State
open_states [] = []
open_states (e ∷ es) = cond (is_some (node_on_top e.was) && not e.compared) (e.was ∷ open_states es) (open_states es)

-- The invariant of the run of a root that passed as `a`, with r registers.
pub record Invariant (a : Passed) (r : ℕ) (σ : State) (h : History) : Type 0 where
  pub scope : Scope
  pub shape : StackShape
  pub world : World
  pub control : ControlTyped a (control_of σ) scope shape
  pub names : EnvironmentTyped world (environment_of σ) scope
  pub cells : StoreTyped (store_of σ) world
  pub values : ValuesTyped r (environment_of σ) world (locations_of σ) (values_of σ) shape (open_states h.past)
  pub types : h.made_types ≡ world_made world
