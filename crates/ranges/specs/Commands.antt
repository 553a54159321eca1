-- What the functions of commands answer: what carrying an Assign or a Cond comes to where its value or test is known, and a Cond whose test may be both.
use Rattle.std.specs.Prelude.{ℕ, ◌≤◌, ◌≡◌, true, List, Result, Ok}
use Rattle.rules.specs.declared.refusals.Refused.{Refused}
use Rattle.rules.specs.paper.Limits.{most_cells}
use Rattle.rules.specs.paper.Tree.{Expression, Command, Assign, Cond}
use Rattle.rules.specs.paper.Needs.{Needs}
use Rattle.rules.specs.paper.Carried.{Carried, truths, Carrying, carried}
use Rattle.rules.specs.paper.Carrying.{CarriedCells, CarriedNames, carried_meaning, value_of, location_in, carry_expression, carry_assign, carry_command}
use Rattle.reader.specs.Stored.{StoredCommand}
use Rattle.intervals.specs.Values.{HoldsValue}
use Rattle.intervals.specs.declared.values.Value.{Value}
use Rattle.carrying.specs.States.{NamesAt, CellsAt}
use Rattle.carrying.specs.Answers.{Fits, CommandThere, CommandAs}
use Rattle.carrying.specs.declared.Held.{Held}

-- The Assign at a node with its value, over so many cells.
pub record AssignThere (words : List ℕ) (environment node : ℕ) (value : Value) (count x : ℕ) (v : Carried) (A : CarriedNames) (K : CarriedCells) : Type 0 where
  pub depth : ℕ
  pub next : ℕ
  pub assigned : Expression
  pub tree : StoredCommand words depth node next (Assign node x assigned)
  pub limit : ℕ
  pub needs : Needs
  pub names_are : NamesAt words limit environment A needs
  pub cells_are : CellsAt words count K
  pub count_few : count ≤ most_cells
  pub value_is : HoldsValue value v

abbrev pub assigning : (x : ℕ) → Carried → CarriedNames → CarriedCells → Carrying CarriedCells
assigning x v A K = carry_assign (location_in (value_of (carried_meaning x A))) v K

abbrev pub SomeAssign : List ℕ → (environment node : ℕ) → Value → Type 0
SomeAssign words environment node value =
    (count x : ℕ) × (v : Carried) × (A : CarriedNames) × (K : CarriedCells) × AssignThere words environment node value count x v A K × Fits (assigning x v A K)

abbrev pub AssignCarried : (words words' : List ℕ) → (environment node : ℕ) → Value → Type 0
AssignCarried words words' environment node value =
    (count x : ℕ) (v : Carried) (A : CarriedNames) (K : CarriedCells) → AssignThere words environment node value count x v A K → CommandAs words' count (assigning x v A K) (Ok tt)

-- An Assign or a Cond whose value or test is known.
pub data Valued (A : CarriedNames) (K : CarriedCells) (v : Carried) : Command → Type 0 where
  an_assign : {p x : ℕ} {e : Expression} → carry_expression A K e ≡ carried v → Valued A K v (Assign p x e)
  a_conditional : {p : ℕ} {e : Expression} {c₁ c₂ : Command} → carry_expression A K e ≡ carried v → Valued A K v (Cond p e c₁ c₂)

abbrev pub SomeTested : List ℕ → Held → (node : ℕ) → Value → Type 0
SomeTested words held node value =
    (c : Command) × (v : Carried) × (A : CarriedNames) × (N : Needs) × (K : CarriedCells) × CommandThere words held node c A N K × HoldsValue value v × Valued A K v c × Fits (carry_command A K c)

abbrev pub TestedCarried : (words words' : List ℕ) → Held → (node : ℕ) → Value → Result (Unit {0}) Refused → Type 0
TestedCarried words words' held node value r =
    (c : Command) (v : Carried) (A : CarriedNames) (N : Needs) (K : CarriedCells) → CommandThere words held node c A N K → HoldsValue value v → Valued A K v c →
    CommandAs words' held.cells (carry_command A K c) r

-- A Cond whose test may be both.
abbrev pub SomeBoth : List ℕ → Held → (node : ℕ) → Type 0
SomeBoth words held node =
    (e : Expression) × (c₁ c₂ : Command) × (A : CarriedNames) × (N : Needs) × (K : CarriedCells) × CommandThere words held node (Cond node e c₁ c₂) A N K
    × (carry_expression A K e ≡ carried (truths true true)) × Fits (carry_command A K (Cond node e c₁ c₂))

abbrev pub BothCarried : (words words' : List ℕ) → Held → (node : ℕ) → Result (Unit {0}) Refused → Type 0
BothCarried words words' held node r =
    (e : Expression) (c₁ c₂ : Command) (A : CarriedNames) (N : Needs) (K : CarriedCells) → CommandThere words held node (Cond node e c₁ c₂) A N K →
    carry_expression A K e ≡ carried (truths true true) → CommandAs words' held.cells (carry_command A K (Cond node e c₁ c₂)) r
