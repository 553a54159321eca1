-- What the functions of carrying answer: what carrying the tree that stands at a node comes to, over the names and cells that the work words hold. Each
-- contract speaks of every tree, names and cells that stand there, and asks only for some whose carrying is fit.
use Rattle.std.specs.Prelude.{ℕ, suc, ◌+◌, ◌≤◌, ◌≡◌, List, [], ◌∷◌, ◌++◌, length, Result, Ok}
use Rattle.std.proofs.Math.Option.{some}
use Rattle.rules.specs.Answers.{refused_at}
use Rattle.rules.specs.declared.refusals.Refusal.TheVariants.{UnsafeArithmetic}
use Rattle.rules.specs.declared.refusals.Refused.{Refused}
use Rattle.rules.specs.paper.Limits.{most_bindings}
use Rattle.rules.specs.declared.kinds.ExpressionKind.{ExpressionKind}
use Rattle.rules.specs.declared.kinds.ExpressionKind.TheVariants.{Num as num, Boo as boo, Id as id, DeRef as deref, ValRef as valref, Binary as binary, Not as negation}
use Rattle.rules.specs.paper.Tree.{Expression, Num, Boo, Id, DeRef, ValRef, Binary, Not, Formal, Command, Call, Block, Declaration, Bind, Bound}
use Rattle.rules.specs.paper.Needs.{Needs, cells_left, bindings_left, over_formals, command_need, block_need, declaration_need, names_given}
use Rattle.rules.specs.paper.Carried.{Carried, Carrying, carried, unsafe, unfit}
use Rattle.rules.specs.paper.Carrying.{CarriedCells, CarriedNames, CarriedDeclared, carry_formals, carry_expression, carry_actuals, carry_command, carry_block, carry_declaration}
use Rattle.reader.specs.Stored.{StoredExpression, StoredActuals, StoredFormals, StoredCommand, StoredBlock, StoredDeclaration}
use Rattle.intervals.specs.Values.{HoldsValue, Gives, ExpressedAs}
use Rattle.intervals.specs.declared.values.Value.{Value}
use Rattle.carrying.specs.States.{RowAt, NamesAt, CellsAt, StateAt, Sees, Room}
use Rattle.carrying.specs.declared.Held.{Held}
use Rattle.carrying.specs.declared.functions.Entered.{Entered}

abbrev pub Fits : {A : Type 0} → Carrying A → Type 0
Fits c = c ≡ unfit → ⊥

-- ---- Expressions.

abbrev pub IsLeaf : Expression → Type 0
IsLeaf (Num p n) = Unit {0}
IsLeaf (Boo p b) = Unit {0}
IsLeaf (Id p x) = Unit {0}
IsLeaf (DeRef p x) = Unit {0}
IsLeaf (ValRef p x) = Unit {0}
IsLeaf (Binary p o e₁ e₂) = ⊥
IsLeaf (Not p e) = ⊥

-- The three that name something.
abbrev pub Names : ExpressionKind → Type 0
Names num = ⊥
Names boo = ⊥
Names id = Unit {0}
Names deref = Unit {0}
Names valref = Unit {0}
Names (binary o) = ⊥
Names negation = ⊥

pub record ExpressionThere (words : List ℕ) (environment node : ℕ) (e : Expression) (A : CarriedNames) (K : CarriedCells) : Type 0 where
  pub depth : ℕ
  pub next : ℕ
  pub tree : StoredExpression words depth node next e
  pub sees : Sees words environment A K

abbrev pub SomeExpression : List ℕ → (environment node : ℕ) → Type 0
SomeExpression words environment node =
    (e : Expression) × (A : CarriedNames) × (K : CarriedCells) × ExpressionThere words environment node e A K × Fits (carry_expression A K e)

abbrev pub ExpressionCarried : List ℕ → (environment node : ℕ) → Result Value Refused → Type 0
ExpressionCarried words environment node r =
    (e : Expression) (A : CarriedNames) (K : CarriedCells) → ExpressionThere words environment node e A K → ExpressedAs (carry_expression A K e) r

abbrev pub SomeLeaf : List ℕ → (environment node : ℕ) → Type 0
SomeLeaf words environment node =
    (e : Expression) × (A : CarriedNames) × (K : CarriedCells) × ExpressionThere words environment node e A K × Fits (carry_expression A K e) × IsLeaf e

abbrev pub LeafCarried : List ℕ → (environment node : ℕ) → Value → Type 0
LeafCarried words environment node r =
    (e : Expression) (A : CarriedNames) (K : CarriedCells) → ExpressionThere words environment node e A K → IsLeaf e → Gives (carry_expression A K e) r

-- ---- Declarations.

pub record DeclarationThere (words : List ℕ) (held : Held) (node next : ℕ) (c : Declaration) (A : CarriedNames) (N : Needs) (K : CarriedCells) : Type 0 where
  pub depth : ℕ
  pub tree : StoredDeclaration words depth node next c
  pub state : StateAt words node held A N K
  pub room : Room held (declaration_need N c)

abbrev pub SomeDeclaration : List ℕ → Held → (node : ℕ) → Type 0
SomeDeclaration words held node =
    (next : ℕ) × (c : Declaration) × (A : CarriedNames) × (N : Needs) × (K : CarriedCells) × DeclarationThere words held node next c A N K × Fits (carry_declaration A K c)

abbrev pub SomeBind : List ℕ → Held → (node : ℕ) → Type 0
SomeBind words held node =
    (next x : ℕ) × (b : Bound) × (A : CarriedNames) × (N : Needs) × (K : CarriedCells) × DeclarationThere words held node next (Bind node x b) A N K × Fits (carry_declaration A K (Bind node x b))

-- The names and cells after it.
pub record DeclaredState (words : List ℕ) (next : ℕ) (held inner : Held) (c : Declaration) (A : CarriedNames) (N : Needs) (D : CarriedDeclared) : Type 0 where
  pub state : StateAt words next inner (D.names_declared ++ A) (names_given N c ++ N) D.cells_after
  pub bindings_are : inner.bindings ≡ bindings_left c + held.bindings
  pub cells_are : inner.cells ≡ cells_left c + held.cells

abbrev pub DeclaredAs : List ℕ → (next : ℕ) → Held → Declaration → CarriedNames → Needs → Carrying CarriedDeclared → Result Held Refused → Type 0
DeclaredAs words next held c A N (carried D) r = (inner : Held) × (r ≡ Ok inner) × DeclaredState words next held inner c A N D
DeclaredAs words next held c A N (unsafe p) r = r ≡ refused_at UnsafeArithmetic p
DeclaredAs words next held c A N unfit r = Unit {0}

abbrev pub DeclarationCarried : (words words' : List ℕ) → Held → (node : ℕ) → Result Held Refused → Type 0
DeclarationCarried words words' held node r =
    (next : ℕ) (c : Declaration) (A : CarriedNames) (N : Needs) (K : CarriedCells) → DeclarationThere words held node next c A N K → DeclaredAs words' next held c A N (carry_declaration A K c) r

-- ---- A Call's actuals, and its function's Formals.

-- Values in rows, one after the other. Which names the rows have is not yet known.
pub data ValuesAt (words : List ℕ) : (row : ℕ) → List Carried → Type 0 where
  no_values : {k : ℕ} → ValuesAt words k []
  one_value_more : {k x l : ℕ} {r : Value} {v : Carried} {vs : List Carried} → RowAt words k x l r → HoldsValue r v → ValuesAt words (suc k) vs → ValuesAt words k (v ∷ vs)

pub record ActualsThere (words : List ℕ) (environment node left row : ℕ) (es : List Expression) (A : CarriedNames) (K : CarriedCells) : Type 0 where
  pub depth : ℕ
  pub next : ℕ
  pub tree : StoredActuals words depth node next es
  pub as_many : length es ≡ left
  pub sees : Sees words environment A K
  pub pointed : environment ≤ row
  pub row_room : row + left ≤ most_bindings

abbrev pub SomeActuals : List ℕ → (environment node left row : ℕ) → Type 0
SomeActuals words environment node left row =
    (es : List Expression) × (A : CarriedNames) × (K : CarriedCells) × ActualsThere words environment node left row es A K × Fits (carry_actuals A K es)

abbrev pub ActualsAs : List ℕ → (left row : ℕ) → Carrying (List Carried) → Result (Unit {0}) Refused → Type 0
ActualsAs words left row (carried vs) r = (r ≡ Ok tt) × (length vs ≡ left) × ValuesAt words row vs
ActualsAs words left row (unsafe p) r = r ≡ refused_at UnsafeArithmetic p
ActualsAs words left row unfit r = Unit {0}

abbrev pub ActualsCarried : (words words' : List ℕ) → (environment node left row : ℕ) → Result (Unit {0}) Refused → Type 0
ActualsCarried words words' environment node left row r =
    (es : List Expression) (A : CarriedNames) (K : CarriedCells) → ActualsThere words environment node left row es A K → ActualsAs words' left row (carry_actuals A K es) r

-- The Formals at a node, as many as the values in the rows.
pub record FormalsThere (words : List ℕ) (formal left row below : ℕ) (fs : List Formal) (vs : List Carried) : Type 0 where
  pub next : ℕ
  pub tree : StoredFormals words formal next fs
  pub as_many : length fs ≡ left
  pub values_many : length vs ≡ left
  pub values : ValuesAt words row vs
  pub row_room : row + left ≤ most_bindings
  pub below_older : below ≤ row

abbrev pub SomeFormals : List ℕ → (formal left row below : ℕ) → Type 0
SomeFormals words formal left row below = (fs : List Formal) × (vs : List Carried) × FormalsThere words formal left row below fs vs

-- The pointer of the newest, on the names that are below.
abbrev pub FormalsNamed : (words words' : List ℕ) → (formal left row below : ℕ) → ℕ → Type 0
FormalsNamed words words' formal left row below r =
    (fs : List Formal) (vs : List Carried) (limit : ℕ) (A F : CarriedNames) (N : Needs) → FormalsThere words formal left row below fs vs → NamesAt words limit below A N →
    carry_formals fs vs A ≡ some F → NamesAt words' limit r F (over_formals fs N)

-- ---- Commands.

pub record CommandThere (words : List ℕ) (held : Held) (node : ℕ) (c : Command) (A : CarriedNames) (N : Needs) (K : CarriedCells) : Type 0 where
  pub depth : ℕ
  pub next : ℕ
  pub tree : StoredCommand words depth node next c
  pub state : StateAt words node held A N K
  pub room : Room held (command_need N c)

abbrev pub SomeCommand : List ℕ → Held → (node : ℕ) → Type 0
SomeCommand words held node =
    (c : Command) × (A : CarriedNames) × (N : Needs) × (K : CarriedCells) × CommandThere words held node c A N K × Fits (carry_command A K c)

abbrev pub CommandAs : List ℕ → (cells : ℕ) → Carrying CarriedCells → Result (Unit {0}) Refused → Type 0
CommandAs words count (carried M) r = (r ≡ Ok tt) × CellsAt words count M
CommandAs words count (unsafe p) r = r ≡ refused_at UnsafeArithmetic p
CommandAs words count unfit r = Unit {0}

abbrev pub CommandCarried : (words words' : List ℕ) → Held → (node : ℕ) → Result (Unit {0}) Refused → Type 0
CommandCarried words words' held node r =
    (c : Command) (A : CarriedNames) (N : Needs) (K : CarriedCells) → CommandThere words held node c A N K → CommandAs words' held.cells (carry_command A K c) r

-- The function's Blk, with the names and cells that it finds. It ends at the Call's node or before.
pub record FunctionThere (words : List ℕ) (held : Held) (node : ℕ) (inner : Held) (inside : ℕ) (b : Block) (F : CarriedNames) (N : Needs) (K : CarriedCells) : Type 0 where
  pub depth : ℕ
  pub next : ℕ
  pub tree : StoredBlock words depth inside next b
  pub before : next ≤ node
  pub state : StateAt words inside inner F N K
  pub room : Room inner (block_need N b)
  pub same_cells : inner.cells ≡ held.cells
  pub more_bindings : held.bindings ≤ inner.bindings

pub data EnteredAs (words : List ℕ) (held : Held) (node : ℕ) (K : CarriedCells) (whole : Carrying CarriedCells) (r : Result Entered Refused) : Type 0 where
  entered : (inner : Held) (inside : ℕ) (b : Block) (F : CarriedNames) (N : Needs) → r ≡ Ok (record { held = inner; block = inside }) → FunctionThere words held node inner inside b F N K →
      whole ≡ carry_block F K b → EnteredAs words held node K whole r
  not_entered : (p : ℕ) → r ≡ refused_at UnsafeArithmetic p → whole ≡ unsafe p → EnteredAs words held node K whole r
  never_entered : whole ≡ unfit → EnteredAs words held node K whole r

abbrev pub SomeCall : List ℕ → Held → (node : ℕ) → Type 0
SomeCall words held node =
    (x : ℕ) × (es : List Expression) × (A : CarriedNames) × (N : Needs) × (K : CarriedCells) × CommandThere words held node (Call node x es) A N K × Fits (carry_command A K (Call node x es))

abbrev pub CallCarried : (words words' : List ℕ) → Held → (node : ℕ) → Result Entered Refused → Type 0
CallCarried words words' held node r =
    (x : ℕ) (es : List Expression) (A : CarriedNames) (N : Needs) (K : CarriedCells) → CommandThere words held node (Call node x es) A N K →
    EnteredAs words' held node K (carry_command A K (Call node x es)) r
