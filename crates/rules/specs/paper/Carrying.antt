-- Carrying a routine over registers that are known only within limits (document 02, request 10): what each expression gives, and what each command
-- leaves in the cells. It goes in running order, as the table of rules does (Rules.antt), and at a Cond whose test may be both it carries both
-- commands. A function is carried as what its Blk leaves, whatever it is called with, so each part is carried from its children's.
use Rattle.std.specs.Prelude.{ℕ, zero, suc, ◌-◌, Bool, true, false, cond, List, [], ◌∷◌, ◌++◌, eqb, ℤ, pos, length, drop, get_or}
use Rattle.std.proofs.Math.Option.{Option, none, some}
use Rattle.rules.specs.paper.Tree.{Expression, Num, Boo, Id, DeRef, ValRef, Binary, Not, Formal, Command, Assign, Loop, CSeq, block, Call, Cond, Block, Blk, Declaration, Bind, DSeq, Bound, plain, Ref, Abs, Root, expression, command, absent}
use Rattle.rules.specs.paper.Carried.{Carried, numbers, truths, location, only_number, only_truth, Carrying, carried, unfit, ◌>>=◌, fitting, carry_operator, carry_negation, wider}

-- ---- Cells: newest first; a cell's location is the number of cells that are older.

abbrev pub CarriedCells : Type 0
CarriedCells = List Carried

unfoldable pub carried_at : ℕ → CarriedCells → Option Carried
carried_at l [] = none
carried_at l (v ∷ K) = let older = carried_at l K in cond (eqb (length K) l) (some v) older

unfoldable pub carry_to : ℕ → Carried → CarriedCells → CarriedCells
carry_to l v [] = []
carry_to l v (w ∷ K) = let older = carry_to l v K in cond (eqb (length K) l) (v ∷ K) (w ∷ older)

-- The cells there were when there were so many.
unfoldable pub oldest_cells : ℕ → CarriedCells → CarriedCells
oldest_cells n K = drop (length K - n) K

abbrev pub one_cell_more : Option Carried → Option CarriedCells → Option CarriedCells
one_cell_more none older = none
one_cell_more (some v) none = none
one_cell_more (some v) (some K) = some (v ∷ K)

-- After both commands of a Cond cells take the wider ends, or every truth that either leaves.
unfoldable pub wider_cells : CarriedCells → CarriedCells → Option CarriedCells
wider_cells [] [] = some []
wider_cells [] (w ∷ M) = none
wider_cells (v ∷ K) [] = none
wider_cells (v ∷ K) (w ∷ M) = one_cell_more (wider v w) (wider_cells K M)

-- ---- Names: a value, or a function from its actuals and the cells to the cells that it leaves.

pub data CarriedMeaning : Type 0 where
  a_value : Carried → CarriedMeaning
  a_function : (List Carried → CarriedCells → Carrying CarriedCells) → CarriedMeaning

pub record CarriedName : Type 0 where
  pub name : ℕ
  pub meaning : CarriedMeaning

-- The names in scope, newest first.
abbrev pub CarriedNames : Type 0
CarriedNames = List CarriedName

unfoldable pub carried_meaning : ℕ → CarriedNames → Option CarriedMeaning
carried_meaning x [] = none
carried_meaning x (n ∷ N) = let outer = carried_meaning x N in cond (eqb n.name x) (some n.meaning) outer

-- The names with the Formals added, the last one newest; the first Formal has the first actual.
unfoldable pub carry_formals : List Formal → List Carried → CarriedNames → Option CarriedNames
carry_formals [] [] N = some N
carry_formals [] (v ∷ vs) N = none
carry_formals (f ∷ fs) [] N = none
carry_formals (f ∷ fs) (v ∷ vs) N = carry_formals fs vs (record { name = f.name; meaning = a_value v } ∷ N)

-- ---- Expressions.

-- The value that a name is bound to.
abbrev pub value_of : Option CarriedMeaning → Option Carried
value_of none = none
value_of (some (a_value v)) = some v
value_of (some (a_function g)) = none

-- The location that a value is.
abbrev pub location_in : Option Carried → Option ℕ
location_in none = none
location_in (some (numbers a b)) = none
location_in (some (truths f t)) = none
location_in (some (location l)) = some l

-- The contents of the cell at a location.
abbrev pub contents_at : Option ℕ → CarriedCells → Option Carried
contents_at none K = none
contents_at (some l) K = carried_at l K

-- Id of a plain binding gives it; of a cell, its contents.
abbrev pub carry_id : Option Carried → CarriedCells → Option Carried
carry_id none K = none
carry_id (some (numbers a b)) K = some (numbers a b)
carry_id (some (truths f t)) K = some (truths f t)
carry_id (some (location l)) K = carried_at l K

abbrev pub located : Option ℕ → Option Carried
located none = none
located (some l) = some (location l)

unfoldable pub carry_expression : CarriedNames → CarriedCells → Expression → Carrying Carried
carry_expression N K (Num p n) = carried (only_number (pos n))
carry_expression N K (Boo p b) = carried (only_truth b)
carry_expression N K (Id p x) = fitting (carry_id (value_of (carried_meaning x N)) K)
carry_expression N K (DeRef p x) = fitting (located (location_in (value_of (carried_meaning x N))))
-- ValRef gives the contents of the cell whose location is in the named cell.
carry_expression N K (ValRef p x) = fitting (contents_at (location_in (contents_at (location_in (value_of (carried_meaning x N))) K)) K)
carry_expression N K (Binary p o e₁ e₂) = carry_expression N K e₁ >>= λ v. carry_expression N K e₂ >>= λ w. carry_operator p o v w
carry_expression N K (Not p e) = carry_expression N K e >>= carry_negation

-- Actuals run last to first.
unfoldable pub carry_actuals : CarriedNames → CarriedCells → List Expression → Carrying (List Carried)
carry_actuals N K [] = carried []
carry_actuals N K (e ∷ es) = carry_actuals N K es >>= λ vs. carry_expression N K e >>= λ v. carried (v ∷ vs)

-- ---- Commands.

-- A cell of plain values keeps the sort that it was made with; one that holds a location is set by its declaration alone.
abbrev pub same_sort : (old new : Carried) → Bool
same_sort (numbers a b) (numbers c d) = true
same_sort (numbers a b) (truths g u) = false
same_sort (numbers a b) (location l) = false
same_sort (truths f t) (numbers c d) = false
same_sort (truths f t) (truths g u) = true
same_sort (truths f t) (location l) = false
same_sort (location k) v = false

-- Assign stores to a cell that is there, a value of its sort.
abbrev pub set_cell : Option ℕ → (old : Option Carried) → Carried → CarriedCells → Carrying CarriedCells
set_cell none old v K = unfit
set_cell (some l) none v K = unfit
set_cell (some l) (some w) v K = cond (same_sort w v) (carried (carry_to l v K)) unfit

unfoldable pub carry_assign : Option ℕ → Carried → CarriedCells → Carrying CarriedCells
carry_assign l v K = set_cell l (contents_at l K) v K

-- Where a Cond's test may be both, each command is carried from the cells before it; where it can be only one truth, that command alone is.
abbrev pub carry_choosing : Carried → (first second : Carrying CarriedCells) → Carrying CarriedCells
carry_choosing (numbers a b) first second = unfit
carry_choosing (truths false false) first second = unfit
carry_choosing (truths false true) first second = first
carry_choosing (truths true false) first second = second
carry_choosing (truths true true) first second = first >>= λ K. second >>= λ M. fitting (wider_cells K M)
carry_choosing (location l) first second = unfit

abbrev pub carry_call : Option CarriedMeaning → List Carried → CarriedCells → Carrying CarriedCells
carry_call none vs K = unfit
carry_call (some (a_value v)) vs K = unfit
carry_call (some (a_function give)) vs K = give vs K

-- What a declaration leaves: its names, newest first, and the cells.
pub record CarriedDeclared : Type 0 where
  pub names_declared : CarriedNames
  pub cells_after : CarriedCells

-- What a Bind binds its name to, and the cells.
pub record CarriedBound : Type 0 where
  pub bound_as : CarriedMeaning
  pub cells_after : CarriedCells

unfoldable mutual
  pub carry_command : CarriedNames → CarriedCells → Command → Carrying CarriedCells
  carry_command N K (Assign p x e) = carry_expression N K e >>= λ v. carry_assign (location_in (value_of (carried_meaning x N))) v K
  -- With a Loop in the tree nothing is carried (43).
  carry_command N K (Loop p e c) = unfit
  carry_command N K (CSeq p c₁ c₂) = carry_command N K c₁ >>= λ M. carry_command N M c₂
  carry_command N K (block b) = carry_block N K b
  carry_command N K (Call p x es) = carry_actuals N K es >>= λ vs. carry_call (carried_meaning x N) vs K
  carry_command N K (Cond p e c₁ c₂) = carry_expression N K e >>= λ v. carry_choosing v (carry_command N K c₁) (carry_command N K c₂)

  -- The block's own cells are gone when it is left.
  pub carry_block : CarriedNames → CarriedCells → Block → Carrying CarriedCells
  carry_block N K (Blk p d c) =
      carry_declaration N K d >>= λ D. carry_command (D.names_declared ++ N) D.cells_after c >>= λ M. carried (oldest_cells (length K) M)

  -- The second declaration of a DSeq sees the names of the first.
  pub carry_declaration : CarriedNames → CarriedCells → Declaration → Carrying CarriedDeclared
  carry_declaration N K (Bind p x b) =
      carry_bound N K b >>= λ B. carried (record { names_declared = record { name = x; meaning = B.bound_as } ∷ []; cells_after = B.cells_after })
  carry_declaration N K (DSeq p d₁ d₂) =
      carry_declaration N K d₁ >>= λ D.
      carry_declaration (D.names_declared ++ N) D.cells_after d₂ >>= λ F.
      carried (record { names_declared = F.names_declared ++ D.names_declared; cells_after = F.cells_after })

  pub carry_bound : CarriedNames → CarriedCells → Bound → Carrying CarriedBound
  carry_bound N K (plain e) = carry_expression N K e >>= λ v. carried (record { bound_as = a_value v; cells_after = K })
  -- The new location is the number of live cells.
  carry_bound N K (Ref p e) = carry_expression N K e >>= λ v. carried (record { bound_as = a_value (location (length K)); cells_after = v ∷ K })
  -- A call's environment is the closure's plus Formals; the cells are those at the call.
  carry_bound N K (Abs p fs b) =
      carried (record { bound_as = a_function (λ vs M. fitting (carry_formals fs vs N) >>= λ F. carry_block F M b); cells_after = K })

-- ---- The root, and the registers: names and cells 0 to r − 1.

-- A root that is an expression is carried too: it leaves the cells as they are.
unfoldable pub carry_root : CarriedNames → CarriedCells → Root → Carrying CarriedCells
carry_root N K (expression e) = carry_expression N K e >>= λ v. carried K
carry_root N K (command c) = carry_command N K c
carry_root N K absent = carried K

unfoldable pub register_names : ℕ → CarriedNames
register_names zero = []
register_names (suc r) = record { name = r; meaning = a_value (location r) } ∷ register_names r

unfoldable pub register_cells : ℕ → (lowest highest : List ℤ) → CarriedCells
register_cells zero ls hs = []
register_cells (suc r) ls hs = numbers (get_or ls r (pos 0)) (get_or hs r (pos 0)) ∷ register_cells r ls hs

unfoldable pub carry_routine : (registers : ℕ) → Root → (lowest highest : List ℤ) → Carrying CarriedCells
carry_routine r t ls hs = carry_root (register_names r) (register_cells r ls hs) t
