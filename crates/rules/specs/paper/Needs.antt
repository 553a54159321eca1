-- The needs of a routine before it is loaded (document 02, request 4): each node's from its children's, a call's from its function.
-- A need is told from where its node comes to the top of control: how far each of the four sizes rises above what lies there already (of
-- control, above what lies under the node), and how many steps are made until the node is done. A node's need is that of its own step,
-- then of what this puts on control, one after the other, each over what lies under it then.
use Rattle.std.specs.Prelude.{ℕ, zero, suc, ◌+◌, max, Bool, true, false, cond, ◌||◌, List, [], ◌∷◌, ◌++◌, eqb, length}
use Rattle.rules.specs.paper.Tree.{Expression, Num, Boo, Id, DeRef, ValRef, Binary, Not, Formal, Command, Assign, Loop, CSeq, block, Call, Cond, Block, Blk, Declaration, Bind, DSeq, Bound, plain, Ref, Abs, Root, expression, command, absent}

-- The four sizes of a state.
pub data Figure : Type 0 where
  control values cells bindings : Figure

abbrev pub Sizes : Type 0
Sizes = Figure → ℕ

abbrev pub sizes : (control values cells bindings : ℕ) → Sizes
sizes k v c b control = k
sizes k v c b values = v
sizes k v c b cells = c
sizes k v c b bindings = b

pub record Need : Type 0 where
  pub most : Sizes
  pub steps : ℕ
  pub all_steps : ℕ  -- the steps with both commands of every Cond counted (document 02, request 10)

abbrev pub nothing : Need
nothing = record { most = sizes 0 0 0 0; steps = 0; all_steps = 0 }

-- One step. The sizes are those of the state before it or of the state after it, whichever are larger.
abbrev pub step : Sizes → Need
step s = record { most = s; steps = 1; all_steps = 1 }

-- A need over what lies under it.
abbrev pub over : Sizes → Need → Need
over s n = record { most = λ f. s f + n.most f; steps = n.steps; all_steps = n.all_steps }

-- One need after the other: the larger of each size, and all steps.
unfoldable pub in_turn : List Need → Need
in_turn [] = nothing
in_turn (n ∷ ns) =
    record {
      most = λ f. max (n.most f) ((in_turn ns).most f);
      steps = n.steps + (in_turn ns).steps;
      all_steps = n.all_steps + (in_turn ns).all_steps;
    }

-- One need or the other: the larger of each figure, and all steps of both.
abbrev pub either : Need → Need → Need
either n m =
    record {
      most = λ f. max (n.most f) (m.most f);
      steps = max n.steps m.steps;
      all_steps = n.all_steps + m.all_steps;
    }

-- ---- Expressions.

-- A node's own step finds the node on control.
abbrev pub node_step : Need
node_step = step (sizes 1 0 0 0)

-- A node without children pushes a value.
abbrev pub push_step : Need
push_step = step (sizes 1 1 0 0)

unfoldable pub expression_need : Expression → Need
expression_need (Num p n) = push_step
expression_need (Boo p b) = push_step
expression_need (Id p x) = push_step
expression_need (DeRef p x) = push_step
expression_need (ValRef p x) = push_step
-- E1 runs over E2 and the mark, E2 over the mark with E1's value on V; the mark finds both values.
expression_need (Binary p o e₁ e₂) =
    in_turn (node_step ∷ over (sizes 2 0 0 0) (expression_need e₁) ∷ over (sizes 1 1 0 0) (expression_need e₂) ∷ step (sizes 1 2 0 0) ∷ [])
expression_need (Not p e) = in_turn (node_step ∷ over (sizes 1 0 0 0) (expression_need e) ∷ step (sizes 1 1 0 0) ∷ [])

-- A call's actuals run last to first, each with the later ones' values on V and the earlier ones on control.
unfoldable pub actuals_need : List Expression → Need
actuals_need [] = nothing
actuals_need (e ∷ es) = in_turn (over (sizes 1 0 0 0) (actuals_need es) ∷ over (sizes 0 (length es) 0 0) (expression_need e) ∷ [])

-- ---- Names: a function's need is that of its Blk; any other name has none.

pub record NameNeed : Type 0 where
  pub name : ℕ
  pub need : Need

-- The names in scope, newest first.
abbrev pub Needs : Type 0
Needs = List NameNeed

unfoldable pub need_of : ℕ → Needs → Need
need_of x [] = nothing
need_of x (n ∷ N) = let outer = need_of x N in cond (eqb n.name x) n.need outer

-- The names with the Formals added, the last one newest.
unfoldable pub over_formals : List Formal → Needs → Needs
over_formals [] N = N
over_formals (f ∷ fs) N = over_formals fs (record { name = f.name; need = nothing } ∷ N)

unfoldable pub register_needs : ℕ → Needs
register_needs zero = []
register_needs (suc r) = record { name = r; need = nothing } ∷ register_needs r

-- ---- What a declaration leaves until its block is left: its cells and its bindings.

abbrev pub cells_of_bound : Bound → ℕ
cells_of_bound (plain e) = 0
cells_of_bound (Ref p e) = 1
cells_of_bound (Abs p fs b) = 0

unfoldable pub cells_left : Declaration → ℕ
cells_left (Bind p x b) = cells_of_bound b
cells_left (DSeq p d₁ d₂) = cells_left d₂ + cells_left d₁

unfoldable pub bindings_left : Declaration → ℕ
bindings_left (Bind p x b) = 1
bindings_left (DSeq p d₁ d₂) = bindings_left d₂ + bindings_left d₁

-- ---- Commands and declarations.

-- What a Bind binds. A function that is not called needs its Bind alone.
unfoldable pub bound_need : Bound → Need
bound_need (plain e) = expression_need e
bound_need (Ref p e) = in_turn (node_step ∷ over (sizes 1 0 0 0) (expression_need e) ∷ step (sizes 1 1 1 0) ∷ [])
bound_need (Abs p fs b) = push_step

-- A call's mark, with its actuals on V, and the function from there: the saved environment and location set are on V and the Formals
-- bound until the mark behind the Blk has made its step.
unfoldable pub function_need : (count : ℕ) → Need → Need
function_need k n = in_turn (step (sizes 1 k 0 0) ∷ over (sizes 1 2 0 k) n ∷ step (sizes 1 2 0 k) ∷ [])

-- The mark of a Loop or Cond, with the test's truth and the node on V, and what it puts on control.
unfoldable pub tested_need : Need → Need
tested_need n = in_turn (step (sizes 1 2 0 0) ∷ n ∷ [])

unfoldable mutual
  pub command_need : Needs → Command → Need
  -- The name lies on V under the value.
  command_need N (Assign p x e) = in_turn (node_step ∷ over (sizes 1 1 0 0) (expression_need e) ∷ step (sizes 1 2 0 0) ∷ [])
  -- The test runs with the Loop on V; then the command over the Loop, which runs again and needs no more room. The steps are those of one
  -- turn: they are no figure.
  command_need N (Loop p e c) =
      in_turn (node_step ∷ over (sizes 1 1 0 0) (expression_need e) ∷ tested_need (over (sizes 1 0 0 0) (command_need N c)) ∷ [])
  command_need N (CSeq p c₁ c₂) = in_turn (node_step ∷ over (sizes 1 0 0 0) (command_need N c₁) ∷ command_need N c₂ ∷ [])
  command_need N (block b) = block_need N b
  command_need N (Call p x es) =
      in_turn (node_step ∷ over (sizes 1 0 0 0) (actuals_need es) ∷ function_need (length es) (need_of x N) ∷ [])
  -- The test runs with the Cond on V; then the larger of the commands.
  command_need N (Cond p e c₁ c₂) =
      in_turn (node_step ∷ over (sizes 1 1 0 0) (expression_need e) ∷ tested_need (either (command_need N c₁) (command_need N c₂)) ∷ [])

  -- The declaration runs over the mark, the command and the second mark, with the old location set on V; the first mark finds its
  -- environment there too. The command runs over the second mark and the saved environment, and over the cells and bindings that the
  -- declaration left.
  pub block_need : Needs → Block → Need
  block_need N (Blk p d c) =
      in_turn (
      node_step ∷
      over (sizes 3 1 0 0) (declaration_need N d) ∷
      step (sizes 3 2 (cells_left d) (bindings_left d)) ∷
      over (sizes 1 2 (cells_left d) (bindings_left d)) (command_need (names_given N d ++ N) c) ∷
      step (sizes 1 2 (cells_left d) (bindings_left d)) ∷
      []
      )

  pub declaration_need : Needs → Declaration → Need
  -- The name lies on V under the value; after the mark's step the name is bound.
  declaration_need N (Bind p x b) = in_turn (node_step ∷ over (sizes 1 1 0 0) (bound_need b) ∷ step (sizes 1 2 (cells_of_bound b) 1) ∷ [])
  -- The first declaration runs over the mark, the second declaration and the second mark. After the first mark's step its environment and
  -- the saved one lie on V, under the second declaration, with the cells and bindings that the first left.
  declaration_need N (DSeq p d₁ d₂) =
      in_turn (
      node_step ∷
      over (sizes 3 0 0 0) (declaration_need N d₁) ∷
      step (sizes 3 2 (cells_left d₁) (bindings_left d₁)) ∷
      over (sizes 1 2 (cells_left d₁) (bindings_left d₁)) (declaration_need (names_given N d₁ ++ N) d₂) ∷
      step (sizes 1 3 (cells_left d₂ + cells_left d₁) (bindings_left d₂ + bindings_left d₁)) ∷
      []
      )

  -- The names that a declaration gives, a function's with the need of its Blk.
  pub names_given : Needs → Declaration → Needs
  names_given N (Bind p x b) = record { name = x; need = bound_function N b } ∷ []
  names_given N (DSeq p d₁ d₂) = names_given (names_given N d₁ ++ N) d₂ ++ names_given N d₁

  pub bound_function : Needs → Bound → Need
  bound_function N (plain e) = nothing
  bound_function N (Ref p e) = nothing
  bound_function N (Abs p fs b) = block_need (over_formals fs N) b

unfoldable pub root_need : Needs → Root → Need
root_need N (expression e) = expression_need e
root_need N (command c) = command_need N c
root_need N absent = nothing

-- Registers count as cells and as bindings.
unfoldable pub routine_need : (registers : ℕ) → Root → Need
routine_need r t = over (sizes 0 0 r r) (root_need (register_needs r) t)

-- ---- The commands of a tree, those of its functions too, called or not.

abbrev pub is_loop : Command → Bool
is_loop (Assign p x e) = false
is_loop (Loop p e c) = true
is_loop (CSeq p c₁ c₂) = false
is_loop (block b) = false
is_loop (Call p x es) = false
is_loop (Cond p e c₁ c₂) = false

abbrev pub is_conditional : Command → Bool
is_conditional (Assign p x e) = false
is_conditional (Loop p e c) = false
is_conditional (CSeq p c₁ c₂) = false
is_conditional (block b) = false
is_conditional (Call p x es) = false
is_conditional (Cond p e c₁ c₂) = true

-- Some command meets this test.
unfoldable mutual
  pub some_command : (Command → Bool) → Command → Bool
  some_command t (Assign p x e) = t (Assign p x e)
  some_command t (Loop p e c) = t (Loop p e c) || some_command t c
  some_command t (CSeq p c₁ c₂) = t (CSeq p c₁ c₂) || some_command t c₁ || some_command t c₂
  some_command t (block b) = some_in_block t b
  some_command t (Call p x es) = t (Call p x es)
  some_command t (Cond p e c₁ c₂) = t (Cond p e c₁ c₂) || some_command t c₁ || some_command t c₂

  pub some_in_block : (Command → Bool) → Block → Bool
  some_in_block t (Blk p d c) = t (block (Blk p d c)) || some_in_declaration t d || some_command t c

  pub some_in_declaration : (Command → Bool) → Declaration → Bool
  some_in_declaration t (Bind p x b) = some_in_bound t b
  some_in_declaration t (DSeq p d₁ d₂) = some_in_declaration t d₁ || some_in_declaration t d₂

  pub some_in_bound : (Command → Bool) → Bound → Bool
  some_in_bound t (plain e) = false
  some_in_bound t (Ref p e) = false
  some_in_bound t (Abs p fs b) = some_in_block t b

unfoldable pub some_in_root : (Command → Bool) → Root → Bool
some_in_root t (expression e) = false
some_in_root t (command c) = some_command t c
some_in_root t absent = false

-- A Loop anywhere in the tree.
unfoldable pub has_loop : Root → Bool
has_loop = some_in_root is_loop

unfoldable pub has_conditional : Root → Bool
has_conditional = some_in_root is_conditional
