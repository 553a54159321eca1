-- The automaton's state (paper, "The automaton"): control stack, value stack V, environment E, store S, location set L.
-- The count of live bindings ("Limits") is a sixth part: it counts bindings made and not yet left, hidden ones too, which
-- the environment does not show. `V` is a word of the notation, so a value stack is called X here.
use Rattle.std.specs.Prelude.{ℕ, zero, suc, Bool, true, false, cond, ◌||◌, List, [], ◌∷◌, eqb, ℤ}
use Rattle.std.proofs.Math.Option.{Option, none, some}
use Rattle.rules.specs.paper.Tree.{Operator, Expression, Formal, Command, Block, Declaration, Bound, plain, Ref, Abs}

-- A location is not an integer and takes no arithmetic.
pub data Value : Type 0 where
  integer : ℤ → Value
  truth : Bool → Value
  location : ℕ → Value

mutual
  -- What a name is bound to: a value, or the closure of Formals, Blk and environment.
  pub data Bindable : Type 0 where
    value : Value → Bindable
    closure : List Formal → Block → Environment → Bindable

  -- Newest first: inner names hide outer ones.
  pub data Environment : Type 0 where
    empty : Environment
    bound : (name : ℕ) → Bindable → Environment → Environment

unfoldable pub lookup : ℕ → Environment → Option Bindable
lookup x empty = none
lookup x (bound y b E) = let outer = lookup x E in cond (eqb y x) (some b) outer

-- The second environment with the names of the first added.
unfoldable pub join : Environment → Environment → Environment
join empty E = E
join (bound x b D) E = bound x b (join D E)

pub record Cell : Type 0 where
  pub where_at : ℕ
  pub contents : Value

-- The live cells, newest first.
abbrev pub Store : Type 0
Store = List Cell

unfoldable pub find : ℕ → Store → Option Value
find l [] = none
find l (c ∷ S) = let older = find l S in cond (eqb c.where_at l) (some c.contents) older

-- S/[l ↦ v]: the store that equals S but at l (002, before rule 17).
unfoldable pub store_at : ℕ → Value → Store → Store
store_at l v [] = []
store_at l v (c ∷ S) =
    let older = store_at l v S in
    cond (eqb c.where_at l) (record { where_at = l; contents = v } ∷ S) (c ∷ older)

unfoldable pub in_set : ℕ → List ℕ → Bool
in_set l [] = false
in_set l (k ∷ L) = eqb k l || in_set l L

-- S/L: the store without the locations of L (002, before rule 24).
unfoldable pub remove : List ℕ → Store → Store
remove L [] = []
remove L (c ∷ S) = cond (in_set c.where_at L) (remove L S) (c ∷ remove L S)

-- An entry of the value stack.
pub data Entry : Type 0 where
  bindable : Bindable → Entry  -- a value or a closure
  name : ℕ → Entry
  node : Command → Entry  -- a Loop or a Cond
  environment : Environment → Entry
  locations : List ℕ → Entry  -- a location set

abbrev pub val : Value → Entry
val v = bindable (value v)

-- The marks: what stands on control after the children of its node.
pub data Mark : Type 0 where
  operator_mark : Operator → Mark
  not_mark assign_mark loop_mark conditional_mark ref_mark bind_mark : Mark
  dseq_extend_mark dseq_join_mark : Mark  -- a DSeq's two, after its first declaration and after its second
  extend_mark : Mark  -- a block's, after its declaration
  leave_mark : (place bindings : ℕ) → Mark  -- where the Blk or Call at this place is left, with the live bindings to go back to
  call_mark : (place name count : ℕ) → Mark

-- An entry of the control stack: a node or a mark.
pub data Item : Type 0 where
  expression : Expression → Item
  command : Command → Item
  declaration : Declaration → Item
  reference : (place : ℕ) → Expression → Item  -- Ref
  abstraction : (place : ℕ) → List Formal → Block → Item  -- Abs
  mark : Mark → Item

-- What a Bind puts on control for what it binds.
abbrev pub bound_item : Bound → Item
bound_item (plain e) = expression e
bound_item (Ref p e) = reference p e
bound_item (Abs p fs b) = abstraction p fs b

pub data State : Type 0 where
  state : (control : List Item) → (values : List Entry) → Environment → Store → (locations : List ℕ) → (bindings : ℕ) → State

abbrev pub control_of : State → List Item
control_of (state C X E S L n) = C

abbrev pub values_of : State → List Entry
values_of (state C X E S L n) = X

abbrev pub environment_of : State → Environment
environment_of (state C X E S L n) = E

abbrev pub store_of : State → Store
store_of (state C X E S L n) = S

abbrev pub locations_of : State → List ℕ
locations_of (state C X E S L n) = L

abbrev pub bindings_of : State → ℕ
bindings_of (state C X E S L n) = n

-- The live cells: those in S.
unfoldable pub live_cells : Store → List ℕ
live_cells [] = []
live_cells (c ∷ S) = c.where_at ∷ live_cells S
