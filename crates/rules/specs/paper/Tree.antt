-- The Π IR tree (paper, "The image"): labelled abstract syntax. Each node carries its place, its number in preorder.
-- A block is a sort of its own, since a function holds a block and no other command.
use Rattle.std.specs.Prelude.{ℕ, Bool, List}
-- Kinds 4 to 14, grouped by what they take and give ("Scope and types"): the code's own types, of src/kinds.rt.
pub use Rattle.rules.specs.declared.kinds.Arithmetic.{Arithmetic}
pub use Rattle.rules.specs.declared.kinds.Arithmetic.TheVariants.{Sum, Sub, Mul, Div}
pub use Rattle.rules.specs.declared.kinds.Order.{Order}
pub use Rattle.rules.specs.declared.kinds.Order.TheVariants.{Lt, Le, Gt, Ge}
pub use Rattle.rules.specs.declared.kinds.Logic.{Logic}
pub use Rattle.rules.specs.declared.kinds.Logic.TheVariants.{And, Or}
pub use Rattle.rules.specs.declared.kinds.Operator.{Operator}
pub use Rattle.rules.specs.declared.kinds.Operator.TheVariants.{Arithmetic as arithmetic, Eq, Order as order, Logic as logic}

-- Kinds 1 to 17.
pub data Expression : Type 0 where
  Num : (place number : ℕ) → Expression
  Boo : (place : ℕ) → Bool → Expression
  Id : (place name : ℕ) → Expression
  DeRef : (place name : ℕ) → Expression
  ValRef : (place name : ℕ) → Expression
  Binary : (place : ℕ) → Operator → Expression → Expression → Expression
  Not : (place : ℕ) → Expression → Expression

-- Kind 42: a parameter of a function, with the type code that its actual has.
pub record Formal : Type 0 where
  pub place : ℕ
  pub name : ℕ
  pub code : ℕ

mutual
  -- Kinds 20 to 25.
  pub data Command : Type 0 where
    Assign : (place name : ℕ) → Expression → Command
    Loop : (place : ℕ) → Expression → Command → Command
    CSeq : (place : ℕ) → Command → Command → Command
    block : Block → Command
    Call : (place name : ℕ) → List Expression → Command
    Cond : (place : ℕ) → Expression → (first second : Command) → Command

  -- Kind 23.
  pub data Block : Type 0 where
    Blk : (place : ℕ) → Declaration → Command → Block

  -- Kinds 30 and 31.
  pub data Declaration : Type 0 where
    Bind : (place name : ℕ) → Bound → Declaration
    DSeq : (place : ℕ) → Declaration → Declaration → Declaration

  -- What a Bind binds its name to: an expression, a Ref (kind 40) or an Abs (kind 41).
  pub data Bound : Type 0 where
    plain : Expression → Bound
    Ref : (place : ℕ) → Expression → Bound
    Abs : (place : ℕ) → List Formal → Block → Bound

-- The root is an expression or a command; a slot with no routine has none.
pub data Root : Type 0 where
  expression : Expression → Root
  command : Command → Root
  absent : Root
