-- The table of kinds (paper, "The image"): one row a kind, with its number, what its operand may be, and the sort of each child. Whatever
-- else is said of kinds is computed from it, or checked against it: the reader's cases in the reader's ScanExact.antt.
use Rattle.std.specs.Prelude.{ℕ, ◌*◌, ◌/◌, suc, Bool, true, false, cond, List, [], ◌∷◌, ◌++◌, eqb, ltb, replicate}
use Rattle.std.proofs.Math.Option.{Option, none, some}
use Rattle.rules.specs.paper.Tree.{Operator, arithmetic, Eq, order, logic, Sum, Sub, Mul, Div, Lt, Le, Gt, Ge, And, Or}
use Rattle.rules.specs.paper.Limits.{words, names, codes, most_parameters}
-- A kind with its sort: kinds 1 to 17 are expressions, 20 to 25 commands, 30 and 31 declarations. The types are the code's own, of src/kinds.rt.
pub use Rattle.rules.specs.declared.kinds.ExpressionKind.{ExpressionKind}
pub use Rattle.rules.specs.declared.kinds.ExpressionKind.TheVariants.{Num as num, Boo as boo, Id as id, DeRef as deref, ValRef as valref, Binary as binary, Not as negation}
pub use Rattle.rules.specs.declared.kinds.CommandKind.{CommandKind}
pub use Rattle.rules.specs.declared.kinds.CommandKind.TheVariants.{Assign as assign, Loop as loop, CSeq as cseq, Blk as blk, Call as call, Cond as conditional}
pub use Rattle.rules.specs.declared.kinds.DeclarationKind.{DeclarationKind}
pub use Rattle.rules.specs.declared.kinds.DeclarationKind.TheVariants.{Bind as bind, DSeq as dseq}
pub use Rattle.rules.specs.declared.kinds.Kind.{Kind}
pub use Rattle.rules.specs.declared.kinds.Kind.TheVariants.{Expression as expression_kind, Command as command_kind, Declaration as declaration_kind, Ref as ref, Abs as abs, Formal as formal}
-- What a child, or the root, may be: an expression, a command, a declaration; what a Bind binds, which is an expression, Ref or Abs; a
-- Formal; a Blk and no other command; and the root, which is an expression or a command.
pub use Rattle.rules.specs.declared.kinds.Sort.{Sort}
pub use Rattle.rules.specs.declared.kinds.Sort.TheVariants.{Expression as an_expression, Command as a_command, Declaration as a_declaration, Bound as a_bound, Formal as a_formal, Block as a_Block, Root as a_root}

-- The children of a kind: one of each of these sorts; or first some of one sort, as many as the operand counts.
pub data Children : Type 0 where
  these : List Sort → Children
  counted : (count : ℕ → ℕ) → Sort → List Sort → Children

pub record Row : Type 0 where
  pub number : ℕ
  pub operands : ℕ  -- the operands are the numbers below this one
  pub children : Children

abbrev pub row : (number operands : ℕ) → Children → Row
row n w c = record { number = n; operands = w; children = c }

-- A name, and a count or a code, in one operand: name + 64 × the other.
abbrev pub upper_part : ℕ → ℕ
upper_part w = w / names

abbrev pub operator_number : Operator → ℕ
operator_number (arithmetic Sum) = 4
operator_number (arithmetic Sub) = 5
operator_number (arithmetic Mul) = 6
operator_number (arithmetic Div) = 7
operator_number Eq = 8
operator_number (order Lt) = 9
operator_number (order Le) = 10
operator_number (order Gt) = 11
operator_number (order Ge) = 12
operator_number (logic And) = 13
operator_number (logic Or) = 14

-- The operand is the number (any word of 32 bits), 0 or 1, a name, 0, name + 64 × count, count, or name + 64 × type code.
abbrev pub row_of : Kind → Row
row_of (expression_kind num) = row 1 words (these [])
row_of (expression_kind boo) = row 2 2 (these [])
row_of (expression_kind id) = row 3 names (these [])
row_of (expression_kind (binary o)) = row (operator_number o) 1 (these (an_expression ∷ an_expression ∷ []))
row_of (expression_kind negation) = row 15 1 (these (an_expression ∷ []))
row_of (expression_kind deref) = row 16 names (these [])
row_of (expression_kind valref) = row 17 names (these [])
row_of (command_kind assign) = row 20 names (these (an_expression ∷ []))
row_of (command_kind loop) = row 21 1 (these (an_expression ∷ a_command ∷ []))
row_of (command_kind cseq) = row 22 1 (these (a_command ∷ a_command ∷ []))
row_of (command_kind blk) = row 23 1 (these (a_declaration ∷ a_command ∷ []))
row_of (command_kind call) = row 24 (names * suc most_parameters) (counted upper_part an_expression [])
row_of (command_kind conditional) = row 25 1 (these (an_expression ∷ a_command ∷ a_command ∷ []))
row_of (declaration_kind bind) = row 30 names (these (a_bound ∷ []))
row_of (declaration_kind dseq) = row 31 1 (these (a_declaration ∷ a_declaration ∷ []))
row_of ref = row 40 1 (these (an_expression ∷ []))
row_of abs = row 41 (suc most_parameters) (counted (λ w. w) a_formal (a_Block ∷ []))
row_of formal = row 42 (names * codes) (these [])

abbrev pub kind_number : Kind → ℕ
kind_number k = (row_of k).number

unfoldable pub operand_bound : Kind → ℕ
operand_bound k = (row_of k).operands

unfoldable pub operand_fits : Kind → ℕ → Bool
unfolding operand_bound
operand_fits k w = ltb w (operand_bound k)

abbrev pub sorts_of : Children → (operand : ℕ) → List Sort
sorts_of (these sorts) w = sorts
sorts_of (counted count first sorts) w = replicate (count w) first ++ sorts

-- The sort of each child of a node of this kind with this operand.
abbrev pub child_sorts : Kind → (operand : ℕ) → List Sort
child_sorts k w = sorts_of (row_of k).children w

-- The kinds of a sort.
abbrev pub is_of : Sort → Kind → Bool
is_of an_expression (expression_kind k) = true
is_of an_expression (command_kind k) = false
is_of an_expression (declaration_kind k) = false
is_of an_expression ref = false
is_of an_expression abs = false
is_of an_expression formal = false
is_of a_command (expression_kind k) = false
is_of a_command (command_kind k) = true
is_of a_command (declaration_kind k) = false
is_of a_command ref = false
is_of a_command abs = false
is_of a_command formal = false
is_of a_declaration (expression_kind k) = false
is_of a_declaration (command_kind k) = false
is_of a_declaration (declaration_kind k) = true
is_of a_declaration ref = false
is_of a_declaration abs = false
is_of a_declaration formal = false
is_of a_bound (expression_kind k) = true
is_of a_bound (command_kind k) = false
is_of a_bound (declaration_kind k) = false
is_of a_bound ref = true
is_of a_bound abs = true
is_of a_bound formal = false
is_of a_formal (expression_kind k) = false
is_of a_formal (command_kind k) = false
is_of a_formal (declaration_kind k) = false
is_of a_formal ref = false
is_of a_formal abs = false
is_of a_formal formal = true
is_of a_Block (expression_kind k) = false
is_of a_Block (command_kind assign) = false
is_of a_Block (command_kind loop) = false
is_of a_Block (command_kind cseq) = false
is_of a_Block (command_kind blk) = true
is_of a_Block (command_kind call) = false
is_of a_Block (command_kind conditional) = false
is_of a_Block (declaration_kind k) = false
is_of a_Block ref = false
is_of a_Block abs = false
is_of a_Block formal = false
is_of a_root (expression_kind k) = true
is_of a_root (command_kind k) = true
is_of a_root (declaration_kind k) = false
is_of a_root ref = false
is_of a_root abs = false
is_of a_root formal = false

-- Every kind: `kind_known` (ReaderComplete.antt) shows that none is missing.
unfoldable pub every_kind : List Kind
every_kind =
    expression_kind num ∷ expression_kind boo ∷ expression_kind id ∷
    expression_kind (binary (arithmetic Sum)) ∷ expression_kind (binary (arithmetic Sub)) ∷
    expression_kind (binary (arithmetic Mul)) ∷ expression_kind (binary (arithmetic Div)) ∷ expression_kind (binary Eq) ∷
    expression_kind (binary (order Lt)) ∷ expression_kind (binary (order Le)) ∷
    expression_kind (binary (order Gt)) ∷ expression_kind (binary (order Ge)) ∷
    expression_kind (binary (logic And)) ∷ expression_kind (binary (logic Or)) ∷
    expression_kind negation ∷ expression_kind deref ∷ expression_kind valref ∷
    command_kind assign ∷ command_kind loop ∷ command_kind cseq ∷ command_kind blk ∷ command_kind call ∷ command_kind conditional ∷
    declaration_kind bind ∷ declaration_kind dseq ∷
    ref ∷ abs ∷ formal ∷
    []

unfoldable pub kind_in : List Kind → ℕ → Option Kind
kind_in [] n = none
kind_in (k ∷ ks) n = let later = kind_in ks n in cond (eqb (kind_number k) n) (some k) later

-- The kind with this number, if there is one.
unfoldable pub kind_of : ℕ → Option Kind
unfolding kind_in every_kind
kind_of n = kind_in every_kind n
