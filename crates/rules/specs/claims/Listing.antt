-- The preorder listing of a tree: the words of its nodes, as the table of kinds has them.
use Rattle.std.specs.Prelude.{ℕ, zero, suc, ◌+◌, ◌*◌, Bool, true, false, List, [], ◌∷◌, ◌++◌, length}
use Rattle.rules.specs.paper.Tree.{Expression, Num, Boo, Id, DeRef, ValRef, Binary, Not, Formal, Command, Assign, Loop, CSeq, block, Call, Cond, Block, Blk, Declaration, Bind, DSeq, Bound, plain, Ref, Abs, Root, expression, command, absent}
use Rattle.rules.specs.paper.Limits.{names}
use Rattle.rules.specs.paper.Kinds.{Kind, num, boo, id, deref, valref, binary, negation, assign, loop, cseq, blk, call, conditional, bind, dseq, expression_kind, command_kind, declaration_kind, ref, abs, formal, kind_number}
use Rattle.rules.specs.paper.Reader.{Node}

abbrev pub a_node : (kind operand : ℕ) → Node
a_node k w = record { kind = k; operand = w }

-- The node of a kind, by its number in the table of kinds.
abbrev pub node_of : Kind → (operand : ℕ) → Node
node_of k w = a_node (kind_number k) w

abbrev pub truth_word : Bool → ℕ
truth_word false = 0
truth_word true = 1

unfoldable pub expression_nodes : Expression → List Node
expression_nodes (Num p n) = node_of (expression_kind num) n ∷ []
expression_nodes (Boo p b) = node_of (expression_kind boo) (truth_word b) ∷ []
expression_nodes (Id p x) = node_of (expression_kind id) x ∷ []
expression_nodes (DeRef p x) = node_of (expression_kind deref) x ∷ []
expression_nodes (ValRef p x) = node_of (expression_kind valref) x ∷ []
expression_nodes (Binary p o e₁ e₂) = node_of (expression_kind (binary o)) 0 ∷ expression_nodes e₁ ++ expression_nodes e₂
expression_nodes (Not p e) = node_of (expression_kind negation) 0 ∷ expression_nodes e

abbrev pub formal_nodes : Formal → List Node
formal_nodes f = node_of formal (f.name + names * f.code) ∷ []

-- One after the other.
unfoldable pub all_nodes : {A : Type 0} → (A → List Node) → List A → List Node
all_nodes nodes [] = []
all_nodes nodes (a ∷ rest) = nodes a ++ all_nodes nodes rest

unfoldable mutual
  pub command_nodes : Command → List Node
  command_nodes (Assign p x e) = node_of (command_kind assign) x ∷ expression_nodes e
  command_nodes (Loop p e c) = node_of (command_kind loop) 0 ∷ expression_nodes e ++ command_nodes c
  command_nodes (CSeq p c₁ c₂) = node_of (command_kind cseq) 0 ∷ command_nodes c₁ ++ command_nodes c₂
  command_nodes (block b) = block_nodes b
  command_nodes (Call p x es) = node_of (command_kind call) (x + names * length es) ∷ all_nodes expression_nodes es
  command_nodes (Cond p e c₁ c₂) = node_of (command_kind conditional) 0 ∷ expression_nodes e ++ (command_nodes c₁ ++ command_nodes c₂)

  pub block_nodes : Block → List Node
  block_nodes (Blk p d c) = node_of (command_kind blk) 0 ∷ declaration_nodes d ++ command_nodes c

  pub declaration_nodes : Declaration → List Node
  declaration_nodes (Bind p x b) = node_of (declaration_kind bind) x ∷ bound_nodes b
  declaration_nodes (DSeq p d₁ d₂) = node_of (declaration_kind dseq) 0 ∷ declaration_nodes d₁ ++ declaration_nodes d₂

  pub bound_nodes : Bound → List Node
  bound_nodes (plain e) = expression_nodes e
  bound_nodes (Ref p e) = node_of ref 0 ∷ expression_nodes e
  bound_nodes (Abs p fs b) = node_of abs (length fs) ∷ all_nodes formal_nodes fs ++ block_nodes b

unfoldable pub root_nodes : Root → List Node
root_nodes (expression e) = expression_nodes e
root_nodes (command c) = command_nodes c
root_nodes absent = []

-- The two parallel arrays: kinds, then operands.
unfoldable pub kind_words : List Node → List ℕ
kind_words [] = []
kind_words (n ∷ ns) = n.kind ∷ kind_words ns

unfoldable pub operand_words : List Node → List ℕ
operand_words [] = []
operand_words (n ∷ ns) = n.operand ∷ operand_words ns

-- The image of a tree with r registers: n, r, kinds, operands.
unfoldable pub image_words : (registers : ℕ) → Root → List ℕ
image_words r t = length (root_nodes t) ∷ r ∷ kind_words (root_nodes t) ++ operand_words (root_nodes t)
