-- The lines of a tree, one a node, in preorder: what each says of its node.
use Rattle.std.specs.Prelude.{ℕ, suc, ◌+◌, ◌*◌, List, [], ◌∷◌, ◌++◌, length}
use Rattle.rules.specs.paper.Tree.{Expression, Num, Boo, Id, DeRef, ValRef, Binary, Not, Formal, Command, Assign, Loop, CSeq, block, Call, Cond, Block, Blk, Declaration, Bind, DSeq, Bound, plain, Ref, Abs, Root, expression, command, absent}
use Rattle.rules.specs.paper.Limits.{names}
use Rattle.rules.specs.declared.kinds.Kind.{Kind}
use Rattle.rules.specs.declared.kinds.ExpressionKind.TheVariants.{Num as num, Boo as boo, Id as id, DeRef as deref, ValRef as valref, Binary as binary, Not as negation}
use Rattle.rules.specs.declared.kinds.CommandKind.TheVariants.{Assign as assign, Loop as loop, CSeq as cseq, Blk as blk, Call as call, Cond as conditional}
use Rattle.rules.specs.declared.kinds.DeclarationKind.TheVariants.{Bind as bind, DSeq as dseq}
use Rattle.rules.specs.declared.kinds.Kind.TheVariants.{Expression as expression_kind, Command as command_kind, Declaration as declaration_kind, Ref as ref, Abs as abs, Formal as formal}
use Rattle.rules.specs.claims.Listing.{truth_word}

-- A node, its depth, its kind, its operand, and the first node after its descendants.
pub record Line : Type 0 where
  pub node : ℕ
  pub depth : ℕ
  pub kind : Kind
  pub operand : ℕ
  pub end : ℕ

abbrev pub line_of : (node depth : ℕ) → Kind → (operand end : ℕ) → Line
line_of i d k w e = record { node = i; depth = d; kind = k; operand = w; end = e }

-- A node at a place, and the lines of its descendants: the first node after them is as many places on as they are, and one more.
abbrev pub node_lines : (depth : ℕ) → Kind → (operand place : ℕ) → List Line → List Line
node_lines d k w p below = line_of p d k w (p + suc (length below)) ∷ below

unfoldable pub expression_lines : (depth : ℕ) → Expression → List Line
expression_lines d (Num p n) = node_lines d (expression_kind num) n p []
expression_lines d (Boo p b) = node_lines d (expression_kind boo) (truth_word b) p []
expression_lines d (Id p x) = node_lines d (expression_kind id) x p []
expression_lines d (DeRef p x) = node_lines d (expression_kind deref) x p []
expression_lines d (ValRef p x) = node_lines d (expression_kind valref) x p []
expression_lines d (Binary p o e₁ e₂) = node_lines d (expression_kind (binary o)) 0 p (expression_lines (suc d) e₁ ++ expression_lines (suc d) e₂)
expression_lines d (Not p e) = node_lines d (expression_kind negation) 0 p (expression_lines (suc d) e)

abbrev pub formal_lines : (depth : ℕ) → Formal → List Line
formal_lines d f = node_lines d formal (f.name + names * f.code) f.place []

-- One after the other.
unfoldable pub all_lines : {A : Type 0} → (A → List Line) → List A → List Line
all_lines lines [] = []
all_lines lines (a ∷ rest) = lines a ++ all_lines lines rest

unfoldable mutual
  pub command_lines : (depth : ℕ) → Command → List Line
  command_lines d (Assign p x e) = node_lines d (command_kind assign) x p (expression_lines (suc d) e)
  command_lines d (Loop p e c) = node_lines d (command_kind loop) 0 p (expression_lines (suc d) e ++ command_lines (suc d) c)
  command_lines d (CSeq p c₁ c₂) = node_lines d (command_kind cseq) 0 p (command_lines (suc d) c₁ ++ command_lines (suc d) c₂)
  command_lines d (block b) = block_lines d b
  command_lines d (Call p x es) = node_lines d (command_kind call) (x + names * length es) p (all_lines (expression_lines (suc d)) es)
  command_lines d (Cond p e c₁ c₂) = node_lines d (command_kind conditional) 0 p (expression_lines (suc d) e ++ (command_lines (suc d) c₁ ++ command_lines (suc d) c₂))

  pub block_lines : (depth : ℕ) → Block → List Line
  block_lines d (Blk p dec c) = node_lines d (command_kind blk) 0 p (declaration_lines (suc d) dec ++ command_lines (suc d) c)

  pub declaration_lines : (depth : ℕ) → Declaration → List Line
  declaration_lines d (Bind p x b) = node_lines d (declaration_kind bind) x p (bound_lines (suc d) b)
  declaration_lines d (DSeq p d₁ d₂) = node_lines d (declaration_kind dseq) 0 p (declaration_lines (suc d) d₁ ++ declaration_lines (suc d) d₂)

  pub bound_lines : (depth : ℕ) → Bound → List Line
  bound_lines d (plain e) = expression_lines d e
  bound_lines d (Ref p e) = node_lines d ref 0 p (expression_lines (suc d) e)
  bound_lines d (Abs p fs b) = node_lines d abs (length fs) p (all_lines (formal_lines (suc d)) fs ++ block_lines (suc d) b)

-- The root's depth is 1; with no node there is no line.
unfoldable pub root_lines : Root → List Line
root_lines (expression e) = expression_lines 1 e
root_lines (command c) = command_lines 1 c
root_lines absent = []
