-- What the reader keeps of an image: a work word a node, which holds its kind, the first node after its descendants (its end), and its
-- operand.
use Rattle.std.specs.Prelude.{ℕ, suc, ◌+◌, ◌*◌, ◌/◌, ◌%◌, ◌^◌, List, [], ◌∷◌, ◌++◌, length}
use Rattle.rules.specs.paper.Kinds.{operator_number}
use Rattle.rules.specs.paper.Tree.{Expression, Num, Boo, Id, DeRef, ValRef, Binary, Not, Formal, Command, Assign, Loop, CSeq, block, Call, Cond, Block, Blk, Declaration, Bind, DSeq, Bound, plain, Ref, Abs, Root, expression, command, absent}
use Rattle.rules.specs.paper.Limits.{names}
use Rattle.rules.specs.claims.Listing.{truth_word}
use Rattle.reader.specs.KindNumbers.{num_number, boo_number, id_number, not_number, deref_number, valref_number, assign_number, loop_number, cseq_number, blk_number, call_number, conditional_number, bind_number, dseq_number, ref_number, abs_number, formal_number}

-- The kinds' numbers are below this one.
abbrev pub kinds_room : ℕ
kinds_room = 64

-- The fields of a node's word, each where a load of its width finds it: the kind in bits 0 to 15, the end in bits 16 to 31, the operand
-- in bits 32 to 63. What one unit of the end counts, how many numbers an end's field holds, and what one unit of the operand counts.
abbrev pub kind_bits : ℕ
kind_bits = 16

abbrev pub end_bits : ℕ
end_bits = 16

abbrev pub end_unit : ℕ
end_unit = 2 ^ kind_bits

abbrev pub ends_room : ℕ
ends_room = 2 ^ end_bits

abbrev pub operand_unit : ℕ
operand_unit = end_unit * ends_room

abbrev pub pack : (kind operand end : ℕ) → ℕ
pack k w e = k + end_unit * e + operand_unit * w

abbrev pub packed_kind : ℕ → ℕ
packed_kind x = x % end_unit

abbrev pub packed_end : ℕ → ℕ
packed_end x = x / end_unit % ends_room

abbrev pub packed_operand : ℕ → ℕ
packed_operand x = x / operand_unit

-- A node at a place and the words of its descendants: its end is the place after them.
abbrev pub node_words : (kind operand place : ℕ) → List ℕ → List ℕ
node_words k w p below = pack k w (p + suc (length below)) ∷ below

-- The words of a tree, in preorder.
unfoldable pub expression_words : Expression → List ℕ
expression_words (Num p n) = node_words num_number n p []
expression_words (Boo p b) = node_words boo_number (truth_word b) p []
expression_words (Id p x) = node_words id_number x p []
expression_words (DeRef p x) = node_words deref_number x p []
expression_words (ValRef p x) = node_words valref_number x p []
expression_words (Binary p o e₁ e₂) = node_words (operator_number o) 0 p (expression_words e₁ ++ expression_words e₂)
expression_words (Not p e) = node_words not_number 0 p (expression_words e)

abbrev pub formal_words : Formal → List ℕ
formal_words f = node_words formal_number (f.name + names * f.code) f.place []

-- One after the other.
unfoldable pub all_words : {A : Type 0} → (A → List ℕ) → List A → List ℕ
all_words words [] = []
all_words words (a ∷ rest) = words a ++ all_words words rest

unfoldable mutual
  pub command_words : Command → List ℕ
  command_words (Assign p x e) = node_words assign_number x p (expression_words e)
  command_words (Loop p e c) = node_words loop_number 0 p (expression_words e ++ command_words c)
  command_words (CSeq p c₁ c₂) = node_words cseq_number 0 p (command_words c₁ ++ command_words c₂)
  command_words (block b) = block_words b
  command_words (Call p x es) = node_words call_number (x + names * length es) p (all_words expression_words es)
  command_words (Cond p e c₁ c₂) = node_words conditional_number 0 p (expression_words e ++ (command_words c₁ ++ command_words c₂))

  pub block_words : Block → List ℕ
  block_words (Blk p d c) = node_words blk_number 0 p (declaration_words d ++ command_words c)

  pub declaration_words : Declaration → List ℕ
  declaration_words (Bind p x b) = node_words bind_number x p (bound_words b)
  declaration_words (DSeq p d₁ d₂) = node_words dseq_number 0 p (declaration_words d₁ ++ declaration_words d₂)

  pub bound_words : Bound → List ℕ
  bound_words (plain e) = expression_words e
  bound_words (Ref p e) = node_words ref_number 0 p (expression_words e)
  bound_words (Abs p fs b) = node_words abs_number (length fs) p (all_words formal_words fs ++ block_words b)

unfoldable pub root_words : Root → List ℕ
root_words (expression e) = expression_words e
root_words (command c) = command_words c
root_words absent = []
