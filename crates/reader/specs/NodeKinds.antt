-- Which kind of node each tree's root is, and that a work word is a node's.
use Rattle.std.specs.Prelude.{ℕ, ◌≡◌}
use Rattle.rules.specs.paper.Kinds.{kind_number}
use Rattle.rules.specs.declared.kinds.Kind.{Kind}
use Rattle.rules.specs.declared.kinds.ExpressionKind.{ExpressionKind}
use Rattle.rules.specs.declared.kinds.CommandKind.{CommandKind}
use Rattle.rules.specs.declared.kinds.DeclarationKind.{DeclarationKind}
use Rattle.rules.specs.declared.kinds.ExpressionKind.TheVariants.{Num as num, Boo as boo, Id as id, DeRef as deref, ValRef as valref, Binary as binary, Not as negation}
use Rattle.rules.specs.declared.kinds.CommandKind.TheVariants.{Assign as assign, Loop as loop, CSeq as cseq, Blk as blk, Call as call, Cond as conditional}
use Rattle.rules.specs.declared.kinds.DeclarationKind.TheVariants.{Bind as bind, DSeq as dseq}
use Rattle.rules.specs.declared.kinds.Kind.TheVariants.{Expression as expression_kind, Ref as ref, Abs as abs}
use Rattle.rules.specs.paper.Tree.{Expression, Num, Boo, Id, DeRef, ValRef, Binary, Not, Command, Assign, Loop, CSeq, block, Call, Cond, Declaration, Bind, DSeq, Bound, plain, Ref, Abs}
use Rattle.reader.specs.Pack.{packed_kind}

abbrev pub expression_kind_of : Expression → ExpressionKind
expression_kind_of (Num p n) = num
expression_kind_of (Boo p b) = boo
expression_kind_of (Id p x) = id
expression_kind_of (DeRef p x) = deref
expression_kind_of (ValRef p x) = valref
expression_kind_of (Binary p o e₁ e₂) = binary o
expression_kind_of (Not p e) = negation

abbrev pub command_kind_of : Command → CommandKind
command_kind_of (Assign p x e) = assign
command_kind_of (Loop p e c) = loop
command_kind_of (CSeq p c₁ c₂) = cseq
command_kind_of (block b) = blk
command_kind_of (Call p x es) = call
command_kind_of (Cond p e c₁ c₂) = conditional

abbrev pub declaration_kind_of : Declaration → DeclarationKind
declaration_kind_of (Bind p x b) = bind
declaration_kind_of (DSeq p d₁ d₂) = dseq

abbrev pub bound_kind_of : Bound → Kind
bound_kind_of (plain e) = expression_kind (expression_kind_of e)
bound_kind_of (Ref p e) = ref
bound_kind_of (Abs p fs b) = abs

-- A node's word has the number of some kind.
pub record Known (word : ℕ) : Type 0 where
  pub kind : Kind
  pub number_is : packed_kind word ≡ kind_number kind
