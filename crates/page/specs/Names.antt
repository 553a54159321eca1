-- The names of the kinds, as the table of kinds has them (paper, "The image"; Cond: document 02).
use Prim.Native.String.{String}
use Rattle.rules.specs.declared.kinds.Operator.{Operator}
use Rattle.rules.specs.declared.kinds.Operator.TheVariants.{Arithmetic as arithmetic, Eq, Order as order, Logic as logic}
use Rattle.rules.specs.declared.kinds.Arithmetic.TheVariants.{Sum, Sub, Mul, Div}
use Rattle.rules.specs.declared.kinds.Order.TheVariants.{Lt, Le, Gt, Ge}
use Rattle.rules.specs.declared.kinds.Logic.TheVariants.{And, Or}
use Rattle.rules.specs.declared.kinds.Kind.{Kind}
use Rattle.rules.specs.declared.kinds.ExpressionKind.TheVariants.{Num as num, Boo as boo, Id as id, DeRef as deref, ValRef as valref, Binary as binary, Not as negation}
use Rattle.rules.specs.declared.kinds.CommandKind.TheVariants.{Assign as assign, Loop as loop, CSeq as cseq, Blk as blk, Call as call, Cond as conditional}
use Rattle.rules.specs.declared.kinds.DeclarationKind.TheVariants.{Bind as bind, DSeq as dseq}
use Rattle.rules.specs.declared.kinds.Kind.TheVariants.{Expression as expression_kind, Command as command_kind, Declaration as declaration_kind, Ref as ref, Abs as abs, Formal as formal}

abbrev pub operator_name : Operator → String
operator_name (arithmetic Sum) = "Sum"
operator_name (arithmetic Sub) = "Sub"
operator_name (arithmetic Mul) = "Mul"
operator_name (arithmetic Div) = "Div"
operator_name Eq = "Eq"
operator_name (order Lt) = "Lt"
operator_name (order Le) = "Le"
operator_name (order Gt) = "Gt"
operator_name (order Ge) = "Ge"
operator_name (logic And) = "And"
operator_name (logic Or) = "Or"

abbrev pub kind_name : Kind → String
kind_name (expression_kind num) = "Num"
kind_name (expression_kind boo) = "Boo"
kind_name (expression_kind id) = "Id"
kind_name (expression_kind (binary o)) = operator_name o
kind_name (expression_kind negation) = "Not"
kind_name (expression_kind deref) = "DeRef"
kind_name (expression_kind valref) = "ValRef"
kind_name (command_kind assign) = "Assign"
kind_name (command_kind loop) = "Loop"
kind_name (command_kind cseq) = "CSeq"
kind_name (command_kind blk) = "Blk"
kind_name (command_kind call) = "Call"
kind_name (command_kind conditional) = "Cond"
kind_name (declaration_kind bind) = "Bind"
kind_name (declaration_kind dseq) = "DSeq"
kind_name ref = "Ref"
kind_name abs = "Abs"
kind_name formal = "Formal"
