-- The numbers of the kinds by name, but for the operators' (operator-number of the rules).
use Rattle.std.specs.Prelude.{ℕ}
use Rattle.rules.specs.paper.Kinds.{kind_number}
use Rattle.rules.specs.declared.kinds.ExpressionKind.TheVariants.{Num as num, Boo as boo, Id as id, DeRef as deref, ValRef as valref, Not as negation}
use Rattle.rules.specs.declared.kinds.CommandKind.TheVariants.{Assign as assign, Loop as loop, CSeq as cseq, Blk as blk, Call as call, Cond as conditional}
use Rattle.rules.specs.declared.kinds.DeclarationKind.TheVariants.{Bind as bind, DSeq as dseq}
use Rattle.rules.specs.declared.kinds.Kind.TheVariants.{Expression as expression_kind, Command as command_kind, Declaration as declaration_kind, Ref as ref, Abs as abs, Formal as formal}

abbrev pub num_number : ℕ
num_number = kind_number (expression_kind num)

abbrev pub boo_number : ℕ
boo_number = kind_number (expression_kind boo)

abbrev pub id_number : ℕ
id_number = kind_number (expression_kind id)

abbrev pub not_number : ℕ
not_number = kind_number (expression_kind negation)

abbrev pub deref_number : ℕ
deref_number = kind_number (expression_kind deref)

abbrev pub valref_number : ℕ
valref_number = kind_number (expression_kind valref)

abbrev pub assign_number : ℕ
assign_number = kind_number (command_kind assign)

abbrev pub loop_number : ℕ
loop_number = kind_number (command_kind loop)

abbrev pub cseq_number : ℕ
cseq_number = kind_number (command_kind cseq)

abbrev pub blk_number : ℕ
blk_number = kind_number (command_kind blk)

abbrev pub call_number : ℕ
call_number = kind_number (command_kind call)

abbrev pub conditional_number : ℕ
conditional_number = kind_number (command_kind conditional)

abbrev pub bind_number : ℕ
bind_number = kind_number (declaration_kind bind)

abbrev pub dseq_number : ℕ
dseq_number = kind_number (declaration_kind dseq)

abbrev pub ref_number : ℕ
ref_number = kind_number ref

abbrev pub abs_number : ℕ
abs_number = kind_number abs

abbrev pub formal_number : ℕ
formal_number = kind_number formal
