-- The rows of the table of kinds as the code has them: beside a kind its own sort, what its operand is below, and its children in two runs.
use Rattle.std.specs.Prelude.{ℕ, ◌*◌, suc, Some, None, Result, Ok, Err}
use Rattle.std.specs.Prelude as Prelude
use Rattle.std.proofs.Math.Option.{Option, none, some}
use Rattle.rules.specs.paper.Limits.{words, names, codes, most_parameters}
use Rattle.rules.specs.declared.refusals.Refused.{Refused}
use Rattle.rules.specs.declared.kinds.Kind.{Kind}
use Rattle.rules.specs.declared.kinds.Sort.{Sort}
use Rattle.rules.specs.paper.Kinds.{kind_of}
use Rattle.rules.specs.declared.kinds.Kind.TheVariants.{Expression as expression_kind, Command as command_kind, Declaration as declaration_kind, Ref as ref, Abs as abs, Formal as formal}
use Rattle.rules.specs.declared.kinds.ExpressionKind.TheVariants.{Num as num, Boo as boo, Id as id, DeRef as deref, ValRef as valref, Binary as binary, Not as negation}
use Rattle.rules.specs.declared.kinds.CommandKind.TheVariants.{Assign as assign, Loop as loop, CSeq as cseq, Blk as blk, Call as call, Cond as conditional}
use Rattle.rules.specs.declared.kinds.DeclarationKind.TheVariants.{Bind as bind, DSeq as dseq}
use Rattle.rules.specs.declared.kinds.Sort.TheVariants.{Expression as an_expression, Command as a_command, Declaration as a_declaration, Bound as a_bound, Formal as a_formal, Block as a_Block}
use Rattle.reader.specs.declared.tables.Row.{Row}

-- The place of a bit beyond those of every operand.
abbrev pub not_counted : ℕ
not_counted = 32

-- How many bits of an operand a name takes, the lowest.
abbrev pub name_bits : ℕ
name_bits = 6

-- A kind with no children.
abbrev pub childless : Kind → Sort → (bound : ℕ) → Row
childless k s n = record { kind = k; own = s; bound = n; firsts = 0; counted_from = not_counted; first = s; others = 0; other = s }

-- With so many children of a sort; behind them so many of another; with as many as the operand's bits from a place on say.
abbrev pub each : (count : ℕ) → Sort → Row → Row
each n s r = record { kind = r.kind; own = r.own; bound = r.bound; firsts = n; counted_from = r.counted_from; first = s; others = r.others; other = r.other }

abbrev pub followed : (count : ℕ) → Sort → Row → Row
followed n s r = record { kind = r.kind; own = r.own; bound = r.bound; firsts = r.firsts; counted_from = r.counted_from; first = r.first; others = n; other = s }

abbrev pub counted_by : (from : ℕ) → Sort → Row → Row
counted_by n s r = record { kind = r.kind; own = r.own; bound = r.bound; firsts = r.firsts; counted_from = n; first = s; others = r.others; other = r.other }

-- The row of each kind.
abbrev pub row_for : Kind → Row
row_for (expression_kind num) = childless (expression_kind num) an_expression words
row_for (expression_kind boo) = childless (expression_kind boo) an_expression 2
row_for (expression_kind id) = childless (expression_kind id) an_expression names
row_for (expression_kind (binary o)) = each 2 an_expression (childless (expression_kind (binary o)) an_expression 1)
row_for (expression_kind negation) = each 1 an_expression (childless (expression_kind negation) an_expression 1)
row_for (expression_kind deref) = childless (expression_kind deref) an_expression names
row_for (expression_kind valref) = childless (expression_kind valref) an_expression names
row_for (command_kind assign) = each 1 an_expression (childless (command_kind assign) a_command names)
row_for (command_kind loop) = followed 1 a_command (each 1 an_expression (childless (command_kind loop) a_command 1))
row_for (command_kind cseq) = each 2 a_command (childless (command_kind cseq) a_command 1)
row_for (command_kind blk) = followed 1 a_command (each 1 a_declaration (childless (command_kind blk) a_command 1))
row_for (command_kind call) = counted_by name_bits an_expression (childless (command_kind call) a_command (names * suc most_parameters))
row_for (command_kind conditional) = followed 2 a_command (each 1 an_expression (childless (command_kind conditional) a_command 1))
row_for (declaration_kind bind) = each 1 a_bound (childless (declaration_kind bind) a_declaration names)
row_for (declaration_kind dseq) = each 2 a_declaration (childless (declaration_kind dseq) a_declaration 1)
row_for ref = each 1 an_expression (childless ref a_bound 1)
row_for abs = followed 1 a_Block (counted_by 0 a_formal (childless abs a_bound (suc most_parameters)))
row_for formal = childless formal a_formal (names * codes)

-- The row of the kind with a number, if there is one.
abbrev pub found_row : Option Kind → Prelude.Option Row
found_row none = None
found_row (some k) = Some (row_for k)

unfoldable pub row_at : ℕ → Prelude.Option Row
row_at n = found_row (kind_of n)

-- What the checks of a node come to, of the row that the code answers.
abbrev pub kind_answer : Result Row Refused → Result Kind Refused
kind_answer (Ok r) = Ok r.kind
kind_answer (Err x) = Err x
