-- Pages as they look: that of 5 × (3 + 2), and the widest line.
use Rattle.std.specs.Prelude.{◌≡◌, refl, [], ◌++◌}
use Rattle.std.proofs.Common.{arith}
use Rattle.rules.specs.paper.Tree.{Num, Binary, expression, absent}
use Rattle.rules.specs.declared.kinds.Operator.TheVariants.{Arithmetic as arithmetic}
use Rattle.rules.specs.declared.kinds.Arithmetic.TheVariants.{Sum, Mul}
use Rattle.rules.specs.declared.kinds.ExpressionKind.TheVariants.{Num as num}
use Rattle.rules.specs.declared.kinds.Kind.TheVariants.{Expression as expression_kind}
use Rattle.rules.specs.paper.Decimal.{ascii, digits_within, decimal}
use Rattle.page.specs.Lines.{line_of, expression_lines, root_lines}
use Rattle.page.specs.Page.{line_text, lines_text, page_of}
use Rattle.page.specs.DecimalLaws.{decimal_computed}

pub a_product :
    page_of (expression (Binary 0 (arithmetic Mul) (Num 1 5) (Binary 2 (arithmetic Sum) (Num 3 3) (Num 4 2)))) ≡
    ascii "   0  1 Mul             0    5\n" ++
    ascii "   1  2 Num             5    2\n" ++
    ascii "   2  2 Sum             0    5\n" ++
    ascii "   3  3 Num             3    4\n" ++
    ascii "   4  3 Num             2    5\n"
unfolding page_of root_lines expression_lines lines_text line_text decimal digits_within
a_product = refl

pub widest_line : line_text (line_of 1999 64 (expression_kind num) 4294967295 2000) ≡ ascii "1999 64 Num    4294967295 2000\n"
unfolding line_text digits_within
widest_line = rw (decimal_computed 3 1999 (omega arith), decimal_computed 1 64 (omega arith), decimal_computed 9 4294967295 (omega arith), decimal_computed 3 2000 (omega arith)) refl

pub no_routine : page_of absent ≡ []
unfolding page_of root_lines lines_text
no_routine = refl
