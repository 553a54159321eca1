-- row_named: the name's row, which is there.
use Rattle.expressions.proofs.expression_laws.ExpressionLaws.{applicable_within}
use Rattle.expressions.proofs.expression_laws.NameLaws.{name_bound, name_row_low}
use Rattle.expressions.proofs.nodes.row_named.Goals as goal

pub operand-name-requires : goal.operand-name-requires
operand-name-requires c = applicable_within _ _ _ _ c.requires.3

pub row_of-requires-clause-binds_name : goal.row_of-requires-clause-binds_name
row_of-requires-clause-binds_name c = name_bound _ _ _ _ c.operand-name.ensures _ _ c.requires.2 c.requires.3

pub returns-clause-within : goal.returns-clause-within
returns-clause-within c = name_row_low _ _ _ _ c.operand-name.ensures _ c.row_of.ensures _ _ c.requires.2 c.requires.3
