-- deref: the payload of the name's row is the location.
use mathlib.Core.Path.{refl}
use Rattle.expressions.specs.Named.{by_deref}
use Rattle.expressions.proofs.expression_laws.NameLaws.{deref_steps}
use Rattle.expressions.proofs.nodes.deref.Goals as goal

pub row_named-row-requires : goal.row_named-row-requires
row_named-row-requires c = (c.requires.0, _, by_deref, c.requires.1)

pub returns : goal.returns
returns c = deref_steps _ _ _ _ refl _ c.row_named-row.ensures.found _ _ c.push.ensures
