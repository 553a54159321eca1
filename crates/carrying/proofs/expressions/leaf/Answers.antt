-- An expression without children, by its kind.
use mathlib.Core.Path.{sym, ap, ◌∙◌}
use Rattle.rules.specs.paper.Kinds.{kind_number}
use Rattle.rules.specs.declared.kinds.Kind.TheVariants.{Expression as expression_kind}
use Rattle.carrying.proofs.LeafLaws.{names_left, number_gives, truth_gives}
use Rattle.carrying.proofs.expressions.leaf.Goals as goal

pub returns-in-Num : goal.returns-in-Num
returns-in-Num c = number_gives _ _ _ _ c.operand-number.ensures (ap (λ k. kind_number (expression_kind k)) (sym c.in-Num.is) ∙ c.requires.kind_is)

pub returns-in-Boo : goal.returns-in-Boo
returns-in-Boo c = truth_gives _ _ _ _ c.operand-truth.ensures (ap (λ k. kind_number (expression_kind k)) (sym c.in-Boo.is) ∙ c.requires.kind_is)

pub named-requires-clause-names : goal.named-requires-clause-names
named-requires-clause-names c = names_left _ _ _ _ c.requires.kind_is c.in_default.not-Num c.in_default.not-Boo c.requires.some_leaf
