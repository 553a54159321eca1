-- expression_rule: the kind says which expression stands at the node.
use mathlib.Core.Path.{ap}
use Rattle.rules.specs.paper.Kinds.{kind_number}
use Rattle.rules.specs.declared.kinds.Kind.TheVariants.{Expression as expression_kind}
use Rattle.expressions.proofs.expression_laws.ExpressionKindLaws.{literal_low, some_id, some_negation, some_deref, some_valref, some_binary, all_literal, all_id, all_negation, all_deref, all_valref, all_binary}
use Rattle.expressions.proofs.nodes.expression_rule.Goals as goal

pub id-requires : goal.id-requires
id-requires c = some_id _ _ _ _ c.requires.which_value (ap (λ k. kind_number (expression_kind k)) c.in-Id.is) c.requires.applicable

pub negation-requires : goal.negation-requires
negation-requires c = some_negation _ _ _ _ c.requires.which_value (ap (λ k. kind_number (expression_kind k)) c.in-Not.is) c.requires.applicable

pub deref-requires : goal.deref-requires
deref-requires c = some_deref _ _ _ _ c.requires.which_value (ap (λ k. kind_number (expression_kind k)) c.in-DeRef.is) c.requires.applicable

pub valref-requires : goal.valref-requires
valref-requires c = some_valref _ _ _ _ c.requires.which_value (ap (λ k. kind_number (expression_kind k)) c.in-ValRef.is) c.requires.applicable

pub binary-requires : goal.binary-requires
binary-requires c = some_binary _ _ _ _ c.requires.which_value _ (ap (λ k. kind_number (expression_kind k)) c.in-Binary.is) c.requires.applicable

pub returns-in-Num : goal.returns-in-Num
returns-in-Num c = all_literal _ _ _ _ c.requires.which_value _ _ (literal_low c.in-Num.is) c.literal.ensures.number c.literal.ensures.truth

pub returns-in-Id : goal.returns-in-Id
returns-in-Id c = all_id _ _ _ _ c.requires.which_value _ _ (ap (λ k. kind_number (expression_kind k)) c.in-Id.is) c.id.ensures

pub returns-in-Not : goal.returns-in-Not
returns-in-Not c = all_negation _ _ _ _ c.requires.which_value _ _ (ap (λ k. kind_number (expression_kind k)) c.in-Not.is) c.negation.ensures

pub returns-in-DeRef : goal.returns-in-DeRef
returns-in-DeRef c = all_deref _ _ _ _ c.requires.which_value _ _ (ap (λ k. kind_number (expression_kind k)) c.in-DeRef.is) c.deref.ensures

pub returns-in-ValRef : goal.returns-in-ValRef
returns-in-ValRef c = all_valref _ _ _ _ c.requires.which_value _ _ (ap (λ k. kind_number (expression_kind k)) c.in-ValRef.is) c.valref.ensures

pub returns-in-Binary : goal.returns-in-Binary
returns-in-Binary c = all_binary _ _ _ _ c.requires.which_value _ _ _ (ap (λ k. kind_number (expression_kind k)) c.in-Binary.is) c.binary.ensures
