-- step: the item on top of control goes to its rule's function.
use Rattle.std.proofs.Common.{refl, arith}
use Rattle.rules.specs.declared.kinds.Kind.TheVariants.{Expression as expression_kind, Command as command_kind, Declaration as declaration_kind, Ref as ref, Abs as abs, Formal as formal}
use Rattle.automaton.proofs.step_laws.StepLaws.{some_control}
use Rattle.automaton.proofs.step_laws.DispatchLaws.{known_there, rule_at, answer_at, mark_rule_at, mark_answer_at}
use Rattle.automaton.proofs.step.Goals as goal

pub overflow_sub-m : goal.overflow_sub-m
overflow_sub-m c = some_control _ _ c.requires.enabled.stands.models

pub mark_rule-requires : goal.mark_rule-requires
mark_rule-requires c = mark_rule_at _ _ _ refl c.if-word-ge-MARK.true c.requires

pub returns-then-word-ge-MARK : goal.returns-then-word-ge-MARK
returns-then-word-ge-MARK c = mark_answer_at _ c.args.m _ refl c.if-word-ge-MARK.true _ _ c.mark_rule.ensures

pub node_kind-requires : goal.node_kind-requires
node_kind-requires c =
    let there = known_there _ _ _ refl c.if-word-ge-MARK.false c.requires in
    record { in_bounds = omega (arith, there.0, c.requires.enabled.stands.fits.room); known = there.1 }

pub expression_rule-requires-clause-applicable : goal.expression_rule-requires-clause-applicable
expression_rule-requires-clause-applicable c = rule_at _ _ _ refl c.if-word-ge-MARK.false c.requires (expression_kind c.in-Expression.which) c.in-Expression.ensures

pub returns-in-Expression : goal.returns-in-Expression
returns-in-Expression c = answer_at _ c.args.m _ refl c.if-word-ge-MARK.false _ _ (expression_kind c.in-Expression.which) c.in-Expression.ensures c.expression_rule.ensures

pub command_rule-requires-clause-applicable : goal.command_rule-requires-clause-applicable
command_rule-requires-clause-applicable c = rule_at _ _ _ refl c.if-word-ge-MARK.false c.requires (command_kind c.in-Command.which) c.in-Command.ensures

pub returns-in-Command : goal.returns-in-Command
returns-in-Command c = answer_at _ c.args.m _ refl c.if-word-ge-MARK.false _ _ (command_kind c.in-Command.which) c.in-Command.ensures c.command_rule.ensures

pub declaration_rule-requires-clause-applicable : goal.declaration_rule-requires-clause-applicable
declaration_rule-requires-clause-applicable c = rule_at _ _ _ refl c.if-word-ge-MARK.false c.requires (declaration_kind c.in-Declaration.which) c.in-Declaration.ensures

pub returns-in-Declaration : goal.returns-in-Declaration
returns-in-Declaration c = answer_at _ c.args.m _ refl c.if-word-ge-MARK.false _ _ (declaration_kind c.in-Declaration.which) c.in-Declaration.ensures c.declaration_rule.ensures

pub reference-requires : goal.reference-requires
reference-requires c = rule_at _ _ _ refl c.if-word-ge-MARK.false c.requires ref c.in-Ref.ensures

pub returns-in-Ref : goal.returns-in-Ref
returns-in-Ref c = answer_at _ c.args.m _ refl c.if-word-ge-MARK.false _ _ ref c.in-Ref.ensures c.reference.ensures

pub close-requires : goal.close-requires
close-requires c = rule_at _ _ _ refl c.if-word-ge-MARK.false c.requires abs c.in-Abs.ensures

pub returns-in-Abs : goal.returns-in-Abs
returns-in-Abs c = answer_at _ c.args.m _ refl c.if-word-ge-MARK.false _ _ abs c.in-Abs.ensures c.close.ensures

pub unreachable-requires : goal.unreachable-requires
unreachable-requires c = rule_at _ _ _ refl c.if-word-ge-MARK.false c.requires formal c.in-Formal.ensures
