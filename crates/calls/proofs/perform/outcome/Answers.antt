-- The outcome by the root, or the reason.
use mathlib.Core.Path.{subst}
use Rattle.calls.specs.Runs.{AnswersAs}
use Rattle.calls.proofs.PerformLaws.{expression_answered, command_answered, reason_answered, value_there}
use Rattle.calls.proofs.perform.outcome.Goals as goal

pub returns-in-Err : goal.returns-in-Err
returns-in-Err c what a = reason_answered _ _ _ _ _ c.in-Err.is _ c.nowhere.ensures what a

pub value_outcome-requires : goal.value_outcome-requires
value_outcome-requires c =
    value_there c.in-Expression.code _ _ _ c.in_default.is (c.requires.0, subst (λ r. AnswersAs r c.args.work.now c.args.last c.args.ended c.requires.0) c.in-Expression.is c.requires.1)

pub returns-in-Expression : goal.returns-in-Expression
returns-in-Expression c what a =
    expression_answered c.in-Expression.code _ _ _ c.in_default.is _ c.value_outcome.ensures what (subst (λ r. AnswersAs r c.args.work.now c.args.last c.args.ended what) c.in-Expression.is a)

pub returns-in-Command : goal.returns-in-Command
returns-in-Command c what a = command_answered c.args.work.now c.args.last _ c.in_default.is what (subst (λ r. AnswersAs r c.args.work.now c.args.last c.args.ended what) c.in-Command.is a)
