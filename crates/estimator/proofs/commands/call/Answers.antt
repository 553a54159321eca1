-- A Call: its actuals, and the need of its function.
use native.Mathlib.Omega.{arith}
use Rattle.reader.proofs.StandingLaws.{command_low}
use Rattle.estimator.proofs.NameLaws.{call_actuals, call_needs}
use Rattle.estimator.proofs.commands.call.Goals as goal

pub operand-word-requires : goal.operand-word-requires
operand-word-requires c = omega (arith, command_low c.requires.some_call.4, c.requires.entries_end_in_bounds)

pub overflow_add-node : goal.overflow_add-node
overflow_add-node c = record { fits = omega (arith, command_low c.requires.some_call.4) }

pub actuals-given-requires : goal.actuals-given-requires
actuals-given-requires c = let given = call_actuals _ _ _ c.operand-word.ensures c.requires.some_call in
    record {
      most_nodes_in_bounds = omega (arith, c.requires.entries_end_in_bounds);
      count_le_most_parameters = given.0;
      some_actuals = given.1;
    }

pub overflow_cast-count : goal.overflow_cast-count
overflow_cast-count c =
    record { fits = omega (arith, (call_actuals _ _ _ c.operand-word.ensures c.requires.some_call).0) }

pub returns : goal.returns
returns c = call_needs _ _ _ c.operand-word.ensures _ _ _ _ c.actuals-given.ensures c.need_of-function.ensures c.called.ensures
