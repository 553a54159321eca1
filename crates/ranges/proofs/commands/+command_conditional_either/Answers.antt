-- The answers of the cycle {command, sequence, block, call, choice, conditional, either}. A command has its parts by the kind of its node, and leaves
-- what follows from what they leave; `conditional` carries the command that a Cond takes; `either` carries both, each from the cells before it.
use Prim.Native.Nat.{◌≤◌}
use mathlib.Core.Path.{refl, ◌∙◌, ap}
use native.Mathlib.Omega.{arith}
use lib.ListN.{get_or}
use Rattle.std.proofs.lemmas.Result.{err_from_is_err_and}
use Rattle.rules.specs.paper.Limits.{most_cells}
use Rattle.rules.specs.declared.kinds.CommandKind.TheVariants.{Assign as assign, Loop as loop, CSeq as cseq, Blk as blk, Call as call, Cond as conditional}
use Rattle.reader.specs.Pack.{packed_end}
use Rattle.reader.proofs.StandingLaws.{command_low, declaration_low}
use Rattle.carrying.proofs.FrameLaws.{keeps_then, keeps_fewer}
use Rattle.ranges.proofs.CommandLaws.{known_there, no_other, number_at}
use Rattle.ranges.proofs.BranchLaws.{sequence_first, sequence_unsafe, sequence_second, sequence_carried, block_declaration, block_unsafe, more_held, block_inside, block_carried, call_there, call_unsafe, function_inside, call_carried}
use Rattle.ranges.proofs.TestLaws.{of_conditional, never_loop, value_there, value_unsafe, value_known, value_carried}
use Rattle.ranges.proofs.TestLaws as TestLaws
use Rattle.ranges.proofs.BothLaws.{cells_few, first_low, first_there, first_unsafe, second_there, second_unsafe, both_carried}
use Rattle.ranges.proofs.commands.+command_conditional_either.Goals as goal

pub command-node_kind-requires-clause-in_bounds : goal.command-node_kind-requires-clause-in_bounds
command-node_kind-requires-clause-in_bounds t c =
    omega (arith, command_low c.requires.some_command.4.tree, c.requires.regions_end_in_bounds)

pub command-node_kind-requires-clause-known : goal.command-node_kind-requires-clause-known
command-node_kind-requires-clause-known t c =
    known_there _ _ _ c.requires.some_command

pub command-unreachable-requires : goal.command-unreachable-requires
command-unreachable-requires t c =
    no_other _ _ _ c.node_kind.result c.node_kind.ensures c.in_default.not-Command c.requires.some_command

pub command-sequence-requires : goal.command-sequence-requires
command-sequence-requires t c =
    (omega (arith, c.decreases), (c.requires.regions_end_in_bounds, (number_at cseq c.in-Command.ensures c.in-CSeq.is, c.requires.some_command)))

pub command-block-requires : goal.command-block-requires
command-block-requires t c =
    (omega (arith, c.decreases), (c.requires.regions_end_in_bounds, (number_at blk c.in-Command.ensures c.in-Blk.is, c.requires.some_command)))

pub command-call-requires : goal.command-call-requires
command-call-requires t c =
    (omega (arith, c.decreases), (c.requires.regions_end_in_bounds, (number_at call c.in-Command.ensures c.in-Call.is, c.requires.some_command)))

pub command-choice-requires : goal.command-choice-requires
command-choice-requires t c =
    (omega (arith, c.decreases), (c.requires.regions_end_in_bounds, (number_at conditional c.in-Command.ensures c.in-Cond.is, c.requires.some_command)))

pub command-assignment-requires-clause-kind_is : goal.command-assignment-requires-clause-kind_is
command-assignment-requires-clause-kind_is t c = number_at assign c.in-Command.ensures c.in-Assign.is

pub command-unreachable-requires-in-Loop : goal.command-unreachable-requires-in-Loop
command-unreachable-requires-in-Loop t c =
    let a_loop = number_at loop c.in-Command.ensures c.in-Loop.is in
    never_loop _ _ _ _ refl a_loop c.requires.some_command

-- ---- CSeq.

pub sequence-command-requires : goal.sequence-command-requires
sequence-command-requires t c =
    let part = sequence_first _ _ _ _ refl c.requires.kind_is c.requires.some_command in
    (omega (arith, part.1, c.decreases), (c.requires.regions_end_in_bounds, part.0))

pub sequence-returns-in_err-command-clause-command_carried : goal.sequence-returns-in_err-command-clause-command_carried
sequence-returns-in_err-command-clause-command_carried t c =
    let p = err_from_is_err_and c.from_residual.result c.from_residual.ensures.1 in
    rw (p.1, p.2) (sequence_unsafe _ _ _ _ refl c.requires.kind_is _ _ c.in_err-command.ensures.command_carried)

pub sequence-end-after-requires : goal.sequence-end-after-requires
sequence-end-after-requires t c =
    omega (arith, (command_low (sequence_first _ _ _ _ refl c.requires.kind_is c.requires.some_command).0.4.tree), c.requires.regions_end_in_bounds, c.command.ensures.keeps.same_length)

pub sequence-command-requires-2 : goal.sequence-command-requires-2
sequence-command-requires-2 t c =
    let part = sequence_second _ _ _ _ refl c.requires.kind_is _ c.in_ok-command.ensures.command_carried c.command.ensures.keeps _ c.end-after.ensures (command_low (sequence_first _ _ _ _ refl c.requires.kind_is c.requires.some_command).0.4.tree) c.requires.some_command in
    (omega (arith, part.1, c.decreases), (omega (arith, c.requires.regions_end_in_bounds, c.command.ensures.keeps.same_length), part.0))

pub sequence-returns-clause-command_carried : goal.sequence-returns-clause-command_carried
sequence-returns-clause-command_carried t c =
    sequence_carried _ _ _ _ refl c.requires.kind_is _ c.in_ok-command.ensures.command_carried c.command.ensures.keeps _ c.end-after.ensures (command_low (sequence_first _ _ _ _ refl c.requires.kind_is c.requires.some_command).0.4.tree) _ _ c.command-2.ensures.command_carried

-- ---- Blk.

pub block-declaration-requires-clause-some_declaration : goal.block-declaration-requires-clause-some_declaration
block-declaration-requires-clause-some_declaration t c =
    block_declaration _ _ _ _ refl c.requires.kind_is c.requires.some_command

pub block-returns-in-Err-clause-command_carried : goal.block-returns-in-Err-clause-command_carried
block-returns-in-Err-clause-command_carried t c =
    block_unsafe _ _ _ _ refl c.requires.kind_is _ _ c.in-Err.ensures.declaration_carried

pub block-end-inside-requires : goal.block-end-inside-requires
block-end-inside-requires t c =
    omega (arith, declaration_low (block_declaration _ _ _ _ refl c.requires.kind_is c.requires.some_command).5.tree, c.requires.regions_end_in_bounds, c.declaration.ensures.keeps.same_length)

pub block-command-requires : goal.block-command-requires
block-command-requires t c =
    let part = block_inside _ _ _ _ refl c.requires.kind_is _ _ c.in-Ok.ensures.declaration_carried c.declaration.ensures.keeps _ c.end-inside.ensures (declaration_low (block_declaration _ _ _ _ refl c.requires.kind_is c.requires.some_command).5.tree) c.requires.some_command in
    (omega (arith, part.1, c.decreases), (omega (arith, c.requires.regions_end_in_bounds, c.declaration.ensures.keeps.same_length), part.0))

pub block-returns-in-Ok-clause-command_carried : goal.block-returns-in-Ok-clause-command_carried
block-returns-in-Ok-clause-command_carried t c =
    block_carried _ _ _ _ refl c.requires.kind_is _ _ c.in-Ok.ensures.declaration_carried c.declaration.ensures.keeps _ c.end-inside.ensures (declaration_low (block_declaration _ _ _ _ refl c.requires.kind_is c.requires.some_command).5.tree) _ _ c.command.ensures.command_carried

pub block-returns-in-Ok-clause-keeps : goal.block-returns-in-Ok-clause-keeps
block-returns-in-Ok-clause-keeps t c =
    let more = more_held _ _ _ _ refl c.requires.kind_is _ _ c.in-Ok.ensures.declaration_carried c.declaration.ensures.keeps _ c.end-inside.ensures (declaration_low (block_declaration _ _ _ _ refl c.requires.kind_is c.requires.some_command).5.tree) c.requires.some_command in
    keeps_then c.declaration.ensures.keeps (keeps_fewer more.0 more.1 c.command.ensures.keeps)

-- ---- Call.

pub call-enter-requires-clause-some_call : goal.call-enter-requires-clause-some_call
call-enter-requires-clause-some_call t c =
    call_there _ _ _ _ refl c.requires.kind_is c.requires.some_command

pub call-returns-in-Err-clause-command_carried : goal.call-returns-in-Err-clause-command_carried
call-returns-in-Err-clause-command_carried t c =
    call_unsafe _ _ _ _ refl c.requires.kind_is _ _ c.in-Err.ensures.call_carried

pub call-command-requires : goal.call-command-requires
call-command-requires t c =
    let part = function_inside _ _ _ _ refl c.requires.kind_is _ c.in-Ok.entered.held c.in-Ok.entered.block c.in-Ok.ensures.call_carried c.requires.some_command in
    (omega (arith, part.1, c.decreases), (omega (arith, c.requires.regions_end_in_bounds, c.enter.ensures.keeps.same_length), part.0))

pub call-returns-in-Ok-clause-command_carried : goal.call-returns-in-Ok-clause-command_carried
call-returns-in-Ok-clause-command_carried t c =
    call_carried _ _ _ _ refl c.requires.kind_is _ c.in-Ok.entered.held c.in-Ok.entered.block c.in-Ok.ensures.call_carried _ _ c.command.ensures.command_carried

pub call-returns-in-Ok-clause-keeps : goal.call-returns-in-Ok-clause-keeps
call-returns-in-Ok-clause-keeps t c =
    let part = function_inside _ _ _ _ refl c.requires.kind_is _ c.in-Ok.entered.held c.in-Ok.entered.block c.in-Ok.ensures.call_carried c.requires.some_command in
    let few : c.args.held.cells ≤ most_cells = omega (arith, c.requires.some_command.4.room.cells_fit) in
    keeps_then (keeps_fewer (omega arith) few c.enter.ensures.keeps) (keeps_fewer part.2 (omega (arith, part.3)) c.command.ensures.keeps)

-- ---- Cond.

pub choice-expression-requires-clause-some_expression : goal.choice-expression-requires-clause-some_expression
choice-expression-requires-clause-some_expression t c =
    value_there _ _ _ _ refl (of_conditional c.requires.kind_is) c.requires.some_command

pub choice-returns-in_err-test-clause-command_carried : goal.choice-returns-in_err-test-clause-command_carried
choice-returns-in_err-test-clause-command_carried t c =
    let p = err_from_is_err_and c.from_residual.result c.from_residual.ensures.1 in
    rw (p.1, p.2) (value_unsafe _ _ _ _ refl (of_conditional c.requires.kind_is) _ c.in_err-test.ensures)

pub choice-conditional-requires : goal.choice-conditional-requires
choice-conditional-requires t c =
    (omega (arith, c.decreases), (c.requires.regions_end_in_bounds, (c.requires.kind_is, value_known _ _ _ _ refl (of_conditional c.requires.kind_is) _ c.in_ok-test.ensures c.requires.some_command)))

pub choice-returns-clause-command_carried : goal.choice-returns-clause-command_carried
choice-returns-clause-command_carried t c =
    value_carried _ _ _ _ refl (of_conditional c.requires.kind_is) _ c.in_ok-test.ensures _ _ c.conditional.ensures.tested_carried

-- ---- A Cond, with its test.

pub conditional-end-first-requires : goal.conditional-end-first-requires
conditional-end-first-requires t c =
    omega (arith, TestLaws.test_low _ _ _ _ _ refl (λ q. omega (arith, q, c.requires.kind_is)) c.requires.some_tested, c.requires.regions_end_in_bounds)

pub conditional-command-requires : goal.conditional-command-requires
conditional-command-requires t c =
    let part = TestLaws.first_there _ _ _ _ _ refl (λ q. omega (arith, q, c.requires.kind_is)) c.if-test-eq0.true _ c.end-first.ensures c.requires.some_tested in
    (omega (arith, part.1, c.decreases), (c.requires.regions_end_in_bounds, part.0))

pub conditional-returns-then-test-eq0-clause-tested_carried : goal.conditional-returns-then-test-eq0-clause-tested_carried
conditional-returns-then-test-eq0-clause-tested_carried t c =
    TestLaws.first_carried _ _ _ _ _ refl (λ q. omega (arith, q, c.requires.kind_is)) c.if-test-eq0.true _ c.end-first.ensures _ _ c.command.ensures.command_carried

pub conditional-end-second-requires : goal.conditional-end-second-requires
conditional-end-second-requires t c =
    omega (arith, TestLaws.first_low _ _ _ _ _ refl (λ q. omega (arith, q, c.requires.kind_is)) c.requires.some_tested, c.end-first.ensures, c.requires.regions_end_in_bounds)

pub conditional-command-requires-then-test-eq0-2 : goal.conditional-command-requires-then-test-eq0-2
conditional-command-requires-then-test-eq0-2 t c =
    let part = TestLaws.second_there _ _ _ _ _ refl (λ q. omega (arith, q, c.requires.kind_is)) c.if-test-eq0.false c.if-test-eq0-2.true _ (c.end-second.ensures ∙ ap (λ i. packed_end (get_or c.args.work.now i 0)) c.end-first.ensures) c.requires.some_tested in
    (omega (arith, part.1, c.decreases), (c.requires.regions_end_in_bounds, part.0))

pub conditional-returns-then-test-eq0-2-clause-tested_carried : goal.conditional-returns-then-test-eq0-2-clause-tested_carried
conditional-returns-then-test-eq0-2-clause-tested_carried t c =
    TestLaws.second_carried _ _ _ _ _ refl (λ q. omega (arith, q, c.requires.kind_is)) c.if-test-eq0.false c.if-test-eq0-2.true _ (c.end-second.ensures ∙ ap (λ i. packed_end (get_or c.args.work.now i 0)) c.end-first.ensures) _ _ c.command-then-test-eq0-2.ensures.command_carried

pub conditional-either-requires : goal.conditional-either-requires
conditional-either-requires t c =
    (omega (arith, c.decreases), (c.requires.regions_end_in_bounds, TestLaws.both_there _ _ _ _ _ refl (λ q. omega (arith, q, c.requires.kind_is)) c.if-test-eq0.false c.if-test-eq0-2.false c.requires.some_tested))

pub conditional-returns-clause-tested_carried : goal.conditional-returns-clause-tested_carried
conditional-returns-clause-tested_carried t c =
    TestLaws.both_tested _ _ _ _ _ refl (λ q. omega (arith, q, c.requires.kind_is)) c.if-test-eq0.false c.if-test-eq0-2.false _ _ c.either.ensures.both_carried

-- ---- A Cond whose test may be both.

pub either-command-requires : goal.either-command-requires
either-command-requires t c =
    let part = first_there _ _ _ _ c.end-first.ensures c.requires.some_both in
    (omega (arith, part.1, c.decreases), (c.requires.regions_end_in_bounds, part.0))

pub either-returns-in_err-command-clause-both_carried : goal.either-returns-in_err-command-clause-both_carried
either-returns-in_err-command-clause-both_carried t c =
    let p = err_from_is_err_and c.from_residual.result c.from_residual.ensures.1 in rw (p.1, p.2) (first_unsafe _ _ _ _ c.end-first.ensures _ _ c.in_err-command.ensures.command_carried)

pub either-end-second-requires : goal.either-end-second-requires
either-end-second-requires t c = omega (arith, first_low _ _ _ _ c.end-first.ensures c.requires.some_both, c.requires.regions_end_in_bounds, c.command.ensures.keeps.same_length, c.exchange.ensures.keeps.same_length)

pub either-command-requires-2 : goal.either-command-requires-2
either-command-requires-2 t c =
    let part = second_there _ _ _ _ c.end-first.ensures _ _ _ _ c.in_ok-command.ensures.command_carried c.command.ensures.keeps c.copy.ensures c.exchange.ensures (cells_few _ _ _ c.requires.some_both) (omega (arith, c.requires.some_both.6.room.bindings_fit)) (first_low _ _ _ _ c.end-first.ensures c.requires.some_both) _ c.end-second.ensures c.requires.some_both in
    (omega (arith, part.1, c.decreases), (omega (arith, c.requires.regions_end_in_bounds, c.command.ensures.keeps.same_length, c.exchange.ensures.keeps.same_length), part.0))

pub either-returns-in_err-command-2-clause-both_carried : goal.either-returns-in_err-command-2-clause-both_carried
either-returns-in_err-command-2-clause-both_carried t c =
    let p = err_from_is_err_and c.from_residual-in_err-command-2.result c.from_residual-in_err-command-2.ensures.1 in rw (p.1, p.2) (second_unsafe _ _ _ _ c.end-first.ensures _ _ _ _ c.in_ok-command.ensures.command_carried c.command.ensures.keeps c.copy.ensures c.exchange.ensures (cells_few _ _ _ c.requires.some_both) (omega (arith, c.requires.some_both.6.room.bindings_fit)) (first_low _ _ _ _ c.end-first.ensures c.requires.some_both) _ c.end-second.ensures _ _ c.in_err-command-2.ensures.command_carried)

pub either-returns-clause-both_carried : goal.either-returns-clause-both_carried
either-returns-clause-both_carried t c =
    both_carried _ _ _ _ c.end-first.ensures _ _ _ _ c.in_ok-command.ensures.command_carried c.command.ensures.keeps c.copy.ensures c.exchange.ensures (cells_few _ _ _ c.requires.some_both) (omega (arith, c.requires.some_both.6.room.bindings_fit)) (first_low _ _ _ _ c.end-first.ensures c.requires.some_both) _ c.end-second.ensures _ _ c.in_ok-command-2.ensures.command_carried c.command-2.ensures.keeps c.widen.ensures
