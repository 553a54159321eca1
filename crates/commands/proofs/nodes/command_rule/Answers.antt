-- command_rule: the rule by the kind.
use Rattle.rules.specs.paper.Tree.{Assign, Loop, CSeq, block, Blk, Call, Cond}
use Rattle.rules.specs.paper.States.{command}
use Rattle.commands.proofs.command_laws.KindLaws.{command_number, asked, arm, assign_there, loop_there, sequence_there, block_there, conditional_there, call_there}
use Rattle.commands.proofs.nodes.command_rule.Goals as goal

pub assign-requires : goal.assign-requires
assign-requires c = asked command _ _ _ (Assign _) (λ d a. assign_there _ _ _ _ c.requires.which_value d a (command_number c.in-Assign.is))
    c.requires.applicable

pub repeat-requires : goal.repeat-requires
repeat-requires c = asked command _ _ _ (Loop _) (λ d a. loop_there _ _ _ _ c.requires.which_value d a (command_number c.in-Loop.is))
    c.requires.applicable

pub sequence-requires : goal.sequence-requires
sequence-requires c = asked command _ _ _ (CSeq _) (λ d a. sequence_there _ _ _ _ c.requires.which_value d a (command_number c.in-CSeq.is))
    c.requires.applicable

pub enter_block-requires : goal.enter_block-requires
enter_block-requires c = asked command _ _ _ (λ d b. block (Blk _ d b))
    (λ d a. block_there _ _ _ _ c.requires.which_value d a (command_number c.in-Blk.is)) c.requires.applicable

pub conditional-requires : goal.conditional-requires
conditional-requires c =
    let given = asked command _ _ _ (λ e both. Cond _ e both.0 both.1)
    (λ d a. conditional_there _ _ _ _ c.requires.which_value d a (command_number c.in-Cond.is)) c.requires.applicable in
    (given.0, given.1.0, given.1.1, given.2)

pub call-requires : goal.call-requires
call-requires c = asked command _ _ _ (Call _) (λ d a. call_there _ _ _ _ c.requires.which_value d a (command_number c.in-Call.is))
    c.requires.applicable

pub returns-in-Assign : goal.returns-in-Assign
returns-in-Assign c = arm command _ _ _ (Assign _) (λ d a. assign_there _ _ _ _ c.requires.which_value d a (command_number c.in-Assign.is))
    _ _ c.assign.ensures

pub returns-in-Loop : goal.returns-in-Loop
returns-in-Loop c = arm command _ _ _ (Loop _) (λ d a. loop_there _ _ _ _ c.requires.which_value d a (command_number c.in-Loop.is))
    _ _ c.repeat.ensures

pub returns-in-CSeq : goal.returns-in-CSeq
returns-in-CSeq c = arm command _ _ _ (CSeq _) (λ d a. sequence_there _ _ _ _ c.requires.which_value d a (command_number c.in-CSeq.is))
    _ _ c.sequence.ensures

pub returns-in-Blk : goal.returns-in-Blk
returns-in-Blk c = arm command _ _ _ (λ d b. block (Blk _ d b)) (λ d a. block_there _ _ _ _ c.requires.which_value d a (command_number c.in-Blk.is))
    _ _ c.enter_block.ensures

pub returns-in-Cond : goal.returns-in-Cond
returns-in-Cond c =
    arm command _ _ _ (λ e both. Cond _ e both.0 both.1) (λ d a. conditional_there _ _ _ _ c.requires.which_value d a (command_number c.in-Cond.is))
    _ _
    (λ e both. c.conditional.ensures e both.0 both.1)

pub returns-in-Call : goal.returns-in-Call
returns-in-Call c = arm command _ _ _ (Call _) (λ d a. call_there _ _ _ _ c.requires.which_value d a (command_number c.in-Call.is)) _ _ c.call.ensures
