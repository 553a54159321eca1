-- mark_rule: the number fixes the mark, hence its rule.
use mathlib.Core.Path.{ap}
use Rattle.rules.specs.paper.States.{not_mark, assign_mark, loop_mark, conditional_mark, ref_mark, bind_mark, dseq_extend_mark, dseq_join_mark, extend_mark}
use Rattle.automaton.proofs.step_laws.MarkRuleLaws.{arm_of, on_not, on_assign, on_loop, on_extend, on_conditional, on_bind, on_dseq_extend, on_dseq_join, on_ref, is_operator, plain_needs, operator_needs, leave_needs, call_needs, plain_steps, operator_steps, leave_steps, call_steps}
use Rattle.automaton.proofs.marks.mark_rule.Goals as goal

pub not_mark-requires : goal.not_mark-requires
not_mark-requires c = plain_needs _ _ _ c.requires on_not not_mark (λ j h. h) (ap arm_of c.in-15.is)

pub assign_mark-requires : goal.assign_mark-requires
assign_mark-requires c = plain_needs _ _ _ c.requires on_assign assign_mark (λ j h. h) (ap arm_of c.in-20.is)

pub loop_mark-requires : goal.loop_mark-requires
loop_mark-requires c = plain_needs _ _ _ c.requires on_loop loop_mark (λ j h. h) (ap arm_of c.in-21.is)

pub leave_mark-requires : goal.leave_mark-requires
leave_mark-requires c = leave_needs _ _ _ c.requires (ap arm_of c.in-22.is)

pub extend_mark-requires : goal.extend_mark-requires
extend_mark-requires c = plain_needs _ _ _ c.requires on_extend extend_mark (λ j h. h) (ap arm_of c.in-23.is)

pub call_mark-requires : goal.call_mark-requires
call_mark-requires c = call_needs _ _ _ c.requires (ap arm_of c.in-24.is)

pub conditional_mark-requires : goal.conditional_mark-requires
conditional_mark-requires c = plain_needs _ _ _ c.requires on_conditional conditional_mark (λ j h. h) (ap arm_of c.in-25.is)

pub bind_mark-requires : goal.bind_mark-requires
bind_mark-requires c = plain_needs _ _ _ c.requires on_bind bind_mark (λ j h. h) (ap arm_of c.in-30.is)

pub dseq_extend_mark-requires : goal.dseq_extend_mark-requires
dseq_extend_mark-requires c = plain_needs _ _ _ c.requires on_dseq_extend dseq_extend_mark (λ j h. h) (ap arm_of c.in-41.is)

pub dseq_join_mark-requires : goal.dseq_join_mark-requires
dseq_join_mark-requires c = plain_needs _ _ _ c.requires on_dseq_join dseq_join_mark (λ j h. h) (ap arm_of c.in-31.is)

pub ref_mark-requires : goal.ref_mark-requires
ref_mark-requires c = plain_needs _ _ _ c.requires on_ref ref_mark (λ j h. h) (ap arm_of c.in-40.is)

pub operator_mark-requires : goal.operator_mark-requires
operator_mark-requires c = operator_needs _ _ _ c.requires (is_operator _ c.in_default.in_default-own.rest)

pub returns-in-15 : goal.returns-in-15
returns-in-15 c = plain_steps _ _ _ _ _ on_not not_mark (λ j h. h) (ap arm_of c.in-15.is) c.not_mark.ensures

pub returns-in-20 : goal.returns-in-20
returns-in-20 c = plain_steps _ _ _ _ _ on_assign assign_mark (λ j h. h) (ap arm_of c.in-20.is) c.assign_mark.ensures

pub returns-in-21 : goal.returns-in-21
returns-in-21 c = plain_steps _ _ _ _ _ on_loop loop_mark (λ j h. h) (ap arm_of c.in-21.is) c.loop_mark.ensures

pub returns-in-22 : goal.returns-in-22
returns-in-22 c = leave_steps _ _ _ _ _ (ap arm_of c.in-22.is) c.leave_mark.ensures

pub returns-in-23 : goal.returns-in-23
returns-in-23 c = plain_steps _ _ _ _ _ on_extend extend_mark (λ j h. h) (ap arm_of c.in-23.is) c.extend_mark.ensures

pub returns-in-24 : goal.returns-in-24
returns-in-24 c = call_steps _ _ _ _ _ (ap arm_of c.in-24.is) c.call_mark.ensures

pub returns-in-25 : goal.returns-in-25
returns-in-25 c = plain_steps _ _ _ _ _ on_conditional conditional_mark (λ j h. h) (ap arm_of c.in-25.is) c.conditional_mark.ensures

pub returns-in-30 : goal.returns-in-30
returns-in-30 c = plain_steps _ _ _ _ _ on_bind bind_mark (λ j h. h) (ap arm_of c.in-30.is) c.bind_mark.ensures

pub returns-in-41 : goal.returns-in-41
returns-in-41 c = plain_steps _ _ _ _ _ on_dseq_extend dseq_extend_mark (λ j h. h) (ap arm_of c.in-41.is) c.dseq_extend_mark.ensures

pub returns-in-31 : goal.returns-in-31
returns-in-31 c = plain_steps _ _ _ _ _ on_dseq_join dseq_join_mark (λ j h. h) (ap arm_of c.in-31.is) c.dseq_join_mark.ensures

pub returns-in-40 : goal.returns-in-40
returns-in-40 c = plain_steps _ _ _ _ _ on_ref ref_mark (λ j h. h) (ap arm_of c.in-40.is) c.ref_mark.ensures

pub returns-in_default : goal.returns-in_default
returns-in_default c = operator_steps _ _ _ _ _ (is_operator _ c.in_default.in_default-own.rest) c.operator_mark.ensures
