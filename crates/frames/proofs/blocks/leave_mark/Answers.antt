-- leave_mark: what was saved is taken back.
use Rattle.frames.proofs.frame_laws.BlockMarkLaws.{second_some, second_made}
use Rattle.frames.proofs.blocks.leave_mark.Goals as goal

pub overflow_sub-m : goal.overflow_sub-m
overflow_sub-m c = second_some _ _ _ _ _ c.requires.2.ready

pub returns : goal.returns
returns c = λ p n. second_made _ _ _ p n
