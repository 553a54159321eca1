-- extend_mark: the environment is saved and the declared names join it.
use Rattle.frames.proofs.frame_laws.BlockMarkLaws.{first_some, first_made}
use Rattle.frames.proofs.blocks.extend_mark.Goals as goal

pub overflow_sub-m : goal.overflow_sub-m
overflow_sub-m c = first_some _ _ _ c.requires.ready

pub returns : goal.returns
returns c =
    first_made _ _ _ _ _ c.put_value.ensures.value c.put_value.ensures.m_after
