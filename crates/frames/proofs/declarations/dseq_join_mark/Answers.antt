-- dseq_join_mark: the environment that was kept is taken back.
use native.Mathlib.Omega.{arith}
use Rattle.frames.proofs.frame_laws.DseqMarkLaws.{join_some, join_made}
use Rattle.frames.proofs.declarations.dseq_join_mark.Goals as goal

pub overflow_sub-m : goal.overflow_sub-m
overflow_sub-m c = omega (arith, join_some _ _ _ c.requires.ready)

pub returns : goal.returns
returns c = join_made _ _ _
