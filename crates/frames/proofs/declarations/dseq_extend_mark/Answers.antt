-- dseq_extend_mark: the environment is kept under the declared names, which join it; or there is no room for it.
use native.Mathlib.Omega.{arith}
use Rattle.frames.proofs.frame_laws.DseqMarkLaws.{extend_some, extend_withheld, extend_made}
use Rattle.frames.proofs.declarations.dseq_extend_mark.Goals as goal

pub returns-then-m-eq-MOST_VALUE_ENTRIES : goal.returns-then-m-eq-MOST_VALUE_ENTRIES
returns-then-m-eq-MOST_VALUE_ENTRIES c = extend_withheld _ _ _ c.if-m-eq-MOST_VALUE_ENTRIES.true

pub overflow_sub-m : goal.overflow_sub-m
overflow_sub-m c = extend_some _ _ _ c.requires.ready

pub returns : goal.returns
returns c =
    extend_made _ _ _ _ _ _ _ (omega (arith, c.requires.ready.fits.few_values, c.if-m-eq-MOST_VALUE_ENTRIES.false))
    c.put_value-kept.ensures.value c.put_value-kept.ensures.m_after c.put_value.ensures.value c.put_value.ensures.m_after
