-- metered_step: the step, and the marks after it.
use mathlib.Core.Path.{refl, ◌∙◌}
use Rattle.automaton.proofs.run_laws.MeterLaws.{marks_right}
use Rattle.automaton.proofs.meter.metered_step.Goals as goal

pub returns : goal.returns
returns c =
    record {
      steps = c.step-stepped.ensures;
      marks_are = c.marks_by_word-raised.ensures ∙ marks_right _ _ _ c.requires.1 _ _ refl c.requires.0 _ c.step-stepped.ensures;
    }
