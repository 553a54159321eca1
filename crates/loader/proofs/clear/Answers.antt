-- The first work words become 0.
use mathlib.Core.Path.{ap, ◌∙◌}
use Rattle.std.specs.Prelude.{◌++◌, replicate, drop}
use Rattle.std.proofs.lemmas.List.{length-take-le}
use Rattle.rules.specs.paper.Limits.{work_words}
use Rattle.rules.specs.paper.Engine.{cleared}
use Rattle.loader.proofs.clear.Goals as goal

pub returns : goal.returns
unfolding cleared
returns c =
    ap (λ zeros. zeros ++ drop work_words c.args.work.now)
    (c.fill.ensures.after (λ y known. known) ∙ ap (λ n. replicate n 0) (length-take-le work_words c.args.work.now c.requires))
