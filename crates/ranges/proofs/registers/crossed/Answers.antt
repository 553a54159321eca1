-- Some register's limits cross where `any` finds them so.
use mathlib.Core.Path.{◌∙◌}
use Rattle.std.proofs.lemmas.Iterator.{YieldsList-from_slice, YieldsList-from_zip}
use Rattle.std.proofs.lemmas.Iterator.Search.{any_from_yields_List}
use Rattle.std.proofs.Common.{rules}
use Rattle.ranges.proofs.RegisterLaws.{crosses, some_cross}
use Rattle.ranges.proofs.registers.crossed.Goals as goal

pub returns : goal.returns
returns c =
    any_from_yields_List {s = c.zip.result} crosses c.any.new.self _ _ c.any.ensures.ran
    (YieldsList-from_zip {s = c.zip.result} (YieldsList-from_slice {s = c.zip.result.a} c.args.lowest.now cc) (YieldsList-from_slice {s = c.zip.result.b} c.args.highest.now cc)) (λ x b q called. search rules)
    ∙ some_cross c.args.lowest.now c.args.highest.now
