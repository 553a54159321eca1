-- The children of a node as the code has them: so many of one sort, and behind them so many of another.
use Rattle.std.specs.Prelude.{List, ◌++◌, replicate}
use Rattle.rules.specs.declared.kinds.Sort.{Sort}
use Rattle.reader.specs.declared.tables.Children.{Children}

-- The sort of each.
abbrev pub sorts_of_children : Children → List Sort
sorts_of_children c = replicate c.firsts c.first ++ replicate c.others c.other
