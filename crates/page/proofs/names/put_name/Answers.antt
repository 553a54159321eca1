-- The letters of a kind's name are copied into their columns, and a blank behind them.
use Prim.Native.Nat.{◌+◌, ◌-◌}
use mathlib.Core.Path.{◌≡◌}
use native.Mathlib.Omega.{arith}
use borrow.Author.Rules.{rules}
use Rattle.page.proofs.NameLaws.{name_written}
use Rattle.page.proofs.names.put_name.Goals as goal

pub returns : goal.returns
returns c =
    let columns : c.args.at + 6 - c.args.at ≡ 6 = omega arith in
    rw (c.copy_from_slice.ensures.after, columns) (name_written _ _ _ _ c.name.ensures (search rules) c.requires)
