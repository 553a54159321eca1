-- The letters of a kind's name, copied into their columns, and a blank behind them.
use Prim.Native.Nat.{ℕ, ◌+◌, ◌<◌}
use mathlib.Core.Path.{◌≡◌, sym, ap, ◌∙◌}
use mathlib.Core.List.{List, [], ◌∷◌, ◌++◌}
use native.Mathlib.Omega.{arith}
use lib.ListN.{length, set}
use borrow.Rule.Slice.PartMut.{put_mid}
use Rattle.rules.specs.declared.kinds.Kind.{Kind}
use Rattle.reader.specs.Put.{put, put_append}
use Rattle.page.specs.Page.{name_columns, blank}
use Rattle.page.specs.Writing.{IsName, NamePut}
use Rattle.page.proofs.PutLaws.{put_over, set_one}

pub name_written : (before letters : List ℕ) (kind : Kind) (at : ℕ) → IsName kind letters → length letters ≡ name_columns → at + name_columns < length before →
    NamePut kind at before (set (put_mid at name_columns before letters) (at + name_columns) blank)
name_written before letters kind at name sized room =
    ap (λ l. set l (at + name_columns) blank) (put_over at name_columns letters before sized (omega (arith, room)))
    ∙ set_one (at + name_columns) blank (put at letters before)
    ∙ ap (λ n. put n (blank ∷ []) (put at letters before)) (ap (λ n. at + n) (sym sized))
    ∙ put_append at letters (blank ∷ []) before
    ∙ ap (λ l. put at (l ++ (blank ∷ [])) before) name
