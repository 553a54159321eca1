-- `passing` makes the checks in their order.
use mathlib.Core.Path.{◌≡◌, sym, subst, ◌∙◌}
use Rattle.std.specs.Prelude.{Result, Ok}
use Rattle.rules.specs.declared.refusals.Refused.{Refused}
use Rattle.reader.specs.declared.tables.Row.{Row}
use Rattle.reader.specs.Rows.{row_for}
use native.Mathlib.Omega.{arith}
use Rattle.reader.proofs.PassingLaws.{unknown_kind, wrong_sort, wrong_operand, passes}
use Rattle.reader.proofs.RowLaws.{row_there, row_missing, bound_of}
use Rattle.reader.proofs.tables.passing.Goals as goal

pub has_sort-requires : goal.has_sort-requires
has_sort-requires c = (row_there _ _ (sym c.row_numbered.ensures ∙ c.in-Some.is)).of_table

pub returns-in_default-clause-kind : goal.returns-in_default-clause-kind
returns-in_default-clause-kind c = sym (unknown_kind _ _ _ _ (row_missing _ (sym c.row_numbered.ensures ∙ c.in_default.is)))

pub returns-then-not-has_sort-clause-kind : goal.returns-then-not-has_sort-clause-kind
returns-then-not-has_sort-clause-kind c =
    sym (wrong_sort _ _ _ _ _ (row_there _ _ (sym c.row_numbered.ensures ∙ c.in-Some.is)).numbered (sym c.has_sort.ensures ∙ c.if-not-has_sort.true))

pub returns-then-row-operand-clause-kind : goal.returns-then-row-operand-clause-kind
returns-then-row-operand-clause-kind c =
    let there = row_there _ _ (sym c.row_numbered.ensures ∙ c.in-Some.is) in
    sym (wrong_operand _ _ _ _ _ there.numbered (sym c.has_sort.ensures ∙ c.if-not-has_sort.false) (omega (arith, bound_of _ there.of_table)))

pub returns-clause-kind : goal.returns-clause-kind
returns-clause-kind c =
    let there = row_there _ _ (sym c.row_numbered.ensures ∙ c.in-Some.is) in
    sym (passes _ _ _ _ _ there.numbered (sym c.has_sort.ensures ∙ c.if-not-has_sort.false) (omega (arith, bound_of _ there.of_table)))

pub returns-clause-row : goal.returns-clause-row
returns-clause-row c = λ r same. by c.in-Some.row (row_there _ _ (sym c.row_numbered.ensures ∙ c.in-Some.is)).of_table r same
  where
    by : (a : Row) → a ≡ row_for a.kind → (b : Row) → ◌≡◌ {A = Result Row Refused} (Ok a) (Ok b) → b ≡ row_for b.kind
    by a q b e = let same : a ≡ b = cc in subst (λ s. s ≡ row_for s.kind) same q
