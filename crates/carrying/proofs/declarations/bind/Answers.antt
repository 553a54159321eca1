-- The proof of `bind`: what stands after the node is an Abs, a Ref or an expression, and the name is put on the names with its function, its new cell or
-- its value.
use Prim.Native.Nat.{◌+◌}
use mathlib.Core.Path.{◌≡◌, refl, sym, ap, ◌∙◌, subst}
use native.Mathlib.Omega.{arith}
use lib.ListN.{get_or}
use Rattle.std.proofs.lemmas.Result.{err_from_is_err_and}
use Rattle.rules.specs.paper.Kinds.{kind_number}
use Rattle.rules.specs.declared.kinds.Kind.TheVariants.{Ref as ref, Abs as abs}
use Rattle.reader.specs.KindNumbers.{ref_number, abs_number}
use Rattle.reader.specs.Pack.{packed_kind}
use Rattle.reader.proofs.NodeKindLaws.{kinds_told}
use Rattle.carrying.specs.Frames.{PutRow}
use Rattle.carrying.proofs.FrameLaws.{keeps_all, keeps_all_cells}
use Rattle.carrying.proofs.DeclarationLaws.{bind_row, known_bound_there, function_bound, function_keeps, referent_there, reference_bound, reference_keeps, reference_unsafe, value_there, value_sort, value_bound, value_keeps, value_unsafe}
use Rattle.carrying.proofs.declarations.bind.Goals as goal

pub node_kind-requires-clause-known : goal.node_kind-requires-clause-known
node_kind-requires-clause-known c = known_bound_there _ _ _ c.requires.some_bind

pub put_row-requires-clause-row_lt_most_bindings : goal.put_row-requires-clause-row_lt_most_bindings
put_row-requires-clause-row_lt_most_bindings c =
    let row = bind_row _ _ _ c.requires.some_bind in row.0

pub with_row-requires : goal.with_row-requires
with_row-requires c = (bind_row _ _ _ c.requires.some_bind).0

pub returns-in-Abs-clause-declaration_carried : goal.returns-in-Abs-clause-declaration_carried
returns-in-Abs-clause-declaration_carried c =
    let is_abs = sym c.node_kind.ensures ∙ ap kind_number c.in-Abs.is in
    let keeps = function_keeps _ _ _ _ _ c.operand-name.ensures refl is_abs _ c.put_row.ensures c.requires.some_bind in
    rw c.with_row.ensures (function_bound _ _ _ _ _ c.operand-name.ensures refl is_abs _ c.put_row.ensures c.requires.some_bind)

pub returns-in-Abs-clause-keeps : goal.returns-in-Abs-clause-keeps
returns-in-Abs-clause-keeps c =
    let is_abs = sym c.node_kind.ensures ∙ ap kind_number c.in-Abs.is in
    let keeps = function_keeps _ _ _ _ _ c.operand-name.ensures refl is_abs _ c.put_row.ensures c.requires.some_bind in keeps.0

pub expression-requires-clause-some_expression : goal.expression-requires-clause-some_expression
expression-requires-clause-some_expression c =
    let is_ref = sym c.node_kind.ensures ∙ ap kind_number c.in-Ref.is in (referent_there _ _ _ _ _ c.operand-name.ensures refl is_ref c.requires.some_bind).0

pub returns-in_err-made-in-Ref-clause-declaration_carried : goal.returns-in_err-made-in-Ref-clause-declaration_carried
returns-in_err-made-in-Ref-clause-declaration_carried c =
    let is_ref = sym c.node_kind.ensures ∙ ap kind_number c.in-Ref.is in
    let p = err_from_is_err_and c.from_residual.result c.from_residual.ensures.1 in
    rw (p.1, p.2) (reference_unsafe _ _ _ _ _ c.operand-name.ensures refl is_ref _ c.in_err-made-in-Ref.ensures c.requires.some_bind)

pub put_cell-requires-clause-at_lt_most_cells : goal.put_cell-requires-clause-at_lt_most_cells
put_cell-requires-clause-at_lt_most_cells c =
    let is_ref = sym c.node_kind.ensures ∙ ap kind_number c.in-Ref.is in (referent_there _ _ _ _ _ c.operand-name.ensures refl is_ref c.requires.some_bind).1

pub put_row-requires-in-Ref-clause-row_lt_most_bindings : goal.put_row-requires-in-Ref-clause-row_lt_most_bindings
put_row-requires-in-Ref-clause-row_lt_most_bindings c =
    let row = bind_row _ _ _ c.requires.some_bind in row.0

pub with_row-requires-in-Ref : goal.with_row-requires-in-Ref
with_row-requires-in-Ref c = (bind_row _ _ _ c.requires.some_bind).0

pub with_cell-requires : goal.with_cell-requires
with_cell-requires c =
    let is_ref = sym c.node_kind.ensures ∙ ap kind_number c.in-Ref.is in
    rw c.with_row-in-Ref.ensures (referent_there _ _ _ _ _ c.operand-name.ensures refl is_ref c.requires.some_bind).1

pub returns-in_ok-made-in-Ref-clause-declaration_carried : goal.returns-in_ok-made-in-Ref-clause-declaration_carried
returns-in_ok-made-in-Ref-clause-declaration_carried c =
    let is_ref = sym c.node_kind.ensures ∙ ap kind_number c.in-Ref.is in
    let put = subst (PutRow _ _ _ _ _) c.location.ensures c.put_row-in-Ref.ensures in
    let keeps = reference_keeps _ _ _ _ _ c.operand-name.ensures refl is_ref _ c.in_ok-made-in-Ref.ensures _ _ c.put_cell.ensures put c.requires.some_bind in
    rw (c.with_cell.ensures, c.with_row-in-Ref.ensures) (reference_bound _ _ _ _ _ c.operand-name.ensures refl is_ref _ c.in_ok-made-in-Ref.ensures _ _ c.put_cell.ensures put c.requires.some_bind)

pub returns-in_ok-made-in-Ref-clause-keeps : goal.returns-in_ok-made-in-Ref-clause-keeps
returns-in_ok-made-in-Ref-clause-keeps c =
    let is_ref = sym c.node_kind.ensures ∙ ap kind_number c.in-Ref.is in
    let put = subst (PutRow _ _ _ _ _) c.location.ensures c.put_row-in-Ref.ensures in
    let keeps = reference_keeps _ _ _ _ _ c.operand-name.ensures refl is_ref _ c.in_ok-made-in-Ref.ensures _ _ c.put_cell.ensures put c.requires.some_bind in keeps.0

pub returns-in_ok-made-in-Ref-clause-keeps_cells : goal.returns-in_ok-made-in-Ref-clause-keeps_cells
returns-in_ok-made-in-Ref-clause-keeps_cells c =
    let is_ref = sym c.node_kind.ensures ∙ ap kind_number c.in-Ref.is in
    let put = subst (PutRow _ _ _ _ _) c.location.ensures c.put_row-in-Ref.ensures in
    let keeps = reference_keeps _ _ _ _ _ c.operand-name.ensures refl is_ref _ c.in_ok-made-in-Ref.ensures _ _ c.put_cell.ensures put c.requires.some_bind in keeps.1

pub expression-requires-in_default : goal.expression-requires-in_default
expression-requires-in_default c =
    let not_abs = λ (q : packed_kind (get_or c.args.work.now (c.args.node + 1) 0) ≡ abs_number). c.in_default.not-Abs (kinds_told c.node_kind.result abs (c.node_kind.ensures ∙ q)) in
    let not_ref = λ (q : packed_kind (get_or c.args.work.now (c.args.node + 1) 0) ≡ ref_number). c.in_default.not-Ref (kinds_told c.node_kind.result ref (c.node_kind.ensures ∙ q)) in
    record {
      regions_end_in_bounds = c.requires.regions_end_in_bounds;
      some_expression = value_there _ _ _ _ _ c.operand-name.ensures refl not_abs not_ref c.requires.some_bind;
    }

pub returns-in_err-given-in_default : goal.returns-in_err-given-in_default
returns-in_err-given-in_default c =
    let not_abs = λ (q : packed_kind (get_or c.args.work.now (c.args.node + 1) 0) ≡ abs_number). c.in_default.not-Abs (kinds_told c.node_kind.result abs (c.node_kind.ensures ∙ q)) in
    let not_ref = λ (q : packed_kind (get_or c.args.work.now (c.args.node + 1) 0) ≡ ref_number). c.in_default.not-Ref (kinds_told c.node_kind.result ref (c.node_kind.ensures ∙ q)) in
    let p = err_from_is_err_and c.from_residual-in_err-given-in_default.result c.from_residual-in_err-given-in_default.ensures.1 in
    rw (p.1, p.2) (record {
      declaration_carried = value_unsafe _ _ _ _ _ c.operand-name.ensures refl not_abs not_ref _ c.in_err-given-in_default.ensures c.requires.some_bind;
      keeps = keeps_all _ _ _;
      keeps_cells = keeps_all_cells _ _;
    })

pub put_row-requires-in_default : goal.put_row-requires-in_default
put_row-requires-in_default c =
    let not_abs = λ (q : packed_kind (get_or c.args.work.now (c.args.node + 1) 0) ≡ abs_number). c.in_default.not-Abs (kinds_told c.node_kind.result abs (c.node_kind.ensures ∙ q)) in
    let not_ref = λ (q : packed_kind (get_or c.args.work.now (c.args.node + 1) 0) ≡ ref_number). c.in_default.not-Ref (kinds_told c.node_kind.result ref (c.node_kind.ensures ∙ q)) in
    let row = bind_row _ _ _ c.requires.some_bind in record {
      regions_end_in_bounds = c.requires.regions_end_in_bounds;
      row_lt_most_bindings = row.0;
      name_lt_names = omega (arith, c.operand-name.ensures, row.1);
      below_le_most_bindings = row.2;
      sort_lt_sorts = value_sort _ _ _ _ _ c.operand-name.ensures refl not_abs not_ref _ c.in_ok-given-in_default.ensures c.requires.some_bind;
    }

pub with_row-requires-in_default : goal.with_row-requires-in_default
with_row-requires-in_default c = (bind_row _ _ _ c.requires.some_bind).0

pub returns-in_ok-given-in_default : goal.returns-in_ok-given-in_default
returns-in_ok-given-in_default c =
    let not_abs = λ (q : packed_kind (get_or c.args.work.now (c.args.node + 1) 0) ≡ abs_number). c.in_default.not-Abs (kinds_told c.node_kind.result abs (c.node_kind.ensures ∙ q)) in
    let not_ref = λ (q : packed_kind (get_or c.args.work.now (c.args.node + 1) 0) ≡ ref_number). c.in_default.not-Ref (kinds_told c.node_kind.result ref (c.node_kind.ensures ∙ q)) in
    let keeps = value_keeps _ _ _ _ _ c.operand-name.ensures refl not_abs not_ref _ c.in_ok-given-in_default.ensures _ c.put_row-in_default.ensures c.requires.some_bind in
    rw c.with_row-in_default.ensures (record {
      declaration_carried = value_bound _ _ _ _ _ c.operand-name.ensures refl not_abs not_ref _ c.in_ok-given-in_default.ensures _ c.put_row-in_default.ensures c.requires.some_bind;
      keeps = keeps.0;
      keeps_cells = keeps.1;
    })
