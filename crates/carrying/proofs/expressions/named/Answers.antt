-- An expression that names something: the row of its name, and the cells from there.
use mathlib.Core.Path.{sym, ◌∙◌}
use Rattle.carrying.proofs.LeafLaws.{id_not_deref, leaf_names, some_found, row_found, deref_gives, plain_gives, cell_among, contents_gives, shown_among, shown_gives}
use Rattle.carrying.proofs.expressions.named.Goals as goal

pub unreachable-requires : goal.unreachable-requires
unreachable-requires c = some_found _ _ _ _ c.in_default.ensures.found_at (leaf_names _ _ _ _ c.operand-name.ensures _ c.requires.kind_is c.requires.names c.requires.some_leaf.3 c.requires.some_leaf.5) c.requires.some_leaf.4 c.requires.some_leaf.3.sees

pub row_value-bound-requires-clause-le_at : goal.row_value-bound-requires-clause-le_at
row_value-bound-requires-clause-le_at c =
    let found = row_found _ _ _ _ _ c.in-Some.ensures.found_at (leaf_names _ _ _ _ c.operand-name.ensures _ c.requires.kind_is c.requires.names c.requires.some_leaf.3 c.requires.some_leaf.5) c.requires.some_leaf.4 c.requires.some_leaf.3.sees in found.0

pub returns-then-bound-ne-LOCATION : goal.returns-then-bound-ne-LOCATION
returns-then-bound-ne-LOCATION c = λ e A K there leaf. plain_gives _ _ _ _ _ c.in-Some.ensures.found_at _ c.row_value-bound.ensures c.if-bound-ne-LOCATION.true there.sees (leaf_names _ _ _ _ c.operand-name.ensures _ c.requires.kind_is c.requires.names there leaf)

pub returns-in-DeRef : goal.returns-in-DeRef
returns-in-DeRef c = λ e A K there leaf. deref_gives _ _ _ _ _ c.in-Some.ensures.found_at _ c.row_value-bound.ensures there.sees c.in-DeRef.is (leaf_names _ _ _ _ c.operand-name.ensures _ c.requires.kind_is c.requires.names there leaf)

pub contents-requires-clause-at_lt_most_cells : goal.contents-requires-clause-at_lt_most_cells
contents-requires-clause-at_lt_most_cells c =
    cell_among _ _ _ _ _ c.in-Some.ensures.found_at _ c.row_value-bound.ensures c.if-bound-ne-LOCATION.false c.requires.some_leaf.3.sees (λ q. id_not_deref (sym c.in-Id.is ∙ q)) (leaf_names _ _ _ _ c.operand-name.ensures _ c.requires.kind_is c.requires.names c.requires.some_leaf.3 c.requires.some_leaf.5) c.requires.some_leaf.4

pub returns-in-Id : goal.returns-in-Id
returns-in-Id c = λ e A K there leaf. contents_gives _ _ _ _ _ c.in-Some.ensures.found_at _ c.row_value-bound.ensures c.if-bound-ne-LOCATION.false _ c.contents.ensures there.sees c.in-Id.is (leaf_names _ _ _ _ c.operand-name.ensures _ c.requires.kind_is c.requires.names there leaf)

pub contents-held-requires : goal.contents-held-requires
contents-held-requires c = record {
  regions_end_in_bounds = c.requires.regions_end_in_bounds;
  at_lt_most_cells = cell_among _ _ _ _ _ c.in-Some.ensures.found_at _ c.row_value-bound.ensures c.if-bound-ne-LOCATION.false c.requires.some_leaf.3.sees c.in_default-kind.not-DeRef (leaf_names _ _ _ _ c.operand-name.ensures _ c.requires.kind_is c.requires.names c.requires.some_leaf.3 c.requires.some_leaf.5) c.requires.some_leaf.4;
}

pub contents-requires-in_default-kind : goal.contents-requires-in_default-kind
contents-requires-in_default-kind c = record {
  regions_end_in_bounds = c.requires.regions_end_in_bounds;
  at_lt_most_cells = shown_among _ _ _ _ _ c.in-Some.ensures.found_at _ c.row_value-bound.ensures c.if-bound-ne-LOCATION.false _ c.contents-held.ensures c.requires.some_leaf.3.sees c.in_default-kind.not-DeRef c.in_default-kind.not-Id (leaf_names _ _ _ _ c.operand-name.ensures _ c.requires.kind_is c.requires.names c.requires.some_leaf.3 c.requires.some_leaf.5) c.requires.some_leaf.4;
}

pub returns-in_default-kind : goal.returns-in_default-kind
returns-in_default-kind c =
    λ e A K there leaf. shown_gives _ _ _ _ _ c.in-Some.ensures.found_at _ c.row_value-bound.ensures c.if-bound-ne-LOCATION.false _ c.contents-held.ensures _ c.contents-in_default-kind.ensures there.sees c.in_default-kind.not-DeRef c.in_default-kind.not-Id (leaf_names _ _ _ _ c.operand-name.ensures _ c.requires.kind_is c.requires.names there leaf)
