-- The shape first, then scope and types of the tree that was read.
use Rattle.std.proofs.Common.{rules}
use Rattle.loader.proofs.LoadLaws.{shape_refused, tree_read, root_passes, root_refused}
use Rattle.loader.proofs.load.Goals as goal

pub returns-in_err-nodes : goal.returns-in_err-nodes
returns-in_err-nodes c = shape_refused _ _ _ _ c.read_image.ensures _ c.in_err-nodes.was _ (search rules)

pub root-requires-clause-root_at : goal.root-requires-clause-root_at
root-requires-clause-root_at c =
    let read = tree_read _ _ _ _ c.read_image.ensures _ c.requires c.in_ok-nodes.was in
    (read.tree, read.stands)

pub returns-in_err-root : goal.returns-in_err-root
returns-in_err-root c =
    let judged = tree_read _ _ _ _ c.read_image.ensures _ c.requires c.in_ok-nodes.was in
    root_refused _ _ _ _ _ _ _ judged c.root.ensures.writes_rows_from _ c.root.ensures.root_judged_at _ c.in_err-root.was _ (search rules)

pub returns : goal.returns
returns c =
    let passed = tree_read _ _ _ _ c.read_image.ensures _ c.requires c.in_ok-nodes.was in
    root_passes _ _ _ _ _ _ _ passed c.root.ensures.writes_rows_from _ c.root.ensures.root_judged_at _ c.in_ok-root.was
