-- The proof of `put_trees`, which calls itself for the children of each root. The measure is how many nodes there are, and falls from a tree
-- to its children.
use native.Mathlib.Omega.{arith}
use Rattle.page.proofs.TreeLaws.{line_put_length, none_put, so_far_length, within, node_low, depth_low, line_here, end_within, children_here, one_more_put, all_put}
use Rattle.page.proofs.+put_trees.Goals as goal

pub loop-node-init : goal.loop-node-init
loop-node-init t c = none_put _ _ _ _ _

pub end-after-requires : goal.end-after-requires
end-after-requires t c =
    omega (arith, node_low c.loop-node.invariant c.requires.some_trees c.loop-node-test.true, c.requires.most_nodes_in_bounds)

pub put_line-requires : goal.put_line-requires
put_line-requires t c = record {
  most_nodes_in_bounds = c.requires.most_nodes_in_bounds;
  line_bytes_in_bounds = omega (arith, c.loop-node-test.true, c.requires.next_in_bounds, so_far_length c.loop-node.invariant c.requires.some_trees);
  some_line = line_here c.loop-node.invariant c.requires.some_trees c.loop-node-test.true _ c.end-after.ensures;
}

pub overflow_add-depth : goal.overflow_add-depth
overflow_add-depth t c =
    record { fits = omega (arith, depth_low c.loop-node.invariant c.requires.some_trees c.loop-node-test.true) }

pub put_trees-requires : goal.put_trees-requires
put_trees-requires t c =
    let here = line_here c.loop-node.invariant c.requires.some_trees c.loop-node-test.true _ c.end-after.ensures in
    let ends = end_within c.loop-node.invariant c.requires.some_trees c.loop-node-test.true _ c.end-after.ensures in
    let room = so_far_length c.loop-node.invariant c.requires.some_trees in
    let same = line_put_length _ here c.put_line.ensures in (
      omega (arith, c.decreases, ends.0, ends.1, (within c.loop-node.invariant c.requires.some_trees).0),
      (c.requires.most_nodes_in_bounds, (omega (arith, ends.1, c.requires.next_in_bounds, room, same), children_here c.loop-node.invariant c.requires.some_trees c.loop-node-test.true _ c.end-after.ensures)),
    )

pub loop-node-smaller : goal.loop-node-smaller
loop-node-smaller t c =
    let ends = end_within c.loop-node.invariant c.requires.some_trees c.loop-node-test.true _ c.end-after.ensures in
    omega (arith, ends.0, ends.1, c.loop-node-test.true)

pub loop-node-preserved : goal.loop-node-preserved
loop-node-preserved t c =
    one_more_put c.loop-node.invariant _ _ _ c.loop-node-test.true c.end-after.ensures c.put_line.ensures c.put_trees.ensures

pub returns : goal.returns
returns t c = all_put c.loop-node.invariant c.loop-node-test.false
