-- The proof of `put_trees`, which calls itself for the children of each root. The measure is how many nodes there are, and falls from a tree
-- to its children.
use Prim.Native.Nat.{◌-◌}
use Rattle.page.proofs.TreeLaws.{SoFar}
use Rattle.page.proofs.+put_trees.Given as goal

abbrev pub invariant-loop-node : goal.invariant-loop-node
invariant-loop-node l = SoFar l.work l.initial.page l.depth l.first l.next l.node l.page

abbrev pub decreases-loop-node : goal.decreases-loop-node
decreases-loop-node l = l.next - l.node

abbrev pub decreases-put_trees : goal.decreases-put_trees
decreases-put_trees l = l.next - l.first
