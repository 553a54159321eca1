-- The proof of `read_node`: it answers what the reader of Scan.antt reads. The measure is the levels that are left. The loop over the
-- children keeps what was read so far (SiblingLaws.antt).
use Prim.Native.Nat.{◌-◌}
use Rattle.reader.specs.Children.{sorts_of_children}
use Rattle.reader.proofs.SiblingLaws.{ReadSoFar}
use Rattle.reader.proofs.+read_node.Given as goal

abbrev pub invariant-loop-index : goal.invariant-loop-index
invariant-loop-index l = ReadSoFar l.image l.n l.initial.end (sorts_of_children l.children) (l.levels - 1) l.initial.work l.work l.index l.end

abbrev pub decreases-read_node : goal.decreases-read_node
decreases-read_node l = l.levels
