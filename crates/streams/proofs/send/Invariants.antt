-- The loop of writes: whatever those that are left come to, all come to, and what was written is the start of the buffer.
use Rattle.std.proofs.Common.{length, ◌+◌, ◌-◌, take}
use Rattle.std.specs.Io.KnownBytes.{Appends}
use Rattle.streams.proofs.LoopLaws.{TransferredSoFar}
use Rattle.streams.proofs.send.Given as goal

abbrev pub invariant-loop-left : goal.invariant-loop-left
invariant-loop-left g l = record {
  so_far : TransferredSoFar (length l.output) l.left;
  bytes : Appends (g.W.Write.contents l.fn.writer) (g.W.Write.contents l.writer) (take (length l.output - l.left.bytes) l.output);
}

abbrev pub decreases-loop-left : goal.decreases-loop-left
decreases-loop-left g l = l.left.bytes + l.left.interruptions
