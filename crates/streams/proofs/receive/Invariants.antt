-- The loop of reads: whatever those that are left come to, all come to, and what was read is at the start of the buffer.
use Rattle.std.proofs.Common.{◌≡◌, length, ◌+◌, ◌-◌, take}
use Rattle.std.specs.Io.KnownBytes.{Consumes}
use Rattle.streams.proofs.LoopLaws.{TransferredSoFar}
use Rattle.streams.proofs.receive.Given as goal

abbrev pub invariant-loop-left : goal.invariant-loop-left
invariant-loop-left g l = record {
  same_length : length l.input ≡ length l.fn.input;
  so_far : TransferredSoFar (length l.fn.input) l.left;
  bytes : Consumes (g.R.Read.remaining l.fn.reader) (g.R.Read.remaining l.reader) (take (length l.input - l.left.bytes) l.input);
}

abbrev pub decreases-loop-left : goal.decreases-loop-left
decreases-loop-left g l = l.left.bytes + l.left.interruptions
