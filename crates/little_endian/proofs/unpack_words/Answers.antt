-- The words one by one.
use Rattle.std.proofs.Common.{length, arith}
use Rattle.little_endian.proofs.LoopLaws.{unpack_starts, unpack_next, unpack_ends}
use Rattle.little_endian.proofs.unpack_words.Goals as goal

pub loop-i-init : goal.loop-i-init
loop-i-init c = unpack_starts 4 c.args.bytes.now c.args.words.now

pub loop-i-preserved : goal.loop-i-preserved
loop-i-preserved c =
    unpack_next 4 (length c.args.words.now) c.loop-i.i c.word_at.result c.args.bytes.now c.loop-i.words _ (omega arith) c.word_at.ensures c.loop-i.invariant

pub returns : goal.returns
returns c = unpack_ends 4 (length c.args.words.now) c.loop-i.i c.args.bytes.now c.loop-i.words _ (omega arith) c.loop-i.invariant
