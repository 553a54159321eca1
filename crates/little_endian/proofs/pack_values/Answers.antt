-- The bytes of the values one by one.
use Rattle.std.proofs.Common.{refl, arith}
use Rattle.little_endian.proofs.LoopLaws.{pack_starts, pack_next, pack_ends}
use Rattle.little_endian.proofs.pack_values.Goals as goal

pub loop-i-init : goal.loop-i-init
loop-i-init c = pack_starts c.args.values.now c.args.bytes.now c.requires

pub loop-i-preserved : goal.loop-i-preserved
loop-i-preserved c = pack_next c.loop-i.i _ c.args.values.now c.loop-i.bytes _ _ (omega arith) refl c.put_value.ensures c.loop-i.invariant

pub returns : goal.returns
returns c = pack_ends c.loop-i.i c.args.values.now c.loop-i.bytes _ (omega arith) c.loop-i.invariant
