-- The values one by one, from a place on.
use Rattle.std.proofs.Common.{ℕ, ◌≡◌, ◌+◌, ◌*◌, List, length, take, drop, sym, ap, ◌∙◌, arith, drop-drop}
use Rattle.little_endian.specs.Numbers.{little_endian}
use Rattle.little_endian.proofs.LoopLaws.{unpack_starts, unpack_next, unpack_ends}
use Rattle.little_endian.proofs.unpack_values.Goals as goal

behind : (bytes : List ℕ) (from i : ℕ) → little_endian (take 8 (drop (from + 8 * i) bytes)) ≡ little_endian (take 8 (drop (8 * i) (drop from bytes)))
behind bytes from i = ap (λ r. little_endian (take 8 r)) (sym (drop-drop (8 * i) from bytes))

pub loop-i-init : goal.loop-i-init
loop-i-init c = unpack_starts 8 (drop c.args.from c.args.bytes.now) c.args.values.now

pub loop-i-preserved : goal.loop-i-preserved
loop-i-preserved c =
    unpack_next 8 (length c.args.values.now) c.loop-i.i c.value_at.result (drop c.args.from c.args.bytes.now) c.loop-i.values _ (omega arith) (c.value_at.ensures ∙ behind c.args.bytes.now c.args.from c.loop-i.i) c.loop-i.invariant

pub returns : goal.returns
returns c = unpack_ends 8 (length c.args.values.now) c.loop-i.i (drop c.args.from c.args.bytes.now) c.loop-i.values _ (omega arith) c.loop-i.invariant
