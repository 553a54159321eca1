-- The registers by their length.
use Prim.Native.Nat.{ℕ, ◌/◌, ◌≤◌}
use mathlib.Core.Path.{◌≡◌, sym}
use native.Mathlib.Omega.{arith}
use lib.ListN.{length, take, replicate}
use lib.Seq.{length-take-le}
use Rattle.engine.specs.Bytes.{too_many_registers}
use Rattle.rules.specs.paper.Limits.{most_registers}
use Rattle.engine.specs.BytesKept.{count_whole}
use Rattle.engine.proofs.BytesRun.{odd_bytes, many_bytes, some_bytes, no_registers, some_registers}
use Rattle.engine.proofs.bytes.run_registers.Goals as goal

few_values : (count : ℕ) → count ≤ most_registers → length {A = ℕ} (take count (replicate too_many_registers 0)) ≡ count
few_values count h = length-take-le {A = ℕ} count (replicate too_many_registers 0) (omega (arith, h))

pub returns-then-registers-ne0 : goal.returns-then-registers-ne0
returns-then-registers-ne0 c =
    no_registers c.args.image.now c.args.registers.now c.args.budget c.args.work.now _ _ _ (odd_bytes _ c.if-registers-ne0.true) c.pi_run.ensures

pub returns-then-count-gt-MOST_REGISTERS : goal.returns-then-count-gt-MOST_REGISTERS
returns-then-count-gt-MOST_REGISTERS c =
    no_registers c.args.image.now c.args.registers.now c.args.budget c.args.work.now _ _ _ (many_bytes _ c.if-registers-ne0.false c.if-count-gt-MOST_REGISTERS.true) c.pi_run-then-count-gt-MOST_REGISTERS.ensures

pub slice_bounds-run_values-end : goal.slice_bounds-run_values-end
slice_bounds-run_values-end c = sym (few_values (length c.args.registers.now / 8) c.if-count-gt-MOST_REGISTERS.false)

pub run_values-requires : goal.run_values-requires
run_values-requires c =
    let bytes = length c.args.registers.now in
    omega (arith, few_values (bytes / 8) c.if-count-gt-MOST_REGISTERS.false, count_whole 8 most_registers bytes (some_bytes bytes c.if-registers-ne0.false c.if-count-gt-MOST_REGISTERS.false))

pub returns : goal.returns
returns c =
    let bytes = length c.args.registers.now in
    some_registers c.args.image.now c.args.registers.now c.args.budget c.args.work.now _ _ _ _ (some_bytes bytes c.if-registers-ne0.false c.if-count-gt-MOST_REGISTERS.false) (few_values (bytes / 8) c.if-count-gt-MOST_REGISTERS.false) c.run_values.ensures
