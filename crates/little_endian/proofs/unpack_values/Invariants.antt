-- What is still to be written, written over what stands there, is what was wanted.
use Rattle.std.proofs.Common.{◌≡◌, ◌-◌, ◌*◌, length, drop}
use Rattle.std.proofs.lemmas.List.Edits.{sets}
use Rattle.little_endian.specs.Numbers.{numbers}
use Rattle.little_endian.proofs.unpack_values.Given as goal

abbrev pub invariant-loop-i : goal.invariant-loop-i
invariant-loop-i l =
    sets l.values l.i (numbers 8 (length l.initial.values - l.i) (drop (8 * l.i) (drop l.from l.bytes))) ≡ numbers 8 (length l.initial.values) (drop l.from l.bytes)
