-- What is still to be written, written over what stands there, is what was wanted.
use Rattle.std.proofs.Common.{◌≡◌, ◌-◌, ◌*◌, length, drop}
use Rattle.std.proofs.lemmas.List.Edits.{sets}
use Rattle.little_endian.specs.Numbers.{numbers}
use Rattle.little_endian.proofs.unpack_words.Given as goal

abbrev pub invariant-loop-i : goal.invariant-loop-i
invariant-loop-i l =
    sets l.words l.i (numbers 4 (length l.initial.words - l.i) (drop (4 * l.i) l.bytes)) ≡ numbers 4 (length l.initial.words) l.bytes
