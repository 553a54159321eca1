-- What is still to be written, written over what stands there, is what was wanted.
use Rattle.std.proofs.Common.{◌≡◌, ◌*◌, drop}
use Rattle.std.proofs.lemmas.List.Edits.{sets}
use Rattle.little_endian.specs.Numbers.{bytes_of_words}
use Rattle.little_endian.proofs.pack_values.Given as goal

abbrev pub invariant-loop-i : goal.invariant-loop-i
invariant-loop-i l = sets l.bytes (8 * l.i) (bytes_of_words (drop l.i l.values)) ≡ bytes_of_words l.values
