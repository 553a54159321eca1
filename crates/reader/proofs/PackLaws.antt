-- The fields of a node's word: what each holds fits it and comes back from it, and the word has 64 bits.
use Rattle.std.specs.Prelude.{ℕ, ◌^◌, ◌<◌, ◌≤◌, ◌≡◌}
use Rattle.std.proofs.Common.{arith}
use Rattle.rules.specs.paper.Limits.{most_nodes, words}
use Rattle.reader.specs.Pack.{kinds_room, kind_bits, end_bits, pack, packed_kind, packed_end, packed_operand}

-- A kind and an end fit their 16 bits: kinds are below 64, and no end is above the most nodes.
pub kind_fits : (k : ℕ) → k < kinds_room → k < 2 ^ kind_bits
kind_fits k h = omega arith

pub end_fits : (e : ℕ) → e ≤ most_nodes → e < 2 ^ end_bits
end_fits e h = omega arith

-- What fits comes back, whatever the other fields hold.
pub kind_back : (k w e : ℕ) → k < 2 ^ kind_bits → packed_kind (pack k w e) ≡ k
kind_back k w e g = omega arith

pub end_back : (k w e : ℕ) → k < 2 ^ kind_bits → e < 2 ^ end_bits → packed_end (pack k w e) ≡ e
end_back k w e g h = omega arith

pub operand_back : (k w e : ℕ) → k < 2 ^ kind_bits → e < 2 ^ end_bits → packed_operand (pack k w e) ≡ w
operand_back k w e g h = omega arith

-- Whatever a word holds, its end's field gives a number of 16 bits.
pub packed_end_fits : (x : ℕ) → packed_end x < 2 ^ end_bits
packed_end_fits x = omega arith

-- A work word holds all three.
pub pack_fits : (k w e : ℕ) → k < 2 ^ kind_bits → w < words → e < 2 ^ end_bits → pack k w e < 2 ^ 64
pack_fits k w e g f h = omega arith
