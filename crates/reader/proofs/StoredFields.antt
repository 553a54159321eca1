-- The fields of a node's word are those that it was packed of.
use Rattle.std.specs.Prelude.{ℕ, ◌<◌, ◌≡◌, List, get_or}
use Rattle.std.proofs.Common.{ap, ◌∙◌}
use Rattle.reader.specs.Pack.{kinds_room, packed_kind, packed_end, packed_operand}
use Rattle.reader.specs.Stored.{HasWord}
use Rattle.reader.proofs.PackLaws.{kind_fits, end_fits, kind_back, end_back, operand_back}

pub kind_is : {words : List ℕ} {i k w e : ℕ} → HasWord words i k w e → k < kinds_room → packed_kind (get_or words i 0) ≡ k
kind_is {k = k} {w = w} {e = e} h l = ap packed_kind h.word ∙ kind_back k w e (kind_fits k l)

pub end_is : {words : List ℕ} {i k w e : ℕ} → HasWord words i k w e → k < kinds_room → packed_end (get_or words i 0) ≡ e
end_is {k = k} {w = w} {e = e} h l = ap packed_end h.word ∙ end_back k w e (kind_fits k l) (end_fits e h.end_low)

pub operand_is : {words : List ℕ} {i k w e : ℕ} → HasWord words i k w e → k < kinds_room → packed_operand (get_or words i 0) ≡ w
operand_is {k = k} {w = w} {e = e} h l = ap packed_operand h.word ∙ operand_back k w e (kind_fits k l) (end_fits e h.end_low)
