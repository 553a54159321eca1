-- The bytes at the place as one number.
use Rattle.std.proofs.Common.{ap, ◌∙◌}
use Rattle.little_endian.specs.Numbers.{little_endian}
use Rattle.little_endian.proofs.LoopLaws.{word_read, taken_bytes, taken_length}
use Rattle.little_endian.proofs.word_at.Goals as goal

pub returns : goal.returns
returns c =
    let chunk = rw c.unwrap.ensures at c.first_chunk.ensures.cases in
    c.from_le_bytes.ensures
    ∙ word_read c.unwrap.result.now (taken_length c.args.bytes.now _ c.args.at 4 c.requires chunk)
    ∙ ap little_endian (taken_bytes c.args.bytes.now _ c.args.at 4 c.requires chunk)
