-- The value's eight bytes stand at the place.
use Rattle.std.proofs.Common.{◌∙◌}
use Rattle.little_endian.proofs.LoopLaws.{put_written}
use Rattle.little_endian.proofs.put_value.Goals as goal

pub returns : goal.returns
returns c = put_written c.args.bytes.now _ c.args.at c.args.value c.requires (c.copy_from_slice.ensures.after ∙ c.to_le_bytes.ensures)
