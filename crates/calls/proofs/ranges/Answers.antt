-- ranges: the work words, then the image and its ranges, and the work words cleared.
use Rattle.std.proofs.Common.{rules}
use Rattle.calls.proofs.RangesLaws.{little_room, answered}
use Rattle.calls.proofs.ranges.Goals as goal

pub returns-in_err-enough_words : goal.returns-in_err-enough_words
returns-in_err-enough_words c =
    little_room c.args.lowest.now c.args.highest.now (λ i h. (c.type_inv.lowest i).fits) (λ i h. (c.type_inv.highest i).fits) _ _ _ c.in_err-enough_words.ensures _ (search rules)

pub returns : goal.returns
returns c =
    answered _ _ _ _ _ _ _ _ _ c.in_ok-enough_words.ensures c.limit_image-answer.ensures.image_ranged c.limit_image-answer.ensures.kept_beyond c.clear.ensures
