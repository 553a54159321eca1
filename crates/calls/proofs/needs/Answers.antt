-- needs: the work words, then the image and its figures, and the work words cleared.
use Rattle.std.proofs.Common.{rules}
use Rattle.calls.proofs.NeedsLaws.{little_room, answered}
use Rattle.calls.proofs.needs.Goals as goal

pub returns-in_err-enough_words : goal.returns-in_err-enough_words
returns-in_err-enough_words c = let both = little_room _ _ _ c.in_err-enough_words.ensures _ (search rules) in record {
  value = both.0;
  work_after = both.1;
}

pub returns : goal.returns
returns c = let both = answered _ _ _ _ _ c.in_ok-enough_words.ensures c.estimate_image-answer.ensures.value c.estimate_image-answer.ensures.kept_beyond c.clear.ensures in record {
  value = both.0;
  work_after = both.1;
}
