-- The work words, and then the image.
use Rattle.std.proofs.Common.{rules}
use Rattle.calls.proofs.CheckLaws.{little_room, passed_answered, refusal_answered}
use Rattle.calls.proofs.check.Goals as goal

-- Under 8,192 work words nothing is touched,
-- and the refusal has place 0.
pub returns-in_err-enough_words : goal.returns-in_err-enough_words
returns-in_err-enough_words c = let both = little_room _ _ _ c.in_err-enough_words.ensures _ (search rules) in record {
  value = both.0;
  work_after = both.1;
}

pub returns : goal.returns
returns c = let both = passed_answered _ _ _ _ _ c.in_ok-enough_words.ensures c.load-loaded.ensures c.clear.ensures _ c.in_ok-loaded.was in record {
  value = both.0;
  work_after = both.1;
}

pub returns-in_err-loaded : goal.returns-in_err-loaded
returns-in_err-loaded c = let both = refusal_answered _ _ _ _ _ c.in_ok-enough_words.ensures c.load-loaded.ensures c.clear.ensures _ c.in_err-loaded.was _ (search rules) in record {
  value = both.0;
  work_after = both.1;
}
