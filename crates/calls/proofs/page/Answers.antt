-- page: the work words, then the image and its page, and the work words cleared.
use Rattle.std.proofs.Common.{rules}
use Rattle.calls.proofs.PageLaws.{little_room, answered}
use Rattle.calls.proofs.page.Goals as goal

pub returns-in_err-enough_words : goal.returns-in_err-enough_words
returns-in_err-enough_words c = little_room _ _ _ _ c.in_err-enough_words.ensures _ (search rules)

pub returns : goal.returns
returns c =
    answered _ _ _ _ _ _ _ c.in_ok-enough_words.ensures c.print_image-answer.ensures.printed_as c.print_image-answer.ensures.kept_beyond c.clear.ensures
