-- A check's answer in three numbers.
use mathlib.Core.Path.{◌≡◌, refl, sym, ap, ◌∙◌, subst}
use Rattle.std.specs.Prelude.{Result}
use Rattle.rules.specs.declared.kinds.Passed.{Passed}
use Rattle.rules.specs.declared.refusals.Refused.{Refused}
use Rattle.rules.specs.paper.Engine.{CheckAnswer, root_code, root_command, not_passed}
use Rattle.calls.specs.Answers.{check_reply}
use Rattle.engine.specs.Replies.{check_fields, Replies}
use Rattle.engine.specs.declared.CheckReply.{CheckReply}

replies : (a : CheckAnswer) → Replies a (check_fields (check_reply a))
replies (root_code c) = record { refusal_is = refl; value_is = refl; place_is = refl }
replies root_command = record { refusal_is = refl; value_is = refl; place_is = refl }
replies (not_passed x p) = record { refusal_is = refl; value_is = refl; place_is = refl }

pub replied : (a : CheckAnswer) (k : Result Passed Refused) (r : CheckReply) → k ≡ check_reply a → r ≡ check_fields k → Replies a r
replied a k r p q = subst (Replies a) (sym (q ∙ ap check_fields p)) (replies a)
