-- The answer of `needs` in eight numbers.
use mathlib.Core.Path.{◌≡◌, refl, sym, ap, ◌∙◌, subst}
use Rattle.std.specs.Prelude.{Result}
use Rattle.rules.specs.declared.refusals.Refused.{Refused}
use Rattle.rules.specs.paper.Engine.{given, left_open, NeedsAnswer, figures, no_figures}
use Rattle.calls.specs.Needs.{needs_reply}
use Rattle.calls.specs.declared.Estimated.{Estimated}
use Rattle.engine.specs.NeedsReplies.{needs_fields, NeedsReplied}
use Rattle.engine.specs.declared.NeedsReply.{NeedsReply}

replies : (a : NeedsAnswer) → NeedsReplied a (needs_fields (needs_reply a))
replies (figures k v c b (given s)) =
    record { refusal_is = refl; place_is = refl; control_is = refl; values_is = refl; cells_is = refl; bindings_is = refl; steps_is = refl; open_is = refl }
replies (figures k v c b left_open) =
    record { refusal_is = refl; place_is = refl; control_is = refl; values_is = refl; cells_is = refl; bindings_is = refl; steps_is = refl; open_is = refl }
replies (no_figures x p) =
    record { refusal_is = refl; place_is = refl; control_is = refl; values_is = refl; cells_is = refl; bindings_is = refl; steps_is = refl; open_is = refl }

pub replied : (a : NeedsAnswer) (e : Result Estimated Refused) (r : NeedsReply) → e ≡ needs_reply a → r ≡ needs_fields e → NeedsReplied a r
replied a e r p q = subst (NeedsReplied a) (sym (q ∙ ap needs_fields p)) (replies a)
