-- The answer of `ranges` in two numbers.
use mathlib.Core.Path.{◌≡◌, refl, sym, ap, ◌∙◌}
use mathlib.Core.List.{List}
use Prim.Native.Nat.{ℕ}
use Rattle.std.specs.Prelude.{Result}
use Rattle.rules.specs.declared.refusals.Refused.{Refused}
use Rattle.rules.specs.paper.Ranges.{RangesAnswer, ends_given, no_ends, RangesCalled}
use Rattle.calls.specs.Ranges.{ranges_reply, RangedAs}
use Rattle.engine.specs.RangesReplies.{ranges_refusal, ranges_place, ranges_fields, RangesReplied}
use Rattle.engine.specs.declared.limits.RangesReply.{RangesReply}

fields : (a : RangesAnswer) → ranges_fields (ranges_reply a) ≡ record { refusal = ranges_refusal a; place = ranges_place a }
fields ends_given = refl
fields (no_ends x p) = refl

pub replied : {c : RangesCalled} {e : Result (Unit {0}) Refused} {lowest highest work : List ℕ} (r : RangesReply) → RangedAs c e lowest highest work → r ≡ ranges_fields e → RangesReplied c r lowest highest work
replied {c} r done q =
    let same = q ∙ ap ranges_fields done.answer_is ∙ fields c.answer in
    record { refusal_is = ap (λ k. k.refusal) same; place_is = ap (λ k. k.place) same; lowest_are = done.lowest_are; highest_are = done.highest_are; work_is = done.work_is }
