-- The answer of `page` in two numbers.
use mathlib.Core.Path.{◌≡◌, refl, sym, ap, ◌∙◌}
use mathlib.Core.List.{List}
use Prim.Native.Nat.{ℕ}
use Rattle.std.specs.Prelude.{Result}
use Rattle.rules.specs.declared.refusals.Refused.{Refused}
use Rattle.page.specs.Call.{PageAnswer, printed, not_printed, PageCalled}
use Rattle.calls.specs.Page.{page_reply, PagedAs}
use Rattle.engine.specs.PageReplies.{page_refusal, page_place, page_fields, PageReplied}
use Rattle.engine.specs.declared.annex.PageReply.{PageReply}

fields : (a : PageAnswer) → page_fields (page_reply a) ≡ record { refusal = page_refusal a; place = page_place a }
fields printed = refl
fields (not_printed x p) = refl

pub replied : {c : PageCalled} {e : Result (Unit {0}) Refused} {page work : List ℕ} (r : PageReply) → PagedAs c e page work → r ≡ page_fields e → PageReplied c r page work
replied {c} r done q =
    let same = q ∙ ap page_fields done.printed_as.answer_is ∙ fields c.printing.answer in
    record { refusal_is = ap (λ k. k.refusal) same; place_is = ap (λ k. k.place) same; page_is = done.printed_as.page_is; work_is = done.work_is }
