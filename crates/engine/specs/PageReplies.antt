-- The answer of the annex page to a C host: the paper's number and the place, and what is left of the page and of the work words.
use Rattle.std.specs.Prelude.{ℕ, ◌≡◌, List, Result, Ok, Err}
use Rattle.rules.specs.paper.Refusals.{refusal_number}
use Rattle.rules.specs.declared.refusals.Refused.{Refused}
use Rattle.page.specs.Call.{PageAnswer, printed, not_printed, PageCalled}
use Rattle.engine.specs.declared.annex.PageReply.{PageReply}

-- 0 where the page is written.
abbrev pub page_refusal : PageAnswer → ℕ
page_refusal printed = 0
page_refusal (not_printed x p) = refusal_number x

abbrev pub page_place : PageAnswer → ℕ
page_place printed = 0
page_place (not_printed x p) = p

-- The fields, from what the code answers.
abbrev pub page_fields : Result (Unit {0}) Refused → PageReply
page_fields (Ok u) = record { refusal = 0; place = 0 }
page_fields (Err r) = record { refusal = refusal_number r.refusal; place = r.place }

pub record PageReplied (c : PageCalled) (r : PageReply) (page work : List ℕ) : Type 0 where
  pub refusal_is : r.refusal ≡ page_refusal c.printing.answer
  pub place_is : r.place ≡ page_place c.printing.answer
  pub page_is : page ≡ c.printing.page
  pub work_is : work ≡ c.work
