-- What `page` answers, by the definitions of the page's crate: the page, or the refusal with its place.
use Rattle.std.specs.Prelude.{ℕ, ◌≡◌, List, length, Result, Ok}
use Rattle.rules.specs.paper.Tree.{Root}
use Rattle.rules.specs.declared.kinds.Passed.{Passed}
use Rattle.rules.specs.paper.Engine.{passed}
use Rattle.rules.specs.Answers.{refused_at}
use Rattle.rules.specs.declared.refusals.Refused.{Refused}
use Rattle.rules.specs.claims.Listing.{root_nodes}
use Rattle.reader.specs.Stored.{RootAt}
use Rattle.page.specs.Call.{PageAnswer, printed, not_printed, Printing, print_checked, PageCalled}

abbrev pub page_reply : PageAnswer → Result (Unit {0}) Refused
page_reply printed = Ok tt
page_reply (not_printed x p) = refused_at x p

-- The answer and the page.
pub record PrintedAs (c : Printing) (r : Result (Unit {0}) Refused) (page : List ℕ) : Type 0 where
  pub answer_is : r ≡ page_reply c.answer
  pub page_is : page ≡ c.page

-- The same of the tree that stands in the work words, whatever its image is.
abbrev pub TreePrinted : (words : List ℕ) (nodes : ℕ) (r : Result (Unit {0}) Refused) (before after : List ℕ) → Type 0
TreePrinted words nodes r before after = (registers : ℕ) (t : Root) (a : Passed) → nodes ≡ length (root_nodes t) → RootAt words nodes t → PrintedAs (print_checked (passed registers t a) before) r after

-- And the work words.
pub record PagedAs (c : PageCalled) (r : Result (Unit {0}) Refused) (page work : List ℕ) : Type 0 where
  pub printed_as : PrintedAs c.printing r page
  pub work_is : work ≡ c.work
