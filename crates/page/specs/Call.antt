-- The annex page as a call (document 02, "Tree on the contract's annex page"): from image words, the bytes of the lent page and the work
-- slice's words to the answer, the final bytes and the final work words.
use Rattle.std.specs.Prelude.{ℕ, ◌*◌, cond, List, ◌++◌, ltb, length, drop}
use Rattle.rules.specs.declared.refusals.Refusal.{Refusal}
use Rattle.rules.specs.declared.refusals.Refusal.TheVariants.{Work, ShortPage}
use Rattle.rules.specs.paper.Limits.{work_words}
use Rattle.rules.specs.paper.Engine.{Checked, turned_back, passed, check_image, cleared}
use Rattle.rules.specs.claims.Listing.{root_nodes}
use Rattle.page.specs.Page.{line_bytes, page_of}

pub data PageAnswer : Type 0 where
  printed : PageAnswer
  not_printed : Refusal → (place : ℕ) → PageAnswer

-- What becomes of the page: the answer, and its bytes.
pub record Printing : Type 0 where
  pub answer : PageAnswer
  pub page : List ℕ

-- A refusal writes no byte of it.
abbrev pub no_page : Refusal → (place : ℕ) → (page : List ℕ) → Printing
no_page x p page = record { answer = not_printed x p; page = page }

-- 41: the lent page is shorter than 31 × n bytes. Bytes beyond the page of the tree stay.
abbrev pub print_checked : Checked → (page : List ℕ) → Printing
print_checked (turned_back x p) page = no_page x p page
print_checked (passed r t c) page =
    let bytes = line_bytes * length (root_nodes t) in
    let whole : Printing = record { answer = printed; page = page_of t ++ drop bytes page } in
    cond (ltb (length page) bytes) (no_page ShortPage 0 page) whole

pub record PageCalled : Type 0 where
  pub printing : Printing
  pub work : List ℕ

-- The page tests 22, then the image, then 41. 22 touches nothing; every other call clears the work words.
unfoldable pub page_call : (image page work : List ℕ) → PageCalled
page_call im page ws =
    let body : PageCalled = record { printing = print_checked (check_image im) page; work = cleared ws } in
    cond (ltb (length ws) work_words) (record { printing = no_page Work 0 page; work = ws }) body
