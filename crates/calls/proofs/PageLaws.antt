-- The annex page: the work words first, then the image, then the page's length; and the page of the tree that was loaded.
use Prim.Native.Nat.{ℕ, ◌*◌, ◌<◌, ◌≤◌}
use mathlib.Core.Path.{◌≡◌, refl, sym, ap, ◌∙◌, subst}
use mathlib.Core.List.{List, ◌++◌}
use native.Mathlib.Omega.{arith}
use borrow.Author.Tests.{le-ltb, lt-ltb}
use lib.ListN.{length, drop}
use Rattle.std.specs.Prelude.{Result, Ok, Err}
use Rattle.rules.specs.declared.refusals.Refusal.TheVariants.{Work, ShortPage}
use Rattle.rules.specs.declared.refusals.Refused.{Refused}
use Rattle.rules.specs.paper.Limits.{work_words}
use Rattle.rules.specs.paper.Tree.{Root}
use Rattle.rules.specs.paper.Engine.{check_image, cleared}
use Rattle.rules.specs.claims.Listing.{root_nodes}
use Rattle.reader.specs.Put.{KeptBeyond}
use Rattle.reader.specs.Stored.{RootAt}
use Rattle.page.specs.Page.{line_bytes, page_of}
use Rattle.page.specs.Call.{print_checked, page_call}
use Rattle.page.specs.Writing.{PagePut}
use Rattle.loader.specs.Answers.{LoadAnswer}
use Rattle.loader.specs.declared.Loaded.{Loaded}
use Rattle.calls.specs.Answers.{without_place}
use Rattle.calls.specs.Page.{PrintedAs, TreePrinted, PagedAs}
use Rattle.calls.proofs.CheckLaws.{cleared_same}
use Rattle.calls.proofs.LoadedLaws.{loaded_passes, loaded_refused}

-- ---- The tree's page.

pub short_page : (words page : List ℕ) (nodes : ℕ) → length page < line_bytes * nodes → (x : Refused) → x ≡ without_place ShortPage → TreePrinted words nodes (Err x) page page
short_page words page nodes h x q registers t a counted at =
    rw (lt-ltb (length page) (line_bytes * length (root_nodes t)) (omega (arith, h, counted))) (record { answer_is = ap Err q; page_is = refl })

pub whole_page : (words before after : List ℕ) (nodes : ℕ) → line_bytes * nodes ≤ length before → PagePut words nodes before after → TreePrinted words nodes (Ok tt) before after
whole_page words before after nodes h done registers t a counted at =
    rw (le-ltb (length before) (line_bytes * length (root_nodes t)) (omega (arith, h, counted)))
    (record { answer_is = refl; page_is = done t at ∙ ap (λ n. page_of t ++ drop (line_bytes * n) before) counted })

-- ---- An image.

module _ (image before after : List ℕ) (e : Result Loaded Refused) (loaded : LoadAnswer (check_image image) e before after) where
  pub tree_loaded : (l : Loaded) → e ≡ Ok l → (t : Root) × RootAt after l.nodes t
  tree_loaded l g = let p = loaded_passes image before after e loaded l g in (p.tree, p.stands)

  pub passed_printed : (l : Loaded) → e ≡ Ok l → (r : Result (Unit {0}) Refused) (page last_page : List ℕ) → TreePrinted after l.nodes r page last_page →
      PrintedAs (print_checked (check_image image) page) r last_page
  passed_printed l g r page last_page done =
      let p = loaded_passes image before after e loaded l g in
      subst (λ c. PrintedAs (print_checked c page) r last_page) (sym p.passes) (done l.registers p.tree l.root p.counted p.stands)

  pub refusal_printed : (x : Refused) → e ≡ Err x → (r : Result (Unit {0}) Refused) → r ≡ Err x → (page : List ℕ) → PrintedAs (print_checked (check_image image) page) r page
  refusal_printed x g r p page = subst (λ c. PrintedAs (print_checked c page) r page) (sym (loaded_refused image before after e loaded x g)) (record { answer_is = p; page_is = refl })

-- ---- The call.

-- Under 8,192 work words: nothing is touched.
pub little_room : (image page work : List ℕ) (x : Refused) → (length work < work_words) × (x ≡ without_place Work) → (r : Result (Unit {0}) Refused) → r ≡ Err x → PagedAs (page_call image page work) r page work
unfolding page_call
little_room image page work x h r p =
    rw (lt-ltb (length work) work_words h.0) (record { printed_as = record { answer_is = p ∙ ap Err h.1; page_is = refl }; work_is = refl })

pub answered : (image page last_page work after last : List ℕ) (r : Result (Unit {0}) Refused) → work_words ≤ length work → PrintedAs (print_checked (check_image image) page) r last_page → KeptBeyond work_words work after →
    last ≡ cleared after → PagedAs (page_call image page work) r last_page last
unfolding page_call
answered image page last_page work after last r h done b q =
    rw (le-ltb (length work) work_words h) (record { printed_as = done; work_is = q ∙ cleared_same work after b })
