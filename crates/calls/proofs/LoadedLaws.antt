-- What an image that was loaded is: its tree, with as many nodes as are told and the root that is told, or its refusal; and the work words beyond
-- are kept.
use Prim.Native.Nat.{ℕ}
use mathlib.Core.Path.{◌≡◌, refl, ap, ◌∙◌, subst}
use mathlib.Core.List.{List}
use lib.ListN.{length}
use Rattle.std.specs.Prelude.{Result, Ok, Err}
use Rattle.rules.specs.Answers.{refused_at}
use Rattle.rules.specs.declared.refusals.Refused.{Refused}
use Rattle.rules.specs.paper.Limits.{work_words}
use Rattle.rules.specs.paper.Tree.{Root}
use Rattle.rules.specs.paper.Engine.{Checked, turned_back, passed, check_image}
use Rattle.rules.specs.claims.Listing.{root_nodes}
use Rattle.reader.specs.Put.{KeptBeyond}
use Rattle.reader.specs.Stored.{RootAt}
use Rattle.loader.specs.Answers.{LoadAnswer}
use Rattle.loader.specs.declared.Loaded.{Loaded}

-- The image passes: with this tree, which stands in the work words.
pub record Passes (image after : List ℕ) (l : Loaded) : Type 0 where
  pub tree : Root
  pub passes : check_image image ≡ passed l.registers tree l.root
  pub counted : l.nodes ≡ length (root_nodes tree)
  pub stands : RootAt after l.nodes tree

module _ (image before after : List ℕ) (e : Result Loaded Refused) (loaded : LoadAnswer (check_image image) e before after) where
  pub loaded_beyond : KeptBeyond work_words before after
  loaded_beyond = by (check_image image) loaded
    where
      by : (c : Checked) → LoadAnswer c e before after → KeptBeyond work_words before after
      by (turned_back x p) t = t.beyond
      by (passed r t c) f = f.beyond

  pub loaded_passes : (l : Loaded) → e ≡ Ok l → Passes image after l
  loaded_passes l g = by (check_image image) refl loaded
    where
      by : (c : Checked) → check_image image ≡ c → LoadAnswer c e before after → Passes image after l
      by (turned_back x p) q t = absurd (both l x p g t.answer)
        where
          both : (l : Loaded) (x : _) (p : ℕ) → e ≡ Ok l → e ≡ refused_at x p → ⊥
          both l x p g h = cc
      by (passed r t c) q f =
          subst (Passes image after) (same l _ g f.answer) (record { tree = t; passes = q; counted = refl; stands = f.stands })
        where
          same : (l m : Loaded) → e ≡ Ok l → e ≡ Ok m → m ≡ l
          same l m g h = cc

  -- The image is turned back, for this refusal.
  pub loaded_refused : (x : Refused) → e ≡ Err x → check_image image ≡ turned_back x.refusal x.place
  loaded_refused x g = by (check_image image) refl loaded
    where
      by : (c : Checked) → check_image image ≡ c → LoadAnswer c e before after → check_image image ≡ turned_back x.refusal x.place
      by (turned_back y o) q t = q ∙ ap (λ z. turned_back z.refusal z.place) (same x (record { refusal = y; place = o }) g t.answer)
        where
          same : (x z : Refused) → e ≡ Err x → e ≡ Err z → z ≡ x
          same x z g h = cc
      by (passed r t c) q f = absurd (both x _ g f.answer)
        where
          both : (x : Refused) (l : Loaded) → e ≡ Err x → e ≡ Ok l → ⊥
          both x l g h = cc
