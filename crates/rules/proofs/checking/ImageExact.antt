-- The checker passes an image exactly when it meets the paper's shape, scope and type rules (demand 2, first half).
use Rattle.std.specs.Prelude.{ℕ, ◌≡◌, refl, ◌↔◌, List}
use Rattle.std.proofs.Common.{sym, ap, ◌∙◌, subst}
use Rattle.rules.specs.paper.Tree.{Root}
use Rattle.rules.specs.paper.Reader.{Reading, bad, image, read}
use Rattle.rules.specs.paper.Checker.{Judged, fault, fine, Passed, register_scope, root_is}
use Rattle.rules.specs.claims.Typing.{RootOk}
use Rattle.rules.specs.claims.Image.{IsImage, Meets, PassesExactly}
use Rattle.rules.specs.paper.Engine.{Checked, turned_back, passed, checked, check_reading, check_image}
use Rattle.rules.proofs.checking.CheckerExact.{root_exact}
use Rattle.rules.proofs.reading.ReaderExact.{read_exact}

abbrev Passes : List ℕ → Checked → Type 0
Passes ws (turned_back x p) = Unit {0}
Passes ws (passed r t c) = Meets ws r t c

judged_passes : (ws : List ℕ) (r : ℕ) (t : Root) → IsImage ws r t → (j : Judged Passed) → root_is (register_scope r) t ≡ j → Passes ws (checked r t j)
judged_passes ws r t h (fault x p) q = tt
judged_passes ws r t h (fine c) q = record { shape = h; types = (root_exact (register_scope r) t c).0 q }

reading_passes : (ws : List ℕ) (g : Reading) → read ws ≡ g → Passes ws (check_reading g)
reading_passes ws (bad x p) q = tt
reading_passes ws (image r t) q = judged_passes ws r t ((read_exact ws r t).0 q) (root_is (register_scope r) t) refl

-- An image passes with code c, or as a command, exactly when it meets the rules.
pub check_exact : PassesExactly
unfolding check_image
check_exact ws r t c = (
  λ q. subst (Passes ws) q (reading_passes ws (read ws) refl),
  λ h. ap check_reading ((read_exact ws r t).1 h.shape) ∙ ap (checked r t) ((root_exact (register_scope r) t c).1 h.types),
)
