-- The sorts of a node's children, which stand in two runs: how many they are, and the sort of each.
use Prim.Native.Nat.{ℕ, zero, suc, ◌+◌, ◌<◌, ◌≤◌}
use mathlib.Core.Path.{◌≡◌, refl, sym, ap, ◌∙◌}
use mathlib.Core.List.{List, ◌∷◌, ◌++◌}
use native.Mathlib.Omega.{arith}
use native.Mathlib.Nat.{suc-add, not-suc-le-zero}
use lib.ListN.{length, drop, replicate, length-append, length-replicate}
use Rattle.rules.specs.declared.kinds.Sort.{Sort}

pub runs_length : (a b : ℕ) (s t : Sort) → a + b ≡ length (replicate a s ++ replicate b t)
runs_length a b s t = omega (arith, length-append (replicate a s) (replicate b t), length-replicate a s, length-replicate b t)

-- The sort at an index, with those behind it, is that of one more child before it.
later : (s first : Sort) (rest : List Sort) (index : ℕ) → drop index rest ≡ s ∷ drop (index + 1) rest → drop index rest ≡ s ∷ drop (suc index + 1) (first ∷ rest)
later s first rest index q = q ∙ ap (λ i. s ∷ drop i (first ∷ rest)) (sym (suc-add index 1))

pub first_run : (a index : ℕ) (s : Sort) (rest : List Sort) → index < a → drop index (replicate a s ++ rest) ≡ s ∷ drop (index + 1) (replicate a s ++ rest)
first_run zero index s rest h = absurd (not-suc-le-zero h)
first_run (suc a) zero s rest h = refl
first_run (suc a) (suc index) s rest h = later s s (replicate a s ++ rest) index (first_run a index s rest (omega arith))

pub second_run : (a b index : ℕ) (s t : Sort) → a ≤ index → index < a + b →
    drop index (replicate a s ++ replicate b t) ≡ t ∷ drop (index + 1) (replicate a s ++ replicate b t)
second_run zero zero index s t h g = absurd (omega arith)
second_run zero (suc b) zero s t h g = refl
second_run zero (suc b) (suc index) s t h g = later t t (replicate b t) index (second_run zero b index s t (omega arith) (omega arith))
second_run (suc a) b zero s t h g = absurd (not-suc-le-zero h)
second_run (suc a) b (suc index) s t h g = later t s (replicate a s ++ replicate b t) index (second_run a b index s t (omega arith) (omega arith))
