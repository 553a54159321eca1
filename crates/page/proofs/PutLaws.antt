-- Bytes put before others that are there already: the two runs of bytes are one.
use Prim.Native.Nat.{ℕ, zero, suc, ◌+◌, ◌≤◌}
use mathlib.Core.Path.{◌≡◌, refl, sym, ap, ◌∙◌}
use mathlib.Core.List.{List, [], ◌∷◌, ◌++◌}
use native.Mathlib.Nat.{zero-add, suc-add}
use lib.ListN.{length, set, take, drop}
use borrow.Rule.Slice.PartMut.{put_mid}
use native.Mathlib.Omega.{arith}
use Rattle.reader.specs.Put.{put, put_none, set_put}

pub put_before : (i : ℕ) (a b ws : List ℕ) → put i a (put (i + length a) b ws) ≡ put i (a ++ b) ws
unfolding put
put_before zero [] b ws = ap (λ k. put k b ws) (zero-add 0)
put_before zero (v ∷ a) b [] = ap (λ k. put zero (v ∷ a) (put k b [])) (zero-add (suc (length a)))
put_before zero (v ∷ a) b (w ∷ ws) =
    ap (λ k. put zero (v ∷ a) (put k b (w ∷ ws))) (zero-add (suc (length a)))
    ∙ ap {B = List ℕ} (λ r. v ∷ r) (ap (λ k. put zero a (put k b ws)) (sym (zero-add (length a))) ∙ put_before zero a b ws)
put_before (suc i) a b [] = ap (λ k. put (suc i) a (put k b [])) (suc-add i (length a))
put_before (suc i) a b (w ∷ ws) =
    ap (λ k. put (suc i) a (put k b (w ∷ ws))) (suc-add i (length a)) ∙ ap {B = List ℕ} (λ r. w ∷ r) (put_before i a b ws)

-- The same where the second run's place is known by another name.
pub put_joined : (i j : ℕ) (a b ws : List ℕ) → j ≡ i + length a → put i a (put j b ws) ≡ put i (a ++ b) ws
put_joined i j a b ws q = ap (λ k. put i a (put k b ws)) q ∙ put_before i a b ws

-- One byte.
pub set_one : (i v : ℕ) (ws : List ℕ) → set ws i v ≡ put i (v ∷ []) ws
set_one i v ws = ap (λ l. set l i v) (sym (put_none (suc i) ws)) ∙ set_put i v [] ws

-- Bytes copied over others: the part that is lent and written stands where a run of bytes is put.
put_part : (i : ℕ) (vs ws : List ℕ) → i + length vs ≤ length ws → take i ws ++ (vs ++ drop (length vs) (drop i ws)) ≡ put i vs ws
unfolding put
put_part zero [] ws h = refl
put_part zero (v ∷ vs) [] h = absurd (omega (arith, h))
put_part zero (v ∷ vs) (w ∷ ws) h = ap {B = List ℕ} (λ r. v ∷ r) (put_part zero vs ws (omega (arith, h)))
put_part (suc i) vs [] h = absurd (omega (arith, h))
put_part (suc i) vs (w ∷ ws) h = ap {B = List ℕ} (λ r. w ∷ r) (put_part i vs ws (omega (arith, h)))

pub put_over : (i k : ℕ) (vs ws : List ℕ) → length vs ≡ k → i + k ≤ length ws → put_mid i k ws vs ≡ put i vs ws
put_over i k vs ws q h = ap (λ n. put_mid i n ws vs) (sym q) ∙ put_part i vs ws (omega (arith, q, h))
