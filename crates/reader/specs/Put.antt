-- A run of words written over others from a place on.
use Rattle.std.specs.Prelude.{ℕ, zero, suc, ◌+◌, ◌≤◌, ◌<◌, ◌≡◌, refl, List, [], ◌∷◌, ◌++◌, length, get_or, drop, set}
use Rattle.std.proofs.Common.{sym, ap, ◌∙◌, arith, zero-add, suc-add}

unfoldable pub put : (place : ℕ) → (new : List ℕ) → List ℕ → List ℕ
put zero [] ws = ws
put zero (v ∷ vs) [] = []
put zero (v ∷ vs) (w ∷ ws) = v ∷ put zero vs ws
put (suc i) vs [] = []
put (suc i) vs (w ∷ ws) = w ∷ put i vs ws

pub put_length : (i : ℕ) (vs ws : List ℕ) → length (put i vs ws) ≡ length ws
unfolding put
put_length zero [] ws = refl
put_length zero (v ∷ vs) [] = refl
put_length zero (v ∷ vs) (w ∷ ws) = ap suc (put_length zero vs ws)
put_length (suc i) vs [] = refl
put_length (suc i) vs (w ∷ ws) = ap suc (put_length i vs ws)

pub put_none : (i : ℕ) (ws : List ℕ) → put i [] ws ≡ ws
unfolding put
put_none zero ws = refl
put_none (suc i) [] = refl
put_none (suc i) (w ∷ ws) = ap {B = List ℕ} (λ r. w ∷ r) (put_none i ws)

pub put_append : (i : ℕ) (a b ws : List ℕ) → put (i + length a) b (put i a ws) ≡ put i (a ++ b) ws
unfolding put
put_append zero [] b ws = ap (λ k. put k b ws) (zero-add 0)
put_append zero (v ∷ a) b [] = ap (λ k. put k b []) (zero-add (suc (length a)))
put_append zero (v ∷ a) b (w ∷ ws) =
    ap (λ k. put k b (v ∷ put zero a ws)) (zero-add (suc (length a)))
    ∙ ap {B = List ℕ} (λ r. v ∷ r) (ap (λ k. put k b (put zero a ws)) (sym (zero-add (length a))) ∙ put_append zero a b ws)
put_append (suc i) a b [] = ap (λ k. put k b []) (suc-add i (length a))
put_append (suc i) a b (w ∷ ws) =
    ap (λ k. put k b (w ∷ put i a ws)) (suc-add i (length a)) ∙ ap {B = List ℕ} (λ r. w ∷ r) (put_append i a b ws)

pub set_put : (i v : ℕ) (vs ws : List ℕ) → set (put (suc i) vs ws) i v ≡ put i (v ∷ vs) ws
unfolding put
set_put zero v vs [] = refl
set_put zero v vs (w ∷ ws) = refl
set_put (suc i) v vs [] = refl
set_put (suc i) v vs (w ∷ ws) = ap {B = List ℕ} (λ r. w ∷ r) (set_put i v vs ws)

-- Words from a later place on are kept.
pub put_beyond : (n i : ℕ) (vs ws : List ℕ) → i + length vs ≤ n → drop n (put i vs ws) ≡ drop n ws
unfolding put
put_beyond n zero [] ws h = refl
put_beyond n zero (v ∷ vs) [] h = refl
put_beyond zero zero (v ∷ vs) (w ∷ ws) h = absurd (never h)
  where
    never : 0 + suc (length vs) ≤ 0 → ⊥
    never g = omega arith
put_beyond (suc n) zero (v ∷ vs) (w ∷ ws) h = put_beyond n zero vs ws (omega arith)
put_beyond n (suc i) vs [] h = refl
put_beyond zero (suc i) vs (w ∷ ws) h = absurd (never h)
  where
    never : suc i + length vs ≤ 0 → ⊥
    never g = omega arith
put_beyond (suc n) (suc i) vs (w ∷ ws) h = put_beyond n i vs ws (omega arith)

-- What is read where it was written.
pub put_at : (i k : ℕ) (vs ws : List ℕ) → k < length vs → i + length vs ≤ length ws → get_or (put i vs ws) (i + k) 0 ≡ get_or vs k 0
unfolding put
put_at zero k [] ws h g = absurd (never h)
  where
    never : k < 0 → ⊥
    never l = omega arith
put_at zero k (v ∷ vs) [] h g = absurd (never g)
  where
    never : 0 + suc (length vs) ≤ 0 → ⊥
    never l = omega arith
put_at zero zero (v ∷ vs) (w ∷ ws) h g = ap (λ j. get_or (v ∷ put zero vs ws) j 0) (zero-add 0)
put_at zero (suc k) (v ∷ vs) (w ∷ ws) h g =
    ap (λ j. get_or (v ∷ put zero vs ws) j 0) (zero-add (suc k))
    ∙ ap (λ j. get_or (put zero vs ws) j 0) (sym (zero-add k)) ∙ put_at zero k vs ws (omega arith) (omega arith)
put_at (suc i) k vs [] h g = absurd (never g)
  where
    never : suc i + length vs ≤ 0 → ⊥
    never l = omega arith
put_at (suc i) k vs (w ∷ ws) h g = ap (λ j. get_or (w ∷ put i vs ws) j 0) (suc-add i k) ∙ put_at i k vs ws h (omega arith)

-- Of the work words, those from n on are kept.
pub record KeptBeyond (n : ℕ) (before after : List ℕ) : Type 0 where
  pub same_length : length after ≡ length before
  pub same_beyond : drop n after ≡ drop n before
