-- The code's figures are the rules' needs, stopped: each way to put needs together gives what the definition gives.
use Prim.Native.Nat.{ℕ, ◌≤◌}
use mathlib.Core.Path.{◌≡◌, refl, sym, ap, ◌∙◌, subst}
use native.Mathlib.Omega.{arith}
use mathlib.Core.List.{List, [], ◌∷◌}
use Rattle.rules.specs.paper.Limits.{most_steps}
use Rattle.rules.specs.paper.Needs.{cells, bindings, sizes, step, over, in_turn, either, node_step, function_need, tested_need}
use Rattle.rules.specs.paper.Needs as Rules
use Rattle.estimator.specs.Figures.{stopped, numbers, figures, one_step, raised, both_in_turn, larger_of, node_figures, unary_figures, binary_figures, tested_figures, sequence_figures, scoped_figures, called_figures}
use Rattle.estimator.specs.declared.figures.Need.{Need}

-- Needs with the same six numbers are the same.
pub same_need : {k v c b s a k' v' c' b' s' a' : ℕ} → k ≡ k' → v ≡ v' → c ≡ c' → b ≡ b' → s ≡ s' → a ≡ a' → numbers k v c b s a ≡ numbers k' v' c' b' s' a'
same_need {k} {v} {c} {b} {s} {a} {k'} {v'} {c'} {b'} {s'} {a'} e f g h i j =
    ap (λ x. numbers x v c b s a) e
    ∙ ap (λ x. numbers k' x c b s a) f
    ∙ ap (λ x. numbers k' v' x b s a) g
    ∙ ap (λ x. numbers k' v' c' x s a) h
    ∙ ap (λ x. numbers k' v' c' b' x a) i
    ∙ ap (λ x. numbers k' v' c' b' s' x) j

-- ---- One need over what lies under it, one after the other, one or the other.

pub over_law : (n : Rules.Need) (k v c b : ℕ) → raised (figures n) (stopped k) (stopped v) (stopped c) (stopped b) ≡ figures (over (sizes k v c b) n)
over_law n k v c b = same_need (omega arith) (omega arith) (omega arith) (omega arith) refl refl

pub turn_law : (n : Rules.Need) (ns : List Rules.Need) → both_in_turn (figures n) (figures (in_turn ns)) ≡ figures (in_turn (n ∷ ns))
unfolding in_turn
turn_law n ns = same_need (omega arith) (omega arith) (omega arith) (omega arith) (omega arith) (omega arith)

pub last_law : (n : Rules.Need) → figures n ≡ figures (in_turn (n ∷ []))
unfolding in_turn
last_law n = same_need (omega arith) (omega arith) (omega arith) (omega arith) (omega arith) (omega arith)

pub either_law : (n m : Rules.Need) → larger_of (figures n) (figures m) ≡ figures (either n m)
either_law n m = same_need (omega arith) (omega arith) (omega arith) (omega arith) (omega arith) (omega arith)

-- ---- The same from what is known of the parts.

-- The code's figures are those of a need.
pub record Are (r : Need) (n : Rules.Need) : Type 0 where
  pub equal : r ≡ figures n

pub are : (n : Rules.Need) → Are (figures n) n
are n = record { equal = refl }

pub over_of : {r : Need} {n : Rules.Need} (k v c b : ℕ) → Are r n → Are (raised r (stopped k) (stopped v) (stopped c) (stopped b)) (over (sizes k v c b) n)
over_of {r} {n} k v c b q = record { equal = ap (λ m. raised m (stopped k) (stopped v) (stopped c) (stopped b)) q.equal ∙ over_law n k v c b }

pub turn_of : {r s : Need} {n : Rules.Need} (ns : List Rules.Need) → Are r n → Are s (in_turn ns) → Are (both_in_turn r s) (in_turn (n ∷ ns))
turn_of {r} {s} {n} ns q p = record { equal = ap (λ m. both_in_turn m s) q.equal ∙ ap (λ m. both_in_turn (figures n) m) p.equal ∙ turn_law n ns }

pub last_of : {r : Need} {n : Rules.Need} → Are r n → Are r (in_turn (n ∷ []))
last_of {n = n} q = record { equal = q.equal ∙ last_law n }

pub either_of : {r s : Need} {n m : Rules.Need} → Are r n → Are s m → Are (larger_of r s) (either n m)
either_of {r} {s} {n} {m} q p = record { equal = ap (λ x. larger_of x s) q.equal ∙ ap (λ x. larger_of (figures n) x) p.equal ∙ either_law n m }

-- ---- The nodes.

one : (k v c b : ℕ) → Are (one_step (stopped k) (stopped v) (stopped c) (stopped b)) (step (sizes k v c b))
one k v c b = record { equal = refl }

pub unary_law : {r : Need} {n : Rules.Need} (u v c b : ℕ) → Are r n →
    Are (unary_figures r (stopped u) (stopped v) (stopped c) (stopped b)) (in_turn (node_step ∷ over (sizes 1 u 0 0) n ∷ step (sizes 1 v c b) ∷ []))
unary_law u v c b q = turn_of _ (one 1 0 0 0) (turn_of _ (over_of 1 u 0 0 q) (last_of (one 1 v c b)))

pub binary_law : {r s : Need} {n m : Rules.Need} → Are r n → Are s m →
    Are (binary_figures r s) (in_turn (node_step ∷ over (sizes 2 0 0 0) n ∷ over (sizes 1 1 0 0) m ∷ step (sizes 1 2 0 0) ∷ []))
binary_law q p = turn_of _ (one 1 0 0 0) (turn_of _ (over_of 2 0 0 0 q) (turn_of _ (over_of 1 1 0 0 p) (last_of (one 1 2 0 0))))

pub tested_law : {r s : Need} {n m : Rules.Need} → Are r n → Are s m → Are (tested_figures r s) (in_turn (node_step ∷ over (sizes 1 1 0 0) n ∷ tested_need m ∷ []))
unfolding tested_need
tested_law q p = turn_of _ (one 1 0 0 0) (turn_of _ (over_of 1 1 0 0 q) (last_of (turn_of _ (one 1 2 0 0) (last_of p))))

pub sequence_law : {r s : Need} {n m : Rules.Need} → Are r n → Are s m → Are (sequence_figures r s) (in_turn (node_step ∷ over (sizes 1 0 0 0) n ∷ m ∷ []))
sequence_law q p = turn_of _ (one 1 0 0 0) (turn_of _ (over_of 1 0 0 0 q) (last_of p))

pub scoped_law : {r s : Need} {n m : Rules.Need} (u v k l c b : ℕ) → Are r n → Are s m → n.most cells ≡ k → n.most bindings ≡ l →
    Are (scoped_figures r (stopped u) s (stopped v) (stopped c) (stopped b))
    (in_turn (node_step ∷ over (sizes 3 u 0 0) n ∷ step (sizes 3 2 k l) ∷ over (sizes 1 2 k l) m ∷ step (sizes 1 v c b) ∷ []))
scoped_law {r} {s} {n} {m} u v k l c b q p e f =
    subst (λ x. Are (built x r.bindings) whole) (sym (ap (λ x. x.cells) q.equal ∙ ap stopped e))
    (subst (λ x. Are (built (stopped k) x) whole) (sym (ap (λ x. x.bindings) q.equal ∙ ap stopped f))
    (turn_of _ (one 1 0 0 0) (turn_of _ (over_of 3 u 0 0 q) (turn_of _ (one 3 2 k l) (turn_of _ (over_of 1 2 k l p) (last_of (one 1 v c b)))))))
  where
    whole : Rules.Need
    whole = in_turn (node_step ∷ over (sizes 3 u 0 0) n ∷ step (sizes 3 2 k l) ∷ over (sizes 1 2 k l) m ∷ step (sizes 1 v c b) ∷ [])

    built : (cells bindings : ℕ) → Need
    built x y =
        both_in_turn node_figures
        (both_in_turn (raised r 3 (stopped u) 0 0)
        (both_in_turn (one_step 3 2 x y) (both_in_turn (raised s 1 2 x y) (one_step 1 (stopped v) (stopped c) (stopped b)))))

pub called_law : {r s : Need} {n m : Rules.Need} (k : ℕ) → k ≤ most_steps → Are r n → Are s m →
    Are (called_figures r k s) (in_turn (node_step ∷ over (sizes 1 0 0 0) n ∷ function_need k m ∷ []))
unfolding function_need
called_law {r} {s} {n} {m} k l q p =
    subst (λ x. Are (called_figures r x s) (in_turn (node_step ∷ over (sizes 1 0 0 0) n ∷ function_need k m ∷ []))) (whole k l)
    (turn_of _ (one 1 0 0 0) (turn_of _ (over_of 1 0 0 0 q) (last_of (turn_of _ (one 1 k 0 0) (turn_of _ (over_of 1 2 0 k p) (last_of (one 1 2 0 k)))))))
  where
    whole : (k : ℕ) → k ≤ most_steps → stopped k ≡ k
    whole k l = omega arith
