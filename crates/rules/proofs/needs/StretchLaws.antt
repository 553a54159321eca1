-- What a step does to the stretches ahead: in the place of the first it puts others, with the same most of each size, unless the state
-- before or after the step has it, and with one step less.
use Rattle.std.specs.Prelude.{ℕ, zero, suc, ◌+◌, ◌≤◌, ◌<◌, max, ◌≡◌, refl, List, [], ◌∷◌, ◌++◌, ◌⊎◌, length}
use Rattle.std.proofs.Common.{sym, ap, ◌∙◌, subst, inl, inr, ⊎_elim, arith}
use Rattle.rules.specs.paper.States.{Entry, State, state}
use Rattle.rules.specs.paper.Needs.{Figure, control, values, cells, bindings, Sizes, sizes, Need, nothing, step, over, in_turn}
use Rattle.rules.specs.paper.HighMarks.{size}
use Rattle.rules.proofs.needs.Outlook.{sketches, outlook, Stretch, once, again, need_there, steps_through, through, lies, ahead_of}

-- ---- Each of the four.

pub by_figure : (P : Figure → Type 0) → P control × P values × P cells × P bindings → (f : Figure) → P f
by_figure P all control = all.0
by_figure P all values = all.1
by_figure P all cells = all.2
by_figure P all bindings = all.3

-- ---- Stretches that stay within a size, and the way to one that has it.

pub data AllAtMost (f : Figure) (k : ℕ) : List Stretch → Type 0 where
  none_ahead : AllAtMost f k []
  one_ahead : {s : Stretch} {ss : List Stretch} → (need_there s).most f ≤ k → AllAtMost f k ss → AllAtMost f k (s ∷ ss)

-- A stretch ahead has this most, and it is met within so many steps.
pub data Target (f : Figure) (k : ℕ) : List Stretch → ℕ → Type 0 where
  this : {s : Stretch} {ss : List Stretch} → (need_there s).most f ≡ k → Target f k (s ∷ ss) (need_there s).steps
  later : {s : Stretch} {ss : List Stretch} {d : ℕ} → Target f k ss d → Target f k (s ∷ ss) (steps_through s + d)

pub at_most_append : {f : Figure} {k : ℕ} {ss ts : List Stretch} → AllAtMost f k ss → AllAtMost f k ts → AllAtMost f k (ss ++ ts)
at_most_append none_ahead g = g
at_most_append (one_ahead l h) g = one_ahead l (at_most_append h g)

pub at_most_later : {f : Figure} {k : ℕ} (ss : List Stretch) {ts : List Stretch} → AllAtMost f k (ss ++ ts) → AllAtMost f k ts
at_most_later [] h = h
at_most_later (s ∷ ss) (one_ahead l h) = at_most_later ss h

pub at_most_more : {f : Figure} {k m : ℕ} {ss : List Stretch} → k ≤ m → AllAtMost f k ss → AllAtMost f m ss
at_most_more l none_ahead = none_ahead
at_most_more l (one_ahead {s = s} m h) = one_ahead {s = s} (omega (arith, l, m)) (at_most_more l h)

pub through_append : (ss ts : List Stretch) → through (ss ++ ts) ≡ through ss + through ts
unfolding through
through_append [] ts = omega arith
through_append (s ∷ ss) ts = omega (arith, through_append ss ts)

pub target_append : {f : Figure} {k d : ℕ} {ss : List Stretch} (ts : List Stretch) → Target f k ss d → Target f k (ss ++ ts) d
target_append ts (this q) = this q
target_append ts (later t) = later (target_append ts t)

pub target_behind : {f : Figure} {k d : ℕ} (ss : List Stretch) {ts : List Stretch} → Target f k ts d → Target f k (ss ++ ts) (through ss + d)
unfolding through
target_behind {f} {k} {d} [] {ts} t = subst (Target f k ts) (omega arith) t
target_behind {f} {k} {d} (s ∷ ss) {ts} t = subst (Target f k (s ∷ ss ++ ts)) (omega arith) (later (target_behind ss t))

-- ---- A need spread over stretches, over what lies there already.

-- It is met in a state that shows these sizes, or further on.
pub record Onward (f : Figure) (k : ℕ) (parts : List Stretch) (steps : ℕ) : Type 0 where
  pub distance : ℕ
  pub target : Target f k parts distance
  pub soon : distance ≤ steps

pub record Spreads (base first : Sizes) (n : Need) (parts : List Stretch) : Type 0 where
  pub within : (f : Figure) → AllAtMost f ((over base n).most f) parts
  pub met : (f : Figure) → ((over base n).most f ≡ first f) ⊎ Onward f ((over base n).most f) parts n.steps
  pub counted : n.steps ≡ through parts

pub spread_one : {base first : Sizes} {n m : Need} → ((f : Figure) → (over base n).most f ≡ m.most f) → n.steps ≡ m.steps → Spreads base first n (once m ∷ [])
unfolding through
spread_one {n = n} {m = m} q s =
    record {
      within = λ f. one_ahead {s = once m} (omega (arith, q f)) none_ahead;
      met = λ f. inr (record { distance = m.steps; target = this (sym (q f)); soon = omega (arith, s) });
      counted = omega (arith, s);
    }

pub larger : (base n m : ℕ) {A : Type 0} → (base + max n m ≡ base + n → A) → (base + max n m ≡ base + m → A) → A
larger base n m {A} left right = ⊎_elim (λ q. left (omega (arith, q))) (λ q. right (omega (arith, q))) (choose n m)
  where
    choose : (n m : ℕ) → (max n m ≡ n) ⊎ (max n m ≡ m)
    choose zero m = inr (omega arith)
    choose (suc n) zero = inl (omega arith)
    choose (suc n) (suc m) = ⊎_elim (λ q. inl (omega (arith, q))) (λ q. inr (omega (arith, q))) (choose n m)

onward_first : {f : Figure} {k m j : ℕ} {ss : List Stretch} (ts : List Stretch) → k ≡ m → Onward f m ss j → (i : ℕ) → Onward f k (ss ++ ts) (j + i)
onward_first {f} {ss = ss} ts q o i =
    record { distance = o.distance; target = subst (λ m. Target f m (ss ++ ts) o.distance) (sym q) (target_append ts o.target); soon = omega (arith, o.soon) }

onward_second : {f : Figure} {k m j : ℕ} (ss : List Stretch) {ts : List Stretch} → k ≡ m → Onward f m ts j → (i : ℕ) → i ≡ through ss → Onward f k (ss ++ ts) (i + j)
onward_second {f} ss {ts} q o i e =
    record {
      distance = through ss + o.distance;
      target = subst (λ m. Target f m (ss ++ ts) (through ss + o.distance)) (sym q) (target_behind ss o.target);
      soon = omega (arith, o.soon, e);
    }

pub spread_then : {base first : Sizes} {n : Need} (ns : List Need) {ss ts : List Stretch} →
    Spreads base first n ss → Spreads base first (in_turn ns) ts → Spreads base first (in_turn (n ∷ ns)) (ss ++ ts)
unfolding in_turn
spread_then {base} {first} {n} ns {ss} {ts} h g =
    record {
      within = λ f. at_most_append (at_most_more (omega arith) (h.within f)) (at_most_more (omega arith) (g.within f));
      met = λ f.
          larger (base f) (n.most f) ((in_turn ns).most f)
          (λ q. ⊎_elim (λ e. inl (q ∙ e)) (λ o. inr (onward_first ts q o (in_turn ns).steps)) (h.met f))
          (λ q. ⊎_elim (λ e. inl (q ∙ e)) (λ o. inr (onward_second ss q o n.steps h.counted)) (g.met f));
      counted = omega (arith, h.counted, g.counted, through_append ss ts);
    }

pub spread_last : {base first : Sizes} {n : Need} {ss : List Stretch} → Spreads base first n ss → Spreads base first (in_turn (n ∷ [])) ss
unfolding in_turn
spread_last {base} {first} {n} {ss} h =
    record {
      within = λ f. at_most_more (omega arith) (h.within f);
      met = λ f.
          ⊎_elim (λ e. inl (same f ∙ e))
          (λ o. inr (record { distance = o.distance; target = subst (λ m. Target f m ss o.distance) (sym (same f)) o.target; soon = omega (arith, o.soon) }))
          (h.met f);
      counted = omega (arith, h.counted);
    }
  where
    same : (f : Figure) → base f + max (n.most f) (nothing.most f) ≡ base f + n.most f
    same control = omega arith
    same values = omega arith
    same cells = omega arith
    same bindings = omega arith

-- What lies under a need may be counted with what lies there already.
pub spread_over : {base base' first first' : Sizes} (s : Sizes) (n : Need) {parts : List Stretch} →
    ((f : Figure) → (over base (over s n)).most f ≡ (over base' n).most f) → ((f : Figure) → first' f ≡ first f) → Spreads base' first' n parts → Spreads base first (over s n) parts
spread_over s n {parts} q e h =
    record {
      within = λ f. subst (λ k. AllAtMost f k parts) (sym (q f)) (h.within f);
      met = λ f.
          ⊎_elim (λ g. inl (q f ∙ g ∙ e f))
          (λ o. inr (record { distance = o.distance; target = subst (λ k. Target f k parts o.distance) (sym (q f)) o.target; soon = o.soon })) (h.met f);
      counted = h.counted;
    }

-- The first of some needs has one stretch.
pub spread_next : {base first : Sizes} (n : Need) (ns : List Need) {m : Need} {ts : List Stretch} →
    ((f : Figure) → (over base n).most f ≡ m.most f) → n.steps ≡ m.steps → Spreads base first (in_turn ns) ts → Spreads base first (in_turn (n ∷ ns)) (once m ∷ ts)
spread_next n ns q s g = spread_then ns (spread_one q s) g

pub spread_end : {base first : Sizes} (n : Need) {m : Need} →
    ((f : Figure) → (over base n).most f ≡ m.most f) → n.steps ≡ m.steps → Spreads base first (in_turn (n ∷ [])) (once m ∷ [])
spread_end n q s = spread_last (spread_one q s)

-- ---- One step.

-- The sizes of a state, as the walk sees them.
abbrev pub shown : State → Sizes
shown (state C X E S L n) = lies (length C) (outlook (state C X E S L n))

sketches_length : (X : List Entry) → length (sketches X) ≡ length X
unfolding sketches
sketches_length [] = refl
sketches_length (e ∷ X) = ap suc (sketches_length X)

pub shown_size : (σ : State) (f : Figure) → shown σ f ≡ size σ f
shown_size (state C X E S L n) control = refl
shown_size (state C X E S L n) values = sketches_length X
shown_size (state C X E S L n) cells = refl
shown_size (state C X E S L n) bindings = refl

-- Where a stretch's most is met: in the state before the step, in the one after it, or further on, sooner than before.
pub data Met (f : Figure) (k steps : ℕ) (σ τ : State) (parts : List Stretch) : Type 0 where
  now : shown σ f ≡ k → Met f k steps σ τ parts
  next : shown τ f ≡ k → Met f k steps σ τ parts
  onward : {d : ℕ} → Target f k parts d → d < steps → Met f k steps σ τ parts

pub record Replaced (σ τ : State) : Type 0 where
  pub head : Need
  pub parts : List Stretch
  pub rest : List Stretch
  pub before : ahead_of σ ≡ once head ∷ rest
  pub afterwards : ahead_of τ ≡ parts ++ rest
  pub counted : head.steps ≡ suc (through parts)
  pub next_within : (f : Figure) → shown τ f ≤ head.most f
  pub within : (f : Figure) → AllAtMost f (head.most f) parts
  pub met : (f : Figure) → Met f (head.most f) head.steps σ τ parts

-- A step that puts stretches on control: its need is its own step, then what spreads over them.
pub unfolds : {σ τ : State} {base : Sizes} (own : Sizes) (ns : List Need) (parts rest : List Stretch) →
    ahead_of σ ≡ once (over base (in_turn (step own ∷ ns))) ∷ rest → ahead_of τ ≡ parts ++ rest →
    ((f : Figure) → base f + own f ≡ shown σ f) → ((f : Figure) → shown τ f ≤ (over base (in_turn ns)).most f) →
    Spreads base (shown τ) (in_turn ns) parts → Replaced σ τ
unfolding in_turn
unfolds {σ} {τ} {base} own ns parts rest before afterwards here covered spread =
    record {
      head = over base (in_turn (step own ∷ ns));
      parts = parts;
      rest = rest;
      before = before;
      afterwards = afterwards;
      counted = omega (arith, spread.counted);
      next_within = λ f. omega (arith, covered f);
      within = λ f. at_most_more (omega arith) (spread.within f);
      met = λ f.
          larger (base f) (own f) ((in_turn ns).most f) (λ q. now (sym (here f) ∙ sym q))
          (λ q.
          ⊎_elim (λ e. next (sym e ∙ sym q))
          (λ o. onward (subst (λ k. Target f k parts o.distance) (sym q) o.target) (omega (arith, o.soon))) (spread.met f));
    }

-- The same where the first of those stretches begins in the state after the step.
pub unfolds_into : {σ τ : State} {base : Sizes} (own : Sizes) (ns : List Need) (q : Need) (parts rest : List Stretch) →
    ahead_of σ ≡ once (over base (in_turn (step own ∷ ns))) ∷ rest → ahead_of τ ≡ (once q ∷ parts) ++ rest →
    ((f : Figure) → base f + own f ≡ shown σ f) → ((f : Figure) → shown τ f ≤ q.most f) →
    Spreads base (shown τ) (in_turn ns) (once q ∷ parts) → Replaced σ τ
unfolds_into {σ} {τ} {base} own ns q parts rest before afterwards here covered spread =
    unfolds own ns (once q ∷ parts) rest before afterwards here (λ f. first_within f (spread.within f)) spread
  where
    first_within : (f : Figure) → AllAtMost f ((over base (in_turn ns)).most f) (once q ∷ parts) → shown τ f ≤ (over base (in_turn ns)).most f
    first_within f (one_ahead l h) = omega (arith, covered f, l)

-- The same for a Loop, whose mark has two stretches: its command and then itself again.
pub unfolds_again : {σ τ : State} {base : Sizes} (own : Sizes) (ns : List Need) (q m : Need) (rest : List Stretch) →
    ahead_of σ ≡ once (over base (in_turn (step own ∷ ns))) ∷ rest → ahead_of τ ≡ once q ∷ once m ∷ again (over base (in_turn (step own ∷ ns))) ∷ rest →
    ((f : Figure) → base f + own f ≡ shown σ f) → ((f : Figure) → shown τ f ≤ q.most f) →
    Spreads base (shown τ) (in_turn ns) (once q ∷ once m ∷ []) → Replaced σ τ
unfolding in_turn through
unfolds_again {σ} {τ} {base} own ns q m rest before afterwards here covered spread =
    record {
      head = over base (in_turn (step own ∷ ns));
      parts = once q ∷ once m ∷ again (over base (in_turn (step own ∷ ns))) ∷ [];
      rest = rest;
      before = before;
      afterwards = afterwards;
      counted = omega (arith, spread.counted);
      next_within = λ f. first_within f (spread.within f);
      within = λ f.
          at_most_append {ss = once q ∷ once m ∷ []} (at_most_more (omega arith) (spread.within f))
          (one_ahead {s = again (over base (in_turn (step own ∷ ns)))} (omega arith) none_ahead);
      met = λ f.
          larger (base f) (own f) ((in_turn ns).most f) (λ e. now (sym (here f) ∙ sym e))
          (λ e.
          ⊎_elim (λ g. next (sym g ∙ sym e))
          (λ o.
          onward (subst (λ k. Target f k (once q ∷ once m ∷ again (over base (in_turn (step own ∷ ns))) ∷ []) o.distance) (sym e) (target_append (again (over base (in_turn (step own ∷ ns))) ∷ []) o.target)) (omega (arith, o.soon)))
          (spread.met f));
    }
  where
    first_within : (f : Figure) → AllAtMost f ((over base (in_turn ns)).most f) (once q ∷ once m ∷ []) → shown τ f ≤ (over base (in_turn (step own ∷ ns))).most f
    first_within f (one_ahead l h) = omega (arith, covered f, l)

-- A size that a step leaves: no larger than before, or larger by what the step counts.
pub data Change (old new : ℕ) : ℕ → Type 0 where
  shrinks : new ≤ old → Change old new 0
  grows : {h : ℕ} → new ≡ old + h → Change old new h

-- A step that puts no stretch on control.
pub settles : {σ τ : State} {k v c b : ℕ} {v' c' b' h i j : ℕ} (rest : List Stretch) →
    ahead_of σ ≡ once (over (sizes k v c b) (step (sizes 1 h i j))) ∷ rest → ahead_of τ ≡ rest →
    ((f : Figure) → shown σ f ≡ sizes (suc k) v c b f) → ((f : Figure) → shown τ f ≡ sizes k v' c' b' f) →
    Change v v' h → Change c c' i → Change b b' j → Replaced σ τ
unfolding through
settles {σ} {τ} {k} {v} {c} {b} {v'} {c'} {b'} {h} {i} {j} rest before afterwards here there of_values of_cells of_bindings =
    record {
      head = over (sizes k v c b) (step (sizes 1 h i j));
      parts = [];
      rest = rest;
      before = before;
      afterwards = afterwards;
      counted = refl;
      next_within = within_all;
      within = λ f. none_ahead;
      met = met_all;
    }
  where
    bounded : {old new h : ℕ} → Change old new h → new ≤ old + h
    bounded (shrinks l) = omega (arith, l)
    bounded (grows q) = omega (arith, q)

    within_all : (f : Figure) → shown τ f ≤ (over (sizes k v c b) (step (sizes 1 h i j))).most f
    within_all control = omega (arith, there control)
    within_all values = omega (arith, there values, bounded of_values)
    within_all cells = omega (arith, there cells, bounded of_cells)
    within_all bindings = omega (arith, there bindings, bounded of_bindings)

    changed : (f : Figure) {old new h : ℕ} → shown σ f ≡ old → shown τ f ≡ new → Change old new h → Met f (old + h) 1 σ τ []
    changed f p q (shrinks l) = now (omega (arith, p))
    changed f p q (grows e) = next (omega (arith, q, e))

    met_all : (f : Figure) → Met f ((over (sizes k v c b) (step (sizes 1 h i j))).most f) 1 σ τ []
    met_all control = now (omega (arith, here control))
    met_all values = changed values (here values) (there values) of_values
    met_all cells = changed cells (here cells) (there cells) of_cells
    met_all bindings = changed bindings (here bindings) (there bindings) of_bindings
