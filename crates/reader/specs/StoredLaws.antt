-- The words that the reader writes store the tree it read; and what other words leave alone stays stored.
use Prim.Native.Nat.{ℕ, zero, suc, ◌+◌, ◌*◌, ◌<◌, ◌≤◌}
use Rattle.std.specs.Prelude.{◌≡◌, Bool, true, false, List, [], ◌∷◌, ◌++◌, length, get_or}
use Rattle.std.proofs.Common.{sym, ap, ◌∙◌, subst, add-zero, add-suc, suc-add, length-append}
use native.Mathlib.Omega.{arith}
use Rattle.rules.specs.paper.Kinds.{operator_number}
use Rattle.rules.specs.paper.Tree.{Expression, Formal, Command, Block, Declaration, Bound, Root}
use Rattle.rules.specs.paper.Limits as Limits
use Rattle.rules.specs.paper.Limits.{most_nodes, names, most_depth}
use Rattle.rules.specs.claims.Listing.{truth_word}
use Rattle.reader.specs.KindNumbers.{num_number, boo_number, id_number, not_number, deref_number, valref_number, assign_number, loop_number, cseq_number, blk_number, call_number, conditional_number, bind_number, dseq_number, ref_number, abs_number, formal_number}
use Rattle.rules.specs.claims.Shape.{ShapedExpression, ShapedFormal, Many, none_left, one_more, ShapedCommand, ShapedBlock, ShapedDeclaration, ShapedBound, ShapedRoot}
use Rattle.rules.specs.claims.Shape as Shape
use Rattle.reader.specs.Pack.{pack, node_words, expression_words, formal_words, all_words, command_words, block_words, declaration_words, bound_words, root_words}
use Rattle.reader.specs.Put.{put, put_at}
use Rattle.reader.specs.Stored.{HasWord, StoredExpression, StoredActuals, no_actuals, one_actual, StoredFormals, no_formals, one_formal, StoredCommand, StoredBlock, StoredDeclaration, StoredBound, StoredRoot}
use Rattle.reader.specs.Stored as Stored

-- These words stand from a place on.
abbrev Segment : List ℕ → ℕ → List ℕ → Type 0
Segment words i ws = (k : ℕ) → k < length ws → get_or words (i + k) 0 ≡ get_or ws k 0

segment_head : (words : List ℕ) (i w : ℕ) (ws : List ℕ) → Segment words i (w ∷ ws) → get_or words i 0 ≡ w
segment_head words i w ws s = ap (λ j. get_or words j 0) (sym (add-zero i)) ∙ s 0 (omega arith)

segment_tail : (words : List ℕ) (i w : ℕ) (ws : List ℕ) → Segment words i (w ∷ ws) → Segment words (suc i) ws
segment_tail words i w ws s k h = ap (λ j. get_or words j 0) (suc-add i k ∙ sym (add-suc i k)) ∙ s (suc k) (omega arith)

segment_left : (words : List ℕ) (i : ℕ) (a b : List ℕ) → Segment words i (a ++ b) → Segment words i a
segment_left words i [] b s k h = absurd (never h)
  where
    never : k < 0 → ⊥
    never l = omega arith
segment_left words i (w ∷ a) b s zero h = s 0 (omega arith)
segment_left words i (w ∷ a) b s (suc k) h =
    ap (λ j. get_or words j 0) (add-suc i k ∙ sym (suc-add i k)) ∙ segment_left words (suc i) a b (segment_tail words i w (a ++ b) s) k (omega arith)

segment_right : (words : List ℕ) (i : ℕ) (a b : List ℕ) → Segment words i (a ++ b) → Segment words (i + length a) b
segment_right words i [] b s = subst (λ j. Segment words j b) (sym (add-zero i)) s
segment_right words i (w ∷ a) b s = subst (λ j. Segment words j b) (suc-add i (length a) ∙ sym (add-suc i (length a))) (segment_right words (suc i) a b (segment_tail words i w (a ++ b) s))

-- ---- The next place is the place after the words.

next_two : (i j k : ℕ) (a b : List ℕ) → j ≡ suc i + length a → k ≡ j + length b → k ≡ i + suc (length (a ++ b))
next_two i j k a b h g = omega (arith, length-append a b, h, g)

next_three : (i j k l : ℕ) (a b c : List ℕ) → j ≡ suc i + length a → k ≡ j + length b → l ≡ k + length c → l ≡ i + suc (length (a ++ (b ++ c)))
next_three i j k l a b c h g f = next_two i j l a (b ++ c) h (omega (arith, length-append b c, g, f))

expression_next : {d i j : ℕ} {e : Expression} → ShapedExpression d i j e → j ≡ i + length (expression_words e)
unfolding expression_words
expression_next (Shape.num h) = omega arith
expression_next Shape.boo = omega arith
expression_next (Shape.id h) = omega arith
expression_next (Shape.deref h) = omega arith
expression_next (Shape.valref h) = omega arith
expression_next (Shape.binary {i = i} {j = j} {k = k} {e₁ = e₁} {e₂ = e₂} h g) = next_two i j k (expression_words e₁) (expression_words e₂) (expression_next h) (expression_next g)
expression_next (Shape.negation h) = omega (arith, expression_next h)

formal_next : {d i j : ℕ} {f : Formal} → ShapedFormal d i j f → j ≡ i + length (formal_words f)
formal_next (Shape.formal q h g) = omega arith

many_next : {A : Type 0} (Shaped : (place next : ℕ) → A → Type 0) (words : A → List ℕ) → ((i j : ℕ) (a : A) → Shaped i j a → j ≡ i + length (words a)) →
    {i j : ℕ} {all : List A} → Many A Shaped i j all → j ≡ i + length (all_words words all)
unfolding all_words
many_next Shaped words each none_left = omega arith
many_next Shaped words each (one_more {i = i} {j = j} {a = a} {rest = rest} h g) =
    omega (arith, length-append (words a) (all_words words rest), each i j a h, many_next Shaped words each g)

mutual
  unfolding command_words

  command_next : {d i j : ℕ} {c : Command} → ShapedCommand d i j c → j ≡ i + length (command_words c)
  command_next (Shape.assign h g) = omega (arith, expression_next g)
  command_next (Shape.loop {i = i} {j = j} {k = k} {e = e} {c = c} h g) = next_two i j k (expression_words e) (command_words c) (expression_next h) (command_next g)
  command_next (Shape.cseq {i = i} {j = j} {k = k} {c₁ = c₁} {c₂ = c₂} h g) = next_two i j k (command_words c₁) (command_words c₂) (command_next h) (command_next g)
  command_next (Shape.block_of h) = block_next h
  command_next (Shape.call {d = d} h g m) = omega (arith, many_next (ShapedExpression d) expression_words (λ i j e s. expression_next s) m)
  command_next (Shape.conditional {i = i} {j = j} {k = k} {l = l} {e = e} {c₁ = c₁} {c₂ = c₂} h g f) =
      next_three i j k l (expression_words e) (command_words c₁) (command_words c₂) (expression_next h) (command_next g) (command_next f)

  block_next : {d i j : ℕ} {b : Block} → ShapedBlock d i j b → j ≡ i + length (block_words b)
  block_next (Shape.blk {i = i} {j = j} {k = k} {dec = dec} {c = c} h g) = next_two i j k (declaration_words dec) (command_words c) (declaration_next h) (command_next g)

  declaration_next : {d i j : ℕ} {dec : Declaration} → ShapedDeclaration d i j dec → j ≡ i + length (declaration_words dec)
  declaration_next (Shape.bind h g) = omega (arith, bound_next g)
  declaration_next (Shape.dseq {i = i} {j = j} {k = k} {d₁ = d₁} {d₂ = d₂} h g) = next_two i j k (declaration_words d₁) (declaration_words d₂) (declaration_next h) (declaration_next g)

  bound_next : {d i j : ℕ} {b : Bound} → ShapedBound d i j b → j ≡ i + length (bound_words b)
  bound_next (Shape.plain_of h) = expression_next h
  bound_next (Shape.ref h) = omega (arith, expression_next h)
  bound_next (Shape.abs {d = d} {i = i} {j = j} {k = k} {fs = fs} {b = b} g m h) =
      next_two i j k (all_words formal_words fs) (block_words b) (many_next (ShapedFormal d) formal_words (λ i j f s. formal_next s) m) (block_next h)

-- ---- From the words of a tree to what is stored.

-- the word of a node whose descendants' words follow it
word_of : (words : List ℕ) (i k w j : ℕ) (below : List ℕ) → Segment words i (node_words k w i below) → j ≡ i + suc (length below) → j ≤ most_nodes → w < Limits.words → HasWord words i k w j
word_of words i k w j below s q h l =
    record { word = segment_head words i (pack k w (i + suc (length below))) below s ∙ ap (pack k w) (sym q); place_low = omega arith; operand_low = l; end_low = h }

module _ (words : List ℕ) where
  tail_of : (i k w : ℕ) (below : List ℕ) → Segment words i (node_words k w i below) → Segment words (suc i) below
  tail_of i k w below s = segment_tail words i (pack k w (i + suc (length below))) below s

  leaf : (i k w : ℕ) → Segment words i (node_words k w i []) → suc i ≤ most_nodes → w < Limits.words → HasWord words i k w (suc i)
  leaf i k w s h l = word_of words i k w (suc i) [] s (omega arith) h l

  truth_low : (b : Bool) → truth_word b < Limits.words
  truth_low true = omega arith
  truth_low false = omega arith

  expression_stored : {d i j : ℕ} {e : Expression} → ShapedExpression d i j e → j ≤ most_nodes → Segment words i (expression_words e) → StoredExpression words d i j e
  unfolding expression_words
  expression_stored (Shape.num {i = i} {n = n} h) l s = Stored.num (leaf i num_number n s l h)
  expression_stored (Shape.boo {i = i} {b = b}) l s = Stored.boo (leaf i boo_number (truth_word b) s l (truth_low b))
  expression_stored (Shape.id {i = i} {x = x} h) l s = Stored.id h (leaf i id_number x s l (omega arith))
  expression_stored (Shape.deref {i = i} {x = x} h) l s = Stored.deref h (leaf i deref_number x s l (omega arith))
  expression_stored (Shape.valref {i = i} {x = x} h) l s = Stored.valref h (leaf i valref_number x s l (omega arith))
  expression_stored (Shape.binary {i = i} {j = j} {k = k} {o = o} {e₁ = e₁} {e₂ = e₂} h g) l s =
      let q = expression_next h in
      let r = expression_next g in
      let t = tail_of i (operator_number o) 0 (expression_words e₁ ++ expression_words e₂) s in
      Stored.binary (word_of words i (operator_number o) 0 k (expression_words e₁ ++ expression_words e₂) s (next_two i j k (expression_words e₁) (expression_words e₂) q r) l (omega arith))
      (expression_stored h (omega (arith, r, l)) (segment_left words (suc i) (expression_words e₁) (expression_words e₂) t))
      (expression_stored g l (subst (λ m. Segment words m (expression_words e₂)) (sym q) (segment_right words (suc i) (expression_words e₁) (expression_words e₂) t)))
  expression_stored (Shape.negation {i = i} {j = j} {e = e} h) l s =
      Stored.negation (word_of words i not_number 0 j (expression_words e) s (omega (arith, expression_next h)) l (omega arith))
      (expression_stored h l (tail_of i not_number 0 (expression_words e) s))

  actuals_stored : {d i j : ℕ} {es : List Expression} → Many Expression (ShapedExpression d) i j es → j ≤ most_nodes → Segment words i (all_words expression_words es) → StoredActuals words d i j es
  unfolding all_words
  actuals_stored none_left l s = no_actuals
  actuals_stored {d} (one_more {i = i} {a = a} {rest = rest} h g) l s =
      one_actual (expression_stored h (omega (arith, many_next (ShapedExpression d) expression_words (λ i j e s. expression_next s) g, l)) (segment_left words i (expression_words a) (all_words expression_words rest) s))
      (actuals_stored g l (subst (λ m. Segment words m (all_words expression_words rest)) (sym (expression_next h)) (segment_right words i (expression_words a) (all_words expression_words rest) s)))

  formals_stored : {d i j : ℕ} {fs : List Formal} → Many Formal (ShapedFormal d) i j fs → j ≤ most_nodes → Segment words i (all_words formal_words fs) → StoredFormals words i j fs
  unfolding all_words
  formals_stored none_left l s = no_formals
  formals_stored {d} (one_more {a = f} {rest = rest} (Shape.formal {i = i} q h c) g) l s =
      one_formal q h c
      (leaf i formal_number (f.name + names * f.code) (subst (λ p. Segment words i (node_words formal_number (f.name + names * f.code) p [])) q (segment_left words i (formal_words f) (all_words formal_words rest) s))
      (omega (arith, many_next (ShapedFormal d) formal_words (λ i j f s. formal_next s) g, l)) (omega arith))
      (formals_stored g l (subst (λ m. Segment words m (all_words formal_words rest)) (after i) (segment_right words i (formal_words f) (all_words formal_words rest) s)))
    where
      after : (i : ℕ) → i + 1 ≡ suc i
      after i = omega arith

  mutual
    unfolding command_words

    command_stored : {d i j : ℕ} {c : Command} → ShapedCommand d i j c → j ≤ most_nodes → Segment words i (command_words c) → StoredCommand words d i j c
    command_stored (Shape.assign {i = i} {j = j} {x = x} {e = e} h g) l s =
        Stored.assign h (word_of words i assign_number x j (expression_words e) s (omega (arith, expression_next g)) l (omega arith)) (expression_stored g l (tail_of i assign_number x (expression_words e) s))
    command_stored (Shape.loop {i = i} {j = j} {k = k} {e = e} {c = c} h g) l s =
        let q = expression_next h in
        let r = command_next g in
        let t = tail_of i loop_number 0 (expression_words e ++ command_words c) s in
        Stored.loop (word_of words i loop_number 0 k (expression_words e ++ command_words c) s (next_two i j k (expression_words e) (command_words c) q r) l (omega arith))
        (expression_stored h (omega (arith, r, l)) (segment_left words (suc i) (expression_words e) (command_words c) t))
        (command_stored g l (subst (λ m. Segment words m (command_words c)) (sym q) (segment_right words (suc i) (expression_words e) (command_words c) t)))
    command_stored (Shape.cseq {i = i} {j = j} {k = k} {c₁ = c₁} {c₂ = c₂} h g) l s =
        let q = command_next h in
        let r = command_next g in
        let t = tail_of i cseq_number 0 (command_words c₁ ++ command_words c₂) s in
        Stored.cseq (word_of words i cseq_number 0 k (command_words c₁ ++ command_words c₂) s (next_two i j k (command_words c₁) (command_words c₂) q r) l (omega arith))
        (command_stored h (omega (arith, r, l)) (segment_left words (suc i) (command_words c₁) (command_words c₂) t))
        (command_stored g l (subst (λ m. Segment words m (command_words c₂)) (sym q) (segment_right words (suc i) (command_words c₁) (command_words c₂) t)))
    command_stored (Shape.block_of h) l s = Stored.block_of (block_stored h l s)
    command_stored (Shape.call {d = d} {i = i} {j = j} {x = x} {es = es} h g m) l s =
        Stored.call h g
        (word_of words i call_number (x + names * length es) j (all_words expression_words es) s (omega (arith, many_next (ShapedExpression d) expression_words (λ i j e s. expression_next s) m)) l (omega arith))
        (actuals_stored m l (tail_of i call_number (x + names * length es) (all_words expression_words es) s))
    command_stored (Shape.conditional {i = i} {j = j} {k = k} {l = n} {e = e} {c₁ = c₁} {c₂ = c₂} h g f) l s =
        let q = expression_next h in
        let r = command_next g in
        let u = command_next f in
        let both = command_words c₁ ++ command_words c₂ in
        let t = tail_of i conditional_number 0 (expression_words e ++ both) s in
        let v = subst (λ m. Segment words m both) (sym q) (segment_right words (suc i) (expression_words e) both t) in
        Stored.conditional
        (word_of words i conditional_number 0 n (expression_words e ++ both) s (next_three i j k n (expression_words e) (command_words c₁) (command_words c₂) q r u) l (omega arith))
        (expression_stored h (omega (arith, r, u, l)) (segment_left words (suc i) (expression_words e) both t))
        (command_stored g (omega (arith, u, l)) (segment_left words j (command_words c₁) (command_words c₂) v))
        (command_stored f l (subst (λ m. Segment words m (command_words c₂)) (sym r) (segment_right words j (command_words c₁) (command_words c₂) v)))

    block_stored : {d i j : ℕ} {b : Block} → ShapedBlock d i j b → j ≤ most_nodes → Segment words i (block_words b) → StoredBlock words d i j b
    block_stored (Shape.blk {i = i} {j = j} {k = k} {dec = dec} {c = c} h g) l s =
        let q = declaration_next h in
        let r = command_next g in
        let t = tail_of i blk_number 0 (declaration_words dec ++ command_words c) s in
        Stored.blk (word_of words i blk_number 0 k (declaration_words dec ++ command_words c) s (next_two i j k (declaration_words dec) (command_words c) q r) l (omega arith))
        (declaration_stored h (omega (arith, r, l)) (segment_left words (suc i) (declaration_words dec) (command_words c) t))
        (command_stored g l (subst (λ m. Segment words m (command_words c)) (sym q) (segment_right words (suc i) (declaration_words dec) (command_words c) t)))

    declaration_stored : {d i j : ℕ} {dec : Declaration} → ShapedDeclaration d i j dec → j ≤ most_nodes → Segment words i (declaration_words dec) → StoredDeclaration words d i j dec
    declaration_stored (Shape.bind {i = i} {j = j} {x = x} {b = b} h g) l s =
        Stored.bind h (word_of words i bind_number x j (bound_words b) s (omega (arith, bound_next g)) l (omega arith)) (bound_stored g l (tail_of i bind_number x (bound_words b) s))
    declaration_stored (Shape.dseq {i = i} {j = j} {k = k} {d₁ = d₁} {d₂ = d₂} h g) l s =
        let q = declaration_next h in
        let r = declaration_next g in
        let t = tail_of i dseq_number 0 (declaration_words d₁ ++ declaration_words d₂) s in
        Stored.dseq (word_of words i dseq_number 0 k (declaration_words d₁ ++ declaration_words d₂) s (next_two i j k (declaration_words d₁) (declaration_words d₂) q r) l (omega arith))
        (declaration_stored h (omega (arith, r, l)) (segment_left words (suc i) (declaration_words d₁) (declaration_words d₂) t))
        (declaration_stored g l (subst (λ m. Segment words m (declaration_words d₂)) (sym q) (segment_right words (suc i) (declaration_words d₁) (declaration_words d₂) t)))

    bound_stored : {d i j : ℕ} {b : Bound} → ShapedBound d i j b → j ≤ most_nodes → Segment words i (bound_words b) → StoredBound words d i j b
    bound_stored (Shape.plain_of h) l s = Stored.plain_of (expression_stored h l s)
    bound_stored (Shape.ref {i = i} {j = j} {e = e} h) l s =
        Stored.ref (word_of words i ref_number 0 j (expression_words e) s (omega (arith, expression_next h)) l (omega arith)) (expression_stored h l (tail_of i ref_number 0 (expression_words e) s))
    bound_stored (Shape.abs {d = d} {i = i} {j = j} {k = k} {fs = fs} {b = b} g m h) l s =
        let q = many_next (ShapedFormal d) formal_words (λ i j f s. formal_next s) m in
        let r = block_next h in
        let t = tail_of i abs_number (length fs) (all_words formal_words fs ++ block_words b) s in
        Stored.abs g (word_of words i abs_number (length fs) k (all_words formal_words fs ++ block_words b) s (next_two i j k (all_words formal_words fs) (block_words b) q r) l (omega arith))
        (formals_stored m (omega (arith, r, l)) (segment_left words (suc i) (all_words formal_words fs) (block_words b) t))
        (block_stored h l (subst (λ n. Segment words n (block_words b)) (sym q) (segment_right words (suc i) (all_words formal_words fs) (block_words b) t)))

  root_stored : {d i j : ℕ} {t : Root} → ShapedRoot d i j t → j ≤ most_nodes → Segment words i (root_words t) → StoredRoot words d i j t
  unfolding root_words
  root_stored (Shape.root_expression h) l s = Stored.root_expression (expression_stored h l s)
  root_stored (Shape.root_command h) l s = Stored.root_command (command_stored h l s)
  root_stored Shape.root_absent l s = Stored.root_absent

pub root_next : {d i j : ℕ} {t : Root} → ShapedRoot d i j t → j ≡ i + length (root_words t)
unfolding root_words
root_next (Shape.root_expression h) = expression_next h
root_next (Shape.root_command h) = command_next h
root_next (Shape.root_absent {i = i}) = omega arith

-- What `read_image` writes of a tree stores it.
pub stored_by_put : {n : ℕ} {t : Root} (work : List ℕ) → ShapedRoot most_depth 0 n t → n ≤ most_nodes → most_nodes ≤ length work → StoredRoot (put 0 (root_words t) work) most_depth 0 n t
stored_by_put {n} {t} work s h room =
    root_stored (put 0 (root_words t) work) s h (λ k l. put_at 0 k (root_words t) work l (omega (arith, root_next s, h, room)))

-- ---- Words that agree on the nodes store the same trees.

abbrev pub SameNodes : List ℕ → List ℕ → Type 0
SameNodes words words' = (i : ℕ) → i < most_nodes → get_or words' i 0 ≡ get_or words i 0

module _ (words words' : List ℕ) (same : SameNodes words words') where
  same_word : {i k w e : ℕ} → HasWord words i k w e → HasWord words' i k w e
  same_word {i} h = record { word = same i h.place_low ∙ h.word; place_low = h.place_low; operand_low = h.operand_low; end_low = h.end_low }

  pub same_expression : {d i j : ℕ} {e : Expression} → StoredExpression words d i j e → StoredExpression words' d i j e
  same_expression (Stored.num h) = Stored.num (same_word h)
  same_expression (Stored.boo h) = Stored.boo (same_word h)
  same_expression (Stored.id l h) = Stored.id l (same_word h)
  same_expression (Stored.deref l h) = Stored.deref l (same_word h)
  same_expression (Stored.valref l h) = Stored.valref l (same_word h)
  same_expression (Stored.binary h a b) = Stored.binary (same_word h) (same_expression a) (same_expression b)
  same_expression (Stored.negation h a) = Stored.negation (same_word h) (same_expression a)

  pub same_actuals : {d i j : ℕ} {es : List Expression} → StoredActuals words d i j es → StoredActuals words' d i j es
  same_actuals no_actuals = no_actuals
  same_actuals (one_actual a b) = one_actual (same_expression a) (same_actuals b)

  pub same_formals : {i j : ℕ} {fs : List Formal} → StoredFormals words i j fs → StoredFormals words' i j fs
  same_formals no_formals = no_formals
  same_formals (one_formal q l c h a) = one_formal q l c (same_word h) (same_formals a)

  mutual
    pub same_command : {d i j : ℕ} {c : Command} → StoredCommand words d i j c → StoredCommand words' d i j c
    same_command (Stored.assign l h a) = Stored.assign l (same_word h) (same_expression a)
    same_command (Stored.loop h a b) = Stored.loop (same_word h) (same_expression a) (same_command b)
    same_command (Stored.cseq h a b) = Stored.cseq (same_word h) (same_command a) (same_command b)
    same_command (Stored.block_of a) = Stored.block_of (same_block a)
    same_command (Stored.call l g h a) = Stored.call l g (same_word h) (same_actuals a)
    same_command (Stored.conditional h a b c) = Stored.conditional (same_word h) (same_expression a) (same_command b) (same_command c)

    pub same_block : {d i j : ℕ} {b : Block} → StoredBlock words d i j b → StoredBlock words' d i j b
    same_block (Stored.blk h a b) = Stored.blk (same_word h) (same_declaration a) (same_command b)

    pub same_declaration : {d i j : ℕ} {c : Declaration} → StoredDeclaration words d i j c → StoredDeclaration words' d i j c
    same_declaration (Stored.bind l h a) = Stored.bind l (same_word h) (same_bound a)
    same_declaration (Stored.dseq h a b) = Stored.dseq (same_word h) (same_declaration a) (same_declaration b)

    pub same_bound : {d i j : ℕ} {b : Bound} → StoredBound words d i j b → StoredBound words' d i j b
    same_bound (Stored.plain_of a) = Stored.plain_of (same_expression a)
    same_bound (Stored.ref h a) = Stored.ref (same_word h) (same_expression a)
    same_bound (Stored.abs l h a b) = Stored.abs l (same_word h) (same_formals a) (same_block b)

  pub same_root : {d i j : ℕ} {t : Root} → StoredRoot words d i j t → StoredRoot words' d i j t
  same_root (Stored.root_expression a) = Stored.root_expression (same_expression a)
  same_root (Stored.root_command a) = Stored.root_command (same_command a)
  same_root Stored.root_absent = Stored.root_absent
