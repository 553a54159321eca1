-- The reader gives the tree t with r registers exactly when the words are n, r and the preorder listing of t, within the paper's
-- limits (the halves are in ReaderSound.antt and ReaderComplete.antt).
use Rattle.std.specs.Prelude.{ℕ, suc, ◌+◌, ◌*◌, ◌≤◌, ◌≡◌, refl, ◌↔◌, Bool, true, false, cond, T, eqb, leb, take}
use Rattle.std.proofs.Math.Path.{sym, ap, subst}
use Rattle.std.proofs.Common.{◌∙◌, arith, eqb→eq, leb→le, le→leb, take-append-drop, length-take, length-drop, length-append}
use mathlib.Core.List.{List, [], ◌∷◌, ◌++◌}
use Rattle.std.proofs.Math.Dec.{eqb_refl}
use Rattle.std.proofs.Math.ListN.{length, drop}
use Rattle.rules.proofs.Basics.{and_both, and_left, and_right, append_nothing, true_test}
use Rattle.rules.specs.paper.Tree.{Expression, Formal, Command, Block, Declaration, Bound, Root}
use Rattle.rules.specs.paper.Refusals.{Refusal}
use Rattle.rules.specs.paper.Limits.{most_nodes, most_registers, most_depth}
use Rattle.rules.specs.paper.Reader.{Node, Got, refused, got, nodes_of, Reading, bad, image, whole, size_fits, read_routine, read}
use Rattle.rules.specs.claims.Listing.{expression_nodes, formal_nodes, all_nodes, command_nodes, block_nodes, declaration_nodes, bound_nodes, root_nodes, kind_words, operand_words, image_words}
use Rattle.rules.specs.claims.Shape.{ShapedExpression, ShapedFormal, Many, none_left, one_more, ShapedCommand, ShapedBlock, ShapedDeclaration, ShapedBound, ShapedRoot}
use Rattle.rules.specs.claims.Shape as Shape
use Rattle.rules.specs.claims.Image.{IsImage, ReadsExactly}
use Rattle.rules.proofs.reading.ReaderNodes.{Answers}
use Rattle.rules.proofs.reading.ReaderSound.{RootRead, routine_answers}
use Rattle.rules.proofs.reading.ReaderComplete.{routine_read}

-- ---- A tree's nodes are numbered up to the next place.

counted_two : (i j k : ℕ) (a b : List Node) → j ≡ suc i + length a → k ≡ j + length b → k ≡ i + suc (length (a ++ b))
counted_two i j k a b h g = omega (arith, length-append a b, h, g)

expression_counted : (d i j : ℕ) (e : Expression) → ShapedExpression d i j e → j ≡ i + length (expression_nodes e)
unfolding expression_nodes
expression_counted d i j e (Shape.num h) = omega arith
expression_counted d i j e Shape.boo = omega arith
expression_counted d i j e (Shape.id h) = omega arith
expression_counted d i j e (Shape.deref h) = omega arith
expression_counted d i j e (Shape.valref h) = omega arith
expression_counted d i j e (Shape.binary {d = c} {j = k} {e₁ = e₁} {e₂ = e₂} h g) =
    counted_two i k j (expression_nodes e₁) (expression_nodes e₂) (expression_counted c (suc i) k e₁ h) (expression_counted c k j e₂ g)
expression_counted d i j e (Shape.negation {d = c} {e = f} h) = omega (arith, expression_counted c (suc i) j f h)

many_counted : {A : Type 0} (Shaped : (place next : ℕ) → A → Type 0) (nodes : A → List Node) →
    ((i j : ℕ) (a : A) → Shaped i j a → j ≡ i + length (nodes a)) →
    (i j : ℕ) (all : List A) → Many A Shaped i j all → j ≡ i + length (all_nodes nodes all)
unfolding all_nodes
many_counted Shaped nodes each i j all none_left = omega arith
many_counted Shaped nodes each i j all (one_more {j = k} {a = a} {rest = rest} h g) =
    omega (arith, length-append (nodes a) (all_nodes nodes rest), each i k a h, many_counted Shaped nodes each k j rest g)

formal_counted : (d i j : ℕ) (f : Formal) → ShapedFormal d i j f → j ≡ i + length (formal_nodes f)
formal_counted d i j f (Shape.formal p h g) = omega arith

mutual
  unfolding command_nodes

  command_counted : {d i j : ℕ} {c : Command} → ShapedCommand d i j c → j ≡ i + length (command_nodes c)
  command_counted (Shape.assign {d = d} {i = i} {j = j} {e = e} h g) = omega (arith, expression_counted d (suc i) j e g)
  command_counted (Shape.loop {d = d} {i = i} {j = j} {k = k} {e = e} {c = c} h g) =
      counted_two i j k (expression_nodes e) (command_nodes c) (expression_counted d (suc i) j e h) (command_counted g)
  command_counted (Shape.cseq {i = i} {j = j} {k = k} {c₁ = c₁} {c₂ = c₂} h g) =
      counted_two i j k (command_nodes c₁) (command_nodes c₂) (command_counted h) (command_counted g)
  command_counted (Shape.block_of h) = block_counted h
  command_counted (Shape.call {d = d} {i = i} {j = j} {es = es} h g m) =
      omega (arith, many_counted (ShapedExpression d) expression_nodes (expression_counted d) (suc i) j es m)
  command_counted (Shape.conditional {d = d} {i = i} {j = j} {k = k} {l = l} {e = e} {c₁ = c₁} {c₂ = c₂} h g f) =
      counted_two i j l (expression_nodes e) (command_nodes c₁ ++ command_nodes c₂) (expression_counted d (suc i) j e h)
      (omega (arith, length-append (command_nodes c₁) (command_nodes c₂), command_counted g, command_counted f))

  block_counted : {d i j : ℕ} {b : Block} → ShapedBlock d i j b → j ≡ i + length (block_nodes b)
  block_counted (Shape.blk {i = i} {j = j} {k = k} {dec = d} {c = c} h g) =
      counted_two i j k (declaration_nodes d) (command_nodes c) (declaration_counted h) (command_counted g)

  declaration_counted : {d i j : ℕ} {dec : Declaration} → ShapedDeclaration d i j dec → j ≡ i + length (declaration_nodes dec)
  declaration_counted (Shape.bind h g) = omega (arith, bound_counted g)
  declaration_counted (Shape.dseq {i = i} {j = j} {k = k} {d₁ = d₁} {d₂ = d₂} h g) =
      counted_two i j k (declaration_nodes d₁) (declaration_nodes d₂) (declaration_counted h) (declaration_counted g)

  bound_counted : {d i j : ℕ} {b : Bound} → ShapedBound d i j b → j ≡ i + length (bound_nodes b)
  bound_counted (Shape.plain_of {d = d} {i = i} {j = j} {e = e} h) = expression_counted d i j e h
  bound_counted (Shape.ref {d = d} {i = i} {j = j} {e = e} h) = omega (arith, expression_counted d (suc i) j e h)
  bound_counted (Shape.abs {d = d} {i = i} {j = j} {k = k} {fs = fs} {b = b} g m h) =
      counted_two i j k (all_nodes formal_nodes fs) (block_nodes b) (many_counted (ShapedFormal d) formal_nodes (formal_counted d) (suc i) j fs m) (block_counted h)

pub root_counted : {d i j : ℕ} {t : Root} → ShapedRoot d i j t → j ≡ i + length (root_nodes t)
unfolding root_nodes
root_counted (Shape.root_expression {d = d} {i = i} {j = j} {e = e} h) = expression_counted d i j e h
root_counted (Shape.root_command h) = command_counted h
root_counted (Shape.root_absent {i = i}) = omega arith

-- ---- The two arrays and the nodes.

split_nodes : (ns : List Node) → nodes_of (kind_words ns) (operand_words ns) ≡ ns
unfolding nodes_of kind_words operand_words
split_nodes [] = refl
split_nodes (n ∷ ns) = ap {B = List Node} (λ r. n ∷ r) (split_nodes ns)

kinds_back : (ks os : List ℕ) → length ks ≡ length os → kind_words (nodes_of ks os) ≡ ks
unfolding nodes_of kind_words
kinds_back [] os q = refl
kinds_back (k ∷ ks) [] q = absurd (never q)
  where
    never : suc (length ks) ≡ 0 → ⊥
    never e = omega arith
kinds_back (k ∷ ks) (o ∷ os) q = ap {B = List ℕ} (λ r. k ∷ r) (kinds_back ks os (omega arith))

operands_back : (ks os : List ℕ) → length ks ≡ length os → operand_words (nodes_of ks os) ≡ os
unfolding nodes_of operand_words
operands_back [] [] q = refl
operands_back [] (o ∷ os) q = absurd (never q)
  where
    never : 0 ≡ suc (length os) → ⊥
    never e = omega arith
operands_back (k ∷ ks) [] q = absurd (never q)
  where
    never : suc (length ks) ≡ 0 → ⊥
    never e = omega arith
operands_back (k ∷ ks) (o ∷ os) q = ap {B = List ℕ} (λ r. o ∷ r) (operands_back ks os (omega arith))

nodes_length : (ks os : List ℕ) → length ks ≡ length os → length (nodes_of ks os) ≡ length ks
unfolding nodes_of
nodes_length [] os q = refl
nodes_length (k ∷ ks) [] q = absurd (never q)
  where
    never : suc (length ks) ≡ 0 → ⊥
    never e = omega arith
nodes_length (k ∷ ks) (o ∷ os) q = ap suc (nodes_length ks os (omega arith))

kind_words_length : (ns : List Node) → length (kind_words ns) ≡ length ns
unfolding kind_words
kind_words_length [] = refl
kind_words_length (n ∷ ns) = ap suc (kind_words_length ns)

operand_words_length : (ns : List Node) → length (operand_words ns) ≡ length ns
unfolding operand_words
operand_words_length [] = refl
operand_words_length (n ∷ ns) = ap suc (operand_words_length ns)

take_front : (a b : List ℕ) → take (length a) (a ++ b) ≡ a
take_front [] b = refl
take_front (x ∷ a) b = ap {B = List ℕ} (λ r. x ∷ r) (take_front a b)

drop_front : (a b : List ℕ) → drop (length a) (a ++ b) ≡ b
drop_front [] b = refl
drop_front (x ∷ a) b = drop_front a b

-- ---- What is read is an image.

abbrev Reads : List ℕ → Reading → Type 0
Reads ws (bad x p) = Unit {0}
Reads ws (image r t) = IsImage ws r t

cond_reads : (ws : List ℕ) (b : Bool) (x : Reading) (f : Refusal) → (T b → Reads ws x) → Reads ws (cond b x (bad f 0))
cond_reads ws true x f h = h tt
cond_reads ws false x f h = tt

-- n words of kinds and n of operands, where there are 2n words
record Halves (n : ℕ) (ws : List ℕ) : Type 0 where
  kinds : length (take n ws) ≡ n
  operands : length (take n ws) ≡ length (drop n ws)

halves : (n : ℕ) (ws : List ℕ) → length ws ≡ 2 * n → Halves n ws
halves n ws q =
    record {
      kinds = omega (arith, length-take n ws, q);
      operands = omega (arith, length-take n ws, length-drop n ws, q);
    }

module _ (n r : ℕ) (ws : List ℕ) (few : n ≤ most_nodes) (registers_few : r ≤ most_registers) (h : Halves n ws) where
  abbrev listing : List Node
  listing = nodes_of (take n ws) (drop n ws)

  is_image : (t : Root) (j : ℕ) → RootRead most_depth 0 listing t j [] → IsImage (n ∷ r ∷ ws) r t
  unfolding image_words
  is_image t j g =
      let listed : root_nodes t ≡ listing = sym (g.1 ∙ append_nothing (root_nodes t)) in
      let counted : length (root_nodes t) ≡ n = ap length listed ∙ nodes_length (take n ws) (drop n ws) h.operands ∙ h.kinds in
      let last : j ≡ length (root_nodes t) = omega (arith, root_counted g.0) in
      record {
        words =
            ap {B = List ℕ} (λ k. k ∷ r ∷ ws) (sym counted)
            ∙ ap {B = List ℕ} (λ k. length (root_nodes t) ∷ r ∷ k)
            (sym (take-append-drop n ws)
            ∙ ap {B = List ℕ} (λ k. k ++ drop n ws) (sym (ap kind_words listed ∙ kinds_back (take n ws) (drop n ws) h.operands))
            ∙ ap {B = List ℕ} (λ k. kind_words (root_nodes t) ++ k) (sym (ap operand_words listed ∙ operands_back (take n ws) (drop n ws) h.operands)));
        size = subst (λ k. k ≤ most_nodes) (sym counted) few;
        registers = registers_few;
        shape = subst (λ k. ShapedRoot most_depth 0 k t) last g.0;
      }

  whole_reads : (g : Got Root) → Answers (RootRead most_depth 0 listing) g → Reads (n ∷ r ∷ ws) (whole r g)
  whole_reads (refused x p) a = tt
  whole_reads (got t j []) a = is_image t j a
  whole_reads (got t j (m ∷ ms)) a = tt

reading_sound : (ws : List ℕ) → Reads ws (read ws)
unfolding read
reading_sound [] = tt
reading_sound (n ∷ []) = tt
reading_sound (n ∷ r ∷ ws) =
    cond_reads (n ∷ r ∷ ws) (size_fits n r) _ _ (λ s.
    cond_reads (n ∷ r ∷ ws) (eqb (length ws) (2 * n)) _ _ (λ e.
    whole_reads n r ws
    (leb→le n most_nodes (and_left (leb n most_nodes) (leb r most_registers) s))
    (leb→le r most_registers (and_right (leb n most_nodes) (leb r most_registers) s))
    (halves n ws (eqb→eq (length ws) (2 * n) e))
    (read_routine (nodes_of (take n ws) (drop n ws)))
    (routine_answers (nodes_of (take n ws) (drop n ws)))))

-- ---- An image is read.

image_read : (r : ℕ) (t : Root) → IsImage (image_words r t) r t → read (image_words r t) ≡ image r t
unfolding read image_words
image_read r t h =
    rw (
      true_test (size_fits (length (root_nodes t)) r) sized,
      true_test (eqb (length (kind_words (root_nodes t) ++ operand_words (root_nodes t))) (2 * length (root_nodes t))) twice,
      listed,
    )
    (ap (whole r) (routine_read h.shape))
  where
    sized : T (size_fits (length (root_nodes t)) r)
    sized =
        and_both (leb (length (root_nodes t)) most_nodes) (leb r most_registers)
        (le→leb (length (root_nodes t)) most_nodes h.size) (le→leb r most_registers h.registers)

    lengths : length (kind_words (root_nodes t) ++ operand_words (root_nodes t)) ≡ 2 * length (root_nodes t)
    lengths = omega (arith, length-append (kind_words (root_nodes t)) (operand_words (root_nodes t)), kind_words_length (root_nodes t), operand_words_length (root_nodes t))

    twice : T (eqb (length (kind_words (root_nodes t) ++ operand_words (root_nodes t))) (2 * length (root_nodes t)))
    twice = subst (λ k. T (eqb k (2 * length (root_nodes t)))) (sym lengths) (eqb_refl (2 * length (root_nodes t)))

    listed :
        nodes_of (take (length (root_nodes t)) (kind_words (root_nodes t) ++ operand_words (root_nodes t)))
        (drop (length (root_nodes t)) (kind_words (root_nodes t) ++ operand_words (root_nodes t))) ≡ root_nodes t
    listed =
        subst (λ k. nodes_of (take k (kind_words (root_nodes t) ++ operand_words (root_nodes t))) (drop k (kind_words (root_nodes t) ++ operand_words (root_nodes t))) ≡ root_nodes t)
        (kind_words_length (root_nodes t))
        (rw (take_front (kind_words (root_nodes t)) (operand_words (root_nodes t)), drop_front (kind_words (root_nodes t)) (operand_words (root_nodes t)))
        (split_nodes (root_nodes t)))

-- `read` gives the tree t with r registers exactly when the words are its image.
pub read_exact : ReadsExactly
read_exact ws r t = (
  λ q. subst (Reads ws) q (reading_sound ws),
  λ h. subst (λ v. read v ≡ image r t) (sym h.words) (image_read r t (subst (λ v. IsImage v r t) h.words h)),
)
