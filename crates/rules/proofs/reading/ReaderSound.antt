-- What the reader reads is a tree that the paper's image allows, and the words read are its listing: one half of ReaderExact.antt.
use Rattle.std.specs.Prelude.{ℕ, zero, suc, ◌+◌, ◌*◌, ◌≤◌, ◌<◌, ◌≡◌, refl, T, eqb, ltb}
use Rattle.std.proofs.Common.{sym, ◌∙◌, subst, arith, ltb→lt}
use Rattle.std.proofs.Math.Path.{ap}
use mathlib.Core.List.{List, [], ◌∷◌, ◌++◌}
use Rattle.std.proofs.Math.ListN.{length}
use Rattle.rules.proofs.Basics.{append_assoc}
use Rattle.rules.specs.paper.Tree.{Expression, Formal, Command, Block, Blk, Declaration, Bound, Root}
use Rattle.rules.specs.paper.Limits.{words, names, codes, most_parameters, most_depth}
use Rattle.rules.specs.paper.Kinds.{ExpressionKind, CommandKind, DeclarationKind, num, boo, id, deref, valref, binary, negation, assign, loop, cseq, blk, call, conditional, bind, dseq, expression_kind, command_kind, declaration_kind, ref, abs, formal, operand_fits, operator_number, kind_number, upper_part}
use Rattle.rules.specs.paper.Reader.{Node, Read, then, ◌>>=◌, give, node, wants_expression, wants_command, wants_declaration, wants_blk, BoundKind, plain_kind, ref_kind, abs_kind, wants_bound, wants_formal, RootKind, root_expression, root_command, wants_root, name_part, expression_by, command_by, declaration_by, bound_by, root_by, read_expression, read_many, read_formal, read_command, read_block, read_declaration, read_bound, read_root, read_routine}
use Rattle.rules.specs.claims.Listing.{a_node, truth_word, expression_nodes, formal_nodes, all_nodes, command_nodes, block_nodes, declaration_nodes, bound_nodes, root_nodes}
use Rattle.rules.specs.claims.Shape.{ShapedExpression, ShapedFormal, Many, none_left, one_more, ShapedCommand, ShapedBlock, ShapedDeclaration, ShapedBound, ShapedRoot}
use Rattle.rules.specs.claims.Shape as Shape
use Rattle.rules.proofs.reading.ReaderNodes.{Answers, then_answers, is_expression, is_command, is_declaration, is_blk, is_formal, kind_of_bound, is_bound, kind_of_root, is_root, sorted_then}

-- ---- What was read, as a listing.

-- two, one after the other
both_listed : (A B ns r s : List Node) → ns ≡ A ++ r → r ≡ B ++ s → ns ≡ (A ++ B) ++ s
both_listed A B ns r s a b = a ∙ ap (λ x. A ++ x) b ∙ sym (append_assoc A B s)

-- a node with operand 0 and one child; and with two
listed_one : (k w : ℕ) (ns rest A r : List Node) → ns ≡ a_node k w ∷ rest → w ≡ 0 → rest ≡ A ++ r → ns ≡ a_node k 0 ∷ A ++ r
listed_one k w ns rest A r q z a = q ∙ ap {B = List Node} (λ x. a_node k x ∷ rest) z ∙ ap {B = List Node} (λ x. a_node k 0 ∷ x) a

listed_two : (k w : ℕ) (ns rest A B r s : List Node) → ns ≡ a_node k w ∷ rest → w ≡ 0 → rest ≡ A ++ r → r ≡ B ++ s → ns ≡ (a_node k 0 ∷ A ++ B) ++ s
listed_two k w ns rest A B r s q z a b = listed_one k w ns rest (A ++ B) s q z (both_listed A B rest r s a b)

zero_word : (w : ℕ) → T (ltb w 1) → w ≡ 0
zero_word w t = omega (arith, ltb→lt w 1 t)

truth_word_back : (w : ℕ) → T (ltb w 2) → truth_word (eqb w 1) ≡ w
truth_word_back zero t = refl
truth_word_back (suc zero) t = refl
truth_word_back (suc (suc w)) t = absurd (above (ltb→lt (suc (suc w)) 2 t))
  where
    above : suc (suc w) < 2 → ⊥
    above h = omega arith

abbrev ExpressionRead : (d i : ℕ) → List Node → Expression → ℕ → List Node → Type 0
ExpressionRead d i ns e j rest = ShapedExpression d i j e × (ns ≡ expression_nodes e ++ rest)

expression_by_answers : (d i : ℕ) (ns : List Node) → ((j : ℕ) (ms : List Node) → Answers (ExpressionRead d j ms) (read_expression d j ms)) →
    (k : ExpressionKind) (w : ℕ) (rest : List Node) → T (operand_fits (expression_kind k) w) → ns ≡ a_node (kind_number (expression_kind k)) w ∷ rest →
    Answers (ExpressionRead (suc d) i ns) (expression_by k i w (read_expression d) (suc i) rest)
unfolding operand_fits expression_nodes
expression_by_answers d i ns child num w rest t q = (Shape.num (ltb→lt w words t), q)
expression_by_answers d i ns child boo w rest t q = (Shape.boo, q ∙ ap {B = List Node} (λ x. a_node 2 x ∷ rest) (sym (truth_word_back w t)))
expression_by_answers d i ns child id w rest t q = (Shape.id (ltb→lt w names t), q)
expression_by_answers d i ns child deref w rest t q = (Shape.deref (ltb→lt w names t), q)
expression_by_answers d i ns child valref w rest t q = (Shape.valref (ltb→lt w names t), q)
expression_by_answers d i ns child (binary o) w rest t q =
    then_answers (ExpressionRead d (suc i) rest) _ (read_expression d (suc i) rest) _ (child (suc i) rest) (λ a j r h.
    then_answers (ExpressionRead d j r) _ (read_expression d j r) _ (child j r) (λ b k s g.
    (Shape.binary h.0 g.0, listed_two (operator_number o) w ns rest (expression_nodes a) (expression_nodes b) r s q (zero_word w t) h.1 g.1)))
expression_by_answers d i ns child negation w rest t q =
    then_answers (ExpressionRead d (suc i) rest) _ (read_expression d (suc i) rest) _ (child (suc i) rest) (λ a j r h.
    (Shape.negation h.0, listed_one 15 w ns rest (expression_nodes a) r q (zero_word w t) h.1))

pub expression_answers : (d i : ℕ) (ns : List Node) → Answers (ExpressionRead d i ns) (read_expression d i ns)
unfolding read_expression
expression_answers zero i ns = sorted_then wants_expression expression_kind is_expression _ (ExpressionRead zero i ns) i ns (λ s w rest t q. tt)
expression_answers (suc d) i ns =
    sorted_then wants_expression expression_kind is_expression _ (ExpressionRead (suc d) i ns) i ns
    (expression_by_answers d i ns (expression_answers d))

abbrev FormalRead : (d i : ℕ) → List Node → Formal → ℕ → List Node → Type 0
FormalRead d i ns f j rest = ShapedFormal d i j f × (ns ≡ formal_nodes f ++ rest)

-- an operand of two parts is put together again
parts : (w : ℕ) → w ≡ name_part w + names * upper_part w
parts w = omega arith

name_low : (w : ℕ) → name_part w < names
name_low w = omega arith

formal_answers : (d i : ℕ) (ns : List Node) → Answers (FormalRead d i ns) (read_formal d i ns)
unfolding read_formal operand_fits
formal_answers zero i ns = sorted_then wants_formal (λ s. formal) is_formal _ (FormalRead zero i ns) i ns (λ s w rest t q. tt)
formal_answers (suc d) i ns =
    sorted_then wants_formal (λ s. formal) is_formal _ (FormalRead (suc d) i ns) i ns (λ s w rest t q.
    (Shape.formal refl (name_low w) (code_low w (ltb→lt w (names * codes) t)), q ∙ ap {B = List Node} (λ x. a_node 42 x ∷ rest) (parts w)))
  where
    code_low : (w : ℕ) → w < names * codes → upper_part w < codes
    code_low w h = omega arith

abbrev ManyRead : {A : Type 0} → ((place next : ℕ) → A → Type 0) → (A → List Node) → (count i : ℕ) → List Node → List A → ℕ → List Node → Type 0
ManyRead {A} Shaped nodes n i ns all j rest = (length all ≡ n) × Many A Shaped i j all × (ns ≡ all_nodes nodes all ++ rest)

many_answers : {A : Type 0} (Shaped : (place next : ℕ) → A → Type 0) (nodes : A → List Node) (one : Read A) →
    ((i : ℕ) (ns : List Node) → Answers (λ a j rest. Shaped i j a × (ns ≡ nodes a ++ rest)) (one i ns)) →
    (n i : ℕ) (ns : List Node) → Answers (ManyRead Shaped nodes n i ns) (read_many n one i ns)
unfolding read_many all_nodes
many_answers Shaped nodes one each zero i ns = (refl, none_left, refl)
many_answers Shaped nodes one each (suc n) i ns =
    then_answers (λ a j rest. Shaped i j a × (ns ≡ nodes a ++ rest)) _ (one i ns) _ (each i ns) (λ a j r h.
    then_answers (ManyRead Shaped nodes n j r) _ (read_many n one j r) _ (many_answers Shaped nodes one each n j r) (λ more k s g.
    (ap suc g.0, one_more h.0 g.1, both_listed (nodes a) (all_nodes nodes more) ns r s h.1 g.2)))

abbrev CommandRead : (d i : ℕ) → List Node → Command → ℕ → List Node → Type 0
CommandRead d i ns c j rest = ShapedCommand d i j c × (ns ≡ command_nodes c ++ rest)

abbrev BlockRead : (d i : ℕ) → List Node → Block → ℕ → List Node → Type 0
BlockRead d i ns b j rest = ShapedBlock d i j b × (ns ≡ block_nodes b ++ rest)

abbrev DeclarationRead : (d i : ℕ) → List Node → Declaration → ℕ → List Node → Type 0
DeclarationRead d i ns c j rest = ShapedDeclaration d i j c × (ns ≡ declaration_nodes c ++ rest)

abbrev BoundRead : (d i : ℕ) → List Node → Bound → ℕ → List Node → Type 0
BoundRead d i ns b j rest = ShapedBound d i j b × (ns ≡ bound_nodes b ++ rest)

count_low : (w : ℕ) → T (ltb w (names * suc most_parameters)) → upper_part w ≤ most_parameters
count_low w t = low (ltb→lt w (names * suc most_parameters) t)
  where
    low : w < names * suc most_parameters → upper_part w ≤ most_parameters
    low h = omega arith

few : (w : ℕ) → T (ltb w (suc most_parameters)) → w ≤ most_parameters
few w t = low (ltb→lt w (suc most_parameters) t)
  where
    low : w < suc most_parameters → w ≤ most_parameters
    low h = omega arith

module _ (d : ℕ)
    (commands : (j : ℕ) (ms : List Node) → Answers (CommandRead d j ms) (read_command d j ms))
    (declarations : (j : ℕ) (ms : List Node) → Answers (DeclarationRead d j ms) (read_declaration d j ms)) where
  command_by_answers : (i : ℕ) (ns : List Node) (k : CommandKind) (w : ℕ) (rest : List Node) →
      T (operand_fits (command_kind k) w) → ns ≡ a_node (kind_number (command_kind k)) w ∷ rest →
      Answers (CommandRead (suc d) i ns) (command_by k i w (read_expression d) (read_command d) (read_declaration d) (suc i) rest)
  unfolding operand_fits command_nodes
  command_by_answers i ns assign w rest t q =
      then_answers (ExpressionRead d (suc i) rest) _ (read_expression d (suc i) rest) _ (expression_answers d (suc i) rest) (λ e j r h.
      (Shape.assign (ltb→lt w names t) h.0, q ∙ ap {B = List Node} (λ x. a_node 20 w ∷ x) h.1))
  command_by_answers i ns loop w rest t q =
      then_answers (ExpressionRead d (suc i) rest) _ (read_expression d (suc i) rest) _ (expression_answers d (suc i) rest) (λ e j r h.
      then_answers (CommandRead d j r) _ (read_command d j r) _ (commands j r) (λ c k s g.
      (Shape.loop h.0 g.0, listed_two 21 w ns rest (expression_nodes e) (command_nodes c) r s q (zero_word w t) h.1 g.1)))
  command_by_answers i ns cseq w rest t q =
      then_answers (CommandRead d (suc i) rest) _ (read_command d (suc i) rest) _ (commands (suc i) rest) (λ e j r h.
      then_answers (CommandRead d j r) _ (read_command d j r) _ (commands j r) (λ c k s g.
      (Shape.cseq h.0 g.0, listed_two 22 w ns rest (command_nodes e) (command_nodes c) r s q (zero_word w t) h.1 g.1)))
  command_by_answers i ns blk w rest t q =
      then_answers (DeclarationRead d (suc i) rest) _ (read_declaration d (suc i) rest) _ (declarations (suc i) rest) (λ e j r h.
      then_answers (CommandRead d j r) _ (read_command d j r) _ (commands j r) (λ c k s g.
      (Shape.block_of (Shape.blk h.0 g.0), listed_two 23 w ns rest (declaration_nodes e) (command_nodes c) r s q (zero_word w t) h.1 g.1)))
  command_by_answers i ns call w rest t q =
      then_answers (ManyRead (ShapedExpression d) expression_nodes (upper_part w) (suc i) rest) _ (read_many (upper_part w) (read_expression d) (suc i) rest) _
      (many_answers (ShapedExpression d) expression_nodes (read_expression d) (expression_answers d) (upper_part w) (suc i) rest) (λ es j r h. (
        Shape.call (name_low w) (subst (λ k. k ≤ most_parameters) (sym h.0) (count_low w t)) h.1,
        q ∙ ap {B = List Node} (λ x. a_node 24 x ∷ rest) (parts w ∙ ap (λ k. name_part w + names * k) (sym h.0))
            ∙ ap {B = List Node} (λ x. a_node 24 (name_part w + names * length es) ∷ x) h.2,
      ))
  command_by_answers i ns conditional w rest t q =
      then_answers (ExpressionRead d (suc i) rest) _ (read_expression d (suc i) rest) _ (expression_answers d (suc i) rest) (λ e j r h.
      then_answers (CommandRead d j r) _ (read_command d j r) _ (commands j r) (λ c₁ k s g.
      then_answers (CommandRead d k s) _ (read_command d k s) _ (commands k s) (λ c₂ l u f. (
        Shape.conditional h.0 g.0 f.0,
        listed_two 25 w ns rest (expression_nodes e) (command_nodes c₁ ++ command_nodes c₂) r u q (zero_word w t) h.1
            (both_listed (command_nodes c₁) (command_nodes c₂) r s u g.1 f.1),
      ))))

  block_by_answers : (i : ℕ) (ns : List Node) (w : ℕ) (rest : List Node) →
      T (operand_fits (command_kind blk) w) → ns ≡ a_node 23 w ∷ rest →
      Answers (BlockRead (suc d) i ns) (then (read_declaration d (suc i) rest) (λ a. read_command d >>= λ b. give (Blk i a b)))
  unfolding operand_fits block_nodes
  block_by_answers i ns w rest t q =
      then_answers (DeclarationRead d (suc i) rest) _ (read_declaration d (suc i) rest) _ (declarations (suc i) rest) (λ e j r h.
      then_answers (CommandRead d j r) _ (read_command d j r) _ (commands j r) (λ c k s g.
      (Shape.blk h.0 g.0, listed_two 23 w ns rest (declaration_nodes e) (command_nodes c) r s q (zero_word w t) h.1 g.1)))

declaration_by_answers : (d : ℕ)
    (declarations : (j : ℕ) (ms : List Node) → Answers (DeclarationRead d j ms) (read_declaration d j ms))
    (bounds : (j : ℕ) (ms : List Node) → Answers (BoundRead d j ms) (read_bound d j ms))
    (i : ℕ) (ns : List Node) (k : DeclarationKind) (w : ℕ) (rest : List Node) →
    T (operand_fits (declaration_kind k) w) → ns ≡ a_node (kind_number (declaration_kind k)) w ∷ rest →
    Answers (DeclarationRead (suc d) i ns) (declaration_by k i w (read_bound d) (read_declaration d) (suc i) rest)
unfolding operand_fits declaration_nodes
declaration_by_answers d declarations bounds i ns bind w rest t q =
    then_answers (BoundRead d (suc i) rest) _ (read_bound d (suc i) rest) _ (bounds (suc i) rest) (λ b j r h.
    (Shape.bind (ltb→lt w names t) h.0, q ∙ ap {B = List Node} (λ x. a_node 30 w ∷ x) h.1))
declaration_by_answers d declarations bounds i ns dseq w rest t q =
    then_answers (DeclarationRead d (suc i) rest) _ (read_declaration d (suc i) rest) _ (declarations (suc i) rest) (λ a j r h.
    then_answers (DeclarationRead d j r) _ (read_declaration d j r) _ (declarations j r) (λ b k s g.
    (Shape.dseq h.0 g.0, listed_two 31 w ns rest (declaration_nodes a) (declaration_nodes b) r s q (zero_word w t) h.1 g.1)))

bound_by_answers : (d : ℕ) (blocks : (j : ℕ) (ms : List Node) → Answers (BlockRead d j ms) (read_block d j ms))
    (i : ℕ) (ns : List Node) (k : BoundKind) (w : ℕ) (rest : List Node) →
    T (operand_fits (kind_of_bound k) w) → ns ≡ a_node (kind_number (kind_of_bound k)) w ∷ rest →
    Answers (BoundRead (suc d) i ns) (bound_by k i w (read_expression d) (read_formal d) (read_block d) (suc i) rest)
unfolding operand_fits bound_nodes
bound_by_answers d blocks i ns (plain_kind k) w rest t q =
    then_answers (ExpressionRead (suc d) i ns) _ (expression_by k i w (read_expression d) (suc i) rest) _
    (expression_by_answers d i ns (expression_answers d) k w rest t q) (λ e j r h. (Shape.plain_of h.0, h.1))
bound_by_answers d blocks i ns ref_kind w rest t q =
    then_answers (ExpressionRead d (suc i) rest) _ (read_expression d (suc i) rest) _ (expression_answers d (suc i) rest) (λ e j r h.
    (Shape.ref h.0, listed_one 40 w ns rest (expression_nodes e) r q (zero_word w t) h.1))
bound_by_answers d blocks i ns abs_kind w rest t q =
    then_answers (ManyRead (ShapedFormal d) formal_nodes w (suc i) rest) _ (read_many w (read_formal d) (suc i) rest) _
    (many_answers (ShapedFormal d) formal_nodes (read_formal d) (formal_answers d) w (suc i) rest) (λ fs j r h.
    then_answers (BlockRead d j r) _ (read_block d j r) _ (blocks j r) (λ b k s g. (
      Shape.abs (subst (λ c. c ≤ most_parameters) (sym h.0) (few w t)) h.1 g.0,
      q ∙ ap {B = List Node} (λ x. a_node 41 x ∷ rest) (sym h.0)
          ∙ ap {B = List Node} (λ x. a_node 41 (length fs) ∷ x) (both_listed (all_nodes formal_nodes fs) (block_nodes b) rest r s h.2 g.1),
    )))

mutual
  unfolding read_command operand_fits command_nodes

  pub command_answers : (d i : ℕ) (ns : List Node) → Answers (CommandRead d i ns) (read_command d i ns)
  command_answers zero i ns = sorted_then wants_command command_kind is_command _ (CommandRead zero i ns) i ns (λ s w rest t q. tt)
  command_answers (suc d) i ns =
      sorted_then wants_command command_kind is_command _ (CommandRead (suc d) i ns) i ns
      (command_by_answers d (λ j ms. command_answers d j ms) (λ j ms. declaration_answers d j ms) i ns)

  block_answers : (d i : ℕ) (ns : List Node) → Answers (BlockRead d i ns) (read_block d i ns)
  block_answers zero i ns = sorted_then wants_blk (λ s. command_kind blk) is_blk _ (BlockRead zero i ns) i ns (λ s w rest t q. tt)
  block_answers (suc d) i ns =
      sorted_then wants_blk (λ s. command_kind blk) is_blk _ (BlockRead (suc d) i ns) i ns
      (λ s w rest t q. block_by_answers d (λ j ms. command_answers d j ms) (λ j ms. declaration_answers d j ms) i ns w rest t q)

  pub declaration_answers : (d i : ℕ) (ns : List Node) → Answers (DeclarationRead d i ns) (read_declaration d i ns)
  declaration_answers zero i ns = sorted_then wants_declaration declaration_kind is_declaration _ (DeclarationRead zero i ns) i ns (λ s w rest t q. tt)
  declaration_answers (suc d) i ns =
      sorted_then wants_declaration declaration_kind is_declaration _ (DeclarationRead (suc d) i ns) i ns
      (declaration_by_answers d (λ j ms. declaration_answers d j ms) (λ j ms. bound_answers d j ms) i ns)

  bound_answers : (d i : ℕ) (ns : List Node) → Answers (BoundRead d i ns) (read_bound d i ns)
  bound_answers zero i ns = sorted_then wants_bound kind_of_bound is_bound _ (BoundRead zero i ns) i ns (λ s w rest t q. tt)
  bound_answers (suc d) i ns = sorted_then wants_bound kind_of_bound is_bound _ (BoundRead (suc d) i ns) i ns
      (bound_by_answers d (λ j ms. block_answers d j ms) i ns)

abbrev pub RootRead : (d i : ℕ) → List Node → Root → ℕ → List Node → Type 0
RootRead d i ns t j rest = ShapedRoot d i j t × (ns ≡ root_nodes t ++ rest)

root_by_answers : (d i : ℕ) (ns : List Node) (k : RootKind) (w : ℕ) (rest : List Node) →
    T (operand_fits (kind_of_root k) w) → ns ≡ a_node (kind_number (kind_of_root k)) w ∷ rest →
    Answers (RootRead (suc d) i ns) (root_by k i w (read_expression d) (read_command d) (read_declaration d) (suc i) rest)
unfolding root_nodes
root_by_answers d i ns (root_expression k) w rest t q =
    then_answers (ExpressionRead (suc d) i ns) _ (expression_by k i w (read_expression d) (suc i) rest) _
    (expression_by_answers d i ns (expression_answers d) k w rest t q) (λ e j r h. (Shape.root_expression h.0, h.1))
root_by_answers d i ns (root_command k) w rest t q =
    then_answers (CommandRead (suc d) i ns) _ (command_by k i w (read_expression d) (read_command d) (read_declaration d) (suc i) rest) _
    (command_by_answers d (command_answers d) (declaration_answers d) i ns k w rest t q) (λ c j r h. (Shape.root_command h.0, h.1))

root_answers : (d i : ℕ) (ns : List Node) → Answers (RootRead d i ns) (read_root d i ns)
unfolding read_root
root_answers zero i ns = sorted_then wants_root kind_of_root is_root _ (RootRead zero i ns) i ns (λ s w rest t q. tt)
root_answers (suc d) i ns =
    sorted_then wants_root kind_of_root is_root _ (RootRead (suc d) i ns) i ns (root_by_answers d i ns)

-- All nodes of an image: with none of them the root is absent.
pub routine_answers : (ns : List Node) → Answers (RootRead most_depth 0 ns) (read_routine ns)
unfolding root_nodes
routine_answers [] = (Shape.root_absent, refl)
routine_answers (n ∷ ns) = root_answers most_depth 0 (n ∷ ns)
