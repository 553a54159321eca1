-- The lines of a tree list its nodes: kinds and operands are those of the preorder listing, and so the image's words.
use Rattle.std.specs.Prelude.{ℕ, suc, ◌+◌, ◌≡◌, refl, List, [], ◌∷◌, ◌++◌, length, get_or}
use Rattle.std.proofs.Common.{sym, ap, ◌∙◌, arith, get_or-append-add}
use Rattle.rules.specs.paper.Reader.{Node}
use Rattle.rules.specs.paper.Tree.{Expression, Num, Boo, Id, DeRef, ValRef, Binary, Not, Formal, Command, Assign, Loop, CSeq, block, Call, Cond, Block, Blk, Declaration, Bind, DSeq, Bound, plain, Ref, Abs, Root, expression, command, absent}
use Rattle.rules.specs.claims.Listing.{node_of, expression_nodes, formal_nodes, all_nodes, command_nodes, block_nodes, declaration_nodes, bound_nodes, root_nodes, kind_words, operand_words, image_words}
use Rattle.page.specs.Lines.{Line, expression_lines, formal_lines, all_lines, command_lines, block_lines, declaration_lines, bound_lines, root_lines}

unfoldable pub line_nodes : List Line → List Node
line_nodes [] = []
line_nodes (l ∷ ls) = node_of l.kind l.operand ∷ line_nodes ls

pub nodes_append : (a b : List Line) → line_nodes (a ++ b) ≡ line_nodes a ++ line_nodes b
unfolding line_nodes
nodes_append [] b = refl
nodes_append (l ∷ a) b = ap {B = List Node} (λ ns. node_of l.kind l.operand ∷ ns) (nodes_append a b)

pub nodes_length : (ls : List Line) → length (line_nodes ls) ≡ length ls
unfolding line_nodes
nodes_length [] = refl
nodes_length (l ∷ ls) = ap suc (nodes_length ls)

-- ---- Each sort.

under : {m n : List Node} (head : Node) → m ≡ n → ◌≡◌ {A = List Node} (head ∷ m) (head ∷ n)
under head q = ap {B = List Node} (λ ns. head ∷ ns) q

both : (a b : List Line) {m n : List Node} → line_nodes a ≡ m → line_nodes b ≡ n → line_nodes (a ++ b) ≡ m ++ n
both a b {m} p q = nodes_append a b ∙ ap (λ ns. ns ++ line_nodes b) p ∙ ap (λ ns. m ++ ns) q

expression_listed : (d : ℕ) (e : Expression) → line_nodes (expression_lines d e) ≡ expression_nodes e
unfolding line_nodes expression_lines expression_nodes
expression_listed d (Num p n) = refl
expression_listed d (Boo p b) = refl
expression_listed d (Id p x) = refl
expression_listed d (DeRef p x) = refl
expression_listed d (ValRef p x) = refl
expression_listed d (Binary p o e₁ e₂) = under _ (both (expression_lines (suc d) e₁) (expression_lines (suc d) e₂) (expression_listed (suc d) e₁) (expression_listed (suc d) e₂))
expression_listed d (Not p e) = under _ (expression_listed (suc d) e)

all_listed : {A : Type 0} (lines : A → List Line) (nodes : A → List Node) → ((a : A) → line_nodes (lines a) ≡ nodes a) → (items : List A) → line_nodes (all_lines lines items) ≡ all_nodes nodes items
unfolding line_nodes all_lines all_nodes
all_listed lines nodes each [] = refl
all_listed lines nodes each (a ∷ items) = both (lines a) (all_lines lines items) (each a) (all_listed lines nodes each items)

formal_listed : (d : ℕ) (f : Formal) → line_nodes (formal_lines d f) ≡ formal_nodes f
unfolding line_nodes
formal_listed d f = refl

mutual
  unfolding line_nodes command_lines block_lines declaration_lines bound_lines command_nodes block_nodes declaration_nodes bound_nodes

  command_listed : (d : ℕ) (c : Command) → line_nodes (command_lines d c) ≡ command_nodes c
  command_listed d (Assign p x e) = under _ (expression_listed (suc d) e)
  command_listed d (Loop p e c) = under _ (both (expression_lines (suc d) e) (command_lines (suc d) c) (expression_listed (suc d) e) (command_listed (suc d) c))
  command_listed d (CSeq p c₁ c₂) = under _ (both (command_lines (suc d) c₁) (command_lines (suc d) c₂) (command_listed (suc d) c₁) (command_listed (suc d) c₂))
  command_listed d (block b) = block_listed d b
  command_listed d (Call p x es) = under _ (all_listed (expression_lines (suc d)) expression_nodes (expression_listed (suc d)) es)
  command_listed d (Cond p e c₁ c₂) =
      under _
      (both (expression_lines (suc d) e) (command_lines (suc d) c₁ ++ command_lines (suc d) c₂) (expression_listed (suc d) e)
      (both (command_lines (suc d) c₁) (command_lines (suc d) c₂) (command_listed (suc d) c₁) (command_listed (suc d) c₂)))

  block_listed : (d : ℕ) (b : Block) → line_nodes (block_lines d b) ≡ block_nodes b
  block_listed d (Blk p dec c) = under _ (both (declaration_lines (suc d) dec) (command_lines (suc d) c) (declaration_listed (suc d) dec) (command_listed (suc d) c))

  declaration_listed : (d : ℕ) (c : Declaration) → line_nodes (declaration_lines d c) ≡ declaration_nodes c
  declaration_listed d (Bind p x b) = under _ (bound_listed (suc d) b)
  declaration_listed d (DSeq p d₁ d₂) = under _ (both (declaration_lines (suc d) d₁) (declaration_lines (suc d) d₂) (declaration_listed (suc d) d₁) (declaration_listed (suc d) d₂))

  bound_listed : (d : ℕ) (b : Bound) → line_nodes (bound_lines d b) ≡ bound_nodes b
  bound_listed d (plain e) = expression_listed d e
  bound_listed d (Ref p e) = under _ (expression_listed (suc d) e)
  bound_listed d (Abs p fs b) =
      under _ (both (all_lines (formal_lines (suc d)) fs) (block_lines (suc d) b) (all_listed (formal_lines (suc d)) formal_nodes (formal_listed (suc d)) fs) (block_listed (suc d) b))

pub root_listed : (t : Root) → line_nodes (root_lines t) ≡ root_nodes t
unfolding line_nodes root_lines root_nodes
root_listed (expression e) = expression_listed 1 e
root_listed (command c) = command_listed 1 c
root_listed absent = refl

-- ---- The image's words.

kind_there : (a : List Node) (n : Node) (b : List Node) (rest : List ℕ) → get_or (kind_words (a ++ (n ∷ b)) ++ rest) (length a) 0 ≡ n.kind
unfolding kind_words
kind_there [] n b rest = refl
kind_there (m ∷ a) n b rest = kind_there a n b rest

operand_there : (a : List Node) (n : Node) (b : List Node) → get_or (operand_words (a ++ (n ∷ b))) (length a) 0 ≡ n.operand
unfolding operand_words
operand_there [] n b = refl
operand_there (m ∷ a) n b = operand_there a n b

kinds_length : (ns : List Node) → length (kind_words ns) ≡ length ns
unfolding kind_words
kinds_length [] = refl
kinds_length (n ∷ ns) = ap suc (kinds_length ns)

-- A node of an image: its kind stands behind n and r, its operand behind all kinds.
pub image_kind : (r : ℕ) (t : Root) (a : List Node) (n : Node) (b : List Node) → root_nodes t ≡ a ++ (n ∷ b) → get_or (image_words r t) (2 + length a) 0 ≡ n.kind
unfolding image_words
image_kind r t a n b q =
    ap (λ k. get_or (image_words r t) k 0) (two_more (length a)) ∙ ap (λ ns. get_or (kind_words ns ++ operand_words ns) (length a) 0) q ∙ kind_there a n b (operand_words (a ++ (n ∷ b)))
  where
    two_more : (k : ℕ) → 2 + k ≡ suc (suc k)
    two_more k = omega arith

pub image_operand : (r : ℕ) (t : Root) (a : List Node) (n : Node) (b : List Node) → root_nodes t ≡ a ++ (n ∷ b) → get_or (image_words r t) (2 + length (root_nodes t) + length a) 0 ≡ n.operand
unfolding image_words
image_operand r t a n b q =
    ap (λ k. get_or (image_words r t) k 0) (two_more (length (root_nodes t)) (length a))
    ∙ ap (λ k. get_or (kind_words (root_nodes t) ++ operand_words (root_nodes t)) (k + length a) 0) (sym (kinds_length (root_nodes t)))
    ∙ get_or-append-add (kind_words (root_nodes t)) (operand_words (root_nodes t)) (length a) 0
    ∙ ap (λ ns. get_or (operand_words ns) (length a) 0) q ∙ operand_there a n b
  where
    two_more : (k j : ℕ) → 2 + k + j ≡ suc (suc (k + j))
    two_more k j = omega arith
