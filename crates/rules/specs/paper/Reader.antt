-- From the image's words to the tree, or the first shape refusal with its place, in the paper's order ("The image", its last paragraph).
-- A node's checks are all made before anything of the next node. The recursion runs on the levels of depth that are left,
-- so it needs no other measure: where no level is left, the answer is refusal 6.
use Rattle.std.specs.Prelude.{ℕ, zero, suc, ◌+◌, ◌*◌, ◌%◌, Bool, true, false, cond, ◌&&◌, List, [], ◌∷◌, eqb, leb, length, take, drop}
use Rattle.std.proofs.Math.Option.{Option, none, some}
use Rattle.rules.specs.paper.Tree.{Expression, Num, Boo, Id, DeRef, ValRef, Binary, Not, Formal, Command, Assign, Loop, CSeq, block, Call, Cond, Block, Blk, Declaration, Bind, DSeq, Bound, plain, Ref, Abs, Root, expression, command, absent}
use Rattle.rules.specs.paper.Refusals.{Refusal}
use Rattle.rules.specs.paper.Refusals as Refusals
use Rattle.rules.specs.paper.Limits.{names, most_nodes, most_registers, most_depth}
use Rattle.rules.specs.paper.Kinds.{Kind, ExpressionKind, CommandKind, DeclarationKind, num, boo, id, deref, valref, binary, negation, assign, loop, cseq, blk, call, conditional, bind, dseq, expression_kind, command_kind, declaration_kind, ref, abs, formal, upper_part, kind_of, operand_fits}

-- A node as it stands in the image: the words of the two parallel arrays.
pub record Node : Type 0 where
  pub kind : ℕ
  pub operand : ℕ

-- What a reader answers: the value with the next place and the nodes that are left, or a refusal with its place.
pub data Got (A : Type 0) : Type 0 where
  refused : Refusal → (place : ℕ) → Got A
  got : A → (next : ℕ) → (left : List Node) → Got A

abbrev pub Read : Type 0 → Type 0
Read A = (next : ℕ) → (left : List Node) → Got A

abbrev pub then : {A B : Type 0} → Got A → (A → Read B) → Got B
then (refused r p) f = refused r p
then (got a i ns) f = f a i ns

infixr 20 ◌>>=◌
abbrev pub ◌>>=◌ : {A B : Type 0} → Read A → (A → Read B) → Read B
◌>>=◌ m f = λ i ns. then (m i ns) f

abbrev pub give : {A : Type 0} → A → Read A
give a = λ i ns. got a i ns

abbrev pub refuse : {A : Type 0} → Refusal → ℕ → Read A
refuse r p = λ i ns. refused r p

-- A node that has passed its own checks: its place, its kind within the sort that is wanted there, and its operand.
pub record Header (K : Type 0) : Type 0 where
  pub place : ℕ
  pub kind : K
  pub operand : ℕ

-- What is wanted at a place: the part of the table of kinds that may stand there.
abbrev pub wants_expression : Kind → Option ExpressionKind
wants_expression (expression_kind k) = some k
wants_expression (command_kind k) = none
wants_expression (declaration_kind k) = none
wants_expression ref = none
wants_expression abs = none
wants_expression formal = none

abbrev pub wants_command : Kind → Option CommandKind
wants_command (expression_kind k) = none
wants_command (command_kind k) = some k
wants_command (declaration_kind k) = none
wants_command ref = none
wants_command abs = none
wants_command formal = none

abbrev pub wants_declaration : Kind → Option DeclarationKind
wants_declaration (expression_kind k) = none
wants_declaration (command_kind k) = none
wants_declaration (declaration_kind k) = some k
wants_declaration ref = none
wants_declaration abs = none
wants_declaration formal = none

-- The last child of an Abs: a Blk and no other command.
pub data BlkKind : Type 0 where
  blk_kind : BlkKind

abbrev pub wants_blk : Kind → Option BlkKind
wants_blk (expression_kind k) = none
wants_blk (command_kind assign) = none
wants_blk (command_kind loop) = none
wants_blk (command_kind cseq) = none
wants_blk (command_kind blk) = some blk_kind
wants_blk (command_kind call) = none
wants_blk (command_kind conditional) = none
wants_blk (declaration_kind k) = none
wants_blk ref = none
wants_blk abs = none
wants_blk formal = none

-- The child of a Bind: an expression, Ref or Abs.
pub data BoundKind : Type 0 where
  plain_kind : ExpressionKind → BoundKind
  ref_kind abs_kind : BoundKind

abbrev pub wants_bound : Kind → Option BoundKind
wants_bound (expression_kind k) = some (plain_kind k)
wants_bound (command_kind k) = none
wants_bound (declaration_kind k) = none
wants_bound ref = some ref_kind
wants_bound abs = some abs_kind
wants_bound formal = none

pub data FormalKind : Type 0 where
  formal_kind : FormalKind

abbrev pub wants_formal : Kind → Option FormalKind
wants_formal (expression_kind k) = none
wants_formal (command_kind k) = none
wants_formal (declaration_kind k) = none
wants_formal ref = none
wants_formal abs = none
wants_formal formal = some formal_kind

-- The root: an expression or a command.
pub data RootKind : Type 0 where
  root_expression : ExpressionKind → RootKind
  root_command : CommandKind → RootKind

abbrev pub wants_root : Kind → Option RootKind
wants_root (expression_kind k) = some (root_expression k)
wants_root (command_kind k) = some (root_command k)
wants_root (declaration_kind k) = none
wants_root ref = none
wants_root abs = none
wants_root formal = none

abbrev pub or_refuse : {A B : Type 0} → Refusal → (place : ℕ) → Option A → (A → Got B) → Got B
or_refuse r p none f = refused r p
or_refuse r p (some a) f = f a

-- The next node, with the checks of a node but its depth: missing (5), kind (3), wrong sort (5), operand (4).
-- The place of a missing node is n: the next place, when all n nodes are read.
unfoldable pub node : {K : Type 0} → (Kind → Option K) → Read (Header K)
node wants i [] = refused Refusals.Tree i
node wants i (n ∷ ns) =
    or_refuse Refusals.Kind i (kind_of n.kind) (λ k.
    or_refuse Refusals.Tree i (wants k) (λ s.
    cond (operand_fits k n.operand)
    (got (record { place = i; kind = s; operand = n.operand }) (suc i) ns)
    (refused Refusals.Operand i)))

-- The name in an operand that holds a count or a code too (upper-part of Kinds).
abbrev pub name_part : ℕ → ℕ
name_part w = w % names

-- An expression whose own node is read: its children are read by `child`.
abbrev pub expression_by : ExpressionKind → (place operand : ℕ) → Read Expression → Read Expression
expression_by num p w child = give (Num p w)
expression_by boo p w child = give (Boo p (eqb w 1))
expression_by id p w child = give (Id p w)
expression_by deref p w child = give (DeRef p w)
expression_by valref p w child = give (ValRef p w)
expression_by (binary o) p w child = child >>= λ a. child >>= λ b. give (Binary p o a b)
expression_by negation p w child = child >>= λ a. give (Not p a)

abbrev pub expression_of : Header ExpressionKind → Read Expression → Read Expression
expression_of h child = expression_by h.kind h.place h.operand child

-- An expression, with this many levels of depth left for it and its descendants.
unfoldable pub read_expression : ℕ → Read Expression
read_expression zero = node wants_expression >>= λ h. refuse Refusals.Depth h.place
read_expression (suc d) = node wants_expression >>= λ h. expression_of h (read_expression d)

-- As many, one after the other.
unfoldable pub read_many : {A : Type 0} → ℕ → Read A → Read (List A)
read_many zero one = give []
read_many (suc n) one = one >>= λ a. read_many n one >>= λ rest. give (a ∷ rest)

unfoldable pub read_formal : ℕ → Read Formal
read_formal zero = node wants_formal >>= λ h. refuse Refusals.Depth h.place
read_formal (suc d) =
    node wants_formal >>= λ h.
    give (record { place = h.place; name = name_part h.operand; code = upper_part h.operand })

abbrev pub command_by : CommandKind → (place operand : ℕ) → Read Expression → Read Command → Read Declaration → Read Command
command_by assign p w e c d = e >>= λ a. give (Assign p w a)
command_by loop p w e c d = e >>= λ a. c >>= λ b. give (Loop p a b)
command_by cseq p w e c d = c >>= λ a. c >>= λ b. give (CSeq p a b)
command_by blk p w e c d = d >>= λ a. c >>= λ b. give (block (Blk p a b))
command_by call p w e c d = read_many (upper_part w) e >>= λ actuals. give (Call p (name_part w) actuals)
command_by conditional p w e c d = e >>= λ a. c >>= λ b₁. c >>= λ b₂. give (Cond p a b₁ b₂)

abbrev pub command_of : Header CommandKind → Read Expression → Read Command → Read Declaration → Read Command
command_of h e c d = command_by h.kind h.place h.operand e c d

abbrev pub declaration_by : DeclarationKind → (place operand : ℕ) → Read Bound → Read Declaration → Read Declaration
declaration_by bind p w b d = b >>= λ a. give (Bind p w a)
declaration_by dseq p w b d = d >>= λ a. d >>= λ c. give (DSeq p a c)

abbrev pub bound_by : BoundKind → (place operand : ℕ) → Read Expression → Read Formal → Read Block → Read Bound
bound_by (plain_kind k) p w e f b = expression_by k p w e >>= λ a. give (plain a)
bound_by ref_kind p w e f b = e >>= λ a. give (Ref p a)
bound_by abs_kind p w e f b = read_many w f >>= λ fs. b >>= λ a. give (Abs p fs a)

unfoldable mutual
  pub read_command : ℕ → Read Command
  read_command zero = node wants_command >>= λ h. refuse Refusals.Depth h.place
  read_command (suc d) =
      node wants_command >>= λ h. command_of h (read_expression d) (read_command d) (read_declaration d)

  pub read_block : ℕ → Read Block
  read_block zero = node wants_blk >>= λ h. refuse Refusals.Depth h.place
  read_block (suc d) =
      node wants_blk >>= λ h.
      read_declaration d >>= λ a. read_command d >>= λ b. give (Blk h.place a b)

  pub read_declaration : ℕ → Read Declaration
  read_declaration zero = node wants_declaration >>= λ h. refuse Refusals.Depth h.place
  read_declaration (suc d) =
      node wants_declaration >>= λ h. declaration_by h.kind h.place h.operand (read_bound d) (read_declaration d)

  pub read_bound : ℕ → Read Bound
  read_bound zero = node wants_bound >>= λ h. refuse Refusals.Depth h.place
  read_bound (suc d) =
      node wants_bound >>= λ h.
      bound_by h.kind h.place h.operand (read_expression d) (read_formal d) (read_block d)

abbrev pub root_by : RootKind → (place operand : ℕ) → Read Expression → Read Command → Read Declaration → Read Root
root_by (root_expression k) p w e c d = expression_by k p w e >>= λ a. give (expression a)
root_by (root_command k) p w e c d = command_by k p w e c d >>= λ a. give (command a)

-- The root is at depth 1.
unfoldable pub read_root : ℕ → Read Root
read_root zero = node wants_root >>= λ h. refuse Refusals.Depth h.place
read_root (suc d) =
    node wants_root >>= λ h.
    root_by h.kind h.place h.operand (read_expression d) (read_command d) (read_declaration d)

-- All nodes of an image: with none of them the root is absent.
abbrev pub read_routine : List Node → Got Root
read_routine [] = got absent 0 []
read_routine (n ∷ ns) = read_root most_depth 0 (n ∷ ns)

-- The two parallel arrays of n words, as n nodes.
unfoldable pub nodes_of : (kinds operands : List ℕ) → List Node
nodes_of [] ws = []
nodes_of (k ∷ ks) [] = []
nodes_of (k ∷ ks) (w ∷ ws) = record { kind = k; operand = w } ∷ nodes_of ks ws

-- What reading an image comes to.
pub data Reading : Type 0 where
  bad : Refusal → (place : ℕ) → Reading
  image : (registers : ℕ) → Root → Reading

-- Last, nodes left over (5), at the first of them.
abbrev pub whole : (registers : ℕ) → Got Root → Reading
whole r (refused x p) = bad x p
whole r (got t i []) = image r t
whole r (got t i (n ∷ ns)) = bad Refusals.Tree i

-- n is at most 2,000 and r at most 16.
abbrev pub size_fits : (n r : ℕ) → Bool
size_fits n r = leb n most_nodes && leb r most_registers

-- Order of the shape checks: fewer than 2 words (1); n or r (2); length other than 2 + 2n (1); then the nodes.
unfoldable pub read : List ℕ → Reading
read [] = bad Refusals.Length 0
read (n ∷ []) = bad Refusals.Length 0
read (n ∷ r ∷ ws) =
    let nodes = whole r (read_routine (nodes_of (take n ws) (drop n ws))) in
    let sized = cond (eqb (length ws) (2 * n)) nodes (bad Refusals.Length 0) in
    cond (size_fits n r) sized (bad Refusals.Size 0)
