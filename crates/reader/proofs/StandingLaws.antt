-- Where a stored tree stands and ends: the word of its root, its kind's bounds, its place and the node after its descendants. Whoever goes
-- over a tree in the work words cites these.
use Rattle.std.specs.Prelude.{ℕ, suc, ◌+◌, ◌*◌, ◌/◌, ◌%◌, ◌<◌, ◌≤◌, ◌≡◌, refl, List, get_or}
use Rattle.std.proofs.Common.{arith}
use Rattle.rules.specs.paper.Limits.{names, most_nodes}
use Rattle.rules.specs.paper.Kinds.{operator_number}
use Rattle.rules.specs.paper.Tree.{Expression, Formal, Command, Block, Declaration, Bound, Root, absent}
use Rattle.rules.specs.declared.kinds.Operator.{Operator}
use Rattle.rules.specs.declared.kinds.Operator.TheVariants.{Arithmetic as arithmetic, Eq, Order as order, Logic as logic}
use Rattle.rules.specs.declared.kinds.Arithmetic.TheVariants.{Sum, Sub, Mul, Div}
use Rattle.rules.specs.declared.kinds.Order.TheVariants.{Lt, Le, Gt, Ge}
use Rattle.rules.specs.declared.kinds.Logic.TheVariants.{And, Or}
use Rattle.reader.specs.KindNumbers.{id_number, not_number}
use Rattle.reader.specs.Pack.{kinds_room, packed_kind, packed_end}
use Rattle.reader.specs.Stored.{HasWord, StoredExpression, num, boo, id, deref, valref, binary, negation, StoredActuals, no_actuals, one_actual, StoredFormals, no_formals, one_formal, StoredCommand, assign, loop, cseq, block_of, call, conditional, StoredBlock, blk, StoredDeclaration, bind, dseq, StoredBound, plain_of, ref, abs, StoredRoot, root_expression, root_command, root_absent, RootAt}
use Rattle.reader.proofs.StoredFields.{kind_is, end_is}

-- ---- Places, and the parts of an operand.

-- The first child of a node stands after it.
pub after_node : (i : ℕ) → suc i ≡ i + 1
after_node i = omega arith

-- An operand of a name and a number.
pub operand_name : (x n : ℕ) → x < names → (x + names * n) % names ≡ x
operand_name x n h = omega arith

pub operand_number : (x n : ℕ) → x < names → (x + names * n) / names ≡ n
operand_number x n h = omega arith

-- ---- The operators' numbers: above those of Num, Boo and Id, below that of Not.

pub operator_above : (o : Operator) → id_number < operator_number o
operator_above (arithmetic Sum) = omega arith
operator_above (arithmetic Sub) = omega arith
operator_above (arithmetic Mul) = omega arith
operator_above (arithmetic Div) = omega arith
operator_above Eq = omega arith
operator_above (order Lt) = omega arith
operator_above (order Le) = omega arith
operator_above (order Gt) = omega arith
operator_above (order Ge) = omega arith
operator_above (logic And) = omega arith
operator_above (logic Or) = omega arith

pub operator_below : (o : Operator) → operator_number o < not_number
operator_below (arithmetic Sum) = omega arith
operator_below (arithmetic Sub) = omega arith
operator_below (arithmetic Mul) = omega arith
operator_below (arithmetic Div) = omega arith
operator_below Eq = omega arith
operator_below (order Lt) = omega arith
operator_below (order Le) = omega arith
operator_below (order Gt) = omega arith
operator_below (order Ge) = omega arith
operator_below (logic And) = omega arith
operator_below (logic Or) = omega arith

pub operator_low : (o : Operator) → operator_number o < kinds_room
operator_low o = omega (arith, operator_below o)

-- ---- The word of a tree's root.

pub record Rooted (words : List ℕ) (place next : ℕ) : Type 0 where
  pub kind : ℕ
  pub operand : ℕ
  pub word : HasWord words place kind operand next
  pub known : kind < kinds_room

abbrev rooted : {words : List ℕ} {i k w j : ℕ} → HasWord words i k w j → k < kinds_room → Rooted words i j
rooted {k = k} {w = w} h l = record { kind = k; operand = w; word = h; known = l }

unfoldable pub expression_root : {words : List ℕ} {d i j : ℕ} {e : Expression} → StoredExpression words d i j e → Rooted words i j
expression_root (num h) = rooted h (omega arith)
expression_root (boo h) = rooted h (omega arith)
expression_root (id l h) = rooted h (omega arith)
expression_root (deref l h) = rooted h (omega arith)
expression_root (valref l h) = rooted h (omega arith)
expression_root (binary {o = o} h a b) = rooted h (operator_low o)
expression_root (negation h a) = rooted h (omega arith)

unfoldable pub block_root : {words : List ℕ} {d i j : ℕ} {b : Block} → StoredBlock words d i j b → Rooted words i j
block_root (blk h a b) = rooted h (omega arith)

unfoldable pub command_root : {words : List ℕ} {d i j : ℕ} {c : Command} → StoredCommand words d i j c → Rooted words i j
command_root (assign l h a) = rooted h (omega arith)
command_root (loop h a b) = rooted h (omega arith)
command_root (cseq h a b) = rooted h (omega arith)
command_root (block_of a) = block_root a
command_root (call l g h a) = rooted h (omega arith)
command_root (conditional h a b c) = rooted h (omega arith)

unfoldable pub declaration_root : {words : List ℕ} {d i j : ℕ} {c : Declaration} → StoredDeclaration words d i j c → Rooted words i j
declaration_root (bind l h a) = rooted h (omega arith)
declaration_root (dseq h a b) = rooted h (omega arith)

-- The root is one of the nodes, and the reader's word has its kind and where the next tree stands.
pub root_low : {words : List ℕ} {i j : ℕ} → Rooted words i j → i < most_nodes
root_low r = r.word.place_low

pub root_kind : {words : List ℕ} {i j : ℕ} (r : Rooted words i j) → packed_kind (get_or words i 0) ≡ r.kind
root_kind r = kind_is r.word r.known

pub root_end : {words : List ℕ} {i j : ℕ} → Rooted words i j → packed_end (get_or words i 0) ≡ j
root_end r = end_is r.word r.known

pub expression_low : {words : List ℕ} {d i j : ℕ} {e : Expression} → StoredExpression words d i j e → i < most_nodes
expression_low s = root_low (expression_root s)

pub block_low : {words : List ℕ} {d i j : ℕ} {b : Block} → StoredBlock words d i j b → i < most_nodes
block_low s = root_low (block_root s)

pub command_low : {words : List ℕ} {d i j : ℕ} {c : Command} → StoredCommand words d i j c → i < most_nodes
command_low s = root_low (command_root s)

pub declaration_low : {words : List ℕ} {d i j : ℕ} {c : Declaration} → StoredDeclaration words d i j c → i < most_nodes
declaration_low s = root_low (declaration_root s)

pub expression_end : {words : List ℕ} {d i j : ℕ} {e : Expression} → StoredExpression words d i j e → packed_end (get_or words i 0) ≡ j
expression_end s = root_end (expression_root s)

pub block_end : {words : List ℕ} {d i j : ℕ} {b : Block} → StoredBlock words d i j b → packed_end (get_or words i 0) ≡ j
block_end s = root_end (block_root s)

pub command_end : {words : List ℕ} {d i j : ℕ} {c : Command} → StoredCommand words d i j c → packed_end (get_or words i 0) ≡ j
command_end s = root_end (command_root s)

pub declaration_end : {words : List ℕ} {d i j : ℕ} {c : Declaration} → StoredDeclaration words d i j c → packed_end (get_or words i 0) ≡ j
declaration_end s = root_end (declaration_root s)

-- ---- A tree ends after its root.

pub expression_on : {words : List ℕ} {d i j : ℕ} {e : Expression} → StoredExpression words d i j e → i < j
expression_on (num h) = omega arith
expression_on (boo h) = omega arith
expression_on (id l h) = omega arith
expression_on (deref l h) = omega arith
expression_on (valref l h) = omega arith
expression_on (binary h a b) = omega (arith, expression_on a, expression_on b)
expression_on (negation h a) = omega (arith, expression_on a)

pub actuals_on : {words : List ℕ} {d i j : ℕ} {es : List Expression} → StoredActuals words d i j es → i ≤ j
actuals_on no_actuals = omega arith
actuals_on (one_actual h g) = omega (arith, expression_on h, actuals_on g)

pub formals_on : {words : List ℕ} {i j : ℕ} {fs : List Formal} → StoredFormals words i j fs → i ≤ j
formals_on no_formals = omega arith
formals_on (one_formal q l m h g) = omega (arith, formals_on g)

mutual
  pub command_on : {words : List ℕ} {d i j : ℕ} {c : Command} → StoredCommand words d i j c → i < j
  command_on (assign l h a) = omega (arith, expression_on a)
  command_on (loop h a b) = omega (arith, expression_on a, command_on b)
  command_on (cseq h a b) = omega (arith, command_on a, command_on b)
  command_on (block_of a) = block_on a
  command_on (call l g h a) = omega (arith, actuals_on a)
  command_on (conditional h a b c) = omega (arith, expression_on a, command_on b, command_on c)

  pub block_on : {words : List ℕ} {d i j : ℕ} {b : Block} → StoredBlock words d i j b → i < j
  block_on (blk h a b) = omega (arith, declaration_on a, command_on b)

  pub declaration_on : {words : List ℕ} {d i j : ℕ} {c : Declaration} → StoredDeclaration words d i j c → i < j
  declaration_on (bind l h a) = omega (arith, bound_on a)
  declaration_on (dseq h a b) = omega (arith, declaration_on a, declaration_on b)

  pub bound_on : {words : List ℕ} {d i j : ℕ} {b : Bound} → StoredBound words d i j b → i < j
  bound_on (plain_of a) = expression_on a
  bound_on (ref h a) = omega (arith, expression_on a)
  bound_on (abs l h a b) = omega (arith, formals_on a, block_on b)

-- ---- How many nodes a root has: at most 2,000; and with none it is absent.

pub nodes_low : {words : List ℕ} {nodes : ℕ} {t : Root} → RootAt words nodes t → nodes ≤ most_nodes
nodes_low at = by at.stored
  where
    by : {words : List ℕ} {d j : ℕ} {t : Root} → StoredRoot words d 0 j t → j ≤ most_nodes
    by (root_expression s) = (expression_root s).word.end_low
    by (root_command s) = (command_root s).word.end_low
    by root_absent = omega arith

pub absent_root : {words : List ℕ} {nodes : ℕ} {t : Root} → nodes ≡ 0 → RootAt words nodes t → t ≡ absent
absent_root none at = by none at.stored
  where
    by : {words : List ℕ} {d j : ℕ} {t : Root} → j ≡ 0 → StoredRoot words d 0 j t → t ≡ absent
    by q (root_expression s) = absurd (omega (arith, q, expression_on s))
    by q (root_command s) = absurd (omega (arith, q, command_on s))
    by q root_absent = refl
