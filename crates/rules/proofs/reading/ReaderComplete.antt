-- The reader reads back the listing of every tree that the paper's image allows: one half of ReaderExact.antt.
use Rattle.std.specs.Prelude.{ℕ, zero, suc, ◌+◌, ◌*◌, ◌/◌, ◌%◌, ◌≤◌, ◌<◌, ◌≡◌, refl, Bool, true, false, cond, List, [], ◌∷◌, ◌++◌, T, ltb, eqb, length}
use Rattle.std.proofs.Common.{sym, ap, ◌∙◌, subst, arith, lt→ltb}
use Rattle.std.proofs.Math.Option.{Option, none, some}
use Rattle.rules.proofs.Basics.{append_assoc, append_nothing, true_test}
use Rattle.rules.specs.paper.Tree.{Operator, arithmetic, Eq, order, logic, Sum, Sub, Mul, Div, Lt, Le, Gt, Ge, And, Or, Expression, Boo, Formal, Command, block, Block, Declaration, Bound, plain, Root, expression, command}
use Rattle.rules.specs.paper.Limits.{words, names, codes, most_parameters, most_depth}
use Rattle.rules.specs.paper.Kinds.{Kind, ExpressionKind, CommandKind, DeclarationKind, num, boo, id, deref, valref, binary, negation, assign, loop, cseq, blk, call, conditional, bind, dseq, expression_kind, command_kind, declaration_kind, ref, abs, formal, kind_of, operand_fits, operator_number, upper_part, kind_number}
use Rattle.rules.specs.paper.Reader.{Node, Got, refused, got, Read, then, ◌>>=◌, give, Header, node, wants_expression, wants_command, wants_declaration, wants_blk, wants_bound, wants_formal, wants_root, read_expression, read_many, read_formal, read_command, read_block, read_declaration, read_bound, read_root, read_routine, name_part, expression_by, command_by, blk_kind, plain_kind, root_expression, root_command}
use Rattle.rules.specs.claims.Listing.{a_node, truth_word, expression_nodes, formal_nodes, all_nodes, command_nodes, block_nodes, declaration_nodes, bound_nodes, root_nodes}
use Rattle.rules.specs.claims.Shape.{ShapedExpression, ShapedFormal, Many, none_left, one_more, ShapedCommand, ShapedBlock, ShapedDeclaration, ShapedBound, ShapedRoot}
use Rattle.rules.specs.claims.Shape as Shape

operator_known : (o : Operator) → kind_of (operator_number o) ≡ some (expression_kind (binary o))
unfolding kind_of
operator_known (arithmetic Sum) = refl
operator_known (arithmetic Sub) = refl
operator_known (arithmetic Mul) = refl
operator_known (arithmetic Div) = refl
operator_known Eq = refl
operator_known (order Lt) = refl
operator_known (order Le) = refl
operator_known (order Gt) = refl
operator_known (order Ge) = refl
operator_known (logic And) = refl
operator_known (logic Or) = refl

-- Each kind's number is found in the table.
pub kind_known : (k : Kind) → kind_of (kind_number k) ≡ some k
unfolding kind_of
kind_known (expression_kind num) = refl
kind_known (expression_kind boo) = refl
kind_known (expression_kind id) = refl
kind_known (expression_kind (binary o)) = operator_known o
kind_known (expression_kind negation) = refl
kind_known (expression_kind deref) = refl
kind_known (expression_kind valref) = refl
kind_known (command_kind assign) = refl
kind_known (command_kind loop) = refl
kind_known (command_kind cseq) = refl
kind_known (command_kind blk) = refl
kind_known (command_kind call) = refl
kind_known (command_kind conditional) = refl
kind_known (declaration_kind bind) = refl
kind_known (declaration_kind dseq) = refl
kind_known ref = refl
kind_known abs = refl
kind_known formal = refl

-- A node of a wanted kind whose operand fits is read.
node_read : {K : Type 0} (wants : Kind → Option K) (k : Kind) (s : K) (w i : ℕ) (rest : List Node) → wants k ≡ some s → T (operand_fits k w) →
    node wants i (a_node (kind_number k) w ∷ rest) ≡ got (record { place = i; kind = s; operand = w }) (suc i) rest
unfolding node
node_read wants k s w i rest q h = rw (kind_known k, q, true_test (operand_fits k w) h)

-- What follows a node, or a child, that is read.
followed : {A B : Type 0} (m : Got A) (a : A) (i : ℕ) (rest : List Node) (f : A → Read B) → m ≡ got a i rest → then m f ≡ f a i rest
followed m a i rest f q = ap (λ g. then g f) q

low_word : (b : Bool) → T (operand_fits (expression_kind boo) (truth_word b))
unfolding operand_fits
low_word true = tt
low_word false = tt

truth_back : (b : Bool) → eqb (truth_word b) 1 ≡ b
truth_back true = refl
truth_back false = refl

-- An expression's listing begins with its own node, and what follows is read as its children. So it is read wherever an
-- expression may stand: as a child, under a Bind, as the root.
record Opened (d i j : ℕ) (e : Expression) (rest : List Node) : Type 0 where
  levels : ℕ
  deep : d ≡ suc levels
  kind : ExpressionKind
  operand : ℕ
  children : List Node
  listed : expression_nodes e ++ rest ≡ a_node (kind_number (expression_kind kind)) operand ∷ children
  fits : T (operand_fits (expression_kind kind) operand)
  reads : expression_by kind i operand (read_expression levels) (suc i) children ≡ got e j rest

opened_read : (d i j : ℕ) (e : Expression) (rest : List Node) → Opened d i j e rest → read_expression d i (expression_nodes e ++ rest) ≡ got e j rest
unfolding read_expression
opened_read d i j e rest o =
    rw (o.deep, o.listed, node_read wants_expression (expression_kind o.kind) o.kind o.operand i o.children refl o.fits)
    o.reads

opened : {d i j : ℕ} {e : Expression} → ShapedExpression d i j e → (rest : List Node) → Opened d i j e rest
unfolding expression_nodes operand_fits
opened (Shape.num {d = d} {n = n} h) rest =
    record { levels = d; deep = refl; kind = num; operand = n; children = rest; listed = refl; fits = lt→ltb n words h; reads = refl }
opened (Shape.boo {d = d} {i = i} {b = b}) rest =
    record { levels = d; deep = refl; kind = boo; operand = truth_word b; children = rest; listed = refl; fits = low_word b; reads = ap (λ t. got (Boo i t) (suc i) rest) (truth_back b) }
opened (Shape.id {d = d} {x = x} h) rest =
    record { levels = d; deep = refl; kind = id; operand = x; children = rest; listed = refl; fits = lt→ltb x names h; reads = refl }
opened (Shape.deref {d = d} {x = x} h) rest =
    record { levels = d; deep = refl; kind = deref; operand = x; children = rest; listed = refl; fits = lt→ltb x names h; reads = refl }
opened (Shape.valref {d = d} {x = x} h) rest =
    record { levels = d; deep = refl; kind = valref; operand = x; children = rest; listed = refl; fits = lt→ltb x names h; reads = refl }
opened (Shape.binary {d = d} {i = i} {j = j} {k = k} {o = o} {e₁ = e₁} {e₂ = e₂} h g) rest =
    record {
      levels = d;
      deep = refl;
      kind = binary o;
      operand = 0;
      children = expression_nodes e₁ ++ (expression_nodes e₂ ++ rest);
      listed = ap {B = List Node} (λ r. a_node (operator_number o) 0 ∷ r) (append_assoc (expression_nodes e₁) (expression_nodes e₂) rest);
      fits = tt;
      reads = rw (opened_read d (suc i) j e₁ (expression_nodes e₂ ++ rest) (opened h (expression_nodes e₂ ++ rest)), opened_read d j k e₂ rest (opened g rest));
    }
opened (Shape.negation {d = d} {i = i} {j = j} {e = e} h) rest =
    record { levels = d; deep = refl; kind = negation; operand = 0; children = expression_nodes e ++ rest; listed = refl; fits = tt; reads = rw (opened_read d (suc i) j e rest (opened h rest)) }

pub expression_read : {d i j : ℕ} {e : Expression} → ShapedExpression d i j e → (rest : List Node) → read_expression d i (expression_nodes e ++ rest) ≡ got e j rest
expression_read {d} {i} {j} {e} h rest = opened_read d i j e rest (opened h rest)

many_read : {A : Type 0} (Shaped : (place next : ℕ) → A → Type 0) (one : Read A) (nodes : A → List Node) →
    ((i j : ℕ) (a : A) (rest : List Node) → Shaped i j a → one i (nodes a ++ rest) ≡ got a j rest) →
    (i j : ℕ) (as' : List A) (rest : List Node) → Many A Shaped i j as' → read_many (length as') one i (all_nodes nodes as' ++ rest) ≡ got as' j rest
unfolding read_many all_nodes
many_read Shaped one nodes each i j as' rest none_left = refl
many_read Shaped one nodes each i j as' rest (one_more {j = k} {a = a} {rest = more} h g) =
    rw (
      append_assoc (nodes a) (all_nodes nodes more) rest,
      each i k a (all_nodes nodes more ++ rest) h,
      many_read Shaped one nodes each k j more rest g,
    )

-- name + 64 × the other, taken apart again
name_back : (x k : ℕ) → x < names → name_part (x + names * k) ≡ x
name_back x k h = omega arith

upper_back : (x k : ℕ) → x < names → upper_part (x + names * k) ≡ k
upper_back x k h = omega arith

formal_fits : (x c : ℕ) → x < names → c < codes → T (operand_fits formal (x + names * c))
unfolding operand_fits
formal_fits x c h k = lt→ltb (x + names * c) (names * codes) (omega arith)

call_fits : (x k : ℕ) → x < names → k ≤ most_parameters → T (operand_fits (command_kind call) (x + names * k))
unfolding operand_fits
call_fits x k h g = lt→ltb (x + names * k) (names * suc most_parameters) (omega arith)

abs_fits : (k : ℕ) → k ≤ most_parameters → T (operand_fits abs k)
unfolding operand_fits
abs_fits k g = lt→ltb k (suc most_parameters) (omega arith)

assign_fits : (x : ℕ) → x < names → T (operand_fits (command_kind assign) x)
unfolding operand_fits
assign_fits x h = lt→ltb x names h

bind_fits : (x : ℕ) → x < names → T (operand_fits (declaration_kind bind) x)
unfolding operand_fits
bind_fits x h = lt→ltb x names h

loop_fits : T (operand_fits (command_kind loop) 0)
unfolding operand_fits
loop_fits = tt

cseq_fits : T (operand_fits (command_kind cseq) 0)
unfolding operand_fits
cseq_fits = tt

blk_fits : T (operand_fits (command_kind blk) 0)
unfolding operand_fits
blk_fits = tt

conditional_fits : T (operand_fits (command_kind conditional) 0)
unfolding operand_fits
conditional_fits = tt

dseq_fits : T (operand_fits (declaration_kind dseq) 0)
unfolding operand_fits
dseq_fits = tt

ref_fits : T (operand_fits ref 0)
unfolding operand_fits
ref_fits = tt

formal_read : (d i j : ℕ) (f : Formal) (rest : List Node) → ShapedFormal d i j f → read_formal d i (formal_nodes f ++ rest) ≡ got f j rest
unfolding read_formal
formal_read d i j f rest (Shape.formal {i = k} q h g) =
    rw (
      node_read wants_formal formal _ (f.name + names * f.code) k rest refl (formal_fits f.name f.code h g),
      name_back f.name f.code h,
      upper_back f.name f.code h,
      ← q,
    )

plain_read : {d i j : ℕ} {e : Expression} → ShapedExpression d i j e → (rest : List Node) → read_bound d i (expression_nodes e ++ rest) ≡ got (plain e) j rest
unfolding read_bound
plain_read {i = i} h rest =
    let o = opened h rest in
    rw (o.deep, o.listed, node_read wants_bound (expression_kind o.kind) (plain_kind o.kind) o.operand i o.children refl o.fits, o.reads)

-- The same of a command.
record OpenedCommand (d i j : ℕ) (c : Command) (nodes : List Node) (rest : List Node) : Type 0 where
  levels : ℕ
  deep : d ≡ suc levels
  kind : CommandKind
  operand : ℕ
  children : List Node
  listed : nodes ++ rest ≡ a_node (kind_number (command_kind kind)) operand ∷ children
  fits : T (operand_fits (command_kind kind) operand)
  reads : command_by kind i operand (read_expression levels) (read_command levels) (read_declaration levels) (suc i) children ≡ got c j rest

opened_command_read : (d i j : ℕ) (c : Command) (nodes rest : List Node) → OpenedCommand d i j c nodes rest → read_command d i (nodes ++ rest) ≡ got c j rest
unfolding read_command
opened_command_read d i j c nodes rest o =
    rw (o.deep, o.listed, node_read wants_command (command_kind o.kind) o.kind o.operand i o.children refl o.fits)
    o.reads

mutual
  unfolding command_nodes read_command

  opened_command : {d i j : ℕ} {c : Command} → ShapedCommand d i j c → (rest : List Node) → OpenedCommand d i j c (command_nodes c) rest
  opened_command (Shape.assign {d = d} {x = x} {e = e} h g) rest =
      record { levels = d; deep = refl; kind = assign; operand = x; children = expression_nodes e ++ rest; listed = refl; fits = assign_fits x h; reads = rw (expression_read g rest) }
  opened_command (Shape.loop {d = d} {j = j} {k = k} {e = e} {c = c} h g) rest =
      record {
        levels = d;
        deep = refl;
        kind = loop;
        operand = 0;
        children = expression_nodes e ++ (command_nodes c ++ rest);
        listed = ap {B = List Node} (λ r. a_node 21 0 ∷ r) (append_assoc (expression_nodes e) (command_nodes c) rest);
        fits = loop_fits;
        reads = rw (expression_read h (command_nodes c ++ rest), opened_command_read d j k c (command_nodes c) rest (opened_command g rest));
      }
  opened_command (Shape.cseq {d = d} {i = i} {j = j} {k = k} {c₁ = c₁} {c₂ = c₂} h g) rest =
      record {
        levels = d;
        deep = refl;
        kind = cseq;
        operand = 0;
        children = command_nodes c₁ ++ (command_nodes c₂ ++ rest);
        listed = ap {B = List Node} (λ r. a_node 22 0 ∷ r) (append_assoc (command_nodes c₁) (command_nodes c₂) rest);
        fits = cseq_fits;
        reads =
            rw (
              opened_command_read d (suc i) j c₁ (command_nodes c₁) (command_nodes c₂ ++ rest) (opened_command h (command_nodes c₂ ++ rest)),
              opened_command_read d j k c₂ (command_nodes c₂) rest (opened_command g rest),
            );
      }
  opened_command (Shape.block_of h) rest = opened_block h rest
  opened_command (Shape.call {d = d} {i = i} {j = j} {x = x} {es = es} h g m) rest =
      record {
        levels = d;
        deep = refl;
        kind = call;
        operand = x + names * length es;
        children = all_nodes expression_nodes es ++ rest;
        listed = refl;
        fits = call_fits x (length es) h g;
        reads =
            rw (
              name_back x (length es) h,
              upper_back x (length es) h,
              many_read (ShapedExpression d) (read_expression d) expression_nodes (λ k l e more s. expression_read s more) (suc i) j es rest m,
            );
      }
  opened_command (Shape.conditional {d = d} {j = j} {k = k} {l = l} {e = e} {c₁ = c₁} {c₂ = c₂} h g f) rest =
      record {
        levels = d;
        deep = refl;
        kind = conditional;
        operand = 0;
        children = expression_nodes e ++ (command_nodes c₁ ++ (command_nodes c₂ ++ rest));
        listed =
            ap {B = List Node} (λ r. a_node 25 0 ∷ r)
            (append_assoc (expression_nodes e) (command_nodes c₁ ++ command_nodes c₂) rest
            ∙ ap (λ r. expression_nodes e ++ r) (append_assoc (command_nodes c₁) (command_nodes c₂) rest));
        fits = conditional_fits;
        reads =
            rw (
              expression_read h (command_nodes c₁ ++ (command_nodes c₂ ++ rest)),
              opened_command_read d j k c₁ (command_nodes c₁) (command_nodes c₂ ++ rest) (opened_command g (command_nodes c₂ ++ rest)),
              opened_command_read d k l c₂ (command_nodes c₂) rest (opened_command f rest),
            );
      }

  -- a Blk as a command
  opened_block : {d i j : ℕ} {b : Block} → ShapedBlock d i j b → (rest : List Node) → OpenedCommand d i j (block b) (block_nodes b) rest
  opened_block (Shape.blk {d = d} {j = j} {k = k} {dec = dec} {c = c} h g) rest =
      record {
        levels = d;
        deep = refl;
        kind = blk;
        operand = 0;
        children = declaration_nodes dec ++ (command_nodes c ++ rest);
        listed = ap {B = List Node} (λ r. a_node 23 0 ∷ r) (append_assoc (declaration_nodes dec) (command_nodes c) rest);
        fits = blk_fits;
        reads = rw (declaration_read h (command_nodes c ++ rest), opened_command_read d j k c (command_nodes c) rest (opened_command g rest));
      }

  -- a Blk as the last child of an Abs
  pub block_read : {d i j : ℕ} {b : Block} → ShapedBlock d i j b → (rest : List Node) → read_block d i (block_nodes b ++ rest) ≡ got b j rest
  block_read (Shape.blk {d = d} {i = i} {j = j} {k = k} {dec = dec} {c = c} h g) rest =
      rw (
        node_read wants_blk (command_kind blk) blk_kind 0 i ((declaration_nodes dec ++ command_nodes c) ++ rest) refl blk_fits,
        append_assoc (declaration_nodes dec) (command_nodes c) rest,
        declaration_read h (command_nodes c ++ rest),
        opened_command_read d j k c (command_nodes c) rest (opened_command g rest),
      )

  pub declaration_read : {d i j : ℕ} {dec : Declaration} → ShapedDeclaration d i j dec → (rest : List Node) → read_declaration d i (declaration_nodes dec ++ rest) ≡ got dec j rest
  declaration_read (Shape.bind {i = i} {x = x} {b = b} h g) rest =
      rw (node_read wants_declaration (declaration_kind bind) bind x i (bound_nodes b ++ rest) refl (bind_fits x h), bound_read g rest)
  declaration_read (Shape.dseq {i = i} {d₁ = d₁} {d₂ = d₂} h g) rest =
      rw (
        node_read wants_declaration (declaration_kind dseq) dseq 0 i ((declaration_nodes d₁ ++ declaration_nodes d₂) ++ rest) refl dseq_fits,
        append_assoc (declaration_nodes d₁) (declaration_nodes d₂) rest,
        declaration_read h (declaration_nodes d₂ ++ rest),
        declaration_read g rest,
      )

  pub bound_read : {d i j : ℕ} {b : Bound} → ShapedBound d i j b → (rest : List Node) → read_bound d i (bound_nodes b ++ rest) ≡ got b j rest
  bound_read (Shape.plain_of {d = d} {i = i} {j = j} {e = e} h) rest = plain_read h rest
  bound_read (Shape.ref {d = d} {i = i} {j = j} {e = e} h) rest =
      rw (node_read wants_bound ref _ 0 i (expression_nodes e ++ rest) refl ref_fits, expression_read h rest)
  bound_read (Shape.abs {d = d} {i = i} {j = j} {fs = fs} {b = b} g m h) rest =
      rw (
        node_read wants_bound abs _ (length fs) i ((all_nodes formal_nodes fs ++ block_nodes b) ++ rest) refl (abs_fits (length fs) g),
        append_assoc (all_nodes formal_nodes fs) (block_nodes b) rest,
        many_read (ShapedFormal d) (read_formal d) formal_nodes (λ k l f more s. formal_read d k l f more s) (suc i) j fs (block_nodes b ++ rest) m,
        block_read h rest,
      )

-- The reader reads back the listing of a root that is an expression, and of one that is a command, whatever follows it.
expression_root_read : {d i j : ℕ} {e : Expression} → ShapedExpression d i j e → (rest : List Node) → read_root d i (expression_nodes e ++ rest) ≡ got (expression e) j rest
unfolding read_root
expression_root_read {i = i} h rest =
    let o = opened h rest in
    rw (o.deep, o.listed, node_read wants_root (expression_kind o.kind) (root_expression o.kind) o.operand i o.children refl o.fits, o.reads)

command_root_read : {d i j : ℕ} {c : Command} → ShapedCommand d i j c → (rest : List Node) → read_root d i (command_nodes c ++ rest) ≡ got (command c) j rest
unfolding read_root
command_root_read {i = i} h rest =
    let o = opened_command h rest in
    rw (o.deep, o.listed, node_read wants_root (command_kind o.kind) (root_command o.kind) o.operand i o.children refl o.fits, o.reads)

-- With a node there is a root to read.
pub routine_is_root : (ns rest : List Node) (n : Node) → ns ≡ n ∷ rest → read_routine ns ≡ read_root most_depth 0 ns
routine_is_root ns rest n q = ap read_routine q ∙ ap (read_root most_depth 0) (sym q)

-- What is read of a listing with nothing behind it.
listing_read : (ns rest : List Node) (n : Node) {g : Got Root} → ns ++ [] ≡ n ∷ rest → read_root most_depth 0 (ns ++ []) ≡ g → read_routine ns ≡ g
listing_read ns rest n listed q = routine_is_root ns rest n (sym (append_nothing ns) ∙ listed) ∙ ap (read_root most_depth 0) (sym (append_nothing ns)) ∙ q

-- The reader reads back the listing of every root.
pub routine_read : {j : ℕ} {t : Root} → ShapedRoot most_depth 0 j t → read_routine (root_nodes t) ≡ got t j []
unfolding root_nodes
routine_read (Shape.root_expression {e = e} h) = listing_read (expression_nodes e) _ _ (opened h []).listed (expression_root_read h [])
routine_read (Shape.root_command {c = c} h) = listing_read (command_nodes c) _ _ (opened_command h []).listed (command_root_read h [])
routine_read Shape.root_absent = refl
