-- A tree that stands in the work words is a forest of one tree, whatever the sorts of its nodes; where a forest ends; and that each of its
-- lines fits its columns.
use Rattle.std.specs.Prelude.{ℕ, suc, ◌+◌, ◌*◌, ◌≤◌, ◌≡◌, refl, List, [], ◌∷◌, ◌++◌, length}
use Rattle.std.proofs.Common.{sym, ap, ◌∙◌, subst, arith, length-append}
use Rattle.rules.proofs.Basics.{append_assoc, append_nothing}
use Rattle.rules.specs.paper.Limits.{most_depth, names}
use Rattle.rules.specs.paper.Kinds.{kind_number}
use Rattle.rules.specs.declared.kinds.Kind.{Kind}
use Rattle.rules.specs.declared.kinds.ExpressionKind.TheVariants.{Num as num, Boo as boo, Id as id, DeRef as deref, ValRef as valref, Binary as binary, Not as negation}
use Rattle.rules.specs.declared.kinds.CommandKind.TheVariants.{Assign as assign, Loop as loop, CSeq as cseq, Blk as blk, Call as call, Cond as conditional}
use Rattle.rules.specs.declared.kinds.DeclarationKind.TheVariants.{Bind as bind, DSeq as dseq}
use Rattle.rules.specs.declared.kinds.Kind.TheVariants.{Expression as expression_kind, Command as command_kind, Declaration as declaration_kind, Ref as ref, Abs as abs, Formal as formal}
use Rattle.rules.specs.paper.Tree.{Expression, Formal, Command, Block, Declaration, Bound, Root}
use Rattle.reader.specs.Stored.{HasWord, StoredExpression, StoredActuals, no_actuals, one_actual, StoredFormals, no_formals, one_formal, StoredCommand, StoredBlock, StoredDeclaration, StoredBound, StoredRoot, root_expression, root_command, root_absent, RootAt}
use Rattle.reader.specs.Stored as Stored
use Rattle.page.specs.Lines.{Line, line_of, node_lines, expression_lines, formal_lines, all_lines, command_lines, block_lines, declaration_lines, bound_lines, root_lines}
use Rattle.page.specs.Page.{line_bytes, line_text, lines_text}
use Rattle.page.specs.Forest.{Forest, no_tree, a_tree}
use Rattle.page.specs.LineLaws.{LineFits, word_fits, line_length}

-- ---- Forests one after the other, and a forest of one tree.

pub join : {words : List ℕ} {d i j k : ℕ} {a b : List Line} → Forest words d i j a → Forest words d j k b → Forest words d i k (a ++ b)
join no_tree g = g
join {words} {d} {i} {k = k} {b = b} (a_tree {j = j} {w = w} {kind = kind} {below = below} {rest = rest} h low inner later) g =
    subst (Forest words d i k) (sym (ap {B = List Line} (λ ls. line_of i d kind w j ∷ ls) (append_assoc below rest b))) (a_tree h low inner (join later g))

-- A forest has as many nodes as lines.
pub counted : {words : List ℕ} {d i j : ℕ} {ls : List Line} → Forest words d i j ls → j ≡ i + length ls
counted no_tree = omega arith
counted (a_tree {below = below} {rest = rest} h low inner later) = omega (arith, counted inner, counted later, length-append below rest)

pub one_tree : {words : List ℕ} {d i j w : ℕ} (kind : Kind) {below : List Line} → HasWord words i (kind_number kind) w j → d ≤ most_depth → Forest words (suc d) (suc i) j below →
    Forest words d i j (node_lines d kind w i below)
one_tree {words} {d} {i} {j} {w} kind {below} h low inner = subst (Forest words d i j) same (a_tree h low inner no_tree)
  where
    ends : j ≡ i + suc (length below)
    ends = omega (arith, counted inner)

    same : line_of i d kind w j ∷ (below ++ []) ≡ node_lines d kind w i below
    same = ap {B = List Line} (λ ls. line_of i d kind w j ∷ ls) (append_nothing below) ∙ ap {B = List Line} (λ e. line_of i d kind w e ∷ below) ends

-- ---- The trees of each sort. A tree at a depth may have as many levels as there are from there on.

abbrev Levels : (depth levels : ℕ) → Type 0
Levels d l = d + l ≤ suc most_depth

pub expression_forest : {words : List ℕ} {l i j : ℕ} {e : Expression} (d : ℕ) → Levels d l → StoredExpression words l i j e → Forest words d i j (expression_lines d e)
unfolding expression_lines
expression_forest d low (Stored.num h) = one_tree (expression_kind num) h (omega (arith, low)) no_tree
expression_forest d low (Stored.boo h) = one_tree (expression_kind boo) h (omega (arith, low)) no_tree
expression_forest d low (Stored.id x h) = one_tree (expression_kind id) h (omega (arith, low)) no_tree
expression_forest d low (Stored.deref x h) = one_tree (expression_kind deref) h (omega (arith, low)) no_tree
expression_forest d low (Stored.valref x h) = one_tree (expression_kind valref) h (omega (arith, low)) no_tree
expression_forest d low (Stored.binary {o = o} h a b) =
    one_tree (expression_kind (binary o)) h (omega (arith, low)) (join (expression_forest (suc d) (omega (arith, low)) a) (expression_forest (suc d) (omega (arith, low)) b))
expression_forest d low (Stored.negation h a) = one_tree (expression_kind negation) h (omega (arith, low)) (expression_forest (suc d) (omega (arith, low)) a)

actuals_forest : {words : List ℕ} {l i j : ℕ} {es : List Expression} (d : ℕ) → Levels d l → StoredActuals words l i j es → Forest words d i j (all_lines (expression_lines d) es)
unfolding all_lines
actuals_forest d low no_actuals = no_tree
actuals_forest d low (one_actual h g) = join (expression_forest d low h) (actuals_forest d low g)

formals_forest : {words : List ℕ} {i j : ℕ} {fs : List Formal} (d : ℕ) → d ≤ most_depth → StoredFormals words i j fs → Forest words d i j (all_lines (formal_lines d) fs)
unfolding all_lines
formals_forest d low no_formals = no_tree
formals_forest {words} {i} d low (one_formal {f = f} q l m h g) =
    join (subst (λ p. Forest words d i (suc i) (node_lines d formal (f.name + names * f.code) p [])) (sym q) (one_tree formal h low no_tree)) (formals_forest d low g)

mutual
  unfolding command_lines block_lines declaration_lines bound_lines

  pub command_forest : {words : List ℕ} {l i j : ℕ} {c : Command} (d : ℕ) → Levels d l → StoredCommand words l i j c → Forest words d i j (command_lines d c)
  command_forest d low (Stored.assign x h a) = one_tree (command_kind assign) h (omega (arith, low)) (expression_forest (suc d) (omega (arith, low)) a)
  command_forest d low (Stored.loop h a b) =
      one_tree (command_kind loop) h (omega (arith, low)) (join (expression_forest (suc d) (omega (arith, low)) a) (command_forest (suc d) (omega (arith, low)) b))
  command_forest d low (Stored.cseq h a b) =
      one_tree (command_kind cseq) h (omega (arith, low)) (join (command_forest (suc d) (omega (arith, low)) a) (command_forest (suc d) (omega (arith, low)) b))
  command_forest d low (Stored.block_of a) = block_forest d low a
  command_forest d low (Stored.call x g h a) = one_tree (command_kind call) h (omega (arith, low)) (actuals_forest (suc d) (omega (arith, low)) a)
  command_forest d low (Stored.conditional h a b c) =
      one_tree (command_kind conditional) h (omega (arith, low))
      (join (expression_forest (suc d) (omega (arith, low)) a) (join (command_forest (suc d) (omega (arith, low)) b) (command_forest (suc d) (omega (arith, low)) c)))

  block_forest : {words : List ℕ} {l i j : ℕ} {b : Block} (d : ℕ) → Levels d l → StoredBlock words l i j b → Forest words d i j (block_lines d b)
  block_forest d low (Stored.blk h a b) =
      one_tree (command_kind blk) h (omega (arith, low)) (join (declaration_forest (suc d) (omega (arith, low)) a) (command_forest (suc d) (omega (arith, low)) b))

  declaration_forest : {words : List ℕ} {l i j : ℕ} {c : Declaration} (d : ℕ) → Levels d l → StoredDeclaration words l i j c → Forest words d i j (declaration_lines d c)
  declaration_forest d low (Stored.bind x h a) = one_tree (declaration_kind bind) h (omega (arith, low)) (bound_forest (suc d) (omega (arith, low)) a)
  declaration_forest d low (Stored.dseq h a b) =
      one_tree (declaration_kind dseq) h (omega (arith, low)) (join (declaration_forest (suc d) (omega (arith, low)) a) (declaration_forest (suc d) (omega (arith, low)) b))

  bound_forest : {words : List ℕ} {l i j : ℕ} {b : Bound} (d : ℕ) → Levels d l → StoredBound words l i j b → Forest words d i j (bound_lines d b)
  bound_forest d low (Stored.plain_of a) = expression_forest d low a
  bound_forest d low (Stored.ref h a) = one_tree ref h (omega (arith, low)) (expression_forest (suc d) (omega (arith, low)) a)
  bound_forest d low (Stored.abs few h a b) =
      one_tree abs h (omega (arith, low)) (join (formals_forest (suc d) (block_depth (suc d) (omega (arith, low)) b) a) (block_forest (suc d) (omega (arith, low)) b))
    where
      -- A function's Formals are as deep as its Blk.
      block_depth : {words : List ℕ} {l i j : ℕ} {b : Block} (d : ℕ) → Levels d l → StoredBlock words l i j b → d ≤ most_depth
      block_depth d low (Stored.blk h a b) = omega (arith, low)

-- ---- The tree of an image.

pub root_forest : {words : List ℕ} {nodes : ℕ} {t : Root} → RootAt words nodes t → Forest words 1 0 nodes (root_lines t)
unfolding root_lines
root_forest at = by at.depth_low at.stored
  where
    by : {words : List ℕ} {l j : ℕ} {t : Root} → l ≤ most_depth → StoredRoot words l 0 j t → Forest words 1 0 j (root_lines t)
    by low (root_expression s) = expression_forest 1 (omega (arith, low)) s
    by low (root_command s) = command_forest 1 (omega (arith, low)) s
    by low root_absent = no_tree

-- ---- Its lines fit their columns.

abbrev pub AllFit : List Line → Type 0
AllFit [] = Unit {0}
AllFit (l ∷ ls) = LineFits l × AllFit ls

pub fit_both : (a b : List Line) → AllFit a → AllFit b → AllFit (a ++ b)
fit_both [] b p q = q
fit_both (l ∷ a) b p q = (p.0, fit_both a b p.1 q)

pub fit_first : (a b : List Line) → AllFit (a ++ b) → AllFit a
fit_first [] b p = tt
fit_first (l ∷ a) b p = (p.0, fit_first a b p.1)

pub fit_later : (a b : List Line) → AllFit (a ++ b) → AllFit b
fit_later [] b p = p
fit_later (l ∷ a) b p = fit_later a b p.1

pub all_fit : {words : List ℕ} {d i j : ℕ} {ls : List Line} → Forest words d i j ls → AllFit ls
all_fit no_tree = tt
all_fit {d = d} (a_tree {kind = kind} {below = below} {rest = rest} h low inner later) = (word_fits d kind h low, fit_both below rest (all_fit inner) (all_fit later))

-- ---- The text of its lines.

pub lines_append : (a b : List Line) → lines_text (a ++ b) ≡ lines_text a ++ lines_text b
unfolding lines_text
lines_append [] b = refl
lines_append (l ∷ a) b = ap (λ t. line_text l ++ t) (lines_append a b) ∙ sym (append_assoc (line_text l) (lines_text a) (lines_text b))

pub lines_length : (ls : List Line) → AllFit ls → length (lines_text ls) ≡ line_bytes * length ls
unfolding lines_text
lines_length [] fits = refl
lines_length (l ∷ ls) fits = omega (arith, length-append (line_text l) (lines_text ls), line_length l fits.0, lines_length ls fits.1)
