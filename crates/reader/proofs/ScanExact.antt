-- The reader of Scan.antt reads what the rules' readers read, sort by sort, and answers the words of the tree.
use Prim.Native.Nat.{ℕ, zero, suc, ◌+◌, ◌*◌, ◌<◌}
use mathlib.Core.Path.{◌≡◌, refl, sym, ap, ◌∙◌}
use mathlib.Core.List.{List, [], ◌++◌}
use native.Mathlib.Omega.{arith}
use lib.Dec.{T, eqb, ltb, ltb→lt}
use lib.ListN.{length, replicate}
use Rattle.rules.proofs.Basics.{append_nothing}
use Rattle.rules.specs.paper.Tree.{Num, Boo, Id, DeRef, ValRef, Binary, Not, Assign, Loop, CSeq, block, Call, Cond, Blk, Bind, DSeq, plain, Ref, Abs, expression, command}
use Rattle.rules.specs.paper.Limits.{names}
use Rattle.rules.specs.paper.Kinds.{operand_fits, operator_number, upper_part}
use Rattle.rules.specs.declared.kinds.Kind.{Kind}
use Rattle.rules.specs.declared.kinds.ExpressionKind.{ExpressionKind}
use Rattle.rules.specs.declared.kinds.CommandKind.{CommandKind}
use Rattle.rules.specs.declared.kinds.DeclarationKind.{DeclarationKind}
use Rattle.rules.specs.declared.kinds.ExpressionKind.TheVariants.{Num as num, Boo as boo, Id as id, DeRef as deref, ValRef as valref, Binary as binary, Not as negation}
use Rattle.rules.specs.declared.kinds.CommandKind.TheVariants.{Assign as assign, Loop as loop, CSeq as cseq, Blk as blk, Call as call, Cond as conditional}
use Rattle.rules.specs.declared.kinds.DeclarationKind.TheVariants.{Bind as bind, DSeq as dseq}
use Rattle.rules.specs.declared.kinds.Kind.TheVariants.{Expression as expression_kind, Command as command_kind, Declaration as declaration_kind, Ref as ref, Abs as abs, Formal as formal}
use Rattle.rules.specs.declared.kinds.Sort.TheVariants.{Expression as an_expression, Command as a_command, Declaration as a_declaration, Bound as a_bound, Formal as a_formal, Block as a_Block, Root as a_root}
use Rattle.rules.specs.paper.Reader.{Node, got, then, ◌>>=◌, give, wants_expression, wants_command, wants_declaration, wants_blk, wants_bound, wants_formal, wants_root, BlkKind, blk_kind, BoundKind, plain_kind, ref_kind, abs_kind, FormalKind, formal_kind, RootKind, root_expression, root_command, expression_by, command_by, declaration_by, bound_by, root_by, name_part, read_expression, read_many, read_formal, read_command, read_block, read_declaration, read_bound, read_root}
use Rattle.rules.specs.claims.Listing.{truth_word}
use Rattle.reader.specs.KindNumbers.{boo_number, not_number, loop_number, cseq_number, blk_number, call_number, conditional_number, dseq_number, ref_number, abs_number, formal_number}
use Rattle.reader.specs.Pack.{node_words, expression_words, formal_words, all_words, command_words, block_words, declaration_words, bound_words, root_words}
use Rattle.reader.specs.Scan.{accepting, scan_list, scan}
use Rattle.reader.proofs.ScanLaws.{map_got, then_same, then_assoc, then_wrapped, then_same_with, option_map, finish, below, one_child, two_children, three_children, no_child, many_same, many_counted, list_append, sorted_same, deep_same}

-- ---- Each reader's own way of saying which sort it wants.
wants_expression_same : (k : Kind) → option_map expression_kind (wants_expression k) ≡ accepting an_expression k
unfolding option_map
wants_expression_same (expression_kind k) = refl
wants_expression_same (command_kind k) = refl
wants_expression_same (declaration_kind k) = refl
wants_expression_same ref = refl
wants_expression_same abs = refl
wants_expression_same formal = refl

wants_command_same : (k : Kind) → option_map command_kind (wants_command k) ≡ accepting a_command k
unfolding option_map
wants_command_same (expression_kind k) = refl
wants_command_same (command_kind k) = refl
wants_command_same (declaration_kind k) = refl
wants_command_same ref = refl
wants_command_same abs = refl
wants_command_same formal = refl

wants_declaration_same : (k : Kind) → option_map declaration_kind (wants_declaration k) ≡ accepting a_declaration k
unfolding option_map
wants_declaration_same (expression_kind k) = refl
wants_declaration_same (command_kind k) = refl
wants_declaration_same (declaration_kind k) = refl
wants_declaration_same ref = refl
wants_declaration_same abs = refl
wants_declaration_same formal = refl

blk_only : BlkKind → Kind
blk_only blk_kind = command_kind blk

wants_blk_same : (k : Kind) → option_map blk_only (wants_blk k) ≡ accepting a_Block k
unfolding option_map blk_only
wants_blk_same (expression_kind k) = refl
wants_blk_same (command_kind assign) = refl
wants_blk_same (command_kind loop) = refl
wants_blk_same (command_kind cseq) = refl
wants_blk_same (command_kind blk) = refl
wants_blk_same (command_kind call) = refl
wants_blk_same (command_kind conditional) = refl
wants_blk_same (declaration_kind k) = refl
wants_blk_same ref = refl
wants_blk_same abs = refl
wants_blk_same formal = refl

formal_only : FormalKind → Kind
formal_only formal_kind = formal

wants_formal_same : (k : Kind) → option_map formal_only (wants_formal k) ≡ accepting a_formal k
unfolding option_map formal_only
wants_formal_same (expression_kind k) = refl
wants_formal_same (command_kind k) = refl
wants_formal_same (declaration_kind k) = refl
wants_formal_same ref = refl
wants_formal_same abs = refl
wants_formal_same formal = refl

abbrev bound_only : BoundKind → Kind
bound_only (plain_kind k) = expression_kind k
bound_only ref_kind = ref
bound_only abs_kind = abs

wants_bound_same : (k : Kind) → option_map bound_only (wants_bound k) ≡ accepting a_bound k
unfolding option_map
wants_bound_same (expression_kind k) = refl
wants_bound_same (command_kind k) = refl
wants_bound_same (declaration_kind k) = refl
wants_bound_same ref = refl
wants_bound_same abs = refl
wants_bound_same formal = refl

abbrev root_only : RootKind → Kind
root_only (root_expression k) = expression_kind k
root_only (root_command k) = command_kind k

wants_root_same : (k : Kind) → option_map root_only (wants_root k) ≡ accepting a_root k
unfolding option_map
wants_root_same (expression_kind k) = refl
wants_root_same (command_kind k) = refl
wants_root_same (declaration_kind k) = refl
wants_root_same ref = refl
wants_root_same abs = refl
wants_root_same formal = refl

-- ---- Expressions.

zero_word : (w : ℕ) → T (ltb w 1) → w ≡ 0
zero_word w t = omega (arith, ltb→lt w 1 t)

truth_word_back : (w : ℕ) → T (ltb w 2) → truth_word (eqb w 1) ≡ w
truth_word_back zero t = refl
truth_word_back (suc zero) t = refl
truth_word_back (suc (suc w)) t = absurd (above (ltb→lt (suc (suc w)) 2 t))
  where
    above : suc (suc w) < 2 → ⊥
    above h = omega arith

-- an operand that is 0
zero_operand : (k w p : ℕ) (ws : List ℕ) → T (ltb w 1) → node_words k 0 p ws ≡ node_words k w p ws
zero_operand k w p ws t = ap (λ x. node_words k x p ws) (sym (zero_word w t))

expression_kind_same : (d : ℕ) → ((i : ℕ) (ns : List Node) → map_got expression_words (read_expression d i ns) ≡ scan d an_expression i ns) →
    (k : ExpressionKind) (w p : ℕ) → T (operand_fits (expression_kind k) w) → (i : ℕ) (ns : List Node) →
    map_got expression_words (expression_by k p w (read_expression d) i ns) ≡ below d (expression_kind k) w p i ns
unfolding expression_words operand_fits
expression_kind_same d same num w p t i ns = no_child d (expression_kind num) w p refl (Num p w) expression_words refl i ns
expression_kind_same d same boo w p t i ns =
    no_child d (expression_kind boo) w p refl (Boo p (eqb w 1)) expression_words (ap (λ x. node_words boo_number x p []) (truth_word_back w t)) i ns
expression_kind_same d same id w p t i ns = no_child d (expression_kind id) w p refl (Id p w) expression_words refl i ns
expression_kind_same d same deref w p t i ns = no_child d (expression_kind deref) w p refl (DeRef p w) expression_words refl i ns
expression_kind_same d same valref w p t i ns = no_child d (expression_kind valref) w p refl (ValRef p w) expression_words refl i ns
expression_kind_same d same (binary o) w p t i ns =
    two_children d (expression_kind (binary o)) w p an_expression an_expression refl (read_expression d) expression_words same (read_expression d) expression_words same
    (λ a b. Binary p o a b) expression_words (λ a b. zero_operand (operator_number o) w p (expression_words a ++ expression_words b) t) i ns
expression_kind_same d same negation w p t i ns =
    one_child d (expression_kind negation) w p an_expression refl (read_expression d) expression_words same (λ a. Not p a) expression_words
    (λ a. zero_operand not_number w p (expression_words a) t) i ns

expression_same : (d i : ℕ) (ns : List Node) → map_got expression_words (read_expression d i ns) ≡ scan d an_expression i ns
unfolding read_expression
expression_same zero i ns = deep_same wants_expression an_expression expression_kind wants_expression_same expression_words i ns
expression_same (suc d) i ns =
    sorted_same d wants_expression an_expression expression_kind wants_expression_same (λ k p w. expression_by k p w (read_expression d)) expression_words
    (expression_kind_same d (expression_same d)) i ns

-- ---- Formals, commands, blocks, declarations, what a Bind binds, the root.

parts : (w : ℕ) → name_part w + names * upper_part w ≡ w
parts w = omega arith

formal_same : (d i : ℕ) (ns : List Node) → map_got formal_words (read_formal d i ns) ≡ scan d a_formal i ns
unfolding read_formal formal_only
formal_same zero i ns = deep_same wants_formal a_formal formal_only wants_formal_same formal_words i ns
formal_same (suc d) i ns =
    sorted_same d wants_formal a_formal formal_only wants_formal_same
    (λ k p w. give (record { place = p; name = name_part w; code = upper_part w })) formal_words
    (λ k w p t j ms. formal_kind_same k w p j ms) i ns
  where
    formal_kind_same : (k : FormalKind) (w p j : ℕ) (ms : List Node) →
        map_got formal_words (got (record { place = p; name = name_part w; code = upper_part w }) j ms) ≡ below d (formal_only k) w p j ms
    formal_kind_same formal_kind w p j ms =
        no_child d formal w p refl (record { place = p; name = name_part w; code = upper_part w }) formal_words (ap (λ x. node_words formal_number x p []) (parts w)) j ms

-- a count, or a name and a count, that is the operand again
count_back : (w k : ℕ) → k ≡ upper_part w → name_part w + names * k ≡ w
count_back w k q = ap (λ x. name_part w + names * x) q ∙ parts w

module _ (d : ℕ) (commands : (i : ℕ) (ns : List Node) → map_got command_words (read_command d i ns) ≡ scan d a_command i ns)
    (declarations : (i : ℕ) (ns : List Node) → map_got declaration_words (read_declaration d i ns) ≡ scan d a_declaration i ns) where
  command_kind_same : (k : CommandKind) (w p : ℕ) → T (operand_fits (command_kind k) w) → (i : ℕ) (ns : List Node) →
      map_got command_words (command_by k p w (read_expression d) (read_command d) (read_declaration d) i ns) ≡ below d (command_kind k) w p i ns
  unfolding command_words operand_fits
  command_kind_same assign w p t i ns =
      one_child d (command_kind assign) w p an_expression refl (read_expression d) expression_words (expression_same d) (λ a. Assign p w a) command_words (λ a. refl) i ns
  command_kind_same loop w p t i ns =
      two_children d (command_kind loop) w p an_expression a_command refl (read_expression d) expression_words (expression_same d) (read_command d) command_words commands
      (λ a b. Loop p a b) command_words (λ a b. zero_operand loop_number w p (expression_words a ++ command_words b) t) i ns
  command_kind_same cseq w p t i ns =
      two_children d (command_kind cseq) w p a_command a_command refl (read_command d) command_words commands (read_command d) command_words commands
      (λ a b. CSeq p a b) command_words (λ a b. zero_operand cseq_number w p (command_words a ++ command_words b) t) i ns
  command_kind_same blk w p t i ns =
      two_children d (command_kind blk) w p a_declaration a_command refl (read_declaration d) declaration_words declarations (read_command d) command_words commands
      (λ a b. block (Blk p a b)) command_words (λ a b. zero_operand blk_number w p (declaration_words a ++ command_words b) t) i ns
  command_kind_same call w p t i ns =
      then_same_with (λ es. length es ≡ upper_part w) (all_words expression_words) command_words
      (read_many (upper_part w) (read_expression d) i ns) (scan_list (scan d) (replicate (upper_part w) an_expression) i ns)
      (many_counted (upper_part w) (read_expression d) i ns)
      (many_same d an_expression (read_expression d) expression_words (expression_same d) (upper_part w) i ns)
      (λ es. give (Call p (name_part w) es)) (λ ws. finish (command_kind call) w p ws)
      (λ es q j rest. ap (λ x. got (node_words call_number x p (all_words expression_words es)) j rest) (count_back w (length es) q))
      ∙ ap (λ l. then (scan_list (scan d) l i ns) (λ ws. finish (command_kind call) w p ws)) (sym (append_nothing (replicate (upper_part w) an_expression)))
  command_kind_same conditional w p t i ns =
      three_children d (command_kind conditional) w p an_expression a_command a_command refl (read_expression d) expression_words (expression_same d)
      (read_command d) command_words commands (read_command d) command_words commands
      (λ a b c. Cond p a b c) command_words (λ a b c. zero_operand conditional_number w p (expression_words a ++ (command_words b ++ command_words c)) t) i ns

  block_kind_same : (k : BlkKind) (w p : ℕ) → T (operand_fits (blk_only k) w) → (i : ℕ) (ns : List Node) →
      map_got block_words ((read_declaration d >>= λ a. read_command d >>= λ b. give (Blk p a b)) i ns) ≡ below d (blk_only k) w p i ns
  unfolding block_words operand_fits blk_only
  block_kind_same blk_kind w p t i ns =
      two_children d (command_kind blk) w p a_declaration a_command refl (read_declaration d) declaration_words declarations (read_command d) command_words commands
      (λ a b. Blk p a b) block_words (λ a b. zero_operand blk_number w p (declaration_words a ++ command_words b) t) i ns

declaration_kind_same : (d : ℕ) → ((i : ℕ) (ns : List Node) → map_got declaration_words (read_declaration d i ns) ≡ scan d a_declaration i ns) →
    ((i : ℕ) (ns : List Node) → map_got bound_words (read_bound d i ns) ≡ scan d a_bound i ns) →
    (k : DeclarationKind) (w p : ℕ) → T (operand_fits (declaration_kind k) w) → (i : ℕ) (ns : List Node) →
    map_got declaration_words (declaration_by k p w (read_bound d) (read_declaration d) i ns) ≡ below d (declaration_kind k) w p i ns
unfolding declaration_words operand_fits
declaration_kind_same d declarations bounds bind w p t i ns =
    one_child d (declaration_kind bind) w p a_bound refl (read_bound d) bound_words bounds (λ a. Bind p w a) declaration_words (λ a. refl) i ns
declaration_kind_same d declarations bounds dseq w p t i ns =
    two_children d (declaration_kind dseq) w p a_declaration a_declaration refl (read_declaration d) declaration_words declarations (read_declaration d) declaration_words declarations
    (λ a b. DSeq p a b) declaration_words (λ a b. zero_operand dseq_number w p (declaration_words a ++ declaration_words b) t) i ns

bound_kind_same : (d : ℕ) → ((i : ℕ) (ns : List Node) → map_got block_words (read_block d i ns) ≡ scan d a_Block i ns) →
    (k : BoundKind) (w p : ℕ) → T (operand_fits (bound_only k) w) → (i : ℕ) (ns : List Node) →
    map_got bound_words (bound_by k p w (read_expression d) (read_formal d) (read_block d) i ns) ≡ below d (bound_only k) w p i ns
unfolding bound_words operand_fits
bound_kind_same d blocks (plain_kind k) w p t i ns = then_wrapped plain bound_words (expression_by k p w (read_expression d) i ns) ∙ expression_kind_same d (expression_same d) k w p t i ns
bound_kind_same d blocks ref_kind w p t i ns =
    one_child d ref w p an_expression refl (read_expression d) expression_words (expression_same d) (λ a. Ref p a) bound_words (λ a. zero_operand ref_number w p (expression_words a) t) i ns
bound_kind_same d blocks abs_kind w p t i ns =
    then_same_with (λ fs. length fs ≡ w) (all_words formal_words) bound_words
    (read_many w (read_formal d) i ns) (scan_list (scan d) (replicate w a_formal) i ns)
    (many_counted w (read_formal d) i ns) (many_same d a_formal (read_formal d) formal_words (formal_same d) w i ns)
    (λ fs. read_block d >>= λ b. give (Abs p fs b))
    (λ ws j rest. then (then (scan d a_Block j rest) (λ b. give (ws ++ b))) (λ vs. finish abs w p vs))
    (λ fs q j rest.
    then_same block_words bound_words (read_block d j rest) (scan d a_Block j rest) (blocks j rest) (λ b. give (Abs p fs b)) (λ b j' rest'. got (node_words abs_number w p (all_words formal_words fs ++ b)) j' rest')
    (λ b j' rest'. ap (λ x. got (node_words abs_number x p (all_words formal_words fs ++ block_words b)) j' rest') q)
    ∙ sym (then_assoc (scan d a_Block j rest) (λ b. give (all_words formal_words fs ++ b)) (λ vs. finish abs w p vs)))
    ∙ sym (ap (λ x. then x (λ vs. finish abs w p vs)) (list_append (scan d) (replicate w a_formal) a_Block i ns)
    ∙ then_assoc (scan_list (scan d) (replicate w a_formal) i ns) (λ a. scan d a_Block >>= λ b. give (a ++ b)) (λ vs. finish abs w p vs))

mutual
  unfolding read_command

  command_same : (d i : ℕ) (ns : List Node) → map_got command_words (read_command d i ns) ≡ scan d a_command i ns
  command_same zero i ns = deep_same wants_command a_command command_kind wants_command_same command_words i ns
  command_same (suc d) i ns =
      sorted_same d wants_command a_command command_kind wants_command_same (λ k p w. command_by k p w (read_expression d) (read_command d) (read_declaration d)) command_words
      (command_kind_same d (λ j ms. command_same d j ms) (λ j ms. declaration_same d j ms)) i ns

  block_same : (d i : ℕ) (ns : List Node) → map_got block_words (read_block d i ns) ≡ scan d a_Block i ns
  block_same zero i ns = deep_same wants_blk a_Block blk_only wants_blk_same block_words i ns
  block_same (suc d) i ns =
      sorted_same d wants_blk a_Block blk_only wants_blk_same (λ k p w. read_declaration d >>= λ a. read_command d >>= λ b. give (Blk p a b)) block_words
      (block_kind_same d (λ j ms. command_same d j ms) (λ j ms. declaration_same d j ms)) i ns

  declaration_same : (d i : ℕ) (ns : List Node) → map_got declaration_words (read_declaration d i ns) ≡ scan d a_declaration i ns
  declaration_same zero i ns = deep_same wants_declaration a_declaration declaration_kind wants_declaration_same declaration_words i ns
  declaration_same (suc d) i ns =
      sorted_same d wants_declaration a_declaration declaration_kind wants_declaration_same (λ k p w. declaration_by k p w (read_bound d) (read_declaration d)) declaration_words
      (declaration_kind_same d (λ j ms. declaration_same d j ms) (λ j ms. bound_same d j ms)) i ns

  bound_same : (d i : ℕ) (ns : List Node) → map_got bound_words (read_bound d i ns) ≡ scan d a_bound i ns
  bound_same zero i ns = deep_same wants_bound a_bound bound_only wants_bound_same bound_words i ns
  bound_same (suc d) i ns =
      sorted_same d wants_bound a_bound bound_only wants_bound_same (λ k p w. bound_by k p w (read_expression d) (read_formal d) (read_block d)) bound_words
      (bound_kind_same d (λ j ms. block_same d j ms)) i ns

root_kind_same : (d : ℕ) (k : RootKind) (w p : ℕ) → T (operand_fits (root_only k) w) → (i : ℕ) (ns : List Node) →
    map_got root_words (root_by k p w (read_expression d) (read_command d) (read_declaration d) i ns) ≡ below d (root_only k) w p i ns
unfolding root_words
root_kind_same d (root_expression k) w p t i ns = then_wrapped expression root_words (expression_by k p w (read_expression d) i ns) ∙ expression_kind_same d (expression_same d) k w p t i ns
root_kind_same d (root_command k) w p t i ns =
    then_wrapped command root_words (command_by k p w (read_expression d) (read_command d) (read_declaration d) i ns) ∙ command_kind_same d (command_same d) (declaration_same d) k w p t i ns

-- The root, as the rules' reader reads it and as the code does.
pub root_same : (d i : ℕ) (ns : List Node) → map_got root_words (read_root d i ns) ≡ scan d a_root i ns
unfolding read_root
root_same zero i ns = deep_same wants_root a_root root_only wants_root_same root_words i ns
root_same (suc d) i ns =
    sorted_same d wants_root a_root root_only wants_root_same (λ k p w. root_by k p w (read_expression d) (read_command d) (read_declaration d)) root_words (root_kind_same d) i ns
