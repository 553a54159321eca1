-- Commands by the kind of their node: what stands there, and its figures from its parts'. Entries that are written in between leave the
-- nodes as they were.
use Prim.Native.Nat.{ℕ, suc, ◌+◌, ◌<◌, ◌≤◌}
use mathlib.Core.Path.{◌≡◌, refl, sym, ap, ◌∙◌, subst}
use mathlib.Core.List.{List, ◌++◌}
use native.Mathlib.Omega.{arith}
use lib.ListN.{get_or}
use Rattle.rules.specs.paper.Kinds.{kind_number}
use Rattle.rules.specs.declared.kinds.Kind.{Kind}
use Rattle.rules.specs.declared.kinds.Kind.TheVariants.{Command as command_kind}
use Rattle.rules.specs.declared.kinds.CommandKind.{CommandKind}
use Rattle.rules.specs.paper.Tree.{Expression, Command, Assign, Loop, CSeq, block, Call, Cond, Blk, Declaration}
use Rattle.rules.specs.paper.Needs.{Needs, expression_need, cells_left, bindings_left, command_need, block_need, names_given}
use Rattle.reader.specs.KindNumbers.{assign_number, loop_number, cseq_number, blk_number, call_number, conditional_number}
use Rattle.reader.specs.Pack.{packed_kind, packed_end}
use Rattle.reader.specs.Stored.{StoredExpression, StoredCommand, StoredDeclaration}
use Rattle.reader.proofs.StoredFields.{kind_is}
use Rattle.reader.proofs.NodeKindLaws.{kinds_told}
use Rattle.reader.specs.Stored as Stored
use Rattle.reader.specs.StoredLaws.{same_command, same_declaration}
use Rattle.reader.proofs.StandingLaws.{Rooted, after_node, expression_on, expression_end, command_root, command_on, command_end, declaration_root, declaration_on, declaration_end}
use Rattle.estimator.specs.Figures.{stopped, figures, raised, larger_of, unary_figures, tested_figures, sequence_figures, scoped_figures}
use Rattle.estimator.specs.Entries.{WritesEntriesFrom, NamesAt}
use Rattle.estimator.specs.Answers.{SomeExpression, SomeCommand, SomeCall, SomeDeclaration, ExpressionNeeds, CallNeeds, CommandNeeds, DeclarationNeeds}
use Rattle.estimator.specs.declared.figures.Need.{Need}
use Rattle.estimator.specs.declared.commands.Declared.{Declared}
use Rattle.estimator.proofs.SubtreeLaws.{second_place, subtree_size, smaller}
use Rattle.estimator.proofs.FigureLaws.{over_of, either_of, unary_law, tested_law, sequence_law, scoped_law}
use Rattle.estimator.proofs.EntryLaws.{entries_nodes, names_kept}
use Rattle.estimator.proofs.DeclarationSizes.{declaration_cells, declaration_bindings}

-- ---- Which command it is.

pub is_number : (k : Kind) (w v : CommandKind) → k ≡ command_kind w → w ≡ v → kind_number k ≡ kind_number (command_kind v)
is_number k w v p q = ap kind_number (p ∙ ap command_kind q)

pub is_not : (k : Kind) (w v : CommandKind) → k ≡ command_kind w → (w ≡ v → ⊥) → kind_number k ≡ kind_number (command_kind v) → ⊥
is_not k w v p other q = other (same (sym p ∙ kinds_told k (command_kind v) q))
  where
    same : command_kind w ≡ command_kind v → w ≡ v
    same q = cc

pub data SeenCommand (words : List ℕ) (node next : ℕ) : (which : ℕ) → Command → Type 0 where
  seen_assign : {d x : ℕ} {e : Expression} → StoredExpression words d (node + 1) next e → SeenCommand words node next assign_number (Assign node x e)
  seen_loop : {d m : ℕ} {e : Expression} {c : Command} → StoredExpression words d (node + 1) m e → StoredCommand words d m next c → SeenCommand words node next loop_number (Loop node e c)
  seen_sequence : {d m : ℕ} {c₁ c₂ : Command} → StoredCommand words d (node + 1) m c₁ → StoredCommand words d m next c₂ → SeenCommand words node next cseq_number (CSeq node c₁ c₂)
  seen_block : {d m : ℕ} {s : Declaration} {c : Command} → StoredDeclaration words d (node + 1) m s → StoredCommand words d m next c → SeenCommand words node next blk_number (block (Blk node s c))
  seen_call : {d x : ℕ} {es : List Expression} → StoredCommand words d node next (Call node x es) → SeenCommand words node next call_number (Call node x es)
  seen_conditional : {d m k : ℕ} {e : Expression} {c₁ c₂ : Command} → StoredExpression words d (node + 1) m e → StoredCommand words d m k c₁ → StoredCommand words d k next c₂ →
      SeenCommand words node next conditional_number (Cond node e c₁ c₂)

module _ (words : List ℕ) (node which : ℕ) (known : which ≡ packed_kind (get_or words node 0)) where
  seen : {d j : ℕ} {c : Command} → StoredCommand words d node j c → SeenCommand words node j which c
  seen s = by s
    where
      of_kind : {n j : ℕ} {c : Command} → packed_kind (get_or words node 0) ≡ n → SeenCommand words node j n c → SeenCommand words node j which c
      of_kind {n} {j} {c} q s = subst (λ w. SeenCommand words node j w c) (sym (known ∙ q)) s

      child : {d j : ℕ} {e : Expression} → StoredExpression words d (suc node) j e → StoredExpression words d (node + 1) j e
      child {d} {j} {e} s = subst (λ i. StoredExpression words d i j e) (after_node node) s

      child_command : {d j : ℕ} {c : Command} → StoredCommand words d (suc node) j c → StoredCommand words d (node + 1) j c
      child_command {d} {j} {c} s = subst (λ i. StoredCommand words d i j c) (after_node node) s

      child_declaration : {d j : ℕ} {c : Declaration} → StoredDeclaration words d (suc node) j c → StoredDeclaration words d (node + 1) j c
      child_declaration {d} {j} {c} s = subst (λ i. StoredDeclaration words d i j c) (after_node node) s

      by : {d j : ℕ} {c : Command} → StoredCommand words d node j c → SeenCommand words node j which c
      by (Stored.assign l h a) = of_kind (kind_is h (omega arith)) (seen_assign (child a))
      by (Stored.loop h a b) = of_kind (kind_is h (omega arith)) (seen_loop (child a) b)
      by (Stored.cseq h a b) = of_kind (kind_is h (omega arith)) (seen_sequence (child_command a) b)
      by (Stored.block_of (Stored.blk h a b)) = of_kind (kind_is h (omega arith)) (seen_block (child_declaration a) b)
      by (Stored.call l g h a) = of_kind (kind_is h (omega arith)) (seen_call (Stored.call l g h a))
      by (Stored.conditional h a b c) = of_kind (kind_is h (omega arith)) (seen_conditional (child a) b c)

  -- Where it is known which, its own case alone is left.
  seen_as : {n d j : ℕ} {c : Command} → which ≡ n → StoredCommand words d node j c → SeenCommand words node j n c
  seen_as {j = j} {c = c} q s = subst (λ w. SeenCommand words node j w c) q (seen s)

  -- ---- Assign and Call.

  pub assign_needs : which ≡ assign_number → (scope : ℕ) (r t : Need) → ExpressionNeeds words (node + 1) r → t ≡ unary_figures r 1 2 0 0 → CommandNeeds words scope node t
  unfolding command_need
  assign_needs q scope r t value e d j c N s names = by (seen_as q s)
    where
      by : {c : Command} → SeenCommand words node j assign_number c → t ≡ figures (command_need N c)
      by (seen_assign {e = x} a) = e ∙ (unary_law {n = expression_need x} 1 2 0 0 (record { equal = value _ _ _ a })).equal

  pub call_there : which ≡ call_number → SomeCommand words node → SomeCall words node
  call_there q s = by (seen_as q s.3)
    where
      by : {j : ℕ} {c : Command} → SeenCommand words node j call_number c → SomeCall words node
      by (seen_call a) = (_, _, _, _, a)

  pub call_command : which ≡ call_number → (scope : ℕ) (r : Need) → CallNeeds words scope node r → CommandNeeds words scope node r
  call_command q scope r called d j c N s names = by (seen_as q s)
    where
      by : {c : Command} → SeenCommand words node j call_number c → r ≡ figures (command_need N c)
      by (seen_call a) = called _ _ _ _ N a names

  -- ---- Blk.

  pub block_declaration : which ≡ blk_number → SomeCommand words node → SomeDeclaration words (node + 1) × (subtree_size words (node + 1) < subtree_size words node)
  block_declaration q s = by (command_root s.3) (seen_as q s.3)
    where
      by : {j : ℕ} {c : Command} → Rooted words node j → SeenCommand words node j blk_number c → SomeDeclaration words (node + 1) × (subtree_size words (node + 1) < subtree_size words node)
      by whole (seen_block a b) = ((_, _, _, a), smaller whole (declaration_root a) (omega arith) (declaration_on a) (omega (arith, command_on b)))

  -- What the command of a block finds: its place, the tree there, and the names with the declaration's.
  pub record Inside (words₁ : List ℕ) (scope inside : ℕ) : Type 0 where
    pub later : node < inside
    pub there : SomeCommand words₁ inside
    pub less : subtree_size words₁ inside < subtree_size words node
    pub pointed : scope ≤ inside
    pub named : (N : Needs) × NamesAt words₁ scope N

  pub block_body : which ≡ blk_number → (words₁ : List ℕ) (scope inside : ℕ) (r : Declared) → WritesEntriesFrom words words₁ (node + 1) → DeclarationNeeds words words₁ scope (node + 1) r →
      inside ≡ second_place words₁ node → SomeCommand words node → ((N : Needs) × NamesAt words scope N) → Inside words₁ r.newest inside
  block_body q words₁ scope inside r kept declared e s names = by (command_root s.3) (seen_as q s.3)
    where
      by : {j : ℕ} {c : Command} → Rooted words node j → SeenCommand words node j blk_number c → Inside words₁ r.newest inside
      by {j = j} whole (seen_block {d = d} {m = m} {s = s} {c = c} a b) =
          let end = e ∙ declaration_end (same_declaration words words₁ (entries_nodes kept) a) in
          let given = declared d m s names.0 a names.1 in
          let body = subst (λ i. StoredCommand words₁ d i j c) (sym end) (same_command words words₁ (entries_nodes kept) b) in
          record {
            later = omega (arith, end, declaration_on a);
            there = (d, j, c, body);
            less = smaller whole (command_root body) (omega (arith, end, declaration_on a)) (command_on body) (omega arith);
            pointed = omega (arith, end, given.newest_low);
            named = (names_given names.0 s ++ names.0, given.names_there);
          }

  pub block_needs : which ≡ blk_number → (words₁ : List ℕ) (scope inside : ℕ) (r : Declared) (body t : Need) → WritesEntriesFrom words words₁ (node + 1) → DeclarationNeeds words words₁ scope (node + 1) r →
      inside ≡ second_place words₁ node → CommandNeeds words₁ r.newest inside body → t ≡ scoped_figures r.need 1 body 2 r.need.cells r.need.bindings → CommandNeeds words scope node t
  unfolding block_need
  block_needs q words₁ scope inside r body t kept declared e ran f d j c N s names = by (seen_as q s)
    where
      by : {c : Command} → SeenCommand words node j blk_number c → t ≡ figures (command_need N c)
      by (seen_block {d = d} {m = m} {s = s} {c = c} a b) =
          let end = e ∙ declaration_end (same_declaration words words₁ (entries_nodes kept) a) in
          let given = declared d m s N a names in
          let inner = ran d j c (names_given N s ++ N) (subst (λ i. StoredCommand words₁ d i j c) (sym end) (same_command words words₁ (entries_nodes kept) b)) given.names_there in
          f
          ∙ ap (λ k. scoped_figures r.need 1 body 2 k r.need.bindings) (ap (λ n. n.cells) given.need_is ∙ ap stopped (declaration_cells N s))
          ∙ ap (λ k. scoped_figures r.need 1 body 2 (stopped (cells_left s)) k) (ap (λ n. n.bindings) given.need_is ∙ ap stopped (declaration_bindings N s))
          ∙ (scoped_law 1 2 (cells_left s) (bindings_left s) (cells_left s) (bindings_left s) (record { equal = given.need_is }) (record { equal = inner }) (declaration_cells N s) (declaration_bindings N s)).equal

  -- ---- CSeq.

  pub sequence_first : which ≡ cseq_number → SomeCommand words node → SomeCommand words (node + 1) × (subtree_size words (node + 1) < subtree_size words node)
  sequence_first q s = by (command_root s.3) (seen_as q s.3)
    where
      by : {j : ℕ} {c : Command} → Rooted words node j → SeenCommand words node j cseq_number c → SomeCommand words (node + 1) × (subtree_size words (node + 1) < subtree_size words node)
      by whole (seen_sequence a b) = ((_, _, _, a), smaller whole (command_root a) (omega arith) (command_on a) (omega (arith, command_on b)))

  pub sequence_second : which ≡ cseq_number → (words₁ : List ℕ) (after : ℕ) → WritesEntriesFrom words words₁ (node + 1) → after ≡ second_place words₁ node → SomeCommand words node →
      SomeCommand words₁ after × (node < after) × (subtree_size words₁ after < subtree_size words node)
  sequence_second q words₁ after kept e s = by (command_root s.3) (seen_as q s.3)
    where
      by : {j : ℕ} {c : Command} → Rooted words node j → SeenCommand words node j cseq_number c → SomeCommand words₁ after × (node < after) × (subtree_size words₁ after < subtree_size words node)
      by {j = j} whole (seen_sequence {d = d} {c₂ = c₂} a b) =
          let end = e ∙ command_end (same_command words words₁ (entries_nodes kept) a) in
          let later : node < after = omega (arith, end, command_on a) in
          let there = subst (λ i. StoredCommand words₁ d i j c₂) (sym end) (same_command words words₁ (entries_nodes kept) b) in
          ((d, j, c₂, there), later, smaller whole (command_root there) later (command_on there) (omega arith))

  pub sequence_needs : which ≡ cseq_number → (words₁ : List ℕ) (scope after : ℕ) (r u t : Need) → WritesEntriesFrom words words₁ (node + 1) → after ≡ second_place words₁ node → scope ≤ node →
      CommandNeeds words scope (node + 1) r → CommandNeeds words₁ scope after u → t ≡ sequence_figures r u → CommandNeeds words scope node t
  unfolding command_need
  sequence_needs q words₁ scope after r u t kept e l first second f d j c N s names = by (seen_as q s)
    where
      by : {c : Command} → SeenCommand words node j cseq_number c → t ≡ figures (command_need N c)
      by (seen_sequence {d = d} {c₂ = c₂} a b) =
          let end = e ∙ command_end (same_command words words₁ (entries_nodes kept) a) in
          f
          ∙ (sequence_law (record { equal = first _ _ _ N a names })
          (record {
            equal =
                second d j c₂ N (subst (λ i. StoredCommand words₁ d i j c₂) (sym end) (same_command words words₁ (entries_nodes kept) b)) (names_kept kept (omega (arith, l)) names);
          })
          ).equal

  -- ---- The value that is assigned, or the test of a Loop or Cond.

  module _ (not_call : which ≡ call_number → ⊥) (not_block : which ≡ blk_number → ⊥) (not_sequence : which ≡ cseq_number → ⊥) where
    pub value_there : SomeCommand words node → SomeExpression words (node + 1)
    value_there s = by refl (seen s.3)
      where
        by : {w j : ℕ} {c : Command} → w ≡ which → SeenCommand words node j w c → SomeExpression words (node + 1)
        by q (seen_assign a) = (_, _, _, a)
        by q (seen_loop a b) = (_, _, _, a)
        by q (seen_sequence a b) = absurd (not_sequence (sym q))
        by q (seen_block a b) = absurd (not_block (sym q))
        by q (seen_call a) = absurd (not_call (sym q))
        by q (seen_conditional a b c) = (_, _, _, a)

  -- ---- Loop and Cond.

  module _ (not_assign : which ≡ assign_number → ⊥) (not_call : which ≡ call_number → ⊥) (not_block : which ≡ blk_number → ⊥) (not_sequence : which ≡ cseq_number → ⊥) where
    pub true_there : (where_true : ℕ) → where_true ≡ second_place words node → SomeCommand words node → SomeCommand words where_true × (node < where_true) × (subtree_size words where_true < subtree_size words node)
    true_there where_true e s = by (command_root s.3) refl (seen s.3)
      where
        by : {w j : ℕ} {c : Command} → Rooted words node j → w ≡ which → SeenCommand words node j w c → SomeCommand words where_true × (node < where_true) × (subtree_size words where_true < subtree_size words node)
        by whole q (seen_assign a) = absurd (not_assign (sym q))
        by {j = j} whole q (seen_loop {d = d} {c = c} a b) =
            let end = e ∙ expression_end a in
            let later : node < where_true = omega (arith, end, expression_on a) in
            let there = subst (λ i. StoredCommand words d i j c) (sym end) b in
            ((d, j, c, there), later, smaller whole (command_root there) later (command_on there) (omega arith))
        by whole q (seen_sequence a b) = absurd (not_sequence (sym q))
        by whole q (seen_block a b) = absurd (not_block (sym q))
        by whole q (seen_call a) = absurd (not_call (sym q))
        by whole q (seen_conditional {d = d} {k = k} {c₁ = c₁} a b c) =
            let end = e ∙ expression_end a in
            let later : node < where_true = omega (arith, end, expression_on a) in
            let there = subst (λ i. StoredCommand words d i k c₁) (sym end) b in
            ((d, k, c₁, there), later, smaller whole (command_root there) later (command_on there) (omega (arith, command_on c)))

  pub loop_needs : which ≡ loop_number → (scope where_true : ℕ) (r u t : Need) → where_true ≡ second_place words node → ExpressionNeeds words (node + 1) r → CommandNeeds words scope where_true u →
      t ≡ tested_figures r (raised u 1 0 0 0) → CommandNeeds words scope node t
  unfolding command_need
  loop_needs q scope where_true r u t e test body f d j c N s names = by (seen_as q s)
    where
      by : {c : Command} → SeenCommand words node j loop_number c → t ≡ figures (command_need N c)
      by (seen_loop {d = d} {c = c} a b) =
          let end = e ∙ expression_end a in
          f
          ∙ (tested_law (record { equal = test _ _ _ a })
          (over_of 1 0 0 0 (record { equal = body d j c N (subst (λ i. StoredCommand words d i j c) (sym end) b) names }))).equal

  module _ (not_assign : which ≡ assign_number → ⊥) (not_call : which ≡ call_number → ⊥) (not_block : which ≡ blk_number → ⊥) (not_sequence : which ≡ cseq_number → ⊥) (not_loop : which ≡ loop_number → ⊥)
      (words₁ : List ℕ) (where_true where_false : ℕ) (e : where_true ≡ second_place words node) (kept : WritesEntriesFrom words words₁ where_true)
      (f : where_false ≡ packed_end (get_or words₁ where_true 0)) where
    pub false_there : SomeCommand words node → SomeCommand words₁ where_false × (where_true < where_false) × (subtree_size words₁ where_false < subtree_size words node)
    false_there s = by (command_root s.3) refl (seen s.3)
      where
        by : {w j : ℕ} {c : Command} → Rooted words node j → w ≡ which → SeenCommand words node j w c → SomeCommand words₁ where_false × (where_true < where_false) × (subtree_size words₁ where_false < subtree_size words node)
        by whole q (seen_assign a) = absurd (not_assign (sym q))
        by whole q (seen_loop a b) = absurd (not_loop (sym q))
        by whole q (seen_sequence a b) = absurd (not_sequence (sym q))
        by whole q (seen_block a b) = absurd (not_block (sym q))
        by whole q (seen_call a) = absurd (not_call (sym q))
        by {j = j} whole q (seen_conditional {d = d} {m = m} {k = k} {c₁ = c₁} {c₂ = c₂} a b c) =
            let second = e ∙ expression_end a in
            let end = f ∙ command_end (subst (λ i. StoredCommand words₁ d i k c₁) (sym second) (same_command words words₁ (entries_nodes kept) b)) in
            let there = subst (λ i. StoredCommand words₁ d i j c₂) (sym end) (same_command words words₁ (entries_nodes kept) c) in
            ((d, j, c₂, there), omega (arith, second, end, command_on b), smaller whole (command_root there) (omega (arith, end, expression_on a, command_on b)) (command_on there) (omega arith))

    pub conditional_needs : (scope : ℕ) (r u v t : Need) → scope ≤ where_true → ExpressionNeeds words (node + 1) r → CommandNeeds words scope where_true u → CommandNeeds words₁ scope where_false v →
        t ≡ tested_figures r (larger_of u v) → CommandNeeds words scope node t
    unfolding command_need
    conditional_needs scope r u v t l test first second g d j c N s names = by refl (seen s)
      where
        by : {w : ℕ} {c : Command} → w ≡ which → SeenCommand words node j w c → t ≡ figures (command_need N c)
        by q (seen_assign a) = absurd (not_assign (sym q))
        by q (seen_loop a b) = absurd (not_loop (sym q))
        by q (seen_sequence a b) = absurd (not_sequence (sym q))
        by q (seen_block a b) = absurd (not_block (sym q))
        by q (seen_call a) = absurd (not_call (sym q))
        by q (seen_conditional {d = d} {m = m} {k = k} {c₁ = c₁} {c₂ = c₂} a b c) =
            let place = e ∙ expression_end a in
            let end = f ∙ command_end (subst (λ i. StoredCommand words₁ d i k c₁) (sym place) (same_command words words₁ (entries_nodes kept) b)) in
            g
            ∙ (tested_law (record { equal = test _ _ _ a })
            (either_of (record { equal = first d k c₁ N (subst (λ i. StoredCommand words d i k c₁) (sym place) b) names })
            (record {
              equal = second d j c₂ N (subst (λ i. StoredCommand words₁ d i j c₂) (sym end) (same_command words words₁ (entries_nodes kept) c)) (names_kept kept l names);
            }))
            ).equal
