-- Declarations by the kind of their node: what stands there, its figures from its parts', and the names that it gives.
use Prim.Native.Nat.{ℕ, zero, suc, ◌+◌, ◌<◌, ◌≤◌}
use mathlib.Core.Path.{◌≡◌, refl, sym, ap, ◌∙◌, subst}
use mathlib.Core.List.{List, ◌∷◌, ◌++◌}
use native.Mathlib.Omega.{arith}
use lib.ListN.{length, get_or}
use Rattle.rules.specs.paper.Limits.{most_nodes, names}
use Rattle.rules.proofs.Basics.{append_assoc}
use Rattle.rules.specs.paper.Kinds.{kind_number}
use Rattle.rules.specs.declared.kinds.Kind.{Kind}
use Rattle.rules.specs.declared.kinds.Kind.TheVariants.{Declaration as declaration_kind}
use Rattle.rules.specs.declared.kinds.DeclarationKind.{DeclarationKind}
use Rattle.reader.specs.NodeKinds.{Known}
use Rattle.reader.proofs.NodeKindLaws.{bound_known}
use Rattle.rules.specs.paper.Tree.{Expression, Formal, block, Block, Declaration, Bind, DSeq, Bound, plain, Ref, Abs}
use Rattle.rules.specs.paper.Needs.{Needs, nothing, push_step, expression_need, over_formals, cells_left, bindings_left, bound_need, command_need, block_need, declaration_need, names_given, bound_function}
use Rattle.reader.specs.KindNumbers.{bind_number, dseq_number, ref_number, abs_number}
use Rattle.reader.specs.Pack.{packed_kind, packed_operand}
use Rattle.reader.specs.Stored.{StoredExpression, StoredFormals, no_formals, one_formal, StoredCommand, StoredBlock, StoredDeclaration, StoredBound}
use Rattle.reader.proofs.StoredFields.{kind_is, operand_is}
use Rattle.reader.specs.Stored as Stored
use Rattle.reader.specs.StoredLaws.{same_expression, same_command, same_declaration}
use Rattle.reader.proofs.StandingLaws.{Rooted, after_node, expression_low, expression_on, command_root, command_on, declaration_root, declaration_on, declaration_end, block_low, block_on, formals_on}
use Rattle.reader.proofs.KindTrees.{stored_expression_kind}
use Rattle.estimator.specs.Figures.{stopped, figures, numbers, one_step, unary_figures, scoped_figures}
use Rattle.estimator.specs.Entries.{HasEntry, WritesEntriesFrom, KeptEntry, NamesAt, one_name}
use Rattle.estimator.specs.Answers.{SomeExpression, SomeFormals, SomeCommand, SomeDeclaration, ExpressionNeeds, CommandNeeds, FormalsNamed, DeclaredAs, DeclarationNeeds}
use Rattle.estimator.specs.declared.figures.Need.{Need}
use Rattle.estimator.specs.declared.commands.Declared.{Declared}
use Rattle.estimator.proofs.SubtreeLaws.{second_place, subtree_size, smaller}
use Rattle.estimator.proofs.FigureLaws.{unary_law, scoped_law}
use Rattle.estimator.proofs.EntryLaws.{entries_nodes, entries_same, names_kept}
use Rattle.estimator.proofs.DeclarationSizes.{declaration_cells, declaration_bindings}

pub formals_next : {words : List ℕ} {i j : ℕ} {fs : List Formal} → StoredFormals words i j fs → j ≡ i + length fs
formals_next no_formals = omega arith
formals_next (one_formal p l m w g) = omega (arith, formals_next g)

-- ---- Which declaration it is.

pub declaration_is_number : (k : Kind) (w v : DeclarationKind) → k ≡ declaration_kind w → w ≡ v → kind_number k ≡ kind_number (declaration_kind v)
declaration_is_number k w v p q = ap kind_number (p ∙ ap declaration_kind q)

data SeenDeclaration (words : List ℕ) (node next : ℕ) : (which : ℕ) → Declaration → Type 0 where
  seen_sequence : {d m : ℕ} {d₁ d₂ : Declaration} → StoredDeclaration words d (node + 1) m d₁ → StoredDeclaration words d m next d₂ → SeenDeclaration words node next dseq_number (DSeq node d₁ d₂)
  seen_bind : {d x : ℕ} {b : Bound} → x < names → packed_operand (get_or words node 0) ≡ x → node < next → StoredBound words d (node + 1) next b → SeenDeclaration words node next bind_number (Bind node x b)

bound_later : {words : List ℕ} {d i j : ℕ} {b : Bound} → StoredBound words d i j b → i < j
bound_later (Stored.plain_of a) = expression_on a
bound_later (Stored.ref h a) = omega (arith, expression_on a)
bound_later (Stored.abs l h a b) = omega (arith, formals_on a, block_on b)

module _ (words : List ℕ) (node which : ℕ) (known : which ≡ packed_kind (get_or words node 0)) where
  seen : {d j : ℕ} {c : Declaration} → StoredDeclaration words d node j c → SeenDeclaration words node j which c
  seen s = by s
    where
      of_kind : {n j : ℕ} {c : Declaration} → packed_kind (get_or words node 0) ≡ n → SeenDeclaration words node j n c → SeenDeclaration words node j which c
      of_kind {n} {j} {c} q s = subst (λ w. SeenDeclaration words node j w c) (sym (known ∙ q)) s

      by : {d j : ℕ} {c : Declaration} → StoredDeclaration words d node j c → SeenDeclaration words node j which c
      by {d = zero} x = elim x [ ]
      by {d = suc d} {j = j} (Stored.bind {b = b} l h a) =
          of_kind (kind_is h (omega arith)) (seen_bind l (operand_is h (omega arith)) (omega (arith, bound_later a)) (subst (λ i. StoredBound words d i j b) (after_node node) a))
      by {d = suc d} (Stored.dseq {j = m} {d₁ = d₁} h a b) = of_kind (kind_is h (omega arith)) (seen_sequence (subst (λ i. StoredDeclaration words d i m d₁) (after_node node) a) b)

  -- Where it is known which, its own case alone is left.
  seen_as : {n d j : ℕ} {c : Declaration} → which ≡ n → StoredDeclaration words d node j c → SeenDeclaration words node j n c
  seen_as {j = j} {c = c} q s = subst (λ w. SeenDeclaration words node j w c) q (seen s)

  -- ---- DSeq.

  pub first_there : which ≡ dseq_number → SomeDeclaration words node → SomeDeclaration words (node + 1) × (subtree_size words (node + 1) < subtree_size words node)
  first_there q s = by (declaration_root s.3) (seen_as q s.3)
    where
      by : {j : ℕ} {c : Declaration} → Rooted words node j → SeenDeclaration words node j dseq_number c → SomeDeclaration words (node + 1) × (subtree_size words (node + 1) < subtree_size words node)
      by whole (seen_sequence a b) = ((_, _, _, a), smaller whole (declaration_root a) (omega arith) (declaration_on a) (omega (arith, declaration_on b)))

  pub record Then (words₁ : List ℕ) (scope after : ℕ) : Type 0 where
    pub later : node < after
    pub there : SomeDeclaration words₁ after
    pub less : subtree_size words₁ after < subtree_size words node
    pub pointed : scope ≤ after
    pub named : (N : Needs) × NamesAt words₁ scope N

  pub second_there : which ≡ dseq_number → (words₁ : List ℕ) (scope after : ℕ) (r : Declared) → WritesEntriesFrom words words₁ (node + 1) → DeclarationNeeds words words₁ scope (node + 1) r →
      after ≡ second_place words₁ node → SomeDeclaration words node → ((N : Needs) × NamesAt words scope N) → Then words₁ r.newest after
  second_there q words₁ scope after r kept declared e s names = by (declaration_root s.3) (seen_as q s.3)
    where
      by : {j : ℕ} {c : Declaration} → Rooted words node j → SeenDeclaration words node j dseq_number c → Then words₁ r.newest after
      by {j = j} whole (seen_sequence {d = d} {m = m} {d₁ = d₁} {d₂ = d₂} a b) =
          let end = e ∙ declaration_end (same_declaration words words₁ (entries_nodes kept) a) in
          let given = declared d m d₁ names.0 a names.1 in
          let second = subst (λ i. StoredDeclaration words₁ d i j d₂) (sym end) (same_declaration words words₁ (entries_nodes kept) b) in
          record {
            later = omega (arith, end, declaration_on a);
            there = (d, j, d₂, second);
            less = smaller whole (declaration_root second) (omega (arith, end, declaration_on a)) (declaration_on second) (omega arith);
            pointed = omega (arith, end, given.newest_low);
            named = (names_given names.0 d₁ ++ names.0, given.names_there);
          }

  pub sequence_declared : which ≡ dseq_number → (words₁ words₂ : List ℕ) (scope after k l : ℕ) (r u : Declared) (t : Need) → WritesEntriesFrom words words₁ (node + 1) →
      DeclarationNeeds words words₁ scope (node + 1) r → after ≡ second_place words₁ node → DeclarationNeeds words₁ words₂ r.newest after u →
      k ≡ stopped (u.need.cells + r.need.cells) → l ≡ stopped (u.need.bindings + r.need.bindings) → t ≡ scoped_figures r.need 0 u.need 3 k l →
      DeclarationNeeds words words₂ scope node (record { need = t; newest = u.newest })
  unfolding declaration_need names_given cells_left bindings_left
  sequence_declared q words₁ words₂ scope after k l r u t kept first e second g h f d j c N s names = by (seen_as q s)
    where
      summed : (x y a b : ℕ) → x ≡ stopped a → y ≡ stopped b → stopped (x + y) ≡ stopped (a + b)
      summed x y a b p o = omega (arith, p, o)

      by : {c : Declaration} → SeenDeclaration words node j dseq_number c → DeclaredAs words₂ j N c (record { need = t; newest = u.newest })
      by (seen_sequence {d = d} {m = m} {d₁ = d₁} {d₂ = d₂} a b) =
          let end = e ∙ declaration_end (same_declaration words words₁ (entries_nodes kept) a) in
          let given = first d m d₁ N a names in
          let next = second d j d₂ (names_given N d₁ ++ N) (subst (λ i. StoredDeclaration words₁ d i j d₂) (sym end) (same_declaration words words₁ (entries_nodes kept) b)) given.names_there in
          let cells₁ = ap (λ n. n.cells) given.need_is ∙ ap stopped (declaration_cells N d₁) in
          let cells₂ = ap (λ n. n.cells) next.need_is ∙ ap stopped (declaration_cells (names_given N d₁ ++ N) d₂) in
          let bindings₁ = ap (λ n. n.bindings) given.need_is ∙ ap stopped (declaration_bindings N d₁) in
          let bindings₂ = ap (λ n. n.bindings) next.need_is ∙ ap stopped (declaration_bindings (names_given N d₁ ++ N) d₂) in
          record {
            need_is =
                f
                ∙ ap (λ x. scoped_figures r.need 0 u.need 3 x l) (g ∙ summed u.need.cells r.need.cells (cells_left d₂) (cells_left d₁) cells₂ cells₁)
                ∙ ap (λ x. scoped_figures r.need 0 u.need 3 (stopped (cells_left d₂ + cells_left d₁)) x)
                (h ∙ summed u.need.bindings r.need.bindings (bindings_left d₂) (bindings_left d₁) bindings₂ bindings₁)
                ∙ (scoped_law 0 3 (cells_left d₁) (bindings_left d₁) (cells_left d₂ + cells_left d₁) (bindings_left d₂ + bindings_left d₁) (record { equal = given.need_is }) (record { equal = next.need_is })
                (declaration_cells N d₁) (declaration_bindings N d₁)).equal;
            names_there = subst (NamesAt words₂ u.newest) (sym (append_assoc (names_given (names_given N d₁ ++ N) d₂) (names_given N d₁) N)) next.names_there;
            newest_low = next.newest_low;
          }

  -- ---- Bind.

  module _ (not_sequence : which ≡ dseq_number → ⊥) where
    bind_seen : {A : Type 0} {d j : ℕ} {c : Declaration} → StoredDeclaration words d node j c →
        ((e x : ℕ) (b : Bound) → c ≡ Bind node x b → x < names → packed_operand (get_or words node 0) ≡ x → node < j → StoredBound words e (node + 1) j b → A) → A
    bind_seen {A} {d} {j} {c} s go = by refl (seen s) go
      where
        by : {w : ℕ} {c : Declaration} → w ≡ which → SeenDeclaration words node j w c →
            ((e x : ℕ) (b : Bound) → c ≡ Bind node x b → x < names → packed_operand (get_or words node 0) ≡ x → node < j → StoredBound words e (node + 1) j b → A) → A
        by q (seen_sequence a b) go = absurd (not_sequence (sym q))
        by q (seen_bind {d = e} {x = x} {b = b} l o h a) go = go e x b refl l o h a

    pub bound_low : SomeDeclaration words node → node + 1 < most_nodes
    bound_low s = bind_seen s.3 (λ e x b q l o h a. low a)
      where
        low : {d i j : ℕ} {b : Bound} → StoredBound words d i j b → i < most_nodes
        low (Stored.plain_of a) = expression_low a
        low (Stored.ref h a) = h.place_low
        low (Stored.abs l h a b) = h.place_low

    -- What it binds has a known kind.
    pub bound_there : SomeDeclaration words node → Known (get_or words (node + 1) 0)
    bound_there s = bind_seen s.3 (λ e x b q l o h a. bound_known a)

    pub name_low : SomeDeclaration words node → packed_operand (get_or words node 0) < names
    name_low s = bind_seen s.3 (λ e x b q l o h a. omega (arith, l, o))

    -- The name with what it is bound to, on those before it.
    module _ (words₁ words₂ : List ℕ) (scope name : ℕ) (bound_to : Need) (named : name ≡ packed_operand (get_or words node 0)) (kept : WritesEntriesFrom words words₁ (node + 1))
        (written : KeptEntry words₁ words₂ node name scope bound_to) where
      pub name_given : (x : ℕ) (n : _) (N : Needs) → packed_operand (get_or words node 0) ≡ x → bound_to ≡ figures n → scope ≤ node → NamesAt words scope N →
          NamesAt words₂ (node + 1) (record { name = x; need = n } ∷ N)
      name_given x n N o q l s =
          subst (λ p. NamesAt words₂ p (record { name = x; need = n } ∷ N)) (after_node node)
          (one_name (subst (λ y. HasEntry words₂ node y scope (figures n)) (named ∙ o) (subst (HasEntry words₂ node name scope) q written.entry))
          (names_kept written.others l (names_kept kept (omega (arith, l)) s)))

    -- ---- What it binds.

    module _ (bound : ℕ) (bound_known : bound ≡ packed_kind (get_or words (node + 1) 0)) where
      -- An Abs.
      module _ (is_abs : bound ≡ abs_number) where
        abs_seen : {A : Type 0} {d j : ℕ} {b : Bound} → StoredBound words d (node + 1) j b →
            ((e m : ℕ) (fs : List Formal) (f : Block) → b ≡ Abs (node + 1) fs f → packed_operand (get_or words (node + 1) 0) ≡ length fs → StoredFormals words (node + 2) m fs → StoredBlock words e m j f → A) → A
        abs_seen (Stored.plain_of a) go = absurd (omega (arith, is_abs, bound_known, stored_expression_kind a))
        abs_seen (Stored.ref h a) go = absurd (omega (arith, is_abs, bound_known, kind_is h (omega arith)))
        abs_seen (Stored.abs {d = e} {j = m} {fs = fs} {b = f} l h a b) go =
            go e m fs f refl (operand_is h (omega arith)) (subst (λ i. StoredFormals words i m fs) (omega arith) a) b

        module _ (count : ℕ) (counted : count ≡ packed_operand (get_or words (node + 1) 0)) where
          pub formals_there : SomeDeclaration words node → SomeFormals words (node + 2) count
          formals_there s = bind_seen s.3 (λ e x b q l o h a. abs_seen a (λ e m fs f r n g k. (m, fs, g, sym (counted ∙ n))))

          pub function_low : SomeDeclaration words node → (node + 2 + count < most_nodes) × (node + 2 < most_nodes)
          function_low s =
              bind_seen s.3 (λ e x b q l o h a. abs_seen a (λ e m fs f r n g k. (omega (arith, block_low k, formals_next g, counted, n), omega (arith, block_low k, formals_next g))))

          pub function_there : (words₁ : List ℕ) (scope inner : ℕ) → WritesEntriesFrom words words₁ (node + 2) → FormalsNamed words words₁ scope (node + 2) count inner → SomeDeclaration words node →
              ((N : Needs) × NamesAt words scope N) →
              SomeCommand words₁ (node + 2 + count) × (inner ≤ node + 2 + count) × ((N : Needs) × NamesAt words₁ inner N) × (subtree_size words₁ (node + 2 + count) < subtree_size words node)
          function_there words₁ scope inner kept formals s N =
              bind_seen s.3
              (λ e x b q l o h a.
              abs_seen a
              (λ e m fs f r n g k.
              let end : m ≡ node + 2 + count = omega (arith, formals_next g, counted, n) in
              let given = formals m fs N.0 g (sym (counted ∙ n)) N.1 in
              let body = subst (λ i. StoredCommand words₁ e i s.1 (block f)) end (same_command words words₁ (entries_nodes kept) (Stored.block_of k)) in (
                (e, s.1, block f, body),
                omega (arith, end, given.1),
                (_, given.0),
                smaller (declaration_root s.3) (command_root body) (omega arith) (command_on body) (omega arith),
              )))

          pub function_declared : (words₁ words₂ words₃ : List ℕ) (scope inner name : ℕ) (function t : Need) → scope ≤ node → WritesEntriesFrom words words₁ (node + 2) →
              FormalsNamed words words₁ scope (node + 2) count inner → WritesEntriesFrom words words₂ (node + 1) → CommandNeeds words₁ inner (node + 2 + count) function →
              name ≡ packed_operand (get_or words node 0) → KeptEntry words₂ words₃ node name scope function → t ≡ unary_figures (one_step 1 1 0 0) 1 2 0 1 →
              DeclarationNeeds words words₃ scope node (record { need = t; newest = node + 1 })
          unfolding declaration_need names_given bound_function bound_need cells_left bindings_left command_need
          function_declared words₁ words₂ words₃ scope inner name function t low kept formals kept₂ body named written f d j c N s names =
              bind_seen s
              (λ e x b q l o h a.
              abs_seen a
              (λ e m fs body' r n g k.
              let end : m ≡ node + 2 + count = omega (arith, formals_next g, counted, n) in
              let given = formals m fs N g (sym (counted ∙ n)) names in
              let needs = body e j (block body') (over_formals fs N) (subst (λ i. StoredCommand words₁ e i j (block body')) end (same_command words words₁ (entries_nodes kept) (Stored.block_of k))) given.0 in
              subst (λ z. DeclaredAs words₃ j N z (record { need = t; newest = node + 1 })) (sym (q ∙ ap (Bind node x) r))
              (record {
                need_is = f ∙ (unary_law {n = push_step} 1 2 0 1 (record { equal = refl })).equal;
                names_there = name_given words₂ words₃ scope name function named kept₂ written x (block_need (over_formals fs N) body') N o needs low names;
                newest_low = omega (arith, h);
              })))

      -- A Ref or an expression.
      module _ (words₁ : List ℕ) (scope name : ℕ) (none : Need) (low : scope ≤ node) (no_need : none ≡ numbers 0 0 0 0 0 0) (named : name ≡ packed_operand (get_or words node 0))
          (written : KeptEntry words words₁ node name scope none) where
        kept_none : WritesEntriesFrom words words (node + 1)
        kept_none = entries_same words (node + 1)

        plain_named : (x : ℕ) (N : Needs) → packed_operand (get_or words node 0) ≡ x → NamesAt words scope N → NamesAt words₁ (node + 1) (record { name = x; need = nothing } ∷ N)
        plain_named x N o s = name_given words words₁ scope name none named kept_none written x nothing N o no_need low s

        module _ (is_ref : bound ≡ ref_number) where
          ref_seen : {A : Type 0} {d j : ℕ} {b : Bound} → StoredBound words d (node + 1) j b →
              ((e : ℕ) (v : Expression) → b ≡ Ref (node + 1) v → StoredExpression words e (node + 2) j v → A) → A
          ref_seen (Stored.plain_of a) go = absurd (omega (arith, is_ref, bound_known, stored_expression_kind a))
          ref_seen {j = j} (Stored.ref {d = e} {e = v} h a) go = go e v refl (subst (λ i. StoredExpression words e i j v) (omega arith) a)
          ref_seen (Stored.abs l h a b) go = absurd (omega (arith, is_ref, bound_known, kind_is h (omega arith)))

          pub referent_there : SomeDeclaration words node → SomeExpression words₁ (node + 2)
          referent_there s =
              bind_seen s.3 (λ e x b q l o h a. ref_seen a (λ e v r k. (_, _, v, same_expression words words₁ (entries_nodes written.others) k)))

          pub reference_declared : (value reference t : Need) → ExpressionNeeds words₁ (node + 2) value → reference ≡ unary_figures value 0 1 1 0 → t ≡ unary_figures reference 1 2 1 1 →
              DeclarationNeeds words words₁ scope node (record { need = t; newest = node + 1 })
          unfolding declaration_need names_given bound_function bound_need cells_left bindings_left
          reference_declared value reference t needs f g d j c N s names =
              bind_seen s
              (λ e x b q l o h a.
              ref_seen a
              (λ e v r k.
              subst (λ z. DeclaredAs words₁ j N z (record { need = t; newest = node + 1 })) (sym (q ∙ ap (Bind node x) r))
              (record {
                need_is =
                    g
                    ∙ (unary_law {n = bound_need (Ref (node + 1) v)} 1 2 1 1
                    (record {
                      equal = f ∙ (unary_law {n = expression_need v} 0 1 1 0 (record { equal = needs _ _ v (same_expression words words₁ (entries_nodes written.others) k) })).equal;
                    })
                    ).equal;
                names_there = plain_named x N o names;
                newest_low = omega (arith, h);
              })))

        module _ (not_abs : bound ≡ abs_number → ⊥) (not_ref : bound ≡ ref_number → ⊥) where
          plain_seen : {A : Type 0} {d j : ℕ} {b : Bound} → StoredBound words d (node + 1) j b → ((e : ℕ) (v : Expression) → b ≡ plain v → StoredExpression words e (node + 1) j v → A) → A
          plain_seen (Stored.plain_of {d = e} {e = v} a) go = go e v refl a
          plain_seen (Stored.ref h a) go = absurd (not_ref (bound_known ∙ kind_is h (omega arith)))
          plain_seen (Stored.abs l h a b) go = absurd (not_abs (bound_known ∙ kind_is h (omega arith)))

          pub value_there : SomeDeclaration words node → SomeExpression words₁ (node + 1)
          value_there s =
              bind_seen s.3 (λ e x b q l o h a. plain_seen a (λ e v r k. (_, _, v, same_expression words words₁ (entries_nodes written.others) k)))

          pub plain_declared : (value t : Need) → ExpressionNeeds words₁ (node + 1) value → t ≡ unary_figures value 1 2 0 1 →
              DeclarationNeeds words words₁ scope node (record { need = t; newest = node + 1 })
          unfolding declaration_need names_given bound_function bound_need cells_left bindings_left
          plain_declared value t needs g d j c N s names =
              bind_seen s
              (λ e x b q l o h a.
              plain_seen a
              (λ e v r k.
              subst (λ z. DeclaredAs words₁ j N z (record { need = t; newest = node + 1 })) (sym (q ∙ ap (Bind node x) r))
              (record {
                need_is = g ∙ (unary_law {n = expression_need v} 1 2 0 1 (record { equal = needs _ _ v (same_expression words words₁ (entries_nodes written.others) k) })).equal;
                names_there = plain_named x N o names;
                newest_low = omega (arith, h);
              })))
