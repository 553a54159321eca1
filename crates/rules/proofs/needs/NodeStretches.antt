-- The steps at nodes: each puts the stretches of what it puts on control in the place of its node's.
use Rattle.std.specs.Prelude.{ℕ, suc, ◌+◌, ◌-◌, ◌≤◌, ◌≡◌, length}
use Rattle.std.proofs.Math.Path.{refl}
use Rattle.std.proofs.Common.{ap, ◌∙◌}
use mathlib.Core.List.{List, [], ◌∷◌, ◌++◌}
use native.Mathlib.Omega.{arith}
use Rattle.rules.specs.paper.Tree.{Operator, Expression, Num, Boo, Id, DeRef, ValRef, Binary, Not, Command, Assign, Loop, CSeq, block, Call, Cond, Block, Blk, Declaration, Bind, DSeq, Bound, plain, Ref, Abs}
use Rattle.rules.specs.paper.States.{Environment, Store, Entry, name, node, locations, Item, expression, command, declaration, reference, abstraction, mark, operator_mark, not_mark, assign_mark, loop_mark, conditional_mark, ref_mark, bind_mark, dseq_extend_mark, dseq_join_mark, extend_mark, leave_mark, bound_item, state}
use Rattle.rules.specs.paper.Needs.{Figure, control, sizes, Need, step, over, in_turn, either, push_step, expression_need, Needs, cells_left, bindings_left, bound_need, tested_need, command_need, block_need, declaration_need, names_given, bound_function}
use Rattle.rules.proofs.needs.Outlook.{environment_needs, Sketch, an_environment, sketches, Outlook, knowing, outlook, once, lies, after, ahead, ahead_of, stretches_of}
use Rattle.rules.proofs.needs.StretchLaws.{by_figure, spread_next, spread_end, Replaced, unfolds_into, unfolds_again, grows, shrinks, settles}

-- A node's own step finds it on control.
pub own_node : (h : ℕ) (o : Outlook) (f : Figure) → lies h o f + sizes 1 0 0 0 f ≡ lies (suc h) o f
own_node h o = by_figure _ (omega arith)

-- What comes to the top of control is in its own need.
pub covers : (h : ℕ) (o : Outlook) (n : Need) → 1 ≤ n.most control → (f : Figure) → lies (suc h) o f ≤ (over (lies h o) n).most f
covers h o n l = by_figure _ (omega (arith, l))

pub expression_least : (e : Expression) → 1 ≤ (expression_need e).most control
unfolding expression_need in_turn
expression_least (Num p n) = omega arith
expression_least (Boo p b) = omega arith
expression_least (Id p x) = omega arith
expression_least (DeRef p x) = omega arith
expression_least (ValRef p x) = omega arith
expression_least (Binary p o e₁ e₂) = omega arith
expression_least (Not p e) = omega arith

pub reference_least : (p : ℕ) (e : Expression) → 1 ≤ (bound_need (Ref p e)).most control
unfolding bound_need in_turn
reference_least p e = omega arith

pub block_least : (N : Needs) (b : Block) → 1 ≤ (block_need N b).most control
unfolding block_need in_turn
block_least N (Blk p d c) = omega arith

pub command_least : (N : Needs) (c : Command) → 1 ≤ (command_need N c).most control
unfolding command_need in_turn
command_least N (Assign p x e) = omega arith
command_least N (Loop p e c) = omega arith
command_least N (CSeq p c₁ c₂) = omega arith
command_least N (block b) = block_least N b
command_least N (Call p x es) = omega arith
command_least N (Cond p e c₁ c₂) = omega arith

pub declaration_least : (N : Needs) (d : Declaration) → 1 ≤ (declaration_need N d).most control
unfolding declaration_need in_turn
declaration_least N (Bind p x b) = omega arith
declaration_least N (DSeq p d₁ d₂) = omega arith

-- What the walk knows is the same where its numbers are.
pub same_outlook : (Y : List Sketch) (N : Needs) {c c' l l' b b' : ℕ} → c ≡ c' → l ≡ l' → b ≡ b' → knowing Y N c l b ≡ knowing Y N c' l' b'
same_outlook Y N {c} {c'} {l} {l'} {b} {b'} p q r = ap (λ k. knowing Y N k l b) p ∙ ap (λ k. knowing Y N c' k b) q ∙ ap (λ k. knowing Y N c' l' k) r

module _ (C : List Item) (X : List Entry) (E : Environment) (S : Store) (L : List ℕ) (n : ℕ) where
  abbrev here : Outlook
  here = outlook (state C X E S L n)

  abbrev height : ℕ
  height = length C

  abbrev names : Needs
  names = environment_needs E

  -- ---- Expressions.

  pub binary_replaced : (p : ℕ) (o : Operator) (e₁ e₂ : Expression) →
      Replaced (state (expression (Binary p o e₁ e₂) ∷ C) X E S L n) (state (expression e₁ ∷ expression e₂ ∷ mark (operator_mark o) ∷ C) X E S L n)
  unfolding ahead expression_need sketches stretches_of
  binary_replaced p o e₁ e₂ =
      unfolds_into (sizes 1 0 0 0) _ _ (stretches_of height (expression e₂ ∷ mark (operator_mark o) ∷ []) (after (expression e₁) here)) _ refl refl (own_node height here)
      (covers (suc (suc height)) here (expression_need e₁) (expression_least e₁))
      (spread_next (over (sizes 2 0 0 0) (expression_need e₁)) _ (by_figure _ (omega arith)) refl
      (spread_next (over (sizes 1 1 0 0) (expression_need e₂)) _ (by_figure _ (omega arith)) refl
      (spread_end (step (sizes 1 2 0 0)) (by_figure _ (omega arith)) refl)))

  pub not_replaced : (p : ℕ) (e : Expression) → Replaced (state (expression (Not p e) ∷ C) X E S L n) (state (expression e ∷ mark not_mark ∷ C) X E S L n)
  unfolding ahead expression_need sketches stretches_of
  not_replaced p e =
      unfolds_into (sizes 1 0 0 0) _ _ (stretches_of height (mark not_mark ∷ []) (after (expression e) here)) _ refl refl (own_node height here)
      (covers (suc height) here (expression_need e) (expression_least e))
      (spread_next (over (sizes 1 0 0 0) (expression_need e)) _ (by_figure _ (omega arith)) refl
      (spread_end (step (sizes 1 1 0 0)) (by_figure _ (omega arith)) refl))

  -- ---- Commands.

  pub assign_replaced : (p x : ℕ) (e : Expression) →
      Replaced (state (command (Assign p x e) ∷ C) X E S L n) (state (expression e ∷ mark assign_mark ∷ C) (name x ∷ X) E S L n)
  unfolding ahead command_need sketches stretches_of
  assign_replaced p x e =
      unfolds_into (sizes 1 0 0 0) _ _ (stretches_of height (mark assign_mark ∷ []) (after (expression e) (outlook (state C (name x ∷ X) E S L n)))) _ refl refl (own_node height here)
      (covers (suc height) (outlook (state C (name x ∷ X) E S L n)) (expression_need e) (expression_least e))
      (spread_next (over (sizes 1 1 0 0) (expression_need e)) _ (by_figure _ (omega arith)) refl
      (spread_end (step (sizes 1 2 0 0)) (by_figure _ (omega arith)) refl))

  pub conditional_replaced : (p : ℕ) (e : Expression) (c₁ c₂ : Command) →
      Replaced (state (command (Cond p e c₁ c₂) ∷ C) X E S L n) (state (expression e ∷ mark conditional_mark ∷ C) (node (Cond p e c₁ c₂) ∷ X) E S L n)
  unfolding ahead command_need sketches stretches_of
  conditional_replaced p e c₁ c₂ =
      unfolds_into (sizes 1 0 0 0) _ _ (stretches_of height (mark conditional_mark ∷ []) (after (expression e) (outlook (state C (node (Cond p e c₁ c₂) ∷ X) E S L n)))) _ refl refl (own_node height here)
      (covers (suc height) (outlook (state C (node (Cond p e c₁ c₂) ∷ X) E S L n)) (expression_need e) (expression_least e))
      (spread_next (over (sizes 1 1 0 0) (expression_need e)) _ (by_figure _ (omega arith)) refl
      (spread_end (tested_need (either (command_need names c₁) (command_need names c₂))) (λ f. refl) refl))

  pub cseq_replaced : (p : ℕ) (c₁ c₂ : Command) → Replaced (state (command (CSeq p c₁ c₂) ∷ C) X E S L n) (state (command c₁ ∷ command c₂ ∷ C) X E S L n)
  unfolding ahead command_need sketches stretches_of
  cseq_replaced p c₁ c₂ =
      unfolds_into (sizes 1 0 0 0) _ _ (stretches_of height (command c₂ ∷ []) here) _ refl refl (own_node height here)
      (covers (suc height) here (command_need names c₁) (command_least names c₁))
      (spread_next (over (sizes 1 0 0 0) (command_need names c₁)) _ (by_figure _ (omega arith)) refl
      (spread_end (command_need names c₂) (λ f. refl) refl))

  pub block_replaced : (p : ℕ) (d : Declaration) (c : Command) →
      Replaced (state (command (block (Blk p d c)) ∷ C) X E S L n) (state (declaration d ∷ mark extend_mark ∷ command c ∷ mark (leave_mark p n) ∷ C) (locations L ∷ X) E S [] n)
  unfolding ahead command_need block_need sketches stretches_of
  block_replaced p d c =
      unfolds_into (sizes 1 0 0 0) _ _
      (stretches_of height (mark extend_mark ∷ command c ∷ mark (leave_mark p n) ∷ []) (after (declaration d) (outlook (state C (locations L ∷ X) E S [] n)))) (ahead C here)
      refl
      (ap (λ o. stretches_of height (declaration d ∷ mark extend_mark ∷ command c ∷ mark (leave_mark p n) ∷ []) (outlook (state C (locations L ∷ X) E S [] n)) ++ ahead C o)
      (same_outlook (sketches X) names (restored (cells_left d) (length S)) refl refl))
      (own_node height here)
      (covers (suc (suc (suc height))) (outlook (state C (locations L ∷ X) E S [] n)) (declaration_need names d) (declaration_least names d))
      (spread_next (over (sizes 3 1 0 0) (declaration_need names d)) _ (by_figure _ (omega arith)) refl
      (spread_next (step (sizes 3 2 (cells_left d) (bindings_left d))) _ (by_figure _ (omega arith)) refl
      (spread_next (over (sizes 1 2 (cells_left d) (bindings_left d)) (command_need (names_given names d ++ names) c)) _ (by_figure _ (omega arith)) refl
      (spread_end (step (sizes 1 2 (cells_left d) (bindings_left d))) (by_figure _ (omega arith)) refl))))
    where
      restored : (k s : ℕ) → k + s - (k + 0) ≡ s
      restored k s = omega arith

  pub loop_replaced : (p : ℕ) (e : Expression) (c : Command) →
      Replaced (state (command (Loop p e c) ∷ C) X E S L n) (state (expression e ∷ mark loop_mark ∷ C) (node (Loop p e c) ∷ X) E S L n)
  unfolding ahead command_need sketches stretches_of
  loop_replaced p e c =
      unfolds_again (sizes 1 0 0 0) _ _ (over (lies height here) (tested_need (over (sizes 1 0 0 0) (command_need names c)))) _ refl refl (own_node height here)
      (covers (suc height) (outlook (state C (node (Loop p e c) ∷ X) E S L n)) (expression_need e) (expression_least e))
      (spread_next (over (sizes 1 1 0 0) (expression_need e)) _ (by_figure _ (omega arith)) refl
      (spread_end (tested_need (over (sizes 1 0 0 0) (command_need names c))) (λ f. refl) refl))

  -- ---- Declarations.

  pub sequence_replaced : (p : ℕ) (d₁ d₂ : Declaration) →
      Replaced (state (declaration (DSeq p d₁ d₂) ∷ C) X E S L n) (state (declaration d₁ ∷ mark dseq_extend_mark ∷ declaration d₂ ∷ mark dseq_join_mark ∷ C) X E S L n)
  unfolding ahead declaration_need names_given cells_left bindings_left sketches stretches_of
  sequence_replaced p d₁ d₂ =
      unfolds_into (sizes 1 0 0 0) _ _
      (stretches_of height (mark dseq_extend_mark ∷ declaration d₂ ∷ mark dseq_join_mark ∷ []) (after (declaration d₁) here)) (ahead C (after (declaration (DSeq p d₁ d₂)) here))
      refl
      (ap (λ o. stretches_of height (declaration d₁ ∷ mark dseq_extend_mark ∷ declaration d₂ ∷ mark dseq_join_mark ∷ []) here ++ ahead C o)
      (same_outlook (an_environment (names_given names (DSeq p d₁ d₂)) ∷ sketches X) names (omega arith) (omega arith) (omega arith)))
      (own_node height here)
      (covers (suc (suc (suc height))) here (declaration_need names d₁) (declaration_least names d₁))
      (spread_next (over (sizes 3 0 0 0) (declaration_need names d₁)) _ (by_figure _ (omega arith)) refl
      (spread_next (step (sizes 3 2 (cells_left d₁) (bindings_left d₁))) _ (by_figure _ (omega arith)) refl
      (spread_next (over (sizes 1 2 (cells_left d₁) (bindings_left d₁)) (declaration_need (names_given names d₁ ++ names) d₂)) _ (by_figure _ (omega arith)) refl
      (spread_end (step (sizes 1 3 (cells_left d₂ + cells_left d₁) (bindings_left d₂ + bindings_left d₁))) (by_figure _ (omega arith)) refl))))

  pub bind_replaced : (p x : ℕ) (b : Bound) → Replaced (state (declaration (Bind p x b) ∷ C) X E S L n) (state (bound_item b ∷ mark bind_mark ∷ C) (name x ∷ X) E S L n)
  unfolding ahead declaration_need names_given bound_function bound_need cells_left bindings_left sketches stretches_of
  bind_replaced p x (plain e) =
      unfolds_into (sizes 1 0 0 0) _ _ (stretches_of height (mark bind_mark ∷ []) (after (expression e) (outlook (state C (name x ∷ X) E S L n)))) (ahead C (after (declaration (Bind p x (plain e))) here))
      refl
      (ap (λ o. stretches_of height (expression e ∷ mark bind_mark ∷ []) (outlook (state C (name x ∷ X) E S L n)) ++ ahead C o)
      (same_outlook (an_environment (names_given names (Bind p x (plain e))) ∷ sketches X) names (omega arith) (omega arith) (omega arith)))
      (own_node height here) (covers (suc height) (outlook (state C (name x ∷ X) E S L n)) (expression_need e) (expression_least e))
      (spread_next (over (sizes 1 1 0 0) (expression_need e)) _ (by_figure _ (omega arith)) refl
      (spread_end (step (sizes 1 2 0 1)) (by_figure _ (omega arith)) refl))
  bind_replaced p x (Ref q e) =
      unfolds_into (sizes 1 0 0 0) _ _ (stretches_of height (mark bind_mark ∷ []) (after (reference q e) (outlook (state C (name x ∷ X) E S L n)))) (ahead C (after (declaration (Bind p x (Ref q e))) here))
      refl
      (ap (λ o. stretches_of height (reference q e ∷ mark bind_mark ∷ []) (outlook (state C (name x ∷ X) E S L n)) ++ ahead C o)
      (same_outlook (an_environment (names_given names (Bind p x (Ref q e))) ∷ sketches X) names (omega arith) (omega arith) (omega arith)))
      (own_node height here) (covers (suc height) (outlook (state C (name x ∷ X) E S L n)) (bound_need (Ref q e)) (reference_least q e))
      (spread_next (over (sizes 1 1 0 0) (bound_need (Ref q e))) _ (by_figure _ (omega arith)) refl
      (spread_end (step (sizes 1 2 1 1)) (by_figure _ (omega arith)) refl))
  bind_replaced p x (Abs q fs b) =
      unfolds_into (sizes 1 0 0 0) _ _ (stretches_of height (mark bind_mark ∷ []) (after (abstraction q fs b) (outlook (state C (name x ∷ X) E S L n)))) (ahead C (after (declaration (Bind p x (Abs q fs b))) here))
      refl
      (ap (λ o. stretches_of height (abstraction q fs b ∷ mark bind_mark ∷ []) (outlook (state C (name x ∷ X) E S L n)) ++ ahead C o)
      (same_outlook (an_environment (names_given names (Bind p x (Abs q fs b))) ∷ sketches X) names (omega arith) (omega arith) (omega arith)))
      (own_node height here) (covers (suc height) (outlook (state C (name x ∷ X) E S L n)) push_step (omega arith))
      (spread_next (over (sizes 1 1 0 0) push_step) _ (by_figure _ (omega arith)) refl
      (spread_end (step (sizes 1 2 0 1)) (by_figure _ (omega arith)) refl))

  pub reference_replaced : (p : ℕ) (e : Expression) → Replaced (state (reference p e ∷ C) X E S L n) (state (expression e ∷ mark ref_mark ∷ C) X E S L n)
  unfolding ahead bound_need sketches stretches_of
  reference_replaced p e =
      unfolds_into (sizes 1 0 0 0) _ _ (stretches_of height (mark ref_mark ∷ []) (after (expression e) here)) _ refl refl (own_node height here)
      (covers (suc height) here (expression_need e) (expression_least e))
      (spread_next (over (sizes 1 0 0 0) (expression_need e)) _ (by_figure _ (omega arith)) refl
      (spread_end (step (sizes 1 1 1 0)) (by_figure _ (omega arith)) refl))

  -- ---- What pushes a value or closure and puts nothing on control.

  -- The sizes that a step which pushes one entry leaves.
  pub push_settles : {i : Item} {Y : List Entry} (o : Outlook) →
      ahead_of (state (i ∷ C) X E S L n) ≡ once (over (lies height here) push_step) ∷ ahead C o → ahead_of (state C Y E S L n) ≡ ahead C o → length (sketches Y) ≡ suc (length (sketches X)) →
      Replaced (state (i ∷ C) X E S L n) (state C Y E S L n)
  push_settles o before afterwards counted =
      settles (ahead C o) before afterwards (λ f. refl) (λ f. refl) (grows (omega (arith, counted))) (shrinks (omega arith)) (shrinks (omega arith))
