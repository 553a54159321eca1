-- Expressions by the kind of their node: what stands there, that its children's carrying is fit where its own is, and what it gives from theirs.
use Prim.Native.Nat.{ℕ, suc, ◌+◌, ◌<◌}
use mathlib.Core.Path.{◌≡◌, refl, sym, ap, ◌∙◌, subst}
use mathlib.Core.List.{List}
use Rattle.std.specs.Prelude.{Result, Ok, Err}
use Rattle.rules.specs.declared.refusals.Refused.{Refused}
use native.Mathlib.Omega.{arith}
use lib.ListN.{get_or}
use Rattle.rules.specs.paper.Kinds.{kind_number}
use Rattle.rules.specs.declared.kinds.ExpressionKind.{ExpressionKind}
use Rattle.rules.specs.declared.kinds.ExpressionKind.TheVariants.{Binary as binary, Not as negation}
use Rattle.rules.specs.declared.kinds.Kind.TheVariants.{Expression as expression_kind}
use Rattle.rules.specs.paper.Tree.{Expression, Num, Boo, Id, DeRef, ValRef, Binary, Not}
use Rattle.rules.specs.declared.kinds.Operator.{Operator}
use Rattle.rules.specs.paper.Carried.{Carried, Carrying, carried, unsafe, unfit, ◌>>=◌, carry_operator, carry_negation}
use Rattle.rules.specs.paper.Carrying.{CarriedCells, CarriedNames, carry_expression}
use Rattle.reader.specs.NodeKinds.{expression_kind_of, Known}
use Rattle.reader.specs.Pack.{packed_kind, packed_end}
use Rattle.reader.specs.Stored.{StoredExpression}
use Rattle.reader.specs.Stored as Stored
use Rattle.reader.proofs.NodeKindLaws.{expression_known, expression_is}
use Rattle.reader.proofs.StandingLaws.{Rooted, after_node, expression_root, expression_on, expression_end}
use Rattle.intervals.specs.Values.{HoldsValue, ExpressedAs, Gives}
use Rattle.intervals.specs.declared.values.Value.{Value}
use Rattle.carrying.specs.Answers.{Fits, IsLeaf, ExpressionThere, SomeExpression, ExpressionCarried, SomeLeaf, LeafCarried}
use Rattle.carrying.proofs.ResultLaws.{same_ok, ok_not_err}
use Rattle.carrying.proofs.ReachLaws.{subtree_size, smaller}

-- ---- Answers.

-- Where the answer is a value, carrying came to what it holds, or is unfit.
pub told_value : {A : Type 0} (c : Carrying Carried) (x : Value) → ExpressedAs c (Ok x) → ((v : Carried) → c ≡ carried v → HoldsValue x v → A) → (c ≡ unfit → A) → A
told_value (carried v) x (y, same, holds) give never = give v refl (subst (λ z. HoldsValue z v) (sym (same_ok same)) holds)
told_value (unsafe p) x same give never = ok_not_err same
told_value unfit x answer give never = never refl

-- Where it is a refusal, that is the answer of whatever goes on with the value.
pub told_unsafe : (f : Carried → Carrying Carried) (c : Carrying Carried) (x : Refused) → ExpressedAs c (Err x) → ExpressedAs (c >>= f) (Err x)
told_unsafe f (carried v) x (y, same, holds) = ok_not_err (sym same)
told_unsafe f (unsafe q) x same = same
told_unsafe f unfit x answer = tt

pub given_as : (c : Carrying Carried) (x : Value) → Gives c x → ExpressedAs c (Ok x)
given_as (carried v) x holds = (x, refl, holds)
given_as (unsafe p) x never = absurd never
given_as unfit x holds = tt

-- What goes on is fit, so what it goes on with was.
pub first_fits : {A B : Type 0} (f : A → Carrying B) (c : Carrying A) → Fits (c >>= f) → Fits c
first_fits f c fits q = fits (rw q refl)

-- What a binary node does with its first operand's value.
abbrev operand_then : CarriedNames → CarriedCells → (node : ℕ) → Operator → Expression → Carried → Carrying Carried
operand_then A K node o e v = carry_expression A K e >>= λ w. carry_operator node o v w

child_place : {words : List ℕ} {d i j : ℕ} {e : Expression} → StoredExpression words d (suc i) j e → StoredExpression words d (i + 1) j e
child_place {words} {d} {i} {j} {e} s = subst (λ k. StoredExpression words d k j e) (after_node i) s

module _ (words : List ℕ) (environment node : ℕ) where
  -- The kind read at the node is the tree's.
  kind_there : (k : ExpressionKind) → kind_number (expression_kind k) ≡ packed_kind (get_or words node 0) → {d j : ℕ} {e : Expression} → StoredExpression words d node j e → k ≡ expression_kind_of e
  kind_there k known tree = let same = expression_is (expression_kind k) tree known in cc

  pub known_there : SomeExpression words environment node → Known (get_or words node 0)
  known_there s = expression_known s.3.tree

  -- ---- A leaf.

  module _ (k : ExpressionKind) (known : kind_number (expression_kind k) ≡ packed_kind (get_or words node 0)) (not_binary : (o : Operator) → k ≡ binary o → ⊥) (not_negation : k ≡ negation → ⊥) where
    is_leaf : {d j : ℕ} {e : Expression} → StoredExpression words d node j e → IsLeaf e
    is_leaf {e = e} tree = by e (kind_there k known tree)
      where
        by : (e : Expression) → k ≡ expression_kind_of e → IsLeaf e
        by (Num p n) q = tt
        by (Boo p b) q = tt
        by (Id p x) q = tt
        by (DeRef p x) q = tt
        by (ValRef p x) q = tt
        by (Binary p o e₁ e₂) q = not_binary o q
        by (Not p e) q = not_negation q

    pub some_leaf : SomeExpression words environment node → SomeLeaf words environment node
    some_leaf s = (s.0, s.1, s.2, s.3, s.4, is_leaf s.3.tree)

    pub leaf_carried : (x : Value) → LeafCarried words environment node x → ExpressionCarried words environment node (Ok x)
    leaf_carried x leaf e A K there = given_as (carry_expression A K e) x (leaf e A K there (is_leaf there.tree))

  -- ---- Not.

  module _ (known : kind_number (expression_kind negation) ≡ packed_kind (get_or words node 0)) where
    only_negation : {e : Expression} {A : CarriedNames} {K : CarriedCells} (X : Expression → Type 0) →
        ((e : Expression) → ExpressionThere words environment (node + 1) e A K → subtree_size words (node + 1) < subtree_size words node → X (Not node e)) → ExpressionThere words environment node e A K → X e
    only_negation {A = A} {K = K} X give there = by (kind_there negation known there.tree) (expression_root there.tree) there.tree
      where
        by : {d j : ℕ} {e : Expression} → negation ≡ expression_kind_of e → Rooted words node j → StoredExpression words d node j e → X e
        by q r (Stored.num w) = absurd cc
        by q r (Stored.boo w) = absurd cc
        by q r (Stored.id l w) = absurd cc
        by q r (Stored.deref l w) = absurd cc
        by q r (Stored.valref l w) = absurd cc
        by q r (Stored.binary w a b) = absurd cc
        by q r (Stored.negation {d = d} w a) =
            give _ (record { depth = d; next = _; tree = child_place a; sees = there.sees }) (smaller r (expression_root (child_place a)) (omega arith) (expression_on (child_place a)) (omega arith))

    pub negated_there : SomeExpression words environment node → SomeExpression words environment (node + 1) × (subtree_size words (node + 1) < subtree_size words node)
    unfolding carry_expression
    negated_there s =
        only_negation (λ e. Fits (carry_expression s.1 s.2 e) → SomeExpression words environment (node + 1) × (subtree_size words (node + 1) < subtree_size words node))
        (λ e a less fits. ((e, s.1, s.2, a, first_fits carry_negation (carry_expression s.1 s.2 e) fits), less)) s.3 s.4

    pub negated_unsafe : (refused : Refused) → ExpressionCarried words environment (node + 1) (Err refused) → ExpressionCarried words environment node (Err refused)
    unfolding carry_expression
    negated_unsafe refused negated e A K there =
        only_negation (λ e. ExpressedAs (carry_expression A K e) (Err refused)) (λ e a less. told_unsafe carry_negation (carry_expression A K e) refused (negated e A K a)) there

    pub negation_carried : (x y : Value) → ExpressionCarried words environment (node + 1) (Ok x) → ((v : Carried) → HoldsValue x v → Gives (carry_negation v) y) → ExpressionCarried words environment node (Ok y)
    unfolding carry_expression
    negation_carried x y negated gives e A K there =
        only_negation (λ e. ExpressedAs (carry_expression A K e) (Ok y))
        (λ e a less.
        told_value (carry_expression A K e) x (negated e A K a)
        (λ v same holds. subst (λ c. ExpressedAs (c >>= carry_negation) (Ok y)) (sym same) (given_as (carry_negation v) y (gives v holds)))
        (λ never. subst (λ c. ExpressedAs (c >>= carry_negation) (Ok y)) (sym never) tt))
        there

  -- ---- An operator, with its operands.

  module _ (o : Operator) (known : kind_number (expression_kind (binary o)) ≡ packed_kind (get_or words node 0)) where
    only_binary : {e : Expression} {A : CarriedNames} {K : CarriedCells} (X : Expression → Type 0) →
        ((e₁ e₂ : Expression) → ExpressionThere words environment (node + 1) e₁ A K → ExpressionThere words environment (packed_end (get_or words (node + 1) 0)) e₂ A K →
        subtree_size words (node + 1) < subtree_size words node → subtree_size words (packed_end (get_or words (node + 1) 0)) < subtree_size words node → X (Binary node o e₁ e₂)) →
        ExpressionThere words environment node e A K → X e
    only_binary {A = A} {K = K} X give there = by (kind_there (binary o) known there.tree) (expression_root there.tree) there.tree
      where
        by : {d j : ℕ} {e : Expression} → binary o ≡ expression_kind_of e → Rooted words node j → StoredExpression words d node j e → X e
        by q r (Stored.num w) = absurd cc
        by q r (Stored.boo w) = absurd cc
        by q r (Stored.id l w) = absurd cc
        by q r (Stored.deref l w) = absurd cc
        by q r (Stored.valref l w) = absurd cc
        by q r (Stored.negation w a) = absurd cc
        by q r (Stored.binary {d = d} {k = m} {o = p} {e₁ = e₁} {e₂ = e₂} w a b) =
            let end = expression_end (child_place a) in
            let second = subst (λ i. StoredExpression words d i m e₂) (sym end) b in
            let same : o ≡ p = cc in
            subst (λ u. X (Binary node u e₁ e₂)) same
            (give e₁ e₂ (record { depth = d; next = _; tree = child_place a; sees = there.sees }) (record { depth = d; next = m; tree = second; sees = there.sees })
            (smaller r (expression_root (child_place a)) (omega arith) (expression_on (child_place a)) (omega (arith, expression_on b)))
            (smaller r (expression_root second) (omega (arith, end, expression_on a)) (expression_on second) (omega arith)))

    pub first_there : SomeExpression words environment node → SomeExpression words environment (node + 1) × (subtree_size words (node + 1) < subtree_size words node)
    unfolding carry_expression
    first_there s =
        only_binary (λ e. Fits (carry_expression s.1 s.2 e) → SomeExpression words environment (node + 1) × (subtree_size words (node + 1) < subtree_size words node))
        (λ e₁ e₂ a b less l fits. ((e₁, s.1, s.2, a, first_fits (operand_then s.1 s.2 node o e₂) (carry_expression s.1 s.2 e₁) fits), less)) s.3 s.4

    pub first_unsafe : (refused : Refused) → ExpressionCarried words environment (node + 1) (Err refused) → ExpressionCarried words environment node (Err refused)
    unfolding carry_expression
    first_unsafe refused first e A K there =
        only_binary (λ e. ExpressedAs (carry_expression A K e) (Err refused))
        (λ e₁ e₂ a b less l. told_unsafe (operand_then A K node o e₂) (carry_expression A K e₁) refused (first e₁ A K a)) there

    module _ (x : Value) (first : ExpressionCarried words environment (node + 1) (Ok x)) (next : ℕ) (place : next ≡ packed_end (get_or words (node + 1) 0)) where
      moved : {e : Expression} {A : CarriedNames} {K : CarriedCells} → ExpressionThere words environment (packed_end (get_or words (node + 1) 0)) e A K → ExpressionThere words environment next e A K
      moved {e} {A} {K} there = subst (λ i. ExpressionThere words environment i e A K) (sym place) there

      pub second_there : SomeExpression words environment node → SomeExpression words environment next × (subtree_size words next < subtree_size words node)
      unfolding carry_expression
      second_there s =
          only_binary (λ e. Fits (carry_expression s.1 s.2 e) → SomeExpression words environment next × (subtree_size words next < subtree_size words node))
          (λ e₁ e₂ a b less l fits. (
            (
              e₂,
              s.1,
              s.2,
              moved b,
              λ never.
                  told_value (carry_expression s.1 s.2 e₁) x (first e₁ s.1 s.2 a)
                  (λ v same holds. fits (ap (λ c. c >>= λ v. carry_expression s.1 s.2 e₂ >>= λ w. carry_operator node o v w) same ∙ ap (λ c. c >>= λ w. carry_operator node o v w) never))
                  (λ none. fits (ap (λ c. c >>= λ v. carry_expression s.1 s.2 e₂ >>= λ w. carry_operator node o v w) none)),
            ),
            subst (λ i. subtree_size words i < subtree_size words node) (sym place) l,
          ))
          s.3 s.4

      -- What it comes to from the second operand's answer.
      binary_as : (s : Result Value Refused) → ((e₂ : Expression) (A : CarriedNames) (K : CarriedCells) (v : Carried) → HoldsValue x v → ExpressionThere words environment next e₂ A K →
          ExpressedAs (carry_expression A K e₂ >>= λ w. carry_operator node o v w) s) → ExpressionCarried words environment node s
      unfolding carry_expression
      binary_as s second e A K there =
          only_binary (λ e. ExpressedAs (carry_expression A K e) s)
          (λ e₁ e₂ a b less l.
          told_value (carry_expression A K e₁) x (first e₁ A K a)
          (λ v same holds. subst (λ c. ExpressedAs (c >>= λ v. carry_expression A K e₂ >>= λ w. carry_operator node o v w) s) (sym same) (second e₂ A K v holds (moved b)))
          (λ never. subst (λ c. ExpressedAs (c >>= λ v. carry_expression A K e₂ >>= λ w. carry_operator node o v w) s) (sym never) tt))
          there

      pub second_unsafe : (refused : Refused) → ExpressionCarried words environment next (Err refused) → ExpressionCarried words environment node (Err refused)
      second_unsafe refused second =
          binary_as (Err refused) (λ e₂ A K v holds there. told_unsafe (λ w. carry_operator node o v w) (carry_expression A K e₂) refused (second e₂ A K there))

      pub binary_carried : (t : Result Value Refused) (y : Value) → ExpressionCarried words environment next (Ok y) →
          ((v w : Carried) → HoldsValue x v → HoldsValue y w → ExpressedAs (carry_operator node o v w) t) → ExpressionCarried words environment node t
      binary_carried t y second operated =
          binary_as t (λ e₂ A K v holds there.
          told_value (carry_expression A K e₂) y (second e₂ A K there)
          (λ w same held. subst (λ c. ExpressedAs (c >>= λ w. carry_operator node o v w) t) (sym same) (operated v w holds held))
          (λ never. subst (λ c. ExpressedAs (c >>= λ w. carry_operator node o v w) t) (sym never) tt))
