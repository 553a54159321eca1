-- Expressions by the kind of their node: what stands there, and its figures from its children's.
use Prim.Native.Nat.{ℕ, suc, ◌+◌, ◌<◌, ◌≤◌}
use mathlib.Core.Path.{◌≡◌, sym, ap, ◌∙◌, subst}
use mathlib.Core.List.{List}
use native.Mathlib.Omega.{arith}
use lib.ListN.{get_or}
use Rattle.rules.specs.paper.Limits.{most_nodes}
use Rattle.rules.specs.paper.Kinds.{kind_number, operator_number}
use Rattle.rules.specs.declared.kinds.Kind.{Kind}
use Rattle.rules.specs.declared.kinds.Kind.TheVariants.{Expression as expression_kind}
use Rattle.rules.specs.declared.kinds.ExpressionKind.{ExpressionKind}
use Rattle.rules.specs.declared.kinds.ExpressionKind.TheVariants.{Binary as binary_kind, Not as negation_kind}
use Rattle.rules.specs.declared.kinds.Operator.{Operator}
use Rattle.rules.specs.paper.Tree.{Expression}
use Rattle.rules.specs.declared.kinds.Operator.TheVariants.{Arithmetic as arithmetic}
use Rattle.rules.specs.declared.kinds.Arithmetic.TheVariants.{Sum}
use Rattle.rules.specs.paper.Needs.{expression_need}
use Rattle.reader.specs.KindNumbers.{not_number}
use Rattle.reader.specs.Pack.{packed_kind, packed_end}
use Rattle.reader.specs.Stored.{StoredExpression, num, boo, id, deref, valref, binary, negation}
use Rattle.reader.proofs.StoredFields.{kind_is}
use Rattle.reader.proofs.NodeKindLaws.{expression_is}
use Rattle.reader.proofs.StandingLaws.{Rooted, after_node, operator_above, operator_below, operator_low, expression_root, expression_low, expression_on, expression_end}
use Rattle.estimator.specs.Figures.{one_step, unary_figures, binary_figures}
use Rattle.estimator.specs.Answers.{SomeExpression, ExpressionNeeds}
use Rattle.estimator.specs.declared.figures.Need.{Need}
use Rattle.estimator.proofs.SubtreeLaws.{subtree_size, smaller}
use Rattle.estimator.proofs.FigureLaws.{unary_law, binary_law}

-- The operators' numbers are from that of Sum to that of Not.
abbrev sum_number : ℕ
sum_number = operator_number (arithmetic Sum)

child_place : {words : List ℕ} {d i j : ℕ} {e : Expression} → StoredExpression words d (suc i) j e → StoredExpression words d (i + 1) j e
child_place {words} {d} {i} {j} {e} s = subst (λ k. StoredExpression words d k j e) (after_node i) s

pub same_kind : {e f : ExpressionKind} → expression_kind e ≡ expression_kind f → e ≡ f
same_kind q = cc

-- An operator's number is among these, and Not's is the last of them.
pub operator_numbers : (k : Kind) (o : Operator) → k ≡ expression_kind (binary_kind o) → (sum_number ≤ kind_number k) × (kind_number k ≤ not_number) × (kind_number k ≡ not_number → ⊥)
operator_numbers k o q =
    let n : kind_number k ≡ operator_number o = ap kind_number q in
    (omega (arith, n, operator_above o), omega (arith, n, operator_below o), λ z. omega (arith, n, z, operator_below o))

pub negation_number : (k : Kind) → k ≡ expression_kind negation_kind → (sum_number ≤ kind_number k) × (kind_number k ≤ not_number) × (kind_number k ≡ not_number)
negation_number k q =
    let n : kind_number k ≡ not_number = ap kind_number q in
    (omega (arith, n), omega (arith, n), n)

-- A node of no other kind is a leaf.
pub leaf : (words : List ℕ) (node : ℕ) (k : Kind) → kind_number k ≡ packed_kind (get_or words node 0) → ((o : Operator) → k ≡ expression_kind (binary_kind o) → ⊥) → (k ≡ expression_kind negation_kind → ⊥) →
    (r : Need) → r ≡ one_step 1 1 0 0 → ExpressionNeeds words node r
unfolding expression_need
leaf words node k known b n r q d j e (num w) = q
leaf words node k known b n r q d j e (boo w) = q
leaf words node k known b n r q d j e (id l w) = q
leaf words node k known b n r q d j e (deref l w) = q
leaf words node k known b n r q d j e (valref l w) = q
leaf words node k known b n r q d j e (binary {o = o} w f s) = absurd (b o (expression_is k (binary w f s) known))
leaf words node k known b n r q d j e (negation w f) = absurd (n (expression_is k (negation w f) known))

module _ (words : List ℕ) (node which : ℕ) (known : which ≡ packed_kind (get_or words node 0)) where
  module _ (low : sum_number ≤ which) (high : which ≤ not_number) where
    pub first_child : SomeExpression words node → SomeExpression words (node + 1) × (subtree_size words (node + 1) < subtree_size words node)
    first_child s = by (expression_root s.3) s.3
      where
        by : {d j : ℕ} {e : Expression} → Rooted words node j → StoredExpression words d node j e → SomeExpression words (node + 1) × (subtree_size words (node + 1) < subtree_size words node)
        by r (num w) = absurd (omega (arith, low, known, kind_is w (omega arith)))
        by r (boo w) = absurd (omega (arith, low, known, kind_is w (omega arith)))
        by r (id l w) = absurd (omega (arith, low, known, kind_is w (omega arith)))
        by r (deref l w) = absurd (omega (arith, high, known, kind_is w (omega arith)))
        by r (valref l w) = absurd (omega (arith, high, known, kind_is w (omega arith)))
        by r (binary w a b) = ((_, _, _, child_place a), smaller r (expression_root (child_place a)) (omega arith) (expression_on (child_place a)) (omega (arith, expression_on b)))
        by r (negation w a) = ((_, _, _, child_place a), smaller r (expression_root (child_place a)) (omega arith) (expression_on (child_place a)) (omega arith))

    pub first_low : SomeExpression words node → node + 1 < most_nodes
    first_low s = expression_low (first_child s).0.3

    pub negation_needs : which ≡ not_number → (r : Need) → ExpressionNeeds words (node + 1) r → (t : Need) → t ≡ unary_figures r 0 1 0 0 → ExpressionNeeds words node t
    unfolding expression_need
    negation_needs n r first t q d j e (num w) = absurd (omega (arith, low, known, kind_is w (omega arith)))
    negation_needs n r first t q d j e (boo w) = absurd (omega (arith, low, known, kind_is w (omega arith)))
    negation_needs n r first t q d j e (id l w) = absurd (omega (arith, low, known, kind_is w (omega arith)))
    negation_needs n r first t q d j e (deref l w) = absurd (omega (arith, high, known, kind_is w (omega arith)))
    negation_needs n r first t q d j e (valref l w) = absurd (omega (arith, high, known, kind_is w (omega arith)))
    negation_needs n r first t q d j e (binary {o = o} w a b) = absurd (omega (arith, n, known, kind_is w (operator_low o), operator_below o))
    negation_needs n r first t q d j e (negation w a) = q ∙ (unary_law {n = _} 0 1 0 0 (record { equal = first _ _ _ (child_place a) })).equal

    module _ (other : which ≡ not_number → ⊥) where
      pub second_child : (next : ℕ) → next ≡ packed_end (get_or words (node + 1) 0) → SomeExpression words node → SomeExpression words next × (subtree_size words next < subtree_size words node)
      second_child next p s = by (expression_root s.3) s.3
        where
          by : {d j : ℕ} {e : Expression} → Rooted words node j → StoredExpression words d node j e → SomeExpression words next × (subtree_size words next < subtree_size words node)
          by r (num w) = absurd (omega (arith, low, known, kind_is w (omega arith)))
          by r (boo w) = absurd (omega (arith, low, known, kind_is w (omega arith)))
          by r (id l w) = absurd (omega (arith, low, known, kind_is w (omega arith)))
          by r (deref l w) = absurd (omega (arith, high, known, kind_is w (omega arith)))
          by r (valref l w) = absurd (omega (arith, high, known, kind_is w (omega arith)))
          by r (binary {d = d} {k = m} {e₂ = e₂} w a b) =
              let end = p ∙ expression_end (child_place a) in
              let there = subst (λ i. StoredExpression words d i m e₂) (sym end) b in ((d, m, e₂, there), smaller r (expression_root there) (omega (arith, end, expression_on a)) (expression_on there) (omega arith))
          by r (negation w a) = absurd (other (known ∙ kind_is w (omega arith)))

      pub binary_needs : (r s : Need) (next : ℕ) → next ≡ packed_end (get_or words (node + 1) 0) → ExpressionNeeds words (node + 1) r → ExpressionNeeds words next s →
          (t : Need) → t ≡ binary_figures r s → ExpressionNeeds words node t
      unfolding expression_need
      binary_needs r s next p first second t q d j e (num w) = absurd (omega (arith, low, known, kind_is w (omega arith)))
      binary_needs r s next p first second t q d j e (boo w) = absurd (omega (arith, low, known, kind_is w (omega arith)))
      binary_needs r s next p first second t q d j e (id l w) = absurd (omega (arith, low, known, kind_is w (omega arith)))
      binary_needs r s next p first second t q d j e (deref l w) = absurd (omega (arith, high, known, kind_is w (omega arith)))
      binary_needs r s next p first second t q d j e (valref l w) = absurd (omega (arith, high, known, kind_is w (omega arith)))
      binary_needs r s next p first second t q d j e (binary {d = c} {k = m} {e₂ = e₂} w a b) =
          q ∙ (binary_law (record { equal = first _ _ _ (child_place a) }) (record { equal = second _ _ _ (subst (λ i. StoredExpression words c i m e₂) (sym (p ∙ expression_end (child_place a))) b) })).equal
      binary_needs r s next p first second t q d j e (negation w a) = absurd (other (known ∙ kind_is w (omega arith)))
