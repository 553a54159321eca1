-- Which expression stands at a node, by its kind: the rule's function that the kind chooses is the expression's.
use Prim.Native.Nat.{ℕ, ◌≤◌}
use mathlib.Core.Path.{◌≡◌, refl, sym, ap, ◌∙◌, subst}
use mathlib.Core.Bool.{Bool}
use mathlib.Core.Logic.{◌⊎◌, ⊎_elim}
use mathlib.Core.List.{List}
use native.Mathlib.Omega.{arith}
use lib.ListN.{get_or}
use Rattle.rules.specs.paper.Kinds.{operator_number, kind_number}
use Rattle.rules.specs.declared.kinds.ExpressionKind.{ExpressionKind}
use Rattle.rules.specs.declared.kinds.ExpressionKind.TheVariants.{Num as number, Boo as truth}
use Rattle.rules.specs.declared.kinds.Kind.TheVariants.{Expression as expression_kind}
use Rattle.rules.specs.paper.Tree.{Expression, Num, Boo, Id, DeRef, ValRef, Binary, Not}
use Rattle.rules.specs.declared.kinds.Operator.{Operator}
use Rattle.rules.specs.paper.States.{expression}
use Rattle.reader.specs.Pack.{packed_kind}
use Rattle.reader.specs.Stored.{StoredExpression}
use Rattle.reader.proofs.StandingLaws.{operator_above, operator_below, expression_root}
use Rattle.reader.proofs.KindTrees.{ExpressionOf, is_number, is_truth, is_id, is_binary, is_negation, is_deref, is_valref, expression_of, id_kind, negation_kind, deref_kind, valref_kind}
use Rattle.machine.specs.Regions.{regions}
use Rattle.machine.specs.Steps.{Applicable, Steps}
use Rattle.machine.specs.declared.Machine.{Machine}
use Rattle.std.specs.Prelude.{Result}
use Rattle.machine.proofs.state_laws.NodeLaws.{expression_top}
use Rattle.machine.proofs.state_laws.ItemLaws.{node_kind}
use Rattle.rules.specs.declared.refusals.Reason.{Reason}

pub literal_low : {k : ExpressionKind} → (k ≡ number) ⊎ (k ≡ truth) → kind_number (expression_kind k) ≤ 2
literal_low = ⊎_elim (λ q. omega (arith, ap (λ k. kind_number (expression_kind k)) q))
    (λ q. omega (arith, ap (λ k. kind_number (expression_kind k)) q))

record IsBinary (place : ℕ) (e : Expression) : Type 0 where
  pub operator : Operator
  pub first : Expression
  pub second : Expression
  pub is : e ≡ Binary place operator first second

binary_kind : {place n : ℕ} {e : Expression} → ExpressionOf place n e → (o : Operator) → n ≡ operator_number o → IsBinary place e
binary_kind is_number o q = absurd (omega (arith, q, operator_above o))
binary_kind is_truth o q = absurd (omega (arith, q, operator_above o))
binary_kind is_id o q = absurd (omega (arith, q, operator_above o))
binary_kind (is_binary {o = o} {e₁ = e₁} {e₂ = e₂}) _ q = record { operator = o; first = e₁; second = e₂; is = refl }
binary_kind is_negation o q = absurd (omega (arith, q, operator_below o))
binary_kind is_deref o q = absurd (omega (arith, q, operator_below o))
binary_kind is_valref o q = absurd (omega (arith, q, operator_below o))

module _ (words : List ℕ) (m : Machine) (w which : ℕ) (known : which ≡ packed_kind (get_or words w 0)) where
  stored_kind : {d j : ℕ} {e : Expression} → StoredExpression (regions words m).nodes d w j e → ExpressionOf w which e
  stored_kind {e = e} s = subst (λ n. ExpressionOf w n e) (sym (known ∙ node_kind words m (expression_root s))) (expression_of s)

  abbrev Some : Type 0
  Some = (e : Expression) × Applicable words m w (expression e)

  applicable_kind : (e : Expression) → Applicable words m w (expression e) → ExpressionOf w which e
  applicable_kind e a = stored_kind (expression_top (regions words m) w e a.ready.models).stored

  moved : (e f : Expression) → e ≡ f → Applicable words m w (expression e) → Applicable words m w (expression f)
  moved e f q a = subst (λ g. Applicable words m w (expression g)) q a

  -- ---- The expression of the kind is one at which a rule applies.

  pub some_id : which ≡ 3 → Some → (x : ℕ) × Applicable words m w (expression (Id w x))
  some_id q s = let k = id_kind (applicable_kind s.0 s.1) q in (k.0, moved s.0 (Id w k.0) k.1 s.1)

  pub some_negation : which ≡ 15 → Some → (e : Expression) × Applicable words m w (expression (Not w e))
  some_negation q s = let k = negation_kind (applicable_kind s.0 s.1) q in (k.0, moved s.0 (Not w k.0) k.1 s.1)

  pub some_deref : which ≡ 16 → Some → (x : ℕ) × Applicable words m w (expression (DeRef w x))
  some_deref q s = let k = deref_kind (applicable_kind s.0 s.1) q in (k.0, moved s.0 (DeRef w k.0) k.1 s.1)

  pub some_valref : which ≡ 17 → Some → (x : ℕ) × Applicable words m w (expression (ValRef w x))
  some_valref q s = let k = valref_kind (applicable_kind s.0 s.1) q in (k.0, moved s.0 (ValRef w k.0) k.1 s.1)

  pub some_binary : (o : Operator) → which ≡ operator_number o → Some → (o : Operator) × (e₁ : Expression) × (e₂ : Expression) × Applicable words m w
      (expression (Binary w o e₁ e₂))
  some_binary o q s =
      let k = binary_kind (applicable_kind s.0 s.1) o q in (k.operator, k.first, k.second, moved s.0 (Binary w k.operator k.first k.second) k.is s.1)

  -- ---- The steps of the expression of the kind are those of every expression that can stand there.

  module _ (answer : Result Machine Reason) (after : List ℕ) where
    abbrev All : Type 0
    All = (e : Expression) → Steps words m w (expression e) answer after

    -- An expression for which the steps follow from its kind.
    by_kind : ((e : Expression) → ExpressionOf w which e → Steps words m w (expression e) answer after) → All
    by_kind steps e C X E S L n r f ready = steps e (stored_kind (expression_top (regions words m) w e ready.models).stored) C X E S L n r f ready

    moved_steps : (e f : Expression) → e ≡ f → Steps words m w (expression f) answer after → Steps words m w (expression e) answer after
    moved_steps e f q steps = subst (λ g. Steps words m w (expression g) answer after) (sym q) steps

    pub all_literal : which ≤ 2 → ((k : ℕ) → Steps words m w (expression (Num w k)) answer after) →
        ((b : Bool) → Steps words m w (expression (Boo w b)) answer after) → All
    all_literal low numbers truths = by_kind (λ e h. by h low)
      where
        by : {n : ℕ} {e : Expression} → ExpressionOf w n e → n ≤ 2 → Steps words m w (expression e) answer after
        by is_number l = numbers _
        by is_truth l = truths _
        by is_id l = absurd (omega (arith, l))
        by (is_binary {o = o}) l = absurd (omega (arith, l, operator_above o))
        by is_negation l = absurd (omega (arith, l))
        by is_deref l = absurd (omega (arith, l))
        by is_valref l = absurd (omega (arith, l))

    pub all_id : which ≡ 3 → ((x : ℕ) → Steps words m w (expression (Id w x)) answer after) → All
    all_id q steps = by_kind (λ e h. let k = id_kind h q in moved_steps e (Id w k.0) k.1 (steps k.0))

    pub all_negation : which ≡ 15 → ((e : Expression) → Steps words m w (expression (Not w e)) answer after) → All
    all_negation q steps = by_kind (λ e h. let k = negation_kind h q in moved_steps e (Not w k.0) k.1 (steps k.0))

    pub all_deref : which ≡ 16 → ((x : ℕ) → Steps words m w (expression (DeRef w x)) answer after) → All
    all_deref q steps = by_kind (λ e h. let k = deref_kind h q in moved_steps e (DeRef w k.0) k.1 (steps k.0))

    pub all_valref : which ≡ 17 → ((x : ℕ) → Steps words m w (expression (ValRef w x)) answer after) → All
    all_valref q steps = by_kind (λ e h. let k = valref_kind h q in moved_steps e (ValRef w k.0) k.1 (steps k.0))

    pub all_binary : (o : Operator) → which ≡ operator_number o →
        ((o : Operator) (e₁ e₂ : Expression) → Steps words m w (expression (Binary w o e₁ e₂)) answer after) → All
    all_binary o q steps = by_kind (λ e h. let k = binary_kind h o q in moved_steps e (Binary w k.operator k.first k.second) k.is
        (steps k.operator k.first k.second))
