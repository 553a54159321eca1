-- The rules of Num, Boo, the operators and Not: what the code reads of the node is the rule's, and what it does is the rule's step.
use Prim.Native.Nat.{ℕ, suc, ◌+◌, ◌<◌, ◌^◌}
use mathlib.Core.Path.{◌≡◌, refl, sym, ap, ◌∙◌, subst}
use mathlib.Core.Bool.{Bool, false}
use mathlib.Core.List.{List, [], ◌∷◌}
use native.Mathlib.Omega.{arith}
use lib.IntN.{pos}
use lib.ListN.{length, get_or}
use Rattle.rules.specs.paper.Kinds.{operator_number}
use Rattle.rules.specs.paper.Tree.{Expression, Num, Boo, Binary, Not}
use Rattle.rules.specs.declared.kinds.Operator.{Operator}
use Rattle.rules.specs.claims.Listing.{truth_word}
use Rattle.rules.specs.paper.States.{integer, truth, value, operator_mark, not_mark, expression, mark}
use Rattle.rules.specs.paper.Rules.{Rule, Effect, Table, num, boo, binary, negation}
use Rattle.rules.specs.paper.Run.{judge}
use Rattle.rules.specs.paper.Limits.{most_nodes}
use Rattle.machine.specs.Layout.{mark_base, mark_word}
use Rattle.reader.specs.Pack.{packed_kind, packed_end, packed_operand}
use Rattle.reader.specs.Stored.{HasWord, StoredExpression}
use Rattle.reader.proofs.StoredFields.{kind_is, operand_is}
use Rattle.reader.specs.Stored as Stored
use Rattle.reader.proofs.StandingLaws.{operator_low, expression_low, expression_root}
use Rattle.integers.specs.WordLaws.{integer_low}
use Rattle.machine.specs.Regions.{regions}
use Rattle.machine.specs.Represents.{integer_as, truth_as, value_as, ControlAs, expression_on, operator_on, not_on}
use Rattle.machine.specs.Steps.{StepAnswer, Applicable, Steps, Puts, Pushes}
use Rattle.machine.specs.declared.Machine.{Machine}
use Rattle.std.specs.Prelude.{Result}
use Rattle.machine.proofs.state_laws.NodeLaws.{node_word, ExpressionTop, expression_top}
use Rattle.machine.proofs.state_laws.ModelLaws.{beside}
use Rattle.machine.proofs.state_laws.ItemLaws.{node_end}
use Rattle.rules.specs.declared.refusals.Reason.{Reason}

-- ---- The node of an expression, by its constructor.

number_word : {nodes : List ℕ} {d i j p k : ℕ} → StoredExpression nodes d i j (Num p k) → HasWord nodes i 1 k (suc i)
number_word (Stored.num h) = h

truth_node : {nodes : List ℕ} {d i j p : ℕ} {b : Bool} → StoredExpression nodes d i j (Boo p b) → HasWord nodes i 2 (truth_word b) (suc i)
truth_node (Stored.boo h) = h

record Operands (nodes : List ℕ) (i : ℕ) (e₁ e₂ : Expression) : Type 0 where
  pub depth : ℕ
  pub middle : ℕ
  pub next : ℕ
  pub first : StoredExpression nodes depth (suc i) middle e₁
  pub second : StoredExpression nodes depth middle next e₂

operands : {nodes : List ℕ} {d i j p : ℕ} {o : Operator} {e₁ e₂ : Expression} → StoredExpression nodes d i j (Binary p o e₁ e₂) →
    Operands nodes i e₁ e₂
operands (Stored.binary {d = d} {j = j} {k = k} h a b) = record { depth = d; middle = j; next = k; first = a; second = b }

operator_word : {nodes : List ℕ} {d i j p : ℕ} {o : Operator} {e₁ e₂ : Expression} → StoredExpression nodes d i j (Binary p o e₁ e₂) →
    HasWord nodes i (operator_number o) 0 j
operator_word (Stored.binary h a b) = h

record Operand (nodes : List ℕ) (i : ℕ) (e : Expression) : Type 0 where
  pub depth : ℕ
  pub next : ℕ
  pub inner : StoredExpression nodes depth (suc i) next e

operand : {nodes : List ℕ} {d i j p : ℕ} {e : Expression} → StoredExpression nodes d i j (Not p e) → Operand nodes i e
operand (Stored.negation {d = d} {j = j} h a) = record { depth = d; next = j; inner = a }

next_place : (i : ℕ) → suc i ≡ i + 1
next_place i = omega arith

module _ (words : List ℕ) (m : Machine) (w : ℕ) where
  -- ---- Where the rule applies the node is in the tree.

  pub applicable_low : (e : Expression) → Applicable words m w (expression e) → w < most_nodes
  applicable_low e a = expression_low (expression_top (regions words m) w e a.ready.models).stored

  pub applicable_within : (e : Expression) → Applicable words m w (expression e) → w < length words
  applicable_within e a = omega (arith, applicable_low e a, a.ready.fits.room)

  pub operand_within : (o : Operator) (e₁ e₂ : Expression) → Applicable words m w (expression (Binary w o e₁ e₂)) → w + 1 < length words
  operand_within o e₁ e₂ a =
      let both = operands (expression_top (regions words m) w (Binary w o e₁ e₂) a.ready.models).stored in
      omega (arith, expression_low both.first, a.ready.fits.room)

  -- ---- The steps.

  module _ (answer : Result Machine Reason) (after : List ℕ) where
    pub number_steps : (payload : ℕ) → payload ≡ packed_operand (get_or words w 0) → Pushes words m 0 payload answer after →
        (k : ℕ) → Steps words m w (expression (Num w k)) answer after
    number_steps payload q pushes k C X E S L n r e ready = by ready.applies
      where
        top : ExpressionTop (regions words m) w (Num w k) C X E S L n
        top = expression_top (regions words m) w (Num w k) ready.models

        word : HasWord words w 1 k (suc w)
        word = node_word words m (number_word top.stored)

        is_number : payload ≡ k
        is_number = q ∙ operand_is word (omega arith)

        low : payload < 2 ^ 63
        low = omega (arith, is_number, word.operand_low)

        by : {r : Rule} {e : Effect} → Table C E S L n r (expression (Num w k)) X e → StepAnswer (judge false e) answer words after
        by num =
            pushes C X E S L n (value (integer (pos k))) top.lowered
            (value_as (integer_as (sym (integer_low payload low ∙ ap pos is_number)) (omega (arith, low))))

    pub truth_steps : (payload : ℕ) → payload ≡ packed_operand (get_or words w 0) → Pushes words m 0 payload answer after →
        (b : Bool) → Steps words m w (expression (Boo w b)) answer after
    truth_steps payload q pushes b C X E S L n r e ready = by ready.applies
      where
        top : ExpressionTop (regions words m) w (Boo w b) C X E S L n
        top = expression_top (regions words m) w (Boo w b) ready.models

        is_truth : payload ≡ truth_word b
        is_truth = q ∙ operand_is (node_word words m (truth_node top.stored)) (omega arith)

        by : {r : Rule} {e : Effect} → Table C E S L n r (expression (Boo w b)) X e → StepAnswer (judge false e) answer words after
        by boo = pushes C X E S L n (value (truth b)) top.lowered (value_as (truth_as is_truth))

    pub binary_steps : (which second : ℕ) → which ≡ packed_kind (get_or words w 0) → second ≡ packed_end (get_or words (w + 1) 0) →
        Puts words m ((w + 1) ∷ second ∷ (mark_base + which) ∷ []) answer after →
        (o : Operator) (e₁ e₂ : Expression) → Steps words m w (expression (Binary w o e₁ e₂)) answer after
    binary_steps which second k q puts o e₁ e₂ C X E S L n r e ready = by ready.applies
      where
        top : ExpressionTop (regions words m) w (Binary w o e₁ e₂) C X E S L n
        top = expression_top (regions words m) w (Binary w o e₁ e₂) ready.models

        both : Operands (regions words m).nodes w e₁ e₂
        both = operands top.stored

        is_operator : which ≡ operator_number o
        is_operator = k ∙ kind_is (node_word words m (operator_word top.stored)) (operator_low o)

        is_second : both.middle ≡ second
        is_second = sym (node_end words m (expression_root both.first)) ∙ ap (λ i. packed_end (get_or words i 0)) (next_place w) ∙ sym q

        control : ControlAs (regions words m).nodes top.lowered.mode ((w + 1) ∷ second ∷ (mark_base + which) ∷ (regions words m).control)
            (expression e₁ ∷ expression e₂ ∷ mark (operator_mark o) ∷ C)
        control =
            expression_on (subst (λ i. StoredExpression (regions words m).nodes both.depth i both.middle e₁) (next_place w) both.first)
            (expression_on (subst (λ i. StoredExpression (regions words m).nodes both.depth i both.next e₂) is_second both.second)
            (operator_on (ap (λ k. mark_base + k) is_operator) top.lowered.control_as))

        by : {r : Rule} {e : Effect} → Table C E S L n r (expression (Binary w o e₁ e₂)) X e → StepAnswer (judge false e) answer words after
        by binary = puts (expression e₁ ∷ expression e₂ ∷ mark (operator_mark o) ∷ C) X E S L n top.lowered.mode (beside top.lowered) control

    pub negation_steps : Puts words m ((w + 1) ∷ mark_word not_mark ∷ []) answer after → (e : Expression) →
        Steps words m w (expression (Not w e)) answer after
    negation_steps puts inner C X E S L n r e ready = by ready.applies
      where
        top : ExpressionTop (regions words m) w (Not w inner) C X E S L n
        top = expression_top (regions words m) w (Not w inner) ready.models

        one : Operand (regions words m).nodes w inner
        one = operand top.stored

        control : ControlAs (regions words m).nodes top.lowered.mode ((w + 1) ∷ (mark_word not_mark) ∷ (regions words m).control)
            (expression inner ∷ mark not_mark ∷ C)
        control =
            expression_on (subst (λ i. StoredExpression (regions words m).nodes one.depth i one.next inner) (next_place w) one.inner)
            (not_on refl top.lowered.control_as)

        by : {r : Rule} {e : Effect} → Table C E S L n r (expression (Not w inner)) X e → StepAnswer (judge false e) answer words after
        by negation = puts (expression inner ∷ mark not_mark ∷ C) X E S L n top.lowered.mode (beside top.lowered) control
