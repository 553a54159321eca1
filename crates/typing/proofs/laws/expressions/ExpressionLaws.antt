-- Expressions by the kind of their node: which expression stands there, and its code from its name's meaning or its children's codes.
use Prim.Native.Nat.{ℕ, suc, ◌+◌, ◌<◌}
use mathlib.Core.Path.{◌≡◌, refl, sym, ap, ◌∙◌, subst}
use mathlib.Core.Bool.{Bool}
use mathlib.Core.List.{List}
use native.Mathlib.Omega.{arith}
use lib.ListN.{get_or}
use Rattle.std.specs.Prelude.{Result, Ok, Err}
use Rattle.rules.specs.declared.refusals.Refused.{Refused}
use Rattle.rules.specs.paper.Limits.{names}
use Rattle.rules.specs.paper.Kinds.{kind_number, operator_number}
use Rattle.rules.specs.paper.Tree.{Expression, Num, Boo, Id, DeRef, ValRef, Binary, Not}
use Rattle.rules.specs.declared.kinds.Operator.{Operator}
use Rattle.rules.specs.declared.kinds.Kind.{Kind}
use Rattle.rules.specs.declared.kinds.Kind.TheVariants.{Expression as expression_kind}
use Rattle.rules.specs.declared.kinds.ExpressionKind.{ExpressionKind}
use Rattle.rules.specs.declared.kinds.ExpressionKind.TheVariants.{Num as num, Boo as boo, Id as id, DeRef as deref, ValRef as valref, Binary as binary, Not as negation}
use Rattle.rules.specs.paper.Checker.{Meaning, Scope, Judged, ◌>>=◌, meaning_of, bound_name, id_code, deref_code, valref_code, operator_code, truth_only, expression_code}
use Rattle.reader.specs.NodeKinds.{expression_kind_of}
use Rattle.reader.specs.Pack.{packed_kind, packed_operand, packed_end}
use Rattle.reader.specs.Stored.{HasWord, StoredExpression}
use Rattle.reader.specs.Stored as Stored
use Rattle.reader.proofs.NodeKindLaws.{expression_is}
use Rattle.reader.proofs.StoredFields.{kind_is, operand_is}
use Rattle.reader.proofs.StandingLaws.{after_node, operator_low, expression_on, expression_end}
use Rattle.typing.specs.Rows.{meaning_number, ScopeAt}
use Rattle.typing.specs.Answers.{code_answer, meaning_answer, MeaningJudgedAt, Numbered, ExpressionAt, ExpressionJudgedAt}
use Rattle.typing.proofs.laws.codes.AnswerLaws.{then_fault, then_fine, then_code}
use Rattle.typing.proofs.laws.expressions.NameLaws.{scope_numbered}

-- ---- Which expression it is, by the number of its kind, with where its children stand.

-- An expression that is a name.
pub data NameAt (words : List ℕ) (node : ℕ) : Expression → Type 0 where
  id_at : {x : ℕ} → x < names → HasWord words node 3 x (suc node) → NameAt words node (Id node x)
  deref_at : {x : ℕ} → x < names → HasWord words node 16 x (suc node) → NameAt words node (DeRef node x)
  valref_at : {x : ℕ} → x < names → HasWord words node 17 x (suc node) → NameAt words node (ValRef node x)

-- The kinds of expressions, with what follows from each.
pub data Seen (words : List ℕ) (node : ℕ) : (which : ℕ) → Expression → Type 0 where
  seen_number : {n : ℕ} → Seen words node 1 (Num node n)
  seen_truth : {b : Bool} → Seen words node 2 (Boo node b)
  seen_id : {e : Expression} → NameAt words node e → Seen words node 3 e
  seen_name : {w : ℕ} {e : Expression} → 15 < w → NameAt words node e → Seen words node w e
  seen_binary : {o : Operator} {e₁ e₂ : Expression} → ExpressionAt words (node + 1) e₁ → ExpressionAt words (packed_end (get_or words (node + 1) 0)) e₂ →
      node < packed_end (get_or words (node + 1) 0) → Seen words node (operator_number o) (Binary node o e₁ e₂)
  seen_negation : {e : Expression} → ExpressionAt words (node + 1) e → Seen words node 15 (Not node e)

child_place : {words : List ℕ} {d i j : ℕ} {e : Expression} → StoredExpression words d (suc i) j e → StoredExpression words d (i + 1) j e
child_place {words} {d} {i} {j} {e} s = subst (λ k. StoredExpression words d k j e) (after_node i) s

pub seen : (words : List ℕ) (node which : ℕ) (e : Expression) → which ≡ packed_kind (get_or words node 0) → ExpressionAt words node e → Seen words node which e
seen words node which e k at = by at.stored k
  where
    of_kind : {n : ℕ} {e : Expression} → which ≡ packed_kind (get_or words node 0) → packed_kind (get_or words node 0) ≡ n → Seen words node n e → Seen words node which e
    of_kind {n} {e} k q s = subst (λ w. Seen words node w e) (sym (k ∙ q)) s

    by : {d j : ℕ} {e : Expression} → StoredExpression words d node j e → which ≡ packed_kind (get_or words node 0) → Seen words node which e
    by (Stored.num h) k = of_kind k (kind_is h (omega arith)) seen_number
    by (Stored.boo h) k = of_kind k (kind_is h (omega arith)) seen_truth
    by (Stored.id l h) k = of_kind k (kind_is h (omega arith)) (seen_id (id_at l h))
    by (Stored.deref l h) k = of_kind k (kind_is h (omega arith)) (seen_name (omega arith) (deref_at l h))
    by (Stored.valref l h) k = of_kind k (kind_is h (omega arith)) (seen_name (omega arith) (valref_at l h))
    by {d = suc d} (Stored.binary {j = j} {k = m} {o = o} {e₁ = e₁} {e₂ = e₂} h a b) k =
        let end : packed_end (get_or words (node + 1) 0) ≡ j = expression_end (child_place a) in
        of_kind k (kind_is h (operator_low o))
        (seen_binary (record { depth = d; next = j; stored = child_place a })
        (record { depth = d; next = m; stored = subst (λ i. StoredExpression words d i m e₂) (sym end) b })
        (subst (λ i. node < i) (sym end) (omega (arith, expression_on a))))
    by {d = suc d} (Stored.negation {j = j} h a) k = of_kind k (kind_is h (omega arith)) (seen_negation (record { depth = d; next = j; stored = child_place a }))

-- ---- Which expression it is, by its kind.

module _ (words : List ℕ) (node : ℕ) where
  -- Whatever expression stands there is of this kind.
  abbrev pub KindThere : ExpressionKind → Type 0
  KindThere x = (e : Expression) → ExpressionAt words node e → expression_kind_of e ≡ x

  pub kind_there : (k : Kind) (x y : ExpressionKind) → kind_number k ≡ packed_kind (get_or words node 0) → k ≡ expression_kind x → x ≡ y → KindThere y
  kind_there k x y known is same e at = let told : k ≡ expression_kind (expression_kind_of e) = expression_is k at.stored known in cc

  -- A name, by the rule that gives its code from its meaning.
  abbrev pub NameThere : (Meaning → Judged ℕ) → Type 0
  NameThere rule = (e : Expression) → ExpressionAt words node e → (x : ℕ) × (packed_operand (get_or words node 0) ≡ x) × ((Γ : Scope) → expression_code Γ e ≡ (bound_name node (meaning_of x Γ) >>= rule))

  pub id_there : KindThere id → NameThere (id_code node)
  unfolding expression_code
  id_there is e at = by at.stored (is e at)
    where
      by : {d j : ℕ} {e : Expression} → StoredExpression words d node j e → expression_kind_of e ≡ id → (x : ℕ) × (packed_operand (get_or words node 0) ≡ x) × ((Γ : Scope) → expression_code Γ e ≡ (bound_name node (meaning_of x Γ) >>= id_code node))
      by (Stored.num h) q = absurd cc
      by (Stored.boo h) q = absurd cc
      by (Stored.id {x = x} l h) q = (x, operand_is h (omega arith), λ Γ. refl)
      by (Stored.deref l h) q = absurd cc
      by (Stored.valref l h) q = absurd cc
      by (Stored.binary h a b) q = absurd cc
      by (Stored.negation h a) q = absurd cc

  pub deref_there : KindThere deref → NameThere (deref_code node)
  unfolding expression_code
  deref_there is e at = by at.stored (is e at)
    where
      by : {d j : ℕ} {e : Expression} → StoredExpression words d node j e → expression_kind_of e ≡ deref → (x : ℕ) × (packed_operand (get_or words node 0) ≡ x) × ((Γ : Scope) → expression_code Γ e ≡ (bound_name node (meaning_of x Γ) >>= deref_code node))
      by (Stored.num h) q = absurd cc
      by (Stored.boo h) q = absurd cc
      by (Stored.id l h) q = absurd cc
      by (Stored.deref {x = x} l h) q = (x, operand_is h (omega arith), λ Γ. refl)
      by (Stored.valref l h) q = absurd cc
      by (Stored.binary h a b) q = absurd cc
      by (Stored.negation h a) q = absurd cc

  pub valref_there : KindThere valref → NameThere (valref_code node)
  unfolding expression_code
  valref_there is e at = by at.stored (is e at)
    where
      by : {d j : ℕ} {e : Expression} → StoredExpression words d node j e → expression_kind_of e ≡ valref → (x : ℕ) × (packed_operand (get_or words node 0) ≡ x) × ((Γ : Scope) → expression_code Γ e ≡ (bound_name node (meaning_of x Γ) >>= valref_code node))
      by (Stored.num h) q = absurd cc
      by (Stored.boo h) q = absurd cc
      by (Stored.id l h) q = absurd cc
      by (Stored.deref l h) q = absurd cc
      by (Stored.valref {x = x} l h) q = (x, operand_is h (omega arith), λ Γ. refl)
      by (Stored.binary h a b) q = absurd cc
      by (Stored.negation h a) q = absurd cc

  pub record NotAt (e : Expression) : Type 0 where
    pub inner : Expression
    pub same : e ≡ Not node inner
    pub inner_at : ExpressionAt words (node + 1) inner

  pub record BinaryAt (o : Operator) (e : Expression) : Type 0 where
    pub first : Expression
    pub second : Expression
    pub same : e ≡ Binary node o first second
    pub first_at : ExpressionAt words (node + 1) first
    pub second_at : ExpressionAt words (packed_end (get_or words (node + 1) 0)) second
    pub on : node < packed_end (get_or words (node + 1) 0)

  child : {d j : ℕ} {e : Expression} → StoredExpression words d (suc node) j e → StoredExpression words d (node + 1) j e
  child {d} {j} {e} s = subst (λ i. StoredExpression words d i j e) (after_node node) s

  pub not_there : KindThere negation → (e : Expression) → ExpressionAt words node e → NotAt e
  not_there is e at = by at.stored (is e at)
    where
      by : {d j : ℕ} {e : Expression} → StoredExpression words d node j e → expression_kind_of e ≡ negation → NotAt e
      by (Stored.num h) q = absurd cc
      by (Stored.boo h) q = absurd cc
      by (Stored.id l h) q = absurd cc
      by (Stored.deref l h) q = absurd cc
      by (Stored.valref l h) q = absurd cc
      by (Stored.binary h a b) q = absurd cc
      by {d = suc d} {j = j} (Stored.negation {e = e} h a) q = record { inner = e; same = refl; inner_at = record { depth = d; next = j; stored = child a } }

  pub binary_there : (o : Operator) → KindThere (binary o) → (e : Expression) → ExpressionAt words node e → BinaryAt o e
  binary_there o is e at = by at.stored (is e at)
    where
      operator_is : (p : Operator) → binary p ≡ binary o → p ≡ o
      operator_is p q = cc

      by : {d j : ℕ} {e : Expression} → StoredExpression words d node j e → expression_kind_of e ≡ binary o → BinaryAt o e
      by (Stored.num h) q = absurd cc
      by (Stored.boo h) q = absurd cc
      by (Stored.id l h) q = absurd cc
      by (Stored.deref l h) q = absurd cc
      by (Stored.valref l h) q = absurd cc
      by {d = suc d} (Stored.binary {j = j} {k = k} {o = p} {e₁ = e₁} {e₂ = e₂} h a b) q =
          let end : packed_end (get_or words (node + 1) 0) ≡ j = expression_end (child a) in record {
            first = e₁;
            second = e₂;
            same = ap (λ p. Binary node p e₁ e₂) (operator_is p q);
            first_at = record { depth = d; next = j; stored = child a };
            second_at = record { depth = d; next = k; stored = subst (λ i. StoredExpression words d i k e₂) (sym end) b };
            on = subst (λ i. node < i) (sym end) (omega (arith, expression_on a));
          }
      by (Stored.negation h a) q = absurd cc

-- ---- Its code.

module _ (words : List ℕ) (registers scope node : ℕ) where
  abbrev Codes : Result ℕ Refused → Type 0
  Codes r = ExpressionJudgedAt words registers scope node r

  pub number_code : KindThere words node num → Codes (Ok 0)
  unfolding expression_code
  number_code is e Γ at s = by at.stored (is e at)
    where
      by : {d j : ℕ} {e : Expression} → StoredExpression words d node j e → expression_kind_of e ≡ num → Ok 0 ≡ code_answer (expression_code Γ e)
      by (Stored.num h) q = refl
      by (Stored.boo h) q = absurd cc
      by (Stored.id l h) q = absurd cc
      by (Stored.deref l h) q = absurd cc
      by (Stored.valref l h) q = absurd cc
      by (Stored.binary h a b) q = absurd cc
      by (Stored.negation h a) q = absurd cc

  pub truth_code : KindThere words node boo → Codes (Ok 1)
  unfolding expression_code
  truth_code is e Γ at s = by at.stored (is e at)
    where
      by : {d j : ℕ} {e : Expression} → StoredExpression words d node j e → expression_kind_of e ≡ boo → Ok 1 ≡ code_answer (expression_code Γ e)
      by (Stored.num h) q = absurd cc
      by (Stored.boo h) q = refl
      by (Stored.id l h) q = absurd cc
      by (Stored.deref l h) q = absurd cc
      by (Stored.valref l h) q = absurd cc
      by (Stored.binary h a b) q = absurd cc
      by (Stored.negation h a) q = absurd cc

  -- A name's, by what its meaning is found to be.
  module _ (rule : Meaning → Judged ℕ) (there : NameThere words node rule) (name : ℕ) (named : name ≡ packed_operand (get_or words node 0)) (bound : Result ℕ Refused) (found : MeaningJudgedAt words registers scope node name bound) where
    of_meaning : (r : Result ℕ Refused) → ((x : ℕ) (Γ : Scope) → bound ≡ meaning_answer (bound_name node (meaning_of x Γ)) → ScopeAt words registers scope Γ → r ≡ code_answer (bound_name node (meaning_of x Γ) >>= rule)) → Codes r
    of_meaning r done e Γ at s =
        let a = there e at in
        rw a.2 (done a.0 Γ (subst (λ y. bound ≡ meaning_answer (bound_name node (meaning_of y Γ))) (named ∙ a.1) (found Γ s)) s)

    pub name_fault : (x : Refused) → bound ≡ Err x → (r : Result ℕ Refused) → r ≡ Err x → Codes r
    name_fault x q r stays = of_meaning r (λ y Γ b s. then_fault meaning_number (λ c. c) (bound_name node (meaning_of y Γ)) rule bound r x b q stays)

    pub name_fine : (n : ℕ) → bound ≡ Ok n → (r : Result ℕ Refused) → ((m : Meaning) → Numbered n m → r ≡ code_answer (rule m)) → Codes r
    name_fine n q r done =
        of_meaning r
        (λ y Γ b s. then_fine meaning_number (λ c. c) (bound_name node (meaning_of y Γ)) rule bound r n b q
        (λ m known is. done m (subst (λ k. Numbered k m) is (scope_numbered words registers scope node y Γ m s known))))

  -- A Not's, by its child's.
  module _ (there : KindThere words node negation) (inner : Result ℕ Refused) (judged : ExpressionJudgedAt words registers scope (node + 1) inner) where
    of_inner : (r : Result ℕ Refused) → ((j : Judged ℕ) → inner ≡ code_answer j → r ≡ code_answer (j >>= truth_only node 1)) → Codes r
    of_inner r done e Γ at s =
        let a = not_there words node there e at in
        subst (λ k. r ≡ code_answer (expression_code Γ k)) (sym a.same) (unfold expression_code in (done (expression_code Γ a.inner) (judged a.inner Γ a.inner_at s)))

    pub not_fault : (x : Refused) → inner ≡ Err x → (r : Result ℕ Refused) → r ≡ Err x → Codes r
    not_fault x q r stays = of_inner r (λ j known. then_fault (λ c. c) (λ c. c) j (truth_only node 1) inner r x known q stays)

    pub not_fine : (c : ℕ) → inner ≡ Ok c → (r : Result ℕ Refused) → r ≡ code_answer (truth_only node 1 c) → Codes r
    not_fine c q r done = of_inner r (λ j known. then_code (λ c. c) j (truth_only node 1) inner r c known q done)

  -- An operator's, by its children's.
  module _ (o : Operator) (there : KindThere words node (binary o)) (first : Result ℕ Refused) (judged₁ : ExpressionJudgedAt words registers scope (node + 1) first) where
    of_first : (r : Result ℕ Refused) →
        ((j : Judged ℕ) (e₂ : Expression) (Γ : Scope) → first ≡ code_answer j → ExpressionAt words (packed_end (get_or words (node + 1) 0)) e₂ → ScopeAt words registers scope Γ →
        r ≡ code_answer (j >>= λ a. expression_code Γ e₂ >>= λ b. operator_code o node a b)) → Codes r
    of_first r done e Γ at s =
        let a = binary_there words node o there e at in
        subst (λ k. r ≡ code_answer (expression_code Γ k)) (sym a.same) (unfold expression_code in (done (expression_code Γ a.first) a.second Γ (judged₁ a.first Γ a.first_at s) a.second_at s))

    pub first_fault : (x : Refused) → first ≡ Err x → (r : Result ℕ Refused) → r ≡ Err x → Codes r
    first_fault x q r stays = of_first r (λ j e₂ Γ known at s. then_fault (λ c. c) (λ c. c) j (λ a. expression_code Γ e₂ >>= λ b. operator_code o node a b) first r x known q stays)

    module _ (a next : ℕ) (got : first ≡ Ok a) (end : next ≡ packed_end (get_or words (node + 1) 0)) (second : Result ℕ Refused) (judged₂ : ExpressionJudgedAt words registers scope next second) where
      of_second : (r : Result ℕ Refused) → ((j : Judged ℕ) → second ≡ code_answer j → r ≡ code_answer (j >>= operator_code o node a)) → Codes r
      of_second r done =
          of_first r
          (λ j e₂ Γ known at s.
          then_code (λ c. c) j (λ a. expression_code Γ e₂ >>= λ b. operator_code o node a b) first r a known got
          (done (expression_code Γ e₂) (judged₂ e₂ Γ (subst (λ i. ExpressionAt words i e₂) (sym end) at) s)))

      pub second_fault : (x : Refused) → second ≡ Err x → (r : Result ℕ Refused) → r ≡ Err x → Codes r
      second_fault x q r stays = of_second r (λ j known. then_fault (λ c. c) (λ c. c) j (operator_code o node a) second r x known q stays)

      pub both_fine : (b : ℕ) → second ≡ Ok b → (r : Result ℕ Refused) → r ≡ code_answer (operator_code o node a b) → Codes r
      both_fine b q r done = of_second r (λ j known. then_code (λ c. c) j (operator_code o node a) second r b known q done)
