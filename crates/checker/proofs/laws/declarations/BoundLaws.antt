-- What a Bind's child means, by the kind of its node: an expression's code, a location's, or a function with its Formals and its block;
-- and that a meaning that was found fits into a row.
use Prim.Native.Nat.{ℕ, zero, suc, ◌+◌, ◌<◌, ◌≤◌}
use mathlib.Core.Path.{◌≡◌, refl, sym, ◌∙◌, subst}
use mathlib.Core.List.{List, [], ◌∷◌, ◌++◌}
use native.Mathlib.Omega.{arith}
use lib.ListN.{length, get_or}
use Rattle.rules.specs.paper.Limits.{codes, most_nodes}
use Rattle.rules.specs.paper.Kinds.{kind_number}
use Rattle.rules.specs.declared.kinds.Kind.{Kind}
use Rattle.rules.specs.declared.kinds.Kind.TheVariants.{Expression as expression_kind, Ref as ref_kind, Abs as abs_kind}
use Rattle.rules.specs.declared.kinds.ExpressionKind.{ExpressionKind}
use Rattle.rules.specs.paper.Tree.{Expression, Formal, Block, Bound, plain, Ref, Abs}
use Rattle.rules.specs.paper.Checker.{Meaning, code, function, Scope, Judged, fault, fine, ◌>>=◌, Fine, expression_code, distinct, with_formals, ref_code, block_ok, bound_means}
use Rattle.reader.specs.Pack.{packed_kind, packed_operand}
use Rattle.reader.specs.Stored.{HasWord, StoredExpression, StoredFormals, no_formals, one_formal, StoredBlock, StoredBound, plain_of, ref, abs}
use Rattle.reader.specs.NodeKinds.{bound_kind_of}
use Rattle.reader.proofs.NodeKindLaws.{bound_is}
use Rattle.reader.proofs.StoredFields.{operand_is}
use Rattle.reader.proofs.StandingLaws.{expression_low, block_low, after_node}
use Rattle.typing.specs.Rows.{function_number, meaning_numbers, meaning_number, MeaningAt, code_at, function_at, Rows, no_rows, ScopeAt}
use Rattle.typing.specs.Answers.{code_answer, fine_answer, meaning_answer, ExpressionAt, ExpressionJudgedAt}
use Rattle.checker.specs.Commands.{formals_give, FormalsJudgedAt, WritesRowsFrom, FormalsAt, BlockAt, BoundAt, NamesFrom, names_from, names_fault, BlockJudgedAt, BoundJudgedAt}
use Rattle.std.specs.Prelude.{Result, Ok, Err}
use Rattle.rules.specs.Answers.{refused_at}
use Rattle.rules.specs.declared.refusals.Refused.{Refused}
use Rattle.typing.proofs.laws.codes.AnswerLaws.{two_answers, same_ok, no_fault, same_fine, then_inverse, then_fault, then_fine, then_code}
use Rattle.checker.proofs.laws.commands.KeptLaws.{kept_lower, kept_then, kept_block, kept_scope, scope_with}
use Rattle.checker.proofs.laws.declarations.FormalLaws.{named}
use Rattle.typing.proofs.laws.expressions.CodeRangeLaws.{code_low}

-- ---- A meaning that was found fits into the row of the node before.

module _ {words : List ℕ} {node : ℕ} where
  meaning_code : (c : ℕ) (m : Meaning) → c < codes → fine (code c) ≡ fine m → MeaningAt words node m
  meaning_code c m l q = subst (MeaningAt words node) (same_fine (code c) m q) (code_at l)

  meaning_ref : (p c : ℕ) (m : Meaning) → ref_code p c ≡ fine m → MeaningAt words node m
  meaning_ref p zero m q = meaning_code 2 m (omega arith) q
  meaning_ref p (suc zero) m q = meaning_code 3 m (omega arith) q
  meaning_ref p (suc (suc zero)) m q = meaning_code 4 m (omega arith) q
  meaning_ref p (suc (suc (suc zero))) m q = meaning_code 5 m (omega arith) q
  meaning_ref p (suc (suc (suc (suc zero)))) m q = meaning_code 6 m (omega arith) q
  meaning_ref p (suc (suc (suc (suc (suc zero))))) m q = meaning_code 7 m (omega arith) q
  meaning_ref p (suc (suc (suc (suc (suc (suc c)))))) m q = absurd (no_fault _ p m q)

  stored_meaning : {registers scope d i j : ℕ} {b : Bound} (Γ : Scope) (m : Meaning) → ScopeAt words registers scope Γ → StoredBound words d i j b → i ≡ suc node → bound_means Γ b ≡ fine m → MeaningAt words node m
  unfolding bound_means
  stored_meaning Γ m s (plain_of {e = e} h) here q =
      let t = then_inverse (expression_code Γ e) (λ c. fine (code c)) m q in
      meaning_code t.0 m (code_low s e t.0 t.1) t.2
  stored_meaning Γ m s (ref {i = i} {e = e} w h) here q =
      let t = then_inverse (expression_code Γ e) (ref_code i) m q in
      meaning_ref i t.0 m t.2
  stored_meaning Γ m s (abs {j = j} {k = k} {fs = fs} {b = b} l w f h) here q =
      let t = then_inverse (distinct [] fs) (λ done. block_ok (with_formals fs Γ) b >>= λ inside. fine (function fs)) m q in
      let u = then_inverse (block_ok (with_formals fs Γ) b) (λ inside. fine (function fs)) m t.2 in
      subst (MeaningAt words node) (same_fine (function fs) m u.2)
      (function_at (subst (λ n. HasWord words n 41 (length fs) k) here w) (subst (λ n. StoredFormals words (suc n) j fs) here f))

  pub bound_meaning : {registers scope : ℕ} {b : Bound} (Γ : Scope) (m : Meaning) → BoundAt words (node + 1) b → ScopeAt words registers scope Γ → bound_means Γ b ≡ fine m → MeaningAt words node m
  bound_meaning Γ m at s q = stored_meaning Γ m s at.stored (sym (after_node node)) q

  pub meaning_low : {m : Meaning} → MeaningAt words node m → meaning_number m < meaning_numbers
  meaning_low (code_at l) = omega (arith, l)
  meaning_low (function_at w f) = omega arith

-- ---- Which child it is.

formals_next : {words : List ℕ} {i j : ℕ} {fs : List Formal} → StoredFormals words i j fs → j ≡ i + length fs
formals_next no_formals = omega arith
formals_next (one_formal p l c h s) = omega (arith, formals_next s)

pub bound_low : {words : List ℕ} {node : ℕ} {b : Bound} → BoundAt words node b → node < most_nodes
bound_low {words} at = by at.stored
  where
    by : {d i j : ℕ} {b : Bound} → StoredBound words d i j b → i < most_nodes
    by (plain_of h) = expression_low h
    by (ref w h) = w.place_low
    by (abs l w f h) = w.place_low

pub record AbsAt (words : List ℕ) (node count : ℕ) (b : Bound) : Type 0 where
  pub formals : List Formal
  pub body : Block
  pub same : b ≡ Abs node formals body
  pub formals_at : FormalsAt words (node + 1) count formals
  pub block_at : BlockAt words (node + 1 + count) body
  pub low : node + 1 + count < most_nodes

data SeenBound (words : List ℕ) (node : ℕ) : Kind → Bound → Type 0 where
  seen_plain : {x : ExpressionKind} {e : Expression} → ExpressionAt words node e → SeenBound words node (expression_kind x) (plain e)
  seen_ref : {e : Expression} → ExpressionAt words (node + 1) e → SeenBound words node ref_kind (Ref node e)
  seen_abs : {b : Bound} → AbsAt words node (packed_operand (get_or words node 0)) b → SeenBound words node abs_kind b

seen_bound : (words : List ℕ) (node : ℕ) (k : Kind) (b : Bound) → kind_number k ≡ packed_kind (get_or words node 0) → BoundAt words node b → SeenBound words node k b
seen_bound words node k b known at = subst (λ w. SeenBound words node w b) (sym (bound_is k at.stored known)) (by at.stored)
  where
    last : (i j n c : ℕ) → j ≡ suc i + n → c ≡ n → j ≡ i + 1 + c
    last i j n c p q = omega arith

    by : {d j : ℕ} {b : Bound} → StoredBound words d node j b → SeenBound words node (bound_kind_of b) b
    by {d = d} {j = j} (plain_of h) = seen_plain (record { depth = d; next = j; stored = h })
    by {d = suc d} {j = j} (ref {e = e} w h) =
        seen_ref (record { depth = d; next = j; stored = subst (λ i. StoredExpression words d i j e) (after_node node) h })
    by {d = suc d} (abs {j = j} {k = k} {fs = fs} {b = b} l w f h) =
        let counted : packed_operand (get_or words node 0) ≡ length fs = operand_is w (omega arith) in
        let here : j ≡ node + 1 + packed_operand (get_or words node 0) = last node j (length fs) (packed_operand (get_or words node 0)) (formals_next f) counted in
        seen_abs
        record {
          formals = fs;
          body = b;
          same = refl;
          formals_at = record { next = j; stored = subst (λ i. StoredFormals words i j fs) (after_node node) f; number = sym counted };
          block_at = record { depth = d; next = k; stored = subst (λ i. StoredBlock words d i k b) here h };
          low = omega (arith, here, block_low h);
        }

-- The Formals in front of a scope.
with_append : (fs : List Formal) (Δ Γ : Scope) → with_formals fs (Δ ++ Γ) ≡ with_formals fs Δ ++ Γ
unfolding with_formals
with_append [] Δ Γ = refl
with_append (f ∷ fs) Δ Γ = with_append fs (named f ∷ Δ) Γ

-- ---- What it means.

module _ (words : List ℕ) (registers scope node : ℕ) (k : Kind) (known : kind_number k ≡ packed_kind (get_or words node 0)) where
  abbrev Means : Result ℕ Refused → Type 0
  Means r = BoundJudgedAt words registers scope node r

  -- A location.
  module _ (is_ref : k ≡ ref_kind) where
    pub ref_child : ((b : Bound) × BoundAt words node b) → (e : Expression) × ExpressionAt words (node + 1) e
    ref_child b = by (seen_bound words node k b.0 known b.1) is_ref
      where
        by : {w : Kind} {b : Bound} → SeenBound words node w b → w ≡ ref_kind → (e : Expression) × ExpressionAt words (node + 1) e
        by (seen_plain a) q = absurd cc
        by (seen_ref {e = e} a) q = (e, a)
        by (seen_abs a) q = absurd cc

    module _ (value : Result ℕ Refused) (valued : ExpressionJudgedAt words registers scope (node + 1) value) where
      ref_means : (r : Result ℕ Refused) → ((e : Expression) (Γ : Scope) → value ≡ code_answer (expression_code Γ e) → r ≡ meaning_answer (expression_code Γ e >>= ref_code node)) → Means r
      unfolding bound_means
      ref_means r done b Γ at s = by (seen_bound words node k b known at) is_ref
        where
          by : {w : Kind} {b : Bound} → SeenBound words node w b → w ≡ ref_kind → r ≡ meaning_answer (bound_means Γ b)
          by (seen_plain a) q = absurd cc
          by (seen_ref {e = e} a) q = done e Γ (valued e Γ a s)
          by (seen_abs a) q = absurd cc

      pub ref_fault : (x : Refused) → value ≡ Err x → (r : Result ℕ Refused) → r ≡ Err x → Means r
      ref_fault x q r stays = ref_means r (λ e Γ v. then_fault (λ c. c) meaning_number (expression_code Γ e) (ref_code node) value r x v q stays)

      pub ref_fine : (c : ℕ) (r : Result ℕ Refused) → value ≡ Ok c → r ≡ meaning_answer (ref_code node c) → Means r
      ref_fine c r q located = ref_means r (λ e Γ v. then_code meaning_number (expression_code Γ e) (ref_code node) value r c v q located)

  -- An expression.
  module _ (not_ref : k ≡ ref_kind → ⊥) (not_abs : k ≡ abs_kind → ⊥) where
    pub plain_there : ((b : Bound) × BoundAt words node b) → (e : Expression) × ExpressionAt words node e
    plain_there b = by (seen_bound words node k b.0 known b.1) not_ref not_abs
      where
        by : {w : Kind} {b : Bound} → SeenBound words node w b → (w ≡ ref_kind → ⊥) → (w ≡ abs_kind → ⊥) → (e : Expression) × ExpressionAt words node e
        by (seen_plain {e = e} a) f g = (e, a)
        by (seen_ref a) f g = absurd (f refl)
        by (seen_abs a) f g = absurd (g refl)

    pub plain_means : (r : Result ℕ Refused) → ExpressionJudgedAt words registers scope node r → Means r
    unfolding bound_means
    plain_means r coded b Γ at s = by (seen_bound words node k b known at) not_ref not_abs
      where
        same_answer : (j : Judged ℕ) → code_answer j ≡ meaning_answer (j >>= λ c. fine (code c))
        same_answer (fault y p) = refl
        same_answer (fine c) = refl

        by : {w : Kind} {b : Bound} → SeenBound words node w b → (w ≡ ref_kind → ⊥) → (w ≡ abs_kind → ⊥) → r ≡ meaning_answer (bound_means Γ b)
        by (seen_plain {e = e} a) f g = coded e Γ a s ∙ same_answer (expression_code Γ e)
        by (seen_ref a) f g = absurd (f refl)
        by (seen_abs a) f g = absurd (g refl)

  -- A function.
  module _ (is_abs : k ≡ abs_kind) (count : ℕ) (counted : count ≡ packed_operand (get_or words node 0)) where
    pub abs_there : (b : Bound) → BoundAt words node b → AbsAt words node count b
    abs_there b at = by (seen_bound words node k b known at) is_abs
      where
        by : {w : Kind} {b : Bound} → SeenBound words node w b → w ≡ abs_kind → AbsAt words node count b
        by (seen_plain a) q = absurd cc
        by (seen_ref a) q = absurd cc
        by {b = b} (seen_abs a) q = subst (λ n. AbsAt words node n b) (sym counted) a

    module _ (words₁ : List ℕ) (parameters : Result ℕ Refused) (listed : FormalsJudgedAt words words₁ scope scope (node + 1) count parameters) where
      formals_judged : (b : Bound) (a : AbsAt words node count b) → NamesFrom words₁ scope (node + 1 + count) (formals_give [] a.formals) parameters
      formals_judged b a = listed a.formals [] a.formals_at no_rows

      pub abs_formals_fault : (x : Refused) → parameters ≡ Err x → (r : Result ℕ Refused) → r ≡ Err x → Means r
      unfolding bound_means
      abs_formals_fault x q answered stays b Γ at s =
          let a = abs_there b at in
          subst (λ d. answered ≡ meaning_answer (bound_means Γ d)) (sym a.same)
          (by (distinct [] a.formals) (with_formals a.formals []) (λ done. block_ok (with_formals a.formals Γ) a.body >>= λ inside. fine (function a.formals)) (formals_judged b a) q)
        where
          by : {n : ℕ} (j : Judged Fine) {r : Result ℕ Refused} (Δ : Scope) (rest : Fine → Judged Meaning) → NamesFrom words₁ scope n (j >>= λ done. fine Δ) r → r ≡ Err x → answered ≡ meaning_answer (j >>= rest)
          by (fault y z) Δ rest names_fault e = stays ∙ sym e
          by (fine d) Δ rest (names_from {t = t} r l) e = absurd (two_answers (Ok t) t x refl e)

      module _ (inner : ℕ) (got : parameters ≡ Ok inner) where
        formals_fine : (b : Bound) (a : AbsAt words node count b) → (done : Fine) × (distinct [] a.formals ≡ fine done) × Rows words₁ inner scope (with_formals a.formals []) × (inner ≤ node + 1 + count)
        formals_fine b a = by (distinct [] a.formals) (with_formals a.formals []) (formals_judged b a) got
          where
            by : {n : ℕ} (j : Judged Fine) {r : Result ℕ Refused} (Δ : Scope) → NamesFrom words₁ scope n (j >>= λ done. fine Δ) r → r ≡ Ok inner → (done : Fine) × (j ≡ fine done) × Rows words₁ inner scope Δ × (inner ≤ n)
            by (fault y z) Δ (names_fault {r = r} {p = p}) e = absurd (two_answers (refused_at r p) inner (record { refusal = r; place = p }) e refl)
            by {n = n} (fine d) Δ (names_from {t = t} r l) e =
                let same : t ≡ inner = same_ok (Ok t) t inner refl e in
                (d, refl, subst (λ i. Rows words₁ i scope Δ) same r, subst (λ i. i ≤ n) same l)

        pub inner_low : ((b : Bound) × BoundAt words node b) → inner ≤ node + 1 + count
        inner_low b = (formals_fine b.0 (abs_there b.0 b.1)).3

        module _ (kept₁ : WritesRowsFrom words words₁ (node + 1)) (low : scope ≤ node) where
          inner_scope_of : (b : Bound) (a : AbsAt words node count b) (Γ : Scope) → ScopeAt words registers scope Γ → ScopeAt words₁ registers inner (with_formals a.formals Γ)
          inner_scope_of b a Γ s =
              subst (ScopeAt words₁ registers inner) (sym (with_append a.formals [] Γ)) (scope_with (kept_scope kept₁ (omega (arith, low)) s) (formals_fine b a).2)

          pub inner_scope : ((Γ : Scope) × ScopeAt words registers scope Γ) → ((b : Bound) × BoundAt words node b) → (Γ : Scope) × ScopeAt words₁ registers inner Γ
          inner_scope s b =
              let a = abs_there b.0 b.1 in
              (with_formals a.formals s.0, inner_scope_of b.0 a s.0 s.1)

          pub inner_block : ((b : Bound) × BoundAt words node b) → (b : Block) × BlockAt words₁ (node + 1 + count) b
          inner_block b =
              let a = abs_there b.0 b.1 in
              (a.body, kept_block kept₁ a.block_at)

          module _ (inside : Result (Unit {0}) Refused) (judged : BlockJudgedAt words₁ registers inner (node + 1 + count) inside) where
            abs_means : (r : Result ℕ Refused) → ((fs : List Formal) (j : Judged Fine) → inside ≡ fine_answer j → r ≡ meaning_answer (j >>= λ done. fine (function fs))) → Means r
            unfolding bound_means
            abs_means r done b Γ at s =
                let a = abs_there b at in
                let rest : Fine → Judged Meaning = λ done. block_ok (with_formals a.formals Γ) a.body >>= λ inside. fine (function a.formals) in
                subst (λ d. r ≡ meaning_answer (bound_means Γ d)) (sym a.same)
                (subst (λ j. r ≡ meaning_answer (j >>= rest)) (sym (formals_fine b a).1)
                (done a.formals (block_ok (with_formals a.formals Γ) a.body) (judged a.body (with_formals a.formals Γ) (kept_block kept₁ a.block_at) (inner_scope_of b a Γ s))))

            pub abs_body_fault : (x : Refused) → inside ≡ Err x → (r : Result ℕ Refused) → r ≡ Err x → Means r
            abs_body_fault x q r stays = abs_means r (λ fs j e. then_fault (λ done. tt) meaning_number j (λ done. fine (function fs)) inside r x e q stays)

            pub abs_body_fine : (c : Unit {0}) → inside ≡ Ok c → Means (Ok function_number)
            abs_body_fine c q = abs_means (Ok function_number) (λ fs j e. then_fine (λ done. tt) meaning_number j (λ done. fine (function fs)) inside (Ok function_number) c e q (λ a k z. refl))

            pub abs_kept : (words₂ : List ℕ) → WritesRowsFrom words₁ words₂ (node + 1 + count) → WritesRowsFrom words words₂ node
            abs_kept words₂ kept₂ = kept_then (kept_lower kept₁ (omega arith)) kept₂ (omega arith)
