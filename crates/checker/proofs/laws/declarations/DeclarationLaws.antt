-- Declarations by the kind of their node: a Bind gives one row, for what its child means; a DSeq gives the rows of its first
-- declaration and then those of its second, judged in the scope with the first's names, unless a name comes in both.
use Prim.Native.Nat.{ℕ, zero, suc, ◌+◌, ◌<◌, ◌≤◌}
use mathlib.Core.Path.{◌≡◌, refl, sym, ap, ◌∙◌, subst}
use mathlib.Core.Bool.{Bool, true, false, cond}
use mathlib.Core.List.{List, [], ◌∷◌, ◌++◌}
use native.Mathlib.Omega.{arith}
use lib.ListN.{length, get_or, set}
use Rattle.rules.specs.paper.Limits.{most_nodes, names}
use Rattle.rules.specs.declared.refusals.Refusal.TheVariants.{Repeated}
use Rattle.rules.specs.paper.Kinds.{kind_number}
use Rattle.rules.specs.declared.kinds.Kind.{Kind}
use Rattle.rules.specs.declared.kinds.Kind.TheVariants.{Declaration as declaration_kind}
use Rattle.rules.specs.declared.kinds.DeclarationKind.{DeclarationKind}
use Rattle.rules.specs.declared.kinds.DeclarationKind.TheVariants.{Bind as bind_kind, DSeq as dseq_kind}
use Rattle.rules.specs.paper.Tree.{Declaration, Bind, DSeq, Bound}
use Rattle.rules.specs.paper.Checker.{Meaning, Scope, Judged, fault, fine, ◌>>=◌, shares_name, declaration_gives, bound_means}
use Rattle.reader.specs.Pack.{packed_kind, packed_end, packed_operand}
use Rattle.reader.specs.Stored.{HasWord, StoredDeclaration, bind, dseq, StoredBound}
use Rattle.reader.specs.NodeKinds.{declaration_kind_of}
use Rattle.reader.proofs.NodeKindLaws.{declaration_number, declaration_is}
use Rattle.reader.proofs.StoredFields.{operand_is}
use Rattle.reader.proofs.StandingLaws.{declaration_on, bound_on, after_node}
use Rattle.typing.specs.Rows.{meaning_numbers, rows_from, rows_end, row_word, meaning_number, MeaningAt, HasRow, Rows, no_rows, one_row, ScopeAt}
use Rattle.typing.specs.Answers.{meaning_answer}
use Rattle.checker.specs.Commands.{WritesRowsFrom, BoundAt, DeclarationAt, NamesFrom, names_from, names_fault, DeclarationJudgedAt, BoundJudgedAt}
use Rattle.std.specs.Prelude.{Result, Ok, Err}
use Rattle.rules.specs.Answers.{refused_at}
use Rattle.rules.specs.declared.refusals.Refused.{Refused}
use Rattle.typing.proofs.laws.codes.AnswerLaws.{two_answers, same_ok}
use Rattle.reader.proofs.StandingLaws as Standing
use Rattle.checker.proofs.laws.commands.KeptLaws.{kept_lower, kept_then, kept_declaration, kept_meaning, kept_rows, kept_scope, kept_row, row_there, rows_append, scope_with}
use Rattle.checker.proofs.laws.declarations.BoundLaws.{bound_low, bound_meaning, meaning_low}

-- ---- Where they stand and end.

pub declaration_end : {words : List ℕ} {node next : ℕ} {d : Declaration} → DeclarationAt words node next d → packed_end (get_or words node 0) ≡ next
declaration_end a = Standing.declaration_end a.stored

pub declaration_low : {words : List ℕ} {node next : ℕ} {d : Declaration} → DeclarationAt words node next d → node < most_nodes
declaration_low a = Standing.declaration_low a.stored

-- ---- Which declaration it is, by its kind.

pub record SequenceAt (words : List ℕ) (node next : ℕ) (d : Declaration) : Type 0 where
  pub first : Declaration
  pub second : Declaration
  pub middle : ℕ
  pub same : d ≡ DSeq node first second
  pub first_at : DeclarationAt words (node + 1) middle first
  pub second_at : DeclarationAt words middle next second
  pub on : node + 1 < middle

pub record BindAt (words : List ℕ) (node next : ℕ) (d : Declaration) : Type 0 where
  pub name : ℕ
  pub child : Bound
  pub same : d ≡ Bind node name child
  pub name_low : name < names
  pub word : HasWord words node 30 name next
  pub child_at : BoundAt words (node + 1) child
  pub on : node + 1 < next

data DeclarationOfKind (words : List ℕ) (node next : ℕ) : DeclarationKind → Declaration → Type 0 where
  bind_of_kind : {d : Declaration} → BindAt words node next d → DeclarationOfKind words node next bind_kind d
  sequence_of_kind : {d : Declaration} → SequenceAt words node next d → DeclarationOfKind words node next dseq_kind d

declaration_of_kind : (words : List ℕ) (node next : ℕ) (d : Declaration) → DeclarationAt words node next d → DeclarationOfKind words node next (declaration_kind_of d) d
declaration_of_kind words node next d at = by at.stored
  where
    by : {t : ℕ} {d : Declaration} → StoredDeclaration words t node next d → DeclarationOfKind words node next (declaration_kind_of d) d
    by {t = zero} x = elim x [ ]
    by {t = suc t} (bind {x = x} {b = b} l w h) =
        bind_of_kind
        record {
          name = x;
          child = b;
          same = refl;
          name_low = l;
          word = w;
          child_at = record { depth = t; next = next; stored = subst (λ i. StoredBound words t i next b) (after_node node) h };
          on = omega (arith, bound_on h);
        }
    by {t = suc t} (dseq {j = j} {d₁ = d₁} {d₂ = d₂} w a b) =
        sequence_of_kind
        record {
          first = d₁;
          second = d₂;
          middle = j;
          same = refl;
          first_at = record { depth = t; stored = subst (λ i. StoredDeclaration words t i j d₁) (after_node node) a };
          second_at = record { depth = t; stored = b };
          on = omega (arith, declaration_on a);
        }

-- Whatever declaration stands there is of this kind.
abbrev pub KindThere : List ℕ → ℕ → DeclarationKind → Type 0
KindThere words node x = (d : Declaration) (next : ℕ) → DeclarationAt words node next d → declaration_kind_of d ≡ x

pub kind_there : (words : List ℕ) (node : ℕ) (k : Kind) (x y : DeclarationKind) → kind_number k ≡ packed_kind (get_or words node 0) → k ≡ declaration_kind x → x ≡ y → KindThere words node y
kind_there words node k x y known is same d next at = let told : k ≡ declaration_kind (declaration_kind_of d) = declaration_is k at.stored known in cc

-- Which declaration it is, by the number of its kind.
pub data SeenDeclaration (words : List ℕ) (node next : ℕ) : (which : ℕ) → Declaration → Type 0 where
  seen_bind : {d : Declaration} → BindAt words node next d → SeenDeclaration words node next 30 d
  seen_sequence : {d : Declaration} → SequenceAt words node next d → SeenDeclaration words node next 31 d

pub seen_declaration : (words : List ℕ) (node which next : ℕ) (d : Declaration) → which ≡ packed_kind (get_or words node 0) → DeclarationAt words node next d → SeenDeclaration words node next which d
seen_declaration words node which next d k at =
    subst (λ w. SeenDeclaration words node next w d) (sym (k ∙ declaration_number at.stored)) (by (declaration_of_kind words node next d at))
  where
    by : {x : DeclarationKind} {d : Declaration} → DeclarationOfKind words node next x d → SeenDeclaration words node next (kind_number (declaration_kind x)) d
    by (bind_of_kind a) = seen_bind a
    by (sequence_of_kind a) = seen_sequence a

-- ---- Names that were given, or a fault.

names_stop : {words words' : List ℕ} {to to' n n' : ℕ} {j : Judged Scope} {r s : Result ℕ Refused} (f : Scope → Judged Scope) (x : Refused) → NamesFrom words to n j r → r ≡ Err x → s ≡ Err x → NamesFrom words' to' n' (j >>= f) s
names_stop f x (names_from {t = t} r l) q stays = absurd (two_answers (Ok t) t x refl q)
names_stop {words' = words'} {to' = to'} {n' = n'} f x (names_fault {r = y} {p = p}) q stays = subst (NamesFrom words' to' n' (fault y p)) (q ∙ sym stays) names_fault

names_given : {words : List ℕ} {to n t : ℕ} {j : Judged Scope} {r : Result ℕ Refused} → NamesFrom words to n j r → r ≡ Ok t → (Δ : Scope) × (j ≡ fine Δ) × Rows words t to Δ × (t ≤ n)
names_given {words} {to} {n} {t} (names_from {t = u} {Δ = Δ} r l) q =
    let same : u ≡ t = same_ok (Ok u) u t refl q in
    (Δ, refl, subst (λ i. Rows words i to Δ) same r, subst (λ i. i ≤ n) same l)
names_given {t = t} (names_fault {r = r} {p = p}) q = absurd (two_answers (refused_at r p) t (record { refusal = r; place = p }) q refl)

names_after : {words : List ℕ} {to n : ℕ} {A : Type 0} {r : Result ℕ Refused} {j : Judged A} {a : A} (f : A → Judged Scope) → j ≡ fine a → NamesFrom words to n (f a) r → NamesFrom words to n (j >>= f) r
names_after {words} {to} {n} {r = r} f q h = subst (λ i. NamesFrom words to n (i >>= f) r) (sym q) h

-- ---- DSeq.

unfoldable joined : (p : ℕ) (Δ₁ Δ₂ : Scope) → Judged Scope
joined p Δ₁ Δ₂ = cond (shares_name Δ₁ Δ₂) (fault Repeated p) (fine (Δ₂ ++ Δ₁))

module _ (words : List ℕ) (registers scope node : ℕ) (is_sequence : KindThere words node dseq_kind) where
  sequence_there : (d : Declaration) (next : ℕ) → DeclarationAt words node next d → SequenceAt words node next d
  sequence_there d next at = by (declaration_of_kind words node next d at) (is_sequence d next at)
    where
      by : {w : DeclarationKind} {d : Declaration} → DeclarationOfKind words node next w d → w ≡ dseq_kind → SequenceAt words node next d
      by (bind_of_kind a) q = absurd cc
      by (sequence_of_kind a) q = a

  pub first_declaration : ((d : Declaration) × (next : ℕ) × DeclarationAt words node next d) → (d : Declaration) × (next : ℕ) × DeclarationAt words (node + 1) next d
  first_declaration d =
      let a = sequence_there d.0 d.1 d.2 in
      (a.first, a.middle, a.first_at)

  pub first_declaration_low : ((d : Declaration) × (next : ℕ) × DeclarationAt words node next d) → node + 1 < most_nodes
  first_declaration_low d = declaration_low (first_declaration d).2

  module _ (words₁ : List ℕ) (r₁ : Result ℕ Refused) (gives₁ : DeclarationJudgedAt words words₁ registers scope (node + 1) r₁) where
    sequence_gives : (words' : List ℕ) (r : Result ℕ Refused) →
        ((d : Declaration) (next : ℕ) (Γ : Scope) (a : SequenceAt words node next d) → ScopeAt words registers scope Γ →
        NamesFrom words' scope next (declaration_gives Γ a.first >>= λ Δ₁. declaration_gives (Δ₁ ++ Γ) a.second >>= joined node Δ₁) r) → DeclarationJudgedAt words words' registers scope node r
    unfolding declaration_gives joined
    sequence_gives words' r done d next Γ at s =
        let a = sequence_there d next at in
        subst (λ e. NamesFrom words' scope next (declaration_gives Γ e) r) (sym a.same) (done d next Γ a s)

    pub sequence_first_fault : (x : Refused) → r₁ ≡ Err x → (r : Result ℕ Refused) → r ≡ Err x → DeclarationJudgedAt words words₁ registers scope node r
    sequence_first_fault x q r stays =
        sequence_gives words₁ r (λ d next Γ a s. names_stop (λ Δ₁. declaration_gives (Δ₁ ++ Γ) a.second >>= joined node Δ₁) x (gives₁ a.first a.middle Γ a.first_at s) q stays)

    module _ (middle after : ℕ) (got₁ : r₁ ≡ Ok middle) (kept₁ : WritesRowsFrom words words₁ (node + 1)) (ended : after ≡ packed_end (get_or words₁ (node + 1) 0)) (low : scope ≤ node) where
      first_given : (d : Declaration) (next : ℕ) (Γ : Scope) (a : SequenceAt words node next d) → ScopeAt words registers scope Γ →
          (Δ : Scope) × (declaration_gives Γ a.first ≡ fine Δ) × Rows words₁ middle scope Δ × (middle ≤ a.middle)
      first_given d next Γ a s = names_given (gives₁ a.first a.middle Γ a.first_at s) got₁

      after_is : (d : Declaration) (next : ℕ) (a : SequenceAt words node next d) → after ≡ a.middle
      after_is d next a = ended ∙ declaration_end (kept_declaration kept₁ a.first_at)

      second_there : (d : Declaration) (next : ℕ) (a : SequenceAt words node next d) → DeclarationAt words₁ after next a.second
      second_there d next a = subst (λ i. DeclarationAt words₁ i next a.second) (sym (after_is d next a)) (kept_declaration kept₁ a.second_at)

      -- the scope of the second declaration: the names of the first on those around
      second_scope_of : (d : Declaration) (next : ℕ) (Γ : Scope) (a : SequenceAt words node next d) (s : ScopeAt words registers scope Γ) → ScopeAt words₁ registers middle ((first_given d next Γ a s).0 ++ Γ)
      second_scope_of d next Γ a s = scope_with (kept_scope kept₁ (omega (arith, low)) s) (first_given d next Γ a s).2

      pub second_scope : ((Γ : Scope) × ScopeAt words registers scope Γ) → ((d : Declaration) × (next : ℕ) × DeclarationAt words node next d) → (Δ : Scope) × ScopeAt words₁ registers middle Δ
      second_scope s d =
          let a = sequence_there d.0 d.1 d.2 in
          ((first_given d.0 d.1 s.0 a s.1).0 ++ s.0, second_scope_of d.0 d.1 s.0 a s.1)

      pub second_declaration : ((d : Declaration) × (next : ℕ) × DeclarationAt words node next d) → (d : Declaration) × (next : ℕ) × DeclarationAt words₁ after next d
      second_declaration d =
          let a = sequence_there d.0 d.1 d.2 in
          (a.second, d.1, second_there d.0 d.1 a)

      pub second_after : ((d : Declaration) × (next : ℕ) × DeclarationAt words node next d) → node + 1 < after
      second_after d =
          let a = sequence_there d.0 d.1 d.2 in
          omega (arith, after_is d.0 d.1 a, a.on)

      pub second_scope_low : ((Γ : Scope) × ScopeAt words registers scope Γ) → ((d : Declaration) × (next : ℕ) × DeclarationAt words node next d) → middle ≤ after
      second_scope_low s d =
          let a = sequence_there d.0 d.1 d.2 in
          omega (arith, after_is d.0 d.1 a, (first_given d.0 d.1 s.0 a s.1).3)

      module _ (words₂ : List ℕ) (r₂ : Result ℕ Refused) (gives₂ : DeclarationJudgedAt words₁ words₂ registers middle after r₂) where
        second_judged : (d : Declaration) (next : ℕ) (Γ : Scope) (a : SequenceAt words node next d) (s : ScopeAt words registers scope Γ) →
            NamesFrom words₂ middle next (declaration_gives ((first_given d next Γ a s).0 ++ Γ) a.second) r₂
        second_judged d next Γ a s = gives₂ a.second next ((first_given d next Γ a s).0 ++ Γ) (second_there d next a) (second_scope_of d next Γ a s)

        pub sequence_second_fault : (x : Refused) → r₂ ≡ Err x → (r : Result ℕ Refused) → r ≡ Err x → DeclarationJudgedAt words words₂ registers scope node r
        sequence_second_fault x q r stays =
            sequence_gives words₂ r
            (λ d next Γ a s.
            let g = first_given d next Γ a s in
            names_after (λ Δ₁. declaration_gives (Δ₁ ++ Γ) a.second >>= joined node Δ₁) g.1 (names_stop (joined node g.0) x (second_judged d next Γ a s) q stays))

        module _ (kept₂ : WritesRowsFrom words₁ words₂ after) where
          pub sequence_kept : ((d : Declaration) × (next : ℕ) × DeclarationAt words node next d) → WritesRowsFrom words words₂ node
          sequence_kept d = kept_then (kept_lower kept₁ (omega arith)) kept₂ (omega (arith, second_after d))

          first_rows_of : (d : Declaration) (next : ℕ) (Γ : Scope) (a : SequenceAt words node next d) (s : ScopeAt words registers scope Γ) → Rows words₂ middle scope (first_given d next Γ a s).0
          first_rows_of d next Γ a s =
              let g = first_given d next Γ a s in
              kept_rows kept₂ g.2 (omega (arith, after_is d next a, g.3))

          pub first_rows : ((Γ : Scope) × ScopeAt words registers scope Γ) → ((d : Declaration) × (next : ℕ) × DeclarationAt words node next d) → (Δ : Scope) × Rows words₂ middle scope Δ
          first_rows s d =
              let a = sequence_there d.0 d.1 d.2 in
              ((first_given d.0 d.1 s.0 a s.1).0, first_rows_of d.0 d.1 s.0 a s.1)

          module _ (newest : ℕ) (got₂ : r₂ ≡ Ok newest) where
            pub second_rows : ((Γ : Scope) × ScopeAt words registers scope Γ) → ((d : Declaration) × (next : ℕ) × DeclarationAt words node next d) → (Δ : Scope) × Rows words₂ newest middle Δ
            second_rows s d =
                let a = sequence_there d.0 d.1 d.2 in
                let h = names_given (second_judged d.0 d.1 s.0 a s.1) got₂ in
                (h.0, h.2)

            module _ (repeated : Bool) (compared : (Δ₁ Δ₂ : Scope) → Rows words₂ middle scope Δ₁ → Rows words₂ newest middle Δ₂ → repeated ≡ shares_name Δ₁ Δ₂) where
              joins : (r : Result ℕ Refused) → ((next : ℕ) (Δ₁ Δ₂ : Scope) → Rows words₂ middle scope Δ₁ → Rows words₂ newest middle Δ₂ → newest ≤ next → NamesFrom words₂ scope next (joined node Δ₁ Δ₂) r) →
                  DeclarationJudgedAt words words₂ registers scope node r
              joins r done =
                  sequence_gives words₂ r
                  (λ d next Γ a s.
                  let g = first_given d next Γ a s in
                  let h = names_given (second_judged d next Γ a s) got₂ in
                  names_after (λ Δ₁. declaration_gives (Δ₁ ++ Γ) a.second >>= joined node Δ₁) g.1
                  (names_after (joined node g.0) h.1 (done next g.0 h.0 (first_rows_of d next Γ a s) h.2 h.3)))

              pub sequence_repeated : repeated ≡ true → DeclarationJudgedAt words words₂ registers scope node (refused_at Repeated node)
              sequence_repeated q =
                  joins (refused_at Repeated node)
                  (λ next Δ₁ Δ₂ a b l.
                  subst (λ j. NamesFrom words₂ scope next j (refused_at Repeated node)) (sym (joined_fault Δ₁ Δ₂ (sym (compared Δ₁ Δ₂ a b) ∙ q))) names_fault)
                where
                  joined_fault : (Δ₁ Δ₂ : Scope) → shares_name Δ₁ Δ₂ ≡ true → joined node Δ₁ Δ₂ ≡ fault Repeated node
                  joined_fault Δ₁ Δ₂ e = unfold joined in rw e

              pub sequence_fine : repeated ≡ false → DeclarationJudgedAt words words₂ registers scope node (Ok newest)
              sequence_fine q =
                  joins (Ok newest)
                  (λ next Δ₁ Δ₂ a b l. subst (λ j. NamesFrom words₂ scope next j (Ok newest)) (sym (joined_fine Δ₁ Δ₂ (sym (compared Δ₁ Δ₂ a b) ∙ q))) (names_from (rows_append b a) l))
                where
                  joined_fine : (Δ₁ Δ₂ : Scope) → shares_name Δ₁ Δ₂ ≡ false → joined node Δ₁ Δ₂ ≡ fine (Δ₂ ++ Δ₁)
                  joined_fine Δ₁ Δ₂ e = unfold joined in rw e

-- ---- Bind.

means_inverse : (r : Result ℕ Refused) (n : ℕ) (j : Judged Meaning) → r ≡ meaning_answer j → r ≡ Ok n → (m : Meaning) × (j ≡ fine m) × (meaning_number m ≡ n)
means_inverse r n (fault y p) g h = absurd (two_answers r n (record { refusal = y; place = p }) h g)
means_inverse r n (fine m) g h = (m, refl, same_ok r (meaning_number m) n g h)

module _ (words : List ℕ) (registers scope node : ℕ) (is_bind : KindThere words node bind_kind) where
  bind_there : (d : Declaration) (next : ℕ) → DeclarationAt words node next d → BindAt words node next d
  bind_there d next at = by (declaration_of_kind words node next d at) (is_bind d next at)
    where
      by : {w : DeclarationKind} {d : Declaration} → DeclarationOfKind words node next w d → w ≡ bind_kind → BindAt words node next d
      by (bind_of_kind a) q = a
      by (sequence_of_kind a) q = absurd cc

  pub bind_child : ((d : Declaration) × (next : ℕ) × DeclarationAt words node next d) → (b : Bound) × BoundAt words (node + 1) b
  bind_child d =
      let a = bind_there d.0 d.1 d.2 in
      (a.child, a.child_at)

  pub bind_low : ((d : Declaration) × (next : ℕ) × DeclarationAt words node next d) → node + 1 < most_nodes
  bind_low d = bound_low (bind_child d).1

  module _ (words₁ : List ℕ) (meant : Result ℕ Refused) (means : BoundJudgedAt words registers scope (node + 1) meant) where
    pub bind_fault : (x : Refused) → meant ≡ Err x → (r : Result ℕ Refused) → r ≡ Err x → DeclarationJudgedAt words words₁ registers scope node r
    unfolding declaration_gives
    bind_fault x q r stays d next Γ at s =
        let a = bind_there d next at in
        subst (λ e. NamesFrom words₁ scope next (declaration_gives Γ e) r) (sym a.same)
        (by (bound_means Γ a.child) (λ m. fine (record { name = a.name; meaning = m } ∷ [])) (means a.child Γ a.child_at s))
      where
        by : (j : Judged Meaning) (f : Meaning → Judged Scope) → meant ≡ meaning_answer j → NamesFrom words₁ scope next (j >>= f) r
        by (fault y z) f g = subst (NamesFrom words₁ scope next (fault y z)) (sym g ∙ q ∙ sym stays) names_fault
        by (fine m) f g = absurd (two_answers meant (meaning_number m) x g q)

    module _ (number : ℕ) (got : meant ≡ Ok number) where
      pub bind_number : ((Γ : Scope) × ScopeAt words registers scope Γ) → ((d : Declaration) × (next : ℕ) × DeclarationAt words node next d) → number < meaning_numbers
      bind_number s d =
          let b = bind_child d in
          let m = means_inverse meant number (bound_means s.0 b.0) (means b.0 s.0 b.1 s.1) got in
          let stands : MeaningAt words node m.0 = bound_meaning s.0 m.0 b.1 s.1 m.1 in
          omega (arith, meaning_low stands, m.2)

      module _ (kept₁ : WritesRowsFrom words words₁ (node + 1)) (name word : ℕ) (named : name ≡ packed_operand (get_or words node 0)) (row : word ≡ row_word name number scope) (long : rows_end ≤ length words₁) (low : scope ≤ node) where
        pub bind_kept : node < most_nodes → WritesRowsFrom words (set words₁ (rows_from + node) word) node
        bind_kept l = kept_then (kept_lower kept₁ (omega arith)) (kept_row words₁ node word l) (omega arith)

        pub bind_fine : DeclarationJudgedAt words (set words₁ (rows_from + node) word) registers scope node (Ok (node + 1))
        unfolding declaration_gives
        bind_fine d next Γ at s =
            let a = bind_there d next at in
            let place = a.word.place_low in
            let m = means_inverse meant number (bound_means Γ a.child) (means a.child Γ a.child_at s) got in
            let stands : MeaningAt words node m.0 = bound_meaning Γ m.0 a.child_at s m.1 in
            let called : name ≡ a.name = named ∙ operand_is a.word (omega arith) in
            let written = set words₁ (rows_from + node) word in
            let has : HasRow written node a.name number scope =
            record {
              word = row_there words₁ node word place long ∙ row ∙ ap (λ x. row_word x number scope) called;
              node_low = place;
              name_low = a.name_low;
              meaning_low = omega (arith, meaning_low stands, m.2);
              link_low = low;
            } in
            subst (λ e. NamesFrom written scope next (declaration_gives Γ e) (Ok (node + 1))) (sym a.same)
            (names_after (λ k. fine (record { name = a.name; meaning = k } ∷ [])) m.1
            (names_from (subst (λ i. Rows written i scope (record { name = a.name; meaning = m.0 } ∷ [])) (after_node node) (one_row has refl m.2 (kept_meaning (bind_kept place) stands) no_rows)) (omega (arith, a.on))))
