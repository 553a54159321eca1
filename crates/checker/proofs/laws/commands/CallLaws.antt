-- Call: the actuals, the name, that it is a function, how many Formals it has, and their codes.
use Prim.Native.Nat.{ℕ, suc, ◌+◌, ◌/◌, ◌%◌, ◌<◌}
use mathlib.Core.Path.{◌≡◌, refl, sym, ap, ◌∙◌, subst}
use mathlib.Core.List.{List, [], ◌∷◌}
use mathlib.Core.Option.{Option, some}
use native.Mathlib.Omega.{arith}
use lib.ListN.{length, get_or}
use Rattle.rules.specs.paper.Limits.{most_nodes, names}
use Rattle.rules.specs.declared.refusals.Refusal.TheVariants.{Unbound, BadCall}
use Rattle.rules.specs.paper.Tree.{Expression, Formal}
use Rattle.rules.specs.paper.Checker.{Meaning, function, Scope, Judged, fault, fine, ◌>>=◌, Fine, ok, meaning_of, bound_name, called, same_count, same_codes, expression_codes, command_ok}
use Rattle.reader.specs.Pack.{packed_operand}
use Rattle.reader.specs.Stored.{StoredFormals}
use Rattle.reader.proofs.StoredFields.{operand_is}
use Rattle.reader.proofs.StandingLaws.{after_node, operand_name, operand_number}
use Rattle.typing.specs.Rows.{function_number, meaning_number, MeaningAt, code_at, function_at, ScopeAt}
use Rattle.typing.specs.Answers.{FoundAs, found_nothing, found_binding, found_register, fine_answer}
use Rattle.checker.specs.Packing.{packed_codes}
use Rattle.checker.specs.Commands.{ActualsAt, FormalsAt, CallAt, CallJudgedAt, ActualsJudgedAt, AgreementJudgedAt}
use Rattle.typing.specs.declared.scope.Found.{Found}
use Rattle.std.specs.Prelude.{Some, None, Result, Ok, Err}
use Rattle.std.specs.Prelude as Std
use Rattle.rules.specs.Answers.{refused_at, answer}
use Rattle.rules.specs.declared.refusals.Refused.{Refused}
use Rattle.checker.proofs.laws.commands.ActualLaws.{codes_parted, all_low}
use Rattle.typing.proofs.laws.codes.AnswerLaws.{same_fine, then_fault, then_fine}

-- ---- The node's word: the name and the count.

pub call_name : {words : List ℕ} {node x : ℕ} {es : List Expression} (word : ℕ) → word ≡ packed_operand (get_or words node 0) → CallAt words node x es → word % names ≡ x
call_name {x = x} word q a = ap (λ w. w % names) (q ∙ operand_is a.word (omega arith)) ∙ operand_name x a.count a.name_low

pub call_actuals : {words : List ℕ} {node x : ℕ} {es : List Expression} (word : ℕ) → word ≡ packed_operand (get_or words node 0) → CallAt words node x es → ActualsAt words (node + 1) (word / names) es
call_actuals {words} {node} {x} {es} word q a =
    subst (λ n. ActualsAt words (node + 1) n es) (sym (ap (λ w. w / names) (q ∙ operand_is a.word (omega arith)) ∙ operand_number x a.count a.name_low)) a.actuals

-- ---- Counts.

count_same : (p : ℕ) (fs : List Formal) (cs : List ℕ) → length fs ≡ length cs → same_count p fs cs ≡ fine ok
count_same p [] [] q = refl
count_same p [] (c ∷ cs) q = absurd (omega (arith, q))
count_same p (f ∷ fs) [] q = absurd (omega (arith, q))
count_same p (f ∷ fs) (c ∷ cs) q = count_same p fs cs (omega (arith, q))

count_apart : (p : ℕ) (fs : List Formal) (cs : List ℕ) → (length fs ≡ length cs → ⊥) → same_count p fs cs ≡ fault BadCall p
count_apart p [] [] f = absurd (f refl)
count_apart p [] (c ∷ cs) f = refl
count_apart p (g ∷ fs) [] f = refl
count_apart p (g ∷ fs) (c ∷ cs) f = count_apart p fs cs (λ q. f (omega (arith, q)))

codes_length : (Γ : Scope) (es : List Expression) (cs : List ℕ) → expression_codes Γ es ≡ fine cs → length cs ≡ length es
codes_length Γ [] cs q = ap length (sym (same_fine [] cs (none_left q)))
  where
    none_left : expression_codes Γ [] ≡ fine cs → ◌≡◌ {A = Judged (List ℕ)} (fine []) (fine cs)
    none_left p = unfold expression_codes in p
codes_length Γ (e ∷ es) cs q = let parted = codes_parted Γ e es cs q in ap length parted.whole ∙ ap suc (codes_length Γ es parted.tail parted.rest_are)

-- ---- What was found.

unfoldable after_function : (p : ℕ) → List ℕ → List Formal → Judged Fine
after_function p cs fs = same_count p fs cs >>= λ done. same_codes p fs cs

unfoldable after_actuals : (p x : ℕ) → Scope → List ℕ → Judged Fine
after_actuals p x Γ cs = bound_name p (meaning_of x Γ) >>= λ m. called p m >>= after_function p cs

some_is : {a b : Found} → Some a ≡ Some b → a ≡ b
some_is q = cc

-- A function that was found: its Formals stand after its node.
pub record FunctionAt (words : List ℕ) (pointer : ℕ) (o : Option Meaning) : Type 0 where
  pub formals : List Formal
  pub meant : o ≡ some (function formals)
  pub counted : packed_operand (get_or words pointer 0) ≡ length formals
  pub low : pointer < most_nodes
  pub end : ℕ
  pub stored : StoredFormals words (pointer + 1) end formals

pub function_found : {words : List ℕ} {o : Option Meaning} {f : Std.Option Found} (there : Found) → FoundAs words o f → f ≡ Some there → there.meaning ≡ function_number → FunctionAt words there.pointer o
function_found {words} {o} {f} there found q e = by found q
  where
    at : {k : ℕ} {m : Meaning} → MeaningAt words k m → meaning_number m ≡ function_number → FunctionAt words (suc k) (some m)
    at (code_at l) q = absurd (omega (arith, l, q))
    at {k = k} (function_at {fs = fs} {j = j} h g) q =
        record { formals = fs; meant = refl; counted = operand_is h (omega arith); low = h.place_low; end = j; stored = subst (λ i. StoredFormals words i j fs) (after_node (suc k)) g }

    by : {o : Option Meaning} {f : Std.Option Found} → FoundAs words o f → f ≡ Some there → FunctionAt words there.pointer o
    by found_nothing q = absurd cc
    by (found_binding {m = m} {k = k} h) q =
        let is : record { meaning = meaning_number m; pointer = suc k } ≡ there = some_is q in
        subst (λ p. FunctionAt words p (some m)) (ap (λ f. f.pointer) is) (at h (ap (λ f. f.meaning) is ∙ e))
    by found_register q = absurd (omega (arith, ap (λ f. f.meaning) (some_is q), e))

-- ---- Each answer.

module _ (words : List ℕ) (registers scope node word : ℕ) (known : word ≡ packed_operand (get_or words node 0)) (given : Result ℕ Refused) (judged : ActualsJudgedAt words registers scope (node + 1) (word / names) given) where
  codes_of : (x : ℕ) (es : List Expression) (Γ : Scope) → CallAt words node x es → ScopeAt words registers scope Γ → given ≡ answer packed_codes (expression_codes Γ es)
  codes_of x es Γ a s = judged es Γ (call_actuals word known a) s

  pub call_actual_fault : (y : Refused) → given ≡ Err y → (r : Result (Unit {0}) Refused) → r ≡ Err y → CallJudgedAt words registers scope node r
  unfolding command_ok after_actuals after_function
  call_actual_fault y q r stays x es Γ a s = then_fault packed_codes (λ done. tt) (expression_codes Γ es) (after_actuals node x Γ) given r y (codes_of x es Γ a s) q stays

  module _ (z : ℕ) (found : Std.Option Found) (got : given ≡ Ok z) (looked : (Γ : Scope) → ScopeAt words registers scope Γ → FoundAs words (meaning_of (word % names) Γ) found) where
    after : (r : Result (Unit {0}) Refused) → ((x : ℕ) (es : List Expression) (cs : List ℕ) (Γ : Scope) → FoundAs words (meaning_of x Γ) found → ScopeAt words registers scope Γ → ActualsAt words (node + 1) (word / names) es →
        expression_codes Γ es ≡ fine cs → packed_codes cs ≡ z → r ≡ fine_answer (after_actuals node x Γ cs)) → CallJudgedAt words registers scope node r
    unfolding command_ok after_actuals after_function
    after r done x es Γ a s =
        then_fine packed_codes (λ done. tt) (expression_codes Γ es) (after_actuals node x Γ) given r z (codes_of x es Γ a s) got
        (λ cs k q. done x es cs Γ (subst (λ y. FoundAs words (meaning_of y Γ) found) (call_name word known a) (looked Γ s)) s (call_actuals word known a) k q)

    pub call_unbound : found ≡ None → CallJudgedAt words registers scope node (refused_at Unbound node)
    call_unbound q = after (refused_at Unbound node) (λ x es cs Γ f s a k packed. unfold after_actuals in (by cs (meaning_of x Γ) found f q))
      where
        by : (cs : List ℕ) (o : Option Meaning) (g : Std.Option Found) → FoundAs words o g → g ≡ None → refused_at Unbound node ≡ fine_answer (bound_name node o >>= λ m. called node m >>= after_function node cs)
        by cs o g found_nothing q = refl
        by cs o g (found_binding h) q = absurd cc
        by cs o g found_register q = absurd cc

    module _ (there : Found) (bound : found ≡ Some there) where
      pub call_no_function : (there.meaning ≡ function_number → ⊥) → CallJudgedAt words registers scope node (refused_at BadCall node)
      unfolding after_actuals
      call_no_function n = after (refused_at BadCall node) (λ x es cs Γ f s a k packed. by cs (meaning_of x Γ) found f bound)
        where
          at : {k : ℕ} {m : Meaning} (cs : List ℕ) → MeaningAt words k m → (meaning_number m ≡ function_number → ⊥) → refused_at BadCall node ≡ fine_answer (called node m >>= after_function node cs)
          at cs (code_at l) n = refl
          at cs (function_at h g) n = absurd (n refl)

          by : (cs : List ℕ) (o : Option Meaning) (g : Std.Option Found) → FoundAs words o g → g ≡ Some there → refused_at BadCall node ≡ fine_answer (bound_name node o >>= λ m. called node m >>= after_function node cs)
          by cs o g found_nothing q = absurd cc
          by cs o g (found_binding h) q = at cs h (λ e. n (sym (ap (λ f. f.meaning) (some_is q)) ∙ e))
          by cs o g found_register q = refl

      module _ (eight : there.meaning ≡ function_number) (parameters : ℕ) (counted : parameters ≡ packed_operand (get_or words there.pointer 0)) where
        next : (r : Result (Unit {0}) Refused) → ((es : List Expression) (cs : List ℕ) (fs : List Formal) (Γ : Scope) (end : ℕ) → parameters ≡ length fs → StoredFormals words (there.pointer + 1) end fs →
            ScopeAt words registers scope Γ → ActualsAt words (node + 1) (word / names) es → expression_codes Γ es ≡ fine cs → packed_codes cs ≡ z → r ≡ fine_answer (after_function node cs fs)) → CallJudgedAt words registers scope node r
        next r done =
            after r
            (λ x es cs Γ f s a k packed. unfold after_actuals in
            (let g = function_found there f bound eight in
            subst (λ o. r ≡ fine_answer (bound_name node o >>= λ m. called node m >>= after_function node cs)) (sym g.meant)
            (done es cs g.formals Γ g.end (counted ∙ g.counted) g.stored s a k packed)))

        pub call_count_apart : (parameters ≡ word / names → ⊥) → CallJudgedAt words registers scope node (refused_at BadCall node)
        call_count_apart apart =
            next (refused_at BadCall node)
            (λ es cs fs Γ e n st s a k packed. unfold after_function in
            (subst (λ j. refused_at BadCall node ≡ fine_answer (j >>= λ done. same_codes node fs cs))
            (sym (count_apart node fs cs (λ q. apart (n ∙ q ∙ codes_length Γ es cs k ∙ a.number)))) refl))

        pub call_agree : (r : Result (Unit {0}) Refused) → parameters ≡ word / names → AgreementJudgedAt words node z (there.pointer + 1) (word / names) r → CallJudgedAt words registers scope node r
        call_agree r same agrees =
            next r
            (λ es cs fs Γ e n st s a k packed. unfold after_function in
            (subst (λ j. r ≡ fine_answer (j >>= λ done. same_codes node fs cs))
            (sym (count_same node fs cs (sym n ∙ same ∙ sym a.number ∙ sym (codes_length Γ es cs k))))
            (agrees fs cs (record { next = e; stored = st; number = sym n ∙ same }) (codes_length Γ es cs k ∙ a.number) (all_low s es cs k) (sym packed))))

-- The Formals of the function that was found, for what compares the codes.
pub found_formals : (words : List ℕ) (pointer parameters count : ℕ) {o : Option Meaning} → FunctionAt words pointer o → parameters ≡ packed_operand (get_or words pointer 0) → parameters ≡ count →
    (fs : List Formal) × FormalsAt words (pointer + 1) count fs
found_formals words pointer parameters count f counted same = (f.formals, record { next = f.end; stored = f.stored; number = sym f.counted ∙ sym counted ∙ same })
