-- A Call's actuals one after the other: their codes, packed.
use Prim.Native.Nat.{ℕ, ◌+◌, ◌*◌, ◌-◌, ◌<◌}
use mathlib.Core.Path.{◌≡◌, refl, sym, ◌∙◌, subst}
use mathlib.Core.List.{List, [], ◌∷◌}
use native.Mathlib.Omega.{arith}
use lib.ListN.{length, get_or}
use Rattle.rules.specs.paper.Limits.{most_nodes, codes}
use Rattle.rules.specs.paper.Tree.{Expression}
use Rattle.rules.specs.paper.Checker.{Scope, Judged, fault, fine, ◌>>=◌, expression_code, expression_codes}
use Rattle.reader.specs.Pack.{packed_end}
use Rattle.reader.specs.Stored.{StoredActuals, no_actuals, one_actual}
use Rattle.reader.proofs.StandingLaws.{expression_low, expression_end}
use Rattle.typing.specs.Rows.{ScopeAt}
use Rattle.typing.specs.Answers.{ExpressionAt, ExpressionJudgedAt}
use Rattle.checker.specs.Packing.{packed_onto, AllCodes}
use Rattle.checker.specs.Commands.{ActualsAt, ActualsJudgedAt}
use Rattle.std.specs.Prelude.{Result, Ok, Err}
use Rattle.rules.specs.Answers.{answer}
use Rattle.rules.specs.declared.refusals.Refused.{Refused}
use Rattle.typing.proofs.laws.codes.AnswerLaws.{same_fine, then_inverse, then_fault, then_code}
use Rattle.checker.proofs.laws.commands.PackingLaws.{PackedSoFar, one_packed}
use Rattle.typing.proofs.laws.expressions.CodeRangeLaws.{code_low, judged_low}

-- ---- The first of some.

pub record FirstActual (words : List ℕ) (node count : ℕ) (es : List Expression) : Type 0 where
  pub first : Expression
  pub rest : List Expression
  pub split : es ≡ first ∷ rest
  pub stands : ExpressionAt words node first
  pub others : ActualsAt words (packed_end (get_or words node 0)) (count - 1) rest

pub first_actual : (words : List ℕ) (node count : ℕ) (es : List Expression) → (count ≡ 0 → ⊥) → ActualsAt words node count es → FirstActual words node count es
first_actual words node count es f a = by a.stored a.number
  where
    by : {d j : ℕ} {es : List Expression} → StoredActuals words d node j es → length es ≡ count → FirstActual words node count es
    by no_actuals q = absurd (f (sym q))
    by {d = d} (one_actual {j = j} {k = k} {e = e} {es = es} h g) q =
        record {
          first = e;
          rest = es;
          split = refl;
          stands = record { depth = d; next = j; stored = h };
          others = record { depth = d; next = k; stored = subst (λ i. StoredActuals words d i k es) (sym (expression_end h)) g; number = omega (arith, q) };
        }

pub first_actual_low : (words : List ℕ) (node count : ℕ) → (count ≡ 0 → ⊥) → ((es : List Expression) × ActualsAt words node count es) → node < most_nodes
first_actual_low words node count f a = expression_low (first_actual words node count a.0 f a.1).stands.stored

-- ---- All the actuals, onto codes that are packed already.

abbrev ActualsOnto : ℕ → List ℕ → (registers scope node count : ℕ) → Result ℕ Refused → Type 0
ActualsOnto n words registers scope node count r =
    (es : List Expression) (Γ : Scope) → ActualsAt words node count es → ScopeAt words registers scope Γ → r ≡ answer (packed_onto n) (expression_codes Γ es)

pub actuals_none : (n : ℕ) (words : List ℕ) (registers scope node count : ℕ) → count ≡ 0 → ActualsOnto n words registers scope node count (Ok n)
unfolding expression_codes
actuals_none n words registers scope node count q es Γ a s = by es (a.number ∙ q)
  where
    by : (es : List Expression) → length es ≡ 0 → Ok n ≡ answer (packed_onto n) (expression_codes Γ es)
    by [] q = refl
    by (e ∷ es) q = absurd (omega (arith, q))

module _ (n : ℕ) (words : List ℕ) (registers scope node count : ℕ) (some_left : count ≡ 0 → ⊥) (one : Result ℕ Refused) (judged : ExpressionJudgedAt words registers scope node one) where
  pub actual_fault : (x : Refused) → one ≡ Err x → (r : Result ℕ Refused) → r ≡ Err x → ActualsOnto n words registers scope node count r
  actual_fault x q r stays es Γ a s =
      let f = first_actual words node count es some_left a in
      subst (λ l. r ≡ answer (packed_onto n) (expression_codes Γ l)) (sym f.split)
      (unfold expression_codes in
      (then_fault (λ c. c) (packed_onto n) (expression_code Γ f.first) (λ c. expression_codes Γ f.rest >>= λ cs. fine (c ∷ cs)) one r x (judged f.first Γ f.stands s) q stays))

  actual_rest : (c next : ℕ) (r : Result ℕ Refused) → one ≡ Ok c → next ≡ packed_end (get_or words node 0) → ActualsOnto (n * codes + c) words registers scope next (count - 1) r →
      ActualsOnto n words registers scope node count r
  actual_rest c next r q end later es Γ a s =
      let f = first_actual words node count es some_left a in
      subst (λ l. r ≡ answer (packed_onto n) (expression_codes Γ l)) (sym f.split)
      (unfold expression_codes in
      (then_code (packed_onto n) (expression_code Γ f.first) (λ c. expression_codes Γ f.rest >>= λ cs. fine (c ∷ cs)) one r c (judged f.first Γ f.stands s) q
      (later f.rest Γ (subst (λ i. ActualsAt words i (count - 1) f.rest) (sym end) f.others) s ∙ with_one (expression_codes Γ f.rest))))
    where
      with_one : (j : Judged (List ℕ)) → answer (packed_onto (n * codes + c)) j ≡ answer (packed_onto n) (j >>= λ cs. fine (c ∷ cs))
      with_one (fault r p) = refl
      with_one (fine cs) = refl

-- Some actuals have codes: the others stand here, and what they come to onto these codes is what all of them come to.
pub record CodedSoFar (words : List ℕ) (registers scope node count at left so_far : ℕ) : Type 0 where
  pub packed : PackedSoFar count left so_far
  pub others : (es : List Expression) × ActualsAt words at left es
  pub whole : (r : Result ℕ Refused) → ActualsOnto so_far words registers scope at left r → ActualsJudgedAt words registers scope node count r

pub one_coded : (words : List ℕ) (registers scope node count at left so_far : ℕ) → CodedSoFar words registers scope node count at left so_far → (left ≡ 0 → ⊥) → (one : Result ℕ Refused) →
    ExpressionJudgedAt words registers scope at one → (c next : ℕ) → one ≡ Ok c → c < codes → next ≡ packed_end (get_or words at 0) → (less : ℕ) → left - 1 ≡ less →
    CodedSoFar words registers scope node count next less (so_far * codes + c)
one_coded words registers scope node count at left so_far known f one judged c next q low end less fewer =
    let first = first_actual words at left known.others.0 f known.others.1 in
    subst (λ n. CodedSoFar words registers scope node count next n (so_far * codes + c)) fewer
    record {
      packed = one_packed count left so_far c known.packed f low;
      others = (first.rest, subst (λ i. ActualsAt words i (left - 1) first.rest) (sym end) first.others);
      whole = λ r o. known.whole r (actual_rest so_far words registers scope at left f one judged c next r q end o);
    }

-- The code of the next actual.
pub actual_code_low : (words : List ℕ) (registers scope at left : ℕ) → ((Γ : Scope) × ScopeAt words registers scope Γ) → ((es : List Expression) × ActualsAt words at left es) → (left ≡ 0 → ⊥) → (one : Result ℕ Refused) →
    ExpressionJudgedAt words registers scope at one → (c : ℕ) → one ≡ Ok c → c < codes
actual_code_low words registers scope at left s a f one judged c q =
    let first = first_actual words at left a.0 f a.1 in
    judged_low words registers scope at s (first.first, first.stands) one judged c q

-- ---- Codes that are all there.

-- Codes that are all there are the first one and the others.
pub record CodesParted (Γ : Scope) (e : Expression) (es : List Expression) (cs : List ℕ) : Type 0 where
  pub head : ℕ
  pub tail : List ℕ
  pub whole : cs ≡ head ∷ tail
  pub first_is : expression_code Γ e ≡ fine head
  pub rest_are : expression_codes Γ es ≡ fine tail

pub codes_parted : (Γ : Scope) (e : Expression) (es : List Expression) (cs : List ℕ) → expression_codes Γ (e ∷ es) ≡ fine cs → CodesParted Γ e es cs
unfolding expression_codes
codes_parted Γ e es cs q =
    let first = then_inverse (expression_code Γ e) (λ c. expression_codes Γ es >>= λ ds. fine (c ∷ ds)) cs q in
    let rest = then_inverse (expression_codes Γ es) (λ ds. fine (first.0 ∷ ds)) cs first.2 in
    record { head = first.0; tail = rest.0; whole = sym (same_fine (first.0 ∷ rest.0) cs rest.2); first_is = first.1; rest_are = rest.1 }

pub all_low : {words : List ℕ} {registers scope : ℕ} {Γ : Scope} → ScopeAt words registers scope Γ → (es : List Expression) (cs : List ℕ) → expression_codes Γ es ≡ fine cs → AllCodes cs
all_low {Γ = Γ} s [] cs q = subst AllCodes (same_fine [] cs (none_left q)) tt
  where
    none_left : expression_codes Γ [] ≡ fine cs → ◌≡◌ {A = Judged (List ℕ)} (fine []) (fine cs)
    none_left p = unfold expression_codes in p
all_low {Γ = Γ} s (e ∷ es) cs q =
    let parted = codes_parted Γ e es cs q in
    subst AllCodes (sym parted.whole) (code_low s e parted.head parted.first_is, all_low s es parted.tail parted.rest_are)
