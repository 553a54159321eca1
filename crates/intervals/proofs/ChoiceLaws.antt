-- Truths by which are possible: `&` of their words is the word of both and `|` that of some, what a value that holds truths says of its words, and that
-- And, Or and Eq of truths give just the truths that some choice of the two gives.
use Rattle.std.specs.Prelude.{ℕ, ◌≡◌, Bool, true, false, ◌&&◌, ◌||◌, ◌==◌, bit_and, bit_or, refl}
use Rattle.std.proofs.Common.{◌∙◌, eqb-true}
use Rattle.rules.specs.declared.kinds.Logic.TheVariants.{And, Or}
use Rattle.rules.specs.paper.Integers.{combine, equal_truths}
use Rattle.rules.specs.paper.Carried.{truths, some_choice, carry_choice}
use Rattle.intervals.specs.declared.values.Value.{Value}
use Rattle.intervals.specs.Values.{flag, truths_sort, truths_value, HoldsValue, holds_truths}

pub some_flag : (p q : Bool) → bit_or (flag p) (flag q) ≡ flag (p || q)
some_flag true true = refl
some_flag true false = refl
some_flag false true = refl
some_flag false false = refl

pub value_holds : {r : Value} (f t : Bool) → r ≡ truths_value f t → HoldsValue r (truths f t)
value_holds f t e = rw e (holds_truths refl refl refl)

-- ---- The words of a value that holds truths.

module _ {r : Value} {f t : Bool} where
  pub false_word : HoldsValue r (truths f t) → r.low ≡ flag f
  false_word (holds_truths s l h) = l

  pub true_word : HoldsValue r (truths f t) → r.high ≡ flag t
  true_word (holds_truths s l h) = h

-- ---- Two words of four truths that agree on all sixteen are one.

abbrev Word : Type 0
Word = (f t g u : Bool) → ℕ

unfoldable every : (Bool → Bool) → Bool
every p = p true && p false

unfoldable agree : Word → Word → Bool
agree h k = every (λ f. every (λ t. every (λ g. every (λ u. h f t g u == k f t g u))))

every_holds : (p : Bool → Bool) → every p ≡ true → (b : Bool) → p b ≡ true
unfolding every
every_holds p e = by_case (p true) (p false) refl refl e
  where
    by_case : (y n : Bool) → p true ≡ y → p false ≡ n → (y && n) ≡ true → (b : Bool) → p b ≡ true
    by_case true n at_true at_false e true = at_true
    by_case true n at_true at_false e false = at_false ∙ e
    by_case false n at_true at_false e b = cc

agreed : (h k : Word) → agree h k ≡ true → (f t g u : Bool) → h f t g u ≡ k f t g u
unfolding agree
agreed h k e f t g u = eqb-true (h f t g u) (k f t g u) (every_holds _ (every_holds _ (every_holds _ (every_holds _ e f) t) g) u)

-- ---- And, Or and Eq of truths.

abbrev chosen : (Bool → Bool → Bool) → Bool → Word
chosen give w f t g u = flag (some_choice give f t g u w)

module _ (first second : Value) (f t g u : Bool) (h : HoldsValue first (truths f t)) (k : HoldsValue second (truths g u)) where
  pub and_holds :
      HoldsValue (record {
        sort = truths_sort;
        low = bit_or (bit_and first.low (bit_or second.low second.high)) (bit_and first.high second.low);
        high = bit_and first.high second.high;
      })
      (carry_choice (combine And) f t g u)
  unfolding every agree combine carry_choice
  and_holds =
      holds_truths refl
      (rw (false_word h, true_word h, false_word k, true_word k)
      (agreed (λ f t g u. bit_or (bit_and (flag f) (bit_or (flag g) (flag u))) (bit_and (flag t) (flag g))) (chosen (combine And) false) refl f t g u))
      (rw (true_word h, true_word k) (agreed (λ f t g u. bit_and (flag t) (flag u)) (chosen (combine And) true) refl f t g u))

  pub or_holds :
      HoldsValue (record {
        sort = truths_sort;
        low = bit_and first.low second.low;
        high = bit_or (bit_and first.high (bit_or second.low second.high)) (bit_and first.low second.high);
      })
      (carry_choice (combine Or) f t g u)
  unfolding every agree combine carry_choice
  or_holds =
      holds_truths refl
      (rw (false_word h, false_word k) (agreed (λ f t g u. bit_and (flag f) (flag g)) (chosen (combine Or) false) refl f t g u))
      (rw (true_word h, false_word h, false_word k, true_word k)
      (agreed (λ f t g u. bit_or (bit_and (flag t) (bit_or (flag g) (flag u))) (bit_and (flag f) (flag u))) (chosen (combine Or) true) refl f t g u))

  pub same_holds :
      HoldsValue (record {
        sort = truths_sort;
        low = bit_or (bit_and first.low second.high) (bit_and first.high second.low);
        high = bit_or (bit_and first.low second.low) (bit_and first.high second.high);
      })
      (carry_choice equal_truths f t g u)
  unfolding every agree equal_truths carry_choice
  same_holds =
      holds_truths refl
      (rw (false_word h, true_word h, false_word k, true_word k)
      (agreed (λ f t g u. bit_or (bit_and (flag f) (flag u)) (bit_and (flag t) (flag g))) (chosen equal_truths false) refl f t g u))
      (rw (false_word h, true_word h, false_word k, true_word k)
      (agreed (λ f t g u. bit_or (bit_and (flag f) (flag g)) (bit_and (flag t) (flag u))) (chosen equal_truths true) refl f t g u))
