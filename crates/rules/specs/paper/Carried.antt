-- What is carried of a value that is known only within limits (document 02, request 10), and what the operators make of it. A plain number is
-- carried as two ends and stands for every integer from one to the other; a boolean as the set of truths possible; a location is known.
-- No value is connected with another. That a comparison gives just the truths that some pair of carried values gives is stated in
-- claims/Ranges.antt.
use Rattle.std.specs.Prelude.{ℕ, Bool, true, false, cond, not, ◌&&◌, ◌||◌, eqb, ℤ, pos}
use Rattle.std.specs.Bool.{beq}
use Rattle.std.proofs.Math.Option.{Option, none, some}
use Rattle.std.specs.Int.Signed.{lt_z}
use Rattle.rules.specs.paper.Tree.{Arithmetic, Sum, Sub, Mul, Div, Order, Lt, Le, Gt, Ge, Operator, arithmetic, Eq, order, logic}
use Rattle.rules.specs.paper.Integers.{Result, number, failed, compute, compare, equal_integers, equal_truths, combine}

pub data Carried : Type 0 where
  numbers : (lowest highest : ℤ) → Carried
  truths : (false_possible true_possible : Bool) → Carried
  location : ℕ → Carried

-- One number, or one truth.
abbrev pub only_number : ℤ → Carried
only_number z = numbers z z

abbrev pub only_truth : Bool → Carried
only_truth b = truths (not b) b

-- What carrying comes to: what was asked for; or 44, at the node where an end leaves the integers or a divisor's range holds 0. Where a
-- rule is given another sort than it takes it is unfit, which the carrying of a passed image never is (proofs/ranges/Fitting.antt).
pub data Carrying (A : Type 0) : Type 0 where
  carried : A → Carrying A
  unsafe : (place : ℕ) → Carrying A
  unfit : Carrying A

infixr 20 ◌>>=◌
abbrev pub ◌>>=◌ : {A B : Type 0} → Carrying A → (A → Carrying B) → Carrying B
◌>>=◌ (carried a) f = f a
◌>>=◌ (unsafe p) f = unsafe p
◌>>=◌ unfit f = unfit

abbrev pub fitting : {A : Type 0} → Option A → Carrying A
fitting none = unfit
fitting (some a) = carried a

abbrev pub safe : {A : Type 0} → (place : ℕ) → Option A → Carrying A
safe p none = unsafe p
safe p (some a) = carried a

-- ---- Sum, Sub, Mul and Div take the least and greatest over the operands' ends.

unfoldable pub lower : ℤ → ℤ → ℤ
lower a b = cond (lt_z a b) a b

unfoldable pub higher : ℤ → ℤ → ℤ
higher a b = cond (lt_z a b) b a

-- An end leaves the integers, or a divisor is 0: no ends.
abbrev pub with_number : Result → (ℤ → Option Carried) → Option Carried
with_number (number z) f = f z
with_number (failed r) f = none

-- The first operand's ends are a and b, the second's c and d.
unfoldable pub over_ends : Arithmetic → (a b c d : ℤ) → Option Carried
over_ends o a b c d =
    with_number (compute o a c) (λ w.
    with_number (compute o a d) (λ x.
    with_number (compute o b c) (λ y.
    with_number (compute o b d) (λ z.
    some (numbers (lower (lower w x) (lower y z)) (higher (higher w x) (higher y z)))))))

abbrev pub divisor_may_be_zero : Arithmetic → (c d : ℤ) → Bool
divisor_may_be_zero Sum c d = false
divisor_may_be_zero Sub c d = false
divisor_may_be_zero Mul c d = false
divisor_may_be_zero Div c d = not (lt_z (pos 0) c) && not (lt_z d (pos 0))

unfoldable pub carry_arithmetic : Arithmetic → (a b c d : ℤ) → Option Carried
carry_arithmetic o a b c d = let ends = over_ends o a b c d in cond (divisor_may_be_zero o c d) none ends

-- ---- A comparison or Eq gives each truth that some pair of carried values gives.

-- Of a Lt or Le the lowest of the first with the highest of the second is true if any pair is, and the other two are false if any pair is.
unfoldable pub carry_order : Order → (a b c d : ℤ) → Carried
carry_order Lt a b c d = truths (not (compare Lt b c)) (compare Lt a d)
carry_order Le a b c d = truths (not (compare Le b c)) (compare Le a d)
carry_order Gt a b c d = truths (not (compare Gt a d)) (compare Gt b c)
carry_order Ge a b c d = truths (not (compare Ge a d)) (compare Ge b c)

-- Two numbers may be equal where their ranges meet, and may differ unless both are one number.
unfoldable pub carry_equal : (a b c d : ℤ) → Carried
carry_equal a b c d = truths (not (equal_integers a d && equal_integers b c)) (not (lt_z d a) && not (lt_z b c))

-- ---- And, Or and Not, and Eq of truths, give each truth that some choice gives.

-- The truth is in the set.
abbrev pub possible : Bool → (false_possible true_possible : Bool) → Bool
possible false f t = f
possible true f t = t

-- Some choice of the two gives this truth.
abbrev pub some_choice : (Bool → Bool → Bool) → (f t g u : Bool) → Bool → Bool
some_choice give f t g u w =
    (f && g && beq (give false false) w)
    || (f && u && beq (give false true) w)
    || (t && g && beq (give true false) w)
    || (t && u && beq (give true true) w)

unfoldable pub carry_choice : (Bool → Bool → Bool) → (f t g u : Bool) → Carried
carry_choice give f t g u = truths (some_choice give f t g u false) (some_choice give f t g u true)

unfoldable pub carry_not : (f t : Bool) → Carried
carry_not f t = truths t f

-- ---- The operators, at their node.

abbrev pub two_numbers : Carried → Carried → ((a b c d : ℤ) → Carrying Carried) → Carrying Carried
two_numbers (numbers a b) (numbers c d) give = give a b c d
two_numbers (numbers a b) (truths g u) give = unfit
two_numbers (numbers a b) (location l) give = unfit
two_numbers (truths f t) w give = unfit
two_numbers (location k) w give = unfit

abbrev pub two_truths : Carried → Carried → ((f t g u : Bool) → Carrying Carried) → Carrying Carried
two_truths (truths f t) (truths g u) give = give f t g u
two_truths (truths f t) (numbers c d) give = unfit
two_truths (truths f t) (location l) give = unfit
two_truths (numbers a b) w give = unfit
two_truths (location k) w give = unfit

abbrev pub carry_both_equal : Carried → Carried → Carrying Carried
carry_both_equal (numbers a b) w = two_numbers (numbers a b) w (λ a b c d. carried (carry_equal a b c d))
carry_both_equal (truths f t) w = two_truths (truths f t) w (λ f t g u. carried (carry_choice equal_truths f t g u))
carry_both_equal (location k) w = unfit

unfoldable pub carry_operator : (place : ℕ) → Operator → Carried → Carried → Carrying Carried
carry_operator p (arithmetic o) v w = two_numbers v w (λ a b c d. safe p (carry_arithmetic o a b c d))
carry_operator p Eq v w = carry_both_equal v w
carry_operator p (order o) v w = two_numbers v w (λ a b c d. carried (carry_order o a b c d))
carry_operator p (logic o) v w = two_truths v w (λ f t g u. carried (carry_choice (combine o) f t g u))

abbrev pub carry_negation : Carried → Carrying Carried
carry_negation (numbers a b) = unfit
carry_negation (truths f t) = carried (carry_not f t)
carry_negation (location l) = unfit

-- ---- The wider ends, or every truth that either leaves. A cell that holds a location is set by its declaration alone, so both leave the same.

abbrev pub wider : Carried → Carried → Option Carried
wider (numbers a b) (numbers c d) = some (numbers (lower a c) (higher b d))
wider (numbers a b) (truths g u) = none
wider (numbers a b) (location l) = none
wider (truths f t) (numbers c d) = none
wider (truths f t) (truths g u) = some (truths (f || g) (t || u))
wider (truths f t) (location l) = none
wider (location k) (numbers c d) = none
wider (location k) (truths g u) = none
wider (location k) (location l) = cond (eqb k l) (some (location k)) none
