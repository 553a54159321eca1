-- Small facts on numbers, tests, options and lists that the theorems share.
use Rattle.std.specs.Prelude.{◌≡◌, refl, Bool, true, false, ◌&&◌, ◌||◌, List, [], ◌∷◌, ◌++◌, ℕ, ◌<◌, ◌≤◌, T}
use Rattle.std.proofs.Common.{sym, ap, subst, arith}
use Rattle.std.proofs.Math.Option.{Option, none, some, none-ne-some}
use Rattle.std.proofs.Math.Decide.{dec_lt}

-- ---- numbers

-- A number is below another or is not.
decided {ℓ} : {P : Type ℓ} {a b : ℕ} → Dec (a < b) → (a < b → P) → (b ≤ a → P) → P
decided (yes below) low high = low below
decided (no above) low high = high (omega arith)

pub by_order {ℓ} : {P : Type ℓ} (a b : ℕ) → (a < b → P) → (b ≤ a → P) → P
by_order a b = decided (dec_lt a b)

-- ---- options

pub missing : {A B : Type 0} {a : A} → none ≡ some a → B
missing {a = a} q = absurd (none-ne-some a q)

-- ---- tests

pub passed_test : {t : Bool} → t ≡ true → T t
passed_test q = subst T (sym q) tt

pub failed_test : {t : Bool} → t ≡ false → T t → ⊥
failed_test q h = subst T q h

pub true_test : (t : Bool) → T t → t ≡ true
true_test true h = refl
true_test false h = absurd h

pub false_test : (t : Bool) → (T t → ⊥) → t ≡ false
false_test true h = absurd (h tt)
false_test false h = refl

pub or_left : (a b : Bool) → T a → T (a || b)
or_left true b h = tt
or_left false b h = absurd h

pub or_right : (a b : Bool) → T b → T (a || b)
or_right true b h = tt
or_right false b h = h

pub or_cases : {A : Type 0} (a b : Bool) → T (a || b) → (T a → A) → (T b → A) → A
or_cases true b h f g = f tt
or_cases false b h f g = g h

pub and_both : (a b : Bool) → T a → T b → T (a && b)
and_both true b h g = g
and_both false b h g = absurd h

pub and_left : (a b : Bool) → T (a && b) → T a
and_left true b h = tt
and_left false b h = absurd h

pub and_right : (a b : Bool) → T (a && b) → T b
and_right true b h = h
and_right false b h = absurd h

-- ---- lists

pub cons_not_empty : {A : Type 0} {a : A} {rest : List A} → a ∷ rest ≡ [] → ⊥
cons_not_empty {A} q = subst IsSome q tt
  where
    IsSome : List A → Type 0
    IsSome [] = ⊥
    IsSome (a ∷ rest) = Unit {0}

pub append_assoc : {A : Type 0} (a b c : List A) → (a ++ b) ++ c ≡ a ++ (b ++ c)
append_assoc [] b c = refl
append_assoc {A} (n ∷ a) b c = ap {B = List A} (λ r. n ∷ r) (append_assoc a b c)

pub append_nothing : {A : Type 0} (a : List A) → a ++ [] ≡ a
append_nothing [] = refl
append_nothing {A} (n ∷ a) = ap {B = List A} (λ r. n ∷ r) (append_nothing a)
