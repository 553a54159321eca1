-- What holds of every row of the table of kinds, shown by one test that is computed; and a number that is in no row.
use Prim.Native.Nat.{ℕ, ◌<◌}
use mathlib.Core.Path.{◌≡◌, refl, sym, subst}
use mathlib.Core.Bool.{Bool, true, false, cond, ◌&&◌}
use mathlib.Core.List.{List, [], ◌∷◌}
use mathlib.Core.Option.{none, some, some-injective}
use lib.Dec.{T, eqb, eqb→eq, ltb, ltb→lt}
use Rattle.rules.proofs.Basics.{missing, and_left, and_right}
use Rattle.rules.specs.paper.Kinds.{kind_number, every_kind, kind_in, kind_of}
use Rattle.rules.specs.declared.kinds.Kind.{Kind}
use Rattle.rules.proofs.reading.ReaderNodes.{number_of}
use Rattle.rules.proofs.reading.ReaderComplete.{kind_known}
use Rattle.reader.specs.Pack.{kinds_room}

-- ---- One test for all kinds.

abbrev pub all_of : (Kind → Bool) → List Kind → Bool
all_of f [] = true
all_of f (k ∷ ks) = f k && all_of f ks

in_list : (f : Kind → Bool) (ks : List Kind) (n : ℕ) (k : Kind) → T (all_of f ks) → kind_in ks n ≡ some k → T (f k)
unfolding kind_in
in_list f [] n k t q = missing q
in_list f (h ∷ ks) n k t q = choose (eqb (kind_number h) n) q (in_list f ks n k (and_right (f h) (all_of f ks) t))
  where
    choose : (b : Bool) → cond b (some h) (kind_in ks n) ≡ some k → (kind_in ks n ≡ some k → T (f k)) → T (f k)
    choose true p later = subst (λ c. T (f c)) (some-injective h k p) (and_left (f h) (all_of f ks) t)
    choose false p later = later p

pub each_kind : (f : Kind → Bool) → T (all_of f every_kind) → (k : Kind) → T (f k)
unfolding kind_of
each_kind f t k = in_list f every_kind (kind_number k) k t (kind_known k)

-- ---- A number that is no kind's.

-- A number that none of these kinds has, beside what is known.
abbrev pub NoneOf : Type 0 → ℕ → List Kind → Type 0
NoneOf P n [] = P
NoneOf P n (k ∷ ks) = NoneOf (P × (n ≡ kind_number k → ⊥)) n ks

pub none_of : (P : Type 0) (n : ℕ) (ks : List Kind) → NoneOf P n ks → P × (kind_in ks n ≡ none)
unfolding kind_in
none_of P n [] h = (h, refl)
none_of P n (k ∷ ks) h =
    let later = none_of (P × (n ≡ kind_number k → ⊥)) n ks h in
    (later.0.0, choose (eqb (kind_number k) n) refl later.0.1 later.1)
  where
    choose : (b : Bool) → eqb (kind_number k) n ≡ b → (n ≡ kind_number k → ⊥) → kind_in ks n ≡ none → cond b (some k) (kind_in ks n) ≡ none
    choose true q other r = absurd (other (sym (eqb→eq (kind_number k) n (subst T (sym q) tt))))
    choose false q other r = r

-- ---- Kinds fit into their part of a node's word.

kinds_low : T (all_of (λ k. ltb (kind_number k) kinds_room) every_kind)
unfolding every_kind
kinds_low = tt

pub known_low : (n : ℕ) (k : Kind) → kind_of n ≡ some k → n < kinds_room
known_low n k q = subst (λ j. j < kinds_room) (number_of n k q) (ltb→lt (kind_number k) kinds_room (each_kind (λ c. ltb (kind_number c) kinds_room) kinds_low k))
