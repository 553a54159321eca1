-- A node's own checks but its depth: what they come to for the code, and that it is what the rules' reader of a node comes to.
use Prim.Native.Nat.{ℕ, suc, ◌<◌, ◌≤◌}
use mathlib.Core.Path.{◌≡◌, refl, ap, ◌∙◌}
use mathlib.Core.Bool.{Bool, true, false, cond}
use mathlib.Core.List.{List, ◌∷◌}
use mathlib.Core.Option.{Option, none, some}
use lib.Dec.{ltb, lt→ltb, ltb→lt}
use native.Mathlib.Omega.{arith}
use Rattle.std.specs.Prelude.{Some, None, Result, Ok, Err}
use Rattle.rules.proofs.Basics.{true_test, false_test}
use Rattle.rules.specs.Answers.{refused_at}
use Rattle.rules.specs.declared.refusals.Refused.{Refused}
use Rattle.rules.specs.declared.refusals.Refusal.TheVariants as Refusals
use Rattle.rules.specs.paper.Kinds.{kind_of, operand_bound, operand_fits, is_of}
use Rattle.rules.specs.declared.kinds.Kind.{Kind}
use Rattle.rules.specs.declared.kinds.Sort.{Sort}
use Rattle.rules.specs.paper.Reader.{Node, Got, refused, got, Header, or_refuse, node}
use Rattle.rules.specs.claims.Listing.{a_node}
use Rattle.reader.specs.Pack.{kinds_room}
use Rattle.reader.specs.Scan.{found_kind, kind_at, accepting, passing_by, passing}
use Rattle.reader.proofs.TableRows.{known_low}

-- ---- The kind with a number.

pub kind_found : (n : ℕ) (k : Kind) → kind_at n ≡ Some k → kind_of n ≡ some k
unfolding kind_at
kind_found n k q = by (kind_of n) q
  where
    by : (o : Option Kind) → found_kind o ≡ Some k → o ≡ some k
    by none e = absurd cc
    by (some other) e = cc

pub kind_missing : (n : ℕ) → kind_at n ≡ None → kind_of n ≡ none
unfolding kind_at
kind_missing n q = by (kind_of n) q
  where
    by : (o : Option Kind) → found_kind o ≡ None → o ≡ none
    by none e = refl
    by (some other) e = absurd cc

-- ---- The code's checks.

pub unknown_kind : (sort : Sort) (n w p : ℕ) → kind_at n ≡ None → passing sort n w p ≡ refused_at Refusals.Kind p
unfolding passing
unknown_kind sort n w p q = ap (passing_by sort w p) (kind_missing n q)

pub wrong_sort : (sort : Sort) (n w p : ℕ) (k : Kind) → kind_at n ≡ Some k → is_of sort k ≡ false → passing sort n w p ≡ refused_at Refusals.Tree p
unfolding passing
wrong_sort sort n w p k q s = ap (passing_by sort w p) (kind_found n k q) ∙ rw s

pub wrong_operand : (sort : Sort) (n w p : ℕ) (k : Kind) → kind_at n ≡ Some k → is_of sort k ≡ true → operand_bound k ≤ w → passing sort n w p ≡ refused_at Refusals.Operand p
unfolding passing operand_fits
wrong_operand sort n w p k q s h =
    ap (passing_by sort w p) (kind_found n k q) ∙ rw (s, false_test (ltb w (operand_bound k)) (λ t. above (ltb→lt w (operand_bound k) t)))
  where
    above : w < operand_bound k → ⊥
    above l = omega arith

pub passes : (sort : Sort) (n w p : ℕ) (k : Kind) → kind_at n ≡ Some k → is_of sort k ≡ true → w < operand_bound k → passing sort n w p ≡ Ok k
unfolding passing operand_fits
passes sort n w p k q s h = ap (passing_by sort w p) (kind_found n k q) ∙ rw (s, true_test (ltb w (operand_bound k)) (lt→ltb w (operand_bound k) h))

-- ---- The rules' reader of a node.

-- the node where its operand fits
abbrev pub found : (at w : ℕ) → List Node → Kind → Got (Header Kind)
found at w rest kind = got (record { place = at; kind = kind; operand = w }) (suc at) rest

-- what the checks come to is what the rules' reader of the node comes to
abbrev pub checked : (at w : ℕ) → List Node → Result Kind Refused → Got (Header Kind)
checked at w rest (Ok kind) = found at w rest kind
checked at w rest (Err x) = refused x.refusal x.place

pub node_checked : (sort : Sort) (k w at : ℕ) (rest : List Node) → node (accepting sort) at (a_node k w ∷ rest) ≡ checked at w rest (passing sort k w at)
unfolding node passing
node_checked sort k w at rest = by_kind (kind_of k)
  where
    by_operand : (kind : Kind) (t : Bool) → cond t (found at w rest kind) (refused Refusals.Operand at) ≡ checked at w rest (cond t (Ok kind) (refused_at Refusals.Operand at))
    by_operand kind true = refl
    by_operand kind false = refl

    by_sort : (kind : Kind) (s : Bool) →
        or_refuse Refusals.Tree at (cond s (some kind) none) (λ c. cond (operand_fits kind w) (found at w rest c) (refused Refusals.Operand at))
        ≡ checked at w rest (cond s (cond (operand_fits kind w) (Ok kind) (refused_at Refusals.Operand at)) (refused_at Refusals.Tree at))
    by_sort kind true = by_operand kind (operand_fits kind w)
    by_sort kind false = refl

    by_kind : (o : Option Kind) →
        or_refuse Refusals.Kind at o (λ kind. or_refuse Refusals.Tree at (accepting sort kind) (λ c. cond (operand_fits kind w) (found at w rest c) (refused Refusals.Operand at)))
        ≡ checked at w rest (passing_by sort w at o)
    by_kind none = refl
    by_kind (some kind) = by_sort kind (is_of sort kind)

-- the kind of a node that passes them has its number
pub passing_known : (sort : Sort) (k w p : ℕ) (kind : Kind) → passing sort k w p ≡ Ok kind → kind_of k ≡ some kind
unfolding passing
passing_known sort k w p kind h = by (kind_of k) h
  where
    by_operand : (other : Kind) (t : Bool) → ◌≡◌ {A = Result Kind Refused} (cond t (Ok other) (refused_at Refusals.Operand p)) (Ok kind) → other ≡ kind
    by_operand other true q = cc
    by_operand other false q = absurd cc

    by_sort : (other : Kind) (s : Bool) → cond s (cond (operand_fits other w) (Ok other) (refused_at Refusals.Operand p)) (refused_at Refusals.Tree p) ≡ Ok kind → other ≡ kind
    by_sort other true q = by_operand other (operand_fits other w) q
    by_sort other false q = absurd cc

    by : (o : Option Kind) → passing_by sort w p o ≡ Ok kind → o ≡ some kind
    by none q = absurd cc
    by (some other) q = ap some (by_sort other (is_of sort other) q)

-- its number fits its part of a node's word
pub kind_low : (sort : Sort) (k w p : ℕ) (kind : Kind) → passing sort k w p ≡ Ok kind → k < kinds_room
kind_low sort k w p kind h = known_low k kind (passing_known sort k w p kind h)
