-- What follows from an answer: where carrying went through, what it left; where it is unsafe, that whatever goes on is unsafe there too. And room for a
-- part where there is room for the whole, and what stands in the work words later.
use Prim.Native.Nat.{ℕ, ◌+◌, ◌≤◌}
use mathlib.Core.Path.{◌≡◌, refl, sym, subst}
use mathlib.Core.List.{List, ◌∷◌}
use Rattle.std.specs.Prelude.{Ok, Err}
use Rattle.rules.specs.declared.refusals.Refused.{Refused}
use native.Mathlib.Omega.{arith}
use Rattle.rules.specs.paper.Needs.{Figure, bindings, cells, Need, Needs, in_turn}
use Rattle.rules.specs.paper.Carried.{Carrying, carried, unsafe, unfit, ◌>>=◌}
use Rattle.rules.specs.paper.Carrying.{CarriedCells, CarriedNames, CarriedDeclared}
use Rattle.rules.specs.paper.Tree.{Declaration}
use Rattle.carrying.specs.States.{CellsAt, StateAt, Room}
use Rattle.carrying.specs.Frames.{Keeps}
use Rattle.carrying.specs.Answers.{CommandAs, DeclaredState, DeclaredAs}
use Rattle.carrying.specs.declared.Held.{Held}
use Rattle.carrying.proofs.ResultLaws.{ok_not_err, same_ok, same_refusal}
use Rattle.carrying.proofs.StateLaws.{names_kept, names_later}

-- ---- Outcomes.

pub told_through : {X : Type 0} {words : List ℕ} {n : ℕ} (c : Carrying CarriedCells) → CommandAs words n c (Ok tt) →
    ((M : CarriedCells) → c ≡ carried M → CellsAt words n M → X) → (c ≡ unfit → X) → X
told_through (carried M) (same, left) give never = give M refl left
told_through (unsafe p) same give never = ok_not_err same
told_through unfit answer give never = never refl

pub told_at : (words : List ℕ) (n : ℕ) (words' : List ℕ) (m : ℕ) (f : CarriedCells → Carrying CarriedCells) (c : Carrying CarriedCells) (refused : Refused) → CommandAs words n c (Err refused) →
    CommandAs words' m (c >>= f) (Err refused)
told_at words n words' m f (carried M) refused (same, left) = ok_not_err (sym same)
told_at words n words' m f (unsafe q) refused same = same
told_at words n words' m f unfit refused answer = tt

-- ---- Declarations.

pub told_names : {X : Type 0} {words : List ℕ} {next : ℕ} {held : Held} {d : Declaration} {A : CarriedNames} {N : Needs} (c : Carrying CarriedDeclared) (inner : Held) →
    DeclaredAs words next held d A N c (Ok inner) → ((D : CarriedDeclared) → c ≡ carried D → DeclaredState words next held inner d A N D → X) → (c ≡ unfit → X) → X
told_names {words = words} {next = next} {held = held} {d = d} {A = A} {N = N} (carried D) inner (x, same, state) give never =
    give D refl (subst (λ y. DeclaredState words next held y d A N D) (sym (same_ok same)) state)
told_names (unsafe p) inner same give never = ok_not_err same
told_names unfit inner answer give never = never refl

pub told_undeclared : (words : List ℕ) (next : ℕ) (held : Held) (d : Declaration) (A : CarriedNames) (N : Needs) (words' : List ℕ) (n : ℕ) (f : CarriedDeclared → Carrying CarriedCells) (c : Carrying CarriedDeclared)
    (refused : Refused) → DeclaredAs words next held d A N c (Err refused) → CommandAs words' n (c >>= f) (Err refused)
told_undeclared words next held d A N words' n f (carried D) refused (x, same, state) = ok_not_err (sym same)
told_undeclared words next held d A N words' n f (unsafe q) refused same = same_refusal same
told_undeclared words next held d A N words' n f unfit refused answer = tt

-- ---- Room.

-- A part of a list of needs needs no more than the list.
pub first_of : (n : Need) (ns : List Need) (f : Figure) → n.most f ≤ (in_turn (n ∷ ns)).most f
unfolding in_turn
first_of n ns f = omega arith

pub later_of : (n : Need) (ns : List Need) (f : Figure) → (in_turn ns).most f ≤ (in_turn (n ∷ ns)).most f
unfolding in_turn
later_of n ns f = omega arith

-- More bindings and cells, and so much less to need.
pub less_room : {held inner : Held} {n m : Need} (more_bindings more_cells : ℕ) → inner.bindings ≡ more_bindings + held.bindings → inner.cells ≡ more_cells + held.cells →
    more_bindings + m.most bindings ≤ n.most bindings → more_cells + m.most cells ≤ n.most cells → Room held n → Room inner m
less_room b c p q h g room = record { bindings_fit = omega (arith, p, h, room.bindings_fit); cells_fit = omega (arith, q, g, room.cells_fit) }

pub same_room : {held : Held} {n m : Need} → ((f : Figure) → m.most f ≤ n.most f) → Room held n → Room held m
same_room h room = record { bindings_fit = omega (arith, h bindings, room.bindings_fit); cells_fit = omega (arith, h cells, room.cells_fit) }

-- ---- The state later.

pub state_later : {words words' : List ℕ} {limit later : ℕ} {held : Held} {A : CarriedNames} {N : Needs} {K M : CarriedCells} → Keeps words words' held.bindings held.cells → limit ≤ later →
    StateAt words limit held A N K → CellsAt words' held.cells M → StateAt words' later held A N M
state_later kept h state now = record { names_are = names_later h (names_kept kept state.pointed state.names_are); cells_are = now; pointed = state.pointed }
