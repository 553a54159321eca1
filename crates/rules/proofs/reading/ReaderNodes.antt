-- What the reader knows of a node that has passed its checks: its kind by its number, its sort, and what follows of the reading after it.
use Rattle.std.specs.Prelude.{ℕ, suc, ◌≡◌, refl, Bool, true, false, cond, List, [], ◌∷◌, T, eqb}
use Rattle.std.proofs.Common.{sym, ap, ◌∙◌, subst, eqb→eq}
use Rattle.std.proofs.Math.Option.{Option, none, some, some-injective}
use Rattle.rules.proofs.Basics.{missing, passed_test}
use Rattle.rules.specs.paper.Refusals.{Refusal}
use Rattle.rules.specs.paper.Kinds.{Kind, ExpressionKind, CommandKind, DeclarationKind, assign, loop, cseq, blk, call, conditional, expression_kind, command_kind, declaration_kind, ref, abs, formal, kind_number, every_kind, kind_in, kind_of, operand_fits}
use Rattle.rules.specs.paper.Reader.{Node, Got, refused, got, Read, then, Header, node, wants_expression, wants_command, wants_declaration, BlkKind, wants_blk, BoundKind, plain_kind, ref_kind, abs_kind, wants_bound, FormalKind, wants_formal, RootKind, root_expression, root_command, wants_root, or_refuse}
use Rattle.rules.specs.claims.Listing.{a_node}

-- What is asked for holds of the answer, if there is one.
abbrev pub Answers : {A : Type 0} → (A → ℕ → List Node → Type 0) → Got A → Type 0
Answers P (refused r p) = Unit {0}
Answers P (got a j rest) = P a j rest

pub then_answers : {A B : Type 0} (P : A → ℕ → List Node → Type 0) (Q : B → ℕ → List Node → Type 0) (m : Got A) (f : A → Read B) →
    Answers P m → ((a : A) (j : ℕ) (rest : List Node) → P a j rest → Answers Q (f a j rest)) → Answers Q (then m f)
then_answers P Q (refused r p) f h k = tt
then_answers P Q (got a j rest) f h k = k a j rest h

-- ---- The table of kinds, from a number to its kind and back.

found_in : (ks : List Kind) (w : ℕ) (k : Kind) → kind_in ks w ≡ some k → kind_number k ≡ w
unfolding kind_in
found_in [] w k q = missing q
found_in (h ∷ ks) w k q = choose (eqb (kind_number h) w) refl q (found_in ks w k)
  where
    choose : (t : Bool) → eqb (kind_number h) w ≡ t → cond t (some h) (kind_in ks w) ≡ some k → (kind_in ks w ≡ some k → kind_number k ≡ w) → kind_number k ≡ w
    choose true t p later = ap kind_number (sym (some-injective h k p)) ∙ eqb→eq (kind_number h) w (passed_test t)
    choose false t p later = later p

pub number_of : (w : ℕ) (k : Kind) → kind_of w ≡ some k → kind_number k ≡ w
unfolding kind_of
number_of w k q = found_in every_kind w k q

-- A node that is read, and what follows it.
or_refuse_then : {A B C : Type 0} (r : Refusal) (p : ℕ) (o : Option A) (g : A → Got B) (f : B → Read C) (Q : C → ℕ → List Node → Type 0) →
    ((a : A) → o ≡ some a → Answers Q (then (g a) f)) → Answers Q (then (or_refuse r p o g) f)
or_refuse_then r p none g f Q h = tt
or_refuse_then r p (some a) g f Q h = h a refl

cond_then : {B C : Type 0} (t : Bool) (x : Got B) (r : Refusal) (p : ℕ) (f : B → Read C) (Q : C → ℕ → List Node → Type 0) →
    (t ≡ true → Answers Q (then x f)) → Answers Q (then (cond t x (refused r p)) f)
cond_then true x r p f Q h = h refl
cond_then false x r p f Q h = tt

node_then : {K B : Type 0} (wants : Kind → Option K) (f : Header K → Read B) (Q : B → ℕ → List Node → Type 0) (i : ℕ) (ns : List Node) →
    ((k : Kind) (s : K) (w : ℕ) (rest : List Node) → wants k ≡ some s → T (operand_fits k w) → ns ≡ a_node (kind_number k) w ∷ rest →
    Answers Q (f (record { place = i; kind = s; operand = w }) (suc i) rest)) →
    Answers Q (then (node wants i ns) f)
unfolding node
node_then wants f Q i [] h = tt
node_then wants f Q i (n ∷ rest) h =
    or_refuse_then _ i (kind_of n.kind) _ f Q (λ k q.
    or_refuse_then _ i (wants k) _ f Q (λ s u.
    cond_then (operand_fits k n.operand) _ _ i f Q (λ v.
    h k s n.operand rest u (passed_test v) (ap {B = List Node} (λ x. a_node x n.operand ∷ rest) (sym (number_of n.kind k q))))))

-- ---- Where a sort is wanted, the kind is of it.

pub is_expression : (k : Kind) (s : ExpressionKind) → wants_expression k ≡ some s → k ≡ expression_kind s
is_expression (expression_kind e) s q = ap expression_kind (some-injective e s q)
is_expression (command_kind c) s q = missing q
is_expression (declaration_kind d) s q = missing q
is_expression ref s q = missing q
is_expression abs s q = missing q
is_expression formal s q = missing q

pub is_command : (k : Kind) (s : CommandKind) → wants_command k ≡ some s → k ≡ command_kind s
is_command (expression_kind e) s q = missing q
is_command (command_kind c) s q = ap command_kind (some-injective c s q)
is_command (declaration_kind d) s q = missing q
is_command ref s q = missing q
is_command abs s q = missing q
is_command formal s q = missing q

pub is_declaration : (k : Kind) (s : DeclarationKind) → wants_declaration k ≡ some s → k ≡ declaration_kind s
is_declaration (expression_kind e) s q = missing q
is_declaration (command_kind c) s q = missing q
is_declaration (declaration_kind d) s q = ap declaration_kind (some-injective d s q)
is_declaration ref s q = missing q
is_declaration abs s q = missing q
is_declaration formal s q = missing q

pub is_blk : (k : Kind) (s : BlkKind) → wants_blk k ≡ some s → k ≡ command_kind blk
is_blk (expression_kind e) s q = missing q
is_blk (command_kind assign) s q = missing q
is_blk (command_kind loop) s q = missing q
is_blk (command_kind cseq) s q = missing q
is_blk (command_kind blk) s q = refl
is_blk (command_kind call) s q = missing q
is_blk (command_kind conditional) s q = missing q
is_blk (declaration_kind d) s q = missing q
is_blk ref s q = missing q
is_blk abs s q = missing q
is_blk formal s q = missing q

pub is_formal : (k : Kind) (s : FormalKind) → wants_formal k ≡ some s → k ≡ formal
is_formal (expression_kind e) s q = missing q
is_formal (command_kind c) s q = missing q
is_formal (declaration_kind d) s q = missing q
is_formal ref s q = missing q
is_formal abs s q = missing q
is_formal formal s q = refl

abbrev pub kind_of_bound : BoundKind → Kind
kind_of_bound (plain_kind e) = expression_kind e
kind_of_bound ref_kind = ref
kind_of_bound abs_kind = abs

pub is_bound : (k : Kind) (s : BoundKind) → wants_bound k ≡ some s → k ≡ kind_of_bound s
is_bound (expression_kind e) s q = ap kind_of_bound (some-injective (plain_kind e) s q)
is_bound (command_kind c) s q = missing q
is_bound (declaration_kind d) s q = missing q
is_bound ref s q = ap kind_of_bound (some-injective ref_kind s q)
is_bound abs s q = ap kind_of_bound (some-injective abs_kind s q)
is_bound formal s q = missing q

abbrev pub kind_of_root : RootKind → Kind
kind_of_root (root_expression e) = expression_kind e
kind_of_root (root_command c) = command_kind c

pub is_root : (k : Kind) (s : RootKind) → wants_root k ≡ some s → k ≡ kind_of_root s
is_root (expression_kind e) s q = ap kind_of_root (some-injective (root_expression e) s q)
is_root (command_kind c) s q = ap kind_of_root (some-injective (root_command c) s q)
is_root (declaration_kind d) s q = missing q
is_root ref s q = missing q
is_root abs s q = missing q
is_root formal s q = missing q

-- A node of a wanted sort that is read, with its kind known: what a reader of each sort goes by.
pub sorted_then : {K B : Type 0} (wants : Kind → Option K) (kind : K → Kind) → ((k : Kind) (s : K) → wants k ≡ some s → k ≡ kind s) →
    (f : Header K → Read B) (Q : B → ℕ → List Node → Type 0) (i : ℕ) (ns : List Node) →
    ((s : K) (w : ℕ) (rest : List Node) → T (operand_fits (kind s) w) → ns ≡ a_node (kind_number (kind s)) w ∷ rest →
    Answers Q (f (record { place = i; kind = s; operand = w }) (suc i) rest)) →
    Answers Q (then (node wants i ns) f)
sorted_then wants kind is f Q i ns h =
    node_then wants f Q i ns (λ k s w rest q t e.
    h s w rest (subst (λ c. T (operand_fits c w)) (is k s q) t) (subst (λ c. ns ≡ a_node (kind_number c) w ∷ rest) (is k s q) e))
