-- The whole routine: its root by the kind of node 0, the registers, and whether a Loop is among its nodes.
use Prim.Native.Nat.{ℕ, zero, suc, ◌<◌, ◌≤◌}
use mathlib.Core.Path.{◌≡◌, refl, sym, ap, ◌∙◌, subst}
use mathlib.Core.Bool.{Bool, true, false, cond, ◌||◌}
use mathlib.Core.List.{List}
use mathlib.Core.Logic.{◌⊎◌, inl, inr, ⊎_elim}
use native.Mathlib.Omega.{arith}
use lib.Dec.{eqb}
use lib.ListN.{length, get_or}
use Rattle.std.specs.Prelude.{MatchBool}
use Rattle.std.specs.List.{HoldsAt, AllWithin, range_with_len}
use Rattle.std.proofs.lemmas.List.FromFn.{length-range_with_len, get_or-range_with_len}
use Rattle.rules.specs.paper.Limits.{most_registers}
use Rattle.rules.specs.paper.Tree.{Expression, Formal, Command, Block, Declaration, Bound, Root}
use Rattle.rules.specs.paper.Needs.{nothing, need_of, register_needs, root_need, routine_need, is_loop, some_command, some_in_block, some_in_declaration, some_in_bound, some_in_root, has_loop}
use Rattle.reader.specs.KindNumbers.{loop_number}
use Rattle.reader.specs.Pack.{packed_kind}
use Rattle.reader.specs.Stored.{HasWord, StoredExpression, StoredActuals, no_actuals, one_actual, StoredFormals, no_formals, one_formal, StoredCommand, StoredBlock, StoredDeclaration, StoredBound, StoredRoot, root_expression, root_command, root_absent, RootAt}
use Rattle.reader.proofs.StoredFields.{kind_is}
use Rattle.reader.specs.Stored as Stored
use Rattle.reader.proofs.StandingLaws.{expression_on, actuals_on, formals_on, command_on, block_on, declaration_on, bound_on, absent_root, operator_below, operator_low}
use Rattle.reader.proofs.NodeKindLaws.{expression_is, command_is}
use Rattle.rules.specs.paper.Kinds.{kind_number}
use Rattle.rules.specs.declared.kinds.Kind.{Kind}
use Rattle.rules.specs.declared.kinds.Kind.TheVariants.{Expression as expression_kind, Command as command_kind}
use Rattle.rules.specs.declared.kinds.ExpressionKind.{ExpressionKind}
use Rattle.rules.specs.declared.kinds.CommandKind.{CommandKind}
use Rattle.estimator.specs.Figures.{stopped, figures, numbers, raised}
use Rattle.estimator.specs.Entries.{NamesAt, no_entries}
use Rattle.estimator.specs.Answers.{SomeExpression, SomeCommand, ExpressionNeeds, CommandNeeds, RootNeeds, RoutineNeeds, LoopFound}
use Rattle.estimator.specs.declared.figures.Need.{Need}
use Rattle.estimator.proofs.FigureLaws.{over_of}

-- ---- The root.

-- The registers' names have no need.
pub registers_none : (r x : ℕ) → need_of x (register_needs r) ≡ nothing
unfolding need_of register_needs
registers_none zero x = refl
registers_none (suc r) x = choose (eqb r x) (registers_none r x)
  where
    choose : (t : Bool) → need_of x (register_needs r) ≡ nothing → cond t nothing (need_of x (register_needs r)) ≡ nothing
    choose true q = refl
    choose false q = q

pub registers_named : (words : List ℕ) (r : ℕ) → NamesAt words 0 (register_needs r)
registers_named words r = no_entries (registers_none r)

module _ (words : List ℕ) (nodes : ℕ) where
  pub absent_needs : nodes ≡ 0 → (r : Need) → r ≡ numbers 0 0 0 0 0 0 → RootNeeds words nodes r
  unfolding root_need
  absent_needs z r q registers t at = q ∙ ap (λ u. figures (root_need (register_needs registers) u)) (sym (absent_root z at))

  module _ (some_left : nodes ≡ 0 → ⊥) (k : Kind) (known : kind_number k ≡ packed_kind (get_or words 0 0)) where
    not_both : (e : ExpressionKind) (c : CommandKind) → k ≡ expression_kind e → k ≡ command_kind c → ⊥
    not_both e c p q = cc

    pub expression_there : (e : ExpressionKind) → k ≡ expression_kind e → ((t : Root) × RootAt words nodes t) → SomeExpression words 0
    expression_there e is t = by refl t.1.stored
      where
        by : {d j : ℕ} {u : Root} → j ≡ nodes → StoredRoot words d 0 j u → SomeExpression words 0
        by q (root_expression s) = (_, _, _, s)
        by q (root_command s) = absurd (not_both e _ is (command_is k s known))
        by q root_absent = absurd (some_left (sym q))

    pub expression_needs : (e : ExpressionKind) → k ≡ expression_kind e → (r : Need) → ExpressionNeeds words 0 r → RootNeeds words nodes r
    unfolding root_need
    expression_needs e is r needs registers t at = by refl at.stored
      where
        by : {d j : ℕ} {u : Root} → j ≡ nodes → StoredRoot words d 0 j u → r ≡ figures (root_need (register_needs registers) u)
        by q (root_expression s) = needs _ _ _ s
        by q (root_command s) = absurd (not_both e _ is (command_is k s known))
        by q root_absent = absurd (some_left (sym q))

    pub command_there : ((e : ExpressionKind) → k ≡ expression_kind e → ⊥) → ((t : Root) × RootAt words nodes t) → SomeCommand words 0
    command_there l t = by refl t.1.stored
      where
        by : {d j : ℕ} {u : Root} → j ≡ nodes → StoredRoot words d 0 j u → SomeCommand words 0
        by q (root_expression s) = absurd (l _ (expression_is k s known))
        by q (root_command s) = (_, _, _, s)
        by q root_absent = absurd (some_left (sym q))

    pub command_needs : ((e : ExpressionKind) → k ≡ expression_kind e → ⊥) → (r : Need) → CommandNeeds words 0 0 r → RootNeeds words nodes r
    unfolding root_need
    command_needs l r needs registers t at = by refl at.stored
      where
        by : {d j : ℕ} {u : Root} → j ≡ nodes → StoredRoot words d 0 j u → r ≡ figures (root_need (register_needs registers) u)
        by q (root_expression s) = absurd (l _ (expression_is k s known))
        by q (root_command s) = needs _ _ _ (register_needs registers) s (registers_named words registers)
        by q root_absent = absurd (some_left (sym q))

-- Registers count as cells and as bindings.
pub routine_needs : (words : List ℕ) (registers nodes : ℕ) (r s : Need) → registers ≤ most_registers → RootNeeds words nodes r → s ≡ raised r 0 0 registers registers →
    RoutineNeeds words registers nodes s
unfolding routine_need
routine_needs words registers nodes r s few needs q t at =
    q
    ∙ ap (λ k. raised r 0 0 k k) (whole registers few)
    ∙ (over_of {n = root_need (register_needs registers) t} 0 0 registers registers (record { equal = needs registers t at })).equal
  where
    whole : (k : ℕ) → k ≤ most_registers → k ≡ stopped k
    whole k l = omega arith

-- ---- A Loop among the nodes.

data Tells (words : List ℕ) (i j : ℕ) : Bool → Type 0 where
  one_is : (k : ℕ) → i ≤ k → k < j → packed_kind (get_or words k 0) ≡ loop_number → Tells words i j true
  none_is : ((k : ℕ) → i ≤ k → k < j → packed_kind (get_or words k 0) ≡ loop_number → ⊥) → Tells words i j false

tells_both : {words : List ℕ} {i j k : ℕ} {a b : Bool} → i ≤ j → j ≤ k → Tells words i j a → Tells words j k b → Tells words i k (a || b)
tells_both l m (one_is n h g q) t = one_is n h (omega (arith, g, m)) q
tells_both l m (none_is f) (one_is n h g q) = one_is n (omega (arith, h, l)) g q
tells_both {words} {i} {j} {k} l m (none_is f) (none_is h) = none_is (λ n p q e. either_side n p q e (below_or_not n j))
  where
    below_or_not : (n j : ℕ) → (n < j) ⊎ (j ≤ n)
    below_or_not n zero = inr (omega arith)
    below_or_not zero (suc j) = inl (omega arith)
    below_or_not (suc n) (suc j) = ⊎_elim (λ q. inl (omega (arith, q))) (λ q. inr (omega (arith, q))) (below_or_not n j)

    either_side : (n : ℕ) → i ≤ n → n < k → packed_kind (get_or words n 0) ≡ loop_number → (n < j) ⊎ (j ≤ n) → ⊥
    either_side n p q e (inl u) = f n p u e
    either_side n p q e (inr u) = h n u q e

-- A node that is no Loop.
tells_node : {words : List ℕ} {i m w e : ℕ} → HasWord words i m w e → m < 64 → (m ≡ loop_number → ⊥) → Tells words i (suc i) false
tells_node {words} {i} h l f = none_is (λ k p q e. f (sym (kind_is h l) ∙ ap (λ n. packed_kind (get_or words n 0)) (omega (arith, p, q)) ∙ e))

expression_tells : {words : List ℕ} {d i j : ℕ} {e : Expression} → StoredExpression words d i j e → Tells words i j false
expression_tells (Stored.num h) = tells_node h (omega arith) (λ q. omega (arith, q))
expression_tells (Stored.boo h) = tells_node h (omega arith) (λ q. omega (arith, q))
expression_tells (Stored.id l h) = tells_node h (omega arith) (λ q. omega (arith, q))
expression_tells (Stored.deref l h) = tells_node h (omega arith) (λ q. omega (arith, q))
expression_tells (Stored.valref l h) = tells_node h (omega arith) (λ q. omega (arith, q))
expression_tells (Stored.binary {o = o} h a b) =
    tells_both (omega arith) (omega (arith, expression_on a, expression_on b)) (tells_node h (operator_low o) (λ q. omega (arith, q, operator_below o)))
    (tells_both (omega (arith, expression_on a)) (omega (arith, expression_on b)) (expression_tells a) (expression_tells b))
expression_tells (Stored.negation h a) = tells_both (omega arith) (omega (arith, expression_on a)) (tells_node h (omega arith) (λ q. omega (arith, q))) (expression_tells a)

nothing_tells : (words : List ℕ) (i : ℕ) → Tells words i i false
nothing_tells words i = none_is (λ k p q e. never k p q)
  where
    never : (k : ℕ) → i ≤ k → k < i → ⊥
    never k p q = omega (arith, p, q)

actuals_tell : {words : List ℕ} {d i j : ℕ} {es : List Expression} → StoredActuals words d i j es → Tells words i j false
actuals_tell {words} {i = i} no_actuals = nothing_tells words i
actuals_tell (one_actual h g) = tells_both (omega (arith, expression_on h)) (actuals_on g) (expression_tells h) (actuals_tell g)

formals_tell : {words : List ℕ} {i j : ℕ} {fs : List Formal} → StoredFormals words i j fs → Tells words i j false
formals_tell {words} {i = i} no_formals = nothing_tells words i
formals_tell (one_formal p l m h g) = tells_both (omega arith) (formals_on g) (tells_node h (omega arith) (λ q. omega (arith, q))) (formals_tell g)

mutual
  unfolding some_command some_in_block some_in_declaration some_in_bound

  command_tells : {words : List ℕ} {d i j : ℕ} {c : Command} → StoredCommand words d i j c → Tells words i j (some_command is_loop c)
  command_tells (Stored.assign l h a) = tells_both (omega arith) (omega (arith, expression_on a)) (tells_node h (omega arith) (λ q. omega (arith, q))) (expression_tells a)
  command_tells (Stored.loop {i = i} h a b) = one_is i (omega arith) (omega (arith, expression_on a, command_on b)) (kind_is h (omega arith))
  command_tells (Stored.cseq h a b) =
      tells_both (omega arith) (omega (arith, command_on a, command_on b)) (tells_node h (omega arith) (λ q. omega (arith, q)))
      (tells_both (omega (arith, command_on a)) (omega (arith, command_on b)) (command_tells a) (command_tells b))
  command_tells (Stored.block_of b) = block_tells b
  command_tells (Stored.call l g h a) = tells_both (omega arith) (actuals_on a) (tells_node h (omega arith) (λ q. omega (arith, q))) (actuals_tell a)
  command_tells (Stored.conditional h a b c) =
      tells_both (omega arith) (omega (arith, expression_on a, command_on b, command_on c)) (tells_node h (omega arith) (λ q. omega (arith, q)))
      (tells_both (omega (arith, expression_on a)) (omega (arith, command_on b, command_on c)) (expression_tells a)
      (tells_both (omega (arith, command_on b)) (omega (arith, command_on c)) (command_tells b) (command_tells c)))

  block_tells : {words : List ℕ} {d i j : ℕ} {b : Block} → StoredBlock words d i j b → Tells words i j (some_in_block is_loop b)
  block_tells (Stored.blk h a b) =
      tells_both (omega arith) (omega (arith, declaration_on a, command_on b)) (tells_node h (omega arith) (λ q. omega (arith, q)))
      (tells_both (omega (arith, declaration_on a)) (omega (arith, command_on b)) (declaration_tells a) (command_tells b))

  declaration_tells : {words : List ℕ} {d i j : ℕ} {c : Declaration} → StoredDeclaration words d i j c → Tells words i j (some_in_declaration is_loop c)
  declaration_tells (Stored.bind l h a) = tells_both (omega arith) (omega (arith, bound_on a)) (tells_node h (omega arith) (λ q. omega (arith, q))) (bound_tells a)
  declaration_tells (Stored.dseq h a b) =
      tells_both (omega arith) (omega (arith, declaration_on a, declaration_on b)) (tells_node h (omega arith) (λ q. omega (arith, q)))
      (tells_both (omega (arith, declaration_on a)) (omega (arith, declaration_on b)) (declaration_tells a) (declaration_tells b))

  bound_tells : {words : List ℕ} {d i j : ℕ} {b : Bound} → StoredBound words d i j b → Tells words i j (some_in_bound is_loop b)
  bound_tells (Stored.plain_of a) = expression_tells a
  bound_tells (Stored.ref h a) = tells_both (omega arith) (omega (arith, expression_on a)) (tells_node h (omega arith) (λ q. omega (arith, q))) (expression_tells a)
  bound_tells (Stored.abs l h a b) =
      tells_both (omega arith) (omega (arith, formals_on a, block_on b)) (tells_node h (omega arith) (λ q. omega (arith, q)))
      (tells_both (formals_on a) (omega (arith, block_on b)) (formals_tell a) (block_tells b))

root_tells : {words : List ℕ} {d i j : ℕ} {t : Root} → StoredRoot words d i j t → Tells words i j (has_loop t)
unfolding has_loop some_in_root
root_tells (root_expression s) = expression_tells s
root_tells (root_command s) = command_tells s
root_tells {words} {i = i} root_absent = nothing_tells words i

-- ---- One of them is a Loop, or none is.

abbrev pub IsLoop : List ℕ → ℕ → Type 0
IsLoop words node = packed_kind (get_or words node 0) ≡ loop_number

abbrev pub IsOther : List ℕ → ℕ → Type 0
IsOther words node = IsLoop words node → ⊥

loop_there : (words : List ℕ) (nodes at : ℕ) → at < nodes → IsLoop words at → LoopFound words nodes true
loop_there words nodes at l q t there = by (root_tells there.stored)
  where
    by : {b : Bool} → Tells words 0 nodes b → true ≡ b
    by (one_is k p h e) = refl
    by (none_is f) = absurd (f at (omega arith) l q)

no_loop_there : (words : List ℕ) (nodes : ℕ) → ((k : ℕ) → k < nodes → IsOther words k) → LoopFound words nodes false
no_loop_there words nodes none t there = by (root_tells there.stored)
  where
    by : {b : Bool} → Tells words 0 nodes b → false ≡ b
    by (one_is k p h e) = absurd (none k h e)
    by (none_is f) = refl

itself : {nodes : ℕ} (k : ℕ) → k < nodes → get_or (range_with_len 0 nodes) k 0 ≡ k
itself {nodes} k low = get_or-range_with_len 0 nodes k 0 low ∙ omega arith

pub found_among : (words : List ℕ) (nodes : ℕ) (r : Bool) →
    MatchBool r ((k : ℕ) × (k < length (range_with_len 0 nodes)) × HoldsAt (IsLoop words) (range_with_len 0 nodes) k) (AllWithin (IsOther words) (range_with_len 0 nodes) 0 (length (range_with_len 0 nodes))) →
    LoopFound words nodes r
found_among words nodes true found =
    let low = subst (λ n. found.0 < n) (length-range_with_len 0 nodes) found.1 in
    loop_there words nodes found.0 low (subst (IsLoop words) (itself found.0 low) (found.2 0))
found_among words nodes false none =
    no_loop_there words nodes
    (λ k low. subst (IsOther words) (itself k low) (none k 0 (omega arith) (subst (λ n. k < n) (sym (length-range_with_len 0 nodes)) low)))
