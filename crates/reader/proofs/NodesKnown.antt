-- Each node of a stored tree has a known kind: whoever goes over all nodes of an image, and not along its tree, cites `nodes_known`.
use Prim.Native.Nat.{ℕ, suc, ◌<◌, ◌≤◌}
use mathlib.Core.Path.{◌≡◌, refl, subst}
use mathlib.Core.Bool.{Bool, true, false}
use mathlib.Core.List.{List}
use native.Mathlib.Omega.{arith}
use lib.Dec.{T, ltb, ltb→lt, lt→ltb}
use lib.ListN.{get_or}
use mathlib.Core.Logic.{◌⊎◌, inl, inr}
use Rattle.std.proofs.Math.Nat.{eq-or-lt_of_le}
use Rattle.rules.proofs.Basics.{passed_test}
use Rattle.rules.specs.paper.Tree.{Expression, Formal, Command, Block, Declaration, Bound, Root}
use Rattle.rules.specs.declared.kinds.Kind.TheVariants.{Formal as formal}
use Rattle.reader.specs.Stored.{StoredExpression, StoredActuals, no_actuals, one_actual, StoredFormals, no_formals, one_formal, StoredCommand, StoredBlock, StoredDeclaration, StoredBound, StoredRoot, RootAt}
use Rattle.reader.specs.Stored as Stored
use Rattle.reader.specs.NodeKinds.{Known}
use Rattle.reader.proofs.StoredFields.{kind_is}
use Rattle.reader.proofs.NodeKindLaws.{expression_known, block_known, command_known, declaration_known, bound_known}

module _ (words : List ℕ) where
  -- From one place to another.
  abbrev AllKnown : (first next : ℕ) → Type 0
  AllKnown first next = (i : ℕ) → first ≤ i → i < next → Known (get_or words i 0)

  none : (i : ℕ) → AllKnown i i
  none i k h l = absurd (omega arith)

  node_then : {i j : ℕ} → Known (get_or words i 0) → AllKnown (suc i) j → AllKnown i j
  node_then {i} f g n h l = choose (eq-or-lt_of_le h)
    where
      choose : (i ≡ n) ⊎ (i < n) → Known (get_or words n 0)
      choose (inl same) = subst (λ k. Known (get_or words k 0)) same f
      choose (inr after) = g n (omega arith) l

  joined : {i j k : ℕ} → AllKnown i j → AllKnown j k → AllKnown i k
  joined {i} {j} f g n h l = choose (ltb n j) refl
    where
      choose : (b : Bool) → ltb n j ≡ b → Known (get_or words n 0)
      choose true q = f n h (ltb→lt n j (passed_test q))
      choose false q = g n (above (λ less. subst T q (lt→ltb n j less))) l
        where
          above : (n < j → ⊥) → j ≤ n
          above d = omega (arith, d)

  expression_nodes : {d i j : ℕ} {e : Expression} → StoredExpression words d i j e → AllKnown i j
  expression_nodes (Stored.num h) = node_then (expression_known (Stored.num {d = 0} h)) (none _)
  expression_nodes (Stored.boo h) = node_then (expression_known (Stored.boo {d = 0} h)) (none _)
  expression_nodes (Stored.id l h) = node_then (expression_known (Stored.id {d = 0} l h)) (none _)
  expression_nodes (Stored.deref l h) = node_then (expression_known (Stored.deref {d = 0} l h)) (none _)
  expression_nodes (Stored.valref l h) = node_then (expression_known (Stored.valref {d = 0} l h)) (none _)
  expression_nodes (Stored.binary h a b) = node_then (expression_known (Stored.binary h a b)) (joined (expression_nodes a) (expression_nodes b))
  expression_nodes (Stored.negation h a) = node_then (expression_known (Stored.negation h a)) (expression_nodes a)

  actuals_nodes : {d i j : ℕ} {es : List Expression} → StoredActuals words d i j es → AllKnown i j
  actuals_nodes no_actuals = none _
  actuals_nodes (one_actual a b) = joined (expression_nodes a) (actuals_nodes b)

  formals_nodes : {i j : ℕ} {fs : List Formal} → StoredFormals words i j fs → AllKnown i j
  formals_nodes no_formals = none _
  formals_nodes (one_formal q l c h a) = node_then (record { kind = formal; number_is = kind_is h (omega arith) }) (formals_nodes a)

  mutual
    command_nodes : {d i j : ℕ} {c : Command} → StoredCommand words d i j c → AllKnown i j
    command_nodes (Stored.assign l h a) = node_then (command_known (Stored.assign l h a)) (expression_nodes a)
    command_nodes (Stored.loop h a b) = node_then (command_known (Stored.loop h a b)) (joined (expression_nodes a) (command_nodes b))
    command_nodes (Stored.cseq h a b) = node_then (command_known (Stored.cseq h a b)) (joined (command_nodes a) (command_nodes b))
    command_nodes (Stored.block_of a) = block_nodes a
    command_nodes (Stored.call l g h a) = node_then (command_known (Stored.call l g h a)) (actuals_nodes a)
    command_nodes (Stored.conditional h a b c) =
        node_then (command_known (Stored.conditional h a b c)) (joined (expression_nodes a) (joined (command_nodes b) (command_nodes c)))

    block_nodes : {d i j : ℕ} {b : Block} → StoredBlock words d i j b → AllKnown i j
    block_nodes (Stored.blk h a b) = node_then (block_known (Stored.blk h a b)) (joined (declaration_nodes a) (command_nodes b))

    declaration_nodes : {d i j : ℕ} {c : Declaration} → StoredDeclaration words d i j c → AllKnown i j
    declaration_nodes (Stored.bind l h a) = node_then (declaration_known (Stored.bind l h a)) (bound_nodes a)
    declaration_nodes (Stored.dseq h a b) = node_then (declaration_known (Stored.dseq h a b)) (joined (declaration_nodes a) (declaration_nodes b))

    bound_nodes : {d i j : ℕ} {b : Bound} → StoredBound words d i j b → AllKnown i j
    bound_nodes (Stored.plain_of a) = expression_nodes a
    bound_nodes (Stored.ref h a) = node_then (bound_known (Stored.ref h a)) (expression_nodes a)
    bound_nodes (Stored.abs l h a b) = node_then (bound_known (Stored.abs l h a b)) (joined (formals_nodes a) (block_nodes b))

  root_nodes : {d i j : ℕ} {t : Root} → StoredRoot words d i j t → AllKnown i j
  root_nodes (Stored.root_expression a) = expression_nodes a
  root_nodes (Stored.root_command a) = command_nodes a
  root_nodes Stored.root_absent = none _

pub nodes_known : {words : List ℕ} {nodes : ℕ} {t : Root} → RootAt words nodes t → (i : ℕ) → i < nodes → Known (get_or words i 0)
nodes_known {words} at i h = root_nodes words at.stored i (omega arith) h
