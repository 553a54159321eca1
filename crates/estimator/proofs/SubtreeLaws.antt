-- Where the second child of a node stands, and the size of the tree at a node, as its word says. The size falls from a node to its children:
-- it is the measure of every recursion of the estimator.
use Prim.Native.Nat.{ℕ, ◌+◌, ◌-◌, ◌<◌, ◌≤◌}
use mathlib.Core.List.{List}
use native.Mathlib.Omega.{arith}
use lib.ListN.{get_or}
use Rattle.reader.specs.Pack.{packed_end}
use Rattle.reader.proofs.StandingLaws.{Rooted, root_end}

-- The node after the first child and its descendants.
abbrev pub second_place : List ℕ → (node : ℕ) → ℕ
second_place words node = packed_end (get_or words (node + 1) 0)

abbrev pub subtree_size : List ℕ → (node : ℕ) → ℕ
subtree_size words node = packed_end (get_or words node 0) - node

-- A tree that begins after another one's root, and ends no later, is smaller.
pub smaller : {words words₁ : List ℕ} {i j k m : ℕ} → Rooted words i j → Rooted words₁ k m → i < k → k < m → m ≤ j → subtree_size words₁ k < subtree_size words i
smaller whole part later some within = omega (arith, root_end whole, root_end part, later, some, within)
