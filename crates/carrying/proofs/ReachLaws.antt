-- What falls from call to call: for an expression the size of its tree, for a command how far its tree reaches. A function ends at the node of its
-- call or before, so a call goes back in the tree, and a child reaches no further than its node and begins after it.
use Prim.Native.Nat.{ℕ, ◌+◌, ◌*◌, ◌-◌, ◌<◌, ◌≤◌}
use mathlib.Core.List.{List}
use native.Mathlib.Omega.{arith}
use lib.ListN.{get_or}
use Rattle.rules.specs.paper.Limits.{most_nodes}
use Rattle.reader.specs.Pack.{packed_end}
use Rattle.reader.proofs.StandingLaws.{Rooted, root_end, root_low}

-- The node after the first child and its descendants.
abbrev pub second_place : List ℕ → (node : ℕ) → ℕ
second_place words node = packed_end (get_or words (node + 1) 0)

abbrev pub subtree_size : List ℕ → (node : ℕ) → ℕ
subtree_size words node = packed_end (get_or words node 0) - node

-- A tree that begins after another one's root, and ends no later, is smaller.
pub smaller : {words words₁ : List ℕ} {i j k m : ℕ} → Rooted words i j → Rooted words₁ k m → i < k → k < m → m ≤ j → subtree_size words₁ k < subtree_size words i
smaller whole part later some within = omega (arith, root_end whole, root_end part, later, some, within)

-- How far a tree reaches, and of those that reach as far, how much of it is ahead.
abbrev pub reach : List ℕ → (node : ℕ) → ℕ
reach words node = most_nodes * packed_end (get_or words node 0) + (most_nodes - node)

pub child_reach : {words words₁ : List ℕ} {i j k m : ℕ} → Rooted words i j → Rooted words₁ k m → i < k → m ≤ j → reach words₁ k < reach words i
child_reach whole part later within = omega (arith, root_end whole, root_end part, root_low whole, root_low part, later, within)

pub function_reach : {words words₁ : List ℕ} {i j k m : ℕ} → Rooted words i j → Rooted words₁ k m → i < j → m ≤ i → reach words₁ k < reach words i
function_reach whole part some back = omega (arith, root_end whole, root_end part, root_low whole, root_low part, some, back)
