-- What n and r are where they fit: n is at most the most nodes, r at most the most registers.
use Rattle.std.specs.Prelude.{ℕ, ◌≤◌, ◌≡◌, true, leb}
use Rattle.std.proofs.Common.{leb→le}
use Rattle.rules.proofs.Basics.{passed_test, and_left, and_right}
use Rattle.rules.specs.paper.Limits.{most_nodes, most_registers}
use Rattle.rules.specs.paper.Reader.{size_fits}

pub few_nodes : (n r : ℕ) → size_fits n r ≡ true → n ≤ most_nodes
few_nodes n r q = leb→le n most_nodes (and_left (leb n most_nodes) (leb r most_registers) (passed_test q))

pub few_registers : (n r : ℕ) → size_fits n r ≡ true → r ≤ most_registers
few_registers n r q = leb→le r most_registers (and_right (leb n most_nodes) (leb r most_registers) (passed_test q))
