-- The size of the largest image.
use Rattle.std.specs.Prelude.{ℕ, ◌+◌, ◌*◌}
use Rattle.rules.specs.paper.Limits.{most_nodes}

-- n, r, and a kind and an operand for each node.
abbrev pub most_image_words : ℕ
most_image_words = 2 + 2 * most_nodes
