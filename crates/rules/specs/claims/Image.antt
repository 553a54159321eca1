-- What an image is, and what it is to meet the paper's shape, scope and type rules (demand 2). ReaderExact.antt shows that the reader
-- reads exactly the images of trees, and ImageExact.antt that the checker passes exactly what meets the rules.
use Rattle.std.specs.Prelude.{ℕ, ◌≤◌, ◌≡◌, ◌↔◌, List, length}
use Rattle.rules.specs.paper.Tree.{Root}
use Rattle.rules.specs.paper.Limits.{most_nodes, most_registers, most_depth}
use Rattle.rules.specs.paper.Reader.{image, read}
use Rattle.rules.specs.paper.Checker.{Passed, register_scope}
use Rattle.rules.specs.paper.Engine.{passed, check_image}
use Rattle.rules.specs.claims.Listing.{root_nodes, image_words}
use Rattle.rules.specs.claims.Shape.{ShapedRoot}
use Rattle.rules.specs.claims.Typing.{RootOk}

-- The words are the image of the tree t with r registers.
pub record IsImage (ws : List ℕ) (r : ℕ) (t : Root) : Type 0 where
  -- n, r and the preorder listing: kinds, then operands
  pub words : ws ≡ image_words r t
  -- n is at most 2,000 (0 where the root is absent), r at most 16
  pub size : length (root_nodes t) ≤ most_nodes
  pub registers : r ≤ most_registers
  -- places, names, counts, codes and depth (Shape.antt)
  pub shape : ShapedRoot most_depth 0 (length (root_nodes t)) t

-- The words are the image of this tree, and the typing rules derive what its root is.
pub record Meets (ws : List ℕ) (r : ℕ) (t : Root) (c : Passed) : Type 0 where
  pub shape : IsImage ws r t
  pub types : RootOk (register_scope r) t c

-- The reader gives a tree exactly when the words are its image.
abbrev pub ReadsExactly : Type 0
ReadsExactly = (ws : List ℕ) (r : ℕ) (t : Root) → (read ws ≡ image r t) ↔ IsImage ws r t

-- The checker passes an image, with code c or as a command, exactly when it meets the rules (demand 2, first half).
abbrev pub PassesExactly : Type 0
PassesExactly = (ws : List ℕ) (r : ℕ) (t : Root) (c : Passed) → (check_image ws ≡ passed r t c) ↔ Meets ws r t c
