-- What is claimed of the page of every passed image: each line has 30 columns and a newline, its columns are those of the request, and the
-- nodes and operands are the image's.
use Rattle.std.specs.Prelude.{ℕ, suc, ◌+◌, ◌-◌, ◌*◌, ◌<◌, ◌≤◌, ◌≡◌, List, [], ◌∷◌, length, take, drop, get_or}
use Rattle.rules.specs.paper.Limits.{most_depth}
use Rattle.rules.specs.paper.Tree.{Root}
use Rattle.rules.specs.paper.Kinds.{kind_number}
use Rattle.rules.specs.declared.kinds.Passed.{Passed}
use Rattle.rules.specs.paper.Engine.{passed, check_image}
use Rattle.rules.specs.paper.Decimal.{ascii, decimal}
use Rattle.rules.specs.claims.Listing.{root_nodes}
use Rattle.page.specs.Names.{kind_name}
use Rattle.page.specs.Lines.{Line}
use Rattle.page.specs.Page.{line_bytes, blank, newline, to_the_right, to_the_left, page_of}

-- Columns are counted from 1.
abbrev pub columns : (first last : ℕ) → List ℕ → List ℕ
columns first last bytes = take (suc last - first) (drop (first - 1) bytes)

pub record LineColumns (l : Line) (bytes : List ℕ) : Type 0 where
  pub whole : length bytes ≡ 31
  pub node : columns 1 4 bytes ≡ to_the_right 4 (decimal l.node)
  pub before_depth : columns 5 5 bytes ≡ blank ∷ []
  pub depth : columns 6 7 bytes ≡ to_the_right 2 (decimal l.depth)
  pub before_name : columns 8 8 bytes ≡ blank ∷ []
  pub name : columns 9 14 bytes ≡ to_the_left 6 (ascii (kind_name l.kind))
  pub before_operand : columns 15 15 bytes ≡ blank ∷ []
  pub operand : columns 16 25 bytes ≡ to_the_right 10 (decimal l.operand)
  pub before_end : columns 26 26 bytes ≡ blank ∷ []
  pub end : columns 27 30 bytes ≡ to_the_right 4 (decimal l.end)
  pub last : columns 31 31 bytes ≡ newline ∷ []
  -- no other byte is a newline, or any that does not print: all are from blank to ~
  pub printed : (i : ℕ) → i < 30 → (blank ≤ get_or bytes i 0) × (get_or bytes i 0 < 127)

-- Line i of a page.
abbrev pub line_at : (i : ℕ) → List ℕ → List ℕ
line_at i page = take line_bytes (drop (line_bytes * i) page)

-- What line i of the page of an image's tree is: its kind and its operand are the image's words.
pub record LineOf (image : List ℕ) (t : Root) (i : ℕ) : Type 0 where
  pub says : Line
  pub shown : LineColumns says (line_at i (page_of t))
  pub node_is : says.node ≡ i
  pub depth_is : (1 ≤ says.depth) × (says.depth ≤ most_depth)
  pub kind_is : kind_number says.kind ≡ get_or image (2 + i) 0
  pub operand_is : says.operand ≡ get_or image (2 + length (root_nodes t) + i) 0
  pub end_is : (i < says.end) × (says.end ≤ length (root_nodes t))

pub record PageClaim (image : List ℕ) (t : Root) : Type 0 where
  pub whole : length (page_of t) ≡ line_bytes * length (root_nodes t)
  pub lines : (i : ℕ) → i < length (root_nodes t) → LineOf image t i

-- The page of every passed image, whatever its tree.
abbrev pub EveryLine : Type 0
EveryLine = (image : List ℕ) (r : ℕ) (t : Root) (a : Passed) → check_image image ≡ passed r t a → PageClaim image t
