-- What the reader's functions answer, by the definitions of the rules.
use Rattle.std.specs.Prelude.{ℕ, ◌+◌, ◌*◌, ◌≤◌, ◌≡◌, List, length, take, drop, Result, Ok}
use Rattle.rules.specs.paper.Limits.{most_nodes}
use Rattle.rules.specs.declared.refusals.Refusal.{Refusal}
use Rattle.rules.specs.declared.refusals.Refused.{Refused}
use Rattle.rules.specs.Answers.{refused_at}
use Rattle.rules.specs.paper.Reader.{Node, Got, refused, got, nodes_of, Reading, bad, image}
use Rattle.rules.specs.claims.Listing.{root_nodes}
use Rattle.reader.specs.Pack.{root_words}
use Rattle.reader.specs.Put.{put, KeptBeyond}
use Rattle.reader.specs.declared.Shape.{Shape}

-- The nodes of an image of n nodes: after n and r, the two parallel arrays.
abbrev pub nodes_at : List ℕ → ℕ → List Node
nodes_at words n = nodes_of (take n (drop 2 words)) (drop n (drop 2 words))

-- Where reading may begin: the image has the length that n asks, and the work words have room for its nodes.
pub record Readable (work words : List ℕ) (n at : ℕ) : Type 0 where
  pub sized : length words ≡ 2 + 2 * n
  pub few : n ≤ most_nodes
  pub room : n ≤ length work
  pub within : at ≤ n

-- Nodes were read from a place on: the answer is the next place, and the work words are those of what was read, from that place on.
pub record ReadOn (nodes : List Node) (n at : ℕ) (new : List ℕ) (next : ℕ) (left : List Node) (r : Result ℕ Refused) (before after : List ℕ) : Type 0 where
  pub answer : r ≡ Ok next
  pub written : after ≡ put at new before
  pub counted : next ≡ at + length new
  pub within : next ≤ n
  pub remaining : left ≡ drop next nodes

pub record RefusedThere (n : ℕ) (x : Refusal) (place : ℕ) (r : Result ℕ Refused) (before after : List ℕ) : Type 0 where
  pub answer : r ≡ refused_at x place
  pub kept : KeptBeyond n before after

-- The code's answer is that of the reader of Scan.antt.
abbrev pub Outcome : List Node → (n at : ℕ) → Got (List ℕ) → Result ℕ Refused → (before after : List ℕ) → Type 0
Outcome nodes n at (refused x p) r before after = RefusedThere n x p r before after
Outcome nodes n at (got new next left) r before after = ReadOn nodes n at new next left r before after

pub record ShapeRefused (x : Refusal) (place : ℕ) (r : Result Shape Refused) (before after : List ℕ) : Type 0 where
  pub answer : r ≡ refused_at x place
  pub kept : KeptBeyond most_nodes before after

pub record ShapeRead (registers : ℕ) (words : List ℕ) (nodes : ℕ) (r : Result Shape Refused) (before after : List ℕ) : Type 0 where
  pub answer : r ≡ Ok (record { nodes = nodes; registers = registers })
  pub written : after ≡ put 0 words before

-- What `read_image` answers of a reading by the rules: the refusal with its place, or the counts of nodes and registers, with
-- the words of the tree in the work words from 0 on and all others kept.
abbrev pub ShapeAnswer : Reading → Result Shape Refused → (before after : List ℕ) → Type 0
ShapeAnswer (bad x p) r before after = ShapeRefused x p r before after
ShapeAnswer (image registers t) r before after = ShapeRead registers (root_words t) (length (root_nodes t)) r before after
