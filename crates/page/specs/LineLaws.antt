-- The line of a node: its parts one behind the other, each of which fits its columns, and so how long it is.
use Rattle.std.specs.Prelude.{ℕ, ◌-◌, ◌<◌, ◌≤◌, ◌≡◌, List, [], ◌∷◌, ◌++◌, T, leb, length}
use Rattle.std.proofs.Common.{ap, ◌∙◌, arith, leb→le, length-append}
use Rattle.std.proofs.lemmas.List.{length-replicate}
use Rattle.rules.proofs.Basics.{append_assoc}
use Rattle.rules.specs.paper.Limits as Limits
use Rattle.rules.specs.paper.Limits.{most_nodes, most_depth}
use Rattle.rules.specs.paper.Decimal.{ascii, decimal}
use Rattle.rules.specs.paper.Kinds.{kind_number, every_kind}
use Rattle.rules.specs.declared.kinds.Kind.{Kind}
use Rattle.reader.specs.Pack.{kinds_room}
use Rattle.reader.specs.Stored.{HasWord}
use Rattle.reader.proofs.TableRows.{all_of, each_kind, known_low}
use Rattle.rules.proofs.reading.ReaderComplete.{kind_known}
use Rattle.page.specs.Names.{kind_name}
use Rattle.page.specs.Lines.{Line, line_of}
use Rattle.page.specs.Page.{node_columns, depth_columns, name_columns, operand_columns, end_columns, line_bytes, blank, newline, blanks, to_the_right, to_the_left, line_text}
use Rattle.page.specs.DecimalLaws.{decimal_within}

-- ---- Each part fits its columns.

pub node_fits : (n : ℕ) → n < most_nodes → length (decimal n) ≤ node_columns
node_fits n h = decimal_within 3 n (omega (arith, h))

pub depth_fits : (n : ℕ) → n ≤ most_depth → length (decimal n) ≤ depth_columns
depth_fits n h = decimal_within 1 n (omega (arith, h))

pub operand_fits : (n : ℕ) → n < Limits.words → length (decimal n) ≤ operand_columns
operand_fits n h = decimal_within 9 n (omega (arith, h))

pub end_fits : (n : ℕ) → n ≤ most_nodes → length (decimal n) ≤ end_columns
end_fits n h = decimal_within 3 n (omega (arith, h))

names_fit : T (all_of (λ k. leb (length (ascii (kind_name k))) name_columns) every_kind)
unfolding every_kind
names_fit = tt

pub name_fits : (k : Kind) → length (ascii (kind_name k)) ≤ name_columns
name_fits k = leb→le _ name_columns (each_kind (λ c. leb (length (ascii (kind_name c))) name_columns) names_fit k)

-- What fits fills them.
pub right_length : (columns : ℕ) (text : List ℕ) → length text ≤ columns → length (to_the_right columns text) ≡ columns
right_length columns text h = omega (arith, h, length-append (blanks (columns - length text)) text, length-replicate (columns - length text) blank)

pub left_length : (columns : ℕ) (text : List ℕ) → length text ≤ columns → length (to_the_left columns text) ≡ columns
left_length columns text h = omega (arith, h, length-append text (blanks (columns - length text)), length-replicate (columns - length text) blank)

-- A kind fits its part of a node's word.
pub kind_low : (k : Kind) → kind_number k < kinds_room
kind_low k = known_low (kind_number k) k (kind_known k)

-- ---- The whole line.

-- Its parts from the last one on, each with what follows it.
abbrev pub end_text : (end : ℕ) → List ℕ
end_text e = to_the_right end_columns (decimal e) ++ (newline ∷ [])

abbrev pub operand_text : (operand end : ℕ) → List ℕ
operand_text w e = to_the_right operand_columns (decimal w) ++ (blank ∷ end_text e)

abbrev pub name_text : Kind → (operand end : ℕ) → List ℕ
name_text k w e = to_the_left name_columns (ascii (kind_name k)) ++ (blank ∷ operand_text w e)

abbrev pub depth_text : (depth : ℕ) → Kind → (operand end : ℕ) → List ℕ
depth_text d k w e = to_the_right depth_columns (decimal d) ++ (blank ∷ name_text k w e)

pub line_parts : (i d : ℕ) (k : Kind) (w e : ℕ) → line_text (line_of i d k w e) ≡ to_the_right node_columns (decimal i) ++ (blank ∷ depth_text d k w e)
unfolding line_text
line_parts i d k w e =
    append_assoc (node ++ depth ++ name ++ operand) end (newline ∷ [])
    ∙ append_assoc (node ++ depth ++ name) operand (blank ∷ end_text e)
    ∙ append_assoc (node ++ depth) name (blank ∷ operand_text w e)
    ∙ append_assoc node depth (blank ∷ name_text k w e)
  where
    node : List ℕ
    node = to_the_right node_columns (decimal i)

    depth : List ℕ
    depth = blank ∷ to_the_right depth_columns (decimal d)

    name : List ℕ
    name = blank ∷ to_the_left name_columns (ascii (kind_name k))

    operand : List ℕ
    operand = blank ∷ to_the_right operand_columns (decimal w)

    end : List ℕ
    end = blank ∷ to_the_right end_columns (decimal e)

-- ---- Its length.

-- The numbers of a line are small enough for their columns.
pub record LineFits (l : Line) : Type 0 where
  pub node_low : l.node < most_nodes
  pub depth_low : l.depth ≤ most_depth
  pub operand_low : l.operand < Limits.words
  pub end_low : l.end ≤ most_nodes

pub word_fits : {words : List ℕ} {i w e : ℕ} (d : ℕ) (k : Kind) → HasWord words i (kind_number k) w e → d ≤ most_depth → LineFits (line_of i d k w e)
word_fits d k h low = record { node_low = h.place_low; depth_low = low; operand_low = h.operand_low; end_low = h.end_low }

module _ (l : Line) (fits : LineFits l) where
  pub node_length : length (to_the_right node_columns (decimal l.node)) ≡ node_columns
  node_length = right_length node_columns (decimal l.node) (node_fits l.node fits.node_low)

  pub depth_length : length (to_the_right depth_columns (decimal l.depth)) ≡ depth_columns
  depth_length = right_length depth_columns (decimal l.depth) (depth_fits l.depth fits.depth_low)

  pub name_length : length (to_the_left name_columns (ascii (kind_name l.kind))) ≡ name_columns
  name_length = left_length name_columns (ascii (kind_name l.kind)) (name_fits l.kind)

  pub operand_length : length (to_the_right operand_columns (decimal l.operand)) ≡ operand_columns
  operand_length = right_length operand_columns (decimal l.operand) (operand_fits l.operand fits.operand_low)

  pub end_length : length (to_the_right end_columns (decimal l.end)) ≡ end_columns
  end_length = right_length end_columns (decimal l.end) (end_fits l.end fits.end_low)

  pub line_length : length (line_text l) ≡ line_bytes
  line_length =
      omega (
        arith,
        ap length (line_parts l.node l.depth l.kind l.operand l.end),
        length-append (to_the_right node_columns (decimal l.node)) (blank ∷ depth_text l.depth l.kind l.operand l.end),
        length-append (to_the_right depth_columns (decimal l.depth)) (blank ∷ name_text l.kind l.operand l.end),
        length-append (to_the_left name_columns (ascii (kind_name l.kind))) (blank ∷ operand_text l.operand l.end),
        length-append (to_the_right operand_columns (decimal l.operand)) (blank ∷ end_text l.end),
        length-append (to_the_right end_columns (decimal l.end)) (newline ∷ []),
        node_length,
        depth_length,
        name_length,
        operand_length,
        end_length,
      )
