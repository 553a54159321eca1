-- The annex page of a tree (document 02, "Tree on the contract's annex page"): the bytes of its lines, column by column.
use Rattle.std.specs.Prelude.{ℕ, ◌+◌, ◌-◌, List, [], ◌∷◌, ◌++◌, length, replicate}
use Rattle.rules.specs.paper.Tree.{Root}
use Rattle.rules.specs.paper.Decimal.{ascii, decimal}
use Rattle.page.specs.Names.{kind_name}
use Rattle.page.specs.Lines.{Line, root_lines}

-- How many columns each has.
abbrev pub node_columns : ℕ
node_columns = 4

abbrev pub depth_columns : ℕ
depth_columns = 2

abbrev pub name_columns : ℕ
name_columns = 6

abbrev pub operand_columns : ℕ
operand_columns = 10

abbrev pub end_columns : ℕ
end_columns = 4

-- Where each begins in a line: a blank stands before all but the first, and the newline behind the last.
abbrev pub depth_at : ℕ
depth_at = node_columns + 1

abbrev pub name_at : ℕ
name_at = depth_at + depth_columns + 1

abbrev pub operand_at : ℕ
operand_at = name_at + name_columns + 1

abbrev pub end_at : ℕ
end_at = operand_at + operand_columns + 1

abbrev pub line_bytes : ℕ
line_bytes = end_at + end_columns + 1

abbrev pub blank : ℕ
blank = 32

abbrev pub newline : ℕ
newline = 10

abbrev pub blanks : ℕ → List ℕ
blanks n = replicate n blank

-- A text to the right of so many columns, and to the left, filled with blanks.
abbrev pub to_the_right : (columns : ℕ) → List ℕ → List ℕ
to_the_right n text = blanks (n - length text) ++ text

abbrev pub to_the_left : (columns : ℕ) → List ℕ → List ℕ
to_the_left n text = text ++ blanks (n - length text)

unfoldable pub line_text : Line → List ℕ
line_text l =
    to_the_right node_columns (decimal l.node) ++  -- columns 1 to 4
    (blank ∷ to_the_right depth_columns (decimal l.depth)) ++  -- 6 and 7
    (blank ∷ to_the_left name_columns (ascii (kind_name l.kind))) ++  -- 9 to 14
    (blank ∷ to_the_right operand_columns (decimal l.operand)) ++  -- 16 to 25
    (blank ∷ to_the_right end_columns (decimal l.end)) ++  -- 27 to 30
    (newline ∷ [])

-- Line after line.
unfoldable pub lines_text : List Line → List ℕ
lines_text [] = []
lines_text (l ∷ ls) = line_text l ++ lines_text ls

unfoldable pub page_of : Root → List ℕ
page_of t = lines_text (root_lines t)
