-- What the functions that write a page do: texts put over its bytes from a place on.
use Rattle.std.specs.Prelude.{ℕ, ◌*◌, ◌≤◌, ◌≡◌, List, [], ◌∷◌, ◌++◌, drop}
use Rattle.rules.specs.paper.Limits.{most_depth}
use Rattle.rules.specs.paper.Tree.{Root}
use Rattle.rules.specs.paper.Kinds.{kind_number}
use Rattle.rules.specs.declared.kinds.Kind.{Kind}
use Rattle.rules.specs.declared.kinds.Operator.{Operator}
use Rattle.rules.specs.paper.Decimal.{ascii}
use Rattle.reader.specs.Put.{put}
use Rattle.reader.specs.Stored.{HasWord, RootAt}
use Rattle.page.specs.Names.{operator_name, kind_name}
use Rattle.page.specs.Lines.{Line, line_of}
use Rattle.page.specs.Page.{name_columns, line_bytes, blank, to_the_left, line_text, lines_text, page_of}
use Rattle.page.specs.Forest.{Forest}

-- The name of an operator and of a kind, in their columns.
abbrev pub IsOperatorName : Operator → (letters : List ℕ) → Type 0
IsOperatorName o letters = letters ≡ to_the_left name_columns (ascii (operator_name o))

abbrev pub IsName : Kind → (letters : List ℕ) → Type 0
IsName k letters = letters ≡ to_the_left name_columns (ascii (kind_name k))

abbrev pub NamePut : Kind → (at : ℕ) → (before after : List ℕ) → Type 0
NamePut k at before after = after ≡ put at (to_the_left name_columns (ascii (kind_name k)) ++ (blank ∷ [])) before

-- A node that has its word, with this end, at a depth that a tree may have.
abbrev pub SomeLine : List ℕ → (node depth end : ℕ) → Type 0
SomeLine words node depth end = (k : Kind) × (w : ℕ) × HasWord words node (kind_number k) w end × (depth ≤ most_depth)

abbrev pub LinePut : List ℕ → (node depth end : ℕ) → (before after : List ℕ) → Type 0
LinePut words node depth end before after =
    (k : Kind) (w : ℕ) → HasWord words node (kind_number k) w end → after ≡ put (line_bytes * node) (line_text (line_of node depth k w end)) before

abbrev pub TreesPut : List ℕ → (depth first next : ℕ) → (before after : List ℕ) → Type 0
TreesPut words depth first next before after = (lines : List Line) → Forest words depth first next lines → after ≡ put (line_bytes * first) (lines_text lines) before

abbrev pub PagePut : List ℕ → (nodes : ℕ) → (before after : List ℕ) → Type 0
PagePut words nodes before after = (t : Root) → RootAt words nodes t → after ≡ page_of t ++ drop (line_bytes * nodes) before
