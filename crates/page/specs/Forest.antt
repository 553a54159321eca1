-- How a tree stands in the work words, seen without its sorts: trees one after the other whose roots have the same depth, each with its
-- children between its root and its end, one deeper. Their lines follow from the reader's answers.
use Rattle.std.specs.Prelude.{ℕ, suc, ◌≤◌, List, [], ◌∷◌, ◌++◌}
use Rattle.rules.specs.paper.Limits.{most_depth}
use Rattle.rules.specs.paper.Kinds.{kind_number}
use Rattle.rules.specs.declared.kinds.Kind.{Kind}
use Rattle.reader.specs.Stored.{HasWord}
use Rattle.page.specs.Lines.{Line, line_of}

pub data Forest (words : List ℕ) : (depth first next : ℕ) → List Line → Type 0 where
  no_tree : {d i : ℕ} → Forest words d i i []
  a_tree : {d i j k w : ℕ} {kind : Kind} {below rest : List Line} → HasWord words i (kind_number kind) w j → d ≤ most_depth →
      Forest words (suc d) (suc i) j below → Forest words d j k rest → Forest words d i k (line_of i d kind w j ∷ (below ++ rest))

abbrev pub SomeTrees : List ℕ → (depth first next : ℕ) → Type 0
SomeTrees words depth first next = (lines : List Line) × Forest words depth first next lines
