-- The line of a node as it is written: its parts, put one behind the other, are the line's text.
use Prim.Native.Nat.{ℕ, suc, ◌+◌, ◌*◌, ◌≤◌}
use mathlib.Core.Path.{◌≡◌, sym, ap, ◌∙◌}
use mathlib.Core.List.{List, [], ◌∷◌, ◌++◌}
use native.Mathlib.Omega.{arith}
use lib.ListN.{length, get_or, length-append}
use Rattle.rules.proofs.Basics.{append_assoc}
use Rattle.rules.specs.paper.Kinds.{kind_number}
use Rattle.rules.specs.declared.kinds.Kind.{Kind}
use Rattle.rules.specs.paper.Decimal.{ascii, decimal}
use Rattle.reader.specs.Put.{put, put_append}
use Rattle.reader.specs.Pack.{packed_kind, packed_operand}
use Rattle.reader.proofs.StoredFields.{kind_is, operand_is}
use Rattle.reader.proofs.NodeKindLaws.{kinds_told}
use Rattle.page.specs.Names.{kind_name}
use Rattle.page.specs.Lines.{Line, line_of}
use Rattle.page.specs.Page.{node_columns, depth_columns, name_columns, operand_columns, depth_at, name_at, operand_at, end_at, line_bytes, blank, to_the_right, to_the_left}
use Rattle.page.specs.Writing.{SomeLine, NamePut, LinePut}
use Rattle.page.specs.LineLaws.{operand_fits, kind_low, end_text, operand_text, name_text, depth_text, line_parts, LineFits, word_fits, node_length, depth_length, name_length, operand_length}

-- The operand that is read of a node fits its columns.
pub some_operand_fits : {words : List ℕ} {node depth end : ℕ} (operand : ℕ) → operand ≡ packed_operand (get_or words node 0) → SomeLine words node depth end → length (decimal operand) ≤ operand_columns
some_operand_fits operand q (k, w, h, d) = operand_fits operand (omega (arith, q, operand_is h (kind_low k), h.operand_low))

-- ---- A part, a byte behind it, and what follows.

part_then : (i j v : ℕ) (part rest before : List ℕ) → j ≡ i + suc (length part) → put j rest (put i (part ++ (v ∷ [])) before) ≡ put i (part ++ (v ∷ rest)) before
part_then i j v part rest before q =
    ap (λ k. put k rest (put i (part ++ (v ∷ [])) before)) (q ∙ ap (λ k. i + k) (sym (one_longer part)))
    ∙ put_append i (part ++ (v ∷ [])) rest before
    ∙ ap (λ l. put i l before) (append_assoc part (v ∷ []) rest)
  where
    one_longer : (l : List ℕ) → length (l ++ (v ∷ [])) ≡ suc (length l)
    one_longer l = omega (arith, length-append l (v ∷ []))

-- ---- The line as it is written.

pub line_written : (words before after_node after_depth after_name after_operand after : List ℕ) (node depth : ℕ) (kind : Kind) (operand end : ℕ) → SomeLine words node depth end →
    after_node ≡ put (line_bytes * node) (to_the_right node_columns (decimal node) ++ (blank ∷ [])) before →
    after_depth ≡ put (line_bytes * node + depth_at) (to_the_right depth_columns (decimal depth) ++ (blank ∷ [])) after_node →
    kind_number kind ≡ packed_kind (get_or words node 0) → NamePut kind (line_bytes * node + name_at) after_depth after_name →
    operand ≡ packed_operand (get_or words node 0) → after_operand ≡ put (line_bytes * node + operand_at) (to_the_right operand_columns (decimal operand) ++ (blank ∷ [])) after_name →
    after ≡ put (line_bytes * node + end_at) (end_text end) after_operand → LinePut words node depth end before after
line_written words before after_node after_depth after_name after_operand after node depth kind operand end some p₁ p₂ kind_here p₃ operand_here p₄ p₅ k w h =
    p₅
    ∙ ap (put (at + end_at) (end_text end)) (p₄ ∙ ap (λ v. put (at + operand_at) (to_the_right operand_columns (decimal v) ++ (blank ∷ [])) after_name) (operand_here ∙ operand_is h (kind_low k)))
    ∙ part_then (at + operand_at) (at + end_at) blank (to_the_right operand_columns (decimal w)) (end_text end) after_name (omega (arith, operand_length line fits))
    ∙ ap (put (at + operand_at) (operand_text w end)) (p₃ ∙ ap (λ c. put (at + name_at) (to_the_left name_columns (ascii (kind_name c)) ++ (blank ∷ [])) after_depth) (kinds_told kind k (kind_here ∙ kind_is h (kind_low k))))
    ∙ part_then (at + name_at) (at + operand_at) blank (to_the_left name_columns (ascii (kind_name k))) (operand_text w end) after_depth (omega (arith, name_length line fits))
    ∙ ap (put (at + name_at) (name_text k w end)) p₂
    ∙ part_then (at + depth_at) (at + name_at) blank (to_the_right depth_columns (decimal depth)) (name_text k w end) after_node (omega (arith, depth_length line fits))
    ∙ ap (put (at + depth_at) (depth_text depth k w end)) p₁
    ∙ part_then at (at + depth_at) blank (to_the_right node_columns (decimal node)) (depth_text depth k w end) before (omega (arith, node_length line fits))
    ∙ ap (λ l. put at l before) (sym (line_parts node depth k w end))
  where
    at : ℕ
    at = line_bytes * node

    line : Line
    line = line_of node depth k w end

    fits : LineFits line
    fits = word_fits depth k h some.3
