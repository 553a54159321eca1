-- The columns of a line are those of the request, and all its bytes but the last print.
use Rattle.std.specs.Prelude.{ℕ, zero, suc, ◌+◌, ◌-◌, ◌/◌, ◌%◌, ◌<◌, ◌≤◌, ◌≡◌, Bool, true, ◌&&◌, List, [], ◌∷◌, ◌++◌, T, leb, ltb, length, take, drop, get_or}
use Rattle.std.proofs.Math.Path.{refl}
use Rattle.std.proofs.Common.{sym, ap, ◌∙◌, subst, arith, lt-ltb, le-ltb, leb→le, ltb→lt, length-append, take_at, drop_at, drop-drop}
use Rattle.std.proofs.Math.ListN.{get_or-append}
use Rattle.rules.proofs.Basics.{by_order, and_left, and_right}
use Rattle.rules.specs.paper.Decimal.{ascii, digit, digits_within, decimal}
use Rattle.rules.specs.paper.Kinds.{every_kind}
use Rattle.rules.specs.declared.kinds.Kind.{Kind}
use Rattle.reader.proofs.TableRows.{all_of, each_kind}
use Rattle.page.specs.Names.{kind_name}
use Rattle.page.specs.Lines.{Line}
use Rattle.page.specs.Page.{node_columns, depth_columns, name_columns, operand_columns, end_columns, depth_at, name_at, operand_at, end_at, blank, newline, blanks, to_the_right, to_the_left, line_text}
use Rattle.page.specs.Columns.{columns, LineColumns}
use Rattle.page.specs.LineLaws.{LineFits, end_text, operand_text, name_text, depth_text, line_parts, node_length, depth_length, name_length, operand_length, end_length, line_length}

-- ---- A part, the byte behind it, and what follows.

pub record PartAt (bytes : List ℕ) (from size : ℕ) (part : List ℕ) (behind : ℕ) (rest : List ℕ) : Type 0 where
  pub part_is : take size (drop from bytes) ≡ part
  pub behind_is : take 1 (drop (from + size) bytes) ≡ behind ∷ []
  pub rest_is : drop (from + size + 1) bytes ≡ rest

part_at : (bytes : List ℕ) (from size : ℕ) (part : List ℕ) (behind : ℕ) (rest : List ℕ) → drop from bytes ≡ part ++ (behind ∷ rest) → length part ≡ size → PartAt bytes from size part behind rest
part_at bytes from size part behind rest q sized =
    record {
      part_is = ap (take size) q ∙ take_at part (behind ∷ rest) size sized;
      behind_is = ap (take 1) after;
      rest_is = sym (drop-drop 1 (from + size) bytes) ∙ ap (drop 1) after;
    }
  where
    after : drop (from + size) bytes ≡ behind ∷ rest
    after = sym (drop-drop size from bytes) ∙ ap (drop size) q ∙ drop_at part (behind ∷ rest) size sized

-- ---- Bytes that print.

abbrev Prints : ℕ → Type 0
Prints b = (blank ≤ b) × (b < 127)

abbrev AllPrint : List ℕ → Type 0
AllPrint [] = Unit {0}
AllPrint (b ∷ bs) = Prints b × AllPrint bs

print_both : (a b : List ℕ) → AllPrint a → AllPrint b → AllPrint (a ++ b)
print_both [] b p q = q
print_both (x ∷ a) b p q = (p.0, print_both a b p.1 q)

prints_at : (bytes : List ℕ) → AllPrint bytes → (i : ℕ) → i < length bytes → Prints (get_or bytes i 0)
prints_at [] p i h = absurd (omega (arith, h))
prints_at (b ∷ bytes) p zero h = p.0
prints_at (b ∷ bytes) p (suc i) h = prints_at bytes p.1 i (omega (arith, h))

blanks_print : (n : ℕ) → AllPrint (blanks n)
blanks_print zero = tt
blanks_print (suc n) = ((omega arith, omega arith), blanks_print n)

digit_prints : (n : ℕ) → n < 10 → AllPrint (digit n ∷ [])
digit_prints n h = ((omega (arith, h), omega (arith, h)), tt)

digits_print : (k n : ℕ) → AllPrint (digits_within k n)
unfolding digits_within
digits_print zero n = tt
digits_print (suc k) n =
    by_order n 10
    (λ low. rw (lt-ltb n 10 low) (digit_prints n low))
    (λ high. rw (le-ltb n 10 high) (print_both (digits_within k (n / 10)) (digit (n % 10) ∷ []) (digits_print k (n / 10)) (digit_prints (n % 10) (omega arith))))

decimal_prints : (n : ℕ) → AllPrint (decimal n)
unfolding decimal
decimal_prints n = digits_print (suc n) n

printing : List ℕ → Bool
printing [] = true
printing (b ∷ bs) = (leb blank b && ltb b 127) && printing bs

told : (bytes : List ℕ) → T (printing bytes) → AllPrint bytes
unfolding printing
told [] t = tt
told (b ∷ bytes) t =
    let first = and_left (leb blank b && ltb b 127) (printing bytes) t in
    ((leb→le blank b (and_left (leb blank b) (ltb b 127) first), ltb→lt b 127 (and_right (leb blank b) (ltb b 127) first)), told bytes (and_right (leb blank b && ltb b 127) (printing bytes) t))

names_print : T (all_of (λ k. printing (ascii (kind_name k))) every_kind)
unfolding every_kind printing
names_print = tt

name_prints : (k : Kind) → AllPrint (ascii (kind_name k))
name_prints k = told (ascii (kind_name k)) (each_kind (λ c. printing (ascii (kind_name c))) names_print k)

right_prints : (n : ℕ) (text : List ℕ) → AllPrint text → AllPrint (to_the_right n text)
right_prints n text p = print_both (blanks (n - length text)) text (blanks_print (n - length text)) p

left_prints : (n : ℕ) (text : List ℕ) → AllPrint text → AllPrint (to_the_left n text)
left_prints n text p = print_both text (blanks (n - length text)) p (blanks_print (n - length text))

-- ---- The line.

-- A part behind a blank.
blank_then : (part : List ℕ) → AllPrint part → AllPrint (blank ∷ part)
blank_then part p = ((omega arith, omega arith), p)

number_prints : (columns n : ℕ) → AllPrint (to_the_right columns (decimal n))
number_prints columns n = right_prints columns (decimal n) (decimal_prints n)

module _ (l : Line) (fits : LineFits l) where
  -- The 30 columns, by their parts.
  node : List ℕ
  node = to_the_right node_columns (decimal l.node)

  depth : List ℕ
  depth = blank ∷ to_the_right depth_columns (decimal l.depth)

  name : List ℕ
  name = blank ∷ to_the_left name_columns (ascii (kind_name l.kind))

  operand : List ℕ
  operand = blank ∷ to_the_right operand_columns (decimal l.operand)

  end : List ℕ
  end = blank ∷ to_the_right end_columns (decimal l.end)

  front : List ℕ
  front = node ++ depth ++ name ++ operand ++ end

  front_is : line_text l ≡ front ++ (newline ∷ [])
  unfolding line_text front node depth name operand end
  front_is = refl

  front_length : length front ≡ 30
  front_length = omega (arith, ap length front_is, length-append front (newline ∷ []), line_length l fits)

  front_prints : AllPrint front
  unfolding front node depth name operand end
  front_prints =
      print_both (node ++ depth ++ name ++ operand) end
      (print_both (node ++ depth ++ name) operand
      (print_both (node ++ depth) name
      (print_both node depth (number_prints node_columns l.node) (blank_then (to_the_right depth_columns (decimal l.depth)) (number_prints depth_columns l.depth)))
      (blank_then (to_the_left name_columns (ascii (kind_name l.kind))) (left_prints name_columns (ascii (kind_name l.kind)) (name_prints l.kind))))
      (blank_then (to_the_right operand_columns (decimal l.operand)) (number_prints operand_columns l.operand)))
      (blank_then (to_the_right end_columns (decimal l.end)) (number_prints end_columns l.end))

  line_prints : (i : ℕ) → i < 30 → Prints (get_or (line_text l) i 0)
  line_prints i h =
      subst Prints (sym (ap (λ bytes. get_or bytes i 0) front_is ∙ get_or-append front (newline ∷ []) 0 i (omega (arith, h, front_length))))
      (prints_at front front_prints i (omega (arith, h, front_length)))

  pub line_columns : LineColumns l (line_text l)
  line_columns =
      let node_part = part_at (line_text l) 0 node_columns (to_the_right node_columns (decimal l.node)) blank (depth_text l.depth l.kind l.operand l.end) (line_parts l.node l.depth l.kind l.operand l.end) (node_length l fits) in
      let depth_part = part_at (line_text l) depth_at depth_columns (to_the_right depth_columns (decimal l.depth)) blank (name_text l.kind l.operand l.end) node_part.rest_is (depth_length l fits) in
      let name_part = part_at (line_text l) name_at name_columns (to_the_left name_columns (ascii (kind_name l.kind))) blank (operand_text l.operand l.end) depth_part.rest_is (name_length l fits) in
      let operand_part = part_at (line_text l) operand_at operand_columns (to_the_right operand_columns (decimal l.operand)) blank (end_text l.end) name_part.rest_is (operand_length l fits) in
      let end_part = part_at (line_text l) end_at end_columns (to_the_right end_columns (decimal l.end)) newline [] operand_part.rest_is (end_length l fits) in
      record {
        whole = line_length l fits;
        node = node_part.part_is;
        before_depth = node_part.behind_is;
        depth = depth_part.part_is;
        before_name = depth_part.behind_is;
        name = name_part.part_is;
        before_operand = name_part.behind_is;
        operand = operand_part.part_is;
        before_end = operand_part.behind_is;
        end = end_part.part_is;
        last = end_part.behind_is;
        printed = line_prints;
      }
