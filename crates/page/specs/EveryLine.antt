-- The page of every passed image, line by line: `every_line`.
use Rattle.std.specs.Prelude.{ℕ, zero, suc, ◌+◌, ◌-◌, ◌*◌, ◌<◌, ◌≤◌, ◌≡◌, refl, List, [], ◌∷◌, ◌++◌, take, drop, replicate}
use Rattle.std.proofs.Math.Path.{sym, ap, subst}
use Rattle.std.proofs.Common.{◌∙◌, arith, length-append, take_at, drop_at}
use Rattle.std.proofs.Math.ListN.{length, get_or, length-replicate}
use Rattle.rules.proofs.Basics.{by_order, append_assoc}
use Rattle.rules.specs.paper.Limits.{most_nodes, most_depth}
use Rattle.rules.specs.paper.Tree.{Root}
use Rattle.rules.specs.claims.Image.{IsImage}
use Rattle.rules.specs.claims.Listing.{node_of, root_nodes, image_words}
use Rattle.rules.proofs.checking.ImageExact.{check_exact}
use Rattle.reader.specs.Pack.{root_words}
use Rattle.reader.specs.Put.{put}
use Rattle.reader.specs.Stored.{RootAt}
use Rattle.reader.specs.StoredLaws.{stored_by_put}
use Rattle.page.specs.Lines.{Line, line_of, root_lines}
use Rattle.page.specs.Page.{line_bytes, line_text, lines_text, page_of}
use Rattle.page.specs.Columns.{LineColumns, line_at, LineOf, PageClaim, EveryLine}
use Rattle.page.specs.Forest.{Forest, no_tree, a_tree}
use Rattle.page.specs.LineLaws.{line_length}
use Rattle.page.specs.ForestLaws.{counted, root_forest, AllFit, all_fit, fit_first, fit_later, lines_append, lines_length}
use Rattle.page.specs.ListingLaws.{line_nodes, nodes_append, nodes_length, root_listed, image_kind, image_operand}
use Rattle.page.specs.ColumnLaws.{line_columns}

-- ---- Line i of a forest.

record LineThere (d first next : ℕ) (ls : List Line) (i : ℕ) : Type 0 where
  line : Line
  before : List Line
  after : List Line
  split : ls ≡ before ++ (line ∷ after)
  position : length before ≡ i
  number : line.node ≡ first + i
  deep : d ≤ line.depth
  ends : (line.node < line.end) × (line.end ≤ next)

there : {words : List ℕ} {d first next : ℕ} {ls : List Line} → Forest words d first next ls → (i : ℕ) → i < length ls → LineThere d first next ls i
there no_tree i h = absurd (omega (arith, h))
there {d = d} {first} (a_tree {j = j} {w = w} {kind = kind} {below = below} {rest = rest} word low inner later) zero h =
    record {
      line = line_of first d kind w j;
      before = [];
      after = below ++ rest;
      split = refl;
      position = refl;
      number = omega arith;
      deep = omega arith;
      ends = (omega (arith, counted inner), omega (arith, counted later));
    }
there {d = d} {first} {next} (a_tree {j = j} {w = w} {kind = kind} {below = below} {rest = rest} word low inner later) (suc i) h =
    by_order i (length below)
    (λ inside. from_inner (there inner i inside))
    (λ beyond. from_later beyond (there later (i - length below) (omega (arith, h, length-append below rest, beyond))))
  where
    root : Line
    root = line_of first d kind w j

    from_inner : LineThere (suc d) (suc first) j below i → LineThere d first next (root ∷ (below ++ rest)) (suc i)
    from_inner l =
        record {
          line = l.line;
          before = root ∷ l.before;
          after = l.after ++ rest;
          split = ap {B = List Line} (λ ls. root ∷ ls) (ap (λ ls. ls ++ rest) l.split ∙ append_assoc l.before (l.line ∷ l.after) rest);
          position = ap suc l.position;
          number = omega (arith, l.number);
          deep = omega (arith, l.deep);
          ends = (l.ends.0, omega (arith, l.ends.1, counted later));
        }

    from_later : length below ≤ i → LineThere d j next rest (i - length below) → LineThere d first next (root ∷ (below ++ rest)) (suc i)
    from_later beyond l =
        record {
          line = l.line;
          before = root ∷ (below ++ l.before);
          after = l.after;
          split = ap {B = List Line} (λ ls. root ∷ ls) (ap (λ ls. below ++ ls) l.split ∙ sym (append_assoc below l.before (l.line ∷ l.after)));
          position = omega (arith, length-append below l.before, l.position, beyond);
          number = omega (arith, l.number, counted inner, beyond);
          deep = l.deep;
          ends = l.ends;
        }

-- ---- Its bytes.

line_bytes_are : (ls : List Line) (i : ℕ) (before : List Line) (l : Line) (after : List Line) → ls ≡ before ++ (l ∷ after) → length before ≡ i → AllFit ls → line_at i (lines_text ls) ≡ line_text l
unfolding lines_text
line_bytes_are ls i before l after split position fits =
    ap (λ bytes. take line_bytes (drop (line_bytes * i) bytes)) (ap lines_text split ∙ lines_append before (l ∷ after))
    ∙ ap (take line_bytes) (drop_at (lines_text before) (line_text l ++ lines_text after) (line_bytes * i) (omega (arith, lines_length before (fit_first before (l ∷ after) all), position)))
    ∙ take_at (line_text l) (lines_text after) line_bytes (line_length l (fit_later before (l ∷ after) all).0)
  where
    all : AllFit (before ++ (l ∷ after))
    all = subst AllFit split fits

-- ---- The page of a passed image.

module _ (image : List ℕ) (r : ℕ) (t : Root) (is : IsImage image r t) where
  words : List ℕ
  words = put 0 (root_words t) (replicate most_nodes 0)

  stands : RootAt words (length (root_nodes t)) t
  unfolding words
  stands = record { depth = most_depth; depth_low = omega arith; stored = stored_by_put (replicate most_nodes 0) is.shape is.size (omega (arith, length-replicate {A = ℕ} most_nodes 0)) }

  forest : Forest words 1 0 (length (root_nodes t)) (root_lines t)
  forest = root_forest stands

  fits : AllFit (root_lines t)
  fits = all_fit forest

  as_many : length (root_lines t) ≡ length (root_nodes t)
  as_many = sym (nodes_length (root_lines t)) ∙ ap length (root_listed t)

  line_of_page : (i : ℕ) → i < length (root_nodes t) → LineOf image t i
  unfolding line_nodes page_of
  line_of_page i h =
      let l = there forest i (omega (arith, h, as_many)) in
      let listed : root_nodes t ≡ line_nodes l.before ++ (node_of l.line.kind l.line.operand ∷ line_nodes l.after) = sym (root_listed t) ∙ ap line_nodes l.split ∙ nodes_append l.before (l.line ∷ l.after) in
      let position : length (line_nodes l.before) ≡ i = nodes_length l.before ∙ l.position in
      let split = l.split in
      record {
        says = l.line;
        shown =
            subst (LineColumns l.line) (sym (line_bytes_are (root_lines t) i l.before l.line l.after split l.position fits))
            (line_columns l.line (fit_later l.before (l.line ∷ l.after) (subst AllFit split fits)).0);
        node_is = omega (arith, l.number);
        depth_is = (l.deep, (fit_later l.before (l.line ∷ l.after) (subst AllFit split fits)).0.depth_low);
        kind_is = sym (ap (λ ws. get_or ws (2 + i) 0) is.words ∙ ap (λ k. get_or (image_words r t) (2 + k) 0) (sym position) ∙ image_kind r t (line_nodes l.before) (node_of l.line.kind l.line.operand) (line_nodes l.after) listed);
        operand_is = sym (ap (λ ws. get_or ws (2 + length (root_nodes t) + i) 0) is.words ∙ ap (λ k. get_or (image_words r t) (2 + length (root_nodes t) + k) 0) (sym position) ∙ image_operand r t (line_nodes l.before) (node_of l.line.kind l.line.operand) (line_nodes l.after) listed);
        end_is = (omega (arith, l.number, l.ends.0), l.ends.1);
      }

  page_claim : PageClaim image t
  unfolding page_of
  page_claim = record { whole = omega (arith, lines_length (root_lines t) fits, as_many); lines = line_of_page }

pub every_line : EveryLine
every_line image r t a passes = page_claim image r t ((check_exact image r t a).0 passes).shape
