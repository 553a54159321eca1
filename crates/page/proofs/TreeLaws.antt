-- Trees one after the other: the line of each root, then the lines of its children; what is written after so many of them.
use Prim.Native.Nat.{ℕ, suc, ◌+◌, ◌*◌, ◌<◌, ◌≤◌}
use mathlib.Core.Path.{◌≡◌, refl, sym, ap, ◌∙◌, subst}
use mathlib.Core.List.{List, [], ◌∷◌, ◌++◌}
use native.Mathlib.Omega.{arith}
use lib.ListN.{length, get_or, drop}
use Rattle.rules.proofs.Basics.{append_assoc, append_nothing}
use Rattle.rules.specs.paper.Limits.{most_nodes, most_depth}
use Rattle.rules.specs.paper.Kinds.{kind_number}
use Rattle.rules.specs.declared.kinds.Kind.{Kind}
use Rattle.reader.specs.Put.{put, put_none, put_length, put_append}
use Rattle.reader.specs.Pack.{packed_end}
use Rattle.reader.specs.Stored.{HasWord}
use Rattle.reader.proofs.StoredFields.{end_is}
use Rattle.reader.proofs.StandingLaws.{after_node}
use Rattle.page.specs.Lines.{Line, line_of, root_lines}
use Rattle.page.specs.Page.{line_bytes, line_text, lines_text, page_of}
use Rattle.page.specs.Forest.{Forest, no_tree, a_tree, SomeTrees}
use Rattle.page.specs.Writing.{SomeLine, LinePut, TreesPut, PagePut}
use Rattle.page.specs.LineLaws.{kind_low, word_fits, line_length}
use Rattle.page.specs.ForestLaws.{join, counted, root_forest, all_fit, lines_append, lines_length}

-- ---- A line keeps the number of bytes.

pub line_put_length : (before : List ℕ) {words after : List ℕ} {node depth end : ℕ} → SomeLine words node depth end → LinePut words node depth end before after → length after ≡ length before
line_put_length before {node = node} {depth} {end} (k, w, h, low) put_there = ap length (put_there k w h) ∙ put_length (line_bytes * node) (line_text (line_of node depth k w end)) before

-- ---- The first tree of some.

pub record FirstTree (words : List ℕ) (d i k : ℕ) (ls : List Line) : Type 0 where
  pub kind : Kind
  pub operand : ℕ
  pub end : ℕ
  pub below : List Line
  pub rest : List Line
  pub word : HasWord words i (kind_number kind) operand end
  pub low : d ≤ most_depth
  pub inner : Forest words (suc d) (suc i) end below
  pub later : Forest words d end k rest
  pub lines_are : ls ≡ line_of i d kind operand end ∷ (below ++ rest)

pub first_tree : {words : List ℕ} {d i k : ℕ} {ls : List Line} → Forest words d i k ls → i < k → FirstTree words d i k ls
first_tree no_tree h = absurd (omega (arith, h))
first_tree (a_tree {j = j} {w = w} {kind = kind} {below = below} {rest = rest} word low inner later) h =
    record { kind = kind; operand = w; end = j; below = below; rest = rest; word = word; low = low; inner = inner; later = later; lines_are = refl }

-- Its children, as the code counts places and depths.
children : {words : List ℕ} {d i k : ℕ} {ls : List Line} (tree : FirstTree words d i k ls) (after : ℕ) → after ≡ tree.end → Forest words (d + 1) (i + 1) after tree.below
children {words} {d} {i} tree after ends =
    subst (λ e. Forest words e (i + 1) after tree.below) (after_node d)
    (subst (λ p. Forest words (suc d) p after tree.below) (after_node i)
    (subst (λ j. Forest words (suc d) (suc i) j tree.below) (sym ends) tree.inner))

-- ---- So many trees.

pub record TreesSoFar (words before : List ℕ) (depth first next node : ℕ) (now : List ℕ) (lines : List Line) : Type 0 where
  pub done : List Line
  pub rest : List Line
  pub split : lines ≡ done ++ rest
  pub past : Forest words depth first node done
  pub coming : Forest words depth node next rest
  pub written : now ≡ put (line_bytes * first) (lines_text done) before

abbrev pub SoFar : (words before : List ℕ) (depth first next node : ℕ) (now : List ℕ) → Type 0
SoFar words before depth first next node now = (lines : List Line) → Forest words depth first next lines → TreesSoFar words before depth first next node now lines

pub none_put : (words before : List ℕ) (depth first next : ℕ) → SoFar words before depth first next first before
unfolding lines_text
none_put words before depth first next lines f = record { done = []; rest = lines; split = refl; past = no_tree; coming = f; written = sym (put_none (line_bytes * first) before) }

module _ {words before : List ℕ} {depth first next node : ℕ} {now : List ℕ} (so_far : SoFar words before depth first next node now) where
  module _ (some : SomeTrees words depth first next) where
    here : TreesSoFar words before depth first next node now some.0
    here = so_far some.0 some.1

    pub so_far_length : length now ≡ length before
    so_far_length = ap length here.written ∙ put_length (line_bytes * first) (lines_text here.done) before

    -- The node is not past the last one.
    pub within : (first ≤ node) × (node ≤ next)
    within = (omega (arith, counted here.past), omega (arith, counted here.coming))

    module _ (more : node < next) where
      tree : FirstTree words depth node next here.rest
      tree = first_tree here.coming more

      pub node_low : node < most_nodes
      node_low = tree.word.place_low

      pub depth_low : depth ≤ most_depth
      depth_low = tree.low

      module _ (after : ℕ) (read : after ≡ packed_end (get_or words node 0)) where
        ends : after ≡ tree.end
        ends = read ∙ end_is tree.word (kind_low tree.kind)

        pub line_here : SomeLine words node depth after
        line_here = (tree.kind, tree.operand, subst (HasWord words node (kind_number tree.kind) tree.operand) (sym ends) tree.word, tree.low)

        -- The next tree stands behind this one, and ends no later than all.
        pub end_within : (node < after) × (after ≤ next)
        end_within = (omega (arith, ends, counted tree.inner), omega (arith, ends, counted tree.later))

        pub children_here : SomeTrees words (depth + 1) (node + 1) after
        children_here = (tree.below, children tree after ends)

  pub one_more_put : (with_line later : List ℕ) (after : ℕ) → node < next → after ≡ packed_end (get_or words node 0) → LinePut words node depth after now with_line →
      TreesPut words (depth + 1) (node + 1) after with_line later → SoFar words before depth first next after later
  unfolding lines_text
  one_more_put with_line later after more read line trees lines f =
      let here = so_far lines f in
      let tree = first_tree here.coming more in
      let line_is = line_of node depth tree.kind tree.operand tree.end in
      let ends : after ≡ tree.end = read ∙ end_is tree.word (kind_low tree.kind) in
      let line_there = subst (λ e. LinePut words node depth e now with_line) ends line in
      record {
        done = here.done ++ (line_is ∷ tree.below);
        rest = tree.rest;
        split = here.split ∙ ap (λ ls. here.done ++ ls) tree.lines_are ∙ sym (append_assoc here.done (line_is ∷ tree.below) tree.rest);
        past =
            join here.past
            (subst (λ j. Forest words depth node j (line_is ∷ tree.below)) (sym ends)
            (subst (Forest words depth node tree.end) (ap {B = List Line} (λ ls. line_is ∷ ls) (append_nothing tree.below)) (a_tree tree.word tree.low tree.inner no_tree)));
        coming = subst (λ j. Forest words depth j next tree.rest) (sym ends) tree.later;
        written =
            trees tree.below (children tree after ends)
            ∙ ap (put (line_bytes * (node + 1)) (lines_text tree.below)) (line_there tree.kind tree.operand tree.word ∙ ap (put (line_bytes * node) (line_text line_is)) here.written)
            ∙ ap (λ p. put p (lines_text tree.below) (put (line_bytes * node) (line_text line_is) (put (line_bytes * first) (lines_text here.done) before)))
            (next_line (length (line_text line_is)) (line_length line_is (word_fits depth tree.kind tree.word tree.low)))
            ∙ put_append (line_bytes * node) (line_text line_is) (lines_text tree.below) (put (line_bytes * first) (lines_text here.done) before)
            ∙ ap (λ p. put p (lines_text (line_is ∷ tree.below)) (put (line_bytes * first) (lines_text here.done) before)) (this_line here.done (counted here.past) (lines_length here.done (all_fit here.past)))
            ∙ put_append (line_bytes * first) (lines_text here.done) (lines_text (line_is ∷ tree.below)) before
            ∙ ap (λ t. put (line_bytes * first) t before) (sym (lines_append here.done (line_is ∷ tree.below)));
      }
    where
      next_line : (n : ℕ) → n ≡ line_bytes → line_bytes * (node + 1) ≡ line_bytes * node + n
      next_line n q = omega (arith, q)

      this_line : (done : List Line) → node ≡ first + length done → length (lines_text done) ≡ line_bytes * length done → line_bytes * node ≡ line_bytes * first + length (lines_text done)
      this_line done p q = omega (arith, p, q)

  pub all_put : next ≤ node → TreesPut words depth first next before now
  all_put last lines f =
      let here = so_far lines f in
      here.written ∙ ap (λ ls. put (line_bytes * first) (lines_text ls) before) (sym (here.split ∙ ap (λ ls. here.done ++ ls) (no_more here.rest (counted here.coming)) ∙ append_nothing here.done))
    where
      no_more : (rest : List Line) → next ≡ node + length rest → rest ≡ []
      no_more [] q = refl
      no_more (l ∷ rest) q = absurd (omega (arith, q, last))

-- ---- The page.

put_front : (new ws : List ℕ) → length new ≤ length ws → put 0 new ws ≡ new ++ drop (length new) ws
unfolding put
put_front [] ws h = refl
put_front (v ∷ new) [] h = absurd (omega (arith, h))
put_front (v ∷ new) (w ∷ ws) h = ap {B = List ℕ} (λ l. v ∷ l) (put_front new ws (omega (arith, h)))

pub page_put : (words before now : List ℕ) (nodes : ℕ) → line_bytes * nodes ≤ length before → TreesPut words 1 0 nodes before now → PagePut words nodes before now
unfolding page_of
page_put words before now nodes room put_there t at =
    put_there (root_lines t) (root_forest at) ∙ put_front (lines_text (root_lines t)) before (omega (arith, sized, room)) ∙ ap (λ n. lines_text (root_lines t) ++ drop n before) sized
  where
    sized : length (lines_text (root_lines t)) ≡ line_bytes * nodes
    sized = omega (arith, lines_length (root_lines t) (all_fit (root_forest at)), counted (root_forest at))
