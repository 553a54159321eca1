-- What `read_image` has to show at each return, over plain variables.
use Prim.Native.Nat.{ℕ, zero, suc, ◌+◌, ◌-◌, ◌*◌, ◌<◌, ◌≤◌}
use mathlib.Core.Path.{◌≡◌, refl, sym, ap, ◌∙◌, subst}
use mathlib.Core.Bool.{true, false}
use mathlib.Core.List.{List, [], ◌∷◌, cons-ne-nil}
use native.Mathlib.Omega.{arith}
use native.Mathlib.Nat.{zero-add, suc-add, not-suc-le-zero, le_of_suc-le-suc}
use lib.Seq.{drop-nil}
use lib.Dec.{T, eqb, eqb→eq, eqb_refl}
use lib.ListN.{length, get_or, drop}
use Rattle.rules.proofs.Basics.{true_test, false_test}
use Rattle.rules.specs.paper.Tree.{Root}
use Rattle.std.specs.Prelude.{Result, Ok, Err}
use Rattle.rules.specs.Answers.{refused_at}
use Rattle.rules.specs.declared.refusals.Refusal.TheVariants.{Length, Size, Tree}
use Rattle.rules.specs.declared.refusals.Refused.{Refused}
use Rattle.rules.specs.paper.Reader.{Node, Got, refused, got, image, whole, size_fits, read_root, read_routine, read}
use Rattle.rules.specs.claims.Listing.{root_nodes, image_words}
use Rattle.rules.proofs.reading.ReaderComplete.{routine_is_root}
use Rattle.rules.proofs.reading.ReaderExact.{read_exact}
use Rattle.reader.specs.Pack.{root_words}
use Rattle.rules.specs.declared.kinds.Sort.TheVariants.{Root as a_root}
use Rattle.rules.specs.paper.Limits.{most_nodes, most_depth}
use Rattle.reader.specs.SizeLaws.{few_nodes}
use Rattle.reader.specs.Put.{KeptBeyond, put, put_length, put_beyond}
use Rattle.reader.specs.Answers.{nodes_at, ReadOn, Outcome, ShapeAnswer}
use Rattle.reader.specs.declared.Shape.{Shape}
use Rattle.reader.proofs.ScanLaws.{map_got}
use Rattle.reader.proofs.ScanExact.{root_same}
use Rattle.reader.proofs.ReadLaws.{kept_same, NodeOutcome, node_here, nodes_past}

abbrev shaped : (nodes registers : ℕ) → Result Shape Refused
shaped nodes registers = Ok (record { nodes = nodes; registers = registers })

pub short : (words work : List ℕ) → length words < 2 → ShapeAnswer (read words) (refused_at Length 0) work work
unfolding read
short [] work h = record { answer = refl; kept = kept_same most_nodes work }
short (a ∷ []) work h = record { answer = refl; kept = kept_same most_nodes work }
short (a ∷ b ∷ words) work h = absurd (not-suc-le-zero (le_of_suc-le-suc (le_of_suc-le-suc h)))

-- n or r
pub refuse_size : (words work : List ℕ) → 2 ≤ length words → size_fits (get_or words 0 0) (get_or words 1 0) ≡ false → ShapeAnswer (read words) (refused_at Size 0) work work
unfolding read
refuse_size [] work h q = absurd (not-suc-le-zero h)
refuse_size (a ∷ []) work h q = absurd (not-suc-le-zero (le_of_suc-le-suc h))
refuse_size (n ∷ r ∷ words) work h q = rw q (record { answer = refl; kept = kept_same most_nodes work })

pub refuse_length : (words work : List ℕ) → 2 ≤ length words → size_fits (get_or words 0 0) (get_or words 1 0) ≡ true →
    ¬ (length words ≡ 2 + 2 * get_or words 0 0) → ShapeAnswer (read words) (refused_at Length 0) work work
unfolding read
refuse_length [] work h q l = absurd (not-suc-le-zero h)
refuse_length (a ∷ []) work h q l = absurd (not-suc-le-zero (le_of_suc-le-suc h))
refuse_length (n ∷ r ∷ words) work h q l =
    rw (q, false_test (eqb (length words) (2 * n)) (λ t. l (longer (eqb→eq (length words) (2 * n) t)))) (record { answer = refl; kept = kept_same most_nodes work })
  where
    longer : length words ≡ 2 * n → suc (suc (length words)) ≡ 2 + 2 * n
    longer e = omega arith

-- Where the length is right too, the nodes are read.
read_nodes : (words : List ℕ) → 2 ≤ length words → size_fits (get_or words 0 0) (get_or words 1 0) ≡ true → length words ≡ 2 + 2 * get_or words 0 0 →
    read words ≡ whole (get_or words 1 0) (read_routine (nodes_at words (get_or words 0 0)))
unfolding read
read_nodes [] h q l = absurd (not-suc-le-zero h)
read_nodes (a ∷ []) h q l = absurd (not-suc-le-zero (le_of_suc-le-suc h))
read_nodes (n ∷ r ∷ words) h q l =
    rw (q, true_test (eqb (length words) (2 * n)) (subst (λ k. T (eqb k (2 * n))) (sym (shorter l)) (eqb_refl (2 * n))))
  where
    shorter : suc (suc (length words)) ≡ 2 + 2 * n → length words ≡ 2 * n
    shorter e = omega arith

-- with no node the root is absent, and no work word is written
pub absent_image : (words work : List ℕ) → 2 ≤ length words → size_fits (get_or words 0 0) (get_or words 1 0) ≡ true → length words ≡ 2 + 2 * get_or words 0 0 →
    get_or words 0 0 ≡ 0 → ShapeAnswer (read words) (shaped (get_or words 0 0) (get_or words 1 0)) work work
unfolding root_words root_nodes put
absent_image words work h q l none =
    subst (λ s. ShapeAnswer s (shaped (get_or words 0 0) (get_or words 1 0)) work work)
    (sym (read_nodes words h q l ∙ ap (λ ns. whole (get_or words 1 0) (read_routine ns)) (nodes_past words (get_or words 0 0) l 0 (omega (arith, none)))))
    (record { answer = ap (λ n. shaped n (get_or words 1 0)) none; written = refl })

drop_more : (n k : ℕ) (ws : List ℕ) → drop (n + k) ws ≡ drop k (drop n ws)
drop_more zero k ws = ap (λ i. drop i ws) (zero-add k)
drop_more (suc n) k [] = ap (λ i. drop i []) (suc-add n k) ∙ sym (drop-nil k)
drop_more (suc n) k (w ∷ ws) = ap (λ i. drop i (w ∷ ws)) (suc-add n k) ∙ drop_more n k ws

-- what is kept from n on is kept from later on
further : (n m : ℕ) (before after : List ℕ) → n ≤ m → drop n after ≡ drop n before → drop m after ≡ drop m before
further n m before after h q =
    ap (λ i. drop i after) (apart h) ∙ drop_more n (m - n) after ∙ ap (drop (m - n)) q ∙ sym (drop_more n (m - n) before) ∙ ap (λ i. drop i before) (sym (apart h))
  where
    apart : n ≤ m → m ≡ n + (m - n)
    apart g = omega arith

module _ (words work work' : List ℕ) (r : Result ℕ Refused) (h : 2 ≤ length words) (sized : size_fits (get_or words 0 0) (get_or words 1 0) ≡ true)
    (l : length words ≡ 2 + 2 * get_or words 0 0) (some : ¬ (get_or words 0 0 ≡ 0)) where
  abbrev n : ℕ
  n = get_or words 0 0

  abbrev nodes : List Node
  nodes = nodes_at words n

  abbrev RootOutcome : Got Root → Type 0
  RootOutcome m = Outcome nodes n 0 (map_got root_words m) r work work'

  -- the root's reading by the rules
  root_outcome : NodeOutcome words n 0 a_root most_depth r work work' → RootOutcome (read_root most_depth 0 nodes)
  root_outcome o = subst (λ m. Outcome nodes n 0 m r work work') (sym (root_same most_depth 0 nodes)) o

  shape_by : (answer : Result Shape Refused) → ((m : Got Root) → read words ≡ whole (get_or words 1 0) m → RootOutcome m → ShapeAnswer (whole (get_or words 1 0) m) answer work work') →
      NodeOutcome words n 0 a_root most_depth r work work' → ShapeAnswer (read words) answer work work'
  shape_by answer k o =
      let reads : read words ≡ whole (get_or words 1 0) (read_root most_depth 0 nodes) = read_nodes words h sized l ∙ ap (whole (get_or words 1 0)) (routine_is_root nodes _ _ (node_here words n l 0 (omega (arith, some)))) in
      subst (λ s. ShapeAnswer s answer work work') (sym reads) (k (read_root most_depth 0 nodes) reads (root_outcome o))

  count_head : (t : Root) → read words ≡ image (get_or words 1 0) t → n ≡ length (root_nodes t)
  unfolding image_words
  count_head t q = ap (λ ws. get_or ws 0 0) ((read_exact words (get_or words 1 0) t).0 q).words

  kept_root : (new : List ℕ) (next : ℕ) (left : List Node) → ReadOn nodes n 0 new next left r work work' → KeptBeyond most_nodes work work'
  kept_root new next left o =
      record {
        same_length = ap length o.written ∙ put_length 0 new work;
        same_beyond = ap (drop most_nodes) o.written ∙ put_beyond most_nodes 0 new work (omega (arith, o.counted, o.within, few_nodes n (get_or words 1 0) sized));
      }

  -- the whole tree was read
  pub whole_image : (end : ℕ) → r ≡ Ok end → end ≡ n → NodeOutcome words n 0 a_root most_depth r work work' →
      ShapeAnswer (read words) (shaped n (get_or words 1 0)) work work'
  whole_image end e q = shape_by (shaped n (get_or words 1 0)) by
    where
      by : (m : Got Root) → read words ≡ whole (get_or words 1 0) m → RootOutcome m → ShapeAnswer (whole (get_or words 1 0) m) (shaped n (get_or words 1 0)) work work'
      by (refused x p) w o = absurd cc
      by (got t j []) w o = record { answer = ap (λ k. shaped k (get_or words 1 0)) (count_head t w); written = o.written }
      by (got t j (a ∷ rest)) w o = let same : end ≡ j = cc in absurd (cons-ne-nil _ _ (o.remaining ∙ nodes_past words n l j (omega (arith, q))))

  -- nodes are left over
  pub left_over : (end : ℕ) → r ≡ Ok end → ¬ (end ≡ n) → NodeOutcome words n 0 a_root most_depth r work work' →
      ShapeAnswer (read words) (refused_at Tree end) work work'
  left_over end e q = shape_by (refused_at Tree end) by
    where
      by : (m : Got Root) → read words ≡ whole (get_or words 1 0) m → RootOutcome m → ShapeAnswer (whole (get_or words 1 0) m) (refused_at Tree end) work work'
      by (refused x p) w o = absurd cc
      by (got t j []) w o = let same : end ≡ j = cc in absurd (cons-ne-nil _ _ (sym (o.remaining ∙ node_here words n l j (omega (arith, q, o.within)))))
      by (got t j (a ∷ rest)) w o = record { answer = ap (refused_at Tree) (cc); kept = kept_root (root_words t) j (a ∷ rest) o }

  -- a node was refused
  pub refused_image : (x : Refused) → r ≡ Err x → NodeOutcome words n 0 a_root most_depth r work work' → ShapeAnswer (read words) (Err x) work work'
  refused_image x e = shape_by (Err x) by
    where
      by : (m : Got Root) → read words ≡ whole (get_or words 1 0) m → RootOutcome m → ShapeAnswer (whole (get_or words 1 0) m) (Err x) work work'
      by (refused y q) w o = record { answer = cc; kept = later o.kept }
        where
          later : KeptBeyond n work work' → KeptBeyond most_nodes work work'
          later k = record { same_length = k.same_length; same_beyond = further n most_nodes work work' (few_nodes n (get_or words 1 0) sized) k.same_beyond }
      by (got t j rest) w o = absurd cc
