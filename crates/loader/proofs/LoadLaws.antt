-- From the reader's and the checker's answers to the image's, and which work words they leave alone.
use Prim.Native.Nat.{ℕ, zero, suc, ◌+◌, ◌-◌, ◌≤◌}
use mathlib.Core.Path.{◌≡◌, refl, sym, ap, ◌∙◌, subst}
use mathlib.Core.List.{List, [], ◌∷◌}
use native.Mathlib.Omega.{arith}
use native.Mathlib.Nat.{zero-add, suc-add}
use lib.ListN.{length, get_or, drop}
use Rattle.rules.specs.paper.Limits.{most_nodes, most_depth, work_words}
use Rattle.rules.specs.paper.Tree.{Root}
use Rattle.rules.specs.paper.Reader.{Reading, bad, image, read}
use Rattle.rules.specs.claims.Listing.{root_nodes}
use Rattle.rules.specs.claims.Image.{IsImage}
use Rattle.rules.proofs.reading.ReaderExact.{read_exact}
use Rattle.rules.specs.paper.Checker.{Judged, fault, fine, register_scope, root_is}
use Rattle.rules.specs.declared.kinds.Passed.{Passed}
use Rattle.rules.specs.paper.Engine.{check_image, check_reading, checked}
use Rattle.reader.specs.Pack.{root_words}
use Rattle.reader.specs.Put.{KeptBeyond, put_length, put_beyond}
use Rattle.reader.specs.Answers.{ShapeAnswer}
use Rattle.reader.specs.Stored.{StoredRoot, RootAt}
use Rattle.reader.specs.StoredLaws.{same_root, stored_by_put, root_next}
use Rattle.reader.specs.declared.Shape.{Shape}
use Rattle.checker.specs.Commands.{WritesRowsFrom, root_answer, RootJudgedAt}
use Rattle.std.specs.Prelude.{Result, Ok, Err}
use Rattle.rules.specs.declared.refusals.Refused.{Refused}
use Rattle.typing.proofs.laws.codes.AnswerLaws.{two_answers, same_ok, same_err}
use Rattle.checker.proofs.laws.RootLaws.{root_code_low}
use Rattle.loader.specs.Answers.{LoadAnswer}
use Rattle.loader.specs.declared.Loaded.{Loaded}

-- ---- Work words from `work_words` on.

pub beyond_then : {a b c : List ℕ} → KeptBeyond work_words a b → KeptBeyond work_words b c → KeptBeyond work_words a c
beyond_then g h = record { same_length = h.same_length ∙ g.same_length; same_beyond = h.same_beyond ∙ g.same_beyond }

drop_more : (n m : ℕ) (a : List ℕ) → drop (n + m) a ≡ drop m (drop n a)
drop_more zero m a = ap (λ k. drop k a) (zero-add m)
drop_more (suc n) m [] = ap (λ k. drop {A = ℕ} k []) (suc-add n m) ∙ sym (none_left m)
  where
    none_left : (m : ℕ) → drop {A = ℕ} m [] ≡ []
    none_left zero = refl
    none_left (suc m) = refl
drop_more (suc n) m (x ∷ a) = ap (λ k. drop k (x ∷ a)) (suc-add n m) ∙ drop_more n m a

beyond_read : {a b : List ℕ} → KeptBeyond most_nodes a b → KeptBeyond work_words a b
beyond_read {a} {b} k =
    let rest = work_words - most_nodes in
    record { same_length = k.same_length; same_beyond = drop_more most_nodes rest b ∙ ap (drop rest) k.same_beyond ∙ sym (drop_more most_nodes rest a) }

all_same : (a b : List ℕ) → length b ≡ length a → ((i : ℕ) → get_or b i 0 ≡ get_or a i 0) → b ≡ a
all_same [] [] q f = refl
all_same [] (y ∷ b) q f = absurd (omega (arith, q))
all_same (x ∷ a) [] q f = absurd (omega (arith, q))
all_same (x ∷ a) (y ∷ b) q f = two_parts (f 0) (all_same a b (omega (arith, q)) (λ i. f (suc i)))
  where
    two_parts : y ≡ x → b ≡ a → ◌≡◌ {A = List ℕ} (y ∷ b) (x ∷ a)
    two_parts g h = cc

pub drop_same : (n : ℕ) (a b : List ℕ) → length b ≡ length a → ((i : ℕ) → n ≤ i → get_or b i 0 ≡ get_or a i 0) → drop n b ≡ drop n a
drop_same zero a b q f = all_same a b q (λ i. f i (omega arith))
drop_same (suc n) [] [] q f = refl
drop_same (suc n) [] (y ∷ b) q f = absurd (omega (arith, q))
drop_same (suc n) (x ∷ a) [] q f = absurd (omega (arith, q))
drop_same (suc n) (x ∷ a) (y ∷ b) q f = drop_same n a b (omega (arith, q)) (λ i h. f (suc i) (omega (arith, h)))

pub beyond_kept : {a b : List ℕ} {node : ℕ} → WritesRowsFrom a b node → KeptBeyond work_words a b
beyond_kept {a} {b} k = record { same_length = k.same_length; same_beyond = drop_same work_words a b k.same_length (λ i h. k.same_beyond i (omega (arith, h))) }

-- ---- The shape.

module _ (words before after : List ℕ) (shape : Result Shape Refused) (answered : ShapeAnswer (read words) shape before after) where
  pub shape_refused : (x : Refused) → shape ≡ Err x → (r : Result Loaded Refused) → r ≡ Err x → LoadAnswer (check_image words) r before after
  unfolding check_image
  shape_refused x q r stays = by (read words) answered
    where
      by : (g : Reading) → ShapeAnswer g shape before after → LoadAnswer (check_reading g) r before after
      by (bad y o) a = record { answer = stays ∙ ap Err (same_err shape x (record { refusal = y; place = o }) q a.answer); beyond = beyond_read a.kept }
      by (image r t) a = absurd (two_answers shape (record { nodes = length (root_nodes t); registers = r }) x a.answer q)

  -- A tree that was read stands in the work words, with as many nodes as were counted.
  pub record TreeRead (read_as : Shape) : Type 0 where
    pub tree : Root
    pub reads : read words ≡ image read_as.registers tree
    pub counted : read_as.nodes ≡ length (root_nodes tree)
    pub stands : RootAt after read_as.nodes tree
    pub beyond : KeptBeyond work_words before after

  pub tree_read : (read_as : Shape) → work_words ≤ length before → shape ≡ Ok read_as → TreeRead read_as
  tree_read read_as room q = by (read words) refl answered
    where
      by : (g : Reading) → read words ≡ g → ShapeAnswer g shape before after → TreeRead read_as
      by (bad y o) e a = absurd (two_answers shape read_as (record { refusal = y; place = o }) q a.answer)
      by (image r t) e a =
          let is : IsImage words r t = (read_exact words r t).0 e in
          let same : record { nodes = length (root_nodes t); registers = r } ≡ read_as = same_ok shape _ read_as a.answer q in
          record {
            tree = t;
            reads = e ∙ ap (λ s. image s.registers t) same;
            counted = sym (ap (λ s. s.nodes) same);
            stands = record {
              depth = most_depth;
              depth_low = omega arith;
              stored =
                  subst (λ s. StoredRoot after most_depth 0 s.nodes t) same
                  (subst (λ ws. StoredRoot ws most_depth 0 (length (root_nodes t)) t) (sym a.written) (stored_by_put before is.shape is.size (omega (arith, room))));
            };
            beyond = record {
              same_length = ap length a.written ∙ put_length 0 (root_words t) before;
              same_beyond = ap (drop work_words) a.written ∙ put_beyond work_words 0 (root_words t) before (omega (arith, root_next is.shape, is.size));
            };
          }

-- ---- The root.

-- The checker leaves the tree where it stands.
tree_kept : {a b : List ℕ} {nodes : ℕ} {t : Root} → WritesRowsFrom a b 0 → RootAt a nodes t → RootAt b nodes t
tree_kept {a} {b} k s = record { depth = s.depth; depth_low = s.depth_low; stored = same_root a b (λ i h. k.same_below i (omega (arith, h))) s.stored }

module _ (words before middle after : List ℕ) (shape : Result Shape Refused) (answered : ShapeAnswer (read words) shape before middle) (read_as : Shape) (tree : TreeRead words before middle shape answered read_as)
    (kept : WritesRowsFrom middle after 0) (root : Result Passed Refused) (judged : RootJudgedAt middle read_as.registers read_as.nodes root) where
  all_beyond : KeptBeyond work_words before after
  all_beyond = beyond_then tree.beyond (beyond_kept kept)

  of_reading : (r : Result Loaded Refused) →
      ((j : Judged Passed) → root_is (register_scope read_as.registers) tree.tree ≡ j → root ≡ root_answer j → LoadAnswer (checked read_as.registers tree.tree j) r before after) →
      LoadAnswer (check_image words) r before after
  unfolding check_image
  of_reading r done =
      subst (λ g. LoadAnswer (check_reading g) r before after) (sym tree.reads) (done (root_is (register_scope read_as.registers) tree.tree) refl (judged tree.tree tree.stands))

  pub root_passes : (c : Passed) → root ≡ Ok c → LoadAnswer (check_image words) (Ok (record { root = c; registers = read_as.registers; nodes = read_as.nodes })) before after
  root_passes c q = of_reading (Ok (record { root = c; registers = read_as.registers; nodes = read_as.nodes })) by
    where
      by : (j : Judged Passed) → root_is (register_scope read_as.registers) tree.tree ≡ j → root ≡ root_answer j →
          LoadAnswer (checked read_as.registers tree.tree j) (Ok (record { root = c; registers = read_as.registers; nodes = read_as.nodes })) before after
      by (fault x p) e h = absurd (two_answers root c (record { refusal = x; place = p }) q h)
      by (fine d) e h =
          let same : c ≡ d = same_ok root c d q h in
          record {
            answer = ap (λ k. Ok (record { root = k; registers = read_as.registers; nodes = read_as.nodes })) same ∙ ap (λ n. Ok (record { root = d; registers = read_as.registers; nodes = n })) tree.counted;
            stands = subst (λ n. RootAt after n tree.tree) tree.counted (tree_kept kept tree.stands);
            code_low = λ k known. root_code_low read_as.registers tree.tree k (e ∙ ap fine known);
            beyond = all_beyond;
          }

  pub root_refused : (x : Refused) → root ≡ Err x → (r : Result Loaded Refused) → r ≡ Err x → LoadAnswer (check_image words) r before after
  root_refused x q r stays = of_reading r by
    where
      by : (j : Judged Passed) → root_is (register_scope read_as.registers) tree.tree ≡ j → root ≡ root_answer j → LoadAnswer (checked read_as.registers tree.tree j) r before after
      by (fault y o) e h = record { answer = stays ∙ ap Err (same_err root x (record { refusal = y; place = o }) q h); beyond = all_beyond }
      by (fine c) e h = absurd (two_answers root c x h q)
