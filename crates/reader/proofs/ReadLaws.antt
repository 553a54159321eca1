-- What the code that reads a node and its children has to show at each return, over plain variables.
use Prim.Native.Nat.{ℕ, zero, suc, ◌+◌, ◌-◌, ◌*◌, ◌<◌, ◌≤◌}
use mathlib.Core.Path.{◌≡◌, refl, sym, ap, ◌∙◌, subst}
use mathlib.Core.List.{List, [], ◌∷◌}
use native.Mathlib.Omega.{arith}
use native.Mathlib.Numerals.{add-one}
use native.Mathlib.Nat.{add_assoc, not-suc-le-zero}
use lib.ListN.{length, get_or, take, drop, set, length-take, length-drop, drop_of_length-le}
use lib.Seq.{get_or-take, get_or-drop}
use Rattle.std.specs.Prelude.{Result, Ok, Err}
use Rattle.rules.specs.Answers.{refused_at}
use Rattle.rules.specs.declared.refusals.Refusal.TheVariants as Refusals
use Rattle.rules.specs.declared.refusals.Refused.{Refused}
use Rattle.rules.specs.paper.Kinds.{child_sorts}
use Rattle.rules.specs.declared.kinds.Kind.{Kind}
use Rattle.rules.specs.declared.kinds.Sort.{Sort}
use Rattle.rules.specs.paper.Reader.{Node, Got, refused, got, Read, then, give, node, nodes_of}
use Rattle.rules.specs.claims.Listing.{a_node}
use Rattle.rules.proofs.reading.ReaderNodes.{number_of}
use Rattle.reader.specs.Pack.{pack, node_words}
use Rattle.reader.specs.Put.{KeptBeyond, put, set_put}
use Rattle.reader.specs.Scan.{passing, scan_list, scan}
use Rattle.reader.specs.Answers.{nodes_at, Readable, Outcome}
use Rattle.reader.proofs.PassingLaws.{node_checked, passing_known}

-- The kind and the operand of a node, in an image of n nodes.
abbrev pub kind_at : List ℕ → ℕ → ℕ
kind_at words at = get_or words (2 + at) 0

abbrev pub operand_at : List ℕ → (n at : ℕ) → ℕ
operand_at words n at = get_or words (2 + n + at) 0

-- What reading a node comes to, and reading nodes of these sorts.
abbrev pub NodeOutcome : List ℕ → (n at : ℕ) → Sort → (levels : ℕ) → Result ℕ Refused → (before after : List ℕ) → Type 0
NodeOutcome words n at sort levels r before after =
    Outcome (nodes_at words n) n at (scan levels sort at (drop at (nodes_at words n))) r before after

abbrev pub ChildrenOutcome : List ℕ → (n at : ℕ) → List Sort → (levels : ℕ) → Result ℕ Refused → (before after : List ℕ) → Type 0
ChildrenOutcome words n at sorts levels r before after =
    Outcome (nodes_at words n) n at (scan_list (scan levels) sorts at (drop at (nodes_at words n))) r before after

-- Words that nothing writes are kept.
pub kept_same : (n : ℕ) (ws : List ℕ) → KeptBeyond n ws ws
kept_same n ws = record { same_length = refl; same_beyond = refl }

-- ---- The node at a place, and past the last one.

nodes_here : (ks os : List ℕ) (i : ℕ) → i < length ks → i < length os → drop i (nodes_of ks os) ≡ a_node (get_or ks i 0) (get_or os i 0) ∷ drop (suc i) (nodes_of ks os)
unfolding nodes_of
nodes_here [] os i h g = absurd (not-suc-le-zero h)
nodes_here (k ∷ ks) [] i h g = absurd (not-suc-le-zero g)
nodes_here (k ∷ ks) (o ∷ os) zero h g = refl
nodes_here (k ∷ ks) (o ∷ os) (suc i) h g = nodes_here ks os i (omega arith) (omega arith)

nodes_count : (ks os : List ℕ) → length ks ≡ length os → length (nodes_of ks os) ≡ length ks
unfolding nodes_of
nodes_count [] os q = refl
nodes_count (k ∷ ks) [] q = absurd (never q)
  where
    never : suc (length ks) ≡ 0 → ⊥
    never e = omega arith
nodes_count (k ∷ ks) (o ∷ os) q = ap suc (nodes_count ks os (omega arith))

module _ (words : List ℕ) (n : ℕ) (sized : length words ≡ 2 + 2 * n) where
  kinds_count : length (take n (drop 2 words)) ≡ n
  kinds_count = omega (arith, length-take n (drop 2 words), length-drop 2 words, sized)

  operands_count : length (drop n (drop 2 words)) ≡ n
  operands_count = omega (arith, length-drop n (drop 2 words), length-drop 2 words, sized)

  pub node_here : (at : ℕ) → at < n → drop at (nodes_at words n) ≡ a_node (kind_at words at) (operand_at words n at) ∷ drop (at + 1) (nodes_at words n)
  node_here at h =
      nodes_here (take n (drop 2 words)) (drop n (drop 2 words)) at (omega (arith, kinds_count)) (omega (arith, operands_count))
      ∙ ap {B = List Node} (λ k. a_node k (get_or (drop n (drop 2 words)) at 0) ∷ drop (suc at) (nodes_at words n)) (rw (get_or-take, get_or-drop))
      ∙ ap {B = List Node} (λ w. a_node (kind_at words at) w ∷ drop (suc at) (nodes_at words n)) (rw (get_or-drop, get_or-drop) (ap (λ i. get_or words i 0) (sym (add_assoc 2 n at))))
      ∙ ap {B = List Node} (λ i. a_node (kind_at words at) (operand_at words n at) ∷ drop i (nodes_at words n)) (sym (add-one at))

  pub nodes_past : (at : ℕ) → n ≤ at → drop at (nodes_at words n) ≡ []
  nodes_past at h = drop_of_length-le (nodes_at words n) {i = at} (omega (arith, nodes_count (take n (drop 2 words)) (drop n (drop 2 words)) (kinds_count ∙ sym operands_count), kinds_count))

-- ---- Reading a node.

none_left : (d at : ℕ) (sort : Sort) → scan d sort at [] ≡ refused Refusals.Tree at
unfolding scan node
none_left zero at sort = refl
none_left (suc d) at sort = refl

-- a place past the last node
pub missing_node : (words work : List ℕ) (n at : ℕ) (sort : Sort) (levels : ℕ) → Readable work words n at → n ≤ at →
    NodeOutcome words n at sort levels (refused_at Refusals.Tree at) work work
missing_node words work n at sort levels r h =
    subst (λ g. Outcome (nodes_at words n) n at g (refused_at Refusals.Tree at) work work) (sym (ap (scan levels sort at) (nodes_past words n r.sized at h) ∙ none_left levels at sort))
    (record { answer = refl; kept = kept_same n work })

-- the node's own fault
fault_first : (d at k w : ℕ) (sort : Sort) (rest : List Node) (x : Refused) → passing sort k w at ≡ Err x → scan d sort at (a_node k w ∷ rest) ≡ refused x.refusal x.place
unfolding scan
fault_first zero at k w sort rest x q = rw (node_checked sort k w at rest, q)
fault_first (suc d) at k w sort rest x q = rw (node_checked sort k w at rest, q)

pub faulty_node : (words work : List ℕ) (n at : ℕ) (sort : Sort) (levels : ℕ) (x : Refused) → Readable work words n at → at < n →
    passing sort (kind_at words at) (operand_at words n at) at ≡ Err x →
    NodeOutcome words n at sort levels (Err x) work work
faulty_node words work n at sort levels x r h q =
    subst (λ g. Outcome (nodes_at words n) n at g (Err x) work work)
    (sym (ap (scan levels sort at) (node_here words n r.sized at h) ∙ fault_first levels at _ _ sort _ x q))
    (record { answer = refl; kept = kept_same n work })

-- no level left
deep_first : (at k w : ℕ) (sort : Sort) (rest : List Node) (kind : Kind) → passing sort k w at ≡ Ok kind → scan 0 sort at (a_node k w ∷ rest) ≡ refused Refusals.Depth at
unfolding scan
deep_first at k w sort rest kind q = rw (node_checked sort k w at rest, q)

pub deep_node : (words work : List ℕ) (n at : ℕ) (sort : Sort) (levels : ℕ) (kind : Kind) → Readable work words n at → at < n →
    passing sort (kind_at words at) (operand_at words n at) at ≡ Ok kind → levels ≡ 0 →
    NodeOutcome words n at sort levels (refused_at Refusals.Depth at) work work
deep_node words work n at sort levels kind r h q z =
    subst (λ g. Outcome (nodes_at words n) n at g (refused_at Refusals.Depth at) work work)
    (sym (ap (λ d. scan d sort at (drop at (nodes_at words n))) z ∙ ap (scan 0 sort at) (node_here words n r.sized at h) ∙ deep_first at _ _ sort _ kind q))
    (record { answer = refl; kept = kept_same n work })

-- with its children: the reader goes on with their sorts
opened_node : (words : List ℕ) (n at : ℕ) (sort : Sort) (d : ℕ) (kind : Kind) → length words ≡ 2 + 2 * n → at < n →
    passing sort (kind_at words at) (operand_at words n at) at ≡ Ok kind →
    scan (suc d) sort at (drop at (nodes_at words n))
    ≡ then (scan_list (scan d) (child_sorts kind (operand_at words n at)) (at + 1) (drop (at + 1) (nodes_at words n)))
    (λ below. give (node_words (kind_at words at) (operand_at words n at) at below))
unfolding scan
opened_node words n at sort d kind sized h q =
    let k = get_or words (2 + at) 0 in
    let w = get_or words (2 + n + at) 0 in
    ap (scan (suc d) sort at) (node_here words n sized at h)
    ∙ rw (node_checked sort k w at (drop (at + 1) (nodes_at words n)), q, number_of k kind (passing_known sort k w at kind q))
    (ap (λ i. then (scan_list (scan d) (child_sorts kind w) i (drop (at + 1) (nodes_at words n))) (λ below. give (node_words k w at below))) (sym (add-one at)))

-- what was refused stays so, whatever would follow
pub refused_then : (nodes : List Node) (n i at : ℕ) (x : Refused) (g : Got (List ℕ)) (k : List ℕ → Read (List ℕ)) (r : Result ℕ Refused) (work work' : List ℕ) →
    Outcome nodes n i g r work work' → r ≡ Err x → Outcome nodes n at (then g k) (Err x) work work'
refused_then nodes n i at x (refused y q) k r work work' o e = record { answer = sym e ∙ o.answer; kept = o.kept }
refused_then nodes n i at x (got ws j rest) k r work work' o e = absurd cc

-- the children were read: the node's own word is put before theirs
finish_next : (nodes : List Node) (n at k w end : ℕ) (g : Got (List ℕ)) (r : Result ℕ Refused) (work work' : List ℕ) → Outcome nodes n (at + 1) g r work work' → r ≡ Ok end →
    Outcome nodes n at (then g (λ below. give (node_words k w at below))) (Ok end) work (set work' at (pack k w end))
finish_next nodes n at k w end (refused y q) r work work' o e = absurd cc
finish_next nodes n at k w end (got ws j rest) r work work' o e =
    record {
      answer = ap Ok ends;
      written =
          ap (λ v. set v at (pack k w end)) (o.written ∙ ap (λ i. put i ws work) (add-one at))
          ∙ set_put at (pack k w end) ws work
          ∙ ap (λ i. put at (pack k w i ∷ ws) work) (ends ∙ after);
      counted = after;
      within = o.within;
      remaining = o.remaining;
    }
  where
    ends : end ≡ j
    ends = cc

    after : j ≡ at + suc (length ws)
    after = omega (arith, o.counted)

-- What `read_node` answers, from what its children's reading did.
module _ (words work work' : List ℕ) (n at : ℕ) (sort : Sort) (levels : ℕ) (kind : Kind) (r : Result ℕ Refused) (readable : Readable work words n at) (here : at < n)
    (sound : passing sort (kind_at words at) (operand_at words n at) at ≡ Ok kind) (deep : ¬ (levels ≡ 0))
    (sorts : List Sort) (its_sorts : sorts ≡ child_sorts kind (operand_at words n at)) (children : ChildrenOutcome words n (at + 1) sorts (levels - 1) r work work') where
  abbrev number : ℕ
  number = kind_at words at

  abbrev operand : ℕ
  operand = operand_at words n at

  abbrev children_read : Got (List ℕ)
  children_read = scan_list (scan (levels - 1)) sorts (at + 1) (drop (at + 1) (nodes_at words n))

  opened_here : scan levels sort at (drop at (nodes_at words n)) ≡ then children_read (λ below. give (node_words number operand at below))
  opened_here =
      ap (λ d. scan d sort at (drop at (nodes_at words n))) (level levels deep)
      ∙ opened_node words n at sort (levels - 1) kind readable.sized here sound
      ∙ ap (λ l. then (scan_list (scan (levels - 1)) l (at + 1) (drop (at + 1) (nodes_at words n))) (λ below. give (node_words number operand at below))) (sym its_sorts)
    where
      level : (d : ℕ) → ¬ (d ≡ 0) → d ≡ suc (d - 1)
      level d z = omega (arith, z)

  pub node_refused : (x : Refused) → r ≡ Err x → NodeOutcome words n at sort levels (Err x) work work'
  node_refused x e =
      subst (λ g. Outcome (nodes_at words n) n at g (Err x) work work') (sym opened_here)
      (refused_then (nodes_at words n) n (at + 1) at x children_read (λ below. give (node_words number operand at below)) r work work' children e)

  pub node_next : (end : ℕ) → r ≡ Ok end → NodeOutcome words n at sort levels (Ok end) work (set work' at (pack number operand end))
  node_next end e =
      subst (λ g. Outcome (nodes_at words n) n at g (Ok end) work (set work' at (pack number operand end))) (sym opened_here)
      (finish_next (nodes_at words n) n at number operand end children_read r work work' children e)

pub child_readable : (words work : List ℕ) (n at : ℕ) → Readable work words n at → at < n → Readable work words n (at + 1)
child_readable words work n at r h = record { sized = r.sized; few = r.few; room = r.room; within = omega arith }
