-- Reading a node's children one after the other: what the code has to show of one child, and of those read so far.
use Prim.Native.Nat.{ℕ, ◌+◌, ◌≤◌}
use mathlib.Core.Path.{◌≡◌, refl, sym, ap, ◌∙◌, subst}
use mathlib.Core.List.{List, ◌∷◌, ◌++◌}
use native.Mathlib.Omega.{arith}
use native.Mathlib.Nat.{add-zero}
use lib.ListN.{length, drop, length-append, drop_of_length-le}
use Rattle.std.specs.Prelude.{Result, Ok, Err}
use Rattle.rules.specs.declared.refusals.Refused.{Refused}
use Rattle.rules.specs.declared.kinds.Sort.{Sort}
use Rattle.rules.specs.paper.Reader.{Node, Got, refused, got, then, ◌>>=◌, give}
use Rattle.reader.specs.Put.{put, put_length, put_none, put_append, put_beyond}
use Rattle.reader.specs.Scan.{scan_list, scan}
use Rattle.reader.specs.Answers.{nodes_at, Readable, ReadOn, Outcome}
use Rattle.reader.proofs.ReadLaws.{NodeOutcome, ChildrenOutcome, refused_then}

-- ---- One child.

no_children : (words work : List ℕ) (n at index : ℕ) (sorts : List Sort) (levels : ℕ) → Readable work words n at → length sorts ≤ index →
    ChildrenOutcome words n at (drop index sorts) levels (Ok at) work work
unfolding scan_list
no_children words work n at index sorts levels r z =
    subst (λ l. ChildrenOutcome words n at l levels (Ok at) work work) (sym (drop_of_length-le sorts {i = index} z))
    (record { answer = refl; written = sym (put_none at work); counted = sym (add-zero at); within = r.within; remaining = refl })

-- The child of this sort comes next.
abbrev pub Sorted : List Sort → (index : ℕ) → Sort → Type 0
Sorted sorts index sort = drop index sorts ≡ sort ∷ drop (index + 1) sorts

first_child : (sorts : List Sort) (index : ℕ) (sort : Sort) (levels at : ℕ) (ns : List Node) → Sorted sorts index sort →
    scan_list (scan levels) (drop index sorts) at ns ≡ then (scan levels sort at ns) (λ a. scan_list (scan levels) (drop (index + 1) sorts) >>= λ b. give (a ++ b))
unfolding scan_list
first_child sorts index sort levels at ns q = ap (λ l. scan_list (scan levels) l at ns) q

child_refused : (words work work' : List ℕ) (n at : ℕ) (sorts : List Sort) (index : ℕ) (sort : Sort) (levels : ℕ) (x : Refused) (r : Result ℕ Refused) → Sorted sorts index sort →
    NodeOutcome words n at sort levels r work work' → r ≡ Err x →
    ChildrenOutcome words n at (drop index sorts) levels (Err x) work work'
child_refused words work work' n at sorts index sort levels x r q o e =
    subst (λ g. Outcome (nodes_at words n) n at g (Err x) work work') (sym (first_child sorts index sort levels at (drop at (nodes_at words n)) q))
    (refused_then (nodes_at words n) n at at x (scan levels sort at (drop at (nodes_at words n))) (λ a. scan_list (scan levels) (drop (index + 1) sorts) >>= λ b. give (a ++ b)) r work work' o e)

-- A child was read, and then the others.
child_next : (words work work' work'' : List ℕ) (n at : ℕ) (sorts : List Sort) (index : ℕ) (sort : Sort) (levels next : ℕ) (r s : Result ℕ Refused) → Sorted sorts index sort →
    NodeOutcome words n at sort levels r work work' → r ≡ Ok next →
    ChildrenOutcome words n next (drop (index + 1) sorts) levels s work' work'' →
    ChildrenOutcome words n at (drop index sorts) levels s work work''
child_next words work work' work'' n at sorts index sort levels next r s w o e others =
    subst (λ g. Outcome (nodes_at words n) n at g s work work'') (sym (first_child sorts index sort levels at (drop at (nodes_at words n)) w))
    (by (scan levels sort at (drop at (nodes_at words n))) o)
  where
    join : (ws : List ℕ) (rest : List Node) → ReadOn (nodes_at words n) n at ws next rest r work work' → (g : Got (List ℕ)) → Outcome (nodes_at words n) n next g s work' work'' →
        Outcome (nodes_at words n) n at (then g (λ b. give (ws ++ b))) s work work''
    join ws rest a (refused y q) b =
        record {
          answer = b.answer;
          kept = record {
            same_length = b.kept.same_length ∙ ap length a.written ∙ put_length at ws work;
            same_beyond = b.kept.same_beyond ∙ ap (drop n) a.written ∙ put_beyond n at ws work (omega (arith, a.counted, a.within));
          };
        }
    join ws rest a (got vs j rest') b =
        record {
          answer = b.answer;
          written = b.written ∙ ap (λ v. put next vs v) a.written ∙ ap (λ i. put i vs (put at ws work)) a.counted ∙ put_append at ws vs work;
          counted = omega (arith, a.counted, b.counted, length-append ws vs);
          within = b.within;
          remaining = b.remaining;
        }

    by : (g : Got (List ℕ)) → Outcome (nodes_at words n) n at g r work work' →
        Outcome (nodes_at words n) n at (then g (λ a. scan_list (scan levels) (drop (index + 1) sorts) >>= λ b. give (a ++ b))) s work work''
    by (refused y q) o = absurd cc
    by (got ws j rest) o =
        let q : j ≡ next = cc in
        let a : ReadOn (nodes_at words n) n at ws next rest r work work' = subst (λ i. ReadOn (nodes_at words n) n at ws i rest r work work') q o in
        subst (λ i. Outcome (nodes_at words n) n at (then (scan_list (scan levels) (drop (index + 1) sorts) i rest) (λ b. give (ws ++ b))) s work work'') (sym q)
        (subst (λ m. Outcome (nodes_at words n) n at (then (scan_list (scan levels) (drop (index + 1) sorts) next m) (λ b. give (ws ++ b))) s work work'') (sym a.remaining)
        (join ws rest a (scan_list (scan levels) (drop (index + 1) sorts) next (drop next (nodes_at words n))) others))

-- after a child, at the next place
later_readable : (words work work' : List ℕ) (n at levels : ℕ) (sort : Sort) (next : ℕ) (r : Result ℕ Refused) → Readable work words n at →
    NodeOutcome words n at sort levels r work work' → r ≡ Ok next → Readable work' words n next × (length work' ≡ length work)
later_readable words work work' n at levels sort next r readable o e = by (scan levels sort at (drop at (nodes_at words n))) o
  where
    by : (g : Got (List ℕ)) → Outcome (nodes_at words n) n at g r work work' → Readable work' words n next × (length work' ≡ length work)
    by (refused y q) o = absurd cc
    by (got ws j rest) o =
        let there : next ≡ j = cc in
        let same : length work' ≡ length work = ap length o.written ∙ put_length at ws work in (
          record {
            sized = readable.sized;
            few = readable.few;
            room = omega (arith, readable.room, same);
            within = omega (arith, o.within, there);
          },
          same,
        )

-- ---- Those read so far.

-- The children before this index were read: the next one may be read from here, and whatever the reading of the others comes to is what the
-- reading of all of them comes to.
pub record ReadSoFar (words : List ℕ) (n at : ℕ) (sorts : List Sort) (levels : ℕ) (before work : List ℕ) (index next : ℕ) : Type 0 where
  pub readable : Readable work words n next
  pub same_length : length work ≡ length before
  pub whole : (s : Result ℕ Refused) (after : List ℕ) → ChildrenOutcome words n next (drop index sorts) levels s work after → ChildrenOutcome words n at sorts levels s before after

pub none_read : (words work : List ℕ) (n at : ℕ) (sorts : List Sort) (levels : ℕ) → Readable work words n at → ReadSoFar words n at sorts levels work work 0 at
none_read words work n at sorts levels r = record { readable = r; same_length = refl; whole = λ s after o. o }

module _ (words before work : List ℕ) (n at : ℕ) (sorts : List Sort) (levels index next : ℕ) (so_far : ReadSoFar words n at sorts levels before work index next) where
  -- none is left
  pub all_read : length sorts ≤ index → ChildrenOutcome words n at sorts levels (Ok next) before work
  all_read z = so_far.whole (Ok next) work (no_children words work n next index sorts levels so_far.readable z)

  module _ (work' : List ℕ) (sort : Sort) (r : Result ℕ Refused) (sorted : Sorted sorts index sort) (child : NodeOutcome words n next sort levels r work work') where
    pub one_refused : (x : Refused) → r ≡ Err x → ChildrenOutcome words n at sorts levels (Err x) before work'
    one_refused x e = so_far.whole (Err x) work' (child_refused words work work' n next sorts index sort levels x r sorted child e)

    pub one_read : (end : ℕ) → r ≡ Ok end → ReadSoFar words n at sorts levels before work' (index + 1) end
    one_read end e =
        let readable = later_readable words work work' n next levels sort end r so_far.readable child e in
        record {
          readable = readable.0;
          same_length = readable.1 ∙ so_far.same_length;
          whole = λ s after o. so_far.whole s after (child_next words work work' after n next sorts index sort levels end r s sorted child e o);
        }
