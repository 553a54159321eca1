-- Entries of names in the work words: writing one, what stays, and the need that a name is found to have.
use Prim.Native.Nat.{ℕ, suc, ◌+◌, ◌*◌, ◌/◌, ◌%◌, ◌<◌, ◌≤◌}
use mathlib.Core.Path.{◌≡◌, refl, sym, ap, ◌∙◌, subst}
use mathlib.Core.List.{List, ◌∷◌}
use mathlib.Core.Logic.{◌≢◌}
use native.Mathlib.Omega.{arith}
use lib.Dec.{T, eqb, eqb→eq, eqb_refl}
use lib.ListN.{length, get_or, set, length-set}
use lib.Seq.{get_or-set_same, get_or-set_other}
use Rattle.rules.specs.paper.Limits.{most_nodes, names}
use Rattle.rules.specs.paper.Needs.{NameNeed, Needs, need_of}
use Rattle.rules.specs.paper.Needs as Rules
use Rattle.rules.proofs.Basics.{true_test, false_test}
use Rattle.reader.specs.StoredLaws.{SameNodes}
use Rattle.estimator.specs.Figures.{numbers, figures}
use Rattle.estimator.proofs.FigureLaws.{same_need}
use Rattle.estimator.specs.Entries.{pointers_from, pointed_needs_from, entries_end, row_of, need_at, room, name_word, sizes_word, others_word, SmallFigures, HasEntry, WritesEntriesFrom, KeptEntry, NamesAt, no_entries, one_name, EntryAt, NeedFoundAt}
use Rattle.estimator.specs.declared.figures.Need.{Need}

-- ---- Writing an entry.

pub entry_kept : (words : List ℕ) (node name link : ℕ) (n : Need) → entries_end ≤ length words → node < most_nodes → name < names → link ≤ node →
    KeptEntry words (set (set (set words (row_of node) (name_word name link)) (need_at node) (sizes_word n)) (need_at node + 1) (others_word n)) node name link n
entry_kept words node name link n long low named linked =
    record {
      entry = record {
        row_word =
            get_or-set_other two (need_at node + 1) (row_of node) (others_word n) 0 (omega (arith, low))
            ∙ get_or-set_other one (need_at node) (row_of node) (sizes_word n) 0 (omega (arith, low))
            ∙ get_or-set_same words (row_of node) (name_word name link) 0 (omega (arith, long, low));
        first_word =
            get_or-set_other two (need_at node + 1) (need_at node) (others_word n) 0 (omega arith)
            ∙ get_or-set_same one (need_at node) (sizes_word n) 0 (omega (arith, long, low, one_long));
        second_word = get_or-set_same two (need_at node + 1) (others_word n) 0 (omega (arith, long, low, one_long, two_long));
        node_low = low;
        name_low = named;
        link_low = linked;
      };
      others = record {
        same_length = length-set two (need_at node + 1) (others_word n) ∙ two_long ∙ one_long;
        same_below = λ i l. elsewhere i (omega (arith, l)) (omega (arith, l, low)) (omega (arith, l, low));
        same_needs = λ i h l. elsewhere i (omega (arith, h, low)) (omega (arith, l)) (omega (arith, l));
        same_beyond = λ i l. elsewhere i (omega (arith, l, low)) (omega (arith, l, low)) (omega (arith, l, low));
      };
    }
  where
    one : List ℕ
    one = set words (row_of node) (name_word name link)

    two : List ℕ
    two = set one (need_at node) (sizes_word n)

    one_long : length one ≡ length words
    one_long = length-set words (row_of node) (name_word name link)

    two_long : length two ≡ length one
    two_long = length-set one (need_at node) (sizes_word n)

    elsewhere : (i : ℕ) → i ≢ row_of node → i ≢ need_at node → i ≢ need_at node + 1 → get_or (set two (need_at node + 1) (others_word n)) i 0 ≡ get_or words i 0
    elsewhere i f g h =
        get_or-set_other two (need_at node + 1) i (others_word n) 0 h
        ∙ get_or-set_other one (need_at node) i (sizes_word n) 0 g
        ∙ get_or-set_other words (row_of node) i (name_word name link) 0 f

-- ---- Reading one.

-- Every number of the figures is below the room that it has.
pub figures_small : (n : Rules.Need) → SmallFigures (figures n)
figures_small n = record { control_small = omega arith; values_small = omega arith; cells_small = omega arith; bindings_small = omega arith; steps_small = omega arith; all_steps_small = omega arith }

first_of : (a b c : ℕ) → a < room → (a + room * b + room * room * c) % room ≡ a
first_of a b c h = omega arith

second_of : (a b c : ℕ) → a < room → b < room → (a + room * b + room * room * c) / room % room ≡ b
second_of a b c h g = omega arith

third_of : (a b c : ℕ) → a < room → b < room → c < room → (a + room * b + room * room * c) / (room * room) % room ≡ c
third_of a b c h g k = omega arith

-- The six numbers of an entry, unpacked.
pub entry_read : (words : List ℕ) (at : ℕ) →
    EntryAt words at
    (numbers (get_or words (pointed_needs_from + 2 * at) 0 % room) (get_or words (pointed_needs_from + 2 * at) 0 / room % room) (get_or words (pointed_needs_from + 2 * at) 0 / (room * room) % room) (get_or words (pointed_needs_from + 2 * at + 1) 0 % room)
    (get_or words (pointed_needs_from + 2 * at + 1) 0 / room % room) (get_or words (pointed_needs_from + 2 * at + 1) 0 / (room * room) % room))
entry_read words at k x l n q e =
    same_need (ap (λ w. w % room) second ∙ first_of m.control m.values m.cells small.control_small)
    (ap (λ w. w / room % room) second ∙ second_of m.control m.values m.cells small.control_small small.values_small)
    (ap (λ w. w / (room * room) % room) second ∙ third_of m.control m.values m.cells small.control_small small.values_small small.cells_small)
    (ap (λ w. w % room) third ∙ first_of m.bindings m.steps m.all_steps small.bindings_small)
    (ap (λ w. w / room % room) third ∙ second_of m.bindings m.steps m.all_steps small.bindings_small small.steps_small)
    (ap (λ w. w / (room * room) % room) third ∙ third_of m.bindings m.steps m.all_steps small.bindings_small small.steps_small small.all_steps_small)
  where
    m : Need
    m = figures n

    small : SmallFigures (figures n)
    small = figures_small n

    second : get_or words (pointed_needs_from + 2 * at) 0 ≡ sizes_word (figures n)
    second = ap (λ i. get_or words i 0) (omega (arith, q)) ∙ e.first_word

    third : get_or words (pointed_needs_from + 2 * at + 1) 0 ≡ others_word (figures n)
    third = ap (λ i. get_or words i 0) (omega (arith, q)) ∙ e.second_word

-- ---- Looking for a name.

-- So far the name was not met: the names from here on give it the same need.
abbrev pub Walked : List ℕ → (scope name at : ℕ) → Type 0
Walked words scope name at = (N : Needs) → NamesAt words scope N → (M : Needs) × NamesAt words at M × (need_of name N ≡ need_of name M)

pub walk_start : (words : List ℕ) (scope name : ℕ) → Walked words scope name scope
walk_start words scope name N s = (N, s, refl)

-- The entry that a pointer other than 0 points at.
pub record Pointed (words : List ℕ) (at : ℕ) (M : Needs) : Type 0 where
  pub node : ℕ
  pub link : ℕ
  pub newest : NameNeed
  pub older : Needs
  pub is_node : at ≡ suc node
  pub whole : M ≡ newest ∷ older
  pub entry : HasEntry words node newest.name link (figures newest.need)
  pub names_older : NamesAt words link older

pub pointed : {words : List ℕ} {at : ℕ} {M : Needs} → NamesAt words at M → (at ≡ 0 → ⊥) → Pointed words at M
pointed (no_entries e) f = absurd (f refl)
pointed (one_name {k = k} {l = l} {n = n} {N = N} e s) f = record { node = k; link = l; newest = n; older = N; is_node = refl; whole = refl; entry = e; names_older = s }

first_there : {words : List ℕ} {at : ℕ} {M : Needs} (p : Pointed words at M) → get_or words (pointers_from + at) 0 ≡ name_word p.newest.name p.link
first_there {words} p = ap (λ i. get_or words i 0) (omega (arith, p.is_node)) ∙ p.entry.row_word

name_there : {words : List ℕ} {at : ℕ} {M : Needs} (p : Pointed words at M) → get_or words (pointers_from + at) 0 % names ≡ p.newest.name
name_there {words} p = ap (λ w. w % names) (first_there p) ∙ lowest p.newest.name p.link p.entry.name_low
  where
    lowest : (x l : ℕ) → x < names → (x + names * l) % names ≡ x
    lowest x l h = omega arith

link_there : {words : List ℕ} {at : ℕ} {M : Needs} (p : Pointed words at M) → get_or words (pointers_from + at) 0 / names ≡ p.link
link_there {words} p = ap (λ w. w / names) (first_there p) ∙ highest p.newest.name p.link p.entry.name_low
  where
    highest : (x l : ℕ) → x < names → (x + names * l) / names ≡ l
    highest x l h = omega arith

module _ (words : List ℕ) (scope name at : ℕ) (some_names : (N : Needs) × NamesAt words scope N) (walked : Walked words scope name at) (left : at ≡ 0 → ⊥) where
  here : Pointed words at (walked some_names.0 some_names.1).0
  here = pointed (walked some_names.0 some_names.1).1 left

  pub walk_low : (1 ≤ at) × (at ≤ most_nodes)
  walk_low = (omega (arith, here.is_node), omega (arith, here.is_node, here.entry.node_low))

  pub walk_less : get_or words (pointers_from + at) 0 / names < at
  walk_less = omega (arith, link_there here, here.is_node, here.entry.link_low)

  pub walk_on : (get_or words (pointers_from + at) 0 % names ≡ name → ⊥) → Walked words scope name (get_or words (pointers_from + at) 0 / names)
  unfolding need_of
  walk_on other N s =
      let w = walked N s in
      let p = pointed w.1 left in
      (p.older, subst (λ l. NamesAt words l p.older) (sym (link_there p)) p.names_older, w.2 ∙ ap (need_of name) p.whole ∙ passed_by p)
    where
      passed_by : {M : Needs} (p : Pointed words at M) → need_of name (p.newest ∷ p.older) ≡ need_of name p.older
      passed_by p = rw (false_test (eqb p.newest.name name) (λ t. other (name_there p ∙ eqb→eq p.newest.name name t)))

  pub walk_found : get_or words (pointers_from + at) 0 % names ≡ name → (r : Need) → EntryAt words at r → NeedFoundAt words scope name r
  unfolding need_of
  walk_found this r e N s =
      let w = walked N s in
      let p = pointed w.1 left in
      e p.node p.newest.name p.link p.newest.need p.is_node p.entry ∙ ap figures (sym (w.2 ∙ ap (need_of name) p.whole ∙ found_here p))
    where
      found_here : {M : Needs} (p : Pointed words at M) → need_of name (p.newest ∷ p.older) ≡ p.newest.need
      found_here p = rw (true_test (eqb p.newest.name name) (subst (λ x. T (eqb p.newest.name x)) (sym (name_there p) ∙ this) (eqb_refl p.newest.name)))

pub walk_none : (words : List ℕ) (scope name at : ℕ) → Walked words scope name at → at ≡ 0 → (r : Need) → r ≡ numbers 0 0 0 0 0 0 → NeedFoundAt words scope name r
walk_none words scope name at walked ended r q N s = let w = walked N s in q ∙ ap figures (sym (w.2 ∙ none_there w.1 ended))
  where
    none_there : {at : ℕ} {M : Needs} → NamesAt words at M → at ≡ 0 → need_of name M ≡ Rules.nothing
    none_there (no_entries e) z = e name
    none_there (one_name {k = k} h t) z = absurd (never z)
      where
        never : suc k ≡ 0 → ⊥
        never g = omega (arith, g)

-- ---- What `WritesEntriesFrom` leaves as it was.

pub entries_same : (words : List ℕ) (node : ℕ) → WritesEntriesFrom words words node
entries_same words node = record { same_length = refl; same_below = λ i h. refl; same_needs = λ i h l. refl; same_beyond = λ i h. refl }

pub entries_lower : {words words' : List ℕ} {low node : ℕ} → WritesEntriesFrom words words' node → low ≤ node → WritesEntriesFrom words words' low
entries_lower k h = record { same_length = k.same_length; same_below = λ i l. k.same_below i (omega (arith, h, l)); same_needs = λ i m l. k.same_needs i m (omega (arith, h, l)); same_beyond = k.same_beyond }

pub entries_then : {words words' words'' : List ℕ} {low node : ℕ} → WritesEntriesFrom words words' low → WritesEntriesFrom words' words'' node → low ≤ node → WritesEntriesFrom words words'' low
entries_then a b h =
    record {
      same_length = b.same_length ∙ a.same_length;
      same_below = λ i l. b.same_below i (omega (arith, h, l)) ∙ a.same_below i l;
      same_needs = λ i m l. b.same_needs i m (omega (arith, h, l)) ∙ a.same_needs i m l;
      same_beyond = λ i l. b.same_beyond i l ∙ a.same_beyond i l;
    }

pub entries_nodes : {words words' : List ℕ} {node : ℕ} → WritesEntriesFrom words words' node → SameNodes words words'
entries_nodes k i h = k.same_below i (omega (arith, h))

-- Names that were there before.
pub names_kept : {words words' : List ℕ} {node : ℕ} → WritesEntriesFrom words words' node → {at : ℕ} {N : Needs} → at ≤ node → NamesAt words at N → NamesAt words' at N
names_kept k l (no_entries e) = no_entries e
names_kept {words} {words'} {node} k l (one_name {k = i} {l = j} {n = n} e s) =
    one_name
    (record {
      row_word = k.same_below (row_of i) (omega (arith, l)) ∙ e.row_word;
      first_word = k.same_needs (need_at i) (omega arith) (omega (arith, l)) ∙ e.first_word;
      second_word = k.same_needs (need_at i + 1) (omega arith) (omega (arith, l)) ∙ e.second_word;
      node_low = e.node_low;
      name_low = e.name_low;
      link_low = e.link_low;
    })
    (names_kept k (omega (arith, l, e.link_low)) s)
