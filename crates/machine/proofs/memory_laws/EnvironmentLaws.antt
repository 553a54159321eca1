-- Older rows stay as they are under new ones: what segments, closures and the value stack say of them.
use Prim.Native.Nat.{ℕ, zero, suc, ◌<◌, ◌≤◌}
use mathlib.Core.Path.{◌≡◌, refl, sym, ap, ◌∙◌, subst}
use mathlib.Core.Bool.{Bool, true, false, cond}
use mathlib.Core.List.{List, [], ◌∷◌}
use mathlib.Core.Option.{some}
use native.Mathlib.Omega.{arith}
use lib.Dec.{T, eqb, eqb→eq, eqb_refl}
use lib.ListN.{length}
use Rattle.rules.proofs.Basics.{missing, true_test, false_test, passed_test}
use Rattle.rules.specs.paper.Limits.{names}
use Rattle.rules.specs.paper.States.{Bindable, Environment, bound, join, Store, in_set, remove, Entry}
use Rattle.machine.specs.Layout.{link}
use Rattle.machine.specs.Regions.{Slot, slot, slots, slot_at}
use Rattle.machine.specs.Represents.{SegmentAs, no_row, one_row, BindableAs, value_as, closure_as, StoreAs, no_cell, one_cell, Since, none_since, one_since, Extends, no_more, one_more, Mode, running, ValuesAs, nothing_on, bindable_on, name_on, node_on, declared_on, saved_on, opened_on, frame_on}
use Rattle.machine.proofs.memory_laws.RegionLaws.{slots_length}

-- ---- Rows.

pub slot_within : (i : ℕ) (rows : List Slot) (s : Slot) → slot_at i rows ≡ some s → i < length rows
unfolding slot_at
slot_within i [] s q = missing q
slot_within i (t ∷ rows) s q = choose (eqb (length rows) i) refl q (slot_within i rows s)
  where
    choose : (b : Bool) → eqb (length rows) i ≡ b → cond b (some t) (slot_at i rows) ≡ some s → (slot_at i rows ≡ some s → i < length rows) → i < suc (length rows)
    choose true u e older = omega (arith, eqb→eq (length rows) i (passed_test u))
    choose false u e older = omega (arith, older e)

pub slot_older : (i : ℕ) (rows : List Slot) (s t : Slot) → slot_at i rows ≡ some s → slot_at i (t ∷ rows) ≡ some s
unfolding slot_at
slot_older i rows s t q = rw (false_test (eqb (length rows) i) (λ e. apart (eqb→eq (length rows) i e) (slot_within i rows s q))) q
  where
    apart : length rows ≡ i → i < length rows → ⊥
    apart e l = omega arith

pub slot_newest : (rows : List Slot) (s : Slot) → slot_at (length rows) (s ∷ rows) ≡ some s
unfolding slot_at
slot_newest rows s = rw (true_test (eqb (length rows) (length rows)) (eqb_refl (length rows)))

-- ---- One row more.

mutual
  pub segment_grows : {nodes : List ℕ} {rows : List Slot} {p q : ℕ} {E : Environment} (s : Slot) → SegmentAs nodes rows p q E → SegmentAs nodes (s ∷ rows) p q E
  segment_grows s no_row = no_row
  segment_grows s (one_row f l x t q b h) = one_row (slot_older _ _ _ s f) l x t q (bindable_grows s b) (segment_grows s h)

  pub bindable_grows : {nodes : List ℕ} {rows : List Slot} {t w : ℕ} {b : Bindable} (s : Slot) → BindableAs nodes rows t w b → BindableAs nodes (s ∷ rows) t w b
  bindable_grows s (value_as v) = value_as v
  bindable_grows s (closure_as q l h e) = closure_as q l h (segment_grows s e)

pub values_grows : {nodes : List ℕ} {rows : List Slot} {base d p : ℕ} {E : Environment} {m : Mode} {ws : List Slot} {X : List Entry} (s : Slot) →
    ValuesAs nodes rows base d p E m ws X → ValuesAs nodes (s ∷ rows) base d p E m ws X
values_grows s nothing_on = nothing_on
values_grows s (bindable_on b h) = bindable_on (bindable_grows s b) (values_grows s h)
values_grows s (name_on q l h) = name_on q l (values_grows s h)
values_grows s (node_on n h) = node_on n (values_grows s h)
values_grows s (declared_on d h) = declared_on (segment_grows s d) (values_grows s h)
values_grows s (saved_on q d f h) = saved_on q (segment_grows s d) (segment_grows s f) (values_grows s h)
values_grows s (opened_on x l e k w h) = opened_on (one_more x) l e k w h
values_grows s (frame_on q x l e k w h) = frame_on q (one_more x) l e k w h

-- A name bound in a new row, on an environment.
pub segment_new : {nodes : List ℕ} {rows : List Slot} {q r x t p : ℕ} {b : Bindable} {E : Environment} (d w : ℕ) → d ≡ suc (length rows) → w ≡ link x t q → x < names → t < 2 → q ≤ length rows →
    BindableAs nodes rows t p b → SegmentAs nodes rows q r E → SegmentAs nodes (slot w p ∷ rows) d r (bound x b E)
segment_new {nodes} {rows} {r = r} {x = x} {p = p} {b = b} {E = E} d w e l n t q h s =
    subst (λ k. SegmentAs nodes (slot w p ∷ rows) k r (bound x b E)) (sym e) (one_row (slot_newest rows (slot w p)) l n t q (bindable_grows (slot w p) h) (segment_grows (slot w p) s))

-- ---- Rows on top.

pub segment_under : {nodes : List ℕ} {older rows : List Slot} {p q : ℕ} {E : Environment} → Extends older rows → SegmentAs nodes older p q E → SegmentAs nodes rows p q E
segment_under no_more h = h
segment_under (one_more {s = s} x) h = segment_grows s (segment_under x h)

pub bindable_under : {nodes : List ℕ} {older rows : List Slot} {t w : ℕ} {b : Bindable} → Extends older rows → BindableAs nodes older t w b → BindableAs nodes rows t w b
bindable_under no_more h = h
bindable_under (one_more {s = s} x) h = bindable_grows s (bindable_under x h)

pub values_under : {nodes : List ℕ} {older rows : List Slot} {base d p : ℕ} {E : Environment} {m : Mode} {ws : List Slot} {X : List Entry} → Extends older rows →
    ValuesAs nodes older base d p E m ws X → ValuesAs nodes rows base d p E m ws X
values_under no_more h = h
values_under (one_more {s = s} x) h = values_grows s (values_under x h)

-- Rows cut to the older ones.
pub record Cut (l p k : ℕ) (words : List ℕ) (older : List Slot) (n : ℕ) : Type 0 where
  pub are : older ≡ slots l p n words
  pub within : n ≤ k

pub cut : (l p : ℕ) (words : List ℕ) (older : List Slot) (k : ℕ) (rows : List Slot) (n : ℕ) → rows ≡ slots l p k words → Extends older rows → length older ≡ n → Cut l p k words older n
unfolding slots
cut l p words older k rows n e no_more q = let same = sym q ∙ ap (λ r. length r) e ∙ slots_length l p k words in record { are = e ∙ ap (λ j. slots l p j words) (sym same); within = omega (arith, same) }
cut l p words older zero rows n e (one_more {rows = below} x) q = absurd (none_left (length below) (ap (λ r. length r) e))
  where
    none_left : (j : ℕ) → suc j ≡ 0 → ⊥
    none_left j h = omega arith
cut l p words older (suc k) rows n e (one_more x) q = let c = cut l p words older k _ n (ap tail e) x q in record { are = c.are; within = omega (arith, c.within) }
  where
    tail : List Slot → List Slot
    tail [] = []
    tail (s ∷ ss) = ss

-- ---- Environments.

pub segment_join : {nodes : List ℕ} {rows : List Slot} {p q r : ℕ} {D E : Environment} → SegmentAs nodes rows p q D → SegmentAs nodes rows q r E → SegmentAs nodes rows p r (join D E)
unfolding join
segment_join no_row h = h
segment_join (one_row f l x t q b d) h = one_row f l x t q b (segment_join d h)

-- The pointer of an environment is at most the count of the rows.
pub segment_low : {nodes : List ℕ} {rows : List Slot} {p q : ℕ} {E : Environment} → SegmentAs nodes rows p q E → q ≤ length rows → p ≤ length rows
segment_low no_row l = l
segment_low (one_row f e x t q b h) l = omega (arith, slot_within _ _ _ f)

pub pointer_low : {nodes : List ℕ} {rows : List Slot} {p : ℕ} {E : Environment} → SegmentAs nodes rows p 0 E → p ≤ length rows
pointer_low h = segment_low h (omega arith)

-- While commands run the value stack knows the environment by what is saved alone.
pub values_running : {nodes : List ℕ} {rows : List Slot} {base d p : ℕ} {E : Environment} {ms : List ℕ} {ws : List Slot} {X : List Entry} (d' p' : ℕ) (E' : Environment) →
    ValuesAs nodes rows base d p E (running ms) ws X → ValuesAs nodes rows base d' p' E' (running ms) ws X
values_running d' p' E' nothing_on = nothing_on
values_running d' p' E' (bindable_on b h) = bindable_on b (values_running d' p' E' h)
values_running d' p' E' (name_on q l h) = name_on q l (values_running d' p' E' h)
values_running d' p' E' (node_on n h) = node_on n (values_running d' p' E' h)
values_running d' p' E' (frame_on q x l e k w h) = frame_on q x l e k w h

-- ---- Cells.

pub since_low : {base k : ℕ} {L : List ℕ} → Since base k L → base ≤ k
since_low none_since = omega arith
since_low (one_since h) = omega (arith, since_low h)

remove_none : (S : Store) → remove [] S ≡ S
unfolding remove in_set
remove_none [] = refl
remove_none (c ∷ S) = ap {B = Store} (λ r. c ∷ r) (remove_none S)

-- A location that no cell of the store has need not be removed.
remove_unused : {cells : List Slot} {S : Store} (k : ℕ) (L : List ℕ) → length cells ≤ k → StoreAs cells S → remove (k ∷ L) S ≡ remove L S
unfolding remove in_set
remove_unused k L h no_cell = refl
remove_unused k L h (one_cell {cells = cells} {c = c} e v g) =
    rw (false_test (eqb k c.where_at) (λ t. clash (eqb→eq k c.where_at t) e h), remove_unused k L (shorter h) g)
  where
    clash : k ≡ c.where_at → c.where_at ≡ length cells → suc (length cells) ≤ k → ⊥
    clash p q r = omega arith

    shorter : suc (length cells) ≤ k → length cells ≤ k
    shorter r = omega arith

record Older (cells : List Slot) (L : List ℕ) (S : Store) : Type 0 where
  pub store : Store
  pub store_as : StoreAs cells store
  pub removed : remove (length cells ∷ L) S ≡ remove L store

older_cells : {s : Slot} {cells : List Slot} {S : Store} (L : List ℕ) → StoreAs (s ∷ cells) S → Older cells L S
unfolding remove in_set
older_cells L (one_cell {cells = cells} {c = c} {S = S} e v h) =
    record {
      store = S;
      store_as = h;
      removed = rw (true_test (eqb (length cells) c.where_at) (subst (λ k. T (eqb (length cells) k)) (sym e) (eqb_refl (length cells)))) (remove_unused (length cells) L (omega arith) h);
    }

-- Removing the cells made since there were so many leaves those that there were.
pub removed_since : (l p : ℕ) (words : List ℕ) (base : ℕ) {k : ℕ} {L : List ℕ} {S : Store} → Since base k L → StoreAs (slots l p k words) S → StoreAs (slots l p base words) (remove L S)
unfolding slots
removed_since l p words base {S = S} none_since h = subst (StoreAs (slots l p base words)) (sym (remove_none S)) h
removed_since l p words base {S = S} (one_since {k = k} {L = L} g) h =
    let o = older_cells L h in
    subst (StoreAs (slots l p base words)) (sym (subst (λ j. remove (j ∷ L) S ≡ remove L o.store) (slots_length l p k words) o.removed)) (removed_since l p words base g o.store_as)
