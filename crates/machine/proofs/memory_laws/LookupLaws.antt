-- A look-up along the rows of an environment.
use Prim.Native.Nat.{ℕ, zero, suc, ◌+◌, ◌-◌, ◌/◌, ◌%◌, ◌<◌, ◌≤◌}
use mathlib.Core.Path.{◌≡◌, refl, sym, ap, ◌∙◌, subst}
use mathlib.Core.Bool.{Bool, true, false, cond}
use mathlib.Core.List.{List}
use mathlib.Core.Option.{some, some-injective}
use native.Mathlib.Omega.{arith}
use lib.Dec.{T, eqb, eqb→eq, eqb_refl}
use lib.ListN.{length, get_or}
use Rattle.rules.proofs.Basics.{missing, passed_test, failed_test}
use Rattle.rules.specs.paper.States.{Bindable, Environment, lookup}
use Rattle.machine.specs.Layout.{row_labels, row_payloads, row_at_pointer, link}
use Rattle.machine.specs.Regions.{Slot, slot, slots, slot_at}
use Rattle.machine.specs.Represents.{SegmentAs, no_row, one_row, BindableAs}
use Rattle.machine.specs.Lookup.{RowOf}
use Rattle.machine.proofs.memory_laws.RegionLaws.{slots_length}

-- The words of a slot.
pub record SlotWords (l p k : ℕ) (words : List ℕ) (i : ℕ) (s : Slot) : Type 0 where
  pub within : i < k
  pub label_word : s.label ≡ get_or words (l + i) 0
  pub payload_word : s.payload ≡ get_or words (p + i) 0

pub slot_words : (l p k : ℕ) (words : List ℕ) (i : ℕ) (s : Slot) → slot_at i (slots l p k words) ≡ some s → SlotWords l p k words i s
unfolding slot_at slots
slot_words l p zero words i s q = missing q
slot_words l p (suc k) words i s q = choose (eqb (length (slots l p k words)) i) refl q (slot_words l p k words i s)
  where
    here : Slot
    here = slot (get_or words (l + k) 0) (get_or words (p + k) 0)

    choose : (t : Bool) → eqb (length (slots l p k words)) i ≡ t → cond t (some (slot (get_or words (l + k) 0) (get_or words (p + k) 0))) (slot_at i (slots l p k words)) ≡ some s →
        (slot_at i (slots l p k words) ≡ some s → SlotWords l p k words i s) → SlotWords l p (suc k) words i s
    choose true u e older = at_top (sym (slots_length l p k words) ∙ eqb→eq (length (slots l p k words)) i (passed_test u)) (some-injective _ s e)
      where
        at_top : k ≡ i → slot (get_or words (l + k) 0) (get_or words (p + k) 0) ≡ s → SlotWords l p (suc k) words i s
        at_top g h =
            record {
              within = omega (arith, g);
              label_word = sym (ap (λ z. z.label) h) ∙ ap (λ n. get_or words (l + n) 0) g;
              payload_word = sym (ap (λ z. z.payload) h) ∙ ap (λ n. get_or words (p + n) 0) g;
            }
    choose false u e older = let o = older e in record { within = omega (arith, o.within); label_word = o.label_word; payload_word = o.payload_word }

-- The newest row of an environment in which a name is found.
pub record FirstRow (nodes : List ℕ) (rows : List Slot) (at name : ℕ) (b : Bindable) : Type 0 where
  pub row : ℕ
  pub x : ℕ
  pub t : ℕ
  pub q : ℕ
  pub words_of : Slot
  pub first : Bindable
  pub rest : Environment
  pub at_is : at ≡ suc row
  pub found : slot_at row rows ≡ some words_of
  pub label_is : words_of.label ≡ link x t q
  pub name_low : x < 64
  pub label_low : t < 2
  pub below_low : q ≤ row
  pub bound_to : BindableAs nodes rows t words_of.payload first
  pub below : SegmentAs nodes rows q 0 rest
  pub looked : cond (eqb x name) (some first) (lookup name rest) ≡ some b

pub first_row : {nodes : List ℕ} {rows : List Slot} {at : ℕ} {E : Environment} (name : ℕ) (b : Bindable) → SegmentAs nodes rows at 0 E → lookup name E ≡ some b → FirstRow nodes rows at name b
unfolding lookup
first_row name b no_row q = missing q
first_row name b (one_row {i = i} {q = q} {x = x} {t = t} {s = s} {b = c} {E = E} f l nl tl ql h below) e =
    record { row = i; x = x; t = t; q = q; words_of = s; first = c; rest = E; at_is = refl; found = f; label_is = l; name_low = nl; label_low = tl; below_low = ql; bound_to = h; below = below; looked = e }

link_name : (x t q : ℕ) → x < 64 → link x t q % 64 ≡ x
link_name x t q h = omega arith

link_pointer : (x t q : ℕ) → x < 64 → t < 2 → link x t q / 128 ≡ q
link_pointer x t q h g = omega arith

module _ (nodes : List ℕ) (bindings : ℕ) (words : List ℕ) (at name : ℕ) (b : Bindable) where
  abbrev Rows : List Slot
  Rows = slots row_labels row_payloads bindings words

  pub row_low : FirstRow nodes Rows at name b → (0 < at) × (at ≤ bindings)
  row_low f = let w = slot_words row_labels row_payloads bindings words f.row f.words_of f.found in (omega (arith, f.at_is), omega (arith, f.at_is, w.within))

  -- The word that the code reads is the first row's.
  pub row_word : (f : FirstRow nodes Rows at name b) → get_or words (row_at_pointer + at) 0 ≡ link f.x f.t f.q
  row_word f =
      ap (λ n. get_or words n 0) (place f.row f.at_is) ∙ sym (slot_words row_labels row_payloads bindings words f.row f.words_of f.found).label_word ∙ f.label_is
    where
      place : (i : ℕ) → at ≡ suc i → row_at_pointer + at ≡ row_labels + i
      place i q = omega arith

  pub row_found : (f : FirstRow nodes Rows at name b) → get_or words (row_at_pointer + at) 0 % 64 ≡ name →
      RowOf nodes Rows name b (at - 1) (get_or words (row_labels + (at - 1)) 0) (get_or words (row_payloads + (at - 1)) 0)
  row_found f e = by_name (eqb f.x name) refl f.looked
    where
      same : f.x ≡ name
      same = sym (link_name f.x f.t f.q f.name_low) ∙ sym (ap (λ w. w % 64) (row_word f)) ∙ e

      number : at - 1 ≡ f.row
      number = omega (arith, f.at_is)

      w : SlotWords row_labels row_payloads bindings words f.row f.words_of
      w = slot_words row_labels row_payloads bindings words f.row f.words_of f.found

      by_name : (t : Bool) → eqb f.x name ≡ t → cond t (some f.first) (lookup name f.rest) ≡ some b →
          RowOf nodes Rows name b (at - 1) (get_or words (row_labels + (at - 1)) 0) (get_or words (row_payloads + (at - 1)) 0)
      by_name true u q =
          record {
            value_label = f.t;
            pointer = f.q;
            within = omega (arith, slots_length row_labels row_payloads bindings words, w.within, number);
            label_is = ap (λ n. get_or words (row_labels + n) 0) number ∙ sym w.label_word ∙ f.label_is ∙ ap (λ x. link x f.t f.q) same;
            name_low = omega (arith, f.name_low, same);
            value_label_low = f.label_low;
            bound_to =
                subst (λ p. BindableAs nodes Rows f.t p b) (w.payload_word ∙ sym (ap (λ n. get_or words (row_payloads + n) 0) number))
                (subst (BindableAs nodes Rows f.t f.words_of.payload) (some-injective f.first b q) f.bound_to);
          }
      by_name false u q = absurd (failed_test u (subst (λ y. T (eqb f.x y)) same (eqb_refl f.x)))

  pub record Further (next : ℕ) : Type 0 where
    pub outer : Environment
    pub segment : SegmentAs nodes Rows next 0 outer
    pub looked : lookup name outer ≡ some b

  -- Another name: the look-up goes on below, at a smaller pointer.
  pub row_further : (f : FirstRow nodes Rows at name b) → (get_or words (row_at_pointer + at) 0 % 64 ≡ name → ⊥) → Further (get_or words (row_at_pointer + at) 0 / 128)
  row_further f d = by_name (eqb f.x name) refl f.looked
    where
      next : get_or words (row_at_pointer + at) 0 / 128 ≡ f.q
      next = ap (λ w. w / 128) (row_word f) ∙ link_pointer f.x f.t f.q f.name_low f.label_low

      by_name : (t : Bool) → eqb f.x name ≡ t → cond t (some f.first) (lookup name f.rest) ≡ some b → Further (get_or words (row_at_pointer + at) 0 / 128)
      by_name true u q = absurd (d (ap (λ w. w % 64) (row_word f) ∙ link_name f.x f.t f.q f.name_low ∙ eqb→eq f.x name (passed_test u)))
      by_name false u q = record { outer = f.rest; segment = subst (λ p. SegmentAs nodes Rows p 0 f.rest) (sym next) f.below; looked = q }

  pub row_falls : (f : FirstRow nodes Rows at name b) → get_or words (row_at_pointer + at) 0 / 128 < at
  row_falls f = omega (arith, ap (λ w. w / 128) (row_word f) ∙ link_pointer f.x f.t f.q f.name_low f.label_low, f.below_low, f.at_is)
