-- The top of the value stack: its entries by their slots, the words in which these stand, and the stack without them.
use Prim.Native.Nat.{ℕ, zero, suc, ◌+◌, ◌-◌, ◌<◌, ◌≤◌}
use mathlib.Core.Path.{◌≡◌, refl, ap, ◌∙◌, subst}
use mathlib.Core.List.{List, [], ◌∷◌}
use native.Mathlib.Omega.{arith}
use lib.ListN.{get_or}
use Rattle.rules.specs.paper.Tree.{Command}
use Rattle.rules.specs.paper.Limits.{names}
use Rattle.rules.specs.paper.States.{Bindable, Environment, Entry, bindable, name, node}
use Rattle.machine.specs.Layout.{value_payloads, value_labels, top_payload, second_payload, top_label, second_label}
use Rattle.reader.specs.Stored.{StoredCommand}
use Rattle.machine.specs.Regions.{Slot, slots, regions, with_values}
use Rattle.machine.specs.Represents.{BindableAs, Mode, ValuesAs, bindable_on, name_on, node_on}
use Rattle.machine.specs.declared.Machine.{Machine}

-- ---- In words.

-- The machine with this height of the value stack.
abbrev pub at_height : ℕ → Machine → Machine
at_height k m =
    record {
      control = m.control;
      values = k;
      environment = m.environment;
      declared = m.declared;
      cells = m.cells;
      base = m.base;
      bindings = m.bindings;
    }

pub record OneOnTop (words : List ℕ) (m : Machine) (s : Slot) (ws : List Slot) : Type 0 where
  pub some_values : 1 ≤ m.values
  pub label_word : get_or words (top_label + m.values) 0 ≡ s.label
  pub payload_word : get_or words (top_payload + m.values) 0 ≡ s.payload
  pub popped : regions words (at_height (m.values - 1) m) ≡ with_values ws (regions words m)

one_of : (words : List ℕ) (m : Machine) (k : ℕ) (s : Slot) (ws : List Slot) → m.values ≡ k → slots value_labels value_payloads k words ≡ s ∷ ws → OneOnTop words m s ws
unfolding slots regions
one_of words m zero s ws h q = absurd (subst IsEmpty q tt)
  where
    IsEmpty : List Slot → Type 0
    IsEmpty [] = Unit {0}
    IsEmpty (t ∷ ts) = ⊥
one_of words m (suc k) s ws h q =
    record {
      some_values = omega (arith, h);
      label_word = ap (λ i. get_or words i 0) (place_label k h) ∙ ap (head_label 0) q;
      payload_word = ap (λ i. get_or words i 0) (place_payload k h) ∙ ap (head_payload 0) q;
      popped = rw (less k h) (below (ap rest q));
    }
  where
    head_label : ℕ → List Slot → ℕ
    head_label z [] = z
    head_label z (t ∷ ts) = t.label

    head_payload : ℕ → List Slot → ℕ
    head_payload z [] = z
    head_payload z (t ∷ ts) = t.payload

    rest : List Slot → List Slot
    rest [] = []
    rest (t ∷ ts) = ts

    less : (k : ℕ) → m.values ≡ suc k → m.values - 1 ≡ k
    less k e = omega arith

    place_label : (k : ℕ) → m.values ≡ suc k → top_label + m.values ≡ value_labels + k
    place_label k e = omega arith

    place_payload : (k : ℕ) → m.values ≡ suc k → top_payload + m.values ≡ value_payloads + k
    place_payload k e = omega arith

    below : slots value_labels value_payloads k words ≡ ws → regions words (at_height k m) ≡ with_values ws (regions words m)
    below e = rw e

pub one_on_top : (words : List ℕ) (m : Machine) (s : Slot) (ws : List Slot) → (regions words m).values ≡ s ∷ ws → OneOnTop words m s ws
unfolding regions
one_on_top words m s ws q = one_of words m m.values s ws refl q

pub record TwoOnTop (words : List ℕ) (m : Machine) (s u : Slot) (ws : List Slot) : Type 0 where
  pub some_values : 2 ≤ m.values
  pub label_word : get_or words (top_label + m.values) 0 ≡ s.label
  pub payload_word : get_or words (top_payload + m.values) 0 ≡ s.payload
  pub second_label_word : get_or words (second_label + m.values) 0 ≡ u.label
  pub second_payload_word : get_or words (second_payload + m.values) 0 ≡ u.payload
  pub popped : regions words (at_height (m.values - 2) m) ≡ with_values ws (regions words m)
  pub popped_one : regions words (at_height (m.values - 1) m) ≡ with_values (u ∷ ws) (regions words m)

pub two_on_top : (words : List ℕ) (m : Machine) (s u : Slot) (ws : List Slot) → (regions words m).values ≡ s ∷ u ∷ ws → TwoOnTop words m s u ws
two_on_top words m s u ws q =
    let one = one_on_top words m s (u ∷ ws) q in
    let two = one_on_top words (at_height (m.values - 1) m) u ws (ap (λ κ. κ.values) one.popped) in
    record {
      some_values = omega (arith, one.some_values, two.some_values);
      label_word = one.label_word;
      payload_word = one.payload_word;
      second_label_word = ap (λ i. get_or words i 0) (place_label one.some_values) ∙ two.label_word;
      second_payload_word = ap (λ i. get_or words i 0) (place_payload one.some_values) ∙ two.payload_word;
      popped = ap (λ k. regions words (at_height k m)) (twice m.values) ∙ two.popped ∙ ap (with_values ws) one.popped;
      popped_one = one.popped;
    }
  where
    twice : (k : ℕ) → k - 2 ≡ k - 1 - 1
    twice k = omega arith

    place_label : 1 ≤ m.values → second_label + m.values ≡ top_label + (m.values - 1)
    place_label h = omega arith

    place_payload : 1 ≤ m.values → second_payload + m.values ≡ top_payload + (m.values - 1)
    place_payload h = omega arith

-- ---- By entries.

pub record BindableTop (nodes : List ℕ) (rows : List Slot) (base d p : ℕ) (E : Environment) (m : Mode) (all : List Slot) (X : List Entry) (b : Bindable) : Type 0 where
  pub top : Slot
  pub rest : List Slot
  pub are : all ≡ top ∷ rest
  pub as_bindable : BindableAs nodes rows top.label top.payload b
  pub below : ValuesAs nodes rows base d p E m rest X

pub bindable_top : {nodes : List ℕ} {rows : List Slot} {base d p : ℕ} {E : Environment} {m : Mode} {all : List Slot} {X : List Entry} {b : Bindable} → ValuesAs nodes rows base d p E m all (bindable b ∷ X) → BindableTop nodes rows base d p E m all X b
bindable_top (bindable_on {s = s} {ws = ws} b h) = record { top = s; rest = ws; are = refl; as_bindable = b; below = h }

pub record NameTop (nodes : List ℕ) (rows : List Slot) (base d p : ℕ) (E : Environment) (m : Mode) (all : List Slot) (X : List Entry) (x : ℕ) : Type 0 where
  pub top : Slot
  pub rest : List Slot
  pub are : all ≡ top ∷ rest
  pub payload_is : top.payload ≡ x
  pub low : x < names
  pub below : ValuesAs nodes rows base d p E m rest X

pub name_top : {nodes : List ℕ} {rows : List Slot} {base d p : ℕ} {E : Environment} {m : Mode} {all : List Slot} {X : List Entry} {x : ℕ} → ValuesAs nodes rows base d p E m all (name x ∷ X) → NameTop nodes rows base d p E m all X x
name_top (name_on {s = s} {ws = ws} q l h) = record { top = s; rest = ws; are = refl; payload_is = q; low = l; below = h }

pub record NodeTop (nodes : List ℕ) (rows : List Slot) (base d p : ℕ) (E : Environment) (m : Mode) (all : List Slot) (X : List Entry) (c : Command) : Type 0 where
  pub top : Slot
  pub rest : List Slot
  pub are : all ≡ top ∷ rest
  pub depth : ℕ
  pub next : ℕ
  pub stored : StoredCommand nodes depth top.payload next c
  pub below : ValuesAs nodes rows base d p E m rest X

pub node_top : {nodes : List ℕ} {rows : List Slot} {base d p : ℕ} {E : Environment} {m : Mode} {all : List Slot} {X : List Entry} {c : Command} → ValuesAs nodes rows base d p E m all (node c ∷ X) → NodeTop nodes rows base d p E m all X c
node_top (node_on {s = s} {ws = ws} {depth = depth} {j = j} h v) = record { top = s; rest = ws; are = refl; depth = depth; next = j; stored = h; below = v }
