-- What is taken from the last state: the registers' words, and the word of the value that is left.
use Prim.Native.Nat.{ℕ, zero, suc, ◌+◌, ◌<◌, ◌≤◌}
use mathlib.Core.Path.{◌≡◌, refl, sym, ap, ◌∙◌}
use mathlib.Core.List.{List, ◌∷◌}
use native.Mathlib.Omega.{arith}
use native.Mathlib.Nat.{add-suc}
use lib.ListN.{get_or, take, drop}
use lib.Seq.{drop-cons}
use Rattle.rules.specs.paper.States.{Value, integer, Environment, Store, find, Entry, val, Item, State, state, store_of}
use Rattle.rules.specs.claims.Ends.{RegisterHolds}
use Rattle.rules.specs.paper.Engine.{as_register, registers_from}
use Rattle.rules.specs.paper.Limits.{most_cells}
use Rattle.machine.specs.Layout.{cell_payloads, top_payload}
use Rattle.integers.specs.Words.{word_of, words_of}
use Rattle.integers.specs.WordLaws.{word_of_integer}
use Rattle.machine.specs.Regions.{regions, Fits}
use Rattle.machine.specs.Represents.{ValueAs, integer_as, truth_as, location_as, StoreAs}
use Rattle.machine.specs.Steps.{Stands, Holds}
use Rattle.automaton.specs.Starts.{value_word}
use Rattle.machine.specs.declared.Machine.{Machine}
use Rattle.expressions.proofs.expression_laws.NameLaws.{cell_words, bound_value}
use Rattle.machine.proofs.state_laws.TopLaws.{bindable_top, one_on_top}

pub word_of_value : {t w : ℕ} {v : Value} → ValueAs t w v → w ≡ value_word v
word_of_value {w = w} (integer_as q l) = sym (ap word_of q ∙ word_of_integer w l)
word_of_value (truth_as q) = q
word_of_value location_as = refl

-- ---- The registers.

register_word : (words : List ℕ) (m : Machine) (S : Store) (i : ℕ) → Fits words m → StoreAs (regions words m).cells S → RegisterHolds S i → get_or words (cell_payloads + i) 0 ≡ word_of (as_register (find i S))
register_word words m S i f s h = word_of_value (cell_words words m i (integer h.number) f s h.holds_it).holds ∙ sym (ap (λ o. word_of (as_register o)) h.holds_it)

words_from : (words : List ℕ) (m : Machine) (S : Store) (first count : ℕ) → Fits words m → StoreAs (regions words m).cells S → first + count ≤ most_cells →
    ((i : ℕ) → first ≤ i → i < first + count → RegisterHolds S i) → take count (drop (cell_payloads + first) words) ≡ words_of (registers_from first count S)
unfolding registers_from words_of
words_from words m S first zero f s few hold = refl
words_from words m S first (suc count) f s few hold =
    ap (take (suc count)) (drop-cons words (cell_payloads + first) 0 (omega (arith, f.room, few)))
    ∙ two_parts (register_word words m S first f s (hold first (omega arith) (omega arith)))
    (ap (λ k. take count (drop k words)) (sym (add-suc cell_payloads first)) ∙ words_from words m S (suc first) count f s (omega (arith, few)) (λ i l h. hold i (omega (arith, l)) (omega (arith, h))))
  where
    two_parts : {a b : ℕ} {p q : List ℕ} → a ≡ b → p ≡ q → ◌≡◌ {A = List ℕ} (a ∷ p) (b ∷ q)
    two_parts g h = cc

pub registers_taken : (words : List ℕ) (m : Machine) (σ : State) (count : ℕ) → count ≤ 16 → Holds words m σ → ((i : ℕ) → i < count → RegisterHolds (store_of σ) i) →
    take count (drop cell_payloads words) ≡ words_of (registers_from 0 count (store_of σ))
registers_taken words m (state C X E S L n) count few held hold =
    words_from words m S 0 count held.fits held.models.store_as (omega (arith, few)) (λ i l h. hold i (omega (arith, h)))

-- ---- The value that is left.

module _ (words : List ℕ) (m : Machine) {C : List Item} {X : List Entry} {E : Environment} {S : Store} {L : List ℕ} {n : ℕ} {v : Value} (held : Stands words m C (val v ∷ X) E S L n) where
  pub left_top : (1 ≤ m.values) × (get_or words (top_payload + m.values) 0 ≡ value_word v)
  left_top =
      let top = bindable_top held.models.values_as in
      let one = one_on_top words m top.top top.rest top.are in
      (one.some_values, one.payload_word ∙ word_of_value (bound_value top.as_bindable))
