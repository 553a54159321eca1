-- The operators' marks: what stands in place of the operands is the value of the rules.
use Prim.Native.Nat.{ℕ, ◌+◌, ◌-◌, ◌<◌, ◌≤◌}
use mathlib.Core.Path.{◌≡◌, refl, sym, ap, ◌∙◌, subst}
use mathlib.Core.Bool.{Bool, true, false, not}
use mathlib.Core.List.{List, ◌∷◌}
use mathlib.Core.Option.{some, some-injective}
use native.Mathlib.Omega.{arith}
use lib.Dec.{eqb}
use lib.ListN.{get_or}
use Rattle.std.specs.Prelude.{Result, Ok, Err}
use Rattle.rules.proofs.Basics.{missing}
use Rattle.rules.specs.declared.kinds.Arithmetic.{Arithmetic}
use Rattle.rules.specs.declared.kinds.Order.{Order}
use Rattle.rules.specs.declared.kinds.Logic.{Logic}
use Rattle.rules.specs.declared.kinds.Operator.{Operator}
use Rattle.rules.specs.declared.kinds.Operator.TheVariants.{Arithmetic as arithmetic, Eq, Order as order, Logic as logic}
use Rattle.rules.specs.claims.Listing.{truth_word}
use Rattle.rules.specs.paper.Refusals.{reason_number}
use Rattle.rules.specs.declared.refusals.Reason.{Reason}
use Rattle.rules.specs.declared.refusals.Reason.TheVariants.{Steps, ZeroDivisor, OutOfRange, Cells, Bindings, ValueEntries, ControlEntries}
use Rattle.rules.specs.paper.Integers.{number, failed, compute, compare, equal_truths, combine}
use Rattle.rules.specs.paper.States.{Value, integer, truth, Environment, Store, Entry, val, Item, mark, operator_mark, not_mark, state}
use Rattle.rules.specs.paper.Rules.{Rule, Effect, goes, fails, pushed, equal_values, Table, arithmetic_at, equal_at, order_at, logic_at, not_at}
use Rattle.rules.specs.paper.Run.{priority, holds, first_holding, withheld, judge}
use Rattle.rules.specs.paper.Kinds.{operator_number}
use Rattle.rules.specs.declared.kinds.ExpressionKind.TheVariants.{Binary as binary}
use Rattle.rules.specs.declared.kinds.Kind.TheVariants.{Expression as expression_kind}
use Rattle.reader.proofs.NodeKindLaws.{kinds_told}
use Rattle.machine.specs.Layout.{mark_base, top_payload, second_payload}
use Rattle.integers.specs.Words.{integer_of, word_of, computed}
use Rattle.integers.specs.WordLaws.{equal_words, word_below, computed_in_range, computed_number, computed_failed}
use Rattle.machine.specs.Regions.{Slot, slot, regions, Fits, with_values, raised_values}
use Rattle.expressions.specs.Operated.{Operated}
use Rattle.machine.specs.Represents.{ValueAs, integer_as, truth_as, location_as, value_as, ValuesAs, bindable_on, Models}
use Rattle.machine.specs.Steps as stepping
use Rattle.machine.specs.Steps.{StepAnswer, Applicable}
use Rattle.machine.specs.declared.Machine.{Machine}
use Rattle.machine.proofs.state_laws.ModelLaws.{step_made, step_withheld, fits_still}
use Rattle.machine.proofs.state_laws.TopLaws.{at_height}
use Rattle.machine.proofs.state_laws.MarkTopLaws.{operator_taken, not_taken, integer_word, truth_word_of, one_value, two_values}

-- ---- The stack after the step.

-- One value on what is left of the value stack, which is not higher than it was.
put_on : (before after : List ℕ) (m : Machine) (k : ℕ) (r : Machine) (payload : ℕ) → Fits before m → k < m.values →
    r ≡ raised_values (at_height k m) →
    regions after (raised_values (at_height k m)) ≡ with_values (slot 0 payload ∷ (regions before (at_height k m)).values)
    (regions before (at_height k m)) →
    (C : List Item) (Y X : List Entry) (E : Environment) (S : Store) (L : List ℕ) (n : ℕ) (v : Value) (under : List Slot)
    (μ : Models (regions before m) C Y E S L n) →
    regions before (at_height k m) ≡ with_values under (regions before m) →
    ValuesAs (regions before m).nodes (regions before m).rows (regions before m).base (regions before m).declared
    (regions before m).environment E μ.mode under X →
    ValueAs 0 payload v → StepAnswer (judge false (goes (state C (val v ∷ X) E S L n))) (Ok r) before after
put_on before after m k r payload f low q e C Y X E S L n v under μ popped below h =
    let all = e ∙ ap (λ κ. with_values (slot 0 payload ∷ κ.values) κ) popped in
    step_made before after m (raised_values (at_height k m)) (Ok r) C (val v ∷ X) E S L n (ap Ok q)
    (fits_still before after m (raised_values (at_height k m)) f (ap (λ κ. κ.size) all) f.few_control (omega (arith, low, f.few_values))
    f.few_bindings f.few_cells)
    (subst (λ κ. Models κ C (val v ∷ X) E S L n) (sym all)
    (record {
      mode = μ.mode;
      control_as = μ.control_as;
      values_as = bindable_on (value_as h) below;
      environment_as = μ.environment_as;
      store_as = μ.store_as;
      locations_as = μ.locations_as;
      bindings_as = μ.bindings_as;
    }))
    (ap (λ κ. κ.nodes) all) (ap (λ κ. κ.beyond) all) (ap (λ κ. κ.size) all)

-- What a step answers that puts an integer or a truth in place of the two values on top of the value stack.
abbrev pub Replaces : (before : List ℕ) → Machine → (payload : ℕ) → Result Machine Reason → (after : List ℕ) → Type 0
Replaces before m payload answer after =
    (C : List Item) (X : List Entry) (E : Environment) (S : Store) (L : List ℕ) (n : ℕ) (a b v : Value) → Models (regions before m) C
    (val b ∷ val a ∷ X) E S L n →
    ValueAs 0 payload v →
    StepAnswer (judge false (goes (state C (val v ∷ X) E S L n))) answer before after

pub replaced : (before after : List ℕ) (m r : Machine) (payload : ℕ) → Fits before m → 2 ≤ m.values → r ≡ raised_values (at_height (m.values - 2) m) →
    regions after (raised_values (at_height (m.values - 2) m)) ≡ with_values (slot 0 payload ∷ (regions before (at_height (m.values - 2) m)).values)
    (regions before (at_height (m.values - 2) m)) →
    Replaces before m payload (Ok r) after
replaced before after m r payload f there q e C X E S L n a b v μ h =
    let two = two_values before m μ in
    put_on before after m (m.values - 2) r payload f (omega (arith, there)) q e C (val b ∷ val a ∷ X) X E S L n v two.under μ two.popped two.below h

-- ---- The operator of the mark's word.

operator_alike : {w : ℕ} (o k : Operator) → w ≡ mark_base + operator_number o → w ≡ mark_base + operator_number k → o ≡ k
operator_alike o k p q = let same : expression_kind (binary o) ≡ expression_kind (binary k) = kinds_told _ _ (omega (arith, p, q)) in cc

-- ---- Two operands.

equal_bits : {x y : ℕ} (a b : Bool) → x ≡ truth_word a → y ≡ truth_word b → equal_truths a b ≡ eqb x y
unfolding equal_truths
equal_bits true true p q = rw (p, q)
equal_bits true false p q = rw (p, q)
equal_bits false true p q = rw (p, q)
equal_bits false false p q = rw (p, q)

-- What the marks of two operands need: the machine's heights are within the limits, and two values are on the stack.
pub operands_there : {words : List ℕ} {m : Machine} {w : ℕ} {o : Operator} → Applicable words m w (mark (operator_mark o)) → 2 ≤ m.values
operands_there {words} {m} {o = o} a = by o a.ready.applies (operator_taken a.ready.models)
  where
    by : (o : Operator) {C : List Item} {E : Environment} {S : Store} {L : List ℕ} {n : ℕ} {r : Rule} {X : List Entry} {e : Effect} →
        Table C E S L n r (mark (operator_mark o)) X e → Models (regions words m) C X E S L n → 2 ≤ m.values
    by (arithmetic o) arithmetic_at μ = (two_values words m μ).some_values
    by Eq (equal_at q) μ = (two_values words m μ).some_values
    by (order o) order_at μ = (two_values words m μ).some_values
    by (logic o) logic_at μ = (two_values words m μ).some_values

module _ (before after : List ℕ) (m : Machine) (w : ℕ) (answer : Result Machine Reason) where
  abbrev first : ℕ
  first = get_or before (second_payload + m.values) 0

  abbrev second : ℕ
  second = get_or before (top_payload + m.values) 0

  abbrev StepsAt : Operator → Type 0
  StepsAt o = stepping.Steps before m w (mark (operator_mark o)) answer after

  arithmetic_made : (o : Arithmetic) (result : ℕ) → computed (compute o (integer_of first) (integer_of second)) ≡ Ok result →
      Replaces before m result answer after → StepsAt (arithmetic o)
  unfolding computed
  arithmetic_made o result told replaces C X E S L n r e ready = by ready.applies (operator_taken ready.models)
    where
      is_number : compute o (integer_of first) (integer_of second) ≡ number (integer_of result)
      is_number = computed_number o (integer_of first) (integer_of second) result told

      low : result < 18446744073709551616
      low =
          let same : computed (number (integer_of result)) ≡ Ok result = sym (ap computed is_number) ∙ told in
          let word : word_of (integer_of result) ≡ result = cc in
          omega (
            arith,
            word,
            word_below (integer_of result)
                (computed_in_range o (integer_of first) (integer_of second) (integer_of result) is_number),
          )

      by : {k : Rule} {Y : List Entry} {e : Effect} → Table C E S L n k (mark (operator_mark (arithmetic o))) Y e →
          Models (regions before m) C Y E S L n → StepAnswer (judge false e) answer before after
      by (arithmetic_at {a = a} {b = b} {X = Y}) μ =
          let two = two_values before m μ in
          let here : compute o a b ≡ number (integer_of result) = rw (integer_word two.first_words, integer_word two.second_words) is_number in
          subst (λ k. StepAnswer (judge false (pushed k C Y E S L n)) answer before after) (sym here)
          (replaces C Y E S L n (integer a) (integer b) (integer (integer_of result)) μ (integer_as refl low))

  equal_made : (result : ℕ) → result ≡ truth_word (eqb first second) → Replaces before m result answer after → StepsAt Eq
  equal_made result tested replaces C X E S L n r e ready = by ready.applies (operator_taken ready.models)
    where
      same : {l k : ℕ} {a b : Value} {s : Bool} → ValueAs l first a → ValueAs k second b → equal_values a b ≡ some s → s ≡ eqb first second
      same {s = s} (integer_as p x) (integer_as q y) g = sym (some-injective _ s g) ∙ rw (p, q) (sym (equal_words first second x y))
      same (integer_as p x) (truth_as q) g = missing g
      same (integer_as p x) location_as g = missing g
      same (truth_as p) (integer_as q y) g = missing g
      same {s = s} (truth_as {b = a} p) (truth_as {b = b} q) g = sym (some-injective _ s g) ∙ equal_bits a b p q
      same (truth_as p) location_as g = missing g
      same location_as h g = missing g

      by : {k : Rule} {Y : List Entry} {e : Effect} → Table C E S L n k (mark (operator_mark Eq)) Y e → Models (regions before m) C Y E S L n →
          StepAnswer (judge false e) answer before after
      by (equal_at {a = a} {b = b} {t = s} {X = Y} g) μ =
          let two = two_values before m μ in
          replaces C Y E S L n a b (truth s) μ (truth_as (tested ∙ ap truth_word (sym (same two.first_words two.second_words g))))

  order_made : (o : Order) (result : ℕ) → result ≡ truth_word (compare o (integer_of first) (integer_of second)) →
      Replaces before m result answer after → StepsAt (order o)
  order_made o result tested replaces C X E S L n r e ready = by ready.applies (operator_taken ready.models)
    where
      by : {k : Rule} {Y : List Entry} {e : Effect} → Table C E S L n k (mark (operator_mark (order o))) Y e →
          Models (regions before m) C Y E S L n → StepAnswer (judge false e) answer before after
      by (order_at {a = a} {b = b} {X = Y}) μ =
          let two = two_values before m μ in
          let here : result ≡ truth_word (compare o a b) = rw (integer_word two.first_words, integer_word two.second_words) tested in
          replaces C Y E S L n (integer a) (integer b) (truth (compare o a b)) μ (truth_as here)

  logic_made : (o : Logic) (result : ℕ) → ((a b : Bool) → first ≡ truth_word a → second ≡ truth_word b → result ≡ truth_word (combine o a b)) →
      Replaces before m result answer after → StepsAt (logic o)
  logic_made o result combined replaces C X E S L n r e ready = by ready.applies (operator_taken ready.models)
    where
      by : {k : Rule} {Y : List Entry} {e : Effect} → Table C E S L n k (mark (operator_mark (logic o))) Y e →
          Models (regions before m) C Y E S L n → StepAnswer (judge false e) answer before after
      by (logic_at {a = a} {b = b} {X = Y}) μ =
          let two = two_values before m μ in
          replaces C Y E S L n (truth a) (truth b) (truth (combine o a b)) μ
          (truth_as (combined a b (truth_word_of two.first_words) (truth_word_of two.second_words)))

  made : (o : Operator) (result : ℕ) → Operated o first second (Ok result) → Replaces before m result answer after → StepsAt o
  made (arithmetic o) result told = arithmetic_made o result (sym told)
  made Eq result told = equal_made result (cc)
  made (order o) result told = order_made o result (cc)
  made (logic o) result told = logic_made o result (λ a b p q. let here = told a b p q in cc)

  -- The code found this operator in the mark's word.
  pub operator_made : (found : Operator) (result : ℕ) → w ≡ mark_base + operator_number found → Operated found first second (Ok result) →
      Replaces before m result answer after →
      (o : Operator) → w ≡ mark_base + operator_number o → StepsAt o
  operator_made found result p told replaces o q = made o result (subst (λ k. Operated k first second (Ok result)) (operator_alike found o p q) told)
      replaces

-- ---- A step that fails.

judged_fails : (x : Reason) → judge false (fails x) ≡ withheld x
unfolding judge priority holds first_holding reason_number
judged_fails Steps = refl
judged_fails ZeroDivisor = refl
judged_fails OutOfRange = refl
judged_fails Cells = refl
judged_fails Bindings = refl
judged_fails ValueEntries = refl
judged_fails ControlEntries = refl

withheld_by : (words : List ℕ) (m : Machine) (w : ℕ) (o : Operator) (reason : Reason) →
    Operated o (get_or words (second_payload + m.values) 0) (get_or words (top_payload + m.values) 0) (Err reason) →
    stepping.Steps words m w (mark (operator_mark o)) (Err reason) words
withheld_by words m w (arithmetic o) reason told = by_table
  where
    by_table : stepping.Steps words m w (mark (operator_mark (arithmetic o))) (Err reason) words
    by_table C X E S L n r e ready = by ready.applies (operator_taken ready.models)
      where
        by : {k : Rule} {Y : List Entry} {e : Effect} → Table C E S L n k (mark (operator_mark (arithmetic o))) Y e →
            Models (regions words m) C Y E S L n → StepAnswer (judge false e) (Err reason) words words
        by (arithmetic_at {a = a} {b = b} {X = Y}) μ =
            let two = two_values words m μ in
            let here : compute o a b ≡ failed reason = rw (integer_word two.first_words, integer_word two.second_words)
            (computed_failed _ reason (sym told)) in
            subst (λ k. StepAnswer (judge false (pushed k C Y E S L n)) (Err reason) words words) (sym here)
            (step_withheld words reason _ _ (judged_fails reason) refl)
withheld_by words m w Eq reason told = absurd (cc)
withheld_by words m w (order o) reason told = absurd (cc)
withheld_by words m w (logic o) reason told = by_table
  where
    by_table : stepping.Steps words m w (mark (operator_mark (logic o))) (Err reason) words
    by_table C X E S L n r e ready = by ready.applies (operator_taken ready.models)
      where
        by : {k : Rule} {Y : List Entry} {e : Effect} → Table C E S L n k (mark (operator_mark (logic o))) Y e →
            Models (regions words m) C Y E S L n → StepAnswer (judge false e) (Err reason) words words
        by (logic_at {a = a} {b = b}) μ =
            let two = two_values words m μ in
            let clash = told a b (truth_word_of two.first_words) (truth_word_of two.second_words) in absurd (cc)

pub operator_withheld : (words : List ℕ) (m : Machine) (w : ℕ) (found : Operator) (reason : Reason) → w ≡ mark_base + operator_number found →
    Operated found (get_or words (second_payload + m.values) 0) (get_or words (top_payload + m.values) 0) (Err reason) →
    (o : Operator) → w ≡ mark_base + operator_number o → stepping.Steps words m w (mark (operator_mark o)) (Err reason) words
operator_withheld words m w found reason p told o q =
    withheld_by words m w o reason
    (subst (λ k. Operated k (get_or words (second_payload + m.values) 0) (get_or words (top_payload + m.values) 0) (Err reason))
    (operator_alike found o p q) told)

-- ---- Not.

pub truth_there : {words : List ℕ} {m : Machine} {w : ℕ} → Applicable words m w (mark not_mark) →
    (1 ≤ m.values) × (get_or words (top_payload + m.values) 0 ≤ 1)
truth_there {words} {m} a = by a.ready.applies (not_taken a.ready.models)
  where
    bit : {k : ℕ} (b : Bool) → k ≡ truth_word b → k ≤ 1
    bit true q = omega (arith, q)
    bit false q = omega (arith, q)

    by : {C : List Item} {E : Environment} {S : Store} {L : List ℕ} {n : ℕ} {r : Rule} {X : List Entry} {e : Effect} →
        Table C E S L n r (mark not_mark) X e → Models (regions words m) C X E S L n →
        (1 ≤ m.values) × (get_or words (top_payload + m.values) 0 ≤ 1)
    by (not_at {a = b}) μ = let one = one_value words m μ in (one.some_values, bit b (truth_word_of one.value_words))

pub not_made : (before after : List ℕ) (m : Machine) (w : ℕ) (r : Machine) → Fits before m → 1 ≤ m.values →
    r ≡ raised_values (at_height (m.values - 1) m) →
    regions after (raised_values (at_height (m.values - 1) m)) ≡
    with_values (slot 0 (1 - get_or before (top_payload + m.values) 0) ∷ (regions before (at_height (m.values - 1) m)).values)
    (regions before (at_height (m.values - 1) m)) →
    stepping.Steps before m w (mark not_mark) (Ok r) after
not_made before after m w r f there q g C X E S L n k e ready = by ready.applies (not_taken ready.models)
  where
    other : {t : ℕ} (a : Bool) → t ≡ truth_word a → 1 - t ≡ truth_word (not a)
    other true h = omega (arith, h)
    other false h = omega (arith, h)

    by : {k : Rule} {Y : List Entry} {e : Effect} → Table C E S L n k (mark not_mark) Y e → Models (regions before m) C Y E S L n →
        StepAnswer (judge false e) (Ok r) before after
    by (not_at {a = a} {X = Y}) μ =
        let one = one_value before m μ in
        put_on before after m (m.values - 1) r _ f (omega (arith, there)) q g C (val (truth a) ∷ Y) Y E S L n
        (truth (not a)) one.under μ one.popped one.below (truth_as (other a (truth_word_of one.value_words)))
