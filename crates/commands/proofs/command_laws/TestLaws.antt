-- What the marks of Loop and Cond find, the test's truth on top of the value stack and the node below it; the state without the two; and
-- entries put in the mark's place.
use Prim.Native.Nat.{ℕ, ◌+◌, ◌-◌, ◌≤◌}
use mathlib.Core.Path.{◌≡◌, sym, ap, ◌∙◌, subst}
use mathlib.Core.Bool.{Bool, false}
use mathlib.Core.List.{List, ◌∷◌, ◌++◌}
use lib.ListN.{get_or}
use Rattle.rules.specs.paper.Tree.{Command}
use Rattle.rules.specs.claims.Listing.{truth_word}
use Rattle.rules.specs.paper.States.{truth, Environment, Store, Entry, node, val, Item, state}
use Rattle.rules.specs.paper.Rules.{goes}
use Rattle.rules.specs.paper.Run.{judge}
use Rattle.machine.specs.Layout.{top_payload, second_payload}
use Rattle.reader.specs.Stored.{StoredCommand}
use Rattle.machine.specs.Regions.{Slot, Regions, regions, with_values}
use Rattle.machine.specs.Represents.{ControlAs, ValuesAs, Models}
use Rattle.machine.specs.Steps.{StepAnswer, Puts}
use Rattle.machine.specs.declared.Machine.{Machine}
use Rattle.std.specs.Prelude.{Result}
use Rattle.machine.proofs.state_laws.ModelLaws.{beside}
use Rattle.machine.proofs.state_laws.TopLaws.{at_height, two_on_top, bindable_top, node_top}
use Rattle.machine.proofs.state_laws.MarkTopLaws.{truth_word_of, value_of}
use Rattle.rules.specs.declared.refusals.Reason.{Reason}

module _ (words : List ℕ) (m : Machine) where
  abbrev pub truth_there : ℕ
  truth_there = get_or words (top_payload + m.values) 0

  abbrev pub node_there : ℕ
  node_there = get_or words (second_payload + m.values) 0

  pub record Tested {C : List Item} {X : List Entry} {E : Environment} {S : Store} {L : List ℕ} {n : ℕ} (μ : Models (regions words m) C X E S L n)
      (t : Bool) (c : Command) (rest : List Entry) : Type 0 where
    pub under : List Slot
    pub depth : ℕ
    pub next : ℕ
    pub some_values : 2 ≤ m.values
    pub truth_is : truth_there ≡ truth_word t
    pub stored : StoredCommand (regions words m).nodes depth node_there next c
    pub popped : regions words (at_height (m.values - 2) m) ≡ with_values under (regions words m)
    pub below : ValuesAs (regions words m).nodes (regions words m).rows (regions words m).base (regions words m).declared
        (regions words m).environment E μ.mode under rest

  module _ {C : List Item} {E : Environment} {S : Store} {L : List ℕ} {n : ℕ} {t : Bool} {c : Command} {rest : List Entry} where
    pub tested : (μ : Models (regions words m) C (val (truth t) ∷ node c ∷ rest) E S L n) → Tested μ t c rest
    tested μ =
        let top = bindable_top μ.values_as in
        let lower = node_top top.below in
        let two = two_on_top words m top.top lower.top lower.rest (top.are ∙ ap {B = List Slot} (λ ws. top.top ∷ ws) lower.are) in
        record {
          under = lower.rest;
          depth = lower.depth;
          next = lower.next;
          some_values = two.some_values;
          truth_is = two.payload_word ∙ truth_word_of (value_of top.as_bindable);
          stored = subst (λ i. StoredCommand (regions words m).nodes lower.depth i lower.next c) (sym two.second_payload_word) lower.stored;
          popped = two.popped;
          below = lower.below;
        }

    abbrev pub popped_state : {X : List Entry} (μ : Models (regions words m) C X E S L n) (h : Tested μ t c rest) →
        Models (with_values h.under (regions words m)) C rest E S L n
    popped_state μ h =
        record {
          mode = μ.mode;
          control_as = μ.control_as;
          values_as = h.below;
          environment_as = μ.environment_as;
          store_as = μ.store_as;
          locations_as = μ.locations_as;
          bindings_as = μ.bindings_as;
        }

    -- Entries in the mark's place on control, once the two are off the value stack.
    pub put_instead : {X : List Entry} (μ : Models (regions words m) C X E S L n) (h : Tested μ t c rest) (new : List ℕ) (D : List Item)
        (answer : Result Machine Reason) (after : List ℕ) →
        ControlAs (regions words m).nodes μ.mode (new ++ (regions words m).control) D → Puts words (at_height (m.values - 2) m) new answer after →
        StepAnswer (judge false (goes (state D rest E S L n))) answer words after
    put_instead μ h new D answer after control puts = puts D rest E S L n put_on.0.mode (beside put_on.0) put_on.1
      where
        PutOn : Regions → Type 0
        PutOn κ = (ν : Models κ C rest E S L n) × ControlAs κ.nodes ν.mode (new ++ κ.control) D

        put_on : PutOn (regions words (at_height (m.values - 2) m))
        put_on = subst PutOn (sym h.popped) (popped_state μ h, control)
