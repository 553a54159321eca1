-- Cond's mark: the first command goes on control if the test is true, else the second.
use Prim.Native.Nat.{ℕ, ◌+◌, ◌-◌, ◌<◌, ◌≤◌}
use mathlib.Core.Path.{◌≡◌, refl, sym, ap, ◌∙◌, subst}
use mathlib.Core.Bool.{Bool, true, false}
use mathlib.Core.List.{List, [], ◌∷◌}
use native.Mathlib.Omega.{arith}
use lib.ListN.{get_or}
use Rattle.rules.specs.paper.Tree.{Expression, Command, Cond}
use Rattle.rules.specs.claims.Listing.{truth_word}
use Rattle.rules.specs.paper.States.{truth, Environment, Store, Entry, node, val, Item, command, mark, conditional_mark, state}
use Rattle.rules.specs.paper.Rules.{Rule, Effect, goes, Table, conditional_true, conditional_false}
use Rattle.rules.specs.paper.Fire.{chosen}
use Rattle.rules.specs.paper.Run.{judge}
use Rattle.rules.specs.paper.Limits.{most_nodes, most_control_entries}
use Rattle.reader.specs.Pack.{packed_end}
use Rattle.reader.specs.Stored.{StoredExpression, StoredCommand, conditional}
use Rattle.machine.specs.Regions.{regions, Fits, with_control, raised_control}
use Rattle.machine.specs.Represents.{Mode, ControlAs, command_on, conditional_on, Models}
use Rattle.machine.specs.Steps.{StepAnswer, Applicable, Steps, Puts}
use Rattle.machine.specs.declared.Machine.{Machine}
use Rattle.std.specs.Prelude.{Result, Ok}
use Rattle.reader.proofs.StandingLaws.{Rooted, expression_root, command_root, after_node}
use Rattle.machine.proofs.state_laws.ItemLaws.{node_end}
use Rattle.machine.proofs.state_laws.TopLaws.{at_height}
use Rattle.machine.proofs.state_laws.MarkTopLaws.{conditional_taken, at_height_fits}
use Rattle.machine.proofs.stack_laws.SharedLaws.{Put, put_regions, put_fits, puts_made}
use Rattle.commands.proofs.command_laws.TestLaws.{truth_there, node_there, Tested, tested, put_instead}
use Rattle.rules.specs.declared.refusals.Reason.{Reason}

-- ---- The Cond's parts: where its test ends the first command stands, and where that ends the second.

record Parts (nodes : List ℕ) (i : ℕ) (c₁ c₂ : Command) : Type 0 where
  pub depth : ℕ
  pub first : ℕ
  pub second : ℕ
  pub next : ℕ
  pub low : i < most_nodes
  pub test_ends : Rooted nodes (i + 1) first
  pub stored_first : StoredCommand nodes depth first second c₁
  pub stored_second : StoredCommand nodes depth second next c₂

parts : {nodes : List ℕ} {d i l q : ℕ} {e : Expression} {c₁ c₂ : Command} → StoredCommand nodes d i l (Cond q e c₁ c₂) → Parts nodes i c₁ c₂
parts {nodes} {e = e} (conditional {d = d} {i = i} {j = j} {k = k} {l = l} h a b c) =
    record {
      depth = d;
      first = j;
      second = k;
      next = l;
      low = h.place_low;
      test_ends = expression_root (subst (λ p. StoredExpression nodes d p j e) (after_node i) a);
      stored_first = b;
      stored_second = c;
    }

-- A command in the mark's place.
instead : {nodes : List ℕ} {m : Mode} {w : ℕ} {ws : List ℕ} {C : List Item} {d j l : ℕ} {c : Command} →
    ControlAs nodes m (w ∷ ws) (mark conditional_mark ∷ C) → StoredCommand nodes d j l c →
    ControlAs nodes m (j ∷ ws) (command c ∷ C)
instead (conditional_on q h) s = command_on s h

record StandsAt (nodes : List ℕ) (place : ℕ) (c : Command) : Type 0 where
  depth : ℕ
  next : ℕ
  stored : StoredCommand nodes depth place next c

module _ (words : List ℕ) (m : Machine) where
  -- The test's truth and the Cond on top of the value stack.
  record Choosing {C : List Item} {X : List Entry} {E : Environment} {S : Store} {L : List ℕ} {n : ℕ} (μ : Models (regions words m) C X E S L n)
      (e : Effect) : Type 0 where
    pub test : Bool
    pub place : ℕ
    pub tests : Expression
    pub first : Command
    pub second : Command
    pub rest : List Entry
    pub found : Tested words m μ test (Cond place tests first second) rest
    pub effect : e ≡ goes (state (command (chosen test first second) ∷ C) rest E S L n)

  by_truth : (t : Bool) {p : ℕ} {x : Expression} {c₁ c₂ : Command} {Y : List Entry} {C : List Item} {E : Environment} {S : Store} {L : List ℕ} {n : ℕ} →
      (μ : Models (regions words m) C (val (truth t) ∷ node (Cond p x c₁ c₂) ∷ Y) E S L n) →
      Choosing μ (goes (state (command (chosen t c₁ c₂) ∷ C) Y E S L n))
  by_truth t {p} {x} {c₁} {c₂} {Y} μ = record {
    test = t;
    place = p;
    tests = x;
    first = c₁;
    second = c₂;
    rest = Y;
    found = tested words m μ;
    effect = refl;
  }

  choosing : {C : List Item} {X : List Entry} {E : Environment} {S : Store} {L : List ℕ} {n : ℕ} {r : Rule} {e : Effect} →
      Table C E S L n r (mark conditional_mark) X e → (μ : Models (regions words m) C X E S L n) → Choosing μ e
  choosing conditional_true μ = by_truth true μ
  choosing conditional_false μ = by_truth false μ

  -- What the code needs.
  module _ {w : ℕ} (a : Applicable words m w (mark conditional_mark)) where
    chooses : Choosing (conditional_taken a.ready.models) a.effect
    chooses = choosing a.ready.applies (conditional_taken a.ready.models)

    pub two_there : 2 ≤ m.values
    two_there = chooses.found.some_values

    the_parts : Parts (regions words m).nodes (node_there words m) chooses.first chooses.second
    the_parts = parts chooses.found.stored

    pub node_low : node_there words m < most_nodes
    node_low = the_parts.low

    pub first_low : (first : ℕ) → first ≡ packed_end (get_or words (node_there words m + 1) 0) → first < most_nodes
    first_low first q = subst (λ i. i < most_nodes) (sym (q ∙ node_end words m the_parts.test_ends))
        (command_root the_parts.stored_first).word.place_low

  -- There is room for the command: the mark has left its place. The two values are off.
  pub command_put : Fits words m → m.control < most_control_entries → (place : ℕ) (after : List ℕ) (r : Machine) →
      r ≡ raised_control (at_height (m.values - 2) m) → regions after (raised_control (at_height (m.values - 2) m)) ≡ with_control place
      (regions words (at_height (m.values - 2) m)) →
      Puts words (at_height (m.values - 2) m) (place ∷ []) (Ok r) after
  command_put f room place after r q e =
      let lower = at_height_fits words m (m.values - 2) f (omega arith) in
      let put : Put words (at_height (m.values - 2) m) place after r = record { machine_is = q; regions_are = e } in
      puts_made words (at_height (m.values - 2) m) lower (place ∷ []) after r
      (put_fits words (at_height (m.values - 2) m) after r place lower put room) (put_regions put)

  -- ---- The step: the command that is taken stands at the place that was put on control.

  takes : (w place : ℕ) (after : List ℕ) (answer : Result Machine Reason) →
      ((t : Bool) (c₁ c₂ : Command) → truth_there words m ≡ truth_word t → Parts (regions words m).nodes (node_there words m) c₁ c₂ →
      StandsAt (regions words m).nodes place (chosen t c₁ c₂)) →
      Puts words (at_height (m.values - 2) m) (place ∷ []) answer after → Steps words m w (mark conditional_mark) answer after
  takes w place after answer stands puts C X E S L n r e ready = by ready.models (choosing ready.applies (conditional_taken ready.models))
    where
      by : (μ : Models (with_control w (regions words m)) (mark conditional_mark ∷ C) X E S L n) → Choosing (conditional_taken μ) e →
          StepAnswer (judge false e) answer words after
      by μ h =
          subst (λ k. StepAnswer (judge false k) answer words after) (sym h.effect)
          (put_instead words m (conditional_taken μ) h.found (place ∷ []) (command (chosen h.test h.first h.second) ∷ C) answer after
          (instead μ.control_as (stands h.test h.first h.second h.found.truth_is (parts h.found.stored)).stored)
          puts)

  pub takes_first : (w place : ℕ) (after : List ℕ) (answer : Result Machine Reason) → (truth_there words m ≡ 0 → ⊥) →
      place ≡ packed_end (get_or words (node_there words m + 1) 0) →
      Puts words (at_height (m.values - 2) m) (place ∷ []) answer after → Steps words m w (mark conditional_mark) answer after
  takes_first w place after answer not_zero ends puts = takes w place after answer stands puts
    where
      stands : (t : Bool) (c₁ c₂ : Command) → truth_there words m ≡ truth_word t → Parts (regions words m).nodes (node_there words m) c₁ c₂ →
          StandsAt (regions words m).nodes place (chosen t c₁ c₂)
      stands true c₁ c₂ q p =
          record {
            depth = p.depth;
            next = p.second;
            stored = subst (λ i. StoredCommand (regions words m).nodes p.depth i p.second c₁)
                (sym (ends ∙ node_end words m p.test_ends)) p.stored_first;
          }
      stands false c₁ c₂ q p = absurd (not_zero q)

  pub takes_second : (w first place : ℕ) (after : List ℕ) (answer : Result Machine Reason) → truth_there words m ≡ 0 →
      first ≡ packed_end (get_or words (node_there words m + 1) 0) → place ≡ packed_end (get_or words first 0) →
      Puts words (at_height (m.values - 2) m) (place ∷ []) answer after → Steps words m w (mark conditional_mark) answer after
  takes_second w first place after answer zero_there ends later puts = takes w place after answer stands puts
    where
      stands : (t : Bool) (c₁ c₂ : Command) → truth_there words m ≡ truth_word t → Parts (regions words m).nodes (node_there words m) c₁ c₂ →
          StandsAt (regions words m).nodes place (chosen t c₁ c₂)
      stands true c₁ c₂ q p = absurd (omega (arith, q, zero_there))
      stands false c₁ c₂ q p =
          let there = ends ∙ node_end words m p.test_ends in
          let place_is = later ∙ ap (λ i. packed_end (get_or words i 0)) there ∙ node_end words m (command_root p.stored_first) in
          record {
            depth = p.depth;
            next = p.next;
            stored = subst (λ i. StoredCommand (regions words m).nodes p.depth i p.next c₂)
                (sym place_is) p.stored_second;
          }
