-- Loop's mark: if the test is true, the command goes on control and the Loop below it.
use Prim.Native.Nat.{ℕ, suc, ◌+◌, ◌-◌, ◌<◌, ◌≤◌}
use mathlib.Core.Path.{◌≡◌, refl, sym, ap, ◌∙◌, subst}
use mathlib.Core.Bool.{Bool, true, false}
use mathlib.Core.List.{List, [], ◌∷◌}
use native.Mathlib.Omega.{arith}
use lib.ListN.{get_or}
use Rattle.rules.specs.paper.Tree.{Expression, Command, Loop}
use Rattle.rules.specs.claims.Listing.{truth_word}
use Rattle.rules.specs.paper.States.{truth, Environment, Store, Entry, node, val, Item, command, mark, loop_mark, state}
use Rattle.rules.specs.paper.Rules.{Rule, Effect, goes, Table, loop_true, loop_false}
use Rattle.rules.specs.paper.Run.{judge}
use Rattle.rules.specs.paper.Limits.{most_nodes}
use Rattle.reader.specs.Pack.{packed_end}
use Rattle.reader.specs.Stored.{StoredCommand, loop}
use Rattle.reader.proofs.StoredFields.{end_is}
use Rattle.machine.specs.Regions.{regions, Fits, with_control}
use Rattle.machine.specs.Represents.{Mode, ControlAs, command_on, loop_on, Models}
use Rattle.machine.specs.Steps.{StepAnswer, Applicable, Steps, Puts}
use Rattle.machine.specs.declared.Machine.{Machine}
use Rattle.std.specs.Prelude.{Result, Ok}
use Rattle.reader.proofs.StandingLaws.{Rooted, expression_root}
use Rattle.machine.proofs.state_laws.NodeLaws.{node_word}
use Rattle.machine.proofs.state_laws.ModelLaws.{step_made, fits_still}
use Rattle.machine.proofs.state_laws.TopLaws.{at_height}
use Rattle.machine.proofs.state_laws.MarkTopLaws.{loop_taken}
use Rattle.commands.proofs.command_laws.TestLaws.{truth_there, node_there, Tested, tested, popped_state, put_instead}
use Rattle.rules.specs.declared.refusals.Reason.{Reason}

-- ---- The Loop's parts.

record Parts (nodes : List ℕ) (i : ℕ) (c : Command) : Type 0 where
  pub depth : ℕ
  pub body : ℕ
  pub next : ℕ
  pub low : i < most_nodes
  pub test_ends : Rooted nodes (suc i) body
  pub stored : StoredCommand nodes depth body next c

parts : {nodes : List ℕ} {d i k q : ℕ} {e : Expression} {c : Command} → StoredCommand nodes d i k (Loop q e c) → Parts nodes i c
parts (loop {d = d} {j = j} {k = k} h a b) = record { depth = d; body = j; next = k; low = h.place_low; test_ends = expression_root a; stored = b }

again : {nodes : List ℕ} {m : Mode} {w : ℕ} {ws : List ℕ} {C : List Item} {d i k f j l : ℕ} {a c : Command} →
    ControlAs nodes m (w ∷ ws) (mark loop_mark ∷ C) → StoredCommand nodes d i k a → StoredCommand nodes f j l c →
    ControlAs nodes m (j ∷ i ∷ ws) (command c ∷ command a ∷ C)
again (loop_on q h) s t = command_on t (command_on s h)

module _ (words : List ℕ) (m : Machine) where
  -- What the step comes to, by the test.
  abbrev Comes : Bool → List Item → Command → Command → List Entry → Environment → Store → List ℕ → ℕ → Effect
  Comes true C c a Y E S L n = goes (state (command c ∷ command a ∷ C) Y E S L n)
  Comes false C c a Y E S L n = goes (state C Y E S L n)

  -- The test's truth and the Loop on top of the value stack.
  record Looping {C : List Item} {X : List Entry} {E : Environment} {S : Store} {L : List ℕ} {n : ℕ} (μ : Models (regions words m) C X E S L n)
      (e : Effect) : Type 0 where
    pub test : Bool
    pub place : ℕ
    pub tests : Expression
    pub repeated : Command
    pub rest : List Entry
    pub found : Tested words m μ test (Loop place tests repeated) rest
    pub effect : e ≡ Comes test C repeated (Loop place tests repeated) rest E S L n

  by_truth : (t : Bool) {p : ℕ} {x : Expression} {c : Command} {Y : List Entry} {C : List Item} {E : Environment} {S : Store} {L : List ℕ} {n : ℕ} →
      (μ : Models (regions words m) C (val (truth t) ∷ node (Loop p x c) ∷ Y) E S L n) → Looping μ (Comes t C c (Loop p x c) Y E S L n)
  by_truth t {p} {x} {c} {Y} μ = record { test = t; place = p; tests = x; repeated = c; rest = Y; found = tested words m μ; effect = refl }

  looping : {C : List Item} {X : List Entry} {E : Environment} {S : Store} {L : List ℕ} {n : ℕ} {r : Rule} {e : Effect} →
      Table C E S L n r (mark loop_mark) X e → (μ : Models (regions words m) C X E S L n) → Looping μ e
  looping loop_true μ = by_truth true μ
  looping loop_false μ = by_truth false μ

  -- What the code needs.
  module _ {w : ℕ} (a : Applicable words m w (mark loop_mark)) where
    loops : Looping (loop_taken a.ready.models) a.effect
    loops = looping a.ready.applies (loop_taken a.ready.models)

    pub two_there : 2 ≤ m.values
    two_there = loops.found.some_values

    pub node_low : node_there words m < most_nodes
    node_low = (parts loops.found.stored).low

  -- ---- The step.

  pub loop_ends : (w : ℕ) → Fits words m → truth_there words m ≡ 0 → Steps words m w (mark loop_mark) (Ok (at_height (m.values - 2) m)) words
  loop_ends w f zero_there C X E S L n r e ready = by (loop_taken ready.models) (looping ready.applies (loop_taken ready.models))
    where
      by : (μ : Models (regions words m) C X E S L n) → Looping μ e → StepAnswer (judge false e) (Ok (at_height (m.values - 2) m)) words words
      by μ h = subst (λ k. StepAnswer (judge false k) (Ok (at_height (m.values - 2) m)) words words) (sym h.effect) (by_test h.test h.found.truth_is)
        where
          by_test : (t : Bool) → truth_there words m ≡ truth_word t →
              StepAnswer (judge false (Comes t C h.repeated (Loop h.place h.tests h.repeated) h.rest E S L n)) (Ok (at_height (m.values - 2) m))
              words words
          by_test true q = absurd (omega (arith, q, zero_there))
          by_test false q =
              step_made words words m (at_height (m.values - 2) m) _ C h.rest E S L n refl
              (fits_still words words m (at_height (m.values - 2) m) f (ap (λ κ. κ.size) h.found.popped) f.few_control (omega (arith, f.few_values))
              f.few_bindings f.few_cells)
              (subst (λ κ. Models κ C h.rest E S L n) (sym h.found.popped) (popped_state words m μ h.found))
              (ap (λ κ. κ.nodes) h.found.popped) (ap (λ κ. κ.beyond) h.found.popped) (ap (λ κ. κ.size) h.found.popped)

  pub loop_repeats : (w body : ℕ) (after : List ℕ) (answer : Result Machine Reason) → (truth_there words m ≡ 0 → ⊥) →
      body ≡ packed_end (get_or words (node_there words m + 1) 0) →
      Puts words (at_height (m.values - 2) m) (body ∷ node_there words m ∷ []) answer after → Steps words m w (mark loop_mark) answer after
  loop_repeats w body after answer not_zero ends puts C X E S L n r e ready = by ready.models (looping ready.applies (loop_taken ready.models))
    where
      by : (μ : Models (with_control w (regions words m)) (mark loop_mark ∷ C) X E S L n) → Looping (loop_taken μ) e →
          StepAnswer (judge false e) answer words after
      by μ h = subst (λ k. StepAnswer (judge false k) answer words after) (sym h.effect) (by_test h.test h.found.truth_is)
        where
          the_parts : Parts (regions words m).nodes (node_there words m) h.repeated
          the_parts = parts h.found.stored

          place_of : node_there words m + 1 ≡ suc (node_there words m)
          place_of = omega arith

          body_is : the_parts.body ≡ body
          body_is =
              sym (end_is (node_word words m the_parts.test_ends.word) the_parts.test_ends.known)
              ∙ ap (λ i. packed_end (get_or words i 0)) (sym place_of) ∙ sym ends

          by_test : (t : Bool) → truth_there words m ≡ truth_word t →
              StepAnswer (judge false (Comes t C h.repeated (Loop h.place h.tests h.repeated) h.rest E S L n)) answer words after
          by_test true q =
              put_instead words m (loop_taken μ) h.found (body ∷ node_there words m ∷ [])
              (command h.repeated ∷ command (Loop h.place h.tests h.repeated) ∷ C) answer after
              (again μ.control_as h.found.stored (subst (λ j. StoredCommand (regions words m).nodes the_parts.depth j the_parts.next h.repeated)
              body_is the_parts.stored))
              puts
          by_test false q = absurd (not_zero q)
