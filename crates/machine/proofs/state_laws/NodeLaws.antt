-- The reader's word of a node that stands in the machine's tree is the work word; and the item on top of control.
use Prim.Native.Nat.{ℕ}
use mathlib.Core.Path.{◌≡◌, refl, sym, ◌∙◌, subst}
use mathlib.Core.List.{List, ◌∷◌}
use lib.Seq.{get_or-take}
use Rattle.rules.specs.paper.Tree.{Expression}
use Rattle.rules.specs.paper.States.{Environment, Store, Entry, Item, expression}
use Rattle.rules.specs.paper.Limits.{most_nodes}
use Rattle.reader.specs.Stored.{HasWord, StoredExpression}
use Rattle.machine.specs.Regions.{Regions, regions, with_control}
use Rattle.machine.specs.Represents.{Mode, ControlAs, expression_on, Models}
use Rattle.machine.specs.declared.Machine.{Machine}

pub node_word : (words : List ℕ) (m : Machine) {i k w e : ℕ} → HasWord (regions words m).nodes i k w e → HasWord words i k w e
unfolding regions
node_word words m {i} h =
    record { word = sym (get_or-take most_nodes words i 0 h.place_low) ∙ h.word; place_low = h.place_low; operand_low = h.operand_low; end_low = h.end_low }

-- An expression on top of control: its tree stands at its word's place, and the rest of control is as it was.
pub record ExpressionTop (κ : Regions) (w : ℕ) (e : Expression) (C : List Item) (X : List Entry) (E : Environment) (S : Store) (L : List ℕ) (n : ℕ) : Type 0 where
  pub depth : ℕ
  pub next : ℕ
  pub stored : StoredExpression κ.nodes depth w next e
  pub lowered : Models κ C X E S L n

pub expression_top : (κ : Regions) (w : ℕ) (e : Expression) {C : List Item} {X : List Entry} {E : Environment} {S : Store} {L : List ℕ} {n : ℕ} →
    Models (with_control w κ) (expression e ∷ C) X E S L n → ExpressionTop κ w e C X E S L n
expression_top κ w e {C} {X} {E} {S} {L} {n} μ = by μ.mode μ.control_as refl
  where
    by : (m : Mode) → ControlAs κ.nodes m (w ∷ κ.control) (expression e ∷ C) → μ.mode ≡ m → ExpressionTop κ w e C X E S L n
    by m (expression_on {d = d} {j = j} s h) q =
        record {
          depth = d;
          next = j;
          stored = s;
          lowered = record {
            mode = μ.mode;
            control_as = subst (λ k. ControlAs κ.nodes k κ.control C) (sym q) h;
            values_as = μ.values_as;
            environment_as = μ.environment_as;
            store_as = μ.store_as;
            locations_as = μ.locations_as;
            bindings_as = μ.bindings_as;
          };
        }
