-- The meter's marks after a step: by the item's word only the sizes are looked at that the item can raise, and that is enough where the marks
-- cover the state before the step.
use Prim.Native.Nat.{ℕ, ◌+◌, ◌*◌, ◌%◌, ◌<◌, ◌≤◌, max}
use mathlib.Core.Path.{◌≡◌, refl, sym, ap, ◌∙◌, subst}
use mathlib.Core.Bool.{Bool, true, false, cond}
use mathlib.Core.List.{List, ◌∷◌}
use native.Mathlib.Omega.{arith}
use borrow.Author.Tests.{lt-ltb, le-ltb, ltb-true, ltb-false}
use lib.Dec.{ltb}
use lib.ListN.{length, get_or}
use Rattle.rules.specs.paper.Limits.{names}
use Rattle.rules.specs.paper.States.{Environment, Store, Entry, Item, mark, Mark, state}
use Rattle.rules.specs.paper.Rules.{Rule, goes, Table}
use Rattle.rules.specs.paper.Run.{Verdict, made, withheld, judge}
use Rattle.rules.proofs.running.Judging.{made_goes}
use Rattle.rules.proofs.running.StepSizes.{IsNode, KeepsMemory, node_keeps_memory, RaisesNothing, NoneAbove, mark_raises_nothing}
use Rattle.machine.specs.Layout.{top_control, mark_base, mark_numbers}
use Rattle.machine.specs.Regions.{regions}
use Rattle.machine.specs.Represents.{Mode, ControlAs, operator_on, not_on, assign_on, loop_on, conditional_on, ref_on, bind_on, dseq_extend_on, dseq_join_on, extend_on, leave_on, call_on}
use Rattle.machine.specs.Steps.{Holds, StepAnswer}
use Rattle.machine.specs.declared.Machine.{Machine}
use Rattle.std.specs.Prelude.{Result, Ok}
use Rattle.rules.specs.declared.refusals.Reason.{Reason}
use Rattle.machine.proofs.state_laws.ModelLaws.{Sizes, sizes}
use Rattle.automaton.specs.Runs.{EnabledAt, Enabled, StepsFrom}
use Rattle.automaton.specs.Meter.{first_that_raises, stacks_raised, all_raised, after_step, marks_by_word, Covers}
use Rattle.automaton.specs.declared.meter.HighMarks.{HighMarks}
use Rattle.automaton.proofs.step_laws.StepLaws.{lowered, ItemSort, expression_sort, command_sort, declaration_sort, reference_sort, abstraction_sort, mark_sort, Taken, taken}
use Rattle.automaton.proofs.step_laws.MarkRuleLaws.{leave_kind, call_kind}

-- ---- What the word says of the item.

is_node : {words : List ℕ} {w : ℕ} {i : Item} → ItemSort words w i → w < mark_base → IsNode i
is_node (expression_sort l k) h = tt
is_node (command_sort l n) h = tt
is_node (declaration_sort l n) h = tt
is_node (reference_sort l q) h = tt
is_node (abstraction_sort l q) h = tt
is_node (mark_sort l) h = absurd (omega (arith, l, h))

raises_nothing : {nodes : List ℕ} {m : Mode} {w : ℕ} {ws : List ℕ} {C : List Item} {k : Mark} → ControlAs nodes m (w ∷ ws) (mark k ∷ C) → w % mark_numbers < first_that_raises → RaisesNothing k
raises_nothing (operator_on q h) l = tt
raises_nothing (not_on q h) l = tt
raises_nothing (assign_on q h) l = tt
raises_nothing (loop_on q h) l = absurd (omega (arith, q, l))
raises_nothing (conditional_on q h) l = absurd (omega (arith, q, l))
raises_nothing (ref_on q h) l = absurd (omega (arith, q, l))
raises_nothing (bind_on q h) l = absurd (omega (arith, q, l))
raises_nothing (dseq_extend_on q h) l = absurd (omega (arith, q, l))
raises_nothing (dseq_join_on q h) l = absurd (omega (arith, q, l))
raises_nothing (extend_on q h) l = absurd (omega (arith, q, l))
raises_nothing (leave_on {m = m} {w = w} q h) l = absurd (omega (arith, leave_kind w m q, l))
raises_nothing (call_on {w = w} {x = x} {k = k} q a b h) l = absurd (omega (arith, call_kind w (x + names * k) q, l))

-- ---- The tests of the code.

module _ (h : HighMarks) (w : ℕ) (answer : Result Machine Reason) (next : Machine) (q : answer ≡ Ok next) where
  pub node_marks : w < mark_base → stacks_raised h next ≡ marks_by_word h w answer
  node_marks l =
      subst (λ a. stacks_raised h next ≡ marks_by_word h w a) (sym q)
      (sym (ap (λ t. cond t (stacks_raised h next) (cond (ltb (w % mark_numbers) first_that_raises) h (all_raised h next))) (lt-ltb w mark_base l)))

  mark_marks : mark_base ≤ w → cond (ltb (w % mark_numbers) first_that_raises) h (all_raised h next) ≡ marks_by_word h w answer
  mark_marks l =
      subst (λ a. cond (ltb (w % mark_numbers) first_that_raises) h (all_raised h next) ≡ marks_by_word h w a) (sym q)
      (sym (ap (λ t. cond t (stacks_raised h next) (cond (ltb (w % mark_numbers) first_that_raises) h (all_raised h next))) (le-ltb w mark_base l)))

  pub low_marks : mark_base ≤ w → w % mark_numbers < first_that_raises → h ≡ marks_by_word h w answer
  low_marks l g = sym (ap (λ t. cond t h (all_raised h next)) (lt-ltb (w % mark_numbers) first_that_raises g)) ∙ mark_marks l

  pub other_marks : mark_base ≤ w → first_that_raises ≤ w % mark_numbers → all_raised h next ≡ marks_by_word h w answer
  other_marks l g = sym (ap (λ t. cond t h (all_raised h next)) (le-ltb (w % mark_numbers) first_that_raises g)) ∙ mark_marks l

-- ---- A step that is made.

-- A size that is not above its mark raises nothing.
not_raised : (high size before : ℕ) → before ≤ high → size ≤ before → high ≡ max high size
not_raised high size before h g = omega (arith, h, g)

pub same_marks : {c d b a v w k l : ℕ} → c ≡ d → b ≡ a → v ≡ w → k ≡ l →
    ◌≡◌ {A = HighMarks} (record { cells = c; bindings = b; values = v; control = k }) (record { cells = d; bindings = a; values = w; control = l })
same_marks p q r s = λ i. record { cells = p i; bindings = q i; values = r i; control = s i }

module _ (words : List ℕ) (m : Machine) (h : HighMarks) (covers : Covers h m) (after : List ℕ) where
  by_item : (next : Machine) (w : ℕ) → w ≡ get_or words (top_control + m.control) 0 → {i : Item} {C : List Item} {X : List Entry} {E : Environment} {S : Store} {L : List ℕ} {n : ℕ} {r : Rule} →
      (C' : List Item) (X' : List Entry) (E' : Environment) (S' : Store) (L' : List ℕ) (n' : ℕ) → EnabledAt words m i C X E S L n r (goes (state C' X' E' S' L' n')) →
      Holds after next (state C' X' E' S' L' n') → marks_by_word h w (Ok next) ≡ all_raised h next
  by_item next w top {i} {C} {X} {E} {S} {L} {n} {r} C' X' E' S' L' n' enabled held = by (ltb w mark_base) refl (ltb (w % mark_numbers) first_that_raises) refl
    where
      before : Sizes m (i ∷ C) X S n
      before = sizes words m enabled.stands.models

      then : Sizes next C' X' S' n'
      then = sizes after next held.models

      at_node : KeepsMemory S n (goes (state C' X' E' S' L' n')) → stacks_raised h next ≡ all_raised h next
      at_node kept =
          same_marks
          (not_raised h.cells next.cells m.cells covers.cells_below (omega (arith, kept.0, before.cells_height, then.cells_height)))
          (not_raised h.bindings next.bindings m.bindings covers.bindings_below (omega (arith, kept.1, before.bindings_height, then.bindings_height)))
          refl refl

      at_mark : NoneAbove (length C) (length X) (length S) n (goes (state C' X' E' S' L' n')) → h ≡ all_raised h next
      at_mark none =
          same_marks
          (not_raised h.cells next.cells m.cells covers.cells_below (omega (arith, none.2, before.cells_height, then.cells_height)))
          (not_raised h.bindings next.bindings m.bindings covers.bindings_below (omega (arith, none.3, before.bindings_height, then.bindings_height)))
          (not_raised h.values next.values m.values covers.values_below (omega (arith, none.1, before.values_height, then.values_height)))
          (not_raised h.control next.control m.control covers.control_below (omega (arith, none.0, before.control_height, then.control_height)))

      quiet : {j : Item} → ItemSort words w j → mark_base ≤ w → w % mark_numbers < first_that_raises → {nodes : List ℕ} {mode : Mode} {ws : List ℕ} → ControlAs nodes mode (w ∷ ws) (j ∷ C) →
          Table C E S L n r j X (goes (state C' X' E' S' L' n')) → NoneAbove (length C) (length X) (length S) n (goes (state C' X' E' S' L' n'))
      quiet (expression_sort l k) high low c line = absurd (omega (arith, l, high))
      quiet (command_sort l n) high low c line = absurd (omega (arith, l, high))
      quiet (declaration_sort l n) high low c line = absurd (omega (arith, l, high))
      quiet (reference_sort l q) high low c line = absurd (omega (arith, l, high))
      quiet (abstraction_sort l q) high low c line = absurd (omega (arith, l, high))
      quiet (mark_sort l) high low c line = mark_raises_nothing C E S L n line (raises_nothing c low)

      off : Taken words m i C X E S L n r (goes (state C' X' E' S' L' n'))
      off = taken words m enabled

      by : (node : Bool) → ltb w mark_base ≡ node → (low : Bool) → ltb (w % mark_numbers) first_that_raises ≡ low → cond node (stacks_raised h next) (cond low h (all_raised h next)) ≡ all_raised h next
      by true p low q = at_node (node_keeps_memory C E S L n enabled.applies (is_node (subst (λ v. ItemSort words v i) (sym top) off.sort) (ltb-true w mark_base p)))
      by false p true q =
          at_mark
          (quiet (subst (λ v. ItemSort words v i) (sym top) off.sort) (ltb-false w mark_base p) (ltb-true (w % mark_numbers) first_that_raises q)
          (subst (λ v. ControlAs (regions words (lowered m)).nodes off.ready.models.mode (v ∷ (regions words (lowered m)).control) (i ∷ C)) (sym top) off.ready.models.control_as) enabled.applies)
      by false p false q = refl

  -- ---- The marks after a step, whatever it answers.

  pub marks_right : (w : ℕ) → w ≡ get_or words (top_control + m.control) 0 → Enabled words m → (answer : Result Machine Reason) → StepsFrom words m answer after → marks_by_word h w answer ≡ after_step h answer
  marks_right w top en answer steps =
      by (judge false en.effect) refl (steps en.item en.control en.values en.environment en.store en.locations en.bindings en.rule en.effect en.enabled)
    where
      by : (v : Verdict) → judge false en.effect ≡ v → StepAnswer v answer words after → marks_by_word h w answer ≡ after_step h answer
      by (made (state C X E S L n)) q t =
          subst (λ a. marks_by_word h w a ≡ after_step h a) (sym t.answer)
          (by_item t.machine w top C X E S L n (subst (EnabledAt words m en.item en.control en.values en.environment en.store en.locations en.bindings en.rule) (made_goes en.effect (state C X E S L n) q) en.enabled) t.holds)
      by (withheld x) q t = subst (λ a. marks_by_word h w a ≡ after_step h a) (sym t.answer) refl
