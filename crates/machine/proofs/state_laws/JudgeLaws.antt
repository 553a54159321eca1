-- Which steps are made and which are withheld: the reasons of room by the state after the step, in the order of the reasons.
use Prim.Native.Nat.{ℕ, ◌<◌, ◌≤◌}
use mathlib.Core.Path.{◌≡◌, refl, sym, ap, ◌∙◌}
use mathlib.Core.Bool.{Bool, true, false, cond}
use mathlib.Core.List.{List}
use mathlib.Core.Option.{Option, none, some}
use borrow.Author.Tests.{le-ltb, lt-ltb, ltb-false}
use lib.Dec.{ltb}
use lib.ListN.{length}
use Rattle.std.specs.Prelude.{Some, None}
use Rattle.rules.specs.paper.Refusals.{reason_number}
use Rattle.rules.specs.declared.refusals.Reason.{Reason}
use Rattle.rules.specs.declared.refusals.Reason.TheVariants.{Steps, ZeroDivisor, OutOfRange, Cells, Bindings, ValueEntries, ControlEntries}
use Rattle.rules.specs.paper.States.{Environment, Store, Entry, Item, State, state}
use Rattle.rules.specs.paper.Rules.{goes, fails}
use Rattle.rules.specs.paper.Run.{priority, holds, first_holding, made, withheld, settle, judge}
use Rattle.rules.specs.paper.Limits.{most_cells, most_bindings, most_value_entries, most_control_entries}
use Rattle.rules.proofs.running.Judging.{first_same}
use Rattle.machine.specs.Room.{over_limit, answered, reason_of_room}

module _ (bindings values control : ℕ) where
  -- ---- The first reason that so many bindings and entries are over the limit for.

  abbrev first_over : Option Reason
  first_over = first_holding (over_limit bindings values control) priority

  first_bindings : most_bindings < bindings → first_over ≡ some Bindings
  unfolding priority first_holding
  first_bindings above = rw (lt-ltb most_bindings bindings above)

  first_control : bindings ≤ most_bindings → most_control_entries < control → first_over ≡ some ControlEntries
  unfolding priority first_holding
  first_control free above = rw (le-ltb most_bindings bindings free, lt-ltb most_control_entries control above)

  first_values : bindings ≤ most_bindings → control ≤ most_control_entries → most_value_entries < values → first_over ≡ some ValueEntries
  unfolding priority first_holding
  first_values free short above = rw (le-ltb most_bindings bindings free, le-ltb most_control_entries control short, lt-ltb most_value_entries values above)

  none_over : bindings ≤ most_bindings → control ≤ most_control_entries → values ≤ most_value_entries → first_over ≡ none
  unfolding priority first_holding
  none_over free short few = rw (le-ltb most_bindings bindings free, le-ltb most_control_entries control short, le-ltb most_value_entries values few)

  pub over_bindings : most_bindings < bindings → Some Bindings ≡ reason_of_room bindings values control
  unfolding reason_of_room
  over_bindings above = sym (ap answered (first_bindings above))

  pub over_control : bindings ≤ most_bindings → most_control_entries < control → Some ControlEntries ≡ reason_of_room bindings values control
  unfolding reason_of_room
  over_control free above = sym (ap answered (first_control free above))

  pub over_values : bindings ≤ most_bindings → control ≤ most_control_entries → most_value_entries < values → Some ValueEntries ≡ reason_of_room bindings values control
  unfolding reason_of_room
  over_values free short above = sym (ap answered (first_values free short above))

  pub within_limits : bindings ≤ most_bindings → control ≤ most_control_entries → values ≤ most_value_entries → None ≡ reason_of_room bindings values control
  unfolding reason_of_room
  within_limits free short few = sym (ap answered (none_over free short few))

  -- Where none is named there is room for all three.
  pub room_left : None ≡ reason_of_room bindings values control → (bindings ≤ most_bindings) × (values ≤ most_value_entries) × (control ≤ most_control_entries)
  unfolding reason_of_room priority first_holding
  room_left q = by (ltb most_bindings bindings) (ltb most_control_entries control) (ltb most_value_entries values) refl refl refl q
    where
      by : (b c v : Bool) → ltb most_bindings bindings ≡ b → ltb most_control_entries control ≡ c → ltb most_value_entries values ≡ v →
          None ≡ answered (cond b (some Bindings) (cond c (some ControlEntries) (cond v (some ValueEntries) none))) → (bindings ≤ most_bindings) × (values ≤ most_value_entries) × (control ≤ most_control_entries)
      by true _ _ p q r z = cc
      by false true _ p q r z = cc
      by false false true p q r z = cc
      by false false false p q r z = (ltb-false most_bindings bindings p, ltb-false most_value_entries values r, ltb-false most_control_entries control q)

-- ---- The step to a state, by its sizes.

module _ (C : List Item) (X : List Entry) (E : Environment) (S : Store) (L : List ℕ) (n : ℕ) where
  abbrev after : State
  after = state C X E S L n

  pub judged_cells : most_cells < length S → judge false (goes after) ≡ withheld Cells
  unfolding judge priority holds first_holding
  judged_cells cells = rw (lt-ltb most_cells (length S) cells)

  -- With room for the cells, what holds of the state after the step is what its sizes say.
  holds_by_sizes : length S ≤ most_cells → (r : Reason) → holds false (goes after) r ≡ over_limit n (length X) (length C) r
  unfolding holds
  holds_by_sizes cells Steps = refl
  holds_by_sizes cells ZeroDivisor = refl
  holds_by_sizes cells OutOfRange = refl
  holds_by_sizes cells Cells = le-ltb most_cells (length S) cells
  holds_by_sizes cells Bindings = refl
  holds_by_sizes cells ValueEntries = refl
  holds_by_sizes cells ControlEntries = refl

  judged_by_sizes : length S ≤ most_cells → {o : Option Reason} → first_over n (length X) (length C) ≡ o → judge false (goes after) ≡ settle (goes after) o
  unfolding judge
  judged_by_sizes cells q = ap (settle (goes after)) (first_same _ _ (holds_by_sizes cells) priority ∙ q)

  pub judged_made : length S ≤ most_cells → n ≤ most_bindings → length X ≤ most_value_entries → length C ≤ most_control_entries → judge false (goes after) ≡ made after
  judged_made cells free few short = judged_by_sizes cells (none_over n (length X) (length C) free short few)

  pub judged_bindings : length S ≤ most_cells → most_bindings < n → judge false (goes after) ≡ withheld Bindings
  judged_bindings cells above = judged_by_sizes cells (first_bindings n (length X) (length C) above)

  pub judged_control : length S ≤ most_cells → n ≤ most_bindings → most_control_entries < length C → judge false (goes after) ≡ withheld ControlEntries
  judged_control cells free above = judged_by_sizes cells (first_control n (length X) (length C) free above)

  pub judged_values : length S ≤ most_cells → n ≤ most_bindings → length C ≤ most_control_entries → most_value_entries < length X → judge false (goes after) ≡ withheld ValueEntries
  judged_values cells free short above = judged_by_sizes cells (first_values n (length X) (length C) free short above)

  -- For the reason that the code names.
  pub judged_over : length S ≤ most_cells → (x : Reason) → Some x ≡ reason_of_room n (length X) (length C) → judge false (goes after) ≡ withheld x
  unfolding reason_of_room
  judged_over cells x named = by (first_over n (length X) (length C)) refl named
    where
      by : (o : Option Reason) → first_over n (length X) (length C) ≡ o → Some x ≡ answered o → judge false (goes after) ≡ withheld x
      by none q z = cc
      by (some y) q z = judged_by_sizes cells q ∙ ap withheld (cc)

-- An arithmetic fault is its own reason.
pub judged_zero_divisor : judge false (fails ZeroDivisor) ≡ withheld ZeroDivisor
unfolding judge priority holds first_holding reason_number
judged_zero_divisor = refl

pub judged_out_of_range : judge false (fails OutOfRange) ≡ withheld OutOfRange
unfolding judge priority holds first_holding reason_number
judged_out_of_range = refl
