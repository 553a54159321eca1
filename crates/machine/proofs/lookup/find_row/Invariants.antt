-- find_row: along the chain, until the name is found.
use Prim.Native.Nat.{ℕ}
use mathlib.Core.Path.{◌≡◌}
use mathlib.Core.List.{List}
use mathlib.Core.Option.{some}
use Rattle.rules.specs.paper.States.{Bindable, Environment, lookup}
use Rattle.machine.specs.Layout.{row_labels, row_payloads}
use Rattle.machine.specs.Regions.{slots}
use Rattle.machine.specs.Represents.{SegmentAs}
use Rattle.machine.proofs.memory_laws.LookupLaws.{FirstRow}
use Rattle.machine.proofs.lookup.find_row.Given as goal

-- Wherever the name is found in the whole environment it is found in what is left of it.
abbrev pub Left : List ℕ → (bindings pointer name at : ℕ) → Type 0
Left work bindings pointer name at =
    (nodes : List ℕ) (E : Environment) (b : Bindable) → SegmentAs nodes (slots row_labels row_payloads bindings work) pointer 0 E → lookup name E ≡ some b → FirstRow nodes (slots row_labels row_payloads bindings work) at name b

abbrev pub invariant-loop-row : goal.invariant-loop-row
invariant-loop-row l = Left l.work l.bindings l.pointer l.name l.at

abbrev pub decreases-loop-row : goal.decreases-loop-row
decreases-loop-row l = l.at
