-- take_registers: the contents of the first cells, one by one.
use Rattle.std.proofs.Common.{ℕ, ◌≡◌, ◌+◌, ◌<◌, get_or}
use Rattle.machine.specs.Layout.{cell_payloads}
use Rattle.automaton.proofs.ends.take_registers.Given as goal

abbrev pub invariant-loop-i : goal.invariant-loop-i
invariant-loop-i l = (k : ℕ) → k < l.i → get_or l.registers k 0 ≡ get_or l.work (cell_payloads + k) 0
