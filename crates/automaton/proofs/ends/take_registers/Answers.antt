-- take_registers: the contents of the first cells, one by one.
use Rattle.std.proofs.Common.{ℕ, ◌≡◌, ◌+◌, ◌<◌, ◌≤◌, List, length, get_or, take, drop, sym, ◌∙◌, arith, length-drop}
use Rattle.std.proofs.lemmas.List.{ext_get_or, get_or-take, get_or-drop, length-take-le}
use Rattle.machine.specs.Layout.{cell_payloads}
use Rattle.rules.specs.paper.Limits.{work_words, most_registers}
use Rattle.automaton.proofs.run_laws.ResultLaws.{registers_taken}
use Rattle.automaton.proofs.ends.take_registers.Goals as goal

all_taken : (work registers : List ℕ) (count : ℕ) → work_words ≤ length work → count ≤ most_registers → length registers ≡ count →
    ((k : ℕ) → k < count → get_or registers k 0 ≡ get_or work (cell_payloads + k) 0) → registers ≡ take count (drop cell_payloads work)
all_taken work registers count whole few long taken =
    ext_get_or 0 registers (take count (drop cell_payloads work)) (long ∙ sym (length-take-le count (drop cell_payloads work) (omega (arith, length-drop cell_payloads work, whole, few))))
    (λ k h. taken k (omega (arith, h, long)) ∙ sym (get_or-take count (drop cell_payloads work) k 0 (omega (arith, h, long)) ∙ get_or-drop cell_payloads work k 0))

pub returns : goal.returns
returns c m σ held hold =
    all_taken c.args.work.now c.loop-i.registers _ c.requires.work_words_in_bounds c.requires.registers_len_bound c.loop-i.auto.registers
    (λ k h. c.loop-i.invariant k (omega (arith, h, c.loop-i-test.false, c.loop-i.auto.registers)))
    ∙ registers_taken c.args.work.now m σ _ c.requires.registers_len_bound held hold
