-- execute: the start, the run, and the registers taken from its last state.
use native.Mathlib.Omega.{arith}
use Rattle.rules.specs.claims.History.{first_history}
use Rattle.calls.proofs.ExecuteLaws.{few_registers, starts_sound, executed}
use Rattle.calls.proofs.perform.execute.Goals as goal

pub start-first-requires : goal.start-first-requires
start-first-requires c = record {
  work_words_in_bounds = c.requires.work_words_in_bounds;
  registers_len_bound = few_registers c.requires.tree_stands.0 c.args.registers.now c.requires.tree_stands.1 c.requires.tree_stands.2 c.requires.tree_stands.3;
}

pub run-ending-requires : goal.run-ending-requires
run-ending-requires c =
    (c.requires.tree_stands.2, _, _, first_history _, (c.start-first.ensures c.requires.tree_stands.1 c.requires.tree_stands.4).holds, starts_sound c.requires.tree_stands.0 c.args.registers.now c.requires.tree_stands.1 c.requires.tree_stands.2 c.requires.tree_stands.3 (λ i h. (c.slice_known-1.given i).fits))

pub take_registers-requires : goal.take_registers-requires
take_registers-requires c = record {
  work_words_in_bounds = omega (arith, c.run-ending.auto.work, c.start-first.auto.work, c.requires.work_words_in_bounds);
  registers_len_bound = few_registers c.requires.tree_stands.0 c.args.registers.now c.requires.tree_stands.1 c.requires.tree_stands.2 c.requires.tree_stands.3;
}

pub returns : goal.returns
returns c image t a passes stands =
    let begun = c.start-first.ensures t stands in
    executed image c.args.registers.now t a passes (λ i h. (c.slice_known-1.given i).fits) c.args.budget _ _ _ _ _ _ begun
    (c.run-ending.ensures a _ _ (first_history _) begun.holds (starts_sound image c.args.registers.now t a passes (λ i h. (c.slice_known-1.given i).fits))) c.take_registers.ensures
