-- start: a row and a cell for each register, then the root, if there is one.
use mathlib.Core.Path.{ap}
use native.Mathlib.Omega.{arith}
use Rattle.automaton.proofs.run_laws.StartLaws.{none_set, row_fits, one_set, all_set, ready_fits, absent_started, root_started}
use Rattle.automaton.proofs.start.start.Goals as goal

pub loop-i-init : goal.loop-i-init
loop-i-init c = none_set _ _ c.requires.work_words_in_bounds

pub put_row-named-requires : goal.put_row-named-requires
put_row-named-requires c = record {
  fits = c.loop-i.invariant.fits;
  bindings_lt_most_bindings = omega (arith, ap (λ k. k.bindings) c.loop-i.invariant.machine_is);
}

pub put_cell-m-requires : goal.put_cell-m-requires
put_cell-m-requires c = record {
  fits = row_fits _ _ _ _ c.loop-i.invariant.fits (omega (arith, ap (λ k. k.bindings) c.loop-i.invariant.machine_is)) c.put_row-named.ensures.value c.put_row-named.ensures.m_after;
  cells_lt_most_cells = omega (arith, ap (λ k. k.cells) c.put_row-named.ensures.value, ap (λ k. k.cells) c.loop-i.invariant.machine_is);
}

pub loop-i-preserved : goal.loop-i-preserved
loop-i-preserved c =
    one_set _ _ _ _ _ _ _ _ _ c.loop-i.invariant c.loop-i-test.true c.requires.registers_len_bound (c.type_inv.registers c.loop-i.i).fits c.put_row-named.ensures.value c.put_row-named.ensures.m_after c.put_cell-m.ensures.value c.put_cell-m.ensures.m_after

pub returns-then-nodes-eq0 : goal.returns-then-nodes-eq0
returns-then-nodes-eq0 c t stands =
    absent_started _ _ _ _ (all_set c.loop-i.invariant (omega arith) c.loop-i-test.false) _ c.if-nodes-eq0.true t stands

pub put_control-requires : goal.put_control-requires
put_control-requires c = record {
  fits = ready_fits _ _ _ _ _ (all_set c.loop-i.invariant (omega arith) c.loop-i-test.false);
  control_lt_most_control_entries = omega arith;
}

pub returns : goal.returns
returns c t stands =
    root_started _ _ _ _ (all_set c.loop-i.invariant (omega arith) c.loop-i-test.false) _ _ c.put_control.ensures.value c.put_control.ensures.m_after _ c.if-nodes-eq0.false t stands
