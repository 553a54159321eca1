-- call_mark: the closure's block with its Formals bound, or the reason for want of room.
use mathlib.Core.Path.{sym, ◌∙◌}
use native.Mathlib.Omega.{arith}
use Rattle.machine.proofs.state_laws.JudgeLaws.{room_left}
use Rattle.frames.proofs.call_laws.CallMarkLaws.{call_actuals, call_withheld, call_looked, row_low, call_can_bind}
use Rattle.frames.proofs.call_laws.CallFrameLaws.{call_formed, call_made}
use Rattle.frames.proofs.calls.call_mark.Goals as goal

pub overflow_sub-m : goal.overflow_sub-m
overflow_sub-m c = call_actuals _ _ _ _ _ _ c.requires.3.ready

pub returns-in-Some : goal.returns-in-Some
returns-in-Some c = call_withheld _ _ _ _ (sym c.in-Some.is ∙ c.reason_of_room.ensures)

pub row_of-row-requires-clause-binds_name : goal.row_of-row-requires-clause-binds_name
row_of-row-requires-clause-binds_name c = call_looked _ _ _ _ _ _ c.requires.3.ready

pub overflow_add-closure : goal.overflow_add-closure
overflow_add-closure c = record {
  fits = omega
      (arith, row_low _ _ _ _ _ _ c.requires.3.ready _ c.row_of-row.ensures, c.requires.3.ready.fits.few_bindings);
}

pub offset_bounds-work-row : goal.offset_bounds-work-row
offset_bounds-work-row c = record {
  fits = omega
      (arith, row_low _ _ _ _ _ _ c.requires.3.ready _ c.row_of-row.ensures, c.requires.3.ready.fits.few_bindings);
}

pub bounds-work-row : goal.bounds-work-row
bounds-work-row c = omega (
  arith,
  row_low _ _ _ _ _ _ c.requires.3.ready _ c.row_of-row.ensures,
  c.requires.3.ready.fits.few_bindings,
  c.requires.3.ready.fits.room,
)

pub bind_formals-called-requires : goal.bind_formals-called-requires
bind_formals-called-requires c =
    let f = c.requires.3.ready.fits in
    let some = room_left _ _ _ (sym c.in_default.is ∙ c.reason_of_room.ensures) in record {
      fits = record { room = f.room; few_control = f.few_control; few_values = f.few_values; few_bindings = f.few_bindings; few_cells = f.few_cells };
      first_bound = omega (arith, some.0);
      can_bind = call_can_bind _ _ _ _ _ _ c.requires.3.ready _ c.row_of-row.ensures;
    }

pub put_frame-requires : goal.put_frame-requires
put_frame-requires c =
    let some = room_left _ _ _ (sym c.in_default.is ∙ c.reason_of_room.ensures) in
    let formed = call_formed _ _ _ _ c.row_of-row.ensures _ _ c.bind_formals-called.ensures.value c.bind_formals-called.ensures.binds some.0 some.1 some.2 _ _ _ c.requires.3.ready in record {
      fits = formed.fits;
      values_bound = formed.few_values;
      control_bound = formed.few_control;
    }

pub returns : goal.returns
returns c = λ p x k C X E S L n r e ready.
    let some = room_left _ _ _ (sym c.in_default.is ∙ c.reason_of_room.ensures) in
    call_made _ _ _ _ c.row_of-row.ensures _ _ c.bind_formals-called.ensures.value c.bind_formals-called.ensures.binds some.0 some.1 some.2 p x k ready _ _ c.put_frame.ensures.fits c.put_frame.ensures.m_after
