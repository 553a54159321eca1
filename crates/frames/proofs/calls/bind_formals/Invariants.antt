-- bind_formals: a row for each Formal.
use Rattle.frames.proofs.call_laws.FormalsLoopLaws.{Around}
use Rattle.frames.proofs.calls.bind_formals.Given as goal

abbrev pub invariant-loop-formal : goal.invariant-loop-formal
invariant-loop-formal l = Around l.initial.work l.initial.m l.first l.block l.work l.m l.formal
