-- start: a row and a cell for each register, then the root, if there is one.
use Rattle.automaton.proofs.run_laws.StartLaws.{RegistersSet}
use Rattle.automaton.proofs.start.start.Given as goal

abbrev pub invariant-loop-i : goal.invariant-loop-i
invariant-loop-i l = RegistersSet l.initial.work l.registers l.work l.m l.i
