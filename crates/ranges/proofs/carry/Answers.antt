-- The registers' names and cells, the root, and the ends.
use Rattle.std.proofs.lemmas.Result.{err_from_is_err_and}
use Rattle.ranges.proofs.RootLaws.{some_root, routine_unsafe, routine_carried}
use Rattle.ranges.proofs.carry.Goals as goal

pub root-requires-clause-some_root : goal.root-requires-clause-some_root
root-requires-clause-some_root c =
    some_root _ _ _ _ _ _ c.start-held.ensures.value c.start-held.ensures.registers_at c.start-held.ensures.keeps c.requires.some_routine

pub returns-in_err-root-clause-routine_carried : goal.returns-in_err-root-clause-routine_carried
returns-in_err-root-clause-routine_carried c =
    let p = err_from_is_err_and c.from_residual.result c.from_residual.ensures.1 in rw (p.1, p.2) (routine_unsafe _ _ _ _ _ _ c.start-held.ensures.value c.start-held.ensures.registers_at c.start-held.ensures.keeps _ _ c.in_err-root.ensures.root_carried)

pub returns-clause-routine_carried : goal.returns-clause-routine_carried
returns-clause-routine_carried c =
    routine_carried _ _ _ _ _ _ c.start-held.ensures.value c.start-held.ensures.registers_at c.start-held.ensures.keeps _ c.in_ok-root.ensures.root_carried c.root.ensures.keeps _ _ c.take_ends.ensures
