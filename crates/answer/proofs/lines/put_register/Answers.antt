-- put_register: a register's number and its integer.
use Rattle.answer.proofs.LineLaws.{register_line}
use Rattle.answer.proofs.lines.put_register.Goals as goal

pub returns : goal.returns
returns c = register_line _ _ c.put_labelled.ensures c.put_labelled_integer.ensures c.put.ensures
