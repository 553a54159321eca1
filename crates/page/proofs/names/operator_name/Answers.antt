-- `names::operator_name` answers the name of each operator.
use Rattle.page.proofs.names.operator_name.Goals as goal

pub returns-in-Arithmetic-Sum : goal.returns-in-Arithmetic-Sum
returns-in-Arithmetic-Sum c = rw (c.in-Arithmetic-Sum.is, (rw c.in-Arithmetic-Sum.is at c.in-Arithmetic-Sum.field-0-is))

pub returns-in-Arithmetic-Sub : goal.returns-in-Arithmetic-Sub
returns-in-Arithmetic-Sub c = rw (c.in-Arithmetic-Sub.is, (rw c.in-Arithmetic-Sub.is at c.in-Arithmetic-Sub.field-0-is))

pub returns-in-Arithmetic-Mul : goal.returns-in-Arithmetic-Mul
returns-in-Arithmetic-Mul c = rw (c.in-Arithmetic-Mul.is, (rw c.in-Arithmetic-Mul.is at c.in-Arithmetic-Mul.field-0-is))

pub returns-in-Arithmetic-Div : goal.returns-in-Arithmetic-Div
returns-in-Arithmetic-Div c = rw (c.in-Arithmetic-Div.is, (rw c.in-Arithmetic-Div.is at c.in-Arithmetic-Div.field-0-is))

pub returns-in-Eq : goal.returns-in-Eq
returns-in-Eq c = rw c.in-Eq.is

pub returns-in-Order-Lt : goal.returns-in-Order-Lt
returns-in-Order-Lt c = rw (c.in-Order-Lt.is, (rw c.in-Order-Lt.is at c.in-Order-Lt.field-0-is))

pub returns-in-Order-Le : goal.returns-in-Order-Le
returns-in-Order-Le c = rw (c.in-Order-Le.is, (rw c.in-Order-Le.is at c.in-Order-Le.field-0-is))

pub returns-in-Order-Gt : goal.returns-in-Order-Gt
returns-in-Order-Gt c = rw (c.in-Order-Gt.is, (rw c.in-Order-Gt.is at c.in-Order-Gt.field-0-is))

pub returns-in-Order-Ge : goal.returns-in-Order-Ge
returns-in-Order-Ge c = rw (c.in-Order-Ge.is, (rw c.in-Order-Ge.is at c.in-Order-Ge.field-0-is))

pub returns-in-Logic-And : goal.returns-in-Logic-And
returns-in-Logic-And c = rw (c.in-Logic-And.is, (rw c.in-Logic-And.is at c.in-Logic-And.field-0-is))

pub returns-in-Logic-Or : goal.returns-in-Logic-Or
returns-in-Logic-Or c = rw (c.in-Logic-Or.is, (rw c.in-Logic-Or.is at c.in-Logic-Or.field-0-is))
