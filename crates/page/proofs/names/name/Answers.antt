-- `names::name` answers the name of each kind.
use Rattle.page.proofs.names.name.Goals as goal

pub returns-in-Expression-Num : goal.returns-in-Expression-Num
returns-in-Expression-Num c = rw (c.in-Expression-Num.is, (rw c.in-Expression-Num.is at c.in-Expression-Num.field-0-is))

pub returns-in-Expression-Boo : goal.returns-in-Expression-Boo
returns-in-Expression-Boo c = rw (c.in-Expression-Boo.is, (rw c.in-Expression-Boo.is at c.in-Expression-Boo.field-0-is))

pub returns-in-Expression-Id : goal.returns-in-Expression-Id
returns-in-Expression-Id c = rw (c.in-Expression-Id.is, (rw c.in-Expression-Id.is at c.in-Expression-Id.field-0-is))

pub returns-in-Expression-DeRef : goal.returns-in-Expression-DeRef
returns-in-Expression-DeRef c = rw (c.in-Expression-DeRef.is, (rw c.in-Expression-DeRef.is at c.in-Expression-DeRef.field-0-is))

pub returns-in-Expression-ValRef : goal.returns-in-Expression-ValRef
returns-in-Expression-ValRef c = rw (c.in-Expression-ValRef.is, (rw c.in-Expression-ValRef.is at c.in-Expression-ValRef.field-0-is))

pub returns-in-Expression-Not : goal.returns-in-Expression-Not
returns-in-Expression-Not c = rw (c.in-Expression-Not.is, (rw c.in-Expression-Not.is at c.in-Expression-Not.field-0-is))

pub returns-in-Command-Assign : goal.returns-in-Command-Assign
returns-in-Command-Assign c = rw (c.in-Command-Assign.is, (rw c.in-Command-Assign.is at c.in-Command-Assign.field-0-is))

pub returns-in-Command-Loop : goal.returns-in-Command-Loop
returns-in-Command-Loop c = rw (c.in-Command-Loop.is, (rw c.in-Command-Loop.is at c.in-Command-Loop.field-0-is))

pub returns-in-Command-CSeq : goal.returns-in-Command-CSeq
returns-in-Command-CSeq c = rw (c.in-Command-CSeq.is, (rw c.in-Command-CSeq.is at c.in-Command-CSeq.field-0-is))

pub returns-in-Command-Blk : goal.returns-in-Command-Blk
returns-in-Command-Blk c = rw (c.in-Command-Blk.is, (rw c.in-Command-Blk.is at c.in-Command-Blk.field-0-is))

pub returns-in-Command-Call : goal.returns-in-Command-Call
returns-in-Command-Call c = rw (c.in-Command-Call.is, (rw c.in-Command-Call.is at c.in-Command-Call.field-0-is))

pub returns-in-Command-Cond : goal.returns-in-Command-Cond
returns-in-Command-Cond c = rw (c.in-Command-Cond.is, (rw c.in-Command-Cond.is at c.in-Command-Cond.field-0-is))

pub returns-in-Declaration-Bind : goal.returns-in-Declaration-Bind
returns-in-Declaration-Bind c = rw (c.in-Declaration-Bind.is, (rw c.in-Declaration-Bind.is at c.in-Declaration-Bind.field-0-is))

pub returns-in-Declaration-DSeq : goal.returns-in-Declaration-DSeq
returns-in-Declaration-DSeq c = rw (c.in-Declaration-DSeq.is, (rw c.in-Declaration-DSeq.is at c.in-Declaration-DSeq.field-0-is))

pub returns-in-Ref : goal.returns-in-Ref
returns-in-Ref c = rw c.in-Ref.is

pub returns-in-Abs : goal.returns-in-Abs
returns-in-Abs c = rw c.in-Abs.is

pub returns-in-Formal : goal.returns-in-Formal
returns-in-Formal c = rw c.in-Formal.is
