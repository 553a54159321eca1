-- push: a value more, or 35.
use native.Mathlib.Omega.{arith}
use Rattle.machine.proofs.stack_laws.SharedLaws.{push_withheld, push_made}
use Rattle.machine.proofs.stacks.push.Goals as goal

pub returns-then-m-eq-MOST_VALUE_ENTRIES : goal.returns-then-m-eq-MOST_VALUE_ENTRIES
returns-then-m-eq-MOST_VALUE_ENTRIES c = push_withheld _ _ c.requires _ _ c.if-m-eq-MOST_VALUE_ENTRIES.true

pub returns : goal.returns
returns c =
    push_made _ _ c.requires _ _ _ _ (omega (arith, c.requires.few_values, c.if-m-eq-MOST_VALUE_ENTRIES.false)) c.put_value.ensures.value c.put_value.ensures.m_after
