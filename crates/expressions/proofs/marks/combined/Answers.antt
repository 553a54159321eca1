-- combined: And and Or of two truths.
use mathlib.Core.Path.{◌≡◌}
use mathlib.Core.Bool.{Bool, true, false}
use Prim.Native.Nat.{ℕ}
use lib.Bits.{bit_and, bit_or}
use Rattle.rules.specs.declared.kinds.Logic.{Logic}
use Rattle.rules.specs.declared.kinds.Logic.TheVariants.{And, Or}
use Rattle.rules.specs.claims.Listing.{truth_word}
use Rattle.rules.specs.paper.Integers.{combine}
use Rattle.expressions.proofs.marks.combined.Goals as goal

both : {first second : ℕ} (o : Logic) → o ≡ And → (a b : Bool) →
    first ≡ truth_word a → second ≡ truth_word b → bit_and first second ≡ truth_word (combine o a b)
unfolding combine
both o is true true p q = rw (is, p, q)
both o is true false p q = rw (is, p, q)
both o is false b p q = rw (is, p)

either : {first second : ℕ} (o : Logic) → o ≡ Or → (a b : Bool) →
    first ≡ truth_word a → second ≡ truth_word b → bit_or first second ≡ truth_word (combine o a b)
unfolding combine
either o is true true p q = rw (is, p, q)
either o is true false p q = rw (is, p, q)
either o is false true p q = rw (is, p, q)
either o is false false p q = rw (is, p, q)

pub returns-in-And : goal.returns-in-And
returns-in-And c = both _ c.in-And.is

pub returns-in-Or : goal.returns-in-Or
returns-in-Or c = either _ c.in-Or.is
