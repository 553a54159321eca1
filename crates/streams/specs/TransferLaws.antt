-- What a transfer leaves: a call that it goes on from leaves less, and no more bytes are moved than there are.
use Rattle.std.specs.Prelude.{ℕ, zero, suc, ◌+◌, ◌<◌, ◌≤◌, Bool, true, false, None, Some, Result, Ok, Err}
use Rattle.std.proofs.Common.{arith, sym, subst}
use Rattle.std.specs.declared.io.Error.{Error}
use Rattle.streams.specs.Transfers.{Moved, is_interruption, Next, after_interruption, after_failure, after_call, Answered, Transfers, all, on, nothing, failed}
use Rattle.streams.specs.declared.Left.{Left}

-- What a call that the transfer goes on from leaves: no more bytes, and of bytes and interruptions together less.
abbrev pub Falls : Left → Next → Type 0
Falls left (Ok (Some rest)) = (rest.bytes ≤ left.bytes) × (rest.bytes + rest.interruptions < left.bytes + left.interruptions)
Falls left (Ok None) = Unit {0}
Falls left (Err error) = Unit {0}

falls_after_interruption : (error : Error) (n i : ℕ) → Falls (record { bytes = n; interruptions = i }) (after_interruption error n i)
falls_after_interruption error n zero = tt
falls_after_interruption error n (suc i) = (omega arith, omega arith)

falls_after_failure : (b : Bool) (error : Error) (left : Left) → Falls left (after_failure b error left)
falls_after_failure true error left = falls_after_interruption error left.bytes left.interruptions
falls_after_failure false error left = tt

falls : (left : Left) (answer : Result ℕ Error) → 0 < left.bytes → Moved left.bytes answer → Falls left (after_call left answer)
falls left (Ok zero) p m = tt
falls left (Ok (suc k)) p m = (omega arith, omega (arith, p, m))
falls left (Err error) p m = falls_after_failure (is_interruption error) error left

pub answered_falls : (left : Left) (next : Next) → 0 < left.bytes → Answered left next → Falls left next
answered_falls left next p a = subst (Falls left) (sym a.is) (falls left a.answer p a.moved)

-- A transfer that does not fail leaves no more bytes unmoved than are left, and moves no more than there are.
abbrev pub StopsWithin : (all_bytes : ℕ) → Left → Result ℕ Error → Type 0
StopsWithin n left (Ok moved) = (n ≤ moved + left.bytes) × (moved ≤ n)
StopsWithin n left (Err error) = Unit {0}

fewer : (n : ℕ) (left rest : Left) (r : Result ℕ Error) → rest.bytes ≤ left.bytes → StopsWithin n rest r → StopsWithin n left r
fewer n left rest (Ok moved) p s = (omega (arith, p, s.0), s.1)
fewer n left rest (Err error) p s = tt

pub stops_within : {n : ℕ} {left : Left} {r : Result ℕ Error} → Transfers n left r → StopsWithin n left r
stops_within (all p) = (omega arith, omega arith)
stops_within {n = n} (on {left} {rest} {r} p a t) = fewer n left rest r (answered_falls left (Ok (Some rest)) p a).0 (stops_within t)
stops_within (nothing p a) = (omega arith, omega arith)
stops_within (failed p a) = tt
