-- The loop of a transfer: whatever the rest comes to, all comes to.
use Rattle.std.specs.Prelude.{ℕ, ◌+◌, ◌-◌, ◌<◌, ◌≤◌, None, Some, Result, Ok, Err}
use Rattle.std.proofs.Common.{arith}
use Rattle.std.specs.declared.io.Error.{Error}
use Rattle.streams.specs.Transfers.{at_first, Answered, Transfers, all, on, nothing, failed}
use Rattle.streams.specs.TransferLaws.{answered_falls}
use Rattle.streams.specs.declared.Left.{Left}

-- What is left lies within what was there at first, and whatever it comes to, all comes to.
pub record TransferredSoFar (all_bytes : ℕ) (left : Left) : Type 0 where
  pub within : left.bytes ≤ all_bytes
  pub rest : (r : Result ℕ Error) → Transfers all_bytes left r → Transfers all_bytes (at_first all_bytes) r

pub transfer_start : (n : ℕ) → TransferredSoFar n (at_first n)
transfer_start n = record { within = omega arith; rest = λ r t. t }

pub transfer_less : (left rest : Left) → 0 < left.bytes → Answered left (Ok (Some rest)) → rest.bytes + rest.interruptions < left.bytes + left.interruptions
transfer_less left rest p a = (answered_falls left (Ok (Some rest)) p a).1

pub answered_within : (left rest : Left) → 0 < left.bytes → Answered left (Ok (Some rest)) → rest.bytes ≤ left.bytes
answered_within left rest p a = (answered_falls left (Ok (Some rest)) p a).0

pub transfer_on : (n : ℕ) (left rest : Left) → 0 < left.bytes → Answered left (Ok (Some rest)) → TransferredSoFar n left → TransferredSoFar n rest
transfer_on n left rest p a s =
    record { within = omega (arith, s.within, answered_within left rest p a); rest = λ r t. s.rest r (on p a t) }

pub transfer_nothing : (n : ℕ) (left : Left) → 0 < left.bytes → Answered left (Ok None) → TransferredSoFar n left → Transfers n (at_first n) (Ok (n - left.bytes))
transfer_nothing n left p a s = s.rest (Ok (n - left.bytes)) (nothing p a)

pub transfer_failed : (n : ℕ) (left : Left) (error : Error) → 0 < left.bytes → Answered left (Err error) → TransferredSoFar n left → Transfers n (at_first n) (Err error)
transfer_failed n left error p a s = s.rest (Err error) (failed p a)

pub transfer_whole : (n : ℕ) (left : Left) → left.bytes ≤ 0 → TransferredSoFar n left → Transfers n (at_first n) (Ok n)
transfer_whole n left p s = s.rest (Ok n) (all p)
