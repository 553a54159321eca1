-- What a transfer of bytes comes to by the answers of the system: a call that a signal interrupts is taken up again, one that moves bytes
-- is followed by one for the rest, one that moves nothing ends the transfer, and any other failure is the transfer's.
use Rattle.std.specs.Prelude.{ℕ, zero, suc, ◌-◌, ◌<◌, ◌≤◌, ◌≡◌, Bool, true, false, Option, None, Some, Result, Ok, Err}
use Rattle.std.specs.IoError.{error_kind}
use Rattle.std.specs.declared.io.Error.{Error}
use Rattle.std.specs.declared.io.ErrorKind.{ErrorKind}
use Rattle.std.specs.declared.io.ErrorKind.TheVariants.{Interrupted}
use Rattle.streams.specs.declared.Left.{Left}

-- What a call for so many bytes may answer: an error, or how many bytes it moved, at most so many.
abbrev pub Moved : ℕ → Result ℕ Error → Type 0
Moved left (Ok moved) = moved ≤ left
Moved left (Err error) = Unit {0}

abbrev pub most_interruptions : ℕ
most_interruptions = 1000000

-- Whether an error is of the kind by which std says that a signal interrupted the call before it moved a byte.
abbrev pub is_interruption_kind : ErrorKind → Bool
is_interruption_kind Interrupted = true
is_interruption_kind _ = false

-- Whether an error is an interruption. One with the kind that std gives a number is where that number is an interruption's
-- (`interruption_by_number`).
abbrev pub is_interruption : Error → Bool
is_interruption error = is_interruption_kind (error_kind error)

-- What is left of a transfer of so many bytes before its first call.
abbrev pub at_first : (bytes : ℕ) → Left
at_first n = record { bytes = n; interruptions = most_interruptions }

-- What a call leaves: what there still is to move, nothing where it moved none, or its failure.
abbrev pub Next : Type 0
Next = Result (Option Left) Error

-- A call was interrupted, with so many interruptions left to be borne.
abbrev pub after_interruption : (error : Error) → (bytes interruptions : ℕ) → Next
after_interruption error n zero = Err error
after_interruption error n (suc i) = Ok (Some (record { bytes = n; interruptions = i }))

-- A call failed, by an interruption or otherwise.
abbrev pub after_failure : (interrupted : Bool) → (error : Error) → Left → Next
after_failure true error left = after_interruption error left.bytes left.interruptions
after_failure false error left = Err error

-- What comes after a call for the bytes that are left.
abbrev pub after_call : Left → (answer : Result ℕ Error) → Next
after_call left (Ok zero) = Ok None
after_call left (Ok (suc k)) = Ok (Some (record { bytes = left.bytes - suc k; interruptions = left.interruptions }))
after_call left (Err error) = after_failure (is_interruption error) error left

-- This comes after a call for the bytes that are left, by some answer that its contract allows.
pub record Answered (left : Left) (next : Next) : Type 0 where
  pub answer : Result ℕ Error
  pub moved : Moved left.bytes answer
  pub is : next ≡ after_call left answer

-- How a transfer of so many bytes can end, from where this is left of it: all are moved, or those before a call that moved nothing, or a call
-- failed. The answers are any that the calls' contracts allow, since a contract cannot name those that the system gave; so what this fixes by
-- itself is where an end may lie (`stops_within`), and `after_call` what is made of each answer.
pub data Transfers (all_bytes : ℕ) : Left → Result ℕ Error → Type 0 where
  all : {left : Left} → left.bytes ≤ 0 → Transfers all_bytes left (Ok all_bytes)
  on : {left rest : Left} {r : Result ℕ Error} → 0 < left.bytes → Answered left (Ok (Some rest)) → Transfers all_bytes rest r → Transfers all_bytes left r
  nothing : {left : Left} → 0 < left.bytes → Answered left (Ok None) → Transfers all_bytes left (Ok (all_bytes - left.bytes))
  failed : {left : Left} {error : Error} → 0 < left.bytes → Answered left (Err error) → Transfers all_bytes left (Err error)
