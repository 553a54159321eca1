-- The bytes that a transfer moves: those at the start of its buffer, as far as the type of the reader or of the writer says what it holds.
use Rattle.std.specs.Prelude.{ℕ, ◌-◌, ◌<◌, ◌≤◌, ◌≡◌, List, length, take, drop, Option, None, Some, Result, Ok, Err}
use Rattle.std.specs.Io.KnownBytes.{Consumes, Appends, IsAtEnd}
use Rattle.std.specs.declared.io.Error.{Error}
use Rattle.streams.specs.Transfers.{Next}

-- How many bytes a call moved, of those that were left before it.
abbrev pub moved_by : (left : ℕ) → Next → ℕ
moved_by left (Ok (Some rest)) = left - rest.bytes
moved_by left (Ok None) = 0
moved_by left (Err error) = 0

-- The bytes at which a call for the last bytes of a buffer begins, as many as it moved.
abbrev pub part_moved : (left : ℕ) → Next → List ℕ → List ℕ
part_moved left next buffer = take (moved_by left next) (drop (length buffer - left) buffer)

-- A reader whose call moved nothing is at its end.
abbrev pub EndsAfter : Option (List ℕ) → Next → Type 0
EndsAfter known (Ok (Some rest)) = Unit {0}
EndsAfter known (Ok None) = IsAtEnd known
EndsAfter known (Err error) = Unit {0}

-- A transfer of so many bytes that ended so has moved this many of them.
abbrev pub HasMoved : (all : ℕ) → Result ℕ Error → ℕ → Type 0
HasMoved all (Ok count) moved = (moved ≡ count) × (count ≤ all)
HasMoved all (Err error) moved = moved ≤ all

-- The bytes at the start of the buffer are those that the reader gave, as many as were moved.
abbrev pub Receives : (old new : Option (List ℕ)) → (buffer : List ℕ) → Result ℕ Error → Type 0
Receives old new buffer ended = (moved : ℕ) × HasMoved (length buffer) ended moved × Consumes old new (take moved buffer)

-- A reader of which a transfer found fewer bytes is at its end.
abbrev pub ReceivesAll : (all : ℕ) → Option (List ℕ) → Result ℕ Error → Type 0
ReceivesAll all known (Ok moved) = moved < all → IsAtEnd known
ReceivesAll all known (Err error) = Unit {0}

-- The bytes at the start of the buffer are those that the writer took, as many as were moved.
abbrev pub Sends : (old new : Option (List ℕ)) → (buffer : List ℕ) → Result ℕ Error → Type 0
Sends old new buffer ended = (moved : ℕ) × HasMoved (length buffer) ended moved × Appends old new (take moved buffer)
