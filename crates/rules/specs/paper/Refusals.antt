-- The refusals (paper, "What the engine says no with"): each case by name, and the paper's number for it.
use Rattle.std.specs.Prelude.{ℕ}
-- The cases are the code's own, `Reason` and `Refusal` of src/refusals.rt. By the run, a `Reason` says why a step is withheld: the paper's
-- term for seven of the refusals.
pub use Rattle.rules.specs.declared.refusals.Reason.{Reason}
pub use Rattle.rules.specs.declared.refusals.Reason.TheVariants.{Steps, ZeroDivisor, OutOfRange, Cells, Bindings, ValueEntries, ControlEntries}
pub use Rattle.rules.specs.declared.refusals.Refusal.{Refusal}
pub use Rattle.rules.specs.declared.refusals.Refusal.TheVariants.{Length, Size, Kind, Operand, Tree, Depth, Unbound, Mistyped, Repeated, NotAssignable, BadCall, Registers, Budget, Work, Withheld, TooManySteps, ShortPage, CrossedLimits, HasLoop, UnsafeArithmetic}

unfoldable pub reason_number : Reason → ℕ
reason_number Steps = 30
reason_number ZeroDivisor = 31
reason_number OutOfRange = 32
reason_number Cells = 33
reason_number Bindings = 34
reason_number ValueEntries = 35
reason_number ControlEntries = 36

unfoldable pub refusal_number : Refusal → ℕ
refusal_number Length = 1
refusal_number Size = 2
refusal_number Kind = 3
refusal_number Operand = 4
refusal_number Tree = 5
refusal_number Depth = 6
refusal_number Unbound = 10
refusal_number Mistyped = 11
refusal_number Repeated = 12
refusal_number NotAssignable = 13
refusal_number BadCall = 14
refusal_number Registers = 20
refusal_number Budget = 21
refusal_number Work = 22
refusal_number (Withheld reason) = reason_number reason
refusal_number TooManySteps = 40
refusal_number ShortPage = 41
refusal_number CrossedLimits = 42
refusal_number HasLoop = 43
refusal_number UnsafeArithmetic = 44
