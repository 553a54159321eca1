-- What is answered of a whole routine over the registers' limits: the limits crossed or not, the registers' names and cells at the start, and the ends.
use Rattle.std.specs.Prelude.{ℕ, ◌+◌, ◌<◌, ◌≤◌, ◌≡◌, List, length, get_or, Result, Ok}
use Rattle.rules.specs.Answers.{refused_at}
use Rattle.rules.specs.declared.refusals.Refusal.TheVariants.{UnsafeArithmetic}
use Rattle.rules.specs.declared.refusals.Refused.{Refused}
use Rattle.rules.specs.paper.Limits.{most_bindings, most_cells}
use Rattle.rules.specs.paper.Tree.{Root}
use Rattle.rules.specs.paper.Needs.{bindings, cells, Needs, register_needs, root_need, routine_need}
use Rattle.rules.specs.paper.Carried.{Carrying, carried, unsafe, unfit}
use Rattle.rules.specs.paper.Carrying.{CarriedCells, CarriedNames, register_names, register_cells, carry_root, carry_routine}
use Rattle.rules.specs.paper.Ranges.{lowest_of, highest_of, ends_from}
use Rattle.rules.specs.claims.Claim.{AllInRange}
use Rattle.reader.specs.Stored.{RootAt}
use Rattle.integers.specs.Words.{integers_of, words_of}
use Rattle.intervals.specs.Values.{numbers_sort}
use Rattle.carrying.specs.Layout.{cell_sorts}
use Rattle.carrying.specs.States.{NamesAt, CellsAt, StateAt, Room}
use Rattle.carrying.specs.Answers.{Fits, CommandAs}
use Rattle.carrying.specs.declared.Held.{Held}

-- ---- The registers.

-- Their names and cells stand there, whatever comes after; the cells hold numbers.
pub record RegistersAt (words : List ℕ) (registers : ℕ) (lowest highest : List ℕ) : Type 0 where
  pub names_are : (limit : ℕ) → NamesAt words limit registers (register_names registers) (register_needs registers)
  pub cells_are : CellsAt words registers (register_cells registers (integers_of lowest) (integers_of highest))
  pub numbers_there : (i : ℕ) → i < registers → get_or words (cell_sorts + i) 0 ≡ numbers_sort

-- One more of them.
abbrev pub RegisterPut : (words words' : List ℕ) → (register low high : ℕ) → Type 0
RegisterPut words words' i low high =
    (lowest highest : List ℕ) → i < length lowest → i < length highest → low ≡ get_or lowest i 0 → high ≡ get_or highest i 0 → RegistersAt words i lowest highest → RegistersAt words' (i + 1) lowest highest

abbrev pub registers_held : ℕ → Held
registers_held r = record { environment = r; bindings = r; cells = r }

-- The ends of so many cells that hold numbers replace what the lists had.
abbrev pub EndsTaken : List ℕ → (registers : ℕ) → (lowest highest : List ℕ) → Type 0
EndsTaken words registers lowest highest =
    (K : CarriedCells) → CellsAt words registers K → ((i : ℕ) → i < registers → get_or words (cell_sorts + i) 0 ≡ numbers_sort) →
    (lowest ≡ words_of (ends_from lowest_of 0 registers K)) × (highest ≡ words_of (ends_from highest_of 0 registers K))

-- ---- The root.

pub record RootThere (words : List ℕ) (held : Held) (nodes : ℕ) (t : Root) (A : CarriedNames) (N : Needs) (K : CarriedCells) : Type 0 where
  pub tree : RootAt words nodes t
  pub state : StateAt words 0 held A N K
  pub room : Room held (root_need N t)

abbrev pub SomeRoot : List ℕ → Held → (nodes : ℕ) → Type 0
SomeRoot words held nodes = (t : Root) × (A : CarriedNames) × (N : Needs) × (K : CarriedCells) × RootThere words held nodes t A N K × Fits (carry_root A K t)

abbrev pub RootCarried : (words words' : List ℕ) → Held → (nodes : ℕ) → Result (Unit {0}) Refused → Type 0
RootCarried words words' held nodes r =
    (t : Root) (A : CarriedNames) (N : Needs) (K : CarriedCells) → RootThere words held nodes t A N K → CommandAs words' held.cells (carry_root A K t) r

-- ---- The routine.

-- Its bindings and cells are within the limits.
pub record EnoughRoom (registers : ℕ) (t : Root) : Type 0 where
  pub few_bindings : (routine_need registers t).most bindings ≤ most_bindings
  pub few_cells : (routine_need registers t).most cells ≤ most_cells

abbrev pub SomeRoutine : List ℕ → (nodes : ℕ) → (lowest highest : List ℕ) → Type 0
SomeRoutine words nodes lowest highest =
    (t : Root) × RootAt words nodes t × EnoughRoom (length lowest) t × Fits (carry_routine (length lowest) t (integers_of lowest) (integers_of highest))

-- The ends are given, or both lists are as they were.
pub record EndsGiven (K : CarriedCells) (registers : ℕ) (lowest highest : List ℕ) (r : Result (Unit {0}) Refused) : Type 0 where
  pub went_through : r ≡ Ok tt
  pub lowest_are : lowest ≡ words_of (ends_from lowest_of 0 registers K)
  pub highest_are : highest ≡ words_of (ends_from highest_of 0 registers K)
  -- the ends are integers, so that their words hold them
  pub lowest_ranged : AllInRange (ends_from lowest_of 0 registers K)
  pub highest_ranged : AllInRange (ends_from highest_of 0 registers K)

pub record ListsKept (p : ℕ) (lowest highest lowest' highest' : List ℕ) (r : Result (Unit {0}) Refused) : Type 0 where
  pub is_unsafe : r ≡ refused_at UnsafeArithmetic p
  pub same_lowest : lowest' ≡ lowest
  pub same_highest : highest' ≡ highest

abbrev pub CarriedAs : Carrying CarriedCells → (lowest highest lowest' highest' : List ℕ) → Result (Unit {0}) Refused → Type 0
CarriedAs (carried K) lowest highest lowest' highest' r = EndsGiven K (length lowest) lowest' highest' r
CarriedAs (unsafe p) lowest highest lowest' highest' r = ListsKept p lowest highest lowest' highest' r
CarriedAs unfit lowest highest lowest' highest' r = Unit {0}

abbrev pub RoutineCarried : List ℕ → (nodes : ℕ) → (lowest highest lowest' highest' : List ℕ) → Result (Unit {0}) Refused → Type 0
RoutineCarried words nodes lowest highest lowest' highest' r =
    (t : Root) → RootAt words nodes t → EnoughRoom (length lowest) t →
    CarriedAs (carry_routine (length lowest) t (integers_of lowest) (integers_of highest)) lowest highest lowest' highest' r
