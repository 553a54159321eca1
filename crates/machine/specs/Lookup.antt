-- What a look-up in the rows is asked and what it finds.
use Rattle.std.specs.Prelude.{ℕ, ◌+◌, ◌<◌, ◌≡◌, List, length, get_or}
use Rattle.std.proofs.Math.Option.{some}
use Rattle.rules.specs.paper.States.{Bindable, Environment, lookup}
use Rattle.rules.specs.paper.Limits.{names}
use Rattle.machine.specs.Layout.{row_labels, row_payloads, link}
use Rattle.machine.specs.Regions.{Slot}
use Rattle.machine.specs.Represents.{SegmentAs, BindableAs}

-- The row of a name: its words, and what it binds the name to.
pub record RowOf (nodes : List ℕ) (rows : List Slot) (name : ℕ) (b : Bindable) (row label payload : ℕ) : Type 0 where
  pub value_label : ℕ
  pub pointer : ℕ
  pub within : row < length rows
  pub label_is : label ≡ link name value_label pointer
  pub name_low : name < names
  pub value_label_low : value_label < 2
  pub bound_to : BindableAs nodes rows value_label payload b

-- The environment at a pointer binds the name.
abbrev pub BindsName : (rows : List Slot) (pointer name : ℕ) → Type 0
BindsName rows pointer name = (nodes : List ℕ) × (E : Environment) × (b : Bindable) × SegmentAs nodes rows pointer 0 E × (lookup name E ≡ some b)

-- The answer is the number of its row, whatever environment stands there.
abbrev pub FindsRow : (words : List ℕ) (rows : List Slot) (pointer name : ℕ) → (row : ℕ) → Type 0
FindsRow words rows pointer name row =
    (nodes : List ℕ) (E : Environment) (b : Bindable) → SegmentAs nodes rows pointer 0 E → lookup name E ≡ some b →
    RowOf nodes rows name b row (get_or words (row_labels + row) 0) (get_or words (row_payloads + row) 0)
