-- The item on top of control, where it is a command, a declaration or what a Bind binds: where its tree stands, in which mode, and the state
-- under it.
use Prim.Native.Nat.{ℕ}
use mathlib.Core.Path.{◌≡◌}
use mathlib.Core.List.{List, ◌∷◌}
use lib.ListN.{get_or}
use Rattle.rules.specs.paper.Tree.{Expression, Formal, Command, Block, Declaration, Ref, Abs}
use Rattle.rules.specs.paper.States.{Environment, Store, Entry, Item, command, declaration, reference, abstraction}
use Rattle.reader.specs.Pack.{packed_kind, packed_end}
use Rattle.reader.specs.Stored.{StoredCommand, StoredDeclaration, StoredBound}
use Rattle.reader.proofs.StoredFields.{kind_is, end_is}
use Rattle.reader.proofs.StandingLaws.{Rooted}
use Rattle.machine.specs.Regions.{Regions, regions, with_control}
use Rattle.machine.specs.Represents.{Stage, at_end, Mode, running, declaring, ControlAs, command_on, declaration_on, reference_on, abstraction_on, ValuesAs, Beside, Models}
use Rattle.machine.specs.declared.Machine.{Machine}
use Rattle.machine.proofs.state_laws.NodeLaws.{node_word}

-- The kind that the reader's word has, and where the next tree stands.
pub node_kind : (words : List ℕ) (m : Machine) {i j : ℕ} (r : Rooted (regions words m).nodes i j) → packed_kind (get_or words i 0) ≡ r.kind
node_kind words m r = kind_is (node_word words m r.word) r.known

pub node_end : (words : List ℕ) (m : Machine) {i j : ℕ} → Rooted (regions words m).nodes i j → packed_end (get_or words i 0) ≡ j
node_end words m r = end_is (node_word words m r.word) r.known

-- ---- The tree of the item, by its depth and the place after it; the mode that the item stands in, by the live bindings that the open
-- blocks go back to; and the state under it. Below a declaration stand the items of its end.

pub record RunningTop (κ : Regions) (Stored : (depth next : ℕ) → Type 0) (C : List Item) (X : List Entry) (E : Environment) (S : Store) (L : List ℕ) (n : ℕ) : Type 0 where
  pub depth : ℕ
  pub next : ℕ
  pub stored : Stored depth next
  pub blocks : List ℕ
  pub control_as : ControlAs κ.nodes (running blocks) κ.control C
  pub rest : Beside κ (running blocks) X E S L n

pub record DeclaringTop (κ : Regions) (Stored : (depth next : ℕ) → Type 0) (below : Stage → Stage) (C : List Item) (X : List Entry) (E : Environment) (S : Store) (L : List ℕ) (n : ℕ) : Type 0 where
  pub depth : ℕ
  pub next : ℕ
  pub stored : Stored depth next
  pub stage : Stage
  pub bindings : ℕ
  pub blocks : List ℕ
  pub control_as : ControlAs κ.nodes (declaring (below stage) bindings blocks) κ.control C
  pub rest : Beside κ (declaring stage bindings blocks) X E S L n

abbrev Values : (κ : Regions) → Environment → List Entry → Mode → Type 0
Values κ E X mode = ValuesAs κ.nodes κ.rows κ.base κ.declared κ.environment E mode κ.values X

module _ (κ : Regions) (w : ℕ) {C : List Item} {X : List Entry} {E : Environment} {S : Store} {L : List ℕ} {n : ℕ} where
  -- The parts of the state but control, with the value stack in a mode that is known.
  pub rest_of : (i : Item) (mode : Mode) → Models (with_control w κ) (i ∷ C) X E S L n → Values κ E X mode → Beside κ mode X E S L n
  rest_of i mode μ v = record { values_as = v; environment_as = μ.environment_as; store_as = μ.store_as; locations_as = μ.locations_as; bindings_as = μ.bindings_as }

  pub command_top : (c : Command) → Models (with_control w κ) (command c ∷ C) X E S L n → RunningTop κ (λ d j. StoredCommand κ.nodes d w j c) C X E S L n
  command_top c μ = by μ.mode μ.control_as μ.values_as
    where
      by : (m : Mode) → ControlAs κ.nodes m (w ∷ κ.control) (command c ∷ C) → Values κ E X m → RunningTop κ (λ d j. StoredCommand κ.nodes d w j c) C X E S L n
      by m (command_on {ms = ms} {d = d} {j = j} s h) v = record { depth = d; next = j; stored = s; blocks = ms; control_as = h; rest = rest_of (command c) (running ms) μ v }

  pub declaration_top : (c : Declaration) → Models (with_control w κ) (declaration c ∷ C) X E S L n → DeclaringTop κ (λ d j. StoredDeclaration κ.nodes d w j c) at_end C X E S L n
  declaration_top c μ = by μ.mode μ.control_as μ.values_as
    where
      by : (m : Mode) → ControlAs κ.nodes m (w ∷ κ.control) (declaration c ∷ C) → Values κ E X m → DeclaringTop κ (λ d j. StoredDeclaration κ.nodes d w j c) at_end C X E S L n
      by m (declaration_on {g = g} {m = k} {ms = ms} {d = d} {j = j} s h) v =
          record { depth = d; next = j; stored = s; stage = g; bindings = k; blocks = ms; control_as = h; rest = rest_of (declaration c) (declaring g k ms) μ v }

  pub reference_top : (p : ℕ) (e : Expression) → Models (with_control w κ) (reference p e ∷ C) X E S L n → DeclaringTop κ (λ d j. StoredBound κ.nodes d w j (Ref p e)) (λ g. g) C X E S L n
  reference_top p e μ = by μ.mode μ.control_as μ.values_as
    where
      by : (m : Mode) → ControlAs κ.nodes m (w ∷ κ.control) (reference p e ∷ C) → Values κ E X m → DeclaringTop κ (λ d j. StoredBound κ.nodes d w j (Ref p e)) (λ g. g) C X E S L n
      by m (reference_on {g = g} {m = k} {ms = ms} {d = d} {j = j} s h) v =
          record { depth = d; next = j; stored = s; stage = g; bindings = k; blocks = ms; control_as = h; rest = rest_of (reference p e) (declaring g k ms) μ v }

  pub abstraction_top : (p : ℕ) (fs : List Formal) (b : Block) → Models (with_control w κ) (abstraction p fs b ∷ C) X E S L n → DeclaringTop κ (λ d j. StoredBound κ.nodes d w j (Abs p fs b)) (λ g. g) C X E S L n
  abstraction_top p fs b μ = by μ.mode μ.control_as μ.values_as
    where
      by : (m : Mode) → ControlAs κ.nodes m (w ∷ κ.control) (abstraction p fs b ∷ C) → Values κ E X m → DeclaringTop κ (λ d j. StoredBound κ.nodes d w j (Abs p fs b)) (λ g. g) C X E S L n
      by m (abstraction_on {g = g} {m = k} {ms = ms} {d = d} {j = j} s h) v =
          record { depth = d; next = j; stored = s; stage = g; bindings = k; blocks = ms; control_as = h; rest = rest_of (abstraction p fs b) (declaring g k ms) μ v }
