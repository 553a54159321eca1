-- The states of a run, and what is told of each from the run alone (paper, "Agreement between supplier and tester"): the type
-- each live cell was made with, and all earlier states with a flag that says whether a leaving was compared with them.
use Rattle.std.specs.Prelude.{ℕ, zero, suc, ◌≡◌, Bool, true, false, cond, ◌&&◌, not, List, [], ◌∷◌, eqb}
use Rattle.std.proofs.Math.Option.{Option, none, some, map}
use Rattle.rules.specs.paper.Tree.{Command, Assign, Loop, CSeq, block, Call, Cond, Block, Blk}
use Rattle.rules.specs.paper.States.{Value, integer, truth, location, Store, Mark, operator_mark, not_mark, assign_mark, loop_mark, conditional_mark, ref_mark, bind_mark, dseq_extend_mark, dseq_join_mark, extend_mark, leave_mark, call_mark, Item, expression, command, declaration, reference, abstraction, mark, State, state, store_of}
use Rattle.rules.specs.paper.Rules.{Rule, goes, Applies}
use Rattle.rules.specs.paper.Run.{made, judge}

-- ---- The type a cell was made with.

pub record MadeCell : Type 0 where
  pub where_at : ℕ
  pub code : Option ℕ

-- The live cells, newest first, each with the type it was made with.
abbrev pub Made : Type 0
Made = List MadeCell

unfoldable pub made_with : ℕ → Made → Option ℕ
made_with l [] = none
made_with l (c ∷ M) = let older = made_with l M in cond (eqb c.where_at l) c.code older

unfoldable pub is_made : ℕ → Made → Bool
is_made l [] = false
is_made l (c ∷ M) = let older = is_made l M in cond (eqb c.where_at l) true older

-- The type of a value: an integer has 0, a truth 1, a location 2 more than its live cell was made with.
unfoldable pub type_of : Made → Value → Option ℕ
type_of M (integer z) = some 0
type_of M (truth b) = some 1
type_of M (location l) = map (λ c. suc (suc c)) (made_with l M)

-- A cell is made with its first value's type, and keeps it while it is live.
unfoldable pub remake : Made → Store → Made
remake M [] = []
remake M (c ∷ S) =
    let older = remake M S in
    record { where_at = c.where_at; code = cond (is_made c.where_at M) (made_with c.where_at M) (type_of older c.contents) } ∷ older

-- A register is made with 0.
unfoldable pub made_registers : ℕ → Made
made_registers zero = []
made_registers (suc r) = record { where_at = r; code = some 0 } ∷ made_registers r

-- ---- The earlier states.

pub record Earlier : Type 0 where
  pub was : State
  pub compared : Bool

pub record History : Type 0 where
  pub made_types : Made
  pub past : List Earlier  -- newest first

-- The place of the Blk or Call that is on top of control, if one is.
abbrev pub command_place : Command → Option ℕ
command_place (Assign p x e) = none
command_place (Loop p e c) = none
command_place (CSeq p c d) = none
command_place (block (Blk p d c)) = some p
command_place (Call p x es) = some p
command_place (Cond p e c₁ c₂) = none

abbrev pub item_place : Item → Option ℕ
item_place (expression e) = none
item_place (command c) = command_place c
item_place (declaration d) = none
item_place (reference p e) = none
item_place (abstraction p fs b) = none
item_place (mark m) = none

abbrev pub node_on_top : State → Option ℕ
node_on_top (state [] X E S L n) = none
node_on_top (state (i ∷ C) X E S L n) = item_place i

abbrev pub is_place : ℕ → Option ℕ → Bool
is_place p none = false
is_place p (some q) = eqb q p

-- This earlier state has p's node on top of control, and no earlier leaving was compared with it.
abbrev pub waits_for : ℕ → Earlier → Bool
waits_for p e = is_place p (node_on_top e.was) && not e.compared

-- The latest earlier state that has p's node on top of control and that no earlier leaving was compared with.
unfoldable pub latest : ℕ → List Earlier → Option State
latest p [] = none
latest p (e ∷ es) = let before = latest p es in cond (waits_for p e) (some e.was) before

-- A leaving of p is compared with that state.
unfoldable pub compare_latest : ℕ → List Earlier → List Earlier
compare_latest p [] = []
compare_latest p (e ∷ es) =
    let before = compare_latest p es in
    cond (waits_for p e) (record { was = e.was; compared = true } ∷ es) (e ∷ before)

-- A Blk is left by the step at its second mark, a Call by the step at the one put behind its function's Blk.
abbrev pub left_by_mark : Mark → Option ℕ
left_by_mark (operator_mark o) = none
left_by_mark not_mark = none
left_by_mark assign_mark = none
left_by_mark loop_mark = none
left_by_mark conditional_mark = none
left_by_mark ref_mark = none
left_by_mark bind_mark = none
left_by_mark dseq_extend_mark = none
left_by_mark dseq_join_mark = none
left_by_mark extend_mark = none
left_by_mark (leave_mark p m) = some p
left_by_mark (call_mark p x k) = none

abbrev pub left_by_item : Item → Option ℕ
left_by_item (expression e) = none
left_by_item (command c) = none
left_by_item (declaration d) = none
left_by_item (reference p e) = none
left_by_item (abstraction p fs b) = none
left_by_item (mark m) = left_by_mark m

-- The place of the node that the step from this state leaves, if it leaves one.
abbrev pub leaves : State → Option ℕ
leaves (state [] X E S L n) = none
leaves (state (i ∷ C) X E S L n) = left_by_item i

abbrev pub past_of_leaving : Option ℕ → List Earlier → List Earlier
past_of_leaving none es = es
past_of_leaving (some p) es = compare_latest p es

-- The history after the step from σ to τ.
abbrev pub note : State → History → State → History
note σ h τ =
    record {
      made_types = remake h.made_types (store_of τ);
      past = record { was = σ; compared = false } ∷ past_of_leaving (leaves σ) h.past;
    }

abbrev pub first_history : ℕ → History
first_history r = record { made_types = made_registers r; past = [] }

-- The states are the start and the one that each made step leaves; a step begins in the state the last one left, and nothing
-- else writes it.
pub data Reach (budget : ℕ) (first : State) (registers : ℕ) : (steps : ℕ) → State → History → Type 0 where
  at_start : Reach budget first registers 0 first (first_history registers)
  step_made : {n : ℕ} {σ : State} {h : History} (r : Rule) (τ : State) →
      Reach budget first registers n σ h → Applies r σ (goes τ) → judge (eqb n budget) (goes τ) ≡ made τ →
      Reach budget first registers (suc n) τ (note σ h τ)
