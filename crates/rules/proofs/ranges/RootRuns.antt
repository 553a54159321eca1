-- From starts within the limits the automaton leads to a state with control empty and a store within the carried cells, and the registers of such a
-- store lie within the ends.
use Rattle.std.specs.Prelude.{ℕ, zero, suc, ◌≡◌, refl, List, [], ◌∷◌, ℤ, pos, length, get_or, ◌≤ℤ◌}
use Rattle.std.proofs.Common.{sym, ap, subst}
use Rattle.std.proofs.Math.Option.{Option, none, some}
use Rattle.std.specs.Int.Signed.{≤ℤ_refl}
use Rattle.rules.specs.paper.Tree.{Root}
use Rattle.rules.specs.paper.Tree as Tree
use Rattle.rules.specs.paper.States.{Value, Environment, Store, find, Entry, val, State, state}
use Rattle.rules.specs.paper.Engine.{root_control, register_environment, register_store, start, as_register, registers_from}
use Rattle.rules.specs.paper.Carried.{Carried}
use Rattle.rules.specs.paper.Carried as Carried
use Rattle.rules.specs.paper.Carrying.{CarriedCells, carried_at, CarriedNames, carry_expression, carry_command, carry_root, register_names, register_cells, carry_routine}
use Rattle.rules.specs.paper.Ranges.{lowest_of, highest_of, ends_from}
use Rattle.rules.specs.claims.Claim.{AllInRange}
use Rattle.rules.specs.claims.Ranges.{Within, none_within, one_within}
use Rattle.rules.proofs.ranges.IntegerEnds.{in_range_between}
use Rattle.rules.proofs.ranges.Operators.{ValueWithin, number_within, truth_within, location_within, If, after}
use Rattle.rules.proofs.ranges.Within.{Leads, there, StoreWithin, no_cells, one_cell, find_within, find_none}
use Rattle.rules.proofs.ranges.NamesWithin.{RunsAnywhere, NamesWithin, no_names, one_name, value_within}
use Rattle.rules.proofs.ranges.ExpressionRuns.{Runs, expression_runs}
use Rattle.rules.proofs.ranges.CommandRuns.{mapped, command_runs}

-- ---- Starts within the limits.

pub as_many_starts : {ls zs hs : List ℤ} → Within ls zs hs → length zs ≡ length ls
as_many_starts none_within = refl
as_many_starts (one_within h k w) = ap suc (as_many_starts w)

pub starts_in_range : {ls zs hs : List ℤ} → Within ls zs hs → AllInRange ls → AllInRange hs → AllInRange zs
starts_in_range none_within p q = tt
starts_in_range (one_within {l = l} {z = z} {h = h} a b w) p q = (in_range_between l z h a b p.0 q.0, starts_in_range w p.1 q.1)

start_between : {ls zs hs : List ℤ} → Within ls zs hs → (i : ℕ) → (get_or ls i (pos 0) ≤ℤ get_or zs i (pos 0)) × (get_or zs i (pos 0) ≤ℤ get_or hs i (pos 0))
start_between none_within i = (≤ℤ_refl (pos 0), ≤ℤ_refl (pos 0))
start_between (one_within h k w) zero = (h, k)
start_between (one_within h k w) (suc i) = start_between w i

register_count : (r : ℕ) (ls hs : List ℤ) → length (register_cells r ls hs) ≡ r
unfolding register_cells
register_count zero ls hs = refl
register_count (suc r) ls hs = ap suc (register_count r ls hs)

registers_named : (r : ℕ) → NamesWithin (register_environment r) (register_names r)
unfolding register_environment register_names
registers_named zero = no_names
registers_named (suc r) = one_name refl (value_within location_within) (registers_named r)

registers_stored : (r : ℕ) (ls zs hs : List ℤ) → Within ls zs hs → StoreWithin (register_store r zs) (register_cells r ls hs)
unfolding register_store register_cells
registers_stored zero ls zs hs w = no_cells
registers_stored (suc r) ls zs hs w =
    let between = start_between w r in
    one_cell (sym (register_count r ls hs)) (number_within between.0 between.1) (registers_stored r ls zs hs w)

-- ---- The root.

pub record Finishes (first : State) (K : CarriedCells) : Type 0 where
  pub values : List Entry
  pub environment : Environment
  pub store : Store
  pub locations : List ℕ
  pub bindings : ℕ
  pub leads : Leads first (state [] values environment store locations bindings)
  pub within : StoreWithin store K

root_leads : (t : Root) (E : Environment) (S : Store) (N : CarriedNames) (K : CarriedCells) (r : ℕ) → NamesWithin E N → StoreWithin S K →
    If (Finishes (state (root_control t) [] E S [] r)) (carry_root N K t)
unfolding carry_root
root_leads (Tree.expression e) E S N K r names cells =
    after (Runs E S N K names cells e) (Finishes (state (root_control (Tree.expression e)) [] E S [] r)) (carry_expression N K e) _
    (expression_runs E S N K names cells e) (λ v run.
    let x = run [] [] [] r in
    record { values = val x.given ∷ []; environment = E; store = S; locations = []; bindings = r; leads = x.leads; within = cells })
root_leads (Tree.command c) E S N K r names cells =
    mapped (RunsAnywhere c E S K) (Finishes (state (root_control (Tree.command c)) [] E S [] r)) (carry_command N K c) (command_runs c E S N K names cells) (λ M run.
    let x = run [] [] [] r in
    record { values = []; environment = E; store = x.left; locations = []; bindings = r; leads = x.leads; within = x.within })
root_leads Tree.absent E S N K r names cells = record { values = []; environment = E; store = S; locations = []; bindings = r; leads = there; within = cells }

pub root_runs : (r : ℕ) (t : Root) (ls zs hs : List ℤ) → Within ls zs hs → If (Finishes (start r t zs)) (carry_routine r t ls hs)
unfolding start carry_routine
root_runs r t ls zs hs w =
    root_leads t (register_environment r) (register_store r zs) (register_names r) (register_cells r ls hs) r (registers_named r) (registers_stored r ls zs hs w)

-- ---- The registers of a store within the cells.

-- What a cell holds, read as a register, lies between the ends that are read from what is carried of it; where none is there all are 0.
register_between : (S : Store) (K : CarriedCells) (i : ℕ) → StoreWithin S K →
    (lowest_of (carried_at i K) ≤ℤ as_register (find i S)) × (as_register (find i S) ≤ℤ highest_of (carried_at i K))
register_between S K i cells = by (carried_at i K) refl
  where
    value_between : (x : Value) (v : Carried) → ValueWithin x v → (lowest_of (some v) ≤ℤ as_register (some x)) × (as_register (some x) ≤ℤ highest_of (some v))
    value_between x v (number_within h k) = (h, k)
    value_between x v (truth_within h) = (≤ℤ_refl (pos 0), ≤ℤ_refl (pos 0))
    value_between x v location_within = (≤ℤ_refl (pos 0), ≤ℤ_refl (pos 0))

    by : (o : Option Carried) → carried_at i K ≡ o → (lowest_of o ≤ℤ as_register (find i S)) × (as_register (find i S) ≤ℤ highest_of o)
    by none q =
        subst (λ x. (lowest_of none ≤ℤ as_register x) × (as_register x ≤ℤ highest_of none)) (sym (find_none i cells q)) (≤ℤ_refl (pos 0), ≤ℤ_refl (pos 0))
    by (some v) q =
        let f = find_within i v cells q in
        subst (λ x. (lowest_of (some v) ≤ℤ as_register x) × (as_register x ≤ℤ highest_of (some v))) (sym f.found) (value_between f.contents v f.within)

pub registers_within : (S : Store) (K : CarriedCells) → StoreWithin S K → (i k : ℕ) → Within (ends_from lowest_of i k K) (registers_from i k S) (ends_from highest_of i k K)
unfolding ends_from registers_from
registers_within S K cells i zero = none_within
registers_within S K cells i (suc k) = let b = register_between S K i cells in one_within b.0 b.1 (registers_within S K cells (suc i) k)
