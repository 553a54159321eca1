-- An expression whose carrying gives something runs to a value within it, and a call's actuals to values within theirs.
use Prim.Native.Nat.{ℕ, suc}
use Rattle.std.specs.Prelude.{◌≡◌, Bool, true, false, not, T, ℤ, pos, length}
use Rattle.std.proofs.Math.Path.{refl, ap, subst}
use mathlib.Core.List.{List, [], ◌∷◌}
use Rattle.std.proofs.Math.Option.{Option, none, some}
use Rattle.std.specs.Int.Signed.{≤ℤ_refl}
use Rattle.rules.specs.paper.Tree.{Expression, Num, Boo, Id, DeRef, ValRef, Binary, Not}
use Rattle.rules.specs.paper.States.{Value, integer, truth, location, value, Environment, lookup, Store, find, Entry, val, operator_mark, not_mark, Item, expression, mark, state}
use Rattle.rules.specs.paper.Rules.{put_actuals, rule_Num, rule_Boo, rule_Id, rule_DeRef, rule_ValRef, rule_Binary, rule_Not}
use Rattle.rules.specs.paper.Rules as Rules
use Rattle.rules.specs.paper.Carried.{Carried, numbers, truths, possible, Carrying, carried, fitting, carry_operator, carry_negation}
use Rattle.rules.specs.paper.Carried as Carried
use Rattle.rules.specs.paper.Carrying.{CarriedCells, carried_at, CarriedNames, carried_meaning, value_of, location_in, contents_at, carry_id, located, carry_expression, carry_actuals}
use Rattle.rules.proofs.ranges.Operators.{ValueWithin, number_within, truth_within, location_within, If, after, if_fitting, MarkGives, operator_gives, negation_gives}
use Rattle.rules.proofs.ranges.Within.{Leads, there, one_step, leads_on, StoreWithin, Found, find_within}
use Rattle.rules.proofs.ranges.NamesWithin.{ValuesWithin, no_values, one_value, on_stack, NamesWithin, NamedValue, named_value}

-- The expression is done, with a value on V that lies within what is carried.
pub record ExpressionRuns (e : Expression) (C : List Item) (X : List Entry) (E : Environment) (S : Store) (L : List ℕ) (n : ℕ) (v : Carried) : Type 0 where
  pub given : Value
  pub leads : Leads (state (expression e ∷ C) X E S L n) (state C (val given ∷ X) E S L n)
  pub within : ValueWithin given v

-- The actuals are done, the first one's value on top of V.
pub record ActualsRun (es : List Expression) (C : List Item) (X : List Entry) (E : Environment) (S : Store) (L : List ℕ) (n : ℕ) (vs : List Carried) : Type 0 where
  pub given : List Value
  pub leads : Leads (state (put_actuals es C) X E S L n) (state C (on_stack given X) E S L n)
  pub within : ValuesWithin given vs
  pub as_many : length given ≡ length es

only_possible : (b : Bool) → T (possible b (not b) b)
only_possible true = tt
only_possible false = tt

module _ (E : Environment) (S : Store) (N : CarriedNames) (K : CarriedCells) (names : NamesWithin E N) (cells : StoreWithin S K) where
  abbrev pub Runs : Expression → Carried → Type 0
  Runs e v = (C : List Item) (X : List Entry) (L : List ℕ) (n : ℕ) → ExpressionRuns e C X E S L n v

  -- Id: a plain value itself, or the contents of a cell.
  id_plain : (p x : ℕ) (v : Carried) → NamedValue E x v → ((w : Value) → ValueWithin w v → Rules.IsPlain w) → Runs (Id p x) v
  id_plain p x v named plain C X L n =
      record { given = named.what; leads = one_step rule_Id (Rules.id_plain (plain named.what named.within) named.found) there; within = named.within }

  number_plain : {a b : ℤ} (w : Value) → ValueWithin w (numbers a b) → Rules.IsPlain w
  number_plain w (number_within h k) = tt

  truth_plain : {f t : Bool} (w : Value) → ValueWithin w (truths f t) → Rules.IsPlain w
  truth_plain w (truth_within h) = tt

  -- A name that is carried as a location is bound to it.
  pub bound_to : (x l : ℕ) → NamedValue E x (Carried.location l) → lookup x E ≡ some (value (location l))
  bound_to x l named = by named.what named.found named.within
    where
      by : (w : Value) → lookup x E ≡ some (value w) → ValueWithin w (Carried.location l) → lookup x E ≡ some (value (location l))
      by w q location_within = q

  holds : (l k : ℕ) → Found S l (Carried.location k) → find l S ≡ some (location k)
  holds l k f = by f.contents f.found f.within
    where
      by : (w : Value) → find l S ≡ some w → ValueWithin w (Carried.location k) → find l S ≡ some (location k)
      by w q location_within = q

  id_runs : (p x : ℕ) (o : Option Carried) → value_of (carried_meaning x N) ≡ o → If (Runs (Id p x)) (fitting (carry_id o K))
  id_runs p x none q = tt
  id_runs p x (some (numbers a b)) q = id_plain p x (numbers a b) (named_value x (numbers a b) names q) number_plain
  id_runs p x (some (truths f t)) q = id_plain p x (truths f t) (named_value x (truths f t) names q) truth_plain
  id_runs p x (some (Carried.location l)) q =
      if_fitting (Runs (Id p x)) (carried_at l K) (λ v r C X L n.
      let f = find_within l v cells r in
      record {
        given = f.contents;
        leads = one_step rule_Id (Rules.id_cell (bound_to x l (named_value x (Carried.location l) names q)) f.found) there;
        within = f.within;
      })

  deref_runs : (p x : ℕ) (o : Option Carried) → value_of (carried_meaning x N) ≡ o → If (Runs (DeRef p x)) (fitting (located (location_in o)))
  deref_runs p x none q = tt
  deref_runs p x (some (numbers a b)) q = tt
  deref_runs p x (some (truths f t)) q = tt
  deref_runs p x (some (Carried.location l)) q =
      λ C X L n.
      record { given = location l; leads = one_step rule_DeRef (Rules.deref (bound_to x l (named_value x (Carried.location l) names q))) there; within = location_within }

  second_cell : (p x l : ℕ) → lookup x E ≡ some (value (location l)) → (o : Option Carried) → carried_at l K ≡ o →
      If (Runs (ValRef p x)) (fitting (contents_at (location_in o) K))
  second_cell p x l named none q = tt
  second_cell p x l named (some (numbers a b)) q = tt
  second_cell p x l named (some (truths f t)) q = tt
  second_cell p x l named (some (Carried.location k)) q =
      if_fitting (Runs (ValRef p x)) (carried_at k K) (λ v r C X L n.
      let f = find_within k v cells r in
      record {
        given = f.contents;
        leads = one_step rule_ValRef (Rules.valref named (holds l k (find_within l (Carried.location k) cells q)) f.found) there;
        within = f.within;
      })

  valref_runs : (p x : ℕ) (o : Option Carried) → value_of (carried_meaning x N) ≡ o →
      If (Runs (ValRef p x)) (fitting (contents_at (location_in (contents_at (location_in o) K)) K))
  valref_runs p x none q = tt
  valref_runs p x (some (numbers a b)) q = tt
  valref_runs p x (some (truths f t)) q = tt
  valref_runs p x (some (Carried.location l)) q = second_cell p x l (bound_to x l (named_value x (Carried.location l) names q)) (carried_at l K) refl

  pub expression_runs : (e : Expression) → If (Runs e) (carry_expression N K e)
  unfolding carry_expression
  expression_runs (Num p k) = λ C X L n.
      record { given = integer (pos k); leads = one_step rule_Num Rules.num there; within = number_within (≤ℤ_refl (pos k)) (≤ℤ_refl (pos k)) }
  expression_runs (Boo p b) = λ C X L n. record { given = truth b; leads = one_step rule_Boo Rules.boo there; within = truth_within (only_possible b) }
  expression_runs (Id p x) = id_runs p x (value_of (carried_meaning x N)) refl
  expression_runs (DeRef p x) = deref_runs p x (value_of (carried_meaning x N)) refl
  expression_runs (ValRef p x) = valref_runs p x (value_of (carried_meaning x N)) refl
  expression_runs (Binary p o e₁ e₂) =
      after (Runs e₁) (Runs (Binary p o e₁ e₂)) (carry_expression N K e₁) _ (expression_runs e₁) (λ v run₁.
      after (Runs e₂) (Runs (Binary p o e₁ e₂)) (carry_expression N K e₂) _ (expression_runs e₂) (λ w run₂.
      by_carried (carry_operator p o v w) refl run₁ run₂))
    where
      by_carried : {v w : Carried} (m : Carrying Carried) → carry_operator p o v w ≡ m → Runs e₁ v → Runs e₂ w → If (Runs (Binary p o e₁ e₂)) m
      by_carried {v} {w} (carried u) q run₁ run₂ = λ C X L n.
          let first = run₁ (expression e₂ ∷ mark (operator_mark o) ∷ C) X L n in
          let second = run₂ (mark (operator_mark o) ∷ C) (val first.given ∷ X) L n in
          let g =
          subst (If (MarkGives (operator_mark o) C (val second.given ∷ val first.given ∷ X) X E S L n)) q
          (operator_gives C X E S L n p o first.given second.given v w first.within second.within) in
          record {
            given = g.given;
            leads = one_step rule_Binary Rules.binary (leads_on first.leads (leads_on second.leads (one_step g.rule g.applies there)));
            within = g.within;
          }
      by_carried (Carried.unsafe s) q run₁ run₂ = tt
      by_carried Carried.unfit q run₁ run₂ = tt
  expression_runs (Not p e) =
      after (Runs e) (Runs (Not p e)) (carry_expression N K e) carry_negation (expression_runs e) (λ v run. by_carried (carry_negation v) refl run)
    where
      by_carried : {v : Carried} (m : Carrying Carried) → carry_negation v ≡ m → Runs e v → If (Runs (Not p e)) m
      by_carried {v} (carried u) q run = λ C X L n.
          let first = run (mark not_mark ∷ C) X L n in
          let g = subst (If (MarkGives not_mark C (val first.given ∷ X) X E S L n)) q (negation_gives C X E S L n first.given v first.within) in
          record { given = g.given; leads = one_step rule_Not Rules.negation (leads_on first.leads (one_step g.rule g.applies there)); within = g.within }
      by_carried (Carried.unsafe s) q run = tt
      by_carried Carried.unfit q run = tt

  abbrev pub ActualsRunAnywhere : List Expression → List Carried → Type 0
  ActualsRunAnywhere es vs = (C : List Item) (X : List Entry) (L : List ℕ) (n : ℕ) → ActualsRun es C X E S L n vs

  pub actuals_run : (es : List Expression) → If (ActualsRunAnywhere es) (carry_actuals N K es)
  unfolding carry_actuals put_actuals
  actuals_run [] = λ C X L n. record { given = []; leads = there; within = no_values; as_many = refl }
  actuals_run (e ∷ es) =
      after (ActualsRunAnywhere es) (ActualsRunAnywhere (e ∷ es)) (carry_actuals N K es) _ (actuals_run es) (λ vs run₁.
      after (Runs e) (ActualsRunAnywhere (e ∷ es)) (carry_expression N K e) _ (expression_runs e) (λ v run₂ C X L n.
      let later = run₁ (expression e ∷ C) X L n in
      let first = run₂ C (on_stack later.given X) L n in
      record {
        given = first.given ∷ later.given;
        leads = leads_on later.leads first.leads;
        within = one_value first.within later.within;
        as_many = ap suc later.as_many;
      }))
