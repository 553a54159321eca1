-- Part of the whole-run proof: the steps at the marks that only move values and names.
use Rattle.std.specs.Prelude.{ℕ, zero, suc, ◌<◌, ◌≤◌, ◌≡◌, refl, Bool, true, false, cond, not, List, [], ◌∷◌, ◌++◌, T, ℤ, pos, negsuc, neg_ℤ, ◌+ℤ◌, ◌-ℤ◌, ◌*ℤ◌, length}
use Rattle.std.proofs.Common.{sym, ap, ◌∙◌, subst, le_of_suc-le-suc, not-suc-le-zero}
use Rattle.std.proofs.Math.Option.{Option, none, some}
use Rattle.rules.proofs.Basics.{passed_test}
use Rattle.rules.specs.paper.Tree.{Arithmetic, Sum, Sub, Mul, Div, Operator, arithmetic, Eq, order, logic, Expression, Command, Loop, Cond}
use Rattle.rules.specs.paper.Refusals.{OutOfRange}
use Rattle.rules.specs.paper.Integers.{in_range, Result, number, failed, ranged, floor, divide, compute, compare, equal_integers, equal_truths, combine}
use Rattle.rules.specs.paper.Checker.{Meaning, code, Scope, meaning_of, Passed}
use Rattle.rules.specs.claims.Typing.{HasCode, CommandOk}
use Rattle.rules.specs.paper.States.{Value, integer, truth, location, Bindable, value, Environment, lookup, Store, store_at, find, Entry, val, name, Item, mark, operator_mark, not_mark, assign_mark, loop_mark, conditional_mark, ref_mark, bind_mark, dseq_extend_mark, dseq_join_mark, State, state}
use Rattle.rules.specs.paper.Rules.{goes, pushed, Table}
use Rattle.rules.specs.paper.Rules as Rules
use Rattle.rules.specs.claims.History.{Made, History, remake}
use Rattle.rules.specs.claims.Claim.{HoldsItsType, AllHoldTheirTypes}
use Rattle.rules.proofs.running.World.{World, code_at, code_newest, SmallExpression, SmallCommand, ValueTyped, integer_typed, truth_typed, location_typed, EnvironmentTyped, no_names, one_name, environment_older, BindableTyped, value_typed, join_typed}
use Rattle.rules.proofs.running.Stores.{StoreTyped, one_cell, store_length, store_at_typed, find_typed, Grown, grown, world_made, remade_new, cell_holds}
use Rattle.rules.proofs.running.Continuation.{StackShape, value_of, name_of, testing, declared, saved, Declaring, in_block, past_name, past_saved, OperatorTyped, arithmetic_typed, equal_typed, order_typed, logic_typed, ControlTyped, expression_typed, command_typed, loop_mark_typed, ValuesTyped, value_on, name_on, testing_on, declared_on, saved_on, opened_on, open_states}
use Rattle.rules.proofs.running.Progress.{Progress, Advance, Next, ArithmeticFault, zero_divisor, out_of_range, same_store, quiet_invariant, kept}
use Rattle.rules.proofs.running.ExpressionSteps.{BoundCell, bound_cell_typed}

-- ---- What an arithmetic mark comes to: an integer in range, or 31 or 32.

abbrev ResultOk : Result → Type 0
ResultOk (number z) = T (in_range z)
ResultOk (failed x) = ArithmeticFault x

ranged_ok : (z : ℤ) → ResultOk (ranged z)
ranged_ok z = choose (in_range z) refl
  where
    choose : (t : Bool) → in_range z ≡ t → ResultOk (cond t (number z) (failed OutOfRange))
    choose true q = passed_test q
    choose false q = out_of_range

divide_ok : (y z : ℤ) → ResultOk (divide y z)
divide_ok y (pos zero) = zero_divisor
divide_ok y (pos (suc b)) = ranged_ok (floor y (suc b))
divide_ok y (negsuc b) = ranged_ok (floor (neg_ℤ y) (suc b))

compute_ok : (o : Arithmetic) (y z : ℤ) → ResultOk (compute o y z)
unfolding compute
compute_ok Sum y z = ranged_ok (y +ℤ z)
compute_ok Sub y z = ranged_ok (y -ℤ z)
compute_ok Mul y z = ranged_ok (y *ℤ z)
compute_ok Div y z = divide_ok y z

-- ---- A new cell leaves what lies below it typed, in a declaration.

grow_values : {r : ℕ} {E : Environment} {W : World} {L : List ℕ} {X : List Entry} {Θ : StackShape} {P : List State} (c : ℕ) →
    Declaring Θ → ValuesTyped r E W L X Θ P → ValuesTyped r E (c ∷ W) (length W ∷ L) X Θ P
grow_values c in_block (opened_on e g entered v) = opened_on e (grown g) entered v
grow_values c (past_name d) (name_on v) = name_on (grow_values c d v)
grow_values c (past_saved d) (saved_on e f v) = saved_on (environment_older e c) (environment_older f c) (grow_values c d v)

module _ (a : Passed) (r : ℕ) (C : List Item) (E : Environment) (S : Store) (L : List ℕ) (n : ℕ) (h : History)
    (Γ : Scope) (W : World) (P : List State)
    (names : EnvironmentTyped W E Γ) (cells : StoreTyped S W)
    (types : h.made_types ≡ world_made W) (pending : open_states h.past ≡ P) where
  abbrev Here : Item → List Entry → Type 0
  Here i X = Progress a r (state (i ∷ C) X E S L n) h

  pub arithmetic_next : (o : Arithmetic) (y z : ℤ) (X : List Entry) (Θ : StackShape) (x : Result) → ResultOk x → ControlTyped a C Γ (value_of (code 0) Θ) → ValuesTyped r E W L X Θ P →
      Next a r (state (mark (operator_mark (arithmetic o)) ∷ C) (val (integer z) ∷ val (integer y) ∷ X) E S L n) h (pushed x C X E S L n)
  arithmetic_next o y z X Θ (number v) t k values =
      record {
        invariant =
            quiet_invariant a r (mark (operator_mark (arithmetic o))) C (val (integer z) ∷ val (integer y) ∷ X) E S L n h refl refl
            C (val (integer v) ∷ X) E S L n pending k names cells (value_on (value_typed (integer_typed t)) values) (kept h.made_types S W types cells);
        cells_after = tt;
        restored = tt;
      }
  arithmetic_next o y z X Θ (failed x) t k values = t

  arithmetic_step : (o : Arithmetic) (X : List Entry) (Θ : StackShape) → ControlTyped a C Γ (value_of (code 0) Θ) →
      ValuesTyped r E W L X (value_of (code 0) (value_of (code 0) Θ)) P → Here (mark (operator_mark (arithmetic o))) X
  arithmetic_step o X Θ k (value_on (value_typed (integer_typed {z = z} s)) (value_on {X = Y} (value_typed (integer_typed {z = y} t)) values)) =
      record {
        rule = Rules.mark_arithmetic;
        effect = _;
        applies = Rules.arithmetic_at;
        cells_before = tt;
        next = arithmetic_next o y z Y Θ (compute o y z) (compute_ok o y z) k values;
      }

  equal_step : (c : ℕ) (X : List Entry) (Θ : StackShape) → c < 2 → ControlTyped a C Γ (value_of (code 1) Θ) →
      ValuesTyped r E W L X (value_of (code c) (value_of (code c) Θ)) P → Here (mark (operator_mark Eq)) X
  equal_step c X Θ l k (value_on (value_typed s) (value_on (value_typed t) values)) = equal_values_step c l s t values
    where
      equal_values_step : (c : ℕ) {v w : Value} {Y : List Entry} → c < 2 → ValueTyped W v c → ValueTyped W w c → ValuesTyped r E W L Y Θ P →
          Here (mark (operator_mark Eq)) (val v ∷ val w ∷ Y)
      equal_values_step c l (integer_typed s) (integer_typed t) values = same_store Rules.mark_Eq refl refl (Rules.equal_at refl) names cells types pending k (value_on (value_typed truth_typed) values) (λ M m. tt)
      equal_values_step c l truth_typed truth_typed values = same_store Rules.mark_Eq refl refl (Rules.equal_at refl) names cells types pending k (value_on (value_typed truth_typed) values) (λ M m. tt)
      equal_values_step c l (location_typed s) t values = absurd (not-suc-le-zero (le_of_suc-le-suc (le_of_suc-le-suc l)))

  order_step : (o : _) (X : List Entry) (Θ : StackShape) → ControlTyped a C Γ (value_of (code 1) Θ) →
      ValuesTyped r E W L X (value_of (code 0) (value_of (code 0) Θ)) P → Here (mark (operator_mark (order o))) X
  order_step o X Θ k (value_on (value_typed (integer_typed s)) (value_on (value_typed (integer_typed t)) values)) =
      same_store Rules.mark_order refl refl Rules.order_at names cells types pending k (value_on (value_typed truth_typed) values) (λ M m. tt)

  logic_step : (o : _) (X : List Entry) (Θ : StackShape) → ControlTyped a C Γ (value_of (code 1) Θ) →
      ValuesTyped r E W L X (value_of (code 1) (value_of (code 1) Θ)) P → Here (mark (operator_mark (logic o))) X
  logic_step o X Θ k (value_on (value_typed truth_typed) (value_on (value_typed truth_typed) values)) =
      same_store Rules.mark_logic refl refl Rules.logic_at names cells types pending k (value_on (value_typed truth_typed) values) (λ M m. tt)

  pub operator_step : (o : Operator) (c₁ c₂ c : ℕ) (X : List Entry) (Θ : StackShape) → OperatorTyped o c₁ c₂ c → ControlTyped a C Γ (value_of (code c) Θ) →
      ValuesTyped r E W L X (value_of (code c₂) (value_of (code c₁) Θ)) P → Here (mark (operator_mark o)) X
  operator_step o c₁ c₂ c X Θ (arithmetic_typed {o = p}) k values = arithmetic_step p X Θ k values
  operator_step o c₁ c₂ c X Θ (equal_typed {c = d} l) k values = equal_step d X Θ l k values
  operator_step o c₁ c₂ c X Θ (order_typed {o = p}) k values = order_step p X Θ k values
  operator_step o c₁ c₂ c X Θ (logic_typed {o = p}) k values = logic_step p X Θ k values

  pub not_step : (X : List Entry) (Θ : StackShape) → ControlTyped a C Γ (value_of (code 1) Θ) → ValuesTyped r E W L X (value_of (code 1) Θ) P → Here (mark not_mark) X
  not_step X Θ k (value_on (value_typed truth_typed) values) =
      same_store Rules.mark_Not refl refl Rules.not_at names cells types pending k (value_on (value_typed truth_typed) values) (λ M m. tt)

  pub loop_step : (p : ℕ) (e : Expression) (c : Command) (X : List Entry) (Θ : StackShape) → HasCode Γ e 1 → SmallExpression e → CommandOk Γ c → SmallCommand c →
      ControlTyped a C Γ Θ → ValuesTyped r E W L X (value_of (code 1) (testing (Loop p e c) Θ)) P → Here (mark loop_mark) X
  loop_step p e c X Θ g s d t k (value_on (value_typed (truth_typed {b = true})) (testing_on values)) =
      same_store Rules.mark_Loop refl refl Rules.loop_true names cells types pending (command_typed d t (command_typed (Rattle.rules.specs.claims.Typing.loop g d) (s, t) k)) values (λ M m. tt)
  loop_step p e c X Θ g s d t k (value_on (value_typed (truth_typed {b = false})) (testing_on values)) =
      same_store Rules.mark_Loop refl refl Rules.loop_false names cells types pending k values (λ M m. tt)

  pub conditional_step : (p : ℕ) (e : Expression) (c₁ c₂ : Command) (X : List Entry) (Θ : StackShape) → CommandOk Γ c₁ → SmallCommand c₁ → CommandOk Γ c₂ → SmallCommand c₂ →
      ControlTyped a C Γ Θ → ValuesTyped r E W L X (value_of (code 1) (testing (Cond p e c₁ c₂) Θ)) P → Here (mark conditional_mark) X
  conditional_step p e c₁ c₂ X Θ d₁ t₁ d₂ t₂ k (value_on (value_typed (truth_typed {b = true})) (testing_on values)) =
      same_store Rules.mark_Cond refl refl Rules.conditional_true names cells types pending (command_typed d₁ t₁ k) values (λ M m. tt)
  conditional_step p e c₁ c₂ X Θ d₁ t₁ d₂ t₂ k (value_on (value_typed (truth_typed {b = false})) (testing_on values)) =
      same_store Rules.mark_Cond refl refl Rules.conditional_false names cells types pending (command_typed d₂ t₂ k) values (λ M m. tt)

  pub bind_step : (x : ℕ) (m : Meaning) (X : List Entry) (Θ : StackShape) → ControlTyped a C Γ (declared (record { name = x; meaning = m } ∷ []) Θ) →
      ValuesTyped r E W L X (value_of m (name_of x Θ)) P → Here (mark bind_mark) X
  bind_step x m X Θ k (value_on b (name_on values)) =
      same_store Rules.mark_Bind refl refl Rules.bind_at names cells types pending k (declared_on (one_name refl b no_names) values) (λ M m. tt)

  pub dseq_extend_step : (Δ₁ : Scope) (X : List Entry) (Θ : StackShape) → ControlTyped a C (Δ₁ ++ Γ) (saved Δ₁ Γ Θ) →
      ValuesTyped r E W L X (declared Δ₁ Θ) P → Here (mark dseq_extend_mark) X
  dseq_extend_step Δ₁ X Θ k (declared_on d₁ values) =
      same_store Rules.mark_DSeq_extend refl refl Rules.dseq_extend_at (join_typed d₁ names) cells types pending k (saved_on d₁ names values) (λ M m. tt)

  pub dseq_join_step : (Δ₁ Δ₂ Γ₀ : Scope) (X : List Entry) (Θ : StackShape) → ControlTyped a C Γ₀ (declared (Δ₂ ++ Δ₁) Θ) →
      ValuesTyped r E W L X (declared Δ₂ (saved Δ₁ Γ₀ Θ)) P → Here (mark dseq_join_mark) X
  dseq_join_step Δ₁ Δ₂ Γ₀ X Θ k (declared_on d₂ (saved_on d₁ outer values)) =
      same_store Rules.mark_DSeq_join refl refl Rules.dseq_join_at outer cells types pending k (declared_on (join_typed d₂ d₁) values) (λ M m. tt)

  -- Assign's mark sets a live cell of code 0 or 1.
  store_step : (x c : ℕ) (v : Value) (X : List Entry) (Θ : StackShape) → c < 2 → BoundCell W E x c → ValueTyped W v c → ControlTyped a C Γ Θ → ValuesTyped r E W L X Θ P →
      Here (mark assign_mark) (val v ∷ name x ∷ X)
  store_step x c v X Θ l b t k values =
      let f = find_typed b.cell c cells b.has_code in
      let cells' = store_at_typed b.cell c v cells b.has_code l t in
      record {
        rule = Rules.mark_Assign;
        effect = _;
        applies = Rules.assign_at b.found f.found;
        cells_before = rw b.found (subst (λ M. HoldsItsType M S b.cell) (sym types) (cell_holds b.cell c cells b.has_code), tt);
        next = record {
          invariant =
              quiet_invariant a r (mark assign_mark) C (val v ∷ name x ∷ X) E S L n h refl refl C X E (store_at b.cell v S) L n pending k names cells' values
              (kept h.made_types (store_at b.cell v S) W types cells');
          cells_after =
              rw b.found
              (subst (λ M. HoldsItsType M (store_at b.cell v S) b.cell) (sym (kept h.made_types (store_at b.cell v S) W types cells')) (cell_holds b.cell c cells' b.has_code), tt);
          restored = tt;
        };
      }

  pub assign_step : (x c : ℕ) (X : List Entry) (Θ : StackShape) → c < 2 → meaning_of x Γ ≡ some (code (suc (suc c))) → ControlTyped a C Γ Θ →
      ValuesTyped r E W L X (value_of (code c) (name_of x Θ)) P → Here (mark assign_mark) X
  assign_step x c X Θ l q k (value_on (value_typed {v = v} t) (name_on {X = Y} values)) = store_step x c v Y Θ l (bound_cell_typed x c names q) t k values

  -- Ref's mark makes a cell, whose location is the number of live cells.
  make_step : (c : ℕ) (v : Value) (X : List Entry) (Θ : StackShape) → Declaring Θ → ValueTyped W v c → ControlTyped a C Γ (value_of (code (suc (suc c))) Θ) → ValuesTyped r E W L X Θ P →
      Here (mark ref_mark) (val v ∷ X)
  make_step c v X Θ d t k values =
      record {
        rule = Rules.mark_Ref;
        effect = _;
        applies = Rules.ref_at;
        cells_before = tt;
        next =
            subst (λ l. Advance a r (state (mark ref_mark ∷ C) (val v ∷ X) E S L n) h (state C (val (location l) ∷ X) E (record { where_at = l; contents = v } ∷ S) (l ∷ L) n))
            (sym (store_length cells)) made_at;
      }
    where
      made_at : Advance a r (state (mark ref_mark ∷ C) (val v ∷ X) E S L n) h
          (state C (val (location (length W)) ∷ X) E (record { where_at = length W; contents = v } ∷ S) (length W ∷ L) n)
      made_at =
          record {
            invariant =
                quiet_invariant a r (mark ref_mark) C (val v ∷ X) E S L n h refl refl
                C (val (location (length W)) ∷ X) E (record { where_at = length W; contents = v } ∷ S) (length W ∷ L) n pending k
                (environment_older names c) (one_cell refl t cells)
                (value_on (value_typed (location_typed (code_newest W c))) (grow_values c d values))
                (ap (λ M. remake M (record { where_at = length W; contents = v } ∷ S)) types ∙ remade_new cells t);
            cells_after = tt;
            restored = tt;
          }

  pub ref_step : (c : ℕ) (X : List Entry) (Θ : StackShape) → Declaring Θ → ControlTyped a C Γ (value_of (code (suc (suc c))) Θ) →
      ValuesTyped r E W L X (value_of (code c) Θ) P → Here (mark ref_mark) X
  ref_step c X Θ d k (value_on {X = Y} (value_typed {v = v} t) values) = make_step c v Y Θ d t k values
