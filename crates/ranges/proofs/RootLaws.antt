-- The root by the kind of node 0, and the whole routine: carried from the registers' names and cells, with their ends taken where it goes through.
use Prim.Native.Nat.{ℕ, ◌+◌, ◌<◌}
use mathlib.Core.Path.{◌≡◌, refl, sym, ap, ◌∙◌, subst}
use mathlib.Core.List.{List}
use Rattle.std.specs.Prelude.{Result, Ok, Err}
use Rattle.rules.specs.declared.refusals.Refused.{Refused}
use native.Mathlib.Omega.{arith}
use lib.ListN.{length, get_or}
use Rattle.rules.specs.paper.Tree.{Expression, Command, Root, expression, command}
use Rattle.rules.specs.paper.Needs.{Needs, register_needs, root_need, routine_need}
use Rattle.rules.specs.paper.Carried.{Carrying, carried, unsafe, unfit, ◌>>=◌}
use Rattle.rules.specs.paper.Carrying.{CarriedCells, CarriedNames, register_names, register_cells, carry_expression, carry_root, carry_routine}
use Rattle.rules.specs.paper.Kinds.{kind_number}
use Rattle.rules.specs.declared.kinds.ExpressionKind.{ExpressionKind}
use Rattle.rules.specs.declared.kinds.Kind.{Kind}
use Rattle.rules.specs.declared.kinds.Kind.TheVariants.{Expression as expression_kind}
use Rattle.reader.specs.NodeKinds.{Known}
use Rattle.reader.proofs.NodeKindLaws.{expression_known, command_known, expression_is, command_is}
use Rattle.reader.specs.Pack.{packed_kind}
use Rattle.reader.specs.Stored.{StoredRoot, root_expression, root_command, root_absent, RootAt}
use Rattle.reader.specs.StoredLaws.{same_root}
use Rattle.reader.proofs.StandingLaws.{expression_on, command_on}
use Rattle.integers.specs.Words.{integers_of}
use Rattle.intervals.specs.Values.{numbers_sort}
use Rattle.intervals.specs.declared.values.Value.{Value}
use Rattle.carrying.specs.Layout.{cell_sorts}
use Rattle.carrying.specs.States.{CellsAt, StateAt, Sees, Room}
use Rattle.carrying.specs.Frames.{Keeps}
use Rattle.carrying.specs.Answers.{Fits, ExpressionThere, SomeExpression, ExpressionCarried, CommandThere, SomeCommand, CommandAs, CommandCarried}
use Rattle.ranges.specs.Routine.{RegistersAt, registers_held, EndsTaken, RootThere, SomeRoot, RootCarried, EnoughRoom, SomeRoutine, CarriedAs, RoutineCarried}
use Rattle.carrying.specs.declared.Held.{Held}
use Rattle.carrying.proofs.ResultLaws.{ok_not_err}
use Rattle.carrying.proofs.FrameLaws.{kept_nodes}
use Rattle.carrying.proofs.ExpressionLaws.{first_fits, told_value}
use Rattle.ranges.proofs.OutcomeLaws.{told_through}
use Rattle.ranges.proofs.CommandLaws.{state_sees}
use Rattle.ranges.proofs.RegisterLaws.{ends_ranged}
use Rattle.ranges.proofs.TestLaws.{unsafe_value}

-- ---- The root.

module _ (words : List ℕ) (held : Held) (nodes : ℕ) where
  -- With no node the cells are left as they are.
  pub absent_carried : nodes ≡ 0 → RootCarried words words held nodes (Ok tt)
  unfolding carry_root
  absent_carried none t A N K there = by none there.tree.stored there.state
    where
      by : {d j : ℕ} {t : Root} → j ≡ 0 → StoredRoot words d 0 j t → StateAt words 0 held A N K → CommandAs words held.cells (carry_root A K t) (Ok tt)
      by q (root_expression s) state = absurd (omega (arith, q, expression_on s))
      by q (root_command s) state = absurd (omega (arith, q, command_on s))
      by q root_absent state = (refl, state.cells_are)

  pub known_there : (nodes ≡ 0 → ⊥) → SomeRoot words held nodes → Known (get_or words 0 0)
  known_there some_nodes s = by some_nodes s.4.tree.stored
    where
      by : {d j : ℕ} {t : Root} → (j ≡ 0 → ⊥) → StoredRoot words d 0 j t → Known (get_or words 0 0)
      by q (root_expression s) = expression_known s
      by q (root_command s) = command_known s
      by q root_absent = absurd (q refl)

  module _ (some_nodes : nodes ≡ 0 → ⊥) (k : Kind) (known : kind_number k ≡ packed_kind (get_or words 0 0)) where
    -- An expression.
    module _ (x : ExpressionKind) (is_expression : k ≡ expression_kind x) where
      only_expression : {A : CarriedNames} {N : Needs} {K : CarriedCells} {t : Root} (X : Root → Type 0) → ((e : Expression) → ExpressionThere words held.environment 0 e A K → X (expression e)) →
          RootThere words held nodes t A N K → X t
      only_expression {A = A} {N = N} {K = K} X give there = by (λ q. some_nodes q) there.tree.stored (state_sees there.room there.state)
        where
          by : {d j : ℕ} {t : Root} → (j ≡ 0 → ⊥) → StoredRoot words d 0 j t → Sees words held.environment A K → X t
          by q (root_expression {d = d} {j = j} s) sees = give _ (record { depth = d; next = j; tree = s; sees = sees })
          by q (root_command s) sees = let is_command = command_is k s known in absurd cc
          by q root_absent sees = absurd (q refl)

      pub expression_there : SomeRoot words held nodes → SomeExpression words held.environment 0
      unfolding carry_root
      expression_there s =
          only_expression (λ t. Fits (carry_root s.1 s.3 t) → SomeExpression words held.environment 0)
          (λ e there fits. (e, s.1, s.3, there, first_fits (λ v. carried s.3) (carry_expression s.1 s.3 e) fits)) s.4 s.5

      pub expression_carried : (value : Value) → ExpressionCarried words held.environment 0 (Ok value) → RootCarried words words held nodes (Ok tt)
      unfolding carry_root
      expression_carried value answered t A N K there =
          only_expression (λ t. StateAt words 0 held A N K → CommandAs words held.cells (carry_root A K t) (Ok tt))
          (λ e at state.
          told_value (carry_expression A K e) value (answered e A K at)
          (λ v same holds. subst (λ o. CommandAs words held.cells (o >>= λ v. carried K) (Ok tt)) (sym same) (refl, state.cells_are))
          (λ never. subst (λ o. CommandAs words held.cells (o >>= λ v. carried K) (Ok tt)) (sym never) tt))
          there there.state

      pub expression_unsafe : (refused : Refused) → ExpressionCarried words held.environment 0 (Err refused) → RootCarried words words held nodes (Err refused)
      unfolding carry_root
      expression_unsafe refused answered t A N K there =
          only_expression (λ t. CommandAs words held.cells (carry_root A K t) (Err refused))
          (λ e at. unsafe_value words held.cells (λ v. carried K) (carry_expression A K e) refused (answered e A K at)) there

    -- A command.
    module _ (no_expression : (x : ExpressionKind) → k ≡ expression_kind x → ⊥) where
      only_command : {A : CarriedNames} {N : Needs} {K : CarriedCells} {t : Root} (X : Root → Type 0) → ((c : Command) → CommandThere words held 0 c A N K → X (command c)) →
          RootThere words held nodes t A N K → X t
      unfolding root_need
      only_command {A = A} {N = N} {K = K} X give there = by (λ q. some_nodes q) there.tree.stored there.state there.room
        where
          by : {d j : ℕ} {t : Root} → (j ≡ 0 → ⊥) → StoredRoot words d 0 j t → StateAt words 0 held A N K → Room held (root_need N t) → X t
          by q (root_expression s) state room = absurd (no_expression _ (expression_is k s known))
          by q (root_command {d = d} {j = j} s) state room = give _ (record { depth = d; next = j; tree = s; state = state; room = room })
          by q root_absent state room = absurd (q refl)

      pub command_there : SomeRoot words held nodes → SomeCommand words held 0
      unfolding carry_root
      command_there s = only_command (λ t. Fits (carry_root s.1 s.3 t) → SomeCommand words held 0) (λ c there fits. (c, s.1, s.2, s.3, there, fits)) s.4 s.5

      pub command_carried : (words₁ : List ℕ) (r : Result (Unit {0}) Refused) → CommandCarried words words₁ held 0 r → RootCarried words words₁ held nodes r
      unfolding carry_root
      command_carried words₁ r ran t A N K there = only_command (λ t. CommandAs words₁ held.cells (carry_root A K t) r) (λ c at. ran c A N K at) there

-- ---- The routine.

module _ (words words₁ : List ℕ) (nodes : ℕ) (lowest highest : List ℕ) (held : Held) (is_held_lem : held ≡ registers_held (length lowest)) (there : RegistersAt words₁ (length lowest) lowest highest) (kept : Keeps words words₁ 0 0) where
  start_state : StateAt words₁ 0 held (register_names (length lowest)) (register_needs (length lowest)) (register_cells (length lowest) (integers_of lowest) (integers_of highest))
  start_state =
      subst (λ h. StateAt words₁ 0 h (register_names (length lowest)) (register_needs (length lowest)) (register_cells (length lowest) (integers_of lowest) (integers_of highest))) (sym is_held_lem)
      (record { names_are = there.names_are 0; cells_are = there.cells_are; pointed = omega arith })

  start_room : {t : Root} → EnoughRoom (length lowest) t → Room held (root_need (register_needs (length lowest)) t)
  unfolding routine_need
  start_room {t} enough =
      subst (λ h. Room h (root_need (register_needs (length lowest)) t)) (sym is_held_lem) (record { bindings_fit = omega (arith, enough.few_bindings); cells_fit = omega (arith, enough.few_cells) })

  kept_root : {t : Root} → RootAt words nodes t → RootAt words₁ nodes t
  kept_root at = record { depth = at.depth; depth_low = at.depth_low; stored = same_root words words₁ (kept_nodes kept) at.stored }

  root_there : {t : Root} → RootAt words nodes t → EnoughRoom (length lowest) t →
      RootThere words₁ held nodes t (register_names (length lowest)) (register_needs (length lowest)) (register_cells (length lowest) (integers_of lowest) (integers_of highest))
  root_there at enough = record { tree = kept_root at; state = start_state; room = start_room enough }

  pub some_root : SomeRoutine words nodes lowest highest → SomeRoot words₁ held nodes
  unfolding carry_routine
  some_root s = (
    s.0,
    register_names (length lowest),
    register_needs (length lowest),
    register_cells (length lowest) (integers_of lowest) (integers_of highest),
    root_there s.1 s.2,
    s.3,
  )

  held_cells : held.cells ≡ length lowest
  held_cells = ap (λ h. h.cells) is_held_lem

  unsafe_lists : (o : Carrying CarriedCells) (words₂ : List ℕ) (refused : Refused) → CommandAs words₂ held.cells o (Err refused) → CarriedAs o lowest highest lowest highest (Err refused)
  unsafe_lists (carried K) words₂ refused (same, left) = ok_not_err (sym same)
  unsafe_lists (unsafe q) words₂ refused same = record { is_unsafe = same; same_lowest = refl; same_highest = refl }
  unsafe_lists unfit words₂ refused answer = tt

  pub routine_unsafe : (words₂ : List ℕ) (refused : Refused) → RootCarried words₁ words₂ held nodes (Err refused) → RoutineCarried words nodes lowest highest lowest highest (Err refused)
  unfolding carry_routine
  routine_unsafe words₂ refused ran t at enough =
      unsafe_lists (carry_root (register_names (length lowest)) (register_cells (length lowest) (integers_of lowest) (integers_of highest)) t) words₂ refused
      (ran t (register_names (length lowest)) (register_needs (length lowest)) (register_cells (length lowest) (integers_of lowest) (integers_of highest)) (root_there at enough))

  pub routine_carried : (words₂ : List ℕ) → RootCarried words₁ words₂ held nodes (Ok tt) → Keeps words₁ words₂ held.bindings held.cells → (lowest' highest' : List ℕ) →
      EndsTaken words₂ (length lowest) lowest' highest' → RoutineCarried words nodes lowest highest lowest' highest' (Ok tt)
  unfolding carry_routine
  routine_carried words₂ ran kept_root_words lowest' highest' taken t at enough =
      told_through (carry_root (register_names (length lowest)) (register_cells (length lowest) (integers_of lowest) (integers_of highest)) t)
      (ran t (register_names (length lowest)) (register_needs (length lowest)) (register_cells (length lowest) (integers_of lowest) (integers_of highest)) (root_there at enough))
      (λ K same now.
      subst (λ o. CarriedAs o lowest highest lowest' highest' (Ok tt)) (sym same)
      (let ends = taken K (subst (λ n. CellsAt words₂ n K) held_cells now) sorts in
      let ranged = ends_ranged now (length lowest) in
      record { went_through = refl; lowest_are = ends.0; highest_are = ends.1; lowest_ranged = ranged.0; highest_ranged = ranged.1 }))
      (λ never. subst (λ o. CarriedAs o lowest highest lowest' highest' (Ok tt)) (sym never) tt)
    where
      sorts : (i : ℕ) → i < length lowest → get_or words₂ (cell_sorts + i) 0 ≡ numbers_sort
      sorts i h = kept_root_words.same_sorts i (omega (arith, h, held_cells)) ∙ there.numbers_there i h
