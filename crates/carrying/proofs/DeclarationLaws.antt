-- Declarations by what stands at their node: a Bind's name with its value, cell or function on the names before it, and the second of a DSeq on the
-- names of the first.
use Prim.Native.Nat.{ℕ, suc, ◌+◌, ◌<◌, ◌≤◌}
use mathlib.Core.Path.{◌≡◌, refl, sym, ap, ◌∙◌, subst}
use mathlib.Core.List.{List, [], ◌∷◌, ◌++◌}
use Rattle.std.specs.Prelude.{Ok, Err}
use Rattle.rules.specs.declared.refusals.Refused.{Refused}
use native.Mathlib.Omega.{arith}
use lib.ListN.{length, get_or}
use Rattle.rules.specs.paper.Limits.{most_nodes, most_bindings, most_cells, names}
use Rattle.rules.specs.paper.Tree.{Expression, Declaration, Bind, DSeq, Bound, plain, Ref}
use Rattle.rules.specs.paper.Needs.{Needs, nothing, in_turn, cells_of_bound, cells_left, bindings_left, over_formals, block_need, declaration_need, names_given, bound_function}
use Rattle.rules.specs.paper.Carried.{Carried, location, Carrying, carried, unsafe, unfit, ◌>>=◌}
use Rattle.rules.specs.paper.Carrying.{CarriedCells, CarriedNames, CarriedDeclared, CarriedBound, a_value, carry_expression, carry_declaration, carry_bound}
use Rattle.reader.specs.KindNumbers.{bind_number, ref_number, abs_number}
use Rattle.reader.specs.NodeKinds.{Known}
use Rattle.reader.proofs.NodeKindLaws.{bound_known}
use Rattle.reader.specs.Pack.{packed_kind, packed_operand}
use Rattle.reader.specs.Stored.{StoredExpression, StoredDeclaration, StoredBound}
use Rattle.reader.proofs.StoredFields.{kind_is, operand_is}
use Rattle.reader.specs.Stored as Stored
use Rattle.reader.specs.StoredLaws.{same_bound}
use Rattle.reader.proofs.StandingLaws.{after_node, expression_low, bound_on}
use Rattle.reader.proofs.KindTrees.{stored_expression_kind}
use Rattle.intervals.specs.Values.{numbers_sort, HoldsValue, holds_location, ExpressedAs}
use Rattle.intervals.specs.declared.values.Value.{Value}
use Rattle.carrying.specs.Layout.{sorts, location_value, row_added, cell_added}
use Rattle.carrying.specs.States.{valued, functional, needing, NamesAt, one_value, one_function, CellsAt, StateAt, Sees, Room}
use Rattle.carrying.specs.Frames.{Keeps, KeepsCells, PutRow, PutCell}
use Rattle.carrying.specs.Answers.{Fits, SomeExpression, ExpressionCarried, SomeBind, DeclaredAs, DeclarationCarried}
use Rattle.carrying.specs.declared.Held.{Held}
use Rattle.carrying.proofs.ResultLaws.{ok_not_err, same_ok, same_refusal}
use Rattle.carrying.proofs.FrameLaws.{row_keeps, row_keeps_cells, cell_keeps, cell_keeps_cells, keeps_fewer, keeps_fewer_cells, keeps_then, keeps_cells_then, kept_nodes}
use Rattle.carrying.proofs.StateLaws.{names_kept, names_later, names_few, row_there, sort_small, holds_same, cells_kept, cells_length, cell_more}

-- ---- What is fit, part by part; and what an answer says of the carrying.

pub first_fits : {A B : Type 0} (m : Carrying A) (f : A → Carrying B) → Fits (m >>= f) → Fits m
first_fits m f fits q = fits (ap (λ n. n >>= f) q)

pub answer_held : {value : Value} {v : Carried} → ExpressedAs (carried v) (Ok value) → HoldsValue value v
answer_held (x, p, h) = holds_same (sym (same_ok p)) h

-- The value that an expression's answer holds.
pub value_held : (m : Carrying Carried) (value : Value) → Fits m → ExpressedAs m (Ok value) → (v : Carried) × (m ≡ carried v) × HoldsValue value v
value_held (carried v) value fits given = (v, refl, answer_held given)
value_held (unsafe p) value fits given = ok_not_err given
value_held unfit value fits given = absurd (fits refl)

-- ---- Room.

pub bind_room : {held : Held} (N : Needs) (p x : ℕ) (b : Bound) → Room held (declaration_need N (Bind p x b)) → (held.bindings + 1 ≤ most_bindings) × (held.cells + cells_of_bound b ≤ most_cells)
unfolding declaration_need in_turn
bind_room N p x b room = (omega (arith, room.bindings_fit), omega (arith, room.cells_fit))

pub sequence_room : {held : Held} (inner : Held) (N : Needs) (p : ℕ) (d₁ d₂ : Declaration) → inner.bindings ≡ bindings_left d₁ + held.bindings → inner.cells ≡ cells_left d₁ + held.cells →
    Room held (declaration_need N (DSeq p d₁ d₂)) → Room held (declaration_need N d₁) × Room inner (declaration_need (names_given N d₁ ++ N) d₂)
unfolding declaration_need in_turn
sequence_room inner N i d₁ d₂ p q room =
    (record { bindings_fit = omega (arith, room.bindings_fit); cells_fit = omega (arith, room.cells_fit) }, record { bindings_fit = omega (arith, p, room.bindings_fit); cells_fit = omega (arith, q, room.cells_fit) })

-- ---- A Bind.

cells_few : {held : Held} {n : _} → Room held n → held.cells ≤ most_cells
cells_few room = omega (arith, room.cells_fit)

pub state_seen : {words : List ℕ} {limit : ℕ} {held : Held} {A : CarriedNames} {N : Needs} {K : CarriedCells} → held.cells ≤ most_cells → StateAt words limit held A N K → Sees words held.environment A K
state_seen {limit = limit} {held = held} {N = N} few state = record { limit = limit; needs = N; count = held.cells; names_are = state.names_are; cells_are = state.cells_are; count_few = few }

-- The names and cells with what a Bind binds.
abbrev bound_with : ℕ → Carrying CarriedBound → Carrying CarriedDeclared
bound_with x m = m >>= λ B. carried (record { names_declared = record { name = x; meaning = B.bound_as } ∷ []; cells_after = B.cells_after })

unsafe_bound : (words : List ℕ) (held : Held) (next x : ℕ) (c : Declaration) (A : CarriedNames) (N : Needs) (refused : Refused) (g : Carried → CarriedBound) →
    (m : Carrying Carried) → ExpressedAs m (Err refused) → DeclaredAs words next held c A N (bound_with x (m >>= λ v. carried (g v))) (Err refused)
unsafe_bound words held next x c A N refused g (carried v) (y, same, holds) = ok_not_err (sym same)
unsafe_bound words held next x c A N refused g (unsafe p) answer = same_refusal answer
unsafe_bound words held next x c A N refused g unfit answer = tt

bound_low : {words : List ℕ} {d i j : ℕ} {b : Bound} → StoredBound words d i j b → i < most_nodes
bound_low (Stored.plain_of a) = expression_low a
bound_low (Stored.ref h a) = h.place_low
bound_low (Stored.abs l h a b) = h.place_low

-- A value put on the names.
value_named : {words words' : List ℕ} (held : Held) {x next limit : ℕ} {value : Value} {v : Carried} {A : CarriedNames} {N : Needs} → PutRow words words' held.bindings x held.environment value →
    held.bindings < most_bindings → x < names → HoldsValue value v → held.environment ≤ held.bindings → limit ≤ next → NamesAt words limit held.environment A N →
    NamesAt words' next (held.bindings + 1) (valued x v ∷ A) (needing x nothing ∷ N)
value_named {words} {words'} held {x} {next} {limit} {value} {v} {A} {N} put few named holds pointed later older =
    subst (λ p. NamesAt words' next p (valued x v ∷ A) (needing x nothing ∷ N)) (after_node held.bindings)
    (one_value (row_there few named (sort_small holds) pointed put) holds (names_later later (names_kept (row_keeps few put) pointed older)))

module _ (words : List ℕ) (held : Held) (node : ℕ) where
  bind_parts : SomeBind words held node → (packed_kind (get_or words node 0) ≡ bind_number) × (packed_operand (get_or words node 0) < names) × (node + 1 < most_nodes)
  bind_parts s = by refl s.6.tree
    where
      by : {d next x : ℕ} {b : Bound} {c : Declaration} → c ≡ Bind node x b → StoredDeclaration words d node next c → (packed_kind (get_or words node 0) ≡ bind_number) × (packed_operand (get_or words node 0) < names) × (node + 1 < most_nodes)
      by q (Stored.dseq h a b) = absurd cc
      by q (Stored.bind l h a) = (kind_is h (omega arith), omega (arith, operand_is h (omega arith), l), omega (arith, bound_low a))

  pub bind_row : SomeBind words held node → (held.bindings < most_bindings) × (packed_operand (get_or words node 0) < names) × (held.environment ≤ most_bindings) × (held.cells ≤ most_cells)
  bind_row s = let there = s.6 in (omega (arith, (bind_room s.4 node s.1 s.2 there.room).0), (bind_parts s).1, names_few there.state.names_are, cells_few there.room)

  -- The kind of what it binds is known.
  pub known_bound_there : SomeBind words held node → Known (get_or words (node + 1) 0)
  known_bound_there s = by refl s.6.tree
    where
      by : {d next x : ℕ} {b : Bound} {c : Declaration} → c ≡ Bind node x b → StoredDeclaration words d node next c → Known (get_or words (node + 1) 0)
      by q (Stored.dseq h a b) = absurd cc
      by q (Stored.bind l h a) = subst (λ i. Known (get_or words i 0)) (after_node node) (bound_known a)

  module _ (name which : ℕ) (named : name ≡ packed_operand (get_or words node 0)) (known : which ≡ packed_kind (get_or words (node + 1) 0)) where
    -- The kind of what is bound.
    known_bound : which ≡ packed_kind (get_or words (suc node) 0)
    known_bound = known ∙ ap (λ i. packed_kind (get_or words i 0)) (sym (after_node node))

    -- ---- An Abs.

    module _ (is_abs : which ≡ abs_number) (words' : List ℕ) (put : PutRow words words' held.bindings name held.environment (record { sort = numbers_sort; low = node + 1; high = 0 })) where
      pub function_bound : SomeBind words held node →
          DeclarationCarried words words' held node (Ok (row_added held))
      unfolding carry_declaration carry_bound names_given bound_function bindings_left cells_left
      function_bound s next c A N K there = by there.tree there.state
        where
          few : held.bindings < most_bindings
          few = (bind_row s).0

          fewer : held.cells ≤ most_cells
          fewer = (bind_row s).3

          by : {d : ℕ} {c : Declaration} → StoredDeclaration words d node next c → StateAt words node held A N K →
              DeclaredAs words' next held c A N (carry_declaration A K c) (Ok (row_added held))
          by (Stored.dseq h a b) state = absurd (omega (arith, (bind_parts s).0, kind_is h (omega arith)))
          by (Stored.bind l h (Stored.plain_of a)) state = absurd (omega (arith, is_abs, known_bound, stored_expression_kind a))
          by (Stored.bind l h (Stored.ref w a)) state = absurd (omega (arith, is_abs, known_bound, kind_is w (omega arith)))
          by (Stored.bind {d = e} {x = x} l h (Stored.abs {fs = fs} {b = b} k w f a)) state =
              let placed = subst (λ y. PutRow words words' held.bindings y held.environment (record { sort = numbers_sort; low = node + 1; high = 0 })) (named ∙ operand_is h (omega arith)) put in
              let tree = same_bound words words' (kept_nodes (row_keeps few put)) (Stored.abs k w f a) in (
                _,
                refl,
                record {
                  state = record {
                    names_are =
                        subst (λ p. NamesAt words' next p (functional x A fs b ∷ A) (needing x (block_need (over_formals fs N) b) ∷ N)) (after_node held.bindings)
                        (one_function {limit = next} (row_there few l (omega arith) state.pointed placed) (sym (after_node node)) tree (omega arith)
                        (names_later (omega arith) (names_kept (row_keeps few put) state.pointed state.names_are)));
                    cells_are = cells_kept (row_keeps few put) (row_keeps_cells few put) fewer state.cells_are;
                    pointed = omega arith;
                  };
                  bindings_are = omega arith;
                  cells_are = omega arith;
                },
              )

      pub function_keeps : SomeBind words held node → Keeps words words' held.bindings held.cells × KeepsCells words words' held.cells
      function_keeps s =
          let few = (bind_row s).0 in let fewer = (bind_row s).3 in (keeps_fewer (omega arith) fewer (row_keeps few put), keeps_fewer_cells fewer (row_keeps_cells few put))

    -- ---- A Ref.

    module _ (is_ref : which ≡ ref_number) where
      pub referent_there : SomeBind words held node → SomeExpression words held.environment (node + 2) × (held.cells < most_cells)
      unfolding carry_declaration carry_bound
      referent_there s = by s.6.tree s.6.room s.7
        where
          by : {d : ℕ} {c : Declaration} → StoredDeclaration words d node s.0 c → Room held (declaration_need s.4 c) → Fits (carry_declaration s.3 s.5 c) →
              SomeExpression words held.environment (node + 2) × (held.cells < most_cells)
          by (Stored.dseq h a b) room fits = absurd (omega (arith, (bind_parts s).0, kind_is h (omega arith)))
          by (Stored.bind l h (Stored.plain_of a)) room fits = absurd (omega (arith, is_ref, known_bound, stored_expression_kind a))
          by (Stored.bind {x = x} l h (Stored.ref {d = e} {e = v} w a)) room fits = (
            (v, s.3, s.5, record { depth = e; next = s.0; tree = subst (λ i. StoredExpression words e i s.0 v) (omega arith) a; sees = state_seen (bind_row s).3 s.6.state }, first_fits (carry_expression s.3 s.5 v) _ (first_fits _ _ fits)),
            omega (arith, (bind_room s.4 node x (Ref (suc node) v) room).1),
          )
          by (Stored.bind l h (Stored.abs k w f a)) room fits = absurd (omega (arith, is_ref, known_bound, kind_is w (omega arith)))

      module _ (value : Value) (expressed : ExpressionCarried words held.environment (node + 2) (Ok value)) where
        -- The cell made, and its location put on the names.
        module _ (words₁ words₂ : List ℕ) (made : PutCell words words₁ held.cells value)
            (put : PutRow words₁ words₂ held.bindings name held.environment (location_value held.cells)) where
          pub reference_bound : SomeBind words held node →
              DeclarationCarried words words₂ held node (Ok (cell_added (row_added held)))
          unfolding carry_declaration carry_bound names_given bound_function bindings_left cells_left
          reference_bound s next c A N K there = by there.tree there.state
            where
              few : held.bindings < most_bindings
              few = (bind_row s).0

              fewer : held.cells < most_cells
              fewer = (referent_there s).1

              inner : Held
              inner = cell_added (row_added held)

              cells_after : (v : Carried) → HoldsValue value v → CellsAt words held.cells K → CellsAt words₂ (held.cells + 1) (v ∷ K)
              cells_after v holds before =
                  subst (λ n. CellsAt words₂ n (v ∷ K)) (after_node held.cells)
                  (cells_kept (row_keeps few put) (row_keeps_cells few put) fewer (cell_more made holds (cells_kept (cell_keeps fewer made) (cell_keeps_cells fewer made) (omega arith) before)))

              bound : (x p : ℕ) (e : Expression) → x < names → name ≡ x → StateAt words node held A N K → node ≤ next → (m : Carrying Carried) → ExpressedAs m (Ok value) →
                  DeclaredAs words₂ next held (Bind node x (Ref p e)) A N (bound_with x (m >>= λ v. carried (record { bound_as = a_value (location (length K)); cells_after = v ∷ K }))) (Ok inner)
              bound x p e l q state later (carried v) answer =
                  let placed = subst (λ y. PutRow words₁ words₂ held.bindings y held.environment (location_value held.cells)) q put in
                  let counted = cells_length state.cells_are in
                  let older = names_kept (cell_keeps fewer made) (omega (arith, few, state.pointed)) state.names_are in (
                    inner,
                    refl,
                    record {
                      state = record {
                        names_are = value_named held placed few l (holds_location refl (sym counted) (sym counted)) state.pointed later older;
                        cells_are = cells_after v (answer_held answer) state.cells_are;
                        pointed = omega arith;
                      };
                      bindings_are = omega arith;
                      cells_are = omega arith;
                    },
                  )
              bound x p e l q state later (unsafe o) answer = ok_not_err answer
              bound x p e l q state later unfit answer = tt

              by : {d : ℕ} {c : Declaration} → StoredDeclaration words d node next c → StateAt words node held A N K → DeclaredAs words₂ next held c A N (carry_declaration A K c) (Ok inner)
              by (Stored.dseq h a b) state = absurd (omega (arith, (bind_parts s).0, kind_is h (omega arith)))
              by (Stored.bind l h (Stored.plain_of a)) state = absurd (omega (arith, is_ref, known_bound, stored_expression_kind a))
              by (Stored.bind {x = x} l h (Stored.ref {d = e} {e = v} w a)) state =
                  bound x (suc node) v l (named ∙ operand_is h (omega arith)) state (omega (arith, bound_on (Stored.ref w a))) (carry_expression A K v)
                  (expressed v A K (record { depth = e; next = next; tree = subst (λ i. StoredExpression words e i next v) (omega arith) a; sees = state_seen (bind_row s).3 state }))
              by (Stored.bind l h (Stored.abs k w f a)) state = absurd (omega (arith, is_ref, known_bound, kind_is w (omega arith)))

          pub reference_keeps : SomeBind words held node → Keeps words words₂ held.bindings held.cells × KeepsCells words words₂ held.cells
          reference_keeps s =
              let few = (bind_row s).0 in
              let fewer = (referent_there s).1 in (
                keeps_then (keeps_fewer (omega (arith, few)) (omega arith) (cell_keeps fewer made)) (keeps_fewer (omega arith) (omega (arith, fewer)) (row_keeps few put)),
                keeps_cells_then (cell_keeps_cells fewer made) (keeps_fewer_cells (omega (arith, fewer)) (row_keeps_cells few put)),
              )

      pub reference_unsafe : (refused : Refused) → ExpressionCarried words held.environment (node + 2) (Err refused) → SomeBind words held node → DeclarationCarried words words held node (Err refused)
      unfolding carry_declaration carry_bound
      reference_unsafe refused expressed s next c A N K there = by there.tree there.state
        where
          by : {d : ℕ} {c : Declaration} → StoredDeclaration words d node next c → StateAt words node held A N K → DeclaredAs words next held c A N (carry_declaration A K c) (Err refused)
          by (Stored.dseq h a b) state = absurd (omega (arith, (bind_parts s).0, kind_is h (omega arith)))
          by (Stored.bind l h (Stored.plain_of a)) state = absurd (omega (arith, is_ref, known_bound, stored_expression_kind a))
          by (Stored.bind {x = x} l h (Stored.ref {d = e} {e = v} w a)) state =
              unsafe_bound words held next x (Bind node x (Ref (suc node) v)) A N refused (λ v. record { bound_as = a_value (location (length K)); cells_after = v ∷ K }) (carry_expression A K v)
              (expressed v A K (record { depth = e; next = next; tree = subst (λ i. StoredExpression words e i next v) (omega arith) a; sees = state_seen (bind_row s).3 state }))
          by (Stored.bind l h (Stored.abs k w f a)) state = absurd (omega (arith, is_ref, known_bound, kind_is w (omega arith)))

    -- ---- An expression.

    module _ (not_abs : which ≡ abs_number → ⊥) (not_ref : which ≡ ref_number → ⊥) where
      pub value_there : SomeBind words held node → SomeExpression words held.environment (node + 1)
      unfolding carry_declaration carry_bound
      value_there s = by s.6.tree s.7
        where
          by : {d : ℕ} {c : Declaration} → StoredDeclaration words d node s.0 c → Fits (carry_declaration s.3 s.5 c) → SomeExpression words held.environment (node + 1)
          by (Stored.dseq h a b) fits = absurd (omega (arith, (bind_parts s).0, kind_is h (omega arith)))
          by (Stored.bind l h (Stored.plain_of {d = e} {e = v} a)) fits =
              (v, s.3, s.5, record { depth = e; next = s.0; tree = subst (λ i. StoredExpression words e i s.0 v) (omega arith) a; sees = state_seen (bind_row s).3 s.6.state }, first_fits (carry_expression s.3 s.5 v) _ (first_fits _ _ fits))
          by (Stored.bind l h (Stored.ref w a)) fits = absurd (not_ref (known_bound ∙ kind_is w (omega arith)))
          by (Stored.bind l h (Stored.abs k w f a)) fits = absurd (not_abs (known_bound ∙ kind_is w (omega arith)))

      module _ (value : Value) (expressed : ExpressionCarried words held.environment (node + 1) (Ok value)) where
        pub value_sort : SomeBind words held node → value.sort < sorts
        value_sort s = let t = value_there s in sort_small (value_held (carry_expression t.1 t.2 t.0) value t.4 (expressed t.0 t.1 t.2 t.3)).2

        module _ (words' : List ℕ) (put : PutRow words words' held.bindings name held.environment value) where
          pub value_bound : SomeBind words held node →
              DeclarationCarried words words' held node (Ok (row_added held))
          unfolding carry_declaration carry_bound names_given bound_function bindings_left cells_left
          value_bound s next c A N K there = by there.tree there.state
            where
              few : held.bindings < most_bindings
              few = (bind_row s).0

              inner : Held
              inner = row_added held

              bound : (x : ℕ) (e : Expression) → x < names → name ≡ x → StateAt words node held A N K → node ≤ next → (m : Carrying Carried) → ExpressedAs m (Ok value) →
                  DeclaredAs words' next held (Bind node x (plain e)) A N (bound_with x (m >>= λ v. carried (record { bound_as = a_value v; cells_after = K }))) (Ok inner)
              bound x e l q state later (carried v) answer =
                  let placed = subst (λ y. PutRow words words' held.bindings y held.environment value) q put in (
                    inner,
                    refl,
                    record {
                      state = record {
                        names_are = value_named held placed few l (answer_held answer) state.pointed later state.names_are;
                        cells_are = cells_kept (row_keeps few put) (row_keeps_cells few put) (bind_row s).3 state.cells_are;
                        pointed = omega arith;
                      };
                      bindings_are = omega arith;
                      cells_are = omega arith;
                    },
                  )
              bound x e l q state later (unsafe o) answer = ok_not_err answer
              bound x e l q state later unfit answer = tt

              by : {d : ℕ} {c : Declaration} → StoredDeclaration words d node next c → StateAt words node held A N K → DeclaredAs words' next held c A N (carry_declaration A K c) (Ok inner)
              by (Stored.dseq h a b) state = absurd (omega (arith, (bind_parts s).0, kind_is h (omega arith)))
              by (Stored.bind {x = x} l h (Stored.plain_of {d = e} {e = v} a)) state =
                  bound x v l (named ∙ operand_is h (omega arith)) state (omega (arith, bound_on (Stored.plain_of a))) (carry_expression A K v)
                  (expressed v A K (record { depth = e; next = next; tree = subst (λ i. StoredExpression words e i next v) (omega arith) a; sees = state_seen (bind_row s).3 state }))
              by (Stored.bind l h (Stored.ref w a)) state = absurd (not_ref (known_bound ∙ kind_is w (omega arith)))
              by (Stored.bind l h (Stored.abs k w f a)) state = absurd (not_abs (known_bound ∙ kind_is w (omega arith)))

          pub value_keeps : SomeBind words held node → Keeps words words' held.bindings held.cells × KeepsCells words words' held.cells
          value_keeps s =
              let few = (bind_row s).0 in let fewer = (bind_row s).3 in (keeps_fewer (omega arith) fewer (row_keeps few put), keeps_fewer_cells fewer (row_keeps_cells few put))

      pub value_unsafe : (refused : Refused) → ExpressionCarried words held.environment (node + 1) (Err refused) → SomeBind words held node → DeclarationCarried words words held node (Err refused)
      unfolding carry_declaration carry_bound
      value_unsafe refused expressed s next c A N K there = by there.tree there.state
        where
          by : {d : ℕ} {c : Declaration} → StoredDeclaration words d node next c → StateAt words node held A N K → DeclaredAs words next held c A N (carry_declaration A K c) (Err refused)
          by (Stored.dseq h a b) state = absurd (omega (arith, (bind_parts s).0, kind_is h (omega arith)))
          by (Stored.bind {x = x} l h (Stored.plain_of {d = e} {e = v} a)) state =
              unsafe_bound words held next x (Bind node x (plain v)) A N refused (λ v. record { bound_as = a_value v; cells_after = K }) (carry_expression A K v)
              (expressed v A K (record { depth = e; next = next; tree = subst (λ i. StoredExpression words e i next v) (omega arith) a; sees = state_seen (bind_row s).3 state }))
          by (Stored.bind l h (Stored.ref w a)) state = absurd (not_ref (known_bound ∙ kind_is w (omega arith)))
          by (Stored.bind l h (Stored.abs k w f a)) state = absurd (not_abs (known_bound ∙ kind_is w (omega arith)))
