-- Part of the whole-run proof: the steps at the marks that enter and leave blocks and calls.
use Rattle.std.specs.Prelude.{ℕ, zero, suc, ◌+◌, ◌≡◌, refl, Bool, true, false, cond, not, ◌&&◌, List, [], ◌∷◌, ◌++◌, T, eqb, length}
use Rattle.std.proofs.Common.{sym, ap, ◌∙◌, subst}
use Rattle.std.proofs.Math.Bool.{and-false}
use Rattle.std.proofs.Math.Option.{Option, none, some, some-injective}
use Rattle.std.proofs.Math.Dec.{eqb_refl}
use Rattle.rules.proofs.Basics.{missing, true_test}
use Rattle.rules.specs.paper.Tree.{Formal, Block, block}
use Rattle.rules.specs.paper.Checker.{Meaning, code, function, Scope, meaning_of, with_formals, Passed}
use Rattle.rules.specs.claims.Typing.{BlockOk}
use Rattle.rules.specs.claims.Typing as Typing
use Rattle.rules.specs.paper.States.{Value, Bindable, value, closure, Environment, bound, lookup, join, Store, remove, Entry, environment, locations, Item, command, mark, extend_mark, leave_mark, call_mark, State, state, environment_of, values_of, locations_of, store_of, live_cells}
use Rattle.rules.specs.paper.Rules.{goes, Matched, match_formals}
use Rattle.rules.specs.paper.Rules as Rules
use Rattle.rules.specs.claims.History.{Made, Earlier, History, node_on_top, is_place, waits_for, latest, compare_latest, note, remake}
use Rattle.rules.proofs.running.World.{World, SmallBlock, EnvironmentTyped, one_name, BindableTyped, value_typed, closure_typed, BoundAs, lookup_typed, join_typed}
use Rattle.rules.proofs.running.Stores.{StoreTyped, store_cells, Grown, same, remove_grown, grown_keeps, world_cells, world_made, remade}
use Rattle.rules.proofs.running.Continuation.{StackShape, value_of, declared, calling, opened, frame, actuals, ControlTyped, command_typed, leave_mark_typed, Entered, ValuesTyped, value_on, declared_on, calling_on, opened_on, frame_on, is_some, open_states}
use Rattle.rules.proofs.running.Progress.{Progress, Advance, same_store, quiet_invariant, kept}

-- ---- The latest waiting state of the history is the newest open one.

-- a list's head and tail
head_of : {A : Type 0} → A → List A → A
head_of d [] = d
head_of d (x ∷ xs) = x

tail_of : {A : Type 0} → List A → List A
tail_of [] = []
tail_of (x ∷ xs) = xs

cons_head : {A : Type 0} {x y : A} {xs ys : List A} → x ∷ xs ≡ y ∷ ys → x ≡ y
unfolding head_of
cons_head {x = x} q = ap (head_of x) q

cons_tail : {A : Type 0} {x y : A} {xs ys : List A} → x ∷ xs ≡ y ∷ ys → xs ≡ ys
unfolding tail_of
cons_tail q = ap tail_of q

record Newest (p : ℕ) (es : List Earlier) (e : State) (P : List State) : Type 0 where
  is_latest : latest p es ≡ some e
  then_open : open_states (compare_latest p es) ≡ P

newest_open : (p : ℕ) (es : List Earlier) (e : State) (P : List State) → open_states es ≡ e ∷ P → node_on_top e ≡ some p → Newest p es e P
unfolding open_states latest compare_latest
newest_open p [] e P q t = absurd (empty_cons q)
  where
    IsEmpty : List State → Type 0
    IsEmpty [] = Unit {0}
    IsEmpty (x ∷ xs) = ⊥

    empty_cons : [] ≡ e ∷ P → ⊥
    empty_cons r = subst IsEmpty r tt
newest_open p (x ∷ es) e P q t = choose (node_on_top x.was) x.compared refl refl q (λ r. newest_open p es e P r t)
  where
    here_is : (k : ℕ) → x.was ≡ e → node_on_top x.was ≡ some k → eqb k p ≡ true
    here_is k w u = ap (is_place p) (sym u ∙ ap node_on_top w ∙ t) ∙ true_test (eqb p p) (eqb_refl p)

    choose : (o : Option ℕ) (b : Bool) → node_on_top x.was ≡ o → x.compared ≡ b →
        cond (is_some o && not b) (x.was ∷ open_states es) (open_states es) ≡ e ∷ P →
        (open_states es ≡ e ∷ P → Newest p es e P) → Newest p (x ∷ es) e P
    choose none b u v r older =
        let o = older r in
        record { is_latest = rw u o.is_latest; then_open = rw (u, u) o.then_open }
    choose (some k) true u v r older =
        let o = older r in
        record { is_latest = rw (u, v, and-false (eqb k p)) o.is_latest; then_open = rw (u, v, and-false (eqb k p), u) o.then_open }
    choose (some k) false u v r older =
        let w : x.was ≡ e = cons_head r in
        record {
          is_latest = rw (u, v, here_is k w u) (ap {B = Option State} some w);
          then_open = rw (u, v, here_is k w u, u) (cons_tail r);
        }

-- ---- A call's actuals are bound to its Formals.

record MatchTyped (r : ℕ) (fs : List Formal) (X : List Entry) (F : Environment) (E : Environment) (W : World) (L : List ℕ) (Γ : Scope) (Θ : StackShape) (P : List State) : Type 0 where
  matched : Matched
  matches : match_formals (length fs) fs X F ≡ some matched
  names_typed : EnvironmentTyped W matched.environment_with (with_formals fs Γ)
  rest_typed : ValuesTyped r E W L matched.rest Θ P

match_typed : {r : ℕ} (fs : List Formal) {X : List Entry} {E : Environment} {W : World} {L : List ℕ} {Γ : Scope} {Θ : StackShape} {P : List State} (F : Environment) →
    EnvironmentTyped W F Γ → ValuesTyped r E W L X (actuals fs Θ) P → MatchTyped r fs X F E W L Γ Θ P
unfolding match_formals with_formals
match_typed [] {X} F e v = record { matched = record { environment_with = F; rest = X }; matches = refl; names_typed = e; rest_typed = v }
match_typed (f ∷ fs) F e (value_on (value_typed {v = v} t) values) =
    let o = match_typed fs (bound f.name (value v) F) (one_name {n = record { name = f.name; meaning = code f.code }} refl (value_typed t) e) values in
    record { matched = o.matched; matches = o.matches; names_typed = o.names_typed; rest_typed = o.rest_typed }

-- A Call whose actuals have run: the state in which it came to the top is the newest open one.
record CallOpen (r : ℕ) (E : Environment) (W : World) (L : List ℕ) (X : List Entry) (p : ℕ) (Θ : StackShape) (P : List State) : Type 0 where
  entered_in : State
  others : List State
  opened_by : P ≡ entered_in ∷ others
  entered : Entered p entered_in E L X W
  below : ValuesTyped r E W L X Θ others

calling_open : {r : ℕ} {E : Environment} {W : World} {L : List ℕ} {X : List Entry} {p : ℕ} {Θ : StackShape} {P : List State} → ValuesTyped r E W L X (calling p Θ) P → CallOpen r E W L X p Θ P
calling_open (calling_on {P = P} {e = e} entered values) = record { entered_in = e; others = P; opened_by = refl; entered = entered; below = values }

-- A leaving takes its node's state out of the open ones.
left_past : (C : List Item) (X : List Entry) (E : Environment) (S : Store) (L : List ℕ) (n p m : ℕ) (h : History) (τ : State) {Q : List State} →
    open_states (compare_latest p h.past) ≡ Q → open_states (note (state (mark (leave_mark p m) ∷ C) X E S L n) h τ).past ≡ Q
unfolding open_states
left_past C X E S L n p m h τ q = q

module _ (a : Passed) (r : ℕ) (C : List Item) (E : Environment) (S : Store) (n : ℕ) (h : History) (Γ : Scope) (W : World)
    (names : EnvironmentTyped W E Γ) (cells : StoreTyped S W) (types : h.made_types ≡ world_made W) where
  -- The first mark: E goes on the value stack in the place of the declaration's environment, whose names are added to it.
  pub extend_mark_step : (p : ℕ) (Δ : Scope) (L : List ℕ) (X : List Entry) (Θ : StackShape) (P : List State) → open_states h.past ≡ P →
      ControlTyped a C (Δ ++ Γ) (frame p Γ Θ) → ValuesTyped r E W L X (declared Δ (opened p Γ Θ)) P →
      Progress a r (state (mark extend_mark ∷ C) X E S L n) h
  extend_mark_step p Δ L X Θ P pending k (declared_on d (opened_on e g entered values)) =
      same_store Rules.mark_extend refl refl Rules.extend_at (join_typed d names) cells types pending k (frame_on e g entered values) (λ M m. tt)

  -- The second mark restores what its block or call found.
  pub leave_mark_step : (p m : ℕ) (Γ₀ : Scope) (L : List ℕ) (X : List Entry) (Θ : StackShape) (P : List State) → open_states h.past ≡ P →
      ControlTyped a C Γ₀ Θ → ValuesTyped r E W L X (frame p Γ₀ Θ) P →
      Progress a r (state (mark (leave_mark p m) ∷ C) X E S L n) h
  leave_mark_step p m Γ₀ L X Θ P pending k (frame_on {F = F} {U = U} {K = K} {X = Y} {P = Q} {e = e} names₀ g entered values) =
      let newest = newest_open p h.past e Q pending entered.top in
      let cells' = remove_grown cells g in
      record {
        rule = Rules.mark_leave;
        effect = _;
        applies = Rules.leave_at;
        cells_before = tt;
        next = record {
          invariant = record {
            scope = Γ₀;
            shape = Θ;
            world = U;
            control = k;
            names = names₀;
            cells = cells';
            values = subst (ValuesTyped r F U K Y Θ) (sym (left_past C X E S L n p m h (state C Y F (remove L S) K m) newest.then_open)) values;
            types = ap (λ M. remake M (remove L S)) types ∙ remade W cells' (λ l c q. grown_keeps l c g q);
          };
          cells_after = tt;
          restored = record {
            entered = e;
            is_latest = newest.is_latest;
            same_environment = sym entered.environment_then;
            same_locations = sym entered.locations_then;
            same_values = sym entered.values_then;
            same_cells = store_cells cells' ∙ sym entered.cells_then;
          };
        };
      }

  -- The call's mark: L and E go on the value stack, and the function's Blk runs in the closure's environment plus Formals.
  enter_step : (p x k : ℕ) (fs : List Formal) (b : Block) (F : Environment) (Γ₁ : Scope) (L : List ℕ) (X : List Entry) (Θ : StackShape) (P : List State) → open_states h.past ≡ P →
      lookup x E ≡ some (closure fs b F) → EnvironmentTyped W F Γ₁ → BlockOk (with_formals fs Γ₁) b → SmallBlock b → length fs ≡ k →
      ControlTyped a C Γ Θ → (m : MatchTyped r fs X F E W L Γ₁ (calling p Θ) P) →
      Progress a r (state (mark (call_mark p x k) ∷ C) X E S L n) h
  enter_step p x k fs b F Γ₁ L X Θ P pending found closed ok small counted control m =
      let called = calling_open m.rest_typed in
      record {
        rule = Rules.mark_Call;
        effect = _;
        applies = Rules.call_at found (subst (λ j. match_formals j fs X F ≡ some m.matched) counted m.matches);
        cells_before = tt;
        next = record {
          invariant =
              quiet_invariant a r (mark (call_mark p x k)) C X E S L n h refl refl _ _ _ _ _ _
              (pending ∙ called.opened_by)
              (command_typed (Typing.block_of ok) small (leave_mark_typed control)) m.names_typed cells
              (frame_on names same called.entered called.below) (kept h.made_types S W types cells);
          cells_after = tt;
          restored = tt;
        };
      }

  closure_step : (p x k : ℕ) (fs : List Formal) (b : Bindable) (L : List ℕ) (X : List Entry) (Θ : StackShape) (P : List State) → open_states h.past ≡ P →
      lookup x E ≡ some b → BindableTyped W b (function fs) → length fs ≡ k → ControlTyped a C Γ Θ → ValuesTyped r E W L X (actuals fs (calling p Θ)) P →
      Progress a r (state (mark (call_mark p x k) ∷ C) X E S L n) h
  closure_step p x k fs b L X Θ P pending found (closure_typed {b = body} {F = F} Γ₁ closed ok small) counted control values =
      enter_step p x k fs body F Γ₁ L X Θ P pending found closed ok small counted control (match_typed fs F closed values)

  pub call_step : (p x k : ℕ) (fs : List Formal) (L : List ℕ) (X : List Entry) (Θ : StackShape) (P : List State) → open_states h.past ≡ P →
      meaning_of x Γ ≡ some (function fs) → length fs ≡ k → ControlTyped a C Γ Θ → ValuesTyped r E W L X (actuals fs (calling p Θ)) P →
      Progress a r (state (mark (call_mark p x k) ∷ C) X E S L n) h
  call_step p x k fs L X Θ P pending q counted control values =
      let b = lookup_typed x (function fs) names q in
      closure_step p x k fs b.what L X Θ P pending b.found b.typed counted control values
