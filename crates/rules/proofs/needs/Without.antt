-- A tree without some commands is run without them: no state of its free runs has one, on control, on the value stack or in a closure.
use Prim.Native.Nat.{ℕ, zero, suc}
use Rattle.std.specs.Prelude.{◌≡◌, refl, Bool, ◌||◌, eqb, ℤ, length}
use Rattle.std.proofs.Math.Path.{subst}
use Rattle.std.proofs.Math.Bool.{true, false, cond}
use mathlib.Core.List.{List, [], ◌∷◌}
use Rattle.std.proofs.Math.Option.{Option, some, some-injective}
use Rattle.rules.proofs.Basics.{missing}
use Rattle.rules.specs.paper.Tree.{Expression, Formal, Command, Loop, CSeq, block, Cond, Blk, Bound, plain, Ref, Abs, Root}
use Rattle.rules.specs.paper.Tree as Tree
use Rattle.rules.specs.paper.Integers.{Result, number, failed, compute}
use Rattle.rules.specs.paper.States.{Value, integer, Bindable, value, closure, Environment, empty, bound, lookup, join, Store, Entry, bindable, name, node, environment, locations, val, Mark, bind_mark, dseq_extend_mark, dseq_join_mark, extend_mark, leave_mark, call_mark, Item, expression, command, declaration, reference, abstraction, mark, bound_item, State, state, control_of, values_of, environment_of}
use Rattle.rules.specs.paper.Rules.{Rule, Effect, goes, fails, Table, Applies, pushed, put_actuals, Matched, match_formals}
use Rattle.rules.specs.paper.Rules as Rules
use Rattle.rules.specs.paper.Fire.{after_test, chosen}
use Rattle.rules.specs.paper.Needs.{some_command, some_in_block, some_in_declaration, some_in_bound, some_in_root}
use Rattle.rules.specs.paper.Engine.{root_control, register_environment, start}
use Rattle.rules.specs.claims.FreeRun.{FreeStep, by_rule, any_integer, either_turn, either_command}

neither_left : (a b : Bool) → a || b ≡ false → a ≡ false
neither_left true b q = q
neither_left false b q = refl

neither_right : (a b : Bool) → a || b ≡ false → b ≡ false
neither_right true b q = absurd (subst IsTrue q tt)
  where
    IsTrue : Bool → Type 0
    IsTrue true = Unit {0}
    IsTrue false = ⊥
neither_right false b q = q

module _ (t : Command → Bool) where
  abbrev pub WithoutItem : Item → Type 0
  WithoutItem (expression e) = Unit {0}
  WithoutItem (command c) = some_command t c ≡ false
  WithoutItem (declaration d) = some_in_declaration t d ≡ false
  WithoutItem (reference p e) = Unit {0}
  WithoutItem (abstraction p fs b) = some_in_block t b ≡ false
  WithoutItem (mark m) = Unit {0}

  abbrev mutual
    pub WithoutBindable : Bindable → Type 0
    WithoutBindable (value v) = Unit {0}
    WithoutBindable (closure fs b F) = (some_in_block t b ≡ false) × WithoutEnvironment F

    pub WithoutEnvironment : Environment → Type 0
    WithoutEnvironment empty = Unit {0}
    WithoutEnvironment (bound x b E) = WithoutBindable b × WithoutEnvironment E

  abbrev pub WithoutEntry : Entry → Type 0
  WithoutEntry (bindable b) = WithoutBindable b
  WithoutEntry (name x) = Unit {0}
  WithoutEntry (node c) = some_command t c ≡ false
  WithoutEntry (environment E) = WithoutEnvironment E
  WithoutEntry (locations L) = Unit {0}

  pub data WithoutControl : List Item → Type 0 where
    no_item : WithoutControl []
    one_item : {i : Item} {C : List Item} → WithoutItem i → WithoutControl C → WithoutControl (i ∷ C)

  pub data WithoutValues : List Entry → Type 0 where
    no_entry : WithoutValues []
    one_entry : {e : Entry} {X : List Entry} → WithoutEntry e → WithoutValues X → WithoutValues (e ∷ X)

  pub record Without (σ : State) : Type 0 where
    pub on_control : WithoutControl (control_of σ)
    pub on_values : WithoutValues (values_of σ)
    pub in_names : WithoutEnvironment (environment_of σ)

  abbrev WithoutEffect : Effect → Type 0
  WithoutEffect (goes τ) = Without τ
  WithoutEffect (fails r) = Unit {0}

  -- ---- Environments.

  lookup_without : (x : ℕ) (E : Environment) (b : Bindable) → lookup x E ≡ some b → WithoutEnvironment E → WithoutBindable b
  unfolding lookup
  lookup_without x empty b q w = missing q
  lookup_without x (bound y c E) b q w = choose (eqb y x) q (λ p. lookup_without x E b p w.1)
    where
      choose : (t : Bool) → cond t (some c) (lookup x E) ≡ some b → (lookup x E ≡ some b → WithoutBindable b) → WithoutBindable b
      choose true p outer = subst WithoutBindable (some-injective c b p) w.0
      choose false p outer = outer p

  join_without : (D E : Environment) → WithoutEnvironment D → WithoutEnvironment E → WithoutEnvironment (join D E)
  unfolding join
  join_without empty E d e = e
  join_without (bound x b D) E d e = (d.0, join_without D E d.1 e)

  record MatchWithout (m : Matched) : Type 0 where
    names_without : WithoutEnvironment m.environment_with
    rest_without : WithoutValues m.rest

  match_without : (k : ℕ) (fs : List Formal) (X : List Entry) (F : Environment) (m : Matched) → match_formals k fs X F ≡ some m →
      WithoutValues X → WithoutEnvironment F → MatchWithout m
  unfolding match_formals
  match_without zero [] X F m q w e =
      subst MatchWithout (some-injective (record { environment_with = F; rest = X }) m q) (record { names_without = e; rest_without = w })
  match_without zero (f ∷ fs) X F m q w e = missing q
  match_without (suc k) [] X F m q w e = missing q
  match_without (suc k) (f ∷ fs) [] F m q w e = missing q
  match_without (suc k) (f ∷ fs) (bindable (value v) ∷ X) F m q (one_entry u w) e = match_without k fs X (bound f.name (value v) F) m q w (tt, e)
  match_without (suc k) (f ∷ fs) (bindable (closure gs b E) ∷ X) F m q w e = missing q
  match_without (suc k) (f ∷ fs) (name x ∷ X) F m q w e = missing q
  match_without (suc k) (f ∷ fs) (node c ∷ X) F m q w e = missing q
  match_without (suc k) (f ∷ fs) (environment E ∷ X) F m q w e = missing q
  match_without (suc k) (f ∷ fs) (locations L ∷ X) F m q w e = missing q

  -- ---- Control.

  actuals_without : (es : List Expression) {C : List Item} → WithoutControl C → WithoutControl (put_actuals es C)
  unfolding put_actuals
  actuals_without [] w = w
  actuals_without (e ∷ es) w = actuals_without es (one_item {i = expression e} tt w)

  bound_without : (b : Bound) → some_in_bound t b ≡ false → WithoutItem (bound_item b)
  unfolding some_in_bound
  bound_without (plain e) q = tt
  bound_without (Ref p e) q = tt
  bound_without (Abs p fs b) q = q

  turn_without : (u : Bool) (p : ℕ) (e : Expression) (c : Command) {C : List Item} → some_command t (Loop p e c) ≡ false → WithoutControl C →
      WithoutControl (after_test u (record { place = p; test = e; body = c }) C)
  unfolding some_command
  turn_without true p e c q w = one_item {i = command c} (neither_right (t (Loop p e c)) (some_command t c) q) (one_item {i = command (Loop p e c)} q w)
  turn_without false p e c q w = w

  choice_without : (u : Bool) (p : ℕ) (e : Expression) (c₁ c₂ : Command) → some_command t (Cond p e c₁ c₂) ≡ false → some_command t (chosen u c₁ c₂) ≡ false
  unfolding some_command
  choice_without true p e c₁ c₂ q =
      neither_right (t (Cond p e c₁ c₂)) (some_command t c₁) (neither_left (t (Cond p e c₁ c₂) || some_command t c₁) (some_command t c₂) q)
  choice_without false p e c₁ c₂ q = neither_right (t (Cond p e c₁ c₂) || some_command t c₁) (some_command t c₂) q

  -- ---- A step.

  module _ (C : List Item) (E : Environment) (S : Store) (L : List ℕ) (n : ℕ) (c : WithoutControl C) (names : WithoutEnvironment E) where
    same_names : {C' : List Item} {X : List Entry} {S' : Store} {L' : List ℕ} {n' : ℕ} → WithoutControl C' → WithoutValues X → Without (state C' X E S' L' n')
    same_names k v = record { on_control = k; on_values = v; in_names = names }

    pushed_value : {v : Value} {X : List Entry} → WithoutValues X → WithoutValues (val v ∷ X)
    pushed_value {v} w = one_entry {e = val v} tt w

    test_first : {e : Expression} {m : Mark} → WithoutControl (expression e ∷ mark m ∷ C)
    test_first {e} {m} = one_item {i = expression e} tt (one_item {i = mark m} tt c)

    line_without : (r : Rule) (i : Item) (X : List Entry) (e : Effect) → Table C E S L n r i X e → WithoutItem i → WithoutValues X → WithoutEffect e
    unfolding some_command some_in_block some_in_declaration
    line_without r i X e Rules.num h w = same_names c (pushed_value w)
    line_without r i X e Rules.boo h w = same_names c (pushed_value w)
    line_without r i X e (Rules.id_plain p q) h w = same_names c (pushed_value w)
    line_without r i X e (Rules.id_cell p q) h w = same_names c (pushed_value w)
    line_without r i X e (Rules.deref p) h w = same_names c (pushed_value w)
    line_without r i X e (Rules.valref p q s) h w = same_names c (pushed_value w)
    line_without r i X e (Rules.binary {e₁ = e₁}) h w = same_names (one_item {i = expression e₁} tt test_first) w
    line_without r i X e Rules.negation h w = same_names test_first w
    line_without r i X e (Rules.arithmetic_at {o = o} {a = y} {b = z} {X = Y}) h (one_entry u (one_entry v w)) = computed (compute o y z)
      where
        computed : (x : Result) → WithoutEffect (pushed x C Y E S L n)
        computed (number k) = same_names c (pushed_value w)
        computed (failed x) = tt
    line_without r i X e (Rules.equal_at q) h (one_entry u (one_entry v w)) = same_names c (pushed_value w)
    line_without r i X e Rules.order_at h (one_entry u (one_entry v w)) = same_names c (pushed_value w)
    line_without r i X e Rules.logic_at h (one_entry u (one_entry v w)) = same_names c (pushed_value w)
    line_without r i X e Rules.not_at h (one_entry u w) = same_names c (pushed_value w)
    line_without r i X e (Rules.assign {x = x}) h w = same_names test_first (one_entry {e = name x} tt w)
    line_without r i X e (Rules.assign_at p q) h (one_entry u (one_entry v w)) = same_names c w
    line_without r i X e (Rules.loop {p = p} {e = x} {c = d}) h w = same_names test_first (one_entry {e = node (Loop p x d)} h w)
    line_without r i X e (Rules.loop_true {p = p} {e = x} {c = d}) h (one_entry u (one_entry v w)) = same_names (turn_without true p x d v c) w
    line_without r i X e (Rules.loop_false {p = p} {e = x} {c = d}) h (one_entry u (one_entry v w)) = same_names c w
    line_without r i X e (Rules.conditional {p = p} {e = x} {c₁ = c₁} {c₂ = c₂}) h w = same_names test_first (one_entry {e = node (Cond p x c₁ c₂)} h w)
    line_without r i X e (Rules.conditional_true {p = p} {e = x} {c₁ = c₁} {c₂ = c₂}) h (one_entry u (one_entry v w)) =
        same_names (one_item {i = command c₁} (choice_without true p x c₁ c₂ v) c) w
    line_without r i X e (Rules.conditional_false {p = p} {e = x} {c₁ = c₁} {c₂ = c₂}) h (one_entry u (one_entry v w)) =
        same_names (one_item {i = command c₂} (choice_without false p x c₁ c₂ v) c) w
    line_without r i X e (Rules.cseq {p = p} {c₁ = c₁} {c₂ = c₂}) h w =
        same_names
        (one_item {i = command c₁} (neither_right (t (CSeq p c₁ c₂)) (some_command t c₁) (neither_left (t (CSeq p c₁ c₂) || some_command t c₁) (some_command t c₂) h))
        (one_item {i = command c₂} (neither_right (t (CSeq p c₁ c₂) || some_command t c₁) (some_command t c₂) h) c))
        w
    line_without r i X e Rules.ref h w = same_names test_first w
    line_without r i X e Rules.ref_at h (one_entry u w) = same_names c (pushed_value w)
    line_without r i X e (Rules.bind {x = x} {b = b}) h w =
        same_names (one_item {i = bound_item b} (bound_without b h) (one_item {i = mark bind_mark} tt c)) (one_entry {e = name x} tt w)
    line_without r i X e (Rules.bind_at {x = x} {b = b}) h (one_entry u (one_entry v w)) = same_names c (one_entry {e = environment (bound x b empty)} (u, tt) w)
    line_without r i X e (Rules.abs {fs = fs} {b = b}) h w = same_names c (one_entry {e = bindable (closure fs b E)} (h, names) w)
    line_without r i X e (Rules.dseq {d₁ = d₁} {d₂ = d₂}) h w =
        same_names
        (one_item {i = declaration d₁} (neither_left (some_in_declaration t d₁) (some_in_declaration t d₂) h)
        (one_item {i = mark dseq_extend_mark} tt
        (one_item {i = declaration d₂} (neither_right (some_in_declaration t d₁) (some_in_declaration t d₂) h) (one_item {i = mark dseq_join_mark} tt c))))
        w
    line_without r i X e (Rules.dseq_extend_at {D₁ = D}) h (one_entry u w) =
        record { on_control = c; on_values = one_entry {e = environment D} u (one_entry {e = environment E} names w); in_names = join_without D E u names }
    line_without r i X e (Rules.dseq_join_at {D₁ = D₁} {D₂ = D₂}) h (one_entry u (one_entry v (one_entry f w))) =
        record { on_control = c; on_values = one_entry {e = environment (join D₂ D₁)} (join_without D₂ D₁ u v) w; in_names = f }
    line_without r i X e (Rules.blk {p = p} {d = d} {c = x}) h w =
        same_names
        (one_item {i = declaration d} (neither_right (t (block (Blk p d x))) (some_in_declaration t d) (neither_left (t (block (Blk p d x)) || some_in_declaration t d) (some_command t x) h))
        (one_item {i = mark extend_mark} tt
        (one_item {i = command x} (neither_right (t (block (Blk p d x)) || some_in_declaration t d) (some_command t x) h) (one_item {i = mark (leave_mark p n)} tt c))))
        (one_entry {e = locations L} tt w)
    line_without r i X e (Rules.extend_at {D = D}) h (one_entry u w) =
        record { on_control = c; on_values = one_entry {e = environment E} names w; in_names = join_without D E u names }
    line_without r i X e Rules.leave_at h (one_entry u (one_entry v w)) = record { on_control = c; on_values = w; in_names = u }
    line_without r i X e (Rules.call {p = p} {x = x} {es = es}) h w =
        same_names (actuals_without es (one_item {i = mark (call_mark p x (length es))} tt c)) w
    line_without r i X e (Rules.call_at {p = p} {x = x} {k = k} {fs = fs} {b = b} {F = F} {m = m} {X = Y} q s) h w =
        let closed = lookup_without x E (closure fs b F) q names in
        let o = match_without k fs Y F m s w closed.1 in
        record {
          on_control = one_item {i = command (block b)} closed.0 (one_item {i = mark (leave_mark p n)} tt c);
          on_values = one_entry {e = environment E} names (one_entry {e = locations L} tt o.rest_without);
          in_names = o.names_without;
        }

  pub step_without : {σ τ : State} → Without σ → FreeStep σ τ → Without τ
  step_without w (by_rule {σ = σ} {τ = τ} x line) = at σ w line
    where
      by_parts : (i : Item) (C : List Item) (X : List Entry) (E : Environment) (S : Store) (L : List ℕ) (n : ℕ) → Table C E S L n x i X (goes τ) → WithoutControl (i ∷ C) → WithoutValues X →
          WithoutEnvironment E → Without τ
      by_parts i C X E S L n l (one_item h c) v names = line_without C E S L n c names x i X (goes τ) l h v

      at : (σ : State) → Without σ → Applies x σ (goes τ) → Without τ
      at (state [] X E S L n) w l = absurd l
      at (state (i ∷ C) X E S L n) w l = by_parts i C X E S L n l w.on_control w.on_values w.in_names
  step_without w (any_integer {C = C} {X = X} {E = E} {S = S} {L = L} {n = n} q v r) = go w.on_control w.on_values
    where
      go : {i : Item} {e f : Entry} → WithoutControl (i ∷ C) → WithoutValues (e ∷ f ∷ X) → Without (state C (val (integer v) ∷ X) E S L n)
      go (one_item h c) (one_entry u (one_entry x y)) = record { on_control = c; on_values = one_entry {e = val (integer v)} tt y; in_names = w.in_names }
  step_without w (either_turn {p = p} {e = e} {c = d} {C = C} {X = X} {E = E} {S = S} {L = L} {n = n} u) = go w.on_control w.on_values
    where
      go : {i : Item} {f : Entry} → WithoutControl (i ∷ C) → WithoutValues (f ∷ node (Loop p e d) ∷ X) → Without (state (after_test u (record { place = p; test = e; body = d }) C) X E S L n)
      go (one_item h c) (one_entry x (one_entry q v)) = record { on_control = turn_without u p e d q c; on_values = v; in_names = w.in_names }
  step_without w (either_command {p = p} {e = e} {c₁ = c₁} {c₂ = c₂} {C = C} {X = X} {E = E} {S = S} {L = L} {n = n} u) = go w.on_control w.on_values
    where
      go : {i : Item} {f : Entry} → WithoutControl (i ∷ C) → WithoutValues (f ∷ node (Cond p e c₁ c₂) ∷ X) → Without (state (command (chosen u c₁ c₂) ∷ C) X E S L n)
      go (one_item h c) (one_entry x (one_entry q v)) =
          record { on_control = one_item {i = command (chosen u c₁ c₂)} (choice_without u p e c₁ c₂ q) c; on_values = v; in_names = w.in_names }

  -- ---- The start.

  registers_without : (r : ℕ) → WithoutEnvironment (register_environment r)
  unfolding register_environment
  registers_without zero = tt
  registers_without (suc r) = (tt, registers_without r)

  root_without : (u : Root) → some_in_root t u ≡ false → WithoutControl (root_control u)
  unfolding some_in_root
  root_without (Tree.expression e) q = one_item {i = expression e} tt no_item
  root_without (Tree.command c) q = one_item {i = command c} q no_item
  root_without Tree.absent q = no_item

  pub start_without : (r : ℕ) (u : Root) (zs : List ℤ) → some_in_root t u ≡ false → Without (start r u zs)
  unfolding start
  start_without r u zs q = record { on_control = root_without u q; on_values = no_entry; in_names = registers_without r }
