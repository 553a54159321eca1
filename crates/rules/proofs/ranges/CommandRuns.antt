-- A command whose carrying leaves cells runs to a store within them; a declaration's names and cells lie within those carried, and the location set
-- has the cells that it made.
use Rattle.std.specs.Prelude.{ℕ, suc, ◌+◌, ◌-◌, ◌≤◌, ◌≡◌, Bool, true, false, cond, List, [], ◌∷◌, ◌++◌, T, length}
use Rattle.std.proofs.Math.Path.{refl}
use Rattle.std.proofs.Common.{sym, ◌∙◌, subst, arith, length-drop}
use Rattle.std.proofs.Math.Option.{Option, none, some}
use Rattle.rules.specs.paper.Tree.{Expression, Formal, Command, Assign, Loop, CSeq, block, Call, Cond, Block, Blk, Declaration, Bind, DSeq, Bound, plain, Ref, Abs}
use Rattle.rules.specs.paper.States.{Value, truth, location, Bindable, value, closure, Environment, empty, bound, lookup, join, Store, store_at, remove, Entry, bindable, name, node, environment, locations, val, assign_mark, conditional_mark, ref_mark, bind_mark, dseq_extend_mark, dseq_join_mark, extend_mark, leave_mark, call_mark, Item, expression, command, declaration, mark, bound_item, state}
use Rattle.rules.specs.paper.Rules.{rule_Assign, rule_CSeq, rule_Blk, rule_Call, rule_Cond, rule_Bind, rule_DSeq, rule_Ref, rule_Abs, mark_Assign, mark_Cond, mark_Ref, mark_Bind, mark_DSeq_extend, mark_DSeq_join, mark_extend, mark_leave, mark_Call, match_formals}
use Rattle.rules.specs.paper.Rules as Rules
use Rattle.rules.specs.paper.Fire.{chosen}
use Rattle.rules.specs.paper.Carried.{Carried, numbers, truths, Carrying, carried, unsafe, unfit, ◌>>=◌, fitting}
use Rattle.rules.specs.paper.Carried as Carried
use Rattle.rules.specs.paper.Carrying.{CarriedCells, carried_at, carry_to, oldest_cells, wider_cells, CarriedMeaning, a_value, a_function, CarriedNames, carried_meaning, carry_formals, value_of, location_in, carry_expression, carry_actuals, same_sort, set_cell, carry_assign, carry_choosing, carry_call, CarriedDeclared, CarriedBound, carry_command, carry_block, carry_declaration, carry_bound}
use Rattle.rules.proofs.running.Stores.{remove_none}
use Rattle.rules.proofs.ranges.Operators.{ValueWithin, truth_within, location_within, If, after, if_fitting}
use Rattle.rules.proofs.ranges.Within.{Leads, there, one_step, leads_on, StoreWithin, one_cell, within_length, find_within, store_within, set_length, MadeSince, none_made, one_made, made_on, made_later, remove_within, wider_length, wider_store_first, wider_store_second}
use Rattle.rules.proofs.ranges.NamesWithin.{CommandRuns, RunsAnywhere, on_stack, FunctionRuns, FunctionWithin, BindableWithin, value_within, function_within, NamesWithin, no_names, one_name, lookup_within, named_value, join_within, formals_within}
use Rattle.rules.proofs.ranges.ExpressionRuns.{Runs, expression_runs, bound_to, ActualsRunAnywhere, actuals_run}

-- ---- What holds of what is carried, over whatever lies under it.

pub mapped : {A : Type 0} (P Q : A → Type 0) (m : Carrying A) → If P m → ((a : A) → P a → Q a) → If Q m
mapped P Q (carried a) h k = k a h
mapped P Q (unsafe p) h k = tt
mapped P Q unfit h k = tt

anywhere : {A : Type 0} (R : List Item → List Entry → List ℕ → ℕ → A → Type 0) (m : Carrying A) →
    ((C : List Item) (X : List Entry) (L : List ℕ) (n : ℕ) → If (R C X L n) m) → If (λ a. (C : List Item) (X : List Entry) (L : List ℕ) (n : ℕ) → R C X L n a) m
anywhere R (carried a) h = h
anywhere R (unsafe p) h = tt
anywhere R unfit h = tt

pub oldest_length : (k : ℕ) (M : CarriedCells) → k ≤ length M → length (oldest_cells k M) ≡ k
unfolding oldest_cells
oldest_length k M few = length-drop (length M - k) M ∙ left_over few
  where
    left_over : k ≤ length M → length M - (length M - k) ≡ k
    left_over h = omega (arith, h)

-- ---- Declarations.

pub record DeclarationRuns (d : Declaration) (C : List Item) (X : List Entry) (E : Environment) (S : Store) (L : List ℕ) (n : ℕ) (K : CarriedCells) (D : CarriedDeclared) : Type 0 where
  pub declared : Environment
  pub left : Store
  pub made : List ℕ
  pub count : ℕ
  pub leads : Leads (state (declaration d ∷ C) X E S L n) (state C (environment declared ∷ X) E left made count)
  pub names : NamesWithin declared D.names_declared
  pub cells : StoreWithin left D.cells_after
  pub grown : MadeSince (length K) L (length D.cells_after) made

abbrev pub DeclaresAnywhere : Declaration → Environment → Store → CarriedCells → CarriedDeclared → Type 0
DeclaresAnywhere d E S K D = (C : List Item) (X : List Entry) (L : List ℕ) (n : ℕ) → DeclarationRuns d C X E S L n K D

pub record BoundRuns (b : Bound) (C : List Item) (X : List Entry) (E : Environment) (S : Store) (L : List ℕ) (n : ℕ) (K : CarriedCells) (B : CarriedBound) : Type 0 where
  pub given : Bindable
  pub left : Store
  pub made : List ℕ
  pub leads : Leads (state (bound_item b ∷ C) X E S L n) (state C (bindable given ∷ X) E left made n)
  pub within : BindableWithin given B.bound_as
  pub cells : StoreWithin left B.cells_after
  pub grown : MadeSince (length K) L (length B.cells_after) made

abbrev pub BindsAnywhere : Bound → Environment → Store → CarriedCells → CarriedBound → Type 0
BindsAnywhere b E S K B = (C : List Item) (X : List Entry) (L : List ℕ) (n : ℕ) → BoundRuns b C X E S L n K B

-- ---- Each node, from what holds of its parts.

module _ (E : Environment) (S : Store) (N : CarriedNames) (K : CarriedCells) (names : NamesWithin E N) (cells : StoreWithin S K) where
  abbrev Given : Expression → Carried → Type 0
  Given e v = Runs E S N K names cells e v

  abbrev Done : Command → CarriedCells → Type 0
  Done c M = RunsAnywhere c E S K M

  -- Assign stores to the cell that its name is bound to.
  assigned : (p x : ℕ) (e : Expression) (v : Carried) → Given e v → (o : Option Carried) → value_of (carried_meaning x N) ≡ o →
      If (Done (Assign p x e)) (carry_assign (location_in o) v K)
  unfolding carry_assign
  assigned p x e v run none q = tt
  assigned p x e v run (some (numbers a b)) q = tt
  assigned p x e v run (some (truths f t)) q = tt
  assigned p x e v run (some (Carried.location l)) q = by (carried_at l K) refl
    where
      stored : (w : Carried) → carried_at l K ≡ some w → Done (Assign p x e) (carry_to l v K)
      stored w r C X L n =
          let given = run (mark assign_mark ∷ C) (name x ∷ X) L n in
          let cell = find_within l w cells r in
          record {
            left = store_at l given.given S;
            leads =
                one_step rule_Assign Rules.assign (leads_on given.leads
                (one_step mark_Assign (Rules.assign_at (bound_to E S N K names cells x l (named_value x (Carried.location l) names q)) cell.found) there));
            within = store_within l given.given v cells given.within;
            as_many = set_length l v K;
          }

      by_sort : (t : Bool) → Done (Assign p x e) (carry_to l v K) → If (Done (Assign p x e)) (cond t (carried (carry_to l v K)) unfit)
      by_sort true done = done
      by_sort false done = tt

      by : (o : Option Carried) → carried_at l K ≡ o → If (Done (Assign p x e)) (set_cell (some l) o v K)
      by none r = tt
      by (some w) r = by_sort (same_sort w v) (stored w r)

  -- At a Cond's mark the truth picks the command.
  abbrev Tested : (p : ℕ) (e : Expression) (c₁ c₂ : Command) → Value → List Item → List Entry → List ℕ → ℕ → Type 0
  Tested p e c₁ c₂ x C X L n =
      Leads (state (expression e ∷ mark conditional_mark ∷ C) (node (Cond p e c₁ c₂) ∷ X) E S L n)
      (state (mark conditional_mark ∷ C) (val x ∷ node (Cond p e c₁ c₂) ∷ X) E S L n)

  conditional_done : (p : ℕ) (e : Expression) (c₁ c₂ : Command) (w : Bool) (M : CarriedCells) (C : List Item) (X : List Entry) (L : List ℕ) (n : ℕ) →
      Tested p e c₁ c₂ (truth w) C X L n →
      CommandRuns (chosen w c₁ c₂) C X E S L n K M → CommandRuns (Cond p e c₁ c₂) C X E S L n K M
  conditional_done p e c₁ c₂ true M C X L n tested run =
      record {
        left = run.left;
        leads = one_step rule_Cond Rules.conditional (leads_on tested (one_step mark_Cond Rules.conditional_true run.leads));
        within = run.within;
        as_many = run.as_many;
      }
  conditional_done p e c₁ c₂ false M C X L n tested run =
      record {
        left = run.left;
        leads = one_step rule_Cond Rules.conditional (leads_on tested (one_step mark_Cond Rules.conditional_false run.leads));
        within = run.within;
        as_many = run.as_many;
      }

  module _ (p : ℕ) (e : Expression) (c₁ c₂ : Command) where
    -- By the truth that the test has given.
    by_truth : (f t : Bool) (M : CarriedCells) → Given e (truths f t) → ((w : Bool) → T (Carried.possible w f t) → Done (chosen w c₁ c₂) M) → Done (Cond p e c₁ c₂) M
    by_truth f t M run pick C X L n =
        let test = run (mark conditional_mark ∷ C) (node (Cond p e c₁ c₂) ∷ X) L n in
        by test.given test.leads test.within
      where
        by : (x : Value) → Tested p e c₁ c₂ x C X L n → ValueWithin x (truths f t) → CommandRuns (Cond p e c₁ c₂) C X E S L n K M
        by x tested (truth_within {w = w} h) = conditional_done p e c₁ c₂ w M C X L n tested (pick w h C X L n)

    only_first : (w : Bool) (M : CarriedCells) → Done c₁ M → T (Carried.possible w false true) → Done (chosen w c₁ c₂) M
    only_first true M run h = run
    only_first false M run h = absurd h

    only_second : (w : Bool) (M : CarriedCells) → Done c₂ M → T (Carried.possible w true false) → Done (chosen w c₁ c₂) M
    only_second true M run h = absurd h
    only_second false M run h = run

    either : (w : Bool) (M₁ M₂ M : CarriedCells) → wider_cells M₁ M₂ ≡ some M → Done c₁ M₁ → Done c₂ M₂ → Done (chosen w c₁ c₂) M
    either true M₁ M₂ M q run₁ run₂ C X L n =
        let r = run₁ C X L n in
        record { left = r.left; leads = r.leads; within = wider_store_first M₂ M q r.within; as_many = wider_length M₁ M₂ M q ∙ r.as_many }
    either false M₁ M₂ M q run₁ run₂ C X L n =
        let r = run₁ C X L n in
        let s = run₂ C X L n in
        let as_many = wider_length M₁ M₂ M q ∙ r.as_many in
        record { left = s.left; leads = s.leads; within = wider_store_second M₁ M (r.as_many ∙ sym s.as_many) q s.within; as_many = as_many }

    choosing : (v : Carried) (m₁ m₂ : Carrying CarriedCells) → Given e v → If (Done c₁) m₁ → If (Done c₂) m₂ → If (Done (Cond p e c₁ c₂)) (carry_choosing v m₁ m₂)
    choosing (numbers a b) m₁ m₂ run h₁ h₂ = tt
    choosing (truths false false) m₁ m₂ run h₁ h₂ = tt
    choosing (truths false true) m₁ m₂ run h₁ h₂ =
        mapped (Done c₁) (Done (Cond p e c₁ c₂)) m₁ h₁ (λ M run₁. by_truth false true M run (λ w h. only_first w M run₁ h))
    choosing (truths true false) m₁ m₂ run h₁ h₂ =
        mapped (Done c₂) (Done (Cond p e c₁ c₂)) m₂ h₂ (λ M run₂. by_truth true false M run (λ w h. only_second w M run₂ h))
    choosing (truths true true) m₁ m₂ run h₁ h₂ =
        after (Done c₁) (Done (Cond p e c₁ c₂)) m₁ _ h₁ (λ M₁ run₁.
        after (Done c₂) (Done (Cond p e c₁ c₂)) m₂ _ h₂ (λ M₂ run₂.
        if_fitting (Done (Cond p e c₁ c₂)) (wider_cells M₁ M₂) (λ M q. by_truth true true M run (λ w h. either w M₁ M₂ M q run₁ run₂))))
    choosing (Carried.location l) m₁ m₂ run h₁ h₂ = tt

  -- A call runs the function's Blk with the actuals that are on V, and its mark leaves it.
  called : (p x : ℕ) (es : List Expression) (vs : List Carried) → ActualsRunAnywhere E S N K names cells es vs → (o : Option CarriedMeaning) → carried_meaning x N ≡ o →
      If (Done (Call p x es)) (carry_call o vs K)
  called p x es vs run none q = tt
  called p x es vs run (some (a_value v)) q = tt
  called p x es vs run (some (a_function give)) q = let f = lookup_within x (a_function give) names q in by f.what f.found f.within
    where
      by : (b : Bindable) → lookup x E ≡ some b → BindableWithin b (a_function give) → If (Done (Call p x es)) (give vs K)
      by b found (function_within {fs = fs} {b = body} {F = F} runs) =
          anywhere (λ C X L n M. CommandRuns (Call p x es) C X E S L n K M) (give vs K) (λ C X L n.
          let actuals = run (mark (call_mark p x (length es)) ∷ C) X L n in
          mapped (λ M. FunctionRuns fs body F actuals.given S K M) (λ M. CommandRuns (Call p x es) C X E S L n K M) (give vs K)
          (runs actuals.given vs actuals.within S K cells) (λ M f.
          let r = f.runs (mark (leave_mark p n) ∷ C) (environment E ∷ locations L ∷ X) [] (n + length es) in
          let matches =
          subst (λ k. match_formals k fs (on_stack actuals.given X) F ≡ some (record { environment_with = f.with_actuals; rest = X })) actuals.as_many
          (f.matches X) in
          record {
            left = remove [] r.left;
            leads =
                one_step rule_Call Rules.call (leads_on actuals.leads
                (one_step mark_Call (Rules.call_at found matches) (leads_on r.leads (one_step mark_leave Rules.leave_at there))));
            within = rw (remove_none r.left) r.within;
            as_many = r.as_many;
          }))

  -- A block's command runs in the environment with the declared names, and the second mark removes the cells made.
  block_done : (p : ℕ) (d : Declaration) (c : Command) (D : CarriedDeclared) → DeclaresAnywhere d E S K D → (m : Carrying CarriedCells) →
      ((F : Environment) (R : Store) → NamesWithin F (D.names_declared ++ N) → StoreWithin R D.cells_after → If (RunsAnywhere c F R D.cells_after) m) →
      If (Done (block (Blk p d c))) (m >>= λ M. carried (oldest_cells (length K) M))
  block_done p d c D run m inner =
      anywhere (λ C X L n M. CommandRuns (block (Blk p d c)) C X E S L n K M) (m >>= λ M. carried (oldest_cells (length K) M)) (λ C X L n.
      let declared = run (mark extend_mark ∷ command c ∷ mark (leave_mark p n) ∷ C) (locations L ∷ X) [] n in
      after (RunsAnywhere c (join declared.declared E) declared.left D.cells_after) (λ M. CommandRuns (block (Blk p d c)) C X E S L n K M) m _
      (inner (join declared.declared E) declared.left (join_within declared.names names) declared.cells) (λ M run₂.
      let r = run₂ (mark (leave_mark p n) ∷ C) (environment E ∷ locations L ∷ X) declared.made declared.count in
      record {
        left = remove declared.made r.left;
        leads =
            one_step rule_Blk Rules.blk (leads_on declared.leads
            (one_step mark_extend Rules.extend_at (leads_on r.leads (one_step mark_leave Rules.leave_at there))));
        within = remove_within declared.grown r.as_many r.within;
        as_many = oldest_length (length K) M (more (made_later declared.grown) r.as_many);
      }))
    where
      more : {k m n : ℕ} → k ≤ m → n ≡ m → k ≤ n
      more h q = omega (arith, h, q)

  -- The mark of a Bind binds its name.
  bind_done : (p x : ℕ) (b : Bound) (B : CarriedBound) → BindsAnywhere b E S K B →
      DeclaresAnywhere (Bind p x b) E S K (record { names_declared = record { name = x; meaning = B.bound_as } ∷ []; cells_after = B.cells_after })
  bind_done p x b B run C X L n =
      let r = run (mark bind_mark ∷ C) (name x ∷ X) L n in
      record {
        declared = bound x r.given empty;
        left = r.left;
        made = r.made;
        count = suc n;
        leads = one_step rule_Bind Rules.bind (leads_on r.leads (one_step mark_Bind Rules.bind_at there));
        names = one_name refl r.within no_names;
        cells = r.cells;
        grown = r.grown;
      }

  -- The second declaration of a DSeq runs in the environment with the names of the first.
  both_declared : (p : ℕ) (d₁ d₂ : Declaration) (D : CarriedDeclared) → DeclaresAnywhere d₁ E S K D → (m : Carrying CarriedDeclared) →
      ((F : Environment) (R : Store) → NamesWithin F (D.names_declared ++ N) → StoreWithin R D.cells_after → If (DeclaresAnywhere d₂ F R D.cells_after) m) →
      If (DeclaresAnywhere (DSeq p d₁ d₂) E S K) (m >>= λ F. carried (record { names_declared = F.names_declared ++ D.names_declared; cells_after = F.cells_after }))
  both_declared p d₁ d₂ D run m inner =
      anywhere (λ C X L n F. DeclarationRuns (DSeq p d₁ d₂) C X E S L n K F)
      (m >>= λ F. carried (record { names_declared = F.names_declared ++ D.names_declared; cells_after = F.cells_after })) (λ C X L n.
      let first = run (mark dseq_extend_mark ∷ declaration d₂ ∷ mark dseq_join_mark ∷ C) X L n in
      after (DeclaresAnywhere d₂ (join first.declared E) first.left D.cells_after) (λ F. DeclarationRuns (DSeq p d₁ d₂) C X E S L n K F) m _
      (inner (join first.declared E) first.left (join_within first.names names) first.cells) (λ F run₂.
      let second = run₂ (mark dseq_join_mark ∷ C) (environment first.declared ∷ environment E ∷ X) first.made first.count in
      record {
        declared = join second.declared first.declared;
        left = second.left;
        made = second.made;
        count = second.count;
        leads =
            one_step rule_DSeq Rules.dseq (leads_on first.leads
            (one_step mark_DSeq_extend Rules.dseq_extend_at (leads_on second.leads (one_step mark_DSeq_join Rules.dseq_join_at there))));
        names = join_within second.names first.names;
        cells = second.cells;
        grown = made_on first.grown second.grown;
      }))

  -- A Ref's mark makes a cell, whose location is the number of live ones.
  cell_made : (p : ℕ) (e : Expression) (v : Carried) → Given e v →
      BindsAnywhere (Ref p e) E S K (record { bound_as = a_value (Carried.location (length K)); cells_after = v ∷ K })
  cell_made p e v run C X L n =
      let r = run (mark ref_mark ∷ C) X L n in
      record {
        given = value (location (length S));
        left = record { where_at = length S; contents = r.given } ∷ S;
        made = length S ∷ L;
        leads = one_step rule_Ref Rules.ref (leads_on r.leads (one_step mark_Ref Rules.ref_at there));
        within = subst (λ k. BindableWithin (value (location (length S))) (a_value (Carried.location k))) (within_length cells) (value_within location_within);
        cells = one_cell (within_length cells) r.within cells;
        grown = subst (λ k. MadeSince (length K) L (suc (length K)) (k ∷ L)) (sym (within_length cells)) (one_made none_made);
      }

-- A closure's Blk runs in its environment plus the Formals, on the cells there are at the call.
function_made : (E : Environment) (N : CarriedNames) → NamesWithin E N → (fs : List Formal) (b : Block) →
    ((F : Environment) (R : Store) (M : CarriedNames) (J : CarriedCells) → NamesWithin F M → StoreWithin R J → If (RunsAnywhere (block b) F R J) (carry_block M J b)) →
    FunctionWithin fs b E (λ vs J. fitting (carry_formals fs vs N) >>= λ F. carry_block F J b)
function_made E N names fs b runs xs vs actuals R J cells =
    after (λ M. carry_formals fs vs N ≡ some M) (λ M. FunctionRuns fs b E xs R J M) (fitting (carry_formals fs vs N)) _
    (if_fitting (λ M. carry_formals fs vs N ≡ some M) (carry_formals fs vs N) (λ M q. q)) (λ M q.
    let f = formals_within fs xs vs E N M actuals names q in
    mapped (RunsAnywhere (block b) f.environment_with R J) (λ I. FunctionRuns fs b E xs R J I) (carry_block M J b)
    (runs f.environment_with R M J f.within cells) (λ I run. record { with_actuals = f.environment_with; matches = f.matches; runs = run }))

-- ---- All nodes.

mutual
  unfolding carry_command carry_block carry_declaration carry_bound

  pub command_runs : (c : Command) (E : Environment) (S : Store) (N : CarriedNames) (K : CarriedCells) → NamesWithin E N → StoreWithin S K →
      If (RunsAnywhere c E S K) (carry_command N K c)
  command_runs (Assign p x e) E S N K names cells =
      after (Runs E S N K names cells e) (RunsAnywhere (Assign p x e) E S K) (carry_expression N K e) _ (expression_runs E S N K names cells e) (λ v run.
      assigned E S N K names cells p x e v run (value_of (carried_meaning x N)) refl)
  command_runs (Loop p e c) E S N K names cells = tt
  command_runs (CSeq p c₁ c₂) E S N K names cells =
      after (RunsAnywhere c₁ E S K) (RunsAnywhere (CSeq p c₁ c₂) E S K) (carry_command N K c₁) _ (command_runs c₁ E S N K names cells) (λ M run₁.
      anywhere (λ C X L n J. CommandRuns (CSeq p c₁ c₂) C X E S L n K J) (carry_command N M c₂) (λ C X L n.
      let first = run₁ (command c₂ ∷ C) X L n in
      mapped (RunsAnywhere c₂ E first.left M) (λ J. CommandRuns (CSeq p c₁ c₂) C X E S L n K J) (carry_command N M c₂)
      (command_runs c₂ E first.left N M names first.within) (λ J run₂.
      let second = run₂ C X L n in
      record {
        left = second.left;
        leads = one_step rule_CSeq Rules.cseq (leads_on first.leads second.leads);
        within = second.within;
        as_many = second.as_many ∙ first.as_many;
      })))
  command_runs (block b) E S N K names cells = block_runs b E S N K names cells
  command_runs (Call p x es) E S N K names cells =
      after (ActualsRunAnywhere E S N K names cells es) (RunsAnywhere (Call p x es) E S K) (carry_actuals N K es) _ (actuals_run E S N K names cells es) (λ vs run.
      called E S N K names cells p x es vs run (carried_meaning x N) refl)
  command_runs (Cond p e c₁ c₂) E S N K names cells =
      after (Runs E S N K names cells e) (RunsAnywhere (Cond p e c₁ c₂) E S K) (carry_expression N K e) _ (expression_runs E S N K names cells e) (λ v run.
      choosing E S N K names cells p e c₁ c₂ v (carry_command N K c₁) (carry_command N K c₂) run (command_runs c₁ E S N K names cells)
      (command_runs c₂ E S N K names cells))

  pub block_runs : (b : Block) (E : Environment) (S : Store) (N : CarriedNames) (K : CarriedCells) → NamesWithin E N → StoreWithin S K →
      If (RunsAnywhere (block b) E S K) (carry_block N K b)
  block_runs (Blk p d c) E S N K names cells =
      after (DeclaresAnywhere d E S K) (RunsAnywhere (block (Blk p d c)) E S K) (carry_declaration N K d) _ (declaration_runs d E S N K names cells) (λ D run.
      block_done E S N K names cells p d c D run (carry_command (D.names_declared ++ N) D.cells_after c)
      (λ F R h k. command_runs c F R (D.names_declared ++ N) D.cells_after h k))

  pub declaration_runs : (d : Declaration) (E : Environment) (S : Store) (N : CarriedNames) (K : CarriedCells) → NamesWithin E N → StoreWithin S K →
      If (DeclaresAnywhere d E S K) (carry_declaration N K d)
  declaration_runs (Bind p x b) E S N K names cells =
      after (BindsAnywhere b E S K) (DeclaresAnywhere (Bind p x b) E S K) (carry_bound N K b) _ (bound_runs b E S N K names cells)
      (λ B run. bind_done E S N K names cells p x b B run)
  declaration_runs (DSeq p d₁ d₂) E S N K names cells =
      after (DeclaresAnywhere d₁ E S K) (DeclaresAnywhere (DSeq p d₁ d₂) E S K) (carry_declaration N K d₁) _ (declaration_runs d₁ E S N K names cells) (λ D run.
      both_declared E S N K names cells p d₁ d₂ D run (carry_declaration (D.names_declared ++ N) D.cells_after d₂)
      (λ F R h k. declaration_runs d₂ F R (D.names_declared ++ N) D.cells_after h k))

  pub bound_runs : (b : Bound) (E : Environment) (S : Store) (N : CarriedNames) (K : CarriedCells) → NamesWithin E N → StoreWithin S K →
      If (BindsAnywhere b E S K) (carry_bound N K b)
  bound_runs (plain e) E S N K names cells =
      after (Runs E S N K names cells e) (BindsAnywhere (plain e) E S K) (carry_expression N K e) _ (expression_runs E S N K names cells e) (λ v run C X L n.
      let r = run C X L n in
      record { given = value r.given; left = S; made = L; leads = r.leads; within = value_within r.within; cells = cells; grown = none_made })
  bound_runs (Ref p e) E S N K names cells =
      after (Runs E S N K names cells e) (BindsAnywhere (Ref p e) E S K) (carry_expression N K e) _ (expression_runs E S N K names cells e)
      (λ v run. cell_made E S N K names cells p e v run)
  bound_runs (Abs p fs b) E S N K names cells =
      λ C X L n.
      record {
        given = closure fs b E;
        left = S;
        made = L;
        leads = one_step rule_Abs Rules.abs there;
        within = function_within (function_made E N names fs b (λ F R M J h k. block_runs b F R M J h k));
        cells = cells;
        grown = none_made;
      }
