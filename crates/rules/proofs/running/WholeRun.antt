-- Demand 3, proved: the claim of Claim.antt holds of every state of the run of every passed image.
use Rattle.std.specs.Prelude.{ℕ, zero, suc, ◌<◌, ◌≤◌, ◌≡◌, refl, Bool, true, false, List, [], ◌∷◌, T, eqb, ℤ, pos, length, get_or}
use Rattle.std.proofs.Common.{sym, ap, ◌∙◌, subst}
use Rattle.std.proofs.Math.Option.{Option, none, some}
use Rattle.rules.specs.paper.Tree.{Expression, Formal, Command, Block, Declaration, Bound, Root}
use Rattle.rules.specs.paper.Refusals.{Reason, ZeroDivisor, OutOfRange, reason_number}
use Rattle.rules.specs.paper.Limits.{words}
use Rattle.rules.specs.paper.Integers.{in_range}
use Rattle.rules.specs.paper.Checker.{Scope, Passed, register_scope}
use Rattle.rules.specs.claims.Typing.{RootOk}
use Rattle.rules.specs.claims.Typing as Typing
use Rattle.rules.specs.claims.Shape.{ShapedExpression, ShapedFormal, Many, none_left, one_more, ShapedCommand, ShapedBlock, ShapedDeclaration, ShapedBound, ShapedRoot}
use Rattle.rules.specs.claims.Shape as Shape
use Rattle.rules.specs.paper.States.{Environment, Store, Entry, Item, State, state, control_of}
use Rattle.rules.specs.paper.Rules.{Rule, Effect, goes, fails, Applies}
use Rattle.rules.specs.paper.Run.{priority, holds, settle, made, judge}
use Rattle.rules.specs.paper.Engine.{check_image, passed, root_control, register_environment, register_store, start}
use Rattle.rules.proofs.Basics.{cons_not_empty}
use Rattle.rules.proofs.running.FireExact.{one_rule}
use Rattle.rules.specs.claims.Image.{Meets}
use Rattle.rules.proofs.checking.ImageExact.{check_exact}
use Rattle.rules.specs.claims.History.{Made, made_registers, History, note, first_history, Reach, at_start, step_made}
use Rattle.rules.specs.claims.Claim.{StepOutcome, step_is_made, step_is_withheld, StateClaim, AllInRange, WholeRunClaim}
use Rattle.rules.proofs.running.World.{World, code_newest, SmallExpression, SmallActuals, SmallCommand, SmallBlock, SmallDeclaration, SmallBound, integer_typed, location_typed, EnvironmentTyped, no_names, one_name, environment_older, value_typed}
use Rattle.rules.proofs.running.Stores.{StoreTyped, no_cells, one_cell, world_made}
use Rattle.rules.proofs.running.Continuation.{StackShape, end, ControlTyped, done, expression_typed, command_typed, declaration_typed, reference_typed, abstraction_typed, operator_mark_typed, not_mark_typed, assign_mark_typed, loop_mark_typed, conditional_mark_typed, ref_mark_typed, bind_mark_typed, dseq_extend_mark_typed, dseq_join_mark_typed, extend_mark_typed, leave_mark_typed, call_mark_typed, final_command, final_value, register_world, ValuesTyped, nothing_left, open_states, Invariant}
use Rattle.rules.proofs.running.Progress.{ArithmeticFault, zero_divisor, out_of_range, Advance, Next, Progress}
use Rattle.rules.proofs.running.ExpressionSteps.{expression_step}
use Rattle.rules.proofs.running.CommandSteps.{command_step, declaration_step, reference_step, abstraction_step}
use Rattle.rules.proofs.running.MarkSteps.{operator_step, not_step, assign_step, loop_step, conditional_step, ref_step, bind_step, dseq_extend_step, dseq_join_step}
use Rattle.rules.proofs.running.FrameSteps.{extend_mark_step, leave_mark_step, call_step}
use Rattle.rules.proofs.running.Judging.{in_other_words, Judgement, no_reason, for_reason, judged, holds→reason, reason→holds}

-- ---- Where the invariant holds and control is not empty, a rule applies and its step keeps the invariant.

step_of : (a : Passed) (r : ℕ) (i : Item) (C : List Item) (X : List Entry) (E : Environment) (S : Store) (L : List ℕ) (n : ℕ) (h : History)
    (Γ : Scope) (Θ : StackShape) (W : World) (P : List State) → open_states h.past ≡ P → h.made_types ≡ world_made W →
    EnvironmentTyped W E Γ → StoreTyped S W → ValuesTyped r E W L X Θ P → ControlTyped a (i ∷ C) Γ Θ → Progress a r (state (i ∷ C) X E S L n) h
step_of a r i C X E S L n h Γ Θ W P p t e s v (expression_typed {e = x} {c = c} g u k) = expression_step a r C X E S L n h Γ Θ W P e s v t p x c g u k
step_of a r i C X E S L n h Γ Θ W P p t e s v (command_typed {c = c} g u k) = command_step a r C X E S L n h Γ Θ W P e s v t p c g u k
step_of a r i C X E S L n h Γ Θ W P p t e s v (declaration_typed {d = d} {Δ = Δ} g u w k) = declaration_step a r C X E S L n h Γ Θ W P e s v t p d Δ g u w k
step_of a r i C X E S L n h Γ Θ W P p t e s v (reference_typed {p = q} {c = c} {e = x} g u w k) = reference_step a r C X E S L n h Γ Θ W P e s v t p q c x g u w k
step_of a r i C X E S L n h Γ Θ W P p t e s v (abstraction_typed {p = q} {fs = fs} {b = b} g u k) = abstraction_step a r C X E S L n h Γ Θ W P e s v t p q fs b g u k
step_of a r i C X E S L n h Γ Θ W P p t e s v (operator_mark_typed {o = o} {c₁ = c₁} {c₂ = c₂} {c = c} {Θ = Φ} g k) = operator_step a r C E S L n h Γ W P e s t p o c₁ c₂ c X Φ g k v
step_of a r i C X E S L n h Γ Θ W P p t e s v (not_mark_typed {Θ = Φ} k) = not_step a r C E S L n h Γ W P e s t p X Φ k v
step_of a r i C X E S L n h Γ Θ W P p t e s v (assign_mark_typed {x = x} {c = c} {Θ = Φ} l q k) = assign_step a r C E S L n h Γ W P e s t p x c X Φ l q k v
step_of a r i C X E S L n h Γ Θ W P p t e s v (loop_mark_typed {p = q} {e = x} {c = c} {Θ = Φ} g u d w k) = loop_step a r C E S L n h Γ W P e s t p q x c X Φ g u d w k v
step_of a r i C X E S L n h Γ Θ W P p t e s v (conditional_mark_typed {p = q} {e = x} {c₁ = c₁} {c₂ = c₂} {Θ = Φ} d₁ u₁ d₂ u₂ k) = conditional_step a r C E S L n h Γ W P e s t p q x c₁ c₂ X Φ d₁ u₁ d₂ u₂ k v
step_of a r i C X E S L n h Γ Θ W P p t e s v (ref_mark_typed {c = c} {Θ = Φ} d k) = ref_step a r C E S L n h Γ W P e s t p c X Φ d k v
step_of a r i C X E S L n h Γ Θ W P p t e s v (bind_mark_typed {x = x} {m = m} {Θ = Φ} k) = bind_step a r C E S L n h Γ W P e s t p x m X Φ k v
step_of a r i C X E S L n h Γ Θ W P p t e s v (dseq_extend_mark_typed {Δ₁ = Δ₁} {Θ = Φ} k) = dseq_extend_step a r C E S L n h Γ W P e s t p Δ₁ X Φ k v
step_of a r i C X E S L n h Γ Θ W P p t e s v (dseq_join_mark_typed {Γ₀ = Γ₀} {Δ₁ = Δ₁} {Δ₂ = Δ₂} {Θ = Φ} k) = dseq_join_step a r C E S L n h Γ W P e s t p Δ₁ Δ₂ Γ₀ X Φ k v
step_of a r i C X E S L n h Γ Θ W P p t e s v (extend_mark_typed {p = q} {Δ = Δ} {Θ = Φ} k) = extend_mark_step a r C E S n h Γ W e s t q Δ L X Φ P p k v
step_of a r i C X E S L n h Γ Θ W P p t e s v (leave_mark_typed {p = q} {m = m} {Γ₀ = Γ₀} {Θ = Φ} k) = leave_mark_step a r C E S n h Γ W e s t q m Γ₀ L X Φ P p k v
step_of a r i C X E S L n h Γ Θ W P p t e s v (call_mark_typed {p = q} {x = x} {k = k} {fs = fs} {Θ = Φ} m c f d) =
    call_step a r C E S n h Γ W e s t q x k fs L X Φ P p m c d (subst (λ Ψ. ValuesTyped r E W L X Ψ P) f v)

pub progress : (a : Passed) (r : ℕ) (σ : State) (h : History) → Invariant a r σ h → (control_of σ ≡ [] → ⊥) → Progress a r σ h
progress a r (state [] X E S L n) h inv some_left = absurd (some_left refl)
progress a r (state (i ∷ C) X E S L n) h inv some_left =
    step_of a r i C X E S L n h inv.scope inv.shape inv.world (open_states h.past) refl inv.types inv.names inv.cells inv.values inv.control

-- ---- At the start the invariant holds.

small_expression : {d i j : ℕ} {e : Expression} → ShapedExpression d i j e → SmallExpression e
small_expression (Shape.num h) = h
small_expression Shape.boo = tt
small_expression (Shape.id h) = tt
small_expression (Shape.deref h) = tt
small_expression (Shape.valref h) = tt
small_expression (Shape.binary h g) = (small_expression h, small_expression g)
small_expression (Shape.negation h) = small_expression h

small_actuals : {d i j : ℕ} {es : List Expression} → Many Expression (ShapedExpression d) i j es → SmallActuals es
small_actuals none_left = tt
small_actuals (one_more h g) = (small_expression h, small_actuals g)

mutual
  small_command : {d i j : ℕ} {c : Command} → ShapedCommand d i j c → SmallCommand c
  small_command (Shape.assign x h) = small_expression h
  small_command (Shape.loop h g) = (small_expression h, small_command g)
  small_command (Shape.cseq h g) = (small_command h, small_command g)
  small_command (Shape.block_of h) = small_block h
  small_command (Shape.call x l h) = small_actuals h
  small_command (Shape.conditional h g f) = (small_expression h, small_command g, small_command f)

  small_block : {d i j : ℕ} {b : Block} → ShapedBlock d i j b → SmallBlock b
  small_block (Shape.blk h g) = (small_declaration h, small_command g)

  small_declaration : {d i j : ℕ} {c : Declaration} → ShapedDeclaration d i j c → SmallDeclaration c
  small_declaration (Shape.bind x h) = small_bound h
  small_declaration (Shape.dseq h g) = (small_declaration h, small_declaration g)

  small_bound : {d i j : ℕ} {b : Bound} → ShapedBound d i j b → SmallBound b
  small_bound (Shape.plain_of h) = small_expression h
  small_bound (Shape.ref h) = small_expression h
  small_bound (Shape.abs l f h) = small_block h

pub world_length : (r : ℕ) → length (register_world r) ≡ r
unfolding register_world
world_length zero = refl
world_length (suc r) = ap suc (world_length r)

registers_named : (r : ℕ) → EnvironmentTyped (register_world r) (register_environment r) (register_scope r)
unfolding register_world register_environment register_scope
registers_named zero = no_names
registers_named (suc r) =
    one_name refl (value_typed (location_typed (subst (λ k. Rattle.rules.proofs.running.World.code_at k (0 ∷ register_world r) ≡ some 0) (world_length r) (code_newest (register_world r) 0))))
    (environment_older (registers_named r) 0)

value_in_range : (zs : List ℤ) (i : ℕ) → AllInRange zs → T (in_range (get_or zs i (pos 0)))
value_in_range [] i h = tt
value_in_range (z ∷ zs) zero h = h.0
value_in_range (z ∷ zs) (suc i) h = value_in_range zs i h.1

registers_stored : (r : ℕ) (zs : List ℤ) → AllInRange zs → StoreTyped (register_store r zs) (register_world r)
unfolding register_world register_store
registers_stored zero zs h = no_cells
registers_stored (suc r) zs h = one_cell (sym (world_length r)) (integer_typed (value_in_range zs r h)) (registers_stored r zs h)

registers_made : (r : ℕ) → made_registers r ≡ world_made (register_world r)
unfolding made_registers world_made register_world
registers_made zero = refl
registers_made (suc r) =
    ap {B = Made} (λ k. record { where_at = k; code = some 0 } ∷ made_registers r) (sym (world_length r))
    ∙ ap {B = Made} (λ M. record { where_at = length (register_world r); code = some 0 } ∷ M) (registers_made r)

start_control : (a : Passed) (r : ℕ) (t : Root) {d i j : ℕ} → ShapedRoot d i j t → RootOk (register_scope r) t a →
    ControlTyped a (root_control t) (register_scope r) end
start_control a r t (Shape.root_expression s) (Typing.root_expression g) = expression_typed g (small_expression s) (done final_value)
start_control a r t (Shape.root_command s) (Typing.root_command g) = command_typed g (small_command s) (done final_command)
start_control a r t Shape.root_absent Typing.root_absent = done final_command

pub start_invariant : (image : List ℕ) (r : ℕ) (t : Root) (a : Passed) → Meets image r t a → (zs : List ℤ) → AllInRange zs → Invariant a r (start r t zs) (first_history r)
unfolding start open_states
start_invariant image r t a m zs h =
    record {
      scope = register_scope r;
      shape = end;
      world = register_world r;
      control = start_control a r t m.shape.shape m.types;
      names = registers_named r;
      cells = registers_stored r zs h;
      values = nothing_left refl refl;
      types = registers_made r;
    }

-- ---- So it holds in every state of the run.

advance_of : {a : Passed} {r : ℕ} {σ : State} {h : History} {e : Effect} (τ : State) → Next a r σ h e → e ≡ goes τ → Advance a r σ h τ
advance_of {a} {r} {σ} {h} τ n q = subst (Next a r σ h) q n

-- Where a rule applies control is not empty.
pub rule_left : (x : Rule) (ρ : State) (e : Effect) → Applies x ρ e → control_of ρ ≡ [] → ⊥
rule_left x (state [] X E S L n) e l q = l
rule_left x (state (i ∷ C) X E S L n) e l q = cons_not_empty q

-- The step of a rule that applies keeps it.
pub step_invariant : (a : Passed) (r : ℕ) (x : Rule) (ρ τ : State) (g : History) → Invariant a r ρ g → Applies x ρ (goes τ) → Invariant a r τ (note ρ g τ)
step_invariant a r x ρ τ g before line =
    let p = progress a r ρ g before (rule_left x ρ (goes τ) line) in
    (advance_of τ p.next (one_rule ρ p.rule x p.effect (goes τ) p.applies line).1).invariant

pub reach_invariant : (a : Passed) (r : ℕ) (budget : ℕ) (first : State) → Invariant a r first (first_history r) →
    (n : ℕ) (σ : State) (h : History) → Reach budget first r n σ h → Invariant a r σ h
reach_invariant a r budget first inv n σ h at_start = inv
reach_invariant a r budget first inv n σ h (step_made {n = m} {σ = ρ} {h = g} x τ reached line m') =
    step_invariant a r x ρ τ g (reach_invariant a r budget first inv m ρ g reached) line

-- ---- The step is made or withheld as claimed.

fault_holds : (spent : Bool) (x : Reason) → ArithmeticFault x → T (holds spent (fails x) x)
unfolding holds reason_number
fault_holds spent x zero_divisor = tt
fault_holds spent x out_of_range = tt

outcome_of : (a : Passed) (r budget steps : ℕ) (σ : State) (h : History) (e : Effect) → Next a r σ h e → Judgement (eqb steps budget) e → StepOutcome budget steps σ h e
outcome_of a r budget steps σ h (goes τ) n (no_reason f q) =
    step_is_made
    (record { after = τ; goes_there = refl; no_reason = λ x t. f x (reason→holds budget steps (goes τ) x t); is_made = q; cells_after = n.cells_after; restored = n.restored })
outcome_of a r budget steps σ h (fails x) n (no_reason f q) = absurd (f x (fault_holds (eqb steps budget) x n))
outcome_of a r budget steps σ h e n (for_reason x t f q) =
    step_is_withheld
    (record { reason = x; reason_holds = holds→reason budget steps e x t; first = in_other_words x priority (holds→reason budget steps e) (reason→holds budget steps e) f; is_withheld = q })

pub claim : (a : Passed) (r budget steps : ℕ) (σ : State) (h : History) → Invariant a r σ h → (control_of σ ≡ [] → ⊥) → StateClaim budget steps σ h
claim a r budget steps σ h inv left =
    let p = progress a r σ h inv left in
    record {
      rule = p.rule;
      effect = p.effect;
      applies = p.applies;
      only = λ x e l. one_rule σ x p.rule e p.effect l p.applies;
      cells_before = p.cells_before;
      outcome = outcome_of a r budget steps σ h p.effect p.next (judged (eqb steps budget) p.effect);
    }

-- Demand 3: in every state of the run of a passed image exactly one rule applies, its step is made or withheld as the paper says,
-- cells are live and hold their types, and each leaving restores what it found.
pub whole_run : WholeRunClaim
whole_run image r t a passes registers count ranged budget few steps σ h reached left =
    claim a r budget steps σ h
    (reach_invariant a r budget (start r t registers) (start_invariant image r t a ((check_exact image r t a).0 passes) registers ranged) steps σ h reached)
    left
