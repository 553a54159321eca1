-- Part of the whole-run proof: the steps at a command, a declaration and what a Bind binds.
use Rattle.std.specs.Prelude.{ℕ, zero, suc, ◌<◌, ◌≤◌, ◌≡◌, refl, List, [], ◌∷◌, ◌++◌, length}
use Rattle.std.proofs.Common.{sym, ap, ◌∙◌, subst}
use Rattle.std.proofs.Math.Option.{Option, none, some}
use Rattle.rules.specs.paper.Tree.{Expression, Formal, Command, Assign, Loop, CSeq, block, Call, Block, Blk, Declaration, Bind, DSeq, Bound, plain, Ref, Abs}
use Rattle.rules.specs.paper.Checker.{Meaning, code, function, Scope, meaning_of, with_formals, Passed}
use Rattle.rules.specs.claims.Typing.{HasCode, ActualsFit, no_actuals, actual, CommandOk, BlockOk, Gives, Means}
use Rattle.rules.specs.claims.Typing as Typing
use Rattle.rules.specs.paper.States.{Environment, Store, Entry, Item, expression, command, declaration, reference, abstraction, mark, call_mark, bound_item, State, state}
use Rattle.rules.specs.paper.Rules.{put_actuals}
use Rattle.rules.specs.paper.Rules as Rules
use Rattle.rules.specs.claims.History.{History}
use Rattle.rules.proofs.running.World.{World, SmallExpression, SmallActuals, SmallCommand, SmallBlock, SmallDeclaration, SmallBound, EnvironmentTyped, closure_typed}
use Rattle.rules.proofs.running.Stores.{StoreTyped, world_made, same}
use Rattle.rules.proofs.running.Continuation.{StackShape, value_of, name_of, declared, calling, opened, actuals, Declaring, in_block, past_name, past_saved, ControlTyped, expression_typed, command_typed, declaration_typed, reference_typed, abstraction_typed, assign_mark_typed, loop_mark_typed, conditional_mark_typed, ref_mark_typed, bind_mark_typed, dseq_extend_mark_typed, dseq_join_mark_typed, extend_mark_typed, leave_mark_typed, call_mark_typed, ValuesTyped, value_on, name_on, testing_on, calling_on, opened_on, open_states}
use Rattle.rules.proofs.running.Progress.{Progress, same_store, opening_step}

-- The actuals, put on control last on top.
put_actuals_typed : {a : Passed} {Γ : Scope} {Θ : StackShape} {es : List Expression} {fs : List Formal} {C : List Item} →
    ActualsFit Γ es fs → SmallActuals es → ControlTyped a C Γ (actuals fs Θ) → ControlTyped a (put_actuals es C) Γ Θ
unfolding put_actuals
put_actuals_typed no_actuals s k = k
put_actuals_typed (actual h g) s k = put_actuals_typed g s.1 (expression_typed h s.0 k)

same_count : {Γ : Scope} {es : List Expression} {fs : List Formal} → ActualsFit Γ es fs → length fs ≡ length es
same_count no_actuals = refl
same_count (actual h g) = ap suc (same_count g)

module _ (a : Passed) (r : ℕ) (C : List Item) (X : List Entry) (E : Environment) (S : Store) (L : List ℕ) (n : ℕ) (h : History)
    (Γ : Scope) (Θ : StackShape) (W : World) (P : List State)
    (names : EnvironmentTyped W E Γ) (cells : StoreTyped S W) (values : ValuesTyped r E W L X Θ P)
    (types : h.made_types ≡ world_made W) (pending : open_states h.past ≡ P) where
  abbrev Here : Item → Type 0
  Here i = Progress a r (state (i ∷ C) X E S L n) h

  block_step : (b : Block) → BlockOk Γ b → SmallBlock b → ControlTyped a C Γ Θ → Here (command (block b))
  block_step b (Typing.blk {p = p} d c) s k =
      opening_step p Rules.rule_Blk refl refl Rules.blk names cells types pending
      (declaration_typed d s.0 in_block (extend_mark_typed (command_typed c s.1 (leave_mark_typed k))))
      (λ entered. opened_on names same entered values) (λ M. tt)

  pub command_step : (c : Command) → CommandOk Γ c → SmallCommand c → ControlTyped a C Γ Θ → Here (command c)
  command_step c (Typing.assign g l q) s k =
      same_store Rules.rule_Assign refl refl Rules.assign names cells types pending (expression_typed g s (assign_mark_typed l q k)) (name_on values) (λ M m. tt)
  command_step c (Typing.loop g d) s k =
      same_store Rules.rule_Loop refl refl Rules.loop names cells types pending
      (expression_typed g s.0 (loop_mark_typed g s.0 d s.1 k)) (testing_on values) (λ M m. tt)
  command_step c (Typing.cseq d₁ d₂) s k =
      same_store Rules.rule_CSeq refl refl Rules.cseq names cells types pending (command_typed d₁ s.0 (command_typed d₂ s.1 k)) values (λ M m. tt)
  command_step c (Typing.block_of {b = b} d) s k = block_step b d s k
  command_step c (Typing.call {p = p} {fs = fs} g q) s k =
      opening_step p Rules.rule_Call refl refl Rules.call names cells types pending
      (put_actuals_typed g s (call_mark_typed q (same_count g) refl k))
      (λ entered. calling_on entered values) (λ M. tt)
  command_step c (Typing.conditional g d₁ d₂) s k =
      same_store Rules.rule_Cond refl refl Rules.conditional names cells types pending
      (expression_typed g s.0 (conditional_mark_typed d₁ s.1 d₂ s.2 k)) (testing_on values) (λ M m. tt)

  -- What a Bind binds goes on control, and leaves a value or closure of its meaning.
  bound_control : (b : Bound) (m : Meaning) {Φ : StackShape} → Means Γ b m → SmallBound b → Declaring Φ → (D : List Item) → ControlTyped a D Γ (value_of m Φ) → ControlTyped a (bound_item b ∷ D) Γ Φ
  bound_control b m (Typing.plain_of g) s d D k = expression_typed g s k
  bound_control b m (Typing.ref g l) s d D k = reference_typed g s d k
  bound_control b m (Typing.abs t g) s d D k = abstraction_typed g s k

  pub declaration_step : (d : Declaration) (Δ : Scope) → Gives Γ d Δ → SmallDeclaration d → Declaring Θ → ControlTyped a C Γ (declared Δ Θ) → Here (declaration d)
  declaration_step d Δ (Typing.bind {b = b} {m = m} g q) s t k =
      same_store Rules.rule_Bind refl refl Rules.bind names cells types pending
      (bound_control b m g s (past_name t) _ (bind_mark_typed (subst (λ Ψ. ControlTyped a C Γ (declared Ψ Θ)) q k))) (name_on values) (λ M m. tt)
  declaration_step d Δ (Typing.dseq g₁ g₂ apart q) s t k =
      same_store Rules.rule_DSeq refl refl Rules.dseq names cells types pending
      (declaration_typed g₁ s.0 t (dseq_extend_mark_typed (declaration_typed g₂ s.1 (past_saved t) (dseq_join_mark_typed (subst (λ Ψ. ControlTyped a C Γ (declared Ψ Θ)) q k)))))
      values (λ M m. tt)

  pub reference_step : (p c : ℕ) (e : Expression) → HasCode Γ e c → SmallExpression e → Declaring Θ → ControlTyped a C Γ (value_of (code (suc (suc c))) Θ) → Here (reference p e)
  reference_step p c e g s t k =
      same_store Rules.rule_Ref refl refl Rules.ref names cells types pending (expression_typed g s (ref_mark_typed t k)) values (λ M m. tt)

  pub abstraction_step : (p : ℕ) (fs : List Formal) (b : Block) → BlockOk (with_formals fs Γ) b → SmallBlock b → ControlTyped a C Γ (value_of (function fs) Θ) → Here (abstraction p fs b)
  abstraction_step p fs b g s k =
      same_store Rules.rule_Abs refl refl Rules.abs names cells types pending k (value_on (closure_typed Γ names g s) values) (λ M m. tt)
