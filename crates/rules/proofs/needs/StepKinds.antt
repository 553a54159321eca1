-- Every step of a free run is of one of three kinds: it replaces the first stretch ahead, or it is at a Loop's mark, or at a Cond's. With
-- each goes that the live bindings a leaving goes back to are no more than there are.
use Rattle.std.specs.Prelude.{ℕ, ◌-◌, ◌≤◌, ◌≡◌, Bool, List, [], ◌∷◌, length}
use Rattle.std.proofs.Math.Path.{refl}
use Rattle.std.proofs.Common.{sym, arith}
use Rattle.std.proofs.Math.Bool.{true, false}
use Rattle.std.proofs.Math.Option.{none}
use Rattle.rules.proofs.Basics.{missing}
use Rattle.rules.specs.paper.Tree.{Expression, Command, Loop, Cond, Bound, plain, Ref, Abs}
use Rattle.rules.specs.paper.States.{truth, integer, Environment, Store, remove, Entry, val, node, environment, locations, Item, command, mark, operator_mark, loop_mark, conditional_mark, leave_mark, bound_item, State, state, control_of, bindings_of}
use Rattle.rules.specs.paper.Integers.{Result, number, failed, compute}
use Rattle.rules.specs.paper.Rules.{Rule, Effect, goes, fails, Table, pushed, put_actuals}
use Rattle.rules.specs.paper.Rules as Rules
use Rattle.rules.specs.paper.Fire.{after_test, chosen}
use Rattle.rules.specs.claims.History.{left_by_item}
use Rattle.rules.proofs.needs.Outlook.{bindable_need, sketches, outlook, after, ahead}
use Rattle.rules.proofs.needs.StretchLaws.{Replaced}
use Rattle.rules.proofs.needs.NodeStretches.{binary_replaced, not_replaced, assign_replaced, conditional_replaced, cseq_replaced, block_replaced, loop_replaced, sequence_replaced, bind_replaced, reference_replaced, push_settles}
use Rattle.rules.proofs.needs.MarkStretches.{operator_replaced, not_mark_replaced, assign_mark_replaced, ref_mark_replaced, bind_mark_replaced, dseq_extend_replaced, dseq_join_replaced, extend_replaced, leave_replaced, call_mark_replaced}
use Rattle.rules.proofs.needs.CallStretches.{call_replaced}

-- ---- The live bindings that the leavings on control go back to are in order.

pub data Ordered : List Item → ℕ → Type 0 where
  none_left : {n : ℕ} → Ordered [] n
  other : {i : Item} {C : List Item} {n : ℕ} → left_by_item i ≡ none → Ordered C n → Ordered (i ∷ C) n
  leaving : {p m : ℕ} {C : List Item} {n : ℕ} → m ≤ n → Ordered C m → Ordered (mark (leave_mark p m) ∷ C) n

more_bindings : {C : List Item} {n m : ℕ} → n ≤ m → Ordered C n → Ordered C m
more_bindings l none_left = none_left
more_bindings l (other q o) = other q (more_bindings l o)
more_bindings {m = m} l (leaving {m = k} h o) = leaving {m = k} {n = m} (omega (arith, l, h)) o

under : {i : Item} {C : List Item} {n : ℕ} → left_by_item i ≡ none → Ordered (i ∷ C) n → Ordered C n
under q (other p o) = o
under q (leaving h o) = missing (sym q)

actuals_ordered : (es : List Expression) {C : List Item} {n : ℕ} → Ordered C n → Ordered (put_actuals es C) n
unfolding put_actuals
actuals_ordered [] o = o
actuals_ordered (e ∷ es) o = actuals_ordered es (other refl o)

bound_item_stays : (b : Bound) → left_by_item (bound_item b) ≡ none
bound_item_stays (plain e) = refl
bound_item_stays (Ref p e) = refl
bound_item_stays (Abs p fs b) = refl

-- ---- The kinds of steps.

pub data StepKind : State → State → Type 0 where
  replacing : {σ τ : State} → Replaced σ τ → StepKind σ τ
  turning : {p : ℕ} {e : Expression} {c : Command} {b : Bool} {C : List Item} {X : List Entry} {E : Environment} {S : Store} {L : List ℕ} {n : ℕ} (t : Bool) →
      StepKind (state (mark loop_mark ∷ C) (val (truth b) ∷ node (Loop p e c) ∷ X) E S L n) (state (after_test t (record { place = p; test = e; body = c }) C) X E S L n)
  choosing : {p : ℕ} {e : Expression} {c₁ c₂ : Command} {b : Bool} {C : List Item} {X : List Entry} {E : Environment} {S : Store} {L : List ℕ} {n : ℕ} (t : Bool) →
      StepKind (state (mark conditional_mark ∷ C) (val (truth b) ∷ node (Cond p e c₁ c₂) ∷ X) E S L n) (state (command (chosen t c₁ c₂) ∷ C) X E S L n)

pub record Classified (σ τ : State) : Type 0 where
  pub kind : StepKind σ τ
  pub ordered : Ordered (control_of τ) (bindings_of τ)

-- What a leaving step finds: its location set names so many of the live cells.
abbrev pub LeavesCells : Item → Store → List ℕ → Type 0
LeavesCells i S L = (p m : ℕ) → i ≡ mark (leave_mark p m) → length (remove L S) ≡ length S - length L

module _ (C : List Item) (E : Environment) (S : Store) (L : List ℕ) (n : ℕ) where
  abbrev At : Item → List Entry → Effect → Type 0
  At i X (goes τ) = Classified (state (i ∷ C) X E S L n) τ
  At i X (fails r) = Unit {0}

  replaces : {σ τ : State} → Replaced σ τ → Ordered (control_of τ) (bindings_of τ) → Classified σ τ
  replaces r o = record { kind = replacing r; ordered = o }

  turn_ordered : (t : Bool) (p : ℕ) (e : Expression) (c : Command) → Ordered C n → Ordered (after_test t (record { place = p; test = e; body = c }) C) n
  turn_ordered true p e c o = other refl (other refl o)
  turn_ordered false p e c o = o

  pub integer_classified : (o : _) (y z v : _) (X : List Entry) → Ordered (mark (operator_mark o) ∷ C) n →
      Classified (state (mark (operator_mark o) ∷ C) (val (integer z) ∷ val (integer y) ∷ X) E S L n) (state C (val (integer v) ∷ X) E S L n)
  integer_classified o y z v X h = replaces (operator_replaced C X E S L n o (integer y) (integer z) (integer v)) (under refl h)

  pub classified : (r : Rule) (i : Item) (X : List Entry) (e : Effect) → Table C E S L n r i X e → LeavesCells i S L → Ordered (i ∷ C) n → At i X e
  unfolding ahead sketches bindable_need Rattle.rules.specs.paper.Needs.expression_need
  classified r i X e (Rules.num {X = Y}) l o = replaces (push_settles C Y E S L n (after i (outlook (state C Y E S L n))) refl refl refl) (under refl o)
  classified r i X e (Rules.boo {X = Y}) l o = replaces (push_settles C Y E S L n (after i (outlook (state C Y E S L n))) refl refl refl) (under refl o)
  classified r i X e (Rules.id_plain {X = Y} p q) l o = replaces (push_settles C Y E S L n (after i (outlook (state C Y E S L n))) refl refl refl) (under refl o)
  classified r i X e (Rules.id_cell {X = Y} p q) l o = replaces (push_settles C Y E S L n (after i (outlook (state C Y E S L n))) refl refl refl) (under refl o)
  classified r i X e (Rules.deref {X = Y} p) l o = replaces (push_settles C Y E S L n (after i (outlook (state C Y E S L n))) refl refl refl) (under refl o)
  classified r i X e (Rules.valref {X = Y} p q s) l o = replaces (push_settles C Y E S L n (after i (outlook (state C Y E S L n))) refl refl refl) (under refl o)
  classified r i X e (Rules.binary {p = p} {o = b} {e₁ = e₁} {e₂ = e₂} {X = Y}) l o =
      replaces (binary_replaced C Y E S L n p b e₁ e₂) (other refl (other refl (other refl (under refl o))))
  classified r i X e (Rules.negation {p = p} {e = x} {X = Y}) l o = replaces (not_replaced C Y E S L n p x) (other refl (other refl (under refl o)))
  classified r i X e (Rules.arithmetic_at {o = b} {a = y} {b = z} {X = Y}) l o = computed (compute b y z)
    where
      computed : (x : Result) → At i (val (integer z) ∷ val (integer y) ∷ Y) (pushed x C Y E S L n)
      computed (number v) = integer_classified _ y z v Y o
      computed (failed x) = tt
  classified r i X e (Rules.equal_at {a = a} {b = b} {X = Y} q) l o = replaces (operator_replaced C Y E S L n _ a b _) (under refl o)
  classified r i X e (Rules.order_at {X = Y}) l o = replaces (operator_replaced C Y E S L n _ _ _ _) (under refl o)
  classified r i X e (Rules.logic_at {X = Y}) l o = replaces (operator_replaced C Y E S L n _ _ _ _) (under refl o)
  classified r i X e (Rules.not_at {X = Y}) l o = replaces (not_mark_replaced C Y E S L n _ _) (under refl o)
  classified r i X e (Rules.assign {p = p} {x = x} {e = v} {X = Y}) l o = replaces (assign_replaced C Y E S L n p x v) (other refl (other refl (under refl o)))
  classified r i X e (Rules.assign_at {x = x} {l = k} {v = v} {X = Y} p q) l o = replaces (assign_mark_replaced C Y E S L n x k v) (under refl o)
  classified r i X e (Rules.loop {p = p} {e = t} {c = c} {X = Y}) l o = replaces (loop_replaced C Y E S L n p t c) (other refl (other refl (under refl o)))
  classified r i X e (Rules.loop_true {p = p} {e = t} {c = c}) l o = record { kind = turning true; ordered = turn_ordered true p t c (under refl o) }
  classified r i X e (Rules.loop_false {p = p} {e = t} {c = c}) l o = record { kind = turning false; ordered = turn_ordered false p t c (under refl o) }
  classified r i X e (Rules.conditional {p = p} {e = t} {c₁ = c₁} {c₂ = c₂} {X = Y}) l o = replaces (conditional_replaced C Y E S L n p t c₁ c₂) (other refl (other refl (under refl o)))
  classified r i X e Rules.conditional_true l o = record { kind = choosing true; ordered = other refl (under refl o) }
  classified r i X e Rules.conditional_false l o = record { kind = choosing false; ordered = other refl (under refl o) }
  classified r i X e (Rules.cseq {p = p} {c₁ = c₁} {c₂ = c₂} {X = Y}) l o = replaces (cseq_replaced C Y E S L n p c₁ c₂) (other refl (other refl (under refl o)))
  classified r i X e (Rules.ref {p = p} {e = v} {X = Y}) l o = replaces (reference_replaced C Y E S L n p v) (other refl (other refl (under refl o)))
  classified r i X e (Rules.ref_at {X = Y}) l o = replaces (ref_mark_replaced C Y E S L n _ _ _ _) (under refl o)
  classified r i X e (Rules.bind {p = p} {x = x} {b = b} {X = Y}) l o = replaces (bind_replaced C Y E S L n p x b) (other (bound_item_stays b) (other refl (under refl o)))
  classified r i X e (Rules.bind_at {x = x} {b = b} {X = Y}) l o = replaces (bind_mark_replaced C Y E S L n x b) (more_bindings (omega arith) (under refl o))
  classified r i X e (Rules.abs {X = Y}) l o = replaces (push_settles C Y E S L n (after i (outlook (state C Y E S L n))) refl refl refl) (under refl o)
  classified r i X e (Rules.dseq {p = p} {d₁ = d₁} {d₂ = d₂} {X = Y}) l o = replaces (sequence_replaced C Y E S L n p d₁ d₂) (other refl (other refl (other refl (other refl (under refl o)))))
  classified r i X e (Rules.dseq_extend_at {D₁ = D} {X = Y}) l o = replaces (dseq_extend_replaced C Y E S L n D) (under refl o)
  classified r i X e (Rules.dseq_join_at {D₁ = D₁} {D₂ = D₂} {F = F} {X = Y}) l o = replaces (dseq_join_replaced C Y E S L n D₁ D₂ F) (under refl o)
  classified r i X e (Rules.blk {p = p} {d = d} {c = c} {X = Y}) l o =
      replaces (block_replaced C Y E S L n p d c) (other refl (other refl (other refl (leaving (omega arith) (under refl o)))))
  classified r i X e (Rules.extend_at {D = D} {X = Y}) l o = replaces (extend_replaced C Y E S L n D) (under refl o)
  classified r i X e (Rules.leave_at {p = p} {m = m} {F = F} {K = K} {X = Y}) l o = left o
    where
      left : Ordered (mark (leave_mark p m) ∷ C) n → At (mark (leave_mark p m)) (environment F ∷ locations K ∷ Y) (goes (state C Y F (remove L S) K m))
      left (other q h) = missing (sym q)
      left (leaving h g) = replaces (leave_replaced C Y E S L n p m F K (l p m refl) h) g
  classified r i X e (Rules.call {p = p} {x = x} {es = es} {X = Y}) l o = replaces (call_replaced C Y E S L n p x es) (actuals_ordered es (other refl (under refl o)))
  classified r i X e (Rules.call_at {p = p} {x = x} {k = k} {fs = fs} {b = b} {F = F} {m = m} {X = Y} q s) l o =
      replaces (call_mark_replaced C Y E S L n p x k fs b F m q s) (other refl (leaving (omega arith) (under refl o)))

  pub turn_classified : {p : ℕ} {e : Expression} {c : Command} {b : Bool} (X : List Entry) (t : Bool) → Ordered (mark loop_mark ∷ C) n →
      Classified (state (mark loop_mark ∷ C) (val (truth b) ∷ node (Loop p e c) ∷ X) E S L n) (state (after_test t (record { place = p; test = e; body = c }) C) X E S L n)
  turn_classified {p} {e} {c} X t o = record { kind = turning t; ordered = turn_ordered t p e c (under refl o) }

  pub choice_classified : {p : ℕ} {e : Expression} {c₁ c₂ : Command} {b : Bool} (X : List Entry) (t : Bool) → Ordered (mark conditional_mark ∷ C) n →
      Classified (state (mark conditional_mark ∷ C) (val (truth b) ∷ node (Cond p e c₁ c₂) ∷ X) E S L n) (state (command (chosen t c₁ c₂) ∷ C) X E S L n)
  choice_classified X t o = record { kind = choosing t; ordered = other refl (under refl o) }
