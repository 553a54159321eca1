-- Which sizes of the state a step can raise: at a node the live cells and bindings stay as they are, and at the marks of the operators, of Not
-- and of Assign no size rises.
use Rattle.std.specs.Prelude.{ℕ, suc, ◌≤◌, ◌≡◌, refl, Bool, true, false, cond, List, [], ◌∷◌, eqb, length}
use Rattle.std.proofs.Common.{ap, arith}
use Rattle.rules.specs.paper.Integers.{Result, number, failed, compute}
use Rattle.rules.specs.paper.States.{Value, Environment, Cell, Store, store_at, Entry, val, integer, Mark, operator_mark, not_mark, assign_mark, loop_mark, conditional_mark, ref_mark, bind_mark, dseq_extend_mark, dseq_join_mark, extend_mark, leave_mark, call_mark, Item, expression, command, declaration, reference, abstraction, mark, State, state, control_of, values_of, store_of, bindings_of}
use Rattle.rules.specs.paper.Rules.{Rule, Effect, goes, fails, pushed, Table, num, boo, id_plain, id_cell, deref, valref, binary, negation, arithmetic_at, equal_at, order_at, logic_at, not_at, assign, assign_at, loop, conditional, cseq, ref, bind, abs, dseq, blk, call, loop_true, loop_false, conditional_true, conditional_false, ref_at, bind_at, dseq_extend_at, dseq_join_at, extend_at, leave_at, call_at}

-- ---- At a node.

abbrev pub IsNode : Item → Type 0
IsNode (expression e) = Unit {0}
IsNode (command c) = Unit {0}
IsNode (declaration d) = Unit {0}
IsNode (reference p e) = Unit {0}
IsNode (abstraction p fs b) = Unit {0}
IsNode (mark k) = ⊥

-- No more live cells and bindings than before.
abbrev pub KeepsMemory : Store → (bindings : ℕ) → Effect → Type 0
KeepsMemory S n (goes τ) = (length (store_of τ) ≤ length S) × (bindings_of τ ≤ n)
KeepsMemory S n (fails x) = Unit {0}

module _ (C : List Item) (E : Environment) (S : Store) (L : List ℕ) (n : ℕ) where
  kept : (length S ≤ length S) × (n ≤ n)
  kept = (omega arith, omega arith)

  pub node_keeps_memory : {r : Rule} {i : Item} {X : List Entry} {e : Effect} → Table C E S L n r i X e → IsNode i → KeepsMemory S n e
  node_keeps_memory num t = kept
  node_keeps_memory boo t = kept
  node_keeps_memory (id_plain p q) t = kept
  node_keeps_memory (id_cell p q) t = kept
  node_keeps_memory (deref q) t = kept
  node_keeps_memory (valref p q s) t = kept
  node_keeps_memory binary t = kept
  node_keeps_memory negation t = kept
  node_keeps_memory assign t = kept
  node_keeps_memory loop t = kept
  node_keeps_memory conditional t = kept
  node_keeps_memory cseq t = kept
  node_keeps_memory ref t = kept
  node_keeps_memory bind t = kept
  node_keeps_memory abs t = kept
  node_keeps_memory dseq t = kept
  node_keeps_memory blk t = kept
  node_keeps_memory call t = kept
  node_keeps_memory (arithmetic_at {o = o} {a = a} {b = b} {X = X}) t = elim t [ ]
  node_keeps_memory (equal_at {a = a} {b = b} {X = X} _) t = elim t [ ]
  node_keeps_memory (order_at {o = o} {a = a} {b = b} {X = X}) t = elim t [ ]
  node_keeps_memory (logic_at {o = o} {a = a} {b = b} {X = X}) t = elim t [ ]
  node_keeps_memory (not_at {a = a} {X = X}) t = elim t [ ]
  node_keeps_memory (assign_at {l = l} {v = v} {w = w} {X = X} _ _) t = elim t [ ]
  node_keeps_memory (loop_true {p = p} {e = e} {c = c} {X = X}) t = elim t [ ]
  node_keeps_memory (loop_false {p = p} {e = e} {c = c} {X = X}) t = elim t [ ]
  node_keeps_memory (conditional_true {p = p} {e = e} {c₁ = c₁} {c₂ = c₂} {X = X}) t = elim t [ ]
  node_keeps_memory (conditional_false {p = p} {e = e} {c₁ = c₁} {c₂ = c₂} {X = X}) t = elim t [ ]
  node_keeps_memory (ref_at {v = v} {X = X}) t = elim t [ ]
  node_keeps_memory (bind_at {b = b} {X = X}) t = elim t [ ]
  node_keeps_memory (dseq_extend_at {D₁ = D₁} {X = X}) t = elim t [ ]
  node_keeps_memory (dseq_join_at {D₁ = D₁} {D₂ = D₂} {F = F} {X = X}) t = elim t [ ]
  node_keeps_memory (extend_at {D = D} {X = X}) t = elim t [ ]
  node_keeps_memory (leave_at {p = p} {m = m} {F = F} {K = K} {X = X}) t = elim t [ ]
  node_keeps_memory {X = X} (call_at {p = p} {k = k} {fs = fs} {b = b} {F = F} {m = m} _ _) t = elim t [ ]

-- ---- At a mark that raises nothing.

abbrev pub RaisesNothing : Mark → Type 0
RaisesNothing (operator_mark o) = Unit {0}
RaisesNothing not_mark = Unit {0}
RaisesNothing assign_mark = Unit {0}
RaisesNothing loop_mark = ⊥
RaisesNothing conditional_mark = ⊥
RaisesNothing ref_mark = ⊥
RaisesNothing bind_mark = ⊥
RaisesNothing dseq_extend_mark = ⊥
RaisesNothing dseq_join_mark = ⊥
RaisesNothing extend_mark = ⊥
RaisesNothing (leave_mark p m) = ⊥
RaisesNothing (call_mark p x k) = ⊥

-- No size is above what it was, the mark's own entry not counted.
abbrev pub NoneAbove : (control values cells bindings : ℕ) → Effect → Type 0
NoneAbove c v s n (goes τ) = (length (control_of τ) ≤ c) × (length (values_of τ) ≤ v) × (length (store_of τ) ≤ s) × (bindings_of τ ≤ n)
NoneAbove c v s n (fails x) = Unit {0}

pub store_at_length : (l : ℕ) (v : Value) (S : Store) → length (store_at l v S) ≡ length S
unfolding store_at
store_at_length l v [] = refl
store_at_length l v (c ∷ S) = by (eqb c.where_at l) (store_at_length l v S)
  where
    by : (t : Bool) → length (store_at l v S) ≡ length S → length (cond {A = Store} t (record { where_at = l; contents = v } ∷ S) (c ∷ store_at l v S)) ≡ suc (length S)
    by true q = refl
    by false q = ap suc q

module _ (C : List Item) (E : Environment) (S : Store) (L : List ℕ) (n : ℕ) where
  computed : (r : Result) (a b : Value) (X : List Entry) → NoneAbove (length C) (length (val b ∷ val a ∷ X)) (length S) n (pushed r C X E S L n)
  computed (number z) a b X = (omega arith, omega arith, omega arith, omega arith)
  computed (failed x) a b X = tt

  pub mark_raises_nothing : {r : Rule} {k : Mark} {X : List Entry} {e : Effect} → Table C E S L n r (mark k) X e → RaisesNothing k → NoneAbove (length C) (length X) (length S) n e
  mark_raises_nothing (arithmetic_at {o = o} {a = a} {b = b} {X = X}) t = computed (compute o a b) (integer a) (integer b) X
  mark_raises_nothing (equal_at q) t = (omega arith, omega arith, omega arith, omega arith)
  mark_raises_nothing order_at t = (omega arith, omega arith, omega arith, omega arith)
  mark_raises_nothing logic_at t = (omega arith, omega arith, omega arith, omega arith)
  mark_raises_nothing not_at t = (omega arith, omega arith, omega arith, omega arith)
  mark_raises_nothing (assign_at {l = l} {v = v} p q) t = (omega arith, omega arith, omega (arith, store_at_length l v S), omega arith)
  mark_raises_nothing (loop_true {p = p} {e = e} {c = c} {X = X}) t = elim t [ ]
  mark_raises_nothing (loop_false {p = p} {e = e} {c = c} {X = X}) t = elim t [ ]
  mark_raises_nothing (conditional_true {p = p} {e = e} {c₁ = c₁} {c₂ = c₂} {X = X}) t = elim t [ ]
  mark_raises_nothing (conditional_false {p = p} {e = e} {c₁ = c₁} {c₂ = c₂} {X = X}) t = elim t [ ]
  mark_raises_nothing (ref_at {v = v} {X = X}) t = elim t [ ]
  mark_raises_nothing (bind_at {b = b} {X = X}) t = elim t [ ]
  mark_raises_nothing (dseq_extend_at {D₁ = D₁} {X = X}) t = elim t [ ]
  mark_raises_nothing (dseq_join_at {D₁ = D₁} {D₂ = D₂} {F = F} {X = X}) t = elim t [ ]
  mark_raises_nothing (extend_at {D = D} {X = X}) t = elim t [ ]
  mark_raises_nothing (leave_at {p = p} {m = m} {F = F} {K = K} {X = X}) t = elim t [ ]
  mark_raises_nothing {X = X} (call_at {p = p} {k = k} {fs = fs} {b = b} {F = F} {m = m} _ _) t = elim t [ ]
