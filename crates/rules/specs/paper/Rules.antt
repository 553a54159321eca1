-- The table of rules, one line a rule, in the form of the δ equations (paper, "The automaton"; documents 000 and 002).
-- A line reads: with this item on top of control and these entries on top of the value stack, the rule applies, and this is
-- what its step comes to. What reasons 33 to 36 test is no part of it; 31 and 32 are an effect of their own, since an
-- arithmetic mark that meets them has no state after it.
-- C is the rest of control, X of the value stack; E, S, L and n are the environment, store, location set and live bindings.
use Rattle.std.specs.Prelude.{ℕ, zero, suc, ◌+◌, ◌≡◌, Bool, true, false, not, List, [], ◌∷◌, ℤ, pos, length}
use Rattle.std.proofs.Math.Option.{Option, none, some}
use Rattle.rules.specs.paper.Tree.{Arithmetic, Order, Logic, Operator, arithmetic, Eq, order, logic, Expression, Num, Boo, Id, DeRef, ValRef, Binary, Not, Formal, Command, Assign, Loop, CSeq, block, Call, Cond, Block, Blk, Declaration, Bind, DSeq, Bound}
use Rattle.rules.specs.paper.Refusals.{Reason}
use Rattle.rules.specs.paper.Integers.{Result, number, failed, compute, compare, equal_integers, equal_truths, combine}
use Rattle.rules.specs.paper.States.{Value, integer, truth, location, Bindable, value, closure, Environment, empty, bound, lookup, join, Store, find, store_at, remove, Entry, bindable, name, node, environment, locations, val, Mark, operator_mark, not_mark, assign_mark, loop_mark, conditional_mark, ref_mark, bind_mark, dseq_extend_mark, dseq_join_mark, extend_mark, leave_mark, call_mark, Item, expression, command, declaration, reference, abstraction, mark, bound_item, State, state}

-- A rule for each kind of node, and one for each mark.
pub data Rule : Type 0 where
  rule_Num rule_Boo rule_Id rule_DeRef rule_ValRef rule_Binary rule_Not : Rule
  rule_Assign rule_Loop rule_CSeq rule_Blk rule_Call rule_Cond : Rule
  rule_Bind rule_DSeq rule_Ref rule_Abs : Rule
  mark_arithmetic mark_Eq mark_order mark_logic mark_Not : Rule
  mark_Assign mark_Loop mark_Cond mark_Ref mark_Bind mark_DSeq_extend mark_DSeq_join mark_extend mark_leave mark_Call : Rule

-- What a step comes to: the state after it, or 31 or 32, which leave none.
pub data Effect : Type 0 where
  goes : State → Effect
  fails : Reason → Effect

-- The integer of an arithmetic mark goes on the value stack.
abbrev pub pushed : Result → List Item → List Entry → Environment → Store → List ℕ → ℕ → Effect
pushed (number z) C X E S L n = goes (state C (val (integer z) ∷ X) E S L n)
pushed (failed r) C X E S L n = fails r

-- Eq takes two integers or two truths.
abbrev pub equal_values : Value → Value → Option Bool
equal_values (integer a) (integer b) = some (equal_integers a b)
equal_values (integer a) (truth b) = none
equal_values (integer a) (location b) = none
equal_values (truth a) (integer b) = none
equal_values (truth a) (truth b) = some (equal_truths a b)
equal_values (truth a) (location b) = none
equal_values (location a) b = none

-- A value that is no location: its binding is plain.
abbrev pub IsPlain : Value → Type 0
IsPlain (integer z) = Unit {0}
IsPlain (truth b) = Unit {0}
IsPlain (location l) = ⊥

-- X1 to Xn on control, the last on top: actuals run last to first (000, rule 36).
unfoldable pub put_actuals : List Expression → List Item → List Item
put_actuals [] C = C
put_actuals (e ∷ es) C = put_actuals es (expression e ∷ C)

-- The closure's environment plus Formals, and the value stack below the actuals.
pub record Matched : Type 0 where
  pub environment_with : Environment
  pub rest : List Entry

-- 002, `match`, with as many Formals as actuals. The first actual is on top of the value stack.
unfoldable pub match_formals : (count : ℕ) → List Formal → List Entry → Environment → Option Matched
match_formals zero [] X F = some (record { environment_with = F; rest = X })
match_formals zero (f ∷ fs) X F = none
match_formals (suc k) [] X F = none
match_formals (suc k) (f ∷ fs) [] F = none
match_formals (suc k) (f ∷ fs) (bindable (value v) ∷ X) F = match_formals k fs X (bound f.name (value v) F)
match_formals (suc k) (f ∷ fs) (bindable (closure gs b E) ∷ X) F = none
match_formals (suc k) (f ∷ fs) (name x ∷ X) F = none
match_formals (suc k) (f ∷ fs) (node c ∷ X) F = none
match_formals (suc k) (f ∷ fs) (environment E ∷ X) F = none
match_formals (suc k) (f ∷ fs) (locations L ∷ X) F = none

pub data Table (C : List Item) (E : Environment) (S : Store) (L : List ℕ) (n : ℕ) : Rule → Item → List Entry → Effect → Type 0 where
  -- Num, Boo, Id, DeRef, ValRef: one step, pushing the value (002, rules 11, 17, 26, 27).
  num : {p k : ℕ} {X : List Entry} →
      Table C E S L n rule_Num (expression (Num p k)) X (goes (state C (val (integer (pos k)) ∷ X) E S L n))
  boo : {p : ℕ} {b : Bool} {X : List Entry} →
      Table C E S L n rule_Boo (expression (Boo p b)) X (goes (state C (val (truth b) ∷ X) E S L n))
  -- Id of a plain binding pushes it (document 001's rule 17 knows only cells); of a cell, its contents.
  id_plain : {p x : ℕ} {v : Value} {X : List Entry} → IsPlain v → lookup x E ≡ some (value v) →
      Table C E S L n rule_Id (expression (Id p x)) X (goes (state C (val v ∷ X) E S L n))
  id_cell : {p x l : ℕ} {v : Value} {X : List Entry} → lookup x E ≡ some (value (location l)) → find l S ≡ some v →
      Table C E S L n rule_Id (expression (Id p x)) X (goes (state C (val v ∷ X) E S L n))
  -- DeRef pushes the location the name is bound to.
  deref : {p x l : ℕ} {X : List Entry} → lookup x E ≡ some (value (location l)) →
      Table C E S L n rule_DeRef (expression (DeRef p x)) X (goes (state C (val (location l) ∷ X) E S L n))
  -- ValRef pushes the contents of the cell whose location is in the named cell.
  valref : {p x l k : ℕ} {v : Value} {X : List Entry} → lookup x E ≡ some (value (location l)) → find l S ≡ some (location k) → find k S ≡ some v →
      Table C E S L n rule_ValRef (expression (ValRef p x)) X (goes (state C (val v ∷ X) E S L n))
  -- Binary: one step puts E1, E2, mark (002, rule 12); Not likewise (rule 14).
  binary : {p : ℕ} {o : Operator} {e₁ e₂ : Expression} {X : List Entry} →
      Table C E S L n rule_Binary (expression (Binary p o e₁ e₂)) X (goes (state (expression e₁ ∷ expression e₂ ∷ mark (operator_mark o) ∷ C) X E S L n))
  negation : {p : ℕ} {e : Expression} {X : List Entry} →
      Table C E S L n rule_Not (expression (Not p e)) X (goes (state (expression e ∷ mark not_mark ∷ C) X E S L n))
  -- One step at the mark. E1 ran first, so E2's value is on top (002, rules 13, 15, 16).
  arithmetic_at : {o : Arithmetic} {a b : ℤ} {X : List Entry} →
      Table C E S L n mark_arithmetic (mark (operator_mark (arithmetic o))) (val (integer b) ∷ val (integer a) ∷ X) (pushed (compute o a b) C X E S L n)
  equal_at : {a b : Value} {t : Bool} {X : List Entry} → equal_values a b ≡ some t →
      Table C E S L n mark_Eq (mark (operator_mark Eq)) (val b ∷ val a ∷ X) (goes (state C (val (truth t) ∷ X) E S L n))
  order_at : {o : Order} {a b : ℤ} {X : List Entry} →
      Table C E S L n mark_order (mark (operator_mark (order o))) (val (integer b) ∷ val (integer a) ∷ X) (goes (state C (val (truth (compare o a b)) ∷ X) E S L n))
  logic_at : {o : Logic} {a b : Bool} {X : List Entry} →
      Table C E S L n mark_logic (mark (operator_mark (logic o))) (val (truth b) ∷ val (truth a) ∷ X) (goes (state C (val (truth (combine o a b)) ∷ X) E S L n))
  not_at : {a : Bool} {X : List Entry} →
      Table C E S L n mark_Not (mark not_mark) (val (truth a) ∷ X) (goes (state C (val (truth (not a)) ∷ X) E S L n))
  -- Assign pushes its name, runs the value, and at the mark stores (002, rules 18, 19).
  assign : {p x : ℕ} {e : Expression} {X : List Entry} →
      Table C E S L n rule_Assign (command (Assign p x e)) X (goes (state (expression e ∷ mark assign_mark ∷ C) (name x ∷ X) E S L n))
  assign_at : {x l : ℕ} {v w : Value} {X : List Entry} → lookup x E ≡ some (value (location l)) → find l S ≡ some w →
      Table C E S L n mark_Assign (mark assign_mark) (val v ∷ name x ∷ X) (goes (state C X E (store_at l v S) L n))
  -- Loop pushes itself and runs the test; at the mark it is popped, and if true its command then itself go on control (002, rules 20 to 22).
  loop : {p : ℕ} {e : Expression} {c : Command} {X : List Entry} →
      Table C E S L n rule_Loop (command (Loop p e c)) X (goes (state (expression e ∷ mark loop_mark ∷ C) (node (Loop p e c) ∷ X) E S L n))
  loop_true : {p : ℕ} {e : Expression} {c : Command} {X : List Entry} →
      Table C E S L n mark_Loop (mark loop_mark) (val (truth true) ∷ node (Loop p e c) ∷ X) (goes (state (command c ∷ command (Loop p e c) ∷ C) X E S L n))
  loop_false : {p : ℕ} {e : Expression} {c : Command} {X : List Entry} →
      Table C E S L n mark_Loop (mark loop_mark) (val (truth false) ∷ node (Loop p e c) ∷ X) (goes (state C X E S L n))
  -- Cond: one step pushes the Cond and runs the test; the mark pops both and puts the first command on control if true, else the second.
  conditional : {p : ℕ} {e : Expression} {c₁ c₂ : Command} {X : List Entry} →
      Table C E S L n rule_Cond (command (Cond p e c₁ c₂)) X (goes (state (expression e ∷ mark conditional_mark ∷ C) (node (Cond p e c₁ c₂) ∷ X) E S L n))
  conditional_true : {p : ℕ} {e : Expression} {c₁ c₂ : Command} {X : List Entry} →
      Table C E S L n mark_Cond (mark conditional_mark) (val (truth true) ∷ node (Cond p e c₁ c₂) ∷ X) (goes (state (command c₁ ∷ C) X E S L n))
  conditional_false : {p : ℕ} {e : Expression} {c₁ c₂ : Command} {X : List Entry} →
      Table C E S L n mark_Cond (mark conditional_mark) (val (truth false) ∷ node (Cond p e c₁ c₂) ∷ X) (goes (state (command c₂ ∷ C) X E S L n))
  -- CSeq: one step (002, rule 23).
  cseq : {p : ℕ} {c₁ c₂ : Command} {X : List Entry} →
      Table C E S L n rule_CSeq (command (CSeq p c₁ c₂)) X (goes (state (command c₁ ∷ command c₂ ∷ C) X E S L n))
  -- Ref: one step, the value, then one step that makes a cell, puts its location in L and on V (002, rules 24, 25).
  -- The new location is the number of live cells.
  ref : {p : ℕ} {e : Expression} {X : List Entry} →
      Table C E S L n rule_Ref (reference p e) X (goes (state (expression e ∷ mark ref_mark ∷ C) X E S L n))
  ref_at : {v : Value} {X : List Entry} →
      Table C E S L n mark_Ref (mark ref_mark) (val v ∷ X) (goes (state C (val (location (length S)) ∷ X) E (record { where_at = length S; contents = v } ∷ S) (length S ∷ L) n))
  -- Bind: one step pushes the name, the value runs, and the mark replaces both by a one-name environment (000, rules 28, 29).
  -- The name is a live binding from here.
  bind : {p x : ℕ} {b : Bound} {X : List Entry} →
      Table C E S L n rule_Bind (declaration (Bind p x b)) X (goes (state (bound_item b ∷ mark bind_mark ∷ C) (name x ∷ X) E S L n))
  bind_at : {x : ℕ} {b : Bindable} {X : List Entry} →
      Table C E S L n mark_Bind (mark bind_mark) (bindable b ∷ name x ∷ X) (goes (state C (environment (bound x b empty) ∷ X) E S L (suc n)))
  -- Abs: one step to a closure of Formals, Blk and E (002, rule 35).
  abs : {p : ℕ} {fs : List Formal} {b : Block} {X : List Entry} →
      Table C E S L n rule_Abs (abstraction p fs b) X (goes (state C (bindable (closure fs b E) ∷ X) E S L n))
  -- DSeq: one step puts D1, the first mark, D2 and the second mark on control. These three lines stand in place of 000's rules 30
  -- and 31, by which D2 did not see D1's names.
  dseq : {p : ℕ} {d₁ d₂ : Declaration} {X : List Entry} →
      Table C E S L n rule_DSeq (declaration (DSeq p d₁ d₂)) X
      (goes (state (declaration d₁ ∷ mark dseq_extend_mark ∷ declaration d₂ ∷ mark dseq_join_mark ∷ C) X E S L n))
  -- The first mark keeps E on the value stack under D1's environment and adds D1's names to E: D2 sees them.
  dseq_extend_at : {D₁ : Environment} {X : List Entry} →
      Table C E S L n mark_DSeq_extend (mark dseq_extend_mark) (environment D₁ ∷ X) (goes (state C (environment D₁ ∷ environment E ∷ X) (join D₁ E) S L n))
  -- The second joins the two environments and brings E back. D2's environment is on top.
  dseq_join_at : {D₁ D₂ F : Environment} {X : List Entry} →
      Table C E S L n mark_DSeq_join (mark dseq_join_mark) (environment D₂ ∷ environment D₁ ∷ environment F ∷ X)
      (goes (state C (environment (join D₂ D₁) ∷ X) F S L n))
  -- Blk (002, rule 32): push L, set it empty, run the declaration, mark, command, mark.
  blk : {p : ℕ} {d : Declaration} {c : Command} {X : List Entry} →
      Table C E S L n rule_Blk (command (block (Blk p d c))) X (goes (state (declaration d ∷ mark extend_mark ∷ command c ∷ mark (leave_mark p n) ∷ C) (locations L ∷ X) E S [] n))
  -- The first mark replaces the declaration's environment on V by E, and adds its names to E (002, rule 33).
  extend_at : {D : Environment} {X : List Entry} →
      Table C E S L n mark_extend (mark extend_mark) (environment D ∷ X) (goes (state C (environment E ∷ X) (join D E) S L n))
  -- The second pops E and the old L. It removes from S the block's own L; both documents' rule 34 removes the caller's.
  leave_at : {p m : ℕ} {F : Environment} {K : List ℕ} {X : List Entry} →
      Table C E S L n mark_leave (mark (leave_mark p m)) (environment F ∷ locations K ∷ X) (goes (state C X F (remove L S) K m))
  -- Call: one step puts all actuals and the mark on control (000, rule 36).
  call : {p x : ℕ} {es : List Expression} {X : List Entry} →
      Table C E S L n rule_Call (command (Call p x es)) X (goes (state (put_actuals es (mark (call_mark p x (length es)) ∷ C)) X E S L n))
  -- The mark pushes L, then E, sets L empty, sets the environment to the closure's plus Formals, and runs the Blk with the
  -- block's second mark behind it. Rule 37 forgets L. The Formals are live bindings from here.
  call_at : {p x k : ℕ} {fs : List Formal} {b : Block} {F : Environment} {m : Matched} {X : List Entry} →
      lookup x E ≡ some (closure fs b F) → match_formals k fs X F ≡ some m →
      Table C E S L n mark_Call (mark (call_mark p x k)) X
      (goes (state (command (block b) ∷ mark (leave_mark p n) ∷ C) (environment E ∷ locations L ∷ m.rest) m.environment_with S [] (n + k)))

-- "A rule applies when its node or mark is on top of control and the entries of V, bindings and cell contents it uses are
-- there and of the sorts it takes" (paper, "Agreement between supplier and tester").
abbrev pub Applies : Rule → State → Effect → Type 0
Applies r (state [] X E S L n) e = ⊥
Applies r (state (i ∷ C) X E S L n) e = Table C E S L n r i X e
