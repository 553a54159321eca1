-- The rules as a function: the rule that applies in a state and what its step comes to, or `stuck` where none applies.
-- FireExact.antt shows that this function and the table of Rules.antt are the same relation.
use Rattle.std.specs.Prelude.{ℕ, suc, ◌+◌, Bool, true, false, not, List, [], ◌∷◌, ℤ, pos, length}
use Rattle.std.proofs.Math.Option.{Option, none, some}
use Rattle.rules.specs.paper.Tree.{Operator, arithmetic, Eq, order, logic, Expression, Num, Boo, Id, DeRef, ValRef, Binary, Not, Formal, Command, Assign, Loop, CSeq, block, Call, Cond, Block, Blk, Declaration, Bind, DSeq}
use Rattle.rules.specs.paper.Integers.{compute, compare, equal_integers, equal_truths, combine}
use Rattle.rules.specs.paper.States.{Value, integer, truth, location, Bindable, value, closure, Environment, empty, bound, lookup, join, Store, find, store_at, remove, Entry, bindable, name, node, environment, locations, val, Mark, operator_mark, not_mark, assign_mark, loop_mark, conditional_mark, ref_mark, bind_mark, dseq_extend_mark, dseq_join_mark, extend_mark, leave_mark, call_mark, Item, expression, command, declaration, reference, abstraction, mark, bound_item, State, state}
use Rattle.rules.specs.paper.Rules.{Rule, rule_Num, rule_Boo, rule_Id, rule_DeRef, rule_ValRef, rule_Binary, rule_Not, rule_Assign, rule_Loop, rule_CSeq, rule_Blk, rule_Call, rule_Cond, rule_Bind, rule_DSeq, rule_Ref, rule_Abs, mark_arithmetic, mark_Eq, mark_order, mark_logic, mark_Not, mark_Assign, mark_Loop, mark_Cond, mark_Ref, mark_Bind, mark_DSeq_extend, mark_DSeq_join, mark_extend, mark_leave, mark_Call, Effect, goes, pushed, equal_values, put_actuals, Matched, match_formals}

pub data Firing : Type 0 where
  stuck : Firing
  fires : Rule → Effect → Firing

-- What a rule uses, if it is there.
abbrev pub given : {A : Type 0} → Option A → (A → Firing) → Firing
given none f = stuck
given (some a) f = f a

-- The top of the value stack, if it is of the sort that the rule takes.
abbrev pub take : {A : Type 0} → (Entry → Option A) → List Entry → (A → List Entry → Firing) → Firing
take sort [] f = stuck
take sort (e ∷ X) f = given (sort e) (λ a. f a X)

abbrev pub as_bindable : Entry → Option Bindable
as_bindable (bindable b) = some b
as_bindable (name x) = none
as_bindable (node c) = none
as_bindable (environment E) = none
as_bindable (locations L) = none

abbrev pub as_value : Entry → Option Value
as_value (bindable (value v)) = some v
as_value (bindable (closure fs b E)) = none
as_value (name x) = none
as_value (node c) = none
as_value (environment E) = none
as_value (locations L) = none

abbrev pub as_integer : Entry → Option ℤ
as_integer (bindable (value (integer z))) = some z
as_integer (bindable (value (truth b))) = none
as_integer (bindable (value (location l))) = none
as_integer (bindable (closure fs b E)) = none
as_integer (name x) = none
as_integer (node c) = none
as_integer (environment E) = none
as_integer (locations L) = none

abbrev pub as_truth : Entry → Option Bool
as_truth (bindable (value (integer z))) = none
as_truth (bindable (value (truth b))) = some b
as_truth (bindable (value (location l))) = none
as_truth (bindable (closure fs b E)) = none
as_truth (name x) = none
as_truth (node c) = none
as_truth (environment E) = none
as_truth (locations L) = none

abbrev pub as_name : Entry → Option ℕ
as_name (bindable b) = none
as_name (name x) = some x
as_name (node c) = none
as_name (environment E) = none
as_name (locations L) = none

-- A Loop: its place, test and command.
pub record LoopNode : Type 0 where
  pub place : ℕ
  pub test : Expression
  pub body : Command

abbrev pub loop_node : LoopNode → Command
loop_node l = Loop l.place l.test l.body

abbrev pub as_loop : Entry → Option LoopNode
as_loop (bindable b) = none
as_loop (name x) = none
as_loop (node (Assign p x e)) = none
as_loop (node (Loop p e c)) = some (record { place = p; test = e; body = c })
as_loop (node (CSeq p c d)) = none
as_loop (node (block b)) = none
as_loop (node (Call p x es)) = none
as_loop (node (Cond p e c₁ c₂)) = none
as_loop (environment E) = none
as_loop (locations L) = none

-- A Cond: its place, test and commands.
pub record CondNode : Type 0 where
  pub place : ℕ
  pub test : Expression
  pub first : Command
  pub second : Command

abbrev pub cond_node : CondNode → Command
cond_node c = Cond c.place c.test c.first c.second

abbrev pub as_cond : Entry → Option CondNode
as_cond (bindable b) = none
as_cond (name x) = none
as_cond (node (Assign p x e)) = none
as_cond (node (Loop p e c)) = none
as_cond (node (CSeq p c d)) = none
as_cond (node (block b)) = none
as_cond (node (Call p x es)) = none
as_cond (node (Cond p e c₁ c₂)) = some (record { place = p; test = e; first = c₁; second = c₂ })
as_cond (environment E) = none
as_cond (locations L) = none

abbrev pub as_environment : Entry → Option Environment
as_environment (bindable b) = none
as_environment (name x) = none
as_environment (node c) = none
as_environment (environment E) = some E
as_environment (locations L) = none

abbrev pub as_locations : Entry → Option (List ℕ)
as_locations (bindable b) = none
as_locations (name x) = none
as_locations (node c) = none
as_locations (environment E) = none
as_locations (locations L) = some L

-- The value, location or closure that a name is bound to.
abbrev pub bound_value : Bindable → Option Value
bound_value (value v) = some v
bound_value (closure fs b E) = none

abbrev pub as_location : Value → Option ℕ
as_location (integer z) = none
as_location (truth b) = none
as_location (location l) = some l

abbrev pub bound_location : Bindable → Option ℕ
bound_location (value v) = as_location v
bound_location (closure fs b E) = none

pub record Closure : Type 0 where
  pub formals : List Formal
  pub body : Block
  pub environment_of : Environment

abbrev pub bound_closure : Bindable → Option Closure
bound_closure (value v) = none
bound_closure (closure fs b E) = some (record { formals = fs; body = b; environment_of = E })

-- What Id pushes: a plain value itself, and of a location its cell's contents.
abbrev pub id_value : Store → Value → Option Value
id_value S (integer z) = some (integer z)
id_value S (truth b) = some (truth b)
id_value S (location l) = find l S

-- A loop whose test gave this truth.
abbrev pub after_test : Bool → LoopNode → List Item → List Item
after_test true l C = command l.body ∷ command (loop_node l) ∷ C
after_test false l C = C

-- The command that a Cond takes where its test gave this truth.
abbrev pub chosen : Bool → (first second : Command) → Command
chosen true c₁ c₂ = c₁
chosen false c₁ c₂ = c₂

unfoldable pub fire_expression : Expression → List Item → List Entry → Environment → Store → List ℕ → ℕ → Firing
fire_expression (Num p k) C X E S L n = fires rule_Num (goes (state C (val (integer (pos k)) ∷ X) E S L n))
fire_expression (Boo p b) C X E S L n = fires rule_Boo (goes (state C (val (truth b) ∷ X) E S L n))
fire_expression (Id p x) C X E S L n =
    given (lookup x E) (λ b. given (bound_value b) (λ v. given (id_value S v) (λ w.
    fires rule_Id (goes (state C (val w ∷ X) E S L n)))))
fire_expression (DeRef p x) C X E S L n =
    given (lookup x E) (λ b. given (bound_location b) (λ l.
    fires rule_DeRef (goes (state C (val (location l) ∷ X) E S L n))))
fire_expression (ValRef p x) C X E S L n =
    given (lookup x E) (λ b. given (bound_location b) (λ l.
    given (find l S) (λ v. given (as_location v) (λ k. given (find k S) (λ w.
    fires rule_ValRef (goes (state C (val w ∷ X) E S L n)))))))
fire_expression (Binary p o e₁ e₂) C X E S L n =
    fires rule_Binary (goes (state (expression e₁ ∷ expression e₂ ∷ mark (operator_mark o) ∷ C) X E S L n))
fire_expression (Not p e) C X E S L n = fires rule_Not (goes (state (expression e ∷ mark not_mark ∷ C) X E S L n))

unfoldable pub fire_command : Command → List Item → List Entry → Environment → Store → List ℕ → ℕ → Firing
fire_command (Assign p x e) C X E S L n =
    fires rule_Assign (goes (state (expression e ∷ mark assign_mark ∷ C) (name x ∷ X) E S L n))
fire_command (Loop p e c) C X E S L n =
    fires rule_Loop (goes (state (expression e ∷ mark loop_mark ∷ C) (node (Loop p e c) ∷ X) E S L n))
fire_command (CSeq p c₁ c₂) C X E S L n = fires rule_CSeq (goes (state (command c₁ ∷ command c₂ ∷ C) X E S L n))
fire_command (block (Blk p d c)) C X E S L n =
    fires rule_Blk (goes (state (declaration d ∷ mark extend_mark ∷ command c ∷ mark (leave_mark p n) ∷ C) (locations L ∷ X) E S [] n))
fire_command (Call p x es) C X E S L n =
    fires rule_Call (goes (state (put_actuals es (mark (call_mark p x (length es)) ∷ C)) X E S L n))
fire_command (Cond p e c₁ c₂) C X E S L n =
    fires rule_Cond (goes (state (expression e ∷ mark conditional_mark ∷ C) (node (Cond p e c₁ c₂) ∷ X) E S L n))

abbrev pub fire_declaration : Declaration → List Item → List Entry → Environment → Store → List ℕ → ℕ → Firing
fire_declaration (Bind p x b) C X E S L n =
    fires rule_Bind (goes (state (bound_item b ∷ mark bind_mark ∷ C) (name x ∷ X) E S L n))
fire_declaration (DSeq p d₁ d₂) C X E S L n =
    fires rule_DSeq (goes (state (declaration d₁ ∷ mark dseq_extend_mark ∷ declaration d₂ ∷ mark dseq_join_mark ∷ C) X E S L n))

unfoldable pub fire_operator : Operator → List Item → List Entry → Environment → Store → List ℕ → ℕ → Firing
fire_operator (arithmetic o) C X E S L n =
    take as_integer X (λ b Y. take as_integer Y (λ a Z. fires mark_arithmetic (pushed (compute o a b) C Z E S L n)))
fire_operator Eq C X E S L n =
    take as_value X (λ b Y. take as_value Y (λ a Z. given (equal_values a b) (λ t.
    fires mark_Eq (goes (state C (val (truth t) ∷ Z) E S L n)))))
fire_operator (order o) C X E S L n =
    take as_integer X (λ b Y. take as_integer Y (λ a Z.
    fires mark_order (goes (state C (val (truth (compare o a b)) ∷ Z) E S L n))))
fire_operator (logic o) C X E S L n =
    take as_truth X (λ b Y. take as_truth Y (λ a Z.
    fires mark_logic (goes (state C (val (truth (combine o a b)) ∷ Z) E S L n))))

unfoldable pub fire_mark : Mark → List Item → List Entry → Environment → Store → List ℕ → ℕ → Firing
fire_mark (operator_mark o) C X E S L n = fire_operator o C X E S L n
fire_mark not_mark C X E S L n = take as_truth X (λ a Y. fires mark_Not (goes (state C (val (truth (not a)) ∷ Y) E S L n)))
fire_mark assign_mark C X E S L n =
    take as_value X (λ v Y. take as_name Y (λ x Z.
    given (lookup x E) (λ b. given (bound_location b) (λ l. given (find l S) (λ w.
    fires mark_Assign (goes (state C Z E (store_at l v S) L n)))))))
fire_mark loop_mark C X E S L n =
    take as_truth X (λ t Y. take as_loop Y (λ l Z. fires mark_Loop (goes (state (after_test t l C) Z E S L n))))
fire_mark conditional_mark C X E S L n =
    take as_truth X (λ t Y. take as_cond Y (λ c Z. fires mark_Cond (goes (state (command (chosen t c.first c.second) ∷ C) Z E S L n))))
fire_mark ref_mark C X E S L n =
    take as_value X (λ v Y.
    fires mark_Ref (goes (state C (val (location (length S)) ∷ Y) E (record { where_at = length S; contents = v } ∷ S) (length S ∷ L) n)))
fire_mark bind_mark C X E S L n =
    take as_bindable X (λ b Y. take as_name Y (λ x Z.
    fires mark_Bind (goes (state C (environment (bound x b empty) ∷ Z) E S L (suc n)))))
fire_mark dseq_extend_mark C X E S L n =
    take as_environment X (λ D₁ Y. fires mark_DSeq_extend (goes (state C (environment D₁ ∷ environment E ∷ Y) (join D₁ E) S L n)))
fire_mark dseq_join_mark C X E S L n =
    take as_environment X (λ D₂ Y. take as_environment Y (λ D₁ Z. take as_environment Z (λ F rest.
    fires mark_DSeq_join (goes (state C (environment (join D₂ D₁) ∷ rest) F S L n)))))
fire_mark extend_mark C X E S L n =
    take as_environment X (λ D Y. fires mark_extend (goes (state C (environment E ∷ Y) (join D E) S L n)))
fire_mark (leave_mark p m) C X E S L n =
    take as_environment X (λ F Y. take as_locations Y (λ K Z.
    fires mark_leave (goes (state C Z F (remove L S) K m))))
fire_mark (call_mark p x k) C X E S L n =
    given (lookup x E) (λ b. given (bound_closure b) (λ c.
    given (match_formals k c.formals X c.environment_of) (λ m.
    fires mark_Call
    (goes (state (command (block c.body) ∷ mark (leave_mark p n) ∷ C) (environment E ∷ locations L ∷ m.rest) m.environment_with S [] (n + k))))))

unfoldable pub fire_item : Item → List Item → List Entry → Environment → Store → List ℕ → ℕ → Firing
fire_item (expression e) C X E S L n = fire_expression e C X E S L n
fire_item (command c) C X E S L n = fire_command c C X E S L n
fire_item (declaration d) C X E S L n = fire_declaration d C X E S L n
fire_item (reference p e) C X E S L n = fires rule_Ref (goes (state (expression e ∷ mark ref_mark ∷ C) X E S L n))
fire_item (abstraction p fs b) C X E S L n = fires rule_Abs (goes (state C (bindable (closure fs b E) ∷ X) E S L n))
fire_item (mark m) C X E S L n = fire_mark m C X E S L n

unfoldable pub fire : State → Firing
fire (state [] X E S L n) = stuck
fire (state (i ∷ C) X E S L n) = fire_item i C X E S L n
