-- The function that fires a rule and the table of rules are the same relation, and at most one rule applies in any state.
use Rattle.std.specs.Prelude.{ℕ, zero, suc, ◌+◌, ◌≡◌, ◌↔◌, Bool, true, false, not, List, [], ◌∷◌, ℤ, pos, length}
use Rattle.std.proofs.Math.Path.{refl, ap}
use Rattle.std.proofs.Common.{sym, ◌∙◌, subst}
use Rattle.std.proofs.Math.Option.{Option, none, some, none-ne-some, some-injective}
use Rattle.rules.proofs.Basics.{missing}
use Rattle.rules.specs.paper.Tree.{Operator, arithmetic, Eq, order, logic, Expression, Num, Boo, Id, DeRef, ValRef, Binary, Not, Formal, Command, Assign, Loop, CSeq, block, Call, Cond, Block, Blk, Declaration, Bind, DSeq}
use Rattle.rules.specs.paper.Integers.{compute, compare, combine}
use Rattle.rules.specs.paper.States.{Value, integer, truth, location, Bindable, value, closure, Environment, lookup, Store, find, Entry, bindable, name, node, environment, locations, val, Mark, operator_mark, not_mark, assign_mark, loop_mark, conditional_mark, ref_mark, bind_mark, dseq_extend_mark, dseq_join_mark, extend_mark, leave_mark, call_mark, Item, expression, command, declaration, reference, abstraction, mark, State, state}
use Rattle.rules.specs.paper.Rules.{Rule, Effect, goes, pushed, equal_values, Matched, match_formals, Table, Applies}
use Rattle.rules.specs.paper.Rules as Rules
use Rattle.rules.specs.paper.Fire.{Firing, stuck, fires, given, take, as_bindable, as_value, as_integer, as_truth, as_name, LoopNode, loop_node, as_loop, CondNode, cond_node, as_cond, as_environment, as_locations, bound_value, as_location, bound_location, Closure, bound_closure, id_value, after_test, chosen, fire_expression, fire_command, fire_declaration, fire_operator, fire_mark, fire_item, fire}

-- ---- Each entry that a rule takes is of the form that its sort says.

is_bindable : (e : Entry) (b : Bindable) → as_bindable e ≡ some b → e ≡ bindable b
is_bindable (bindable c) b q = ap bindable (some-injective c b q)
is_bindable (name x) b q = missing q
is_bindable (node c) b q = missing q
is_bindable (environment E) b q = missing q
is_bindable (locations L) b q = missing q

is_value : (e : Entry) (v : Value) → as_value e ≡ some v → e ≡ val v
is_value (bindable (value w)) v q = ap val (some-injective w v q)
is_value (bindable (closure fs b E)) v q = missing q
is_value (name x) v q = missing q
is_value (node c) v q = missing q
is_value (environment E) v q = missing q
is_value (locations L) v q = missing q

is_integer : (e : Entry) (z : ℤ) → as_integer e ≡ some z → e ≡ val (integer z)
is_integer (bindable (value (integer y))) z q = ap (λ w. val (integer w)) (some-injective y z q)
is_integer (bindable (value (truth b))) z q = missing q
is_integer (bindable (value (location l))) z q = missing q
is_integer (bindable (closure fs b E)) z q = missing q
is_integer (name x) z q = missing q
is_integer (node c) z q = missing q
is_integer (environment E) z q = missing q
is_integer (locations L) z q = missing q

is_truth : (e : Entry) (t : Bool) → as_truth e ≡ some t → e ≡ val (truth t)
is_truth (bindable (value (integer y))) t q = missing q
is_truth (bindable (value (truth b))) t q = ap (λ w. val (truth w)) (some-injective b t q)
is_truth (bindable (value (location l))) t q = missing q
is_truth (bindable (closure fs b E)) t q = missing q
is_truth (name x) t q = missing q
is_truth (node c) t q = missing q
is_truth (environment E) t q = missing q
is_truth (locations L) t q = missing q

is_name : (e : Entry) (x : ℕ) → as_name e ≡ some x → e ≡ name x
is_name (bindable b) x q = missing q
is_name (name y) x q = ap name (some-injective y x q)
is_name (node c) x q = missing q
is_name (environment E) x q = missing q
is_name (locations L) x q = missing q

is_loop : (e : Entry) (l : LoopNode) → as_loop e ≡ some l → e ≡ node (loop_node l)
is_loop (bindable b) l q = missing q
is_loop (name x) l q = missing q
is_loop (node (Assign p x e)) l q = missing q
is_loop (node (Loop p e c)) l q = ap (λ k. node (loop_node k)) (some-injective (record { place = p; test = e; body = c }) l q)
is_loop (node (CSeq p c d)) l q = missing q
is_loop (node (block b)) l q = missing q
is_loop (node (Call p x es)) l q = missing q
is_loop (node (Cond p e c₁ c₂)) l q = missing q
is_loop (environment E) l q = missing q
is_loop (locations L) l q = missing q

is_cond : (e : Entry) (c : CondNode) → as_cond e ≡ some c → e ≡ node (cond_node c)
is_cond (bindable b) c q = missing q
is_cond (name x) c q = missing q
is_cond (node (Assign p x e)) c q = missing q
is_cond (node (Loop p e d)) c q = missing q
is_cond (node (CSeq p d₁ d₂)) c q = missing q
is_cond (node (block b)) c q = missing q
is_cond (node (Call p x es)) c q = missing q
is_cond (node (Cond p e d₁ d₂)) c q = ap (λ k. node (cond_node k)) (some-injective (record { place = p; test = e; first = d₁; second = d₂ }) c q)
is_cond (environment E) c q = missing q
is_cond (locations L) c q = missing q

is_environment : (e : Entry) (E : Environment) → as_environment e ≡ some E → e ≡ environment E
is_environment (bindable b) E q = missing q
is_environment (name x) E q = missing q
is_environment (node c) E q = missing q
is_environment (environment F) E q = ap environment (some-injective F E q)
is_environment (locations L) E q = missing q

is_locations : (e : Entry) (L : List ℕ) → as_locations e ≡ some L → e ≡ locations L
is_locations (bindable b) L q = missing q
is_locations (name x) L q = missing q
is_locations (node c) L q = missing q
is_locations (environment E) L q = missing q
is_locations (locations K) L q = ap locations (some-injective K L q)

is_location : (v : Value) (l : ℕ) → as_location v ≡ some l → v ≡ location l
is_location (integer z) l q = missing q
is_location (truth b) l q = missing q
is_location (location k) l q = ap location (some-injective k l q)

is_bound_value : (b : Bindable) (v : Value) → bound_value b ≡ some v → b ≡ value v
is_bound_value (value w) v q = ap value (some-injective w v q)
is_bound_value (closure fs b E) v q = missing q

is_bound_location : (b : Bindable) (l : ℕ) → bound_location b ≡ some l → b ≡ value (location l)
is_bound_location (value v) l q = ap value (is_location v l q)
is_bound_location (closure fs b E) l q = missing q

abbrev closure_of : Closure → Bindable
closure_of c = closure c.formals c.body c.environment_of

is_bound_closure : (b : Bindable) (c : Closure) → bound_closure b ≡ some c → b ≡ closure_of c
is_bound_closure (value v) c q = missing q
is_bound_closure (closure fs b E) c q = ap closure_of (some-injective (record { formals = fs; body = b; environment_of = E }) c q)

-- ---- What fires is a line of the table.

abbrev Sound : State → Firing → Type 0
Sound σ stuck = Unit {0}
Sound σ (fires r e) = Applies r σ e

given_sound : {A : Type 0} (P : Firing → Type 0) → P stuck → (o : Option A) (k : A → Firing) → ((a : A) → o ≡ some a → P (k a)) → P (given o k)
given_sound P s none k h = s
given_sound P s (some a) k h = h a refl

take_sound : {A : Type 0} (sort : Entry → Option A) (entry : A → Entry) → ((e : Entry) (a : A) → sort e ≡ some a → e ≡ entry a) →
    (P : List Entry → Firing → Type 0) → ((X : List Entry) → P X stuck) →
    (X : List Entry) (k : A → List Entry → Firing) → ((a : A) (Y : List Entry) → P (entry a ∷ Y) (k a Y)) → P X (take sort X k)
take_sound sort entry is P s [] k h = s []
take_sound sort entry is P s (e ∷ Y) k h =
    given_sound (P (e ∷ Y)) (s (e ∷ Y)) (sort e) (λ a. k a Y) (λ a q. subst (λ d. P (d ∷ Y) (k a Y)) (sym (is e a q)) (h a Y))

takes_two : {A B : Type 0} (sort₁ : Entry → Option A) (entry₁ : A → Entry) → ((e : Entry) (a : A) → sort₁ e ≡ some a → e ≡ entry₁ a) →
    (sort₂ : Entry → Option B) (entry₂ : B → Entry) → ((e : Entry) (b : B) → sort₂ e ≡ some b → e ≡ entry₂ b) →
    (P : List Entry → Firing → Type 0) → ((X : List Entry) → P X stuck) →
    (X : List Entry) (k : A → B → List Entry → Firing) →
    ((a : A) (b : B) (Y : List Entry) → P (entry₁ a ∷ entry₂ b ∷ Y) (k a b Y)) → P X (take sort₁ X (λ a Y. take sort₂ Y (λ b Z. k a b Z)))
takes_two sort₁ entry₁ is₁ sort₂ entry₂ is₂ P s X k h =
    take_sound sort₁ entry₁ is₁ P s X (λ a Y. take sort₂ Y (λ b Z. k a b Z))
    (λ a Y. take_sound sort₂ entry₂ is₂ (λ Z. P (entry₁ a ∷ Z)) (λ Z. s (entry₁ a ∷ Z)) Y (λ b Z. k a b Z) (λ b Z. h a b Z))

fired_rule : Rule → Firing → Rule
fired_rule r stuck = r
fired_rule r (fires s e) = s

fired_effect : Effect → Firing → Effect
fired_effect e stuck = e
fired_effect e (fires s f) = f

fires_injective : (r s : Rule) (e f : Effect) → fires r e ≡ fires s f → (r ≡ s) × (e ≡ f)
unfolding fired_rule fired_effect
fires_injective r s e f q = (ap (fired_rule r) q, ap (fired_effect e) q)

module _ (C : List Item) (E : Environment) (S : Store) (L : List ℕ) (n : ℕ) where
  abbrev At : Item → List Entry → Firing → Type 0
  At i X f = Sound (state (i ∷ C) X E S L n) f

  -- a name that is bound to a location
  located : (x l : ℕ) (b : Bindable) → lookup x E ≡ some b → bound_location b ≡ some l → lookup x E ≡ some (value (location l))
  located x l b q r = q ∙ ap {B = Option Bindable} some (is_bound_location b l r)

  id_sound : (p x : ℕ) (X : List Entry) (v w : Value) → lookup x E ≡ some (value v) → id_value S v ≡ some w →
      Table C E S L n Rules.rule_Id (expression (Id p x)) X (goes (state C (val w ∷ X) E S L n))
  id_sound p x X (integer z) w q r = subst (λ u. Table C E S L n Rules.rule_Id (expression (Id p x)) X (goes (state C (val u ∷ X) E S L n))) (some-injective (integer z) w r) (Rules.id_plain tt q)
  id_sound p x X (truth b) w q r = subst (λ u. Table C E S L n Rules.rule_Id (expression (Id p x)) X (goes (state C (val u ∷ X) E S L n))) (some-injective (truth b) w r) (Rules.id_plain tt q)
  id_sound p x X (location l) w q r = Rules.id_cell q r

  expression_sound : (e : Expression) (X : List Entry) → At (expression e) X (fire_expression e C X E S L n)
  unfolding fire_expression
  expression_sound (Num p k) X = Rules.num
  expression_sound (Boo p b) X = Rules.boo
  expression_sound (Id p x) X =
      given_sound (At (expression (Id p x)) X) tt (lookup x E) _ (λ b q.
      given_sound (At (expression (Id p x)) X) tt (bound_value b) _ (λ v r.
      given_sound (At (expression (Id p x)) X) tt (id_value S v) _ (λ w t.
      id_sound p x X v w (q ∙ ap {B = Option Bindable} some (is_bound_value b v r)) t)))
  expression_sound (DeRef p x) X =
      given_sound (At (expression (DeRef p x)) X) tt (lookup x E) _ (λ b q.
      given_sound (At (expression (DeRef p x)) X) tt (bound_location b) _ (λ l r. Rules.deref (located x l b q r)))
  expression_sound (ValRef p x) X =
      given_sound (At (expression (ValRef p x)) X) tt (lookup x E) _ (λ b q.
      given_sound (At (expression (ValRef p x)) X) tt (bound_location b) _ (λ l r.
      given_sound (At (expression (ValRef p x)) X) tt (find l S) _ (λ v t.
      given_sound (At (expression (ValRef p x)) X) tt (as_location v) _ (λ k u.
      given_sound (At (expression (ValRef p x)) X) tt (find k S) _ (λ w y.
      Rules.valref (located x l b q r) (t ∙ ap {B = Option Value} some (is_location v k u)) y)))))
  expression_sound (Binary p o e₁ e₂) X = Rules.binary
  expression_sound (Not p e) X = Rules.negation

  command_sound : (c : Command) (X : List Entry) → At (command c) X (fire_command c C X E S L n)
  unfolding fire_command
  command_sound (Assign p x e) X = Rules.assign
  command_sound (Loop p e c) X = Rules.loop
  command_sound (CSeq p c₁ c₂) X = Rules.cseq
  command_sound (block (Blk p d c)) X = Rules.blk
  command_sound (Call p x es) X = Rules.call
  command_sound (Cond p e c₁ c₂) X = Rules.conditional

  declaration_sound : (d : Declaration) (X : List Entry) → At (declaration d) X (fire_declaration d C X E S L n)
  declaration_sound (Bind p x b) X = Rules.bind
  declaration_sound (DSeq p d₁ d₂) X = Rules.dseq

  operator_sound : (o : Operator) (X : List Entry) → At (mark (operator_mark o)) X (fire_operator o C X E S L n)
  unfolding fire_operator
  operator_sound (arithmetic o) X =
      takes_two as_integer _ is_integer as_integer _ is_integer (At (mark (operator_mark (arithmetic o)))) (λ Y. tt) X _
      (λ b a Y. Rules.arithmetic_at)
  operator_sound Eq X =
      takes_two as_value _ is_value as_value _ is_value (At (mark (operator_mark Eq))) (λ Y. tt) X _
      (λ b a Y. given_sound (At (mark (operator_mark Eq)) (val b ∷ val a ∷ Y)) tt (equal_values a b) _ (λ t q. Rules.equal_at q))
  operator_sound (order o) X =
      takes_two as_integer _ is_integer as_integer _ is_integer (At (mark (operator_mark (order o)))) (λ Y. tt) X _
      (λ b a Y. Rules.order_at)
  operator_sound (logic o) X =
      takes_two as_truth _ is_truth as_truth _ is_truth (At (mark (operator_mark (logic o)))) (λ Y. tt) X _
      (λ b a Y. Rules.logic_at)

  loop_sound : (t : Bool) (l : LoopNode) (X : List Entry) →
      Table C E S L n Rules.mark_Loop (mark loop_mark) (val (truth t) ∷ node (loop_node l) ∷ X) (goes (state (after_test t l C) X E S L n))
  loop_sound true l X = Rules.loop_true
  loop_sound false l X = Rules.loop_false

  conditional_sound : (t : Bool) (c : CondNode) (X : List Entry) →
      Table C E S L n Rules.mark_Cond (mark conditional_mark) (val (truth t) ∷ node (cond_node c) ∷ X) (goes (state (command (chosen t c.first c.second) ∷ C) X E S L n))
  conditional_sound true c X = Rules.conditional_true
  conditional_sound false c X = Rules.conditional_false

  mark_sound : (m : Mark) (X : List Entry) → At (mark m) X (fire_mark m C X E S L n)
  unfolding fire_mark
  mark_sound (operator_mark o) X = operator_sound o X
  mark_sound not_mark X = take_sound as_truth _ is_truth (At (mark not_mark)) (λ Y. tt) X _ (λ a Y. Rules.not_at)
  mark_sound assign_mark X =
      takes_two as_value _ is_value as_name _ is_name (At (mark assign_mark)) (λ Y. tt) X _ (λ v x Y.
      given_sound (At (mark assign_mark) (val v ∷ name x ∷ Y)) tt (lookup x E) _ (λ b q.
      given_sound (At (mark assign_mark) (val v ∷ name x ∷ Y)) tt (bound_location b) _ (λ l r.
      given_sound (At (mark assign_mark) (val v ∷ name x ∷ Y)) tt (find l S) _ (λ w t.
      Rules.assign_at (located x l b q r) t))))
  mark_sound loop_mark X =
      takes_two as_truth _ is_truth as_loop _ is_loop (At (mark loop_mark)) (λ Y. tt) X _ (λ t l Y. loop_sound t l Y)
  mark_sound conditional_mark X =
      takes_two as_truth _ is_truth as_cond _ is_cond (At (mark conditional_mark)) (λ Y. tt) X _ (λ t c Y. conditional_sound t c Y)
  mark_sound ref_mark X = take_sound as_value _ is_value (At (mark ref_mark)) (λ Y. tt) X _ (λ v Y. Rules.ref_at)
  mark_sound bind_mark X =
      takes_two as_bindable _ is_bindable as_name _ is_name (At (mark bind_mark)) (λ Y. tt) X _ (λ b x Y. Rules.bind_at)
  mark_sound dseq_extend_mark X =
      take_sound as_environment _ is_environment (At (mark dseq_extend_mark)) (λ Y. tt) X _ (λ D₁ Y. Rules.dseq_extend_at)
  mark_sound dseq_join_mark X =
      takes_two as_environment _ is_environment as_environment _ is_environment (At (mark dseq_join_mark)) (λ Y. tt) X _ (λ D₂ D₁ Y.
      take_sound as_environment _ is_environment (λ Z. At (mark dseq_join_mark) (environment D₂ ∷ environment D₁ ∷ Z)) (λ Z. tt) Y _ (λ F Z.
      Rules.dseq_join_at))
  mark_sound extend_mark X =
      take_sound as_environment _ is_environment (At (mark extend_mark)) (λ Y. tt) X _ (λ D Y. Rules.extend_at)
  mark_sound (leave_mark p m) X =
      takes_two as_environment _ is_environment as_locations _ is_locations (At (mark (leave_mark p m))) (λ Y. tt) X _ (λ F K Y. Rules.leave_at)
  mark_sound (call_mark p x k) X =
      given_sound (At (mark (call_mark p x k)) X) tt (lookup x E) _ (λ b q.
      given_sound (At (mark (call_mark p x k)) X) tt (bound_closure b) _ (λ c r.
      given_sound (At (mark (call_mark p x k)) X) tt (match_formals k c.formals X c.environment_of) _ (λ m t.
      Rules.call_at (q ∙ ap {B = Option Bindable} some (is_bound_closure b c r)) t)))

  item_sound : (i : Item) (X : List Entry) → At i X (fire_item i C X E S L n)
  unfolding fire_item
  item_sound (expression e) X = expression_sound e X
  item_sound (command c) X = command_sound c X
  item_sound (declaration d) X = declaration_sound d X
  item_sound (reference p e) X = Rules.ref
  item_sound (abstraction p fs b) X = Rules.abs
  item_sound (mark m) X = mark_sound m X

  -- ---- A line of the table is what fires.

  plain_value : (v : Value) → Rules.IsPlain v → id_value S v ≡ some v
  plain_value (integer z) h = refl
  plain_value (truth b) h = refl
  plain_value (location l) h = absurd h

  line_fires : (r : Rule) (i : Item) (X : List Entry) (e : Effect) → Table C E S L n r i X e → fire_item i C X E S L n ≡ fires r e
  unfolding fire_item fire_expression fire_command fire_mark fire_operator
  line_fires r i X e Rules.num = refl
  line_fires r i X e Rules.boo = refl
  line_fires r i X e (Rules.id_plain {v = v} h q) = rw (q, plain_value v h)
  line_fires r i X e (Rules.id_cell q h) = rw (q, h)
  line_fires r i X e (Rules.deref q) = rw q
  line_fires r i X e (Rules.valref q h k) = rw (q, h, k)
  line_fires r i X e Rules.binary = refl
  line_fires r i X e Rules.negation = refl
  line_fires r i X e Rules.arithmetic_at = refl
  line_fires r i X e (Rules.equal_at q) = rw q
  line_fires r i X e Rules.order_at = refl
  line_fires r i X e Rules.logic_at = refl
  line_fires r i X e Rules.not_at = refl
  line_fires r i X e Rules.assign = refl
  line_fires r i X e (Rules.assign_at q h) = rw (q, h)
  line_fires r i X e Rules.loop = refl
  line_fires r i X e Rules.loop_true = refl
  line_fires r i X e Rules.loop_false = refl
  line_fires r i X e Rules.conditional = refl
  line_fires r i X e Rules.conditional_true = refl
  line_fires r i X e Rules.conditional_false = refl
  line_fires r i X e Rules.cseq = refl
  line_fires r i X e Rules.ref = refl
  line_fires r i X e Rules.ref_at = refl
  line_fires r i X e Rules.bind = refl
  line_fires r i X e Rules.bind_at = refl
  line_fires r i X e Rules.abs = refl
  line_fires r i X e Rules.dseq = refl
  line_fires r i X e Rules.dseq_extend_at = refl
  line_fires r i X e Rules.dseq_join_at = refl
  line_fires r i X e Rules.blk = refl
  line_fires r i X e Rules.extend_at = refl
  line_fires r i X e Rules.leave_at = refl
  line_fires r i X e Rules.call = refl
  line_fires r i X e (Rules.call_at q h) = rw (q, h)

fires_sound : (σ : State) → Sound σ (fire σ)
unfolding fire
fires_sound (state [] X E S L n) = tt
fires_sound (state (i ∷ C) X E S L n) = item_sound C E S L n i X

-- Where a rule applies, the function fires it with that effect.
pub applies→fires : (r : Rule) (σ : State) (e : Effect) → Applies r σ e → fire σ ≡ fires r e
unfolding fire
applies→fires r (state [] X E S L n) e h = absurd h
applies→fires r (state (i ∷ C) X E S L n) e h = line_fires C E S L n r i X e h

-- Where the function fires a rule, that rule applies with that effect.
pub fires→applies : (r : Rule) (σ : State) (e : Effect) → fire σ ≡ fires r e → Applies r σ e
fires→applies r σ e q = subst (Sound σ) q (fires_sound σ)

-- The function that fires a rule and the table of rules are the same relation.
pub fire_exact : (r : Rule) (σ : State) (e : Effect) → Applies r σ e ↔ (fire σ ≡ fires r e)
fire_exact r σ e = (applies→fires r σ e, fires→applies r σ e)

-- At most one rule applies in any state, with one effect.
pub one_rule : (σ : State) (r s : Rule) (e f : Effect) → Applies r σ e → Applies s σ f → (r ≡ s) × (e ≡ f)
one_rule σ r s e f h k = fires_injective r s e f (sym (applies→fires r σ e h) ∙ applies→fires s σ f k)
