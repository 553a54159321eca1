-- The rules of Assign, Loop, Cond and CSeq, and which command stands at a place by its kind.
use Prim.Native.Nat.{ℕ, suc, ◌+◌, ◌<◌}
use mathlib.Core.Path.{◌≡◌, refl, sym, ◌∙◌, subst}
use mathlib.Core.Bool.{false}
use mathlib.Core.List.{List, [], ◌∷◌}
use native.Mathlib.Omega.{arith}
use lib.ListN.{get_or}
use Rattle.rules.specs.paper.Tree.{Expression, Command, Assign, Loop, CSeq, Cond}
use Rattle.rules.specs.paper.Limits.{names, most_nodes}
use Rattle.rules.specs.paper.States.{Environment, Store, Entry, name, node, Item, expression, command, mark, Mark, assign_mark, loop_mark, conditional_mark, state}
use Rattle.rules.specs.paper.Rules.{Rule, Effect, goes, Table}
use Rattle.rules.specs.paper.Rules as Rules
use Rattle.rules.specs.paper.Run.{judge}
use Rattle.machine.specs.Layout.{mark_word}
use Rattle.reader.specs.Pack.{packed_operand, packed_end}
use Rattle.reader.specs.Stored.{HasWord, StoredExpression, StoredCommand, assign, loop, cseq, conditional}
use Rattle.reader.proofs.StoredFields.{operand_is}
use Rattle.machine.specs.Regions.{regions}
use Rattle.machine.specs.Represents.{running, ControlAs, expression_on, command_on, assign_on, loop_on, conditional_on, name_on, node_on}
use Rattle.machine.specs.Steps.{StepAnswer, Applicable, Steps, Puts, Enters}
use Rattle.machine.specs.declared.Machine.{Machine}
use Rattle.std.specs.Prelude.{Result}
use Rattle.machine.proofs.state_laws.NodeLaws.{node_word}
use Rattle.reader.proofs.StandingLaws.{after_node, command_root}
use Rattle.machine.proofs.state_laws.ItemLaws.{node_end, command_top}
use Rattle.rules.specs.declared.refusals.Reason.{Reason}

-- The place of a command on top of control is a node's.
pub command_low : (words : List ℕ) (m : Machine) (w : ℕ) (c : Command) → Applicable words m w (command c) → w < most_nodes
command_low words m w c a = (command_root (command_top (regions words m) w c a.ready.models).stored).word.place_low

-- ---- Assign.

record AssignAt (nodes : List ℕ) (i x : ℕ) (e : Expression) : Type 0 where
  depth : ℕ
  next : ℕ
  name_low : x < names
  word : HasWord nodes i 20 x next
  assigned : StoredExpression nodes depth (i + 1) next e

assign_at : {nodes : List ℕ} {d i j p x : ℕ} {e : Expression} → StoredCommand nodes d i j (Assign p x e) → AssignAt nodes i x e
assign_at {nodes} {e = e} (assign {d = d} {i = i} {j = j} l h a) =
    record { depth = d; next = j; name_low = l; word = h; assigned = subst (λ k. StoredExpression nodes d k j e) (after_node i) a }

assign_effect : {C : List Item} {E : Environment} {S : Store} {L : List ℕ} {n : ℕ} {r : Rule} {p x : ℕ} {e : Expression} {X : List Entry} {f : Effect} →
    Table C E S L n r (command (Assign p x e)) X f → goes (state (expression e ∷ mark assign_mark ∷ C) (name x ∷ X) E S L n) ≡ f
assign_effect Rules.assign = refl

pub assign_steps : (words : List ℕ) (m : Machine) (i : ℕ) (r : Result Machine Reason) (after : List ℕ) (x' : ℕ) →
    x' ≡ packed_operand (get_or words i 0) → Enters words m x' ((i + 1) ∷ mark_word assign_mark ∷ []) r after →
    (x : ℕ) (e : Expression) → Steps words m i (command (Assign i x e)) r after
assign_steps words m i r after x' q enters x e C X E S L n rule f ready =
    let t = command_top (regions words m) i (Assign i x e) ready.models in
    let a = assign_at t.stored in
    let u = t.rest in
    subst (λ g. StepAnswer (judge false g) r words after) (assign_effect ready.applies)
    (enters (expression e ∷ mark assign_mark ∷ C) X E S L n (name x) (running t.blocks) u (expression_on a.assigned (assign_on refl t.control_as))
    (λ label. name_on (q ∙ operand_is (node_word words m a.word) (omega arith)) a.name_low u.values_as))

-- ---- Loop and Cond: the node on the value stack, its test and the mark on control.

record TestAt (nodes : List ℕ) (i : ℕ) (e : Expression) : Type 0 where
  depth : ℕ
  next : ℕ
  test : StoredExpression nodes depth (i + 1) next e

test_at : {nodes : List ℕ} {d i j : ℕ} {e : Expression} → StoredExpression nodes d (suc i) j e → TestAt nodes i e
test_at {nodes} {d} {i} {j} {e} a = record { depth = d; next = j; test = subst (λ k. StoredExpression nodes d k j e) (after_node i) a }

loop_test : {nodes : List ℕ} {d i j p : ℕ} {e : Expression} {c : Command} → StoredCommand nodes d i j (Loop p e c) → TestAt nodes i e
loop_test (loop h a b) = test_at a

conditional_test : {nodes : List ℕ} {d i j p : ℕ} {e : Expression} {c₁ c₂ : Command} → StoredCommand nodes d i j (Cond p e c₁ c₂) → TestAt nodes i e
conditional_test (conditional h a b c) = test_at a

-- What the rule of a node of either kind comes to.
abbrev Tests : (k : Mark) (c : Command) (e : Expression) → Type 0
Tests k c e =
    (C : List Item) (E : Environment) (S : Store) (L : List ℕ) (n : ℕ) (r : Rule) (X : List Entry) (f : Effect) →
    Table C E S L n r (command c) X f → goes (state (expression e ∷ mark k ∷ C) (node c ∷ X) E S L n) ≡ f

loop_effect : {p : ℕ} {e : Expression} {c : Command} → Tests loop_mark (Loop p e c) e
loop_effect C E S L n r X f Rules.loop = refl

conditional_effect : {p : ℕ} {e : Expression} {c₁ c₂ : Command} → Tests conditional_mark (Cond p e c₁ c₂) e
conditional_effect C E S L n r X f Rules.conditional = refl

module _ (words : List ℕ) (m : Machine) (i : ℕ) (r : Result Machine Reason) (after : List ℕ) where
  test_steps : (k : Mark) → Enters words m i ((i + 1) ∷ mark_word k ∷ []) r after → (c : Command) (e : Expression) →
      ((nodes : List ℕ) (d j : ℕ) → StoredCommand nodes d i j c → TestAt nodes i e) → Tests k c e →
      ((nodes ms ws : List ℕ) (C : List Item) → ControlAs nodes (running ms) ws C → ControlAs nodes (running ms) (mark_word k ∷ ws) (mark k ∷ C)) →
      Steps words m i (command c) r after
  test_steps k enters c e test effect on C X E S L n rule f ready =
      let t = command_top (regions words m) i c ready.models in
      let u = t.rest in
      subst (λ g. StepAnswer (judge false g) r words after) (effect C E S L n rule X f ready.applies)
      (enters (expression e ∷ mark k ∷ C) X E S L n (node c) (running t.blocks) u (expression_on (test _ _ _ t.stored).test (on _ _ _ C t.control_as))
      (λ label. node_on t.stored u.values_as))

  pub loop_steps : Enters words m i ((i + 1) ∷ mark_word loop_mark ∷ []) r after → (e : Expression) (c : Command) →
      Steps words m i (command (Loop i e c)) r after
  loop_steps enters e c = test_steps loop_mark enters (Loop i e c) e (λ nodes d j. loop_test) loop_effect (λ nodes ms ws C. loop_on refl)

  pub conditional_steps : Enters words m i ((i + 1) ∷ mark_word conditional_mark ∷ []) r after → (e : Expression) (c₁ c₂ : Command) →
      Steps words m i (command (Cond i e c₁ c₂)) r after
  conditional_steps enters e c₁ c₂ = test_steps conditional_mark enters (Cond i e c₁ c₂) e (λ nodes d j. conditional_test) conditional_effect
      (λ nodes ms ws C. conditional_on refl)

-- ---- CSeq.

record SequenceAt (nodes : List ℕ) (i : ℕ) (c₁ c₂ : Command) : Type 0 where
  depth : ℕ
  middle : ℕ
  next : ℕ
  first : StoredCommand nodes depth (i + 1) middle c₁
  second : StoredCommand nodes depth middle next c₂

sequence_at : {nodes : List ℕ} {d i j p : ℕ} {c₁ c₂ : Command} → StoredCommand nodes d i j (CSeq p c₁ c₂) → SequenceAt nodes i c₁ c₂
sequence_at {nodes} {c₁ = c₁} (cseq {d = d} {i = i} {j = j} {k = k} h a b) =
    record { depth = d; middle = j; next = k; first = subst (λ l. StoredCommand nodes d l j c₁) (after_node i) a; second = b }

sequence_effect : {C : List Item} {E : Environment} {S : Store} {L : List ℕ} {n : ℕ} {r : Rule} {p : ℕ} {c₁ c₂ : Command} {X : List Entry} {f : Effect} →
    Table C E S L n r (command (CSeq p c₁ c₂)) X f → goes (state (command c₁ ∷ command c₂ ∷ C) X E S L n) ≡ f
sequence_effect Rules.cseq = refl

-- The first command's place is a node's.
pub sequence_low : (words : List ℕ) (m : Machine) (i : ℕ) (c₁ c₂ : Command) → Applicable words m i (command (CSeq i c₁ c₂)) → i + 1 < most_nodes
sequence_low words m i c₁ c₂ a = (command_root
    (sequence_at (command_top (regions words m) i (CSeq i c₁ c₂) a.ready.models).stored).first).word.place_low

pub sequence_steps : (words : List ℕ) (m : Machine) (i : ℕ) (r : Result Machine Reason) (after : List ℕ) (second : ℕ) →
    second ≡ packed_end (get_or words (i + 1) 0) → Puts words m ((i + 1) ∷ second ∷ []) r after →
    (c₁ c₂ : Command) → Steps words m i (command (CSeq i c₁ c₂)) r after
sequence_steps words m i r after second q puts c₁ c₂ C X E S L n rule f ready =
    let t = command_top (regions words m) i (CSeq i c₁ c₂) ready.models in
    let a = sequence_at t.stored in
    let place = q ∙ node_end words m (command_root a.first) in
    subst (λ g. StepAnswer (judge false g) r words after) (sequence_effect ready.applies)
    (puts (command c₁ ∷ command c₂ ∷ C) X E S L n (running t.blocks) t.rest
    (command_on a.first (command_on (subst (λ k. StoredCommand (regions words m).nodes a.depth k a.next c₂) (sym place) a.second) t.control_as)))
