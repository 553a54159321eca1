-- The rules of Bind, DSeq, Ref and Abs.
use Prim.Native.Nat.{ℕ, suc, ◌+◌, ◌*◌, ◌<◌, ◌≤◌}
use mathlib.Core.Path.{◌≡◌, refl, sym, ap, ◌∙◌, subst}
use mathlib.Core.Bool.{false}
use mathlib.Core.List.{List, [], ◌∷◌}
use native.Mathlib.Omega.{arith}
use lib.ListN.{get_or}
use Rattle.rules.specs.paper.Tree.{Expression, Formal, Block, Declaration, Bind, DSeq, Bound, Ref, Abs}
use Rattle.rules.specs.paper.Limits.{names, most_nodes, most_bindings}
use Rattle.rules.specs.paper.States.{closure, Environment, Store, Entry, bindable, name, Item, expression, declaration, reference, abstraction, mark, ref_mark, bind_mark, dseq_extend_mark, dseq_join_mark, bound_item, state}
use Rattle.rules.specs.paper.Rules.{Rule, Effect, goes, Table}
use Rattle.rules.specs.paper.Rules as Rules
use Rattle.rules.specs.paper.Run.{judge}
use Rattle.machine.specs.Layout.{row_labels, row_payloads, closure_unit, mark_word}
use Rattle.reader.specs.Pack.{packed_operand, packed_end}
use Rattle.reader.specs.Stored.{HasWord, StoredExpression, StoredDeclaration, bind, dseq, StoredBound, plain_of, ref, abs}
use Rattle.reader.proofs.StoredFields.{operand_is}
use Rattle.machine.specs.Regions.{slots, regions}
use Rattle.machine.specs.Represents.{SegmentAs, no_row, one_row, closure_as, Stage, declaring, ControlAs, expression_on, declaration_on, reference_on, abstraction_on, ref_on, bind_on, dseq_extend_on, dseq_join_on, name_on}
use Rattle.machine.specs.Steps.{StepAnswer, Applicable, Steps, Puts, Pushes, Enters}
use Rattle.machine.specs.declared.Machine.{Machine}
use Rattle.std.specs.Prelude.{Result}
use Rattle.machine.proofs.state_laws.NodeLaws.{node_word}
use Rattle.machine.proofs.state_laws.ModelLaws.{with_items}
use Rattle.machine.proofs.memory_laws.LookupLaws.{slot_words}
use Rattle.reader.proofs.StandingLaws.{after_node, declaration_root}
use Rattle.machine.proofs.state_laws.ItemLaws.{node_end, declaration_top, reference_top, abstraction_top}
use Rattle.rules.specs.declared.refusals.Reason.{Reason}

-- The place of a declaration on top of control is a node's.
pub declaration_low : (words : List ℕ) (m : Machine) (w : ℕ) (c : Declaration) → Applicable words m w (declaration c) → w < most_nodes
declaration_low words m w c a = (declaration_root (declaration_top (regions words m) w c a.ready.models).stored).word.place_low

-- ---- Bind.

record BindAt (nodes : List ℕ) (i x : ℕ) (b : Bound) : Type 0 where
  depth : ℕ
  next : ℕ
  name_low : x < names
  word : HasWord nodes i 30 x next
  bound : StoredBound nodes depth (i + 1) next b

bind_at : {nodes : List ℕ} {d i j p x : ℕ} {b : Bound} → StoredDeclaration nodes d i j (Bind p x b) → BindAt nodes i x b
bind_at {nodes} {b = b} (bind {d = d} {i = i} {j = j} l h a) =
    record { depth = d; next = j; name_low = l; word = h; bound = subst (λ k. StoredBound nodes d k j b) (after_node i) a }

bind_effect : {C : List Item} {E : Environment} {S : Store} {L : List ℕ} {n : ℕ} {r : Rule} {p x : ℕ} {b : Bound} {X : List Entry} {f : Effect} →
    Table C E S L n r (declaration (Bind p x b)) X f → goes (state (bound_item b ∷ mark bind_mark ∷ C) (name x ∷ X) E S L n) ≡ f
bind_effect Rules.bind = refl

-- What a Bind binds, on control.
bound_on : {nodes : List ℕ} {g : Stage} {d i j k : ℕ} {b : Bound} {ms ws : List ℕ} {C : List Item} → StoredBound nodes d i j b →
    ControlAs nodes (declaring g k ms) ws C → ControlAs nodes (declaring g k ms) (i ∷ ws) (bound_item b ∷ C)
bound_on (plain_of s) h = expression_on s h
bound_on (ref w s) h = reference_on (ref w s) h
bound_on (abs l w s t) h = abstraction_on (abs l w s t) h

pub bind_steps : (words : List ℕ) (m : Machine) (i : ℕ) (r : Result Machine Reason) (after : List ℕ) (x' : ℕ) →
    x' ≡ packed_operand (get_or words i 0) → Enters words m x' ((i + 1) ∷ mark_word bind_mark ∷ []) r after →
    (x : ℕ) (b : Bound) → Steps words m i (declaration (Bind i x b)) r after
bind_steps words m i r after x' q enters x b C X E S L n rule f ready =
    let t = declaration_top (regions words m) i (Bind i x b) ready.models in
    let a = bind_at t.stored in
    let u = t.rest in
    subst (λ g. StepAnswer (judge false g) r words after) (bind_effect ready.applies)
    (enters (bound_item b ∷ mark bind_mark ∷ C) X E S L n (name x) (declaring t.stage t.bindings t.blocks) u
    (bound_on a.bound (bind_on refl t.control_as))
    (λ label. name_on (q ∙ operand_is (node_word words m a.word) (omega arith)) a.name_low u.values_as))

-- ---- DSeq.

record JoinAt (nodes : List ℕ) (i : ℕ) (d₁ d₂ : Declaration) : Type 0 where
  depth : ℕ
  middle : ℕ
  next : ℕ
  first : StoredDeclaration nodes depth (i + 1) middle d₁
  second : StoredDeclaration nodes depth middle next d₂

join_at : {nodes : List ℕ} {d i j p : ℕ} {d₁ d₂ : Declaration} → StoredDeclaration nodes d i j (DSeq p d₁ d₂) → JoinAt nodes i d₁ d₂
join_at {nodes} {d₁ = d₁} (dseq {d = d} {i = i} {j = j} {k = k} h a b) =
    record { depth = d; middle = j; next = k; first = subst (λ l. StoredDeclaration nodes d l j d₁) (after_node i) a; second = b }

join_effect : {C : List Item} {E : Environment} {S : Store} {L : List ℕ} {n : ℕ} {r : Rule} {p : ℕ} {d₁ d₂ : Declaration} {X : List Entry} {f : Effect} →
    Table C E S L n r (declaration (DSeq p d₁ d₂)) X f →
    goes (state (declaration d₁ ∷ mark dseq_extend_mark ∷ declaration d₂ ∷ mark dseq_join_mark ∷ C) X E S L n) ≡ f
join_effect Rules.dseq = refl

-- The first declaration's place is a node's.
pub declaration_sequence_low : (words : List ℕ) (m : Machine) (i : ℕ) (d₁ d₂ : Declaration) → Applicable words m i (declaration (DSeq i d₁ d₂)) →
    i + 1 < most_nodes
declaration_sequence_low words m i d₁ d₂ a =
    (declaration_root (join_at (declaration_top (regions words m) i (DSeq i d₁ d₂) a.ready.models).stored).first).word.place_low

pub declaration_sequence_steps : (words : List ℕ) (m : Machine) (i : ℕ) (r : Result Machine Reason) (after : List ℕ) (second : ℕ) →
    second ≡ packed_end (get_or words (i + 1) 0) →
    Puts words m ((i + 1) ∷ mark_word dseq_extend_mark ∷ second ∷ mark_word dseq_join_mark ∷ []) r after → (d₁ d₂ : Declaration) →
    Steps words m i (declaration (DSeq i d₁ d₂)) r after
declaration_sequence_steps words m i r after second q puts d₁ d₂ C X E S L n rule f ready =
    let t = declaration_top (regions words m) i (DSeq i d₁ d₂) ready.models in
    let a = join_at t.stored in
    let place = q ∙ node_end words m (declaration_root a.first) in
    subst (λ g. StepAnswer (judge false g) r words after) (join_effect ready.applies)
    (puts (declaration d₁ ∷ mark dseq_extend_mark ∷ declaration d₂ ∷ mark dseq_join_mark ∷ C) X E S L n (declaring t.stage t.bindings t.blocks) t.rest
    (declaration_on a.first
    (dseq_extend_on refl
    (declaration_on (subst (λ k. StoredDeclaration (regions words m).nodes a.depth k a.next d₂) (sym place) a.second)
    (dseq_join_on refl t.control_as)))))

-- ---- Ref.

record ReferenceAt (nodes : List ℕ) (i : ℕ) (e : Expression) : Type 0 where
  depth : ℕ
  next : ℕ
  place_low : i < most_nodes
  contents : StoredExpression nodes depth (i + 1) next e

reference_at : {nodes : List ℕ} {d i j p : ℕ} {e : Expression} → StoredBound nodes d i j (Ref p e) → ReferenceAt nodes i e
reference_at {nodes} {e = e} (ref {d = d} {i = i} {j = j} h a) =
    record { depth = d; next = j; place_low = h.place_low; contents = subst (λ k. StoredExpression nodes d k j e) (after_node i) a }

reference_effect : {C : List Item} {E : Environment} {S : Store} {L : List ℕ} {n : ℕ} {r : Rule} {p : ℕ} {e : Expression} {X : List Entry} {f : Effect} →
    Table C E S L n r (reference p e) X f → goes (state (expression e ∷ mark ref_mark ∷ C) X E S L n) ≡ f
reference_effect Rules.ref = refl

pub reference_low : (words : List ℕ) (m : Machine) (w p : ℕ) (e : Expression) → Applicable words m w (reference p e) → w < most_nodes
reference_low words m w p e a = (reference_at (reference_top (regions words m) w p e a.ready.models).stored).place_low

pub reference_steps : (words : List ℕ) (m : Machine) (i : ℕ) (r : Result Machine Reason) (after : List ℕ) →
    Puts words m ((i + 1) ∷ mark_word ref_mark ∷ []) r after →
    (p : ℕ) (e : Expression) → Steps words m i (reference p e) r after
reference_steps words m i r after puts p e C X E S L n rule f ready =
    let t = reference_top (regions words m) i p e ready.models in
    subst (λ g. StepAnswer (judge false g) r words after) (reference_effect ready.applies)
    (puts (expression e ∷ mark ref_mark ∷ C) X E S L n (declaring t.stage t.bindings t.blocks) t.rest
    (expression_on (reference_at t.stored).contents (ref_on refl t.control_as)))

-- ---- Abs.

record AbstractionAt (nodes : List ℕ) (i : ℕ) (fs : List Formal) (b : Block) : Type 0 where
  depth : ℕ
  next : ℕ
  place_low : i < most_nodes
  stored : StoredBound nodes depth i next (Abs i fs b)

abstraction_at : {nodes : List ℕ} {d i j p : ℕ} {fs : List Formal} {b : Block} → StoredBound nodes d i j (Abs p fs b) → AbstractionAt nodes i fs b
abstraction_at (abs {d = d} {i = i} {k = k} l h a c) = record { depth = suc d; next = k; place_low = h.place_low; stored = abs l h a c }

abstraction_effect : {C : List Item} {E : Environment} {S : Store} {L : List ℕ} {n : ℕ} {r : Rule} {p : ℕ} {fs : List Formal} {b : Block} {X : List Entry} {f : Effect} →
    Table C E S L n r (abstraction p fs b) X f → goes (state C (bindable (closure fs b E) ∷ X) E S L n) ≡ f
abstraction_effect Rules.abs = refl

pub abstraction_low : (words : List ℕ) (m : Machine) (w p : ℕ) (fs : List Formal) (b : Block) → Applicable words m w (abstraction p fs b) →
    w < most_nodes
abstraction_low words m w p fs b a = (abstraction_at (abstraction_top (regions words m) w p fs b a.ready.models).stored).place_low

-- A pointer is at most the number of rows.
segment_low : {nodes : List ℕ} (l p k : ℕ) (words : List ℕ) {at : ℕ} {E : Environment} → SegmentAs nodes (slots l p k words) at 0 E → at ≤ k
segment_low l p k words no_row = omega arith
segment_low l p k words (one_row {i = i} {s = s} q a b c d e f) = omega (arith, (slot_words l p k words i s q).within)

pub environment_low : (words : List ℕ) (m : Machine) (w p : ℕ) (fs : List Formal) (b : Block) → Applicable words m w (abstraction p fs b) →
    m.environment ≤ most_bindings
unfolding regions
environment_low words m w p fs b a = omega (
  arith,
  segment_low row_labels row_payloads m.bindings words a.ready.models.environment_as,
  a.ready.fits.few_bindings,
)

environment_is : (words : List ℕ) (m : Machine) → m.environment ≡ (regions words m).environment
unfolding regions
environment_is words m = refl

pub abstraction_steps : (words : List ℕ) (m : Machine) (i : ℕ) (r : Result Machine Reason) (after : List ℕ) →
    Pushes words m 0 (i + closure_unit * m.environment) r after →
    (p : ℕ) (fs : List Formal) (b : Block) → Steps words m i (abstraction p fs b) r after
abstraction_steps words m i r after pushes p fs b C X E S L n rule f ready =
    let t = abstraction_top (regions words m) i p fs b ready.models in
    let a = abstraction_at t.stored in
    let u = t.rest in
    subst (λ g. StepAnswer (judge false g) r words after) (abstraction_effect ready.applies)
    (pushes C X E S L n (closure fs b E) (with_items t.control_as u)
    (closure_as (ap (λ k. i + closure_unit * k) (environment_is words m)) a.place_low a.stored u.environment_as))
