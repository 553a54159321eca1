-- Which rule's function the item on top of control goes to, by its word and its node's kind.
use Prim.Native.Nat.{ℕ, ◌+◌, ◌<◌, ◌≤◌}
use mathlib.Core.Path.{◌≡◌, sym, ◌∙◌, subst}
use mathlib.Core.List.{List}
use native.Mathlib.Omega.{arith}
use lib.ListN.{get_or}
use Rattle.rules.specs.paper.Kinds.{kind_number}
use Rattle.rules.specs.declared.kinds.Kind.{Kind}
use Rattle.rules.specs.declared.kinds.Kind.TheVariants.{Expression as expression_kind, Command as command_kind, Declaration as declaration_kind, Ref as ref, Abs as abs, Formal as formal}
use Rattle.rules.specs.paper.Limits.{most_nodes}
use Rattle.rules.specs.paper.Tree.{Expression, Formal, Command, Block, Declaration}
use Rattle.rules.specs.paper.States.{Item, Mark, expression, command, declaration, reference, abstraction, mark}
use Rattle.machine.specs.Layout.{top_control, mark_base}
use Rattle.reader.specs.Pack.{packed_kind}
use Rattle.reader.specs.NodeKinds.{expression_kind_of, command_kind_of, declaration_kind_of, Known}
use Rattle.reader.proofs.NodeKindLaws.{kinds_told}
use Rattle.machine.specs.Steps.{Applicable, Steps}
use Rattle.automaton.specs.Runs.{Enabled, StepsFrom}
use Rattle.machine.specs.declared.Machine.{Machine}
use Rattle.std.specs.Prelude.{Result}
use Rattle.rules.specs.declared.refusals.Reason.{Reason}
use Rattle.automaton.proofs.step_laws.StepLaws.{lowered, ItemSort, expression_sort, command_sort, declaration_sort, reference_sort, abstraction_sort, mark_sort, taken}

-- ---- What the kind of its node, or the mark's word, says of the item.

-- Some item whose node is of this kind.
abbrev pub SomeOf : (Item → Type 0) → Kind → Type 0
SomeOf P (expression_kind x) = (e : Expression) × P (expression e)
SomeOf P (command_kind x) = (c : Command) × P (command c)
SomeOf P (declaration_kind x) = (d : Declaration) × P (declaration d)
SomeOf P ref = (p : ℕ) × (e : Expression) × P (reference p e)
SomeOf P abs = (p : ℕ) × (fs : List Formal) × (b : Block) × P (abstraction p fs b)
SomeOf P formal = ⊥

-- Each of them.
abbrev pub EachOf : (Item → Type 0) → Kind → Type 0
EachOf P (expression_kind x) = (e : Expression) → P (expression e)
EachOf P (command_kind x) = (c : Command) → P (command c)
EachOf P (declaration_kind x) = (d : Declaration) → P (declaration d)
EachOf P ref = (p : ℕ) (e : Expression) → P (reference p e)
EachOf P abs = (p : ℕ) (fs : List Formal) (b : Block) → P (abstraction p fs b)
EachOf P formal = Unit {0}

module _ (words : List ℕ) (w : ℕ) (P : Item → Type 0) where
  module _ (low : w < mark_base) where
    module _ (k : Kind) (q : kind_number k ≡ packed_kind (get_or words w 0)) where
      to : (l : Kind) → packed_kind (get_or words w 0) ≡ kind_number l → SomeOf P l → SomeOf P k
      to l n h = subst (SomeOf P) (sym (kinds_told k l (q ∙ n))) h

      from : (l : Kind) → packed_kind (get_or words w 0) ≡ kind_number l → EachOf P k → EachOf P l
      from l n h = subst (EachOf P) (kinds_told k l (q ∙ n)) h

      some_of : {i : Item} → ItemSort words w i → P i → SomeOf P k
      some_of (expression_sort {e = e} l n) p = to (expression_kind (expression_kind_of e)) n (e, p)
      some_of (command_sort {c = c} l n) p = to (command_kind (command_kind_of c)) n (c, p)
      some_of (declaration_sort {d = d} l n) p = to (declaration_kind (declaration_kind_of d)) n (d, p)
      some_of (reference_sort {p = b} {e = e} l n) p = to ref n (b, e, p)
      some_of (abstraction_sort {p = b} {fs = fs} {b = c} l n) p = to abs n (b, fs, c, p)
      some_of (mark_sort l) p = absurd (omega (arith, l, low))

      each_of : {i : Item} → ItemSort words w i → EachOf P k → P i
      each_of (expression_sort {e = e} l n) f = from (expression_kind (expression_kind_of e)) n f e
      each_of (command_sort {c = c} l n) f = from (command_kind (command_kind_of c)) n f c
      each_of (declaration_sort {d = d} l n) f = from (declaration_kind (declaration_kind_of d)) n f d
      each_of (reference_sort {p = b} {e = e} l n) f = from ref n f b e
      each_of (abstraction_sort {p = b} {fs = fs} {b = c} l n) f = from abs n f b fs c
      each_of (mark_sort l) f = absurd (omega (arith, l, low))

  module _ (high : mark_base ≤ w) where
    some_mark : {i : Item} → ItemSort words w i → P i → (k : Mark) × P (mark k)
    some_mark (expression_sort l n) p = absurd (omega (arith, l, high))
    some_mark (command_sort l n) p = absurd (omega (arith, l, high))
    some_mark (declaration_sort l n) p = absurd (omega (arith, l, high))
    some_mark (reference_sort l n) p = absurd (omega (arith, l, high))
    some_mark (abstraction_sort l n) p = absurd (omega (arith, l, high))
    some_mark (mark_sort {k = k} l) p = (k, p)

    each_mark : {i : Item} → ItemSort words w i → ((k : Mark) → P (mark k)) → P i
    each_mark (expression_sort l n) f = absurd (omega (arith, l, high))
    each_mark (command_sort l n) f = absurd (omega (arith, l, high))
    each_mark (declaration_sort l n) f = absurd (omega (arith, l, high))
    each_mark (reference_sort l n) f = absurd (omega (arith, l, high))
    each_mark (abstraction_sort l n) f = absurd (omega (arith, l, high))
    each_mark (mark_sort {k = k} l) f = f k

-- A node's word has a known kind.
known : {words : List ℕ} {w : ℕ} {i : Item} → ItemSort words w i → w < mark_base → (w < most_nodes) × Known (get_or words w 0)
known (expression_sort {e = e} l n) low = (l, record { kind = expression_kind (expression_kind_of e); number_is = n })
known (command_sort {c = c} l n) low = (l, record { kind = command_kind (command_kind_of c); number_is = n })
known (declaration_sort {d = d} l n) low = (l, record { kind = declaration_kind (declaration_kind_of d); number_is = n })
known (reference_sort l n) low = (l, record { kind = ref; number_is = n })
known (abstraction_sort l n) low = (l, record { kind = abs; number_is = n })
known (mark_sort l) low = absurd (omega (arith, l, low))

-- ---- The state that the machine holds, at the item taken off.

module _ (words : List ℕ) (m : Machine) (w : ℕ) (top : w ≡ get_or words (top_control + m.control) 0) where
  -- The rule's function may be called.
  applicable : (en : Enabled words m) → ItemSort words w en.item × Applicable words (lowered m) w en.item
  applicable en =
      let t = taken words m en.enabled in
      subst (λ v. ItemSort words v en.item × Applicable words (lowered m) v en.item) (sym top) (
        t.sort,
        record {
          control = en.control;
          values = en.values;
          environment = en.environment;
          store = en.store;
          locations = en.locations;
          bindings = en.bindings;
          rule = en.rule;
          effect = en.effect;
          ready = t.ready;
        },
      )

  -- The rule's answer is the step's.
  answered : (r : Result Machine Reason) (after : List ℕ) → ((i : Item) → ItemSort words w i → Steps words (lowered m) w i r after) → StepsFrom words m r after
  answered r after by i C X E S L n rule e h =
      let t = taken words m h in
      subst (λ v. (ItemSort words v i → Steps words (lowered m) v i r after)) top (by i) t.sort C X E S L n rule e t.ready

  -- At a node, by its kind.
  module _ (low : w < mark_base) where
    pub known_there : Enabled words m → (w < most_nodes) × Known (get_or words w 0)
    known_there en = known (applicable en).0 low

    pub rule_at : Enabled words m → (k : Kind) → kind_number k ≡ packed_kind (get_or words w 0) → SomeOf (Applicable words (lowered m) w) k
    rule_at en k q = let held = applicable en in some_of words w (Applicable words (lowered m) w) low k q held.0 held.1

    pub answer_at : (r : Result Machine Reason) (after : List ℕ) (k : Kind) → kind_number k ≡ packed_kind (get_or words w 0) → EachOf (λ i. Steps words (lowered m) w i r after) k → StepsFrom words m r after
    answer_at r after k q f = answered r after (λ i s. each_of words w (λ j. Steps words (lowered m) w j r after) low k q s f)

  -- At a mark.
  module _ (high : mark_base ≤ w) where
    pub mark_rule_at : Enabled words m → (k : Mark) × Applicable words (lowered m) w (mark k)
    mark_rule_at en = let held = applicable en in some_mark words w (Applicable words (lowered m) w) high held.0 held.1

    pub mark_answer_at : (r : Result Machine Reason) (after : List ℕ) → ((k : Mark) → Steps words (lowered m) w (mark k) r after) → StepsFrom words m r after
    mark_answer_at r after f = answered r after (λ i s. each_mark words w (λ j. Steps words (lowered m) w j r after) high s f)
