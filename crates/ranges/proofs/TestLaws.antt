-- Assign and Cond: their value or test, the command that a Cond takes where its test can be only one truth, and both where it may be both.
use Prim.Native.Nat.{ℕ, ◌+◌, ◌<◌}
use mathlib.Core.Path.{◌≡◌, refl, sym, ap, ◌∙◌, subst}
use mathlib.Core.Bool.{true, false}
use mathlib.Core.List.{List}
use Rattle.std.specs.Prelude.{Result, Ok, Err}
use Rattle.rules.specs.declared.refusals.Refused.{Refused}
use native.Mathlib.Omega.{arith}
use lib.ListN.{get_or}
use Rattle.rules.specs.paper.Limits.{most_nodes}
use Rattle.rules.specs.paper.Tree.{Expression, Command, Assign, Loop, CSeq, block, Call, Cond}
use Rattle.rules.specs.paper.Needs.{Needs, command_need}
use Rattle.rules.specs.paper.Carried.{Carried, truths, Carrying, carried, unsafe, unfit, ◌>>=◌}
use Rattle.rules.specs.paper.Carrying.{CarriedCells, CarriedNames, carry_expression, carry_choosing, carry_command}
use Rattle.reader.specs.KindNumbers.{assign_number, loop_number, conditional_number}
use Rattle.reader.specs.Pack.{packed_kind, packed_end}
use Rattle.reader.specs.Stored.{StoredCommand}
use Rattle.reader.proofs.StandingLaws.{expression_low, command_low}
use Rattle.intervals.specs.Values.{HoldsValue, holds_numbers, holds_truths, holds_location, ExpressedAs}
use Rattle.intervals.specs.declared.values.Value.{Value}
use Rattle.carrying.specs.States.{Room}
use Rattle.carrying.specs.Frames.{Keeps}
use Rattle.carrying.specs.Answers.{Fits, ExpressionThere, SomeExpression, ExpressionCarried, CommandThere, SomeCommand, CommandAs, CommandCarried}
use Rattle.ranges.specs.Commands.{AssignThere, assigning, SomeAssign, AssignCarried, Valued, an_assign, a_conditional, SomeTested, TestedCarried, SomeBoth, BothCarried}
use Rattle.carrying.specs.declared.Held.{Held}
use Rattle.carrying.proofs.ResultLaws.{ok_not_err, same_refusal}
use Rattle.carrying.proofs.FrameLaws.{keeps_all}
use Rattle.carrying.proofs.ReachLaws.{second_place, reach}
use Rattle.carrying.proofs.ExpressionLaws.{first_fits, told_value}
use Rattle.ranges.proofs.CommandLaws.{Part, Seen, seen_assign, seen_loop, seen_sequence, seen_block, seen_call, seen_conditional, seen}
use Rattle.ranges.proofs.BranchLaws.{part_there, part_reach}

-- ---- Answers.

-- An expression that is unsafe, and what goes on with its value.
pub unsafe_value : (words : List ℕ) (n : ℕ) (f : Carried → Carrying CarriedCells) (c : Carrying Carried) (refused : Refused) → ExpressedAs c (Err refused) → CommandAs words n (c >>= f) (Err refused)
unsafe_value words n f (carried v) refused (x, same, holds) = ok_not_err (sym same)
unsafe_value words n f (unsafe q) refused same = same_refusal same
unsafe_value words n f unfit refused answer = tt

-- ---- Which command a test chooses.

data OneOf (whole one : Carrying CarriedCells) : Type 0 where
  is_one : whole ≡ one → OneOf whole one
  is_unfit : whole ≡ unfit → OneOf whole one

-- False is not possible: the first.
first_chosen : {value : Value} {v : Carried} (a b : Carrying CarriedCells) → value.low ≡ 0 → HoldsValue value v → OneOf (carry_choosing v a b) a
first_chosen a b q (holds_numbers s l h f g) = is_unfit refl
first_chosen a b q (holds_truths {f = false} {t = false} s l h) = is_unfit refl
first_chosen a b q (holds_truths {f = false} {t = true} s l h) = is_one refl
first_chosen a b q (holds_truths {f = true} s l h) = absurd (omega (arith, q, l))
first_chosen a b q (holds_location s l h) = is_unfit refl

-- True is not possible: the second.
second_chosen : {value : Value} {v : Carried} (a b : Carrying CarriedCells) → (value.low ≡ 0 → ⊥) → value.high ≡ 0 → HoldsValue value v → OneOf (carry_choosing v a b) b
second_chosen a b p q (holds_numbers s l h f g) = is_unfit refl
second_chosen a b p q (holds_truths {f = false} s l h) = absurd (p l)
second_chosen a b p q (holds_truths {f = true} {t = false} s l h) = is_one refl
second_chosen a b p q (holds_truths {f = true} {t = true} s l h) = absurd (omega (arith, q, h))
second_chosen a b p q (holds_location s l h) = is_unfit refl

data MayBeBoth (v : Carried) (a b : Carrying CarriedCells) : Type 0 where
  both_may : v ≡ truths true true → MayBeBoth v a b
  neither_may : carry_choosing v a b ≡ unfit → MayBeBoth v a b

both_chosen : {value : Value} {v : Carried} (a b : Carrying CarriedCells) → (value.low ≡ 0 → ⊥) → (value.high ≡ 0 → ⊥) → HoldsValue value v → MayBeBoth v a b
both_chosen a b p q (holds_numbers s l h f g) = neither_may refl
both_chosen a b p q (holds_truths {f = false} s l h) = absurd (p l)
both_chosen a b p q (holds_truths {f = true} {t = false} s l h) = absurd (q h)
both_chosen a b p q (holds_truths {f = true} {t = true} s l h) = both_may refl
both_chosen a b p q (holds_location s l h) = neither_may refl

-- ---- The value or test of a command.

-- The node is an Assign or a Cond.
pub data TakesValue (which : ℕ) : Type 0 where
  of_assign : which ≡ assign_number → TakesValue which
  of_conditional : which ≡ conditional_number → TakesValue which

module _ (words : List ℕ) (held : Held) (node which : ℕ) (known : which ≡ packed_kind (get_or words node 0)) (takes : TakesValue which) where
  no_other : {other : ℕ} → (other ≡ assign_number → ⊥) → (other ≡ conditional_number → ⊥) → which ≡ other → ⊥
  no_other f g q = by takes
    where
      by : TakesValue which → ⊥
      by (of_assign p) = f (sym q ∙ p)
      by (of_conditional p) = g (sym q ∙ p)

  -- An Assign or a Cond, with what comes after the value, and a Loop.
  only_valued : {next : ℕ} {A : CarriedNames} {N : Needs} {K : CarriedCells} {c : Command} (X : Command → Type 0) →
      ((e : Expression) (c : Command) (f : Carried → Carrying CarriedCells) → carry_command A K c ≡ carry_expression A K e >>= f → ((v : Carried) → carry_expression A K e ≡ carried v → Valued A K v c) →
      ExpressionThere words held.environment (node + 1) e A K → X c) →
      ((e : Expression) (c : Command) → X (Loop node e c)) → Seen words held node which known next A N K c → X c
  unfolding carry_command
  only_valued X give never (seen_assign p e) = give _ _ _ refl (λ v q. an_assign q) e
  only_valued X give never seen_loop = never _ _
  only_valued X give never (seen_sequence p a b f g) = absurd (no_other (λ q. omega (arith, q)) (λ q. omega (arith, q)) p)
  only_valued X give never (seen_block p e a b r) = absurd (no_other (λ q. omega (arith, q)) (λ q. omega (arith, q)) p)
  only_valued X give never (seen_call p) = absurd (no_other (λ q. omega (arith, q)) (λ q. omega (arith, q)) p)
  only_valued {A = A} {K = K} X give never (seen_conditional {c₁ = c₁} {c₂ = c₂} p e a b f g) = give _ _ (λ v. carry_choosing v (carry_command A K c₁) (carry_command A K c₂)) refl (λ v q. a_conditional q) e

  loop_unfit : (A : CarriedNames) (K : CarriedCells) (e : Expression) (c : Command) → carry_command A K (Loop node e c) ≡ unfit
  unfolding carry_command
  loop_unfit A K e c = refl

  pub value_there : SomeCommand words held node → SomeExpression words held.environment (node + 1)
  value_there s =
      only_valued (λ c. Fits (carry_command s.1 s.3 c) → SomeExpression words held.environment (node + 1))
      (λ e c f q valued there fits. (e, s.1, s.3, there, first_fits f (carry_expression s.1 s.3 e) (λ never. fits (q ∙ never))))
      (λ e c fits. absurd (fits (loop_unfit s.1 s.3 e c))) (seen words held node which known s.4) s.5

  pub value_unsafe : (refused : Refused) → ExpressionCarried words held.environment (node + 1) (Err refused) → CommandCarried words words held node (Err refused)
  value_unsafe refused answered c A N K there =
      only_valued (λ c. CommandAs words held.cells (carry_command A K c) (Err refused))
      (λ e c f q valued there. subst (λ o. CommandAs words held.cells o (Err refused)) (sym q) (unsafe_value words held.cells f (carry_expression A K e) refused (answered e A K there)))
      (λ e c. subst (λ o. CommandAs words held.cells o (Err refused)) (sym (loop_unfit A K e c)) tt) (seen words held node which known there)

  module _ (value : Value) (answered : ExpressionCarried words held.environment (node + 1) (Ok value)) where
    pub value_known : SomeCommand words held node → SomeTested words held node value
    value_known s =
        only_valued (λ c. CommandThere words held node c s.1 s.2 s.3 → Fits (carry_command s.1 s.3 c) → SomeTested words held node value)
        (λ e c f q valued there whole fits.
        told_value (carry_expression s.1 s.3 e) value (answered e s.1 s.3 there) (λ v same holds. (c, v, s.1, s.2, s.3, whole, holds, valued v same, fits))
        (λ never. absurd (fits (q ∙ ap (λ o. o >>= f) never))))
        (λ e c whole fits. absurd (fits (loop_unfit s.1 s.3 e c))) (seen words held node which known s.4) s.4 s.5

    pub value_carried : (words₁ : List ℕ) (t : Result (Unit {0}) Refused) → TestedCarried words words₁ held node value t → CommandCarried words words₁ held node t
    value_carried words₁ t tested c A N K there =
        only_valued (λ c. CommandThere words held node c A N K → CommandAs words₁ held.cells (carry_command A K c) t)
        (λ e c f q valued at whole.
        told_value (carry_expression A K e) value (answered e A K at) (λ v same holds. tested c v A N K whole holds (valued v same))
        (λ never. subst (λ o. CommandAs words₁ held.cells o t) (sym (q ∙ ap (λ o. o >>= f) never)) tt))
        (λ e c whole. subst (λ o. CommandAs words₁ held.cells o t) (sym (loop_unfit A K e c)) tt) (seen words held node which known there) there

-- A Loop is not fit.
pub never_loop : (words : List ℕ) (held : Held) (node which : ℕ) (known : which ≡ packed_kind (get_or words node 0)) → which ≡ loop_number → SomeCommand words held node → ⊥
unfolding carry_command
never_loop words held node which known q s = by (seen words held node which known s.4) s.5
  where
    by : {next : ℕ} {A : CarriedNames} {N : Needs} {K : CarriedCells} {c : Command} → Seen words held node which known next A N K c → Fits (carry_command A K c) → ⊥
    by (seen_assign p e) fits = omega (arith, p, q)
    by seen_loop fits = fits refl
    by (seen_sequence p a b f g) fits = omega (arith, p, q)
    by (seen_block p e a b r) fits = omega (arith, p, q)
    by (seen_call p) fits = omega (arith, p, q)
    by (seen_conditional p e a b f g) fits = omega (arith, p, q)

-- ---- With its value.

-- Only an Assign or a Cond has one.
abbrev HasValue : Command → Type 0
HasValue (Assign p x e) = Unit {0}
HasValue (Loop p e c) = ⊥
HasValue (CSeq p c₁ c₂) = ⊥
HasValue (block b) = ⊥
HasValue (Call p x es) = ⊥
HasValue (Cond p e c₁ c₂) = Unit {0}

has_value : {A : CarriedNames} {K : CarriedCells} {v : Carried} {c : Command} → Valued A K v c → HasValue c
has_value (an_assign q) = tt
has_value (a_conditional q) = tt

module _ (words : List ℕ) (held : Held) (node which : ℕ) (value : Value) (known : which ≡ packed_kind (get_or words node 0)) where
  value_of_assign : {A : CarriedNames} {K : CarriedCells} {v : Carried} {p x : ℕ} {e : Expression} → Valued A K v (Assign p x e) → carry_expression A K e ≡ carried v
  value_of_assign (an_assign q) = q

  value_of_conditional : {A : CarriedNames} {K : CarriedCells} {v : Carried} {p : ℕ} {e : Expression} {c₁ c₂ : Command} → Valued A K v (Cond p e c₁ c₂) → carry_expression A K e ≡ carried v
  value_of_conditional (a_conditional q) = q

  -- ---- Assign.

  only_assign : {next : ℕ} {A : CarriedNames} {N : Needs} {K : CarriedCells} {v : Carried} {c : Command} (X : Command → Type 0) → which ≡ assign_number →
      ((x : ℕ) (e : Expression) → carry_expression A K e ≡ carried v → X (Assign node x e)) → Valued A K v c → Seen words held node which known next A N K c → X c
  only_assign X q give valued (seen_assign p e) = give _ _ (value_of_assign valued)
  only_assign X q give valued seen_loop = absurd (has_value valued)
  only_assign X q give valued (seen_sequence p a b f g) = absurd (has_value valued)
  only_assign X q give valued (seen_block p e a b r) = absurd (has_value valued)
  only_assign X q give valued (seen_call p) = absurd (has_value valued)
  only_assign X q give valued (seen_conditional p e a b f g) = absurd (omega (arith, p, q))

  assign_at : {x : ℕ} {e : Expression} {A : CarriedNames} {N : Needs} {K : CarriedCells} {v : Carried} → HoldsValue value v → CommandThere words held node (Assign node x e) A N K →
      AssignThere words held.environment node value held.cells x v A K
  assign_at {e = e} {N = N} holds there =
      record {
        depth = there.depth;
        next = there.next;
        assigned = e;
        tree = there.tree;
        limit = node;
        needs = N;
        names_are = there.state.names_are;
        cells_are = there.state.cells_are;
        count_few = omega (arith, there.room.cells_fit);
        value_is = holds;
      }

  pub assign_there : which ≡ assign_number → SomeTested words held node value → SomeAssign words held.environment node value
  unfolding carry_command
  assign_there q s =
      only_assign (λ c. CommandThere words held node c s.2 s.3 s.4 → Fits (carry_command s.2 s.4 c) → SomeAssign words held.environment node value) q
      (λ x e same there fits. (held.cells, x, s.1, s.2, s.4, assign_at s.6 there, λ never. fits (ap (λ o. o >>= λ v. assigning x v s.2 s.4) same ∙ never))) s.7 (seen words held node which known s.5) s.5
      s.8

  pub assign_tested : which ≡ assign_number → (words₁ : List ℕ) → AssignCarried words words₁ held.environment node value → TestedCarried words words₁ held node value (Ok tt)
  unfolding carry_command
  assign_tested q words₁ assigned c v A N K there holds valued =
      only_assign (λ c. CommandThere words held node c A N K → CommandAs words₁ held.cells (carry_command A K c) (Ok tt)) q
      (λ x e same at.
      subst (λ o. CommandAs words₁ held.cells (o >>= λ v. assigning x v A K) (Ok tt)) (sym same) (assigned held.cells x v A K (assign_at holds at))) valued (seen words held node which known there) there

  -- ---- Cond.

  module _ (not_assign : which ≡ assign_number → ⊥) where
    only_conditional : {next : ℕ} {A : CarriedNames} {N : Needs} {K : CarriedCells} {v : Carried} {c : Command} (X : Command → Type 0) →
        ((e : Expression) (c₁ c₂ : Command) → carry_expression A K e ≡ carried v → ExpressionThere words held.environment (node + 1) e A K → Part words held node which known (second_place words node) next c₁ →
        Part words held node which known (packed_end (get_or words (second_place words node) 0)) next c₂ → Room held (command_need N c₁) → Room held (command_need N c₂) → X (Cond node e c₁ c₂)) →
        Valued A K v c → Seen words held node which known next A N K c → X c
    only_conditional X give valued (seen_assign p e) = absurd (not_assign p)
    only_conditional X give valued seen_loop = absurd (has_value valued)
    only_conditional X give valued (seen_sequence p a b f g) = absurd (has_value valued)
    only_conditional X give valued (seen_block p e a b r) = absurd (has_value valued)
    only_conditional X give valued (seen_call p) = absurd (has_value valued)
    only_conditional X give valued (seen_conditional p e a b f g) = give _ _ _ (value_of_conditional valued) e a b f g

    kept_here : Keeps words words held.bindings held.cells
    kept_here = keeps_all words held.bindings held.cells

    pub test_low : SomeTested words held node value → node + 1 < most_nodes
    test_low s = only_conditional (λ c. node + 1 < most_nodes) (λ e c₁ c₂ same there a b f g. expression_low there.tree) s.7 (seen words held node which known s.5)

    pub first_low : SomeTested words held node value → second_place words node < most_nodes
    first_low s = only_conditional (λ c. second_place words node < most_nodes) (λ e c₁ c₂ same there a b f g. command_low a.tree) s.7 (seen words held node which known s.5)

    -- The first command alone.
    module _ (only_true : value.low ≡ 0) (first : ℕ) (place : first ≡ second_place words node) where
      pub first_there : SomeTested words held node value → SomeCommand words held first × (reach words first < reach words node)
      unfolding carry_command
      first_there s =
          only_conditional
          (λ c. CommandThere words held node c s.2 s.3 s.4 → StoredCommand words s.5.depth node s.5.next c → Fits (carry_command s.2 s.4 c) → SomeCommand words held first × (reach words first < reach words node))
          (λ e c₁ c₂ same there a b f g whole tree fits. (
            (
              c₁,
              s.2,
              s.3,
              s.4,
              subst (λ i. CommandThere words held i c₁ s.2 s.3 s.4) (sym place) (part_there words held node which known words kept_here a whole.state whole.state.cells_are f),
              λ never. fits (ap (λ o. o >>= λ v. carry_choosing v (carry_command s.2 s.4 c₁) (carry_command s.2 s.4 c₂)) same ∙ chosen (carry_command s.2 s.4 c₁) (carry_command s.2 s.4 c₂) never),
            ),
            subst (λ i. reach words i < reach words node) (sym place) (part_reach words held node which known words kept_here tree a),
          ))
          s.7 (seen words held node which known s.5) s.5 s.5.tree s.8
        where
          chosen : (a b : Carrying CarriedCells) → a ≡ unfit → carry_choosing s.1 a b ≡ unfit
          chosen a b never = by (first_chosen a b only_true s.6)
            where
              by : OneOf (carry_choosing s.1 a b) a → carry_choosing s.1 a b ≡ unfit
              by (is_one q) = q ∙ never
              by (is_unfit q) = q

      pub first_carried : (words₁ : List ℕ) (t : Result (Unit {0}) Refused) → CommandCarried words words₁ held first t → TestedCarried words words₁ held node value t
      unfolding carry_command
      first_carried words₁ t ran c v A N K there holds valued =
          only_conditional (λ c. CommandThere words held node c A N K → CommandAs words₁ held.cells (carry_command A K c) t)
          (λ e c₁ c₂ same at a b f g whole.
          subst (λ o. CommandAs words₁ held.cells (o >>= λ v. carry_choosing v (carry_command A K c₁) (carry_command A K c₂)) t) (sym same)
          (chosen (carry_command A K c₁) (carry_command A K c₂)
          (ran c₁ A N K (subst (λ i. CommandThere words held i c₁ A N K) (sym place) (part_there words held node which known words kept_here a whole.state whole.state.cells_are f)))))
          valued (seen words held node which known there) there
        where
          chosen : (a b : Carrying CarriedCells) → CommandAs words₁ held.cells a t → CommandAs words₁ held.cells (carry_choosing v a b) t
          chosen a b answer = by (first_chosen a b only_true holds)
            where
              by : OneOf (carry_choosing v a b) a → CommandAs words₁ held.cells (carry_choosing v a b) t
              by (is_one q) = subst (λ o. CommandAs words₁ held.cells o t) (sym q) answer
              by (is_unfit q) = subst (λ o. CommandAs words₁ held.cells o t) (sym q) tt

    -- The second command alone.
    module _ (false_too : value.low ≡ 0 → ⊥) (only_false : value.high ≡ 0) (second : ℕ) (place : second ≡ packed_end (get_or words (second_place words node) 0)) where
      pub second_there : SomeTested words held node value → SomeCommand words held second × (reach words second < reach words node)
      unfolding carry_command
      second_there s =
          only_conditional
          (λ c. CommandThere words held node c s.2 s.3 s.4 → StoredCommand words s.5.depth node s.5.next c → Fits (carry_command s.2 s.4 c) → SomeCommand words held second × (reach words second < reach words node))
          (λ e c₁ c₂ same there a b f g whole tree fits. (
            (
              c₂,
              s.2,
              s.3,
              s.4,
              subst (λ i. CommandThere words held i c₂ s.2 s.3 s.4) (sym place) (part_there words held node which known words kept_here b whole.state whole.state.cells_are g),
              λ never. fits (ap (λ o. o >>= λ v. carry_choosing v (carry_command s.2 s.4 c₁) (carry_command s.2 s.4 c₂)) same ∙ chosen (carry_command s.2 s.4 c₁) (carry_command s.2 s.4 c₂) never),
            ),
            subst (λ i. reach words i < reach words node) (sym place) (part_reach words held node which known words kept_here tree b),
          ))
          s.7 (seen words held node which known s.5) s.5 s.5.tree s.8
        where
          chosen : (a b : Carrying CarriedCells) → b ≡ unfit → carry_choosing s.1 a b ≡ unfit
          chosen a b never = by (second_chosen a b false_too only_false s.6)
            where
              by : OneOf (carry_choosing s.1 a b) b → carry_choosing s.1 a b ≡ unfit
              by (is_one q) = q ∙ never
              by (is_unfit q) = q

      pub second_carried : (words₁ : List ℕ) (t : Result (Unit {0}) Refused) → CommandCarried words words₁ held second t → TestedCarried words words₁ held node value t
      unfolding carry_command
      second_carried words₁ t ran c v A N K there holds valued =
          only_conditional (λ c. CommandThere words held node c A N K → CommandAs words₁ held.cells (carry_command A K c) t)
          (λ e c₁ c₂ same at a b f g whole.
          subst (λ o. CommandAs words₁ held.cells (o >>= λ v. carry_choosing v (carry_command A K c₁) (carry_command A K c₂)) t) (sym same)
          (chosen (carry_command A K c₁) (carry_command A K c₂)
          (ran c₂ A N K (subst (λ i. CommandThere words held i c₂ A N K) (sym place) (part_there words held node which known words kept_here b whole.state whole.state.cells_are g)))))
          valued (seen words held node which known there) there
        where
          chosen : (a b : Carrying CarriedCells) → CommandAs words₁ held.cells b t → CommandAs words₁ held.cells (carry_choosing v a b) t
          chosen a b answer = by (second_chosen a b false_too only_false holds)
            where
              by : OneOf (carry_choosing v a b) b → CommandAs words₁ held.cells (carry_choosing v a b) t
              by (is_one q) = subst (λ o. CommandAs words₁ held.cells o t) (sym q) answer
              by (is_unfit q) = subst (λ o. CommandAs words₁ held.cells o t) (sym q) tt

    -- Both.
    module _ (false_too : value.low ≡ 0 → ⊥) (true_too : value.high ≡ 0 → ⊥) where
      pub both_there : SomeTested words held node value → SomeBoth words held node
      unfolding carry_command
      both_there s =
          only_conditional (λ c. CommandThere words held node c s.2 s.3 s.4 → Fits (carry_command s.2 s.4 c) → SomeBoth words held node)
          (λ e c₁ c₂ same there a b f g whole fits. by e c₁ c₂ whole fits same (both_chosen (carry_command s.2 s.4 c₁) (carry_command s.2 s.4 c₂) false_too true_too s.6)) s.7
          (seen words held node which known s.5) s.5 s.8
        where
          by : (e : Expression) (c₁ c₂ : Command) → CommandThere words held node (Cond node e c₁ c₂) s.2 s.3 s.4 → Fits (carry_command s.2 s.4 (Cond node e c₁ c₂)) → carry_expression s.2 s.4 e ≡ carried s.1 →
              MayBeBoth s.1 (carry_command s.2 s.4 c₁) (carry_command s.2 s.4 c₂) → SomeBoth words held node
          by e c₁ c₂ whole fits same (both_may q) = (e, c₁, c₂, s.2, s.3, s.4, whole, same ∙ ap carried q, fits)
          by e c₁ c₂ whole fits same (neither_may q) = absurd (fits (ap (λ o. o >>= λ v. carry_choosing v (carry_command s.2 s.4 c₁) (carry_command s.2 s.4 c₂)) same ∙ q))

      pub both_tested : (words₁ : List ℕ) (t : Result (Unit {0}) Refused) → BothCarried words words₁ held node t → TestedCarried words words₁ held node value t
      unfolding carry_command
      both_tested words₁ t ran c v A N K there holds valued =
          only_conditional (λ c. CommandThere words held node c A N K → CommandAs words₁ held.cells (carry_command A K c) t)
          (λ e c₁ c₂ same at a b f g whole. by e c₁ c₂ whole same (both_chosen (carry_command A K c₁) (carry_command A K c₂) false_too true_too holds)) valued (seen words held node which known there) there
        where
          by : (e : Expression) (c₁ c₂ : Command) → CommandThere words held node (Cond node e c₁ c₂) A N K → carry_expression A K e ≡ carried v → MayBeBoth v (carry_command A K c₁) (carry_command A K c₂) →
              CommandAs words₁ held.cells (carry_command A K (Cond node e c₁ c₂)) t
          by e c₁ c₂ whole same (both_may q) = ran e c₁ c₂ A N K whole (same ∙ ap carried q)
          by e c₁ c₂ whole same (neither_may q) =
              subst (λ o. CommandAs words₁ held.cells o t) (sym (ap (λ o. o >>= λ v. carry_choosing v (carry_command A K c₁) (carry_command A K c₂)) same ∙ q)) tt
