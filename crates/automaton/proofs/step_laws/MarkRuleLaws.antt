-- Which rule a mark has: its number is the low part of its word and fixes the mark.
use Prim.Native.Nat.{ℕ, ◌+◌, ◌*◌, ◌%◌}
use mathlib.Core.Path.{◌≡◌, refl, sym, subst}
use mathlib.Core.Bool.{cond}
use mathlib.Core.List.{List, ◌∷◌}
use native.Mathlib.Omega.{arith}
use borrow.Author.Tests.{ne_eqb}
use lib.Dec.{eqb}
use Rattle.rules.specs.paper.Kinds.{operator_number}
use Rattle.rules.specs.declared.kinds.Arithmetic.TheVariants.{Sum, Sub, Mul, Div}
use Rattle.rules.specs.declared.kinds.Order.TheVariants.{Lt, Le, Gt, Ge}
use Rattle.rules.specs.declared.kinds.Logic.TheVariants.{And, Or}
use Rattle.rules.specs.declared.kinds.Operator.{Operator}
use Rattle.rules.specs.declared.kinds.Operator.TheVariants.{Arithmetic as arithmetic, Eq, Order as order, Logic as logic}
use Rattle.rules.specs.paper.Limits.{names}
use Rattle.rules.specs.paper.States.{Item, mark, Mark, operator_mark, not_mark, assign_mark, loop_mark, conditional_mark, ref_mark, bind_mark, dseq_extend_mark, dseq_join_mark, extend_mark, leave_mark, call_mark}
use Rattle.machine.specs.Layout.{mark_base, leave_word, call_word}
use Rattle.machine.specs.Represents.{Mode, ControlAs, operator_on, not_on, assign_on, loop_on, conditional_on, ref_on, bind_on, dseq_extend_on, dseq_join_on, extend_on, leave_on, call_on}
use Rattle.machine.specs.Steps.{Applicable, Steps}
use Rattle.machine.specs.declared.Machine.{Machine}
use Rattle.std.specs.Prelude.{Result}
use Rattle.rules.specs.declared.refusals.Reason.{Reason}

-- The rules of marks.
pub data Arm : Type 0 where
  on_operator on_not on_assign on_loop on_leave on_extend on_call on_conditional on_bind on_dseq_extend on_dseq_join on_ref : Arm

-- By the number, in the order of the code's arms.
abbrev pub arm_of : ℕ → Arm
arm_of k =
    cond (eqb k 15) on_not
    (cond (eqb k 20) on_assign
    (cond (eqb k 21) on_loop
    (cond (eqb k 22) on_leave
    (cond (eqb k 23) on_extend
    (cond (eqb k 24) on_call
    (cond (eqb k 25) on_conditional
    (cond (eqb k 30) on_bind
    (cond (eqb k 41) on_dseq_extend
    (cond (eqb k 31) on_dseq_join
    (cond (eqb k 40) on_ref
    on_operator))))))))))

-- Which marks have the rule.
abbrev pub Has : (w : ℕ) → Arm → Mark → Type 0
Has w on_operator k = (o : Operator) × (w ≡ mark_base + operator_number o) × (k ≡ operator_mark o)
Has w on_not k = k ≡ not_mark
Has w on_assign k = k ≡ assign_mark
Has w on_loop k = k ≡ loop_mark
Has w on_leave k = (p n : ℕ) × (k ≡ leave_mark p n)
Has w on_extend k = k ≡ extend_mark
Has w on_call k = (p x n : ℕ) × (k ≡ call_mark p x n)
Has w on_conditional k = k ≡ conditional_mark
Has w on_bind k = k ≡ bind_mark
Has w on_dseq_extend k = k ≡ dseq_extend_mark
Has w on_dseq_join k = k ≡ dseq_join_mark
Has w on_ref k = k ≡ ref_mark

-- ---- The mark's word.

by_kind : (w c : ℕ) (k : Mark) → w % 64 ≡ c → Has w (arm_of c) k → Has w (arm_of (w % 64)) k
by_kind w c k q h = subst (λ n. Has w (arm_of n) k) (sym q) h

operator_has : (w : ℕ) (o : Operator) → w ≡ mark_base + operator_number o → Has w (arm_of (w % 64)) (operator_mark o)
operator_has w (arithmetic Sum) q = by_kind w 4 (operator_mark (arithmetic Sum)) (omega arith) (arithmetic Sum, q, refl)
operator_has w (arithmetic Sub) q = by_kind w 5 (operator_mark (arithmetic Sub)) (omega arith) (arithmetic Sub, q, refl)
operator_has w (arithmetic Mul) q = by_kind w 6 (operator_mark (arithmetic Mul)) (omega arith) (arithmetic Mul, q, refl)
operator_has w (arithmetic Div) q = by_kind w 7 (operator_mark (arithmetic Div)) (omega arith) (arithmetic Div, q, refl)
operator_has w Eq q = by_kind w 8 (operator_mark Eq) (omega arith) (Eq, q, refl)
operator_has w (order Lt) q = by_kind w 9 (operator_mark (order Lt)) (omega arith) (order Lt, q, refl)
operator_has w (order Le) q = by_kind w 10 (operator_mark (order Le)) (omega arith) (order Le, q, refl)
operator_has w (order Gt) q = by_kind w 11 (operator_mark (order Gt)) (omega arith) (order Gt, q, refl)
operator_has w (order Ge) q = by_kind w 12 (operator_mark (order Ge)) (omega arith) (order Ge, q, refl)
operator_has w (logic And) q = by_kind w 13 (operator_mark (logic And)) (omega arith) (logic And, q, refl)
operator_has w (logic Or) q = by_kind w 14 (operator_mark (logic Or)) (omega arith) (logic Or, q, refl)

pub leave_kind : (w m : ℕ) → w ≡ leave_word m → w % 64 ≡ 22
leave_kind w m q = omega arith

pub call_kind : (w m : ℕ) → w ≡ call_word m → w % 64 ≡ 24
call_kind w m q = omega arith

has : {nodes : List ℕ} {m : Mode} {w : ℕ} {ws : List ℕ} {C : List Item} {k : Mark} → ControlAs nodes m (w ∷ ws) (mark k ∷ C) → Has w (arm_of (w % 64)) k
has (operator_on {w = w} {o = o} q h) = operator_has w o q
has (not_on {w = w} q h) = by_kind w 15 not_mark (omega (arith, q)) refl
has (assign_on {w = w} q h) = by_kind w 20 assign_mark (omega (arith, q)) refl
has (loop_on {w = w} q h) = by_kind w 21 loop_mark (omega (arith, q)) refl
has (conditional_on {w = w} q h) = by_kind w 25 conditional_mark (omega (arith, q)) refl
has (ref_on {w = w} q h) = by_kind w 40 ref_mark (omega (arith, q)) refl
has (bind_on {w = w} q h) = by_kind w 30 bind_mark (omega (arith, q)) refl
has (dseq_extend_on {w = w} q h) = by_kind w 41 dseq_extend_mark (omega (arith, q)) refl
has (dseq_join_on {w = w} q h) = by_kind w 31 dseq_join_mark (omega (arith, q)) refl
has (extend_on {w = w} q h) = by_kind w 23 extend_mark (omega (arith, q)) refl
has (leave_on {m = m} {w = w} {p = p} q h) = by_kind w 22 (leave_mark p m) (leave_kind w m q) (p, m, refl)
has (call_on {w = w} {p = p} {x = x} {k = k} q l g h) = by_kind w 24 (call_mark p x k) (call_kind w (x + names * k) q) (p, x, k, refl)

-- ---- The last arm: none of the numbers of the others.

abbrev pub Others : ℕ → Type 0
Others k = ((((((((((Unit {0} × (k ≡ 15 → ⊥)) × (k ≡ 20 → ⊥)) × (k ≡ 21 → ⊥)) × (k ≡ 22 → ⊥)) × (k ≡ 23 → ⊥)) × (k ≡ 24 → ⊥)) × (k ≡ 25 → ⊥)) × (k ≡ 30 → ⊥)) × (k ≡ 41 → ⊥)) × (k ≡ 31 → ⊥)) × (k ≡ 40 → ⊥)

pub is_operator : (k : ℕ) → Others k → arm_of k ≡ on_operator
is_operator k h =
    rw (
      ne_eqb k 15 h.0.0.0.0.0.0.0.0.0.0.1,
      ne_eqb k 20 h.0.0.0.0.0.0.0.0.0.1,
      ne_eqb k 21 h.0.0.0.0.0.0.0.0.1,
      ne_eqb k 22 h.0.0.0.0.0.0.0.1,
      ne_eqb k 23 h.0.0.0.0.0.0.1,
      ne_eqb k 24 h.0.0.0.0.0.1,
      ne_eqb k 25 h.0.0.0.0.1,
      ne_eqb k 30 h.0.0.0.1,
      ne_eqb k 41 h.0.0.1,
      ne_eqb k 31 h.0.1,
      ne_eqb k 40 h.1,
    )

-- ---- What the rule's function needs.

module _ (words : List ℕ) (m : Machine) (w : ℕ) (s : (k : Mark) × Applicable words m w (mark k)) where
  has_there : (a : Arm) → arm_of (w % 64) ≡ a → Has w a s.0
  has_there a q = subst (λ b. Has w b s.0) q (has s.1.ready.models.control_as)

  as_mark : {k : Mark} → s.0 ≡ k → Applicable words m w (mark k)
  as_mark e = subst (λ k. Applicable words m w (mark k)) e s.1

  pub plain_needs : (a : Arm) (k : Mark) → ((j : Mark) → Has w a j → j ≡ k) → arm_of (w % 64) ≡ a → Applicable words m w (mark k)
  plain_needs a k only q = as_mark (only s.0 (has_there a q))

  pub operator_needs : arm_of (w % 64) ≡ on_operator → (o : Operator) × (w ≡ mark_base + operator_number o) × Applicable words m w (mark (operator_mark o))
  operator_needs q = let h = has_there on_operator q in (h.0, h.1, as_mark h.2)

  pub leave_needs : arm_of (w % 64) ≡ on_leave → (p n : ℕ) × Applicable words m w (mark (leave_mark p n))
  leave_needs q = let h = has_there on_leave q in (h.0, h.1, as_mark h.2)

  pub call_needs : arm_of (w % 64) ≡ on_call → (p x k : ℕ) × Applicable words m w (mark (call_mark p x k))
  call_needs q = let h = has_there on_call q in (h.0, h.1, h.2, as_mark h.3)

-- ---- What it answers.

module _ (before : List ℕ) (m : Machine) (w : ℕ) (answer : Result Machine Reason) (after : List ℕ) where
  abbrev At : Mark → Type 0
  At k = Steps before m w (mark k) answer after

  steps_by : (a : Arm) → arm_of (w % 64) ≡ a → ((k : Mark) → Has w a k → At k) → (k : Mark) → At k
  steps_by a q h k C X E S L n r e ready = h k (subst (λ b. Has w b k) q (has ready.models.control_as)) C X E S L n r e ready

  pub plain_steps : (a : Arm) (k : Mark) → ((j : Mark) → Has w a j → j ≡ k) → arm_of (w % 64) ≡ a → At k → (j : Mark) → At j
  plain_steps a k only q h = steps_by a q (λ j e. subst At (sym (only j e)) h)

  pub operator_steps : arm_of (w % 64) ≡ on_operator → ((o : Operator) → w ≡ mark_base + operator_number o → At (operator_mark o)) → (k : Mark) → At k
  operator_steps q h = steps_by on_operator q (λ k e. subst At (sym e.2) (h e.0 e.1))

  pub leave_steps : arm_of (w % 64) ≡ on_leave → ((p n : ℕ) → At (leave_mark p n)) → (k : Mark) → At k
  leave_steps q h = steps_by on_leave q (λ k e. subst At (sym e.2) (h e.0 e.1))

  pub call_steps : arm_of (w % 64) ≡ on_call → ((p x n : ℕ) → At (call_mark p x n)) → (k : Mark) → At k
  call_steps q h = steps_by on_call q (λ k e. subst At (sym e.3) (h e.0 e.1 e.2))
