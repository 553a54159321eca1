-- From every state of a free run with control not empty some free step goes on, and it can be chosen so that what is ahead is met.
use Rattle.std.specs.Prelude.{ℕ, suc, ◌≤◌, ◌≡◌, refl, Bool, true, false, List, [], ◌∷◌, ◌++◌, ℤ, pos}
use Rattle.std.proofs.Common.{sym, ◌∙◌, arith}
use Rattle.std.proofs.Math.Path.{ap, subst}
use Rattle.rules.specs.paper.Tree.{Arithmetic, arithmetic, Loop, Cond}
use Rattle.rules.specs.paper.Refusals.{Reason}
use Rattle.rules.specs.paper.Integers.{Result, number, failed, compute}
use Rattle.rules.specs.paper.Checker.{Passed}
use Rattle.rules.specs.paper.States.{integer, Environment, Store, Entry, val, node, Item, mark, operator_mark, State, state, control_of, values_of}
use Rattle.rules.specs.paper.Rules.{Rule, Effect, goes, fails, Table, pushed}
use Rattle.rules.specs.paper.Rules as Rules
use Rattle.rules.specs.paper.Needs.{Figure, is_loop, is_conditional, some_command}
use Rattle.rules.specs.claims.FreeRun.{FreeStep, by_rule, any_integer, either_turn, either_command}
use Rattle.rules.proofs.running.Progress.{Progress}
use Rattle.rules.proofs.running.WholeRun.{progress}
use Rattle.rules.proofs.needs.Outlook.{once, through, ahead_of}
use Rattle.rules.proofs.needs.StretchLaws.{AllAtMost, one_ahead, at_most_append, at_most_more, Target, this, later, target_append, target_behind, through_append, Met, now, next, onward, Replaced}
use Rattle.rules.proofs.needs.TestStretches.{KeptWithin, Nearer, in_first, in_second, still_ahead, turn_within, turn_nearer, choice_within, choice_nearer, choice_counts, choice_longest}
use Rattle.rules.proofs.needs.StepKinds.{StepKind, replacing, turning, choosing}
use Rattle.rules.proofs.needs.FreeStates.{FreeInvariant, free_classified}
use Rattle.rules.proofs.needs.Without.{WithoutValues, one_entry, Without}

-- ---- A step that replaces the first stretch.

module _ {σ τ : State} (r : Replaced σ τ) where
  replaced_within : (f : Figure) (k : ℕ) → AllAtMost f k (ahead_of σ) → KeptWithin f k τ
  replaced_within f k h = from (subst (AllAtMost f k) r.before h)
    where
      from : AllAtMost f k (once r.head ∷ r.rest) → KeptWithin f k τ
      from (one_ahead l g) =
          record {
            size_within = omega (arith, r.next_within f, l);
            ahead_within = subst (AllAtMost f k) (sym r.afterwards) (at_most_append (at_most_more l (r.within f)) g);
          }

  pub replaced_nearer : (f : Figure) (k d : ℕ) → Target f k (ahead_of σ) d → Nearer f k d σ τ
  unfolding through
  replaced_nearer f k d h = from d (subst (λ ss. Target f k ss d) r.before h)
    where
      place : {k d : ℕ} → Target f k (r.parts ++ r.rest) d → Target f k (ahead_of τ) d
      place {k} {d} t = subst (λ ss. Target f k ss d) (sym r.afterwards) t

      by_met : (d : ℕ) → d ≡ r.head.steps → r.head.most f ≡ k → Met f (r.head.most f) r.head.steps σ τ r.parts → Nearer f k d σ τ
      by_met d e q (now s) = in_first (s ∙ q)
      by_met d e q (next s) = in_second (s ∙ q)
      by_met d e q (onward {d = j} t l) = still_ahead (place (target_append r.rest (subst (λ m. Target f m r.parts j) q t))) (omega (arith, l, e))

      from : (d : ℕ) → Target f k (once r.head ∷ r.rest) d → Nearer f k d σ τ
      from d (this q) = by_met r.head.steps refl q (r.met f)
      from d (later t) = still_ahead (place (target_behind r.parts t)) (omega (arith, r.counted))

  pub replaced_counts : through (ahead_of σ) ≡ suc (through (ahead_of τ))
  unfolding through
  replaced_counts = ap through r.before ∙ omega (arith, r.counted, through_append r.parts r.rest, ap through r.afterwards)

-- ---- Any free step.

pub kept_within : {a : Passed} {r : ℕ} {σ τ : State} → FreeInvariant a r σ → FreeStep σ τ → (f : Figure) (k : ℕ) → AllAtMost f k (ahead_of σ) → KeptWithin f k τ
kept_within inv s f k h = by_kind (free_classified inv s).kind h
  where
    by_kind : {σ τ : State} → StepKind σ τ → AllAtMost f k (ahead_of σ) → KeptWithin f k τ
    by_kind (replacing r) h = replaced_within r f k h
    by_kind (turning {p = p} {e = e} {c = c} {b = b} {C = C} {X = X} {E = E} {S = S} {L = L} {n = n} t) h = turn_within C X E S L n b p e c t f k h
    by_kind (choosing {p = p} {e = e} {c₁ = c₁} {c₂ = c₂} {b = b} {C = C} {X = X} {E = E} {S = S} {L = L} {n = n} t) h = choice_within C X E S L n b p e c₁ c₂ t f k h

true_false : {A : Type 0} → true ≡ false → A
true_false q = absurd (subst IsTrue q tt)
  where
    IsTrue : Bool → Type 0
    IsTrue true = Unit {0}
    IsTrue false = ⊥

-- There is no Loop whose test has run in a state without Loops.
pub no_loop : {A : Type 0} {p : ℕ} {e : _} {c : _} {t : Entry} {X : List Entry} → WithoutValues is_loop (t ∷ node (Loop p e c) ∷ X) → A
unfolding some_command
no_loop (one_entry u (one_entry q v)) = true_false q

pub no_conditional : {A : Type 0} {p : ℕ} {e : _} {c₁ c₂ : _} {t : Entry} {X : List Entry} → WithoutValues is_conditional (t ∷ node (Cond p e c₁ c₂) ∷ X) → A
unfolding some_command
no_conditional (one_entry u (one_entry q v)) = true_false q

-- Without Loops a step leaves at least one step less ahead.
pub step_counts : {a : Passed} {r : ℕ} {σ τ : State} → FreeInvariant a r σ → Without is_loop σ → FreeStep σ τ → suc (through (ahead_of τ)) ≤ through (ahead_of σ)
step_counts inv w s = by_kind (free_classified inv s).kind w.on_values
  where
    by_kind : {σ τ : State} → StepKind σ τ → WithoutValues is_loop (values_of σ) → suc (through (ahead_of τ)) ≤ through (ahead_of σ)
    by_kind (replacing r) v = omega (arith, replaced_counts r)
    by_kind (turning t) v = no_loop v
    by_kind (choosing {p = p} {e = e} {c₁ = c₁} {c₂ = c₂} {b = b} {C = C} {X = X} {E = E} {S = S} {L = L} {n = n} t) v = choice_counts C X E S L n b p e c₁ c₂ t

-- ---- A step goes on.

-- A step that has no state after it is at an arithmetic mark.
data Failing : Item → List Entry → Type 0 where
  fails_at : {o : Arithmetic} {y z : ℤ} {x : Reason} {X : List Entry} → compute o y z ≡ failed x → Failing (mark (operator_mark (arithmetic o))) (val (integer z) ∷ val (integer y) ∷ X)

goes_fails : {τ : State} {x : Reason} → goes τ ≡ fails x → ⊥
goes_fails q = subst Goes q tt
  where
    Goes : Effect → Type 0
    Goes (goes τ) = Unit {0}
    Goes (fails x) = ⊥

module _ (C : List Item) (E : Environment) (S : Store) (L : List ℕ) (n : ℕ) where
  failing : {r : Rule} (i : Item) (X : List Entry) (e : Effect) → Table C E S L n r i X e → (x : Reason) → e ≡ fails x → Failing i X
  failing i X e (Rules.arithmetic_at {o = o} {a = y} {b = z} {X = Y}) x q = of_result (compute o y z) refl q
    where
      of_result : (v : Result) → compute o y z ≡ v → pushed v C Y E S L n ≡ fails x → Failing (mark (operator_mark (arithmetic o))) (val (integer z) ∷ val (integer y) ∷ Y)
      of_result (number v) p q = absurd (goes_fails q)
      of_result (failed v) p q = fails_at p
  failing i X e Rules.num x q = absurd (goes_fails q)
  failing i X e Rules.boo x q = absurd (goes_fails q)
  failing i X e (Rules.id_plain a b) x q = absurd (goes_fails q)
  failing i X e (Rules.id_cell a b) x q = absurd (goes_fails q)
  failing i X e (Rules.deref a) x q = absurd (goes_fails q)
  failing i X e (Rules.valref a b c) x q = absurd (goes_fails q)
  failing i X e Rules.binary x q = absurd (goes_fails q)
  failing i X e Rules.negation x q = absurd (goes_fails q)
  failing i X e (Rules.equal_at a) x q = absurd (goes_fails q)
  failing i X e Rules.order_at x q = absurd (goes_fails q)
  failing i X e Rules.logic_at x q = absurd (goes_fails q)
  failing i X e Rules.not_at x q = absurd (goes_fails q)
  failing i X e Rules.assign x q = absurd (goes_fails q)
  failing i X e (Rules.assign_at a b) x q = absurd (goes_fails q)
  failing i X e Rules.loop x q = absurd (goes_fails q)
  failing i X e Rules.loop_true x q = absurd (goes_fails q)
  failing i X e Rules.loop_false x q = absurd (goes_fails q)
  failing i X e Rules.conditional x q = absurd (goes_fails q)
  failing i X e Rules.conditional_true x q = absurd (goes_fails q)
  failing i X e Rules.conditional_false x q = absurd (goes_fails q)
  failing i X e Rules.cseq x q = absurd (goes_fails q)
  failing i X e Rules.ref x q = absurd (goes_fails q)
  failing i X e Rules.ref_at x q = absurd (goes_fails q)
  failing i X e Rules.bind x q = absurd (goes_fails q)
  failing i X e Rules.bind_at x q = absurd (goes_fails q)
  failing i X e Rules.abs x q = absurd (goes_fails q)
  failing i X e Rules.dseq x q = absurd (goes_fails q)
  failing i X e Rules.dseq_extend_at x q = absurd (goes_fails q)
  failing i X e Rules.dseq_join_at x q = absurd (goes_fails q)
  failing i X e Rules.blk x q = absurd (goes_fails q)
  failing i X e Rules.extend_at x q = absurd (goes_fails q)
  failing i X e Rules.leave_at x q = absurd (goes_fails q)
  failing i X e Rules.call x q = absurd (goes_fails q)
  failing i X e (Rules.call_at a b) x q = absurd (goes_fails q)

pub record Step (σ : State) : Type 0 where
  pub after : State
  pub free : FreeStep σ after

-- Some free step is made from every state with control not empty.
pub goes_on : {a : Passed} {r : ℕ} (σ : State) → FreeInvariant a r σ → (control_of σ ≡ [] → ⊥) → Step σ
goes_on (state [] X E S L n) inv left = absurd (left refl)
goes_on {a} {r} (state (i ∷ C) X E S L n) inv left = of_progress (progress a r (state (i ∷ C) X E S L n) inv.history inv.typed left)
  where
    at_failing : (i : Item) (X : List Entry) → Failing i X → Step (state (i ∷ C) X E S L n)
    at_failing i X (fails_at q) = record { after = _; free = any_integer q (pos 0) tt }

    of_effect : (x : Rule) (e : Effect) → Table C E S L n x i X e → Step (state (i ∷ C) X E S L n)
    of_effect x (goes τ) line = record { after = τ; free = by_rule {σ = state (i ∷ C) X E S L n} x line }
    of_effect x (fails y) line = at_failing i X (failing C E S L n i X (fails y) line y refl)

    of_progress : Progress a r (state (i ∷ C) X E S L n) inv.history → Step (state (i ∷ C) X E S L n)
    of_progress p = of_effect p.rule p.effect p.applies

-- ---- The step that brings what is ahead nearer, and the one that keeps the longest way.

pub record NearerStep (f : Figure) (k d : ℕ) (σ : State) : Type 0 where
  pub after : State
  pub free : FreeStep σ after
  pub nearer : Nearer f k d σ after

pub brings_nearer : {a : Passed} {r : ℕ} {σ : State} → FreeInvariant a r σ → Step σ → (f : Figure) (k d : ℕ) → Target f k (ahead_of σ) d → NearerStep f k d σ
brings_nearer inv s f k d h = by_kind (free_classified inv s.free).kind s.free h
  where
    by_kind : {σ τ : State} → StepKind σ τ → FreeStep σ τ → Target f k (ahead_of σ) d → NearerStep f k d σ
    by_kind {τ = τ} (replacing r) s h = record { after = τ; free = s; nearer = replaced_nearer r f k d h }
    by_kind (turning {p = p} {e = e} {c = c} {b = b} {C = C} {X = X} {E = E} {S = S} {L = L} {n = n} t) s h =
        let o = turn_nearer C X E S L n b p e c f k d h in record { after = _; free = either_turn o.way; nearer = o.nearer }
    by_kind (choosing {p = p} {e = e} {c₁ = c₁} {c₂ = c₂} {b = b} {C = C} {X = X} {E = E} {S = S} {L = L} {n = n} t) s h =
        let o = choice_nearer C X E S L n b p e c₁ c₂ f k d h in record { after = _; free = either_command o.way; nearer = o.nearer }

pub record LongestStep (σ : State) : Type 0 where
  pub after : State
  pub free : FreeStep σ after
  pub counted : through (ahead_of σ) ≡ suc (through (ahead_of after))

pub keeps_longest : {a : Passed} {r : ℕ} {σ : State} → FreeInvariant a r σ → Without is_loop σ → Step σ → LongestStep σ
keeps_longest inv w s = by_kind (free_classified inv s.free).kind s.free w.on_values
  where
    by_kind : {σ τ : State} → StepKind σ τ → FreeStep σ τ → WithoutValues is_loop (values_of σ) → LongestStep σ
    by_kind {τ = τ} (replacing r) s v = record { after = τ; free = s; counted = replaced_counts r }
    by_kind (turning t) s v = no_loop v
    by_kind (choosing {p = p} {e = e} {c₁ = c₁} {c₂ = c₂} {b = b} {C = C} {X = X} {E = E} {S = S} {L = L} {n = n} t) s v =
        let o = choice_longest C X E S L n b p e c₁ c₂ in record { after = _; free = either_command o.0; counted = o.1 }
