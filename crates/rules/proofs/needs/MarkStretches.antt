-- The steps at leaves and marks: each takes its stretch off, but for a call's mark, which puts its function's Blk there. A Loop's and a
-- Cond's mark stand in TestStretches.antt.
use Rattle.std.specs.Prelude.{ℕ, zero, suc, ◌+◌, ◌-◌, ◌≤◌, ◌≡◌, Bool, true, false, cond, List, [], ◌∷◌, ◌++◌, eqb, length, drop}
use Rattle.std.proofs.Math.Path.{refl, ap}
use Rattle.std.proofs.Common.{sym, ◌∙◌, arith}
use Rattle.std.proofs.Math.Option.{Option, some, some-injective}
use Rattle.rules.proofs.Basics.{missing}
use Rattle.rules.specs.paper.Tree.{Operator, Formal, Block, block}
use Rattle.rules.specs.paper.States.{Value, Bindable, value, closure, Environment, empty, bound, lookup, join, Cell, Store, store_at, remove, Entry, bindable, name, node, environment, locations, val, Item, command, mark, operator_mark, not_mark, assign_mark, ref_mark, bind_mark, dseq_extend_mark, dseq_join_mark, extend_mark, leave_mark, call_mark, state}
use Rattle.rules.specs.paper.Rules.{Matched, match_formals}
use Rattle.rules.specs.paper.Needs.{sizes, step, over, Needs, need_of, over_formals, function_need, command_need, block_need}
use Rattle.rules.proofs.running.StepSizes.{store_at_length}
use Rattle.rules.proofs.needs.Outlook.{bindable_need, environment_needs, an_environment, sketches, Outlook, knowing, outlook, with_values, once, lies, after_mark, ahead, stretches_of}
use Rattle.rules.proofs.needs.StretchLaws.{by_figure, spread_next, spread_end, Replaced, unfolds_into, grows, shrinks, settles}
use Rattle.rules.proofs.needs.NodeStretches.{covers, block_least, same_outlook}

-- ---- What names carry.

pub join_needs : (D E : Environment) → environment_needs (join D E) ≡ environment_needs D ++ environment_needs E
unfolding join environment_needs
join_needs empty E = refl
join_needs (bound x b D) E = ap {B = Needs} (λ N. record { name = x; need = bindable_need b } ∷ N) (join_needs D E)

-- A name's need is that of what it is bound to.
pub lookup_need : (x : ℕ) (E : Environment) (b : Bindable) → lookup x E ≡ some b → need_of x (environment_needs E) ≡ bindable_need b
unfolding lookup environment_needs need_of
lookup_need x empty b q = missing q
lookup_need x (bound y c E) b q = choose (eqb y x) q (lookup_need x E b)
  where
    choose : (t : Bool) → cond t (some c) (lookup x E) ≡ some b → (lookup x E ≡ some b → need_of x (environment_needs E) ≡ bindable_need b) →
        cond t (bindable_need c) (need_of x (environment_needs E)) ≡ bindable_need b
    choose true p outer = ap bindable_need (some-injective c b p)
    choose false p outer = outer p

pub record MatchNeeds (k : ℕ) (fs : List Formal) (X : List Entry) (F : Environment) (m : Matched) : Type 0 where
  pub names_then : environment_needs m.environment_with ≡ over_formals fs (environment_needs F)
  pub values_then : sketches m.rest ≡ drop k (sketches X)
  pub counted : length (sketches X) ≡ k + length (sketches m.rest)

pub match_needs : (k : ℕ) (fs : List Formal) (X : List Entry) (F : Environment) (m : Matched) → match_formals k fs X F ≡ some m → MatchNeeds k fs X F m
unfolding match_formals over_formals environment_needs bindable_need sketches
match_needs zero [] X F m q =
    let e = some-injective (record { environment_with = F; rest = X }) m q in
    record {
      names_then = ap (λ w. environment_needs w.environment_with) (sym e);
      values_then = ap (λ w. sketches w.rest) (sym e);
      counted = ap (λ w. length (sketches w.rest)) e ∙ omega arith;
    }
match_needs zero (f ∷ fs) X F m q = missing q
match_needs (suc k) [] X F m q = missing q
match_needs (suc k) (f ∷ fs) [] F m q = missing q
match_needs (suc k) (f ∷ fs) (bindable (value v) ∷ X) F m q =
    let o = match_needs k fs X (bound f.name (value v) F) m q in
    record { names_then = o.names_then; values_then = o.values_then; counted = omega (arith, o.counted) }
match_needs (suc k) (f ∷ fs) (bindable (closure gs b E) ∷ X) F m q = missing q
match_needs (suc k) (f ∷ fs) (name x ∷ X) F m q = missing q
match_needs (suc k) (f ∷ fs) (node c ∷ X) F m q = missing q
match_needs (suc k) (f ∷ fs) (environment E ∷ X) F m q = missing q
match_needs (suc k) (f ∷ fs) (locations L ∷ X) F m q = missing q

module _ (C : List Item) (X : List Entry) (E : Environment) (S : Store) (L : List ℕ) (n : ℕ) where
  abbrev names : Needs
  names = environment_needs E

  abbrev height : ℕ
  height = length C

  -- ---- Marks of expressions and commands.

  pub operator_replaced : (o : Operator) (a b z : Value) →
      Replaced (state (mark (operator_mark o) ∷ C) (val b ∷ val a ∷ X) E S L n) (state C (val z ∷ X) E S L n)
  unfolding ahead sketches bindable_need
  operator_replaced o a b z = settles _ refl refl (λ f. refl) (λ f. refl) (shrinks (omega arith)) (shrinks (omega arith)) (shrinks (omega arith))

  pub not_mark_replaced : (a z : Value) → Replaced (state (mark not_mark ∷ C) (val a ∷ X) E S L n) (state C (val z ∷ X) E S L n)
  unfolding ahead sketches bindable_need
  not_mark_replaced a z = settles _ refl refl (λ f. refl) (λ f. refl) (shrinks (omega arith)) (shrinks (omega arith)) (shrinks (omega arith))

  pub assign_mark_replaced : (x l : ℕ) (v : Value) → Replaced (state (mark assign_mark ∷ C) (val v ∷ name x ∷ X) E S L n) (state C X E (store_at l v S) L n)
  unfolding ahead sketches
  assign_mark_replaced x l v =
      settles (ahead C (outlook (state C X E S L n))) refl (ap (ahead C) (same_outlook (sketches X) names (store_at_length l v S) refl refl)) (λ f. refl) (λ f. refl)
      (shrinks (omega arith)) (shrinks (omega (arith, store_at_length l v S))) (shrinks (omega arith))

  pub ref_mark_replaced : (v w : Value) (c : Cell) (l : ℕ) → Replaced (state (mark ref_mark ∷ C) (val v ∷ X) E S L n) (state C (val w ∷ X) E (c ∷ S) (l ∷ L) n)
  unfolding ahead sketches bindable_need
  ref_mark_replaced v w c l = settles _ refl refl (λ f. refl) (λ f. refl) (shrinks (omega arith)) (grows (omega arith)) (shrinks (omega arith))

  -- ---- Marks of declarations and blocks.

  pub bind_mark_replaced : (x : ℕ) (b : Bindable) → Replaced (state (mark bind_mark ∷ C) (bindable b ∷ name x ∷ X) E S L n) (state C (environment (bound x b empty) ∷ X) E S L (suc n))
  unfolding ahead sketches environment_needs
  bind_mark_replaced x b = settles _ refl refl (λ f. refl) (λ f. refl) (shrinks (omega arith)) (shrinks (omega arith)) (grows (omega arith))

  pub dseq_extend_replaced : (D : Environment) → Replaced (state (mark dseq_extend_mark ∷ C) (environment D ∷ X) E S L n) (state C (environment D ∷ environment E ∷ X) (join D E) S L n)
  unfolding ahead sketches
  dseq_extend_replaced D =
      settles (ahead C (after_mark dseq_extend_mark (outlook (state C (environment D ∷ X) E S L n)))) refl
      (ap (λ N. ahead C (knowing (an_environment (environment_needs D) ∷ an_environment names ∷ sketches X) N (length S) (length L) n)) (join_needs D E)) (λ f. refl) (λ f. refl)
      (grows (omega arith)) (shrinks (omega arith)) (shrinks (omega arith))

  pub dseq_join_replaced : (D₁ D₂ F : Environment) →
      Replaced (state (mark dseq_join_mark ∷ C) (environment D₂ ∷ environment D₁ ∷ environment F ∷ X) E S L n) (state C (environment (join D₂ D₁) ∷ X) F S L n)
  unfolding ahead sketches
  dseq_join_replaced D₁ D₂ F =
      settles (ahead C (after_mark dseq_join_mark (outlook (state C (environment D₂ ∷ environment D₁ ∷ environment F ∷ X) E S L n)))) refl
      (ap (λ N. ahead C (knowing (an_environment N ∷ sketches X) (environment_needs F) (length S) (length L) n)) (join_needs D₂ D₁)) (λ f. refl) (λ f. refl)
      (shrinks (omega arith)) (shrinks (omega arith)) (shrinks (omega arith))

  pub extend_replaced : (D : Environment) → Replaced (state (mark extend_mark ∷ C) (environment D ∷ X) E S L n) (state C (environment E ∷ X) (join D E) S L n)
  unfolding ahead sketches
  extend_replaced D =
      settles (ahead C (after_mark extend_mark (outlook (state C (environment D ∷ X) E S L n)))) refl
      (ap (λ N. ahead C (knowing (an_environment names ∷ sketches X) N (length S) (length L) n)) (join_needs D E)) (λ f. refl) (λ f. refl)
      (shrinks (omega arith)) (shrinks (omega arith)) (shrinks (omega arith))

  -- The leaving removes the cells of the location set: their number is known of a typed state.
  pub leave_replaced : (p m : ℕ) (F : Environment) (K : List ℕ) → length (remove L S) ≡ length S - length L → m ≤ n →
      Replaced (state (mark (leave_mark p m) ∷ C) (environment F ∷ locations K ∷ X) E S L n) (state C X F (remove L S) K m)
  unfolding ahead sketches
  leave_replaced p m F K fewer l =
      settles (ahead C (after_mark (leave_mark p m) (outlook (state C (environment F ∷ locations K ∷ X) E S L n)))) refl
      (ap (λ c. ahead C (knowing (sketches X) (environment_needs F) c (length K) m)) fewer) (λ f. refl) (λ f. refl)
      (shrinks (omega arith)) (shrinks (omega (arith, fewer))) (shrinks l)

  -- ---- A call's mark.

  pub call_mark_replaced : (p x k : ℕ) (fs : List Formal) (b : Block) (F : Environment) (m : Matched) → lookup x E ≡ some (closure fs b F) → match_formals k fs X F ≡ some m →
      Replaced (state (mark (call_mark p x k) ∷ C) X E S L n)
      (state (command (block b) ∷ mark (leave_mark p n) ∷ C) (environment E ∷ locations L ∷ m.rest) m.environment_with S [] (n + k))
  unfolding ahead sketches function_need command_need stretches_of bindable_need
  call_mark_replaced p x k fs b F m found matched =
      unfolds_into (sizes 1 k 0 0) (over (sizes 1 2 0 k) (block_need (environment_needs m.environment_with) b) ∷ step (sizes 1 2 0 k) ∷ [])
      (over (lies (suc height) inside) (block_need (environment_needs m.environment_with) b))
      (stretches_of height (mark (leave_mark p n) ∷ []) inside) (ahead C outside)
      (ap (λ N. once (over (lies height outside) (function_need k N)) ∷ ahead C outside) (lookup_need x E (closure fs b F) found ∙ ap (λ N. block_need N b) (sym o.names_then)))
      (ap (λ u. once (over (lies (suc height) inside) (block_need (environment_needs m.environment_with) b)) ∷ stretches_of height (mark (leave_mark p n) ∷ []) inside ++ ahead C u) left)
      (by_figure _ (omega (arith, o.counted, kept)))
      (covers (suc height) inside (block_need (environment_needs m.environment_with) b) (block_least (environment_needs m.environment_with) b))
      (spread_next (over (sizes 1 2 0 k) (block_need (environment_needs m.environment_with) b)) _ (by_figure _ (omega (arith, kept))) refl
      (spread_end (step (sizes 1 2 0 k)) (by_figure _ (omega (arith, kept))) refl))
    where
      o : MatchNeeds k fs X F m
      o = match_needs k fs X F m matched

      inside : Outlook
      inside = outlook (state C (environment E ∷ locations L ∷ m.rest) m.environment_with S [] (n + k))

      outside : Outlook
      outside = with_values (drop k (sketches X)) (outlook (state C X E S L n))

      kept : length (drop k (sketches X)) ≡ length (sketches m.rest)
      kept = ap length (sym o.values_then)

      left : knowing (sketches m.rest) names (length S - 0) (length L) n ≡ outside
      left =
          same_outlook (sketches m.rest) names (omega arith) refl refl
          ∙ ap (λ Y. knowing Y names (length S) (length L) n) o.values_then
