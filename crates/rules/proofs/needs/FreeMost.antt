-- The figures are the most over all free runs: nothing exceeds them (1), and each is reached (2).
use Rattle.std.specs.Prelude.{ℕ, zero, suc, ◌+◌, ◌≤◌, ◌<◌, ◌≡◌, Bool, List, [], ◌∷◌, ◌⊎◌, ℤ}
use Rattle.std.proofs.Math.Path.{refl, ap, subst}
use Rattle.std.proofs.Common.{sym, ◌∙◌, ⊎_elim, arith}
use Rattle.std.proofs.Math.Logic.{inl, inr}
use Rattle.rules.specs.paper.Tree.{Command, Root}
use Rattle.rules.specs.paper.Tree as Tree
use Rattle.rules.specs.paper.Checker.{Passed}
use Rattle.rules.specs.paper.States.{State, state, control_of}
use Rattle.rules.specs.paper.Needs.{Figure, control, sizes, Need, nothing, over, expression_need, command_need, Needs, register_needs, root_need, routine_need, is_loop, has_loop}
use Rattle.rules.specs.paper.Engine.{check_image, passed, root_control, register_environment, register_store, start}
use Rattle.rules.specs.claims.Claim.{AllInRange}
use Rattle.rules.specs.claims.History.{first_history}
use Rattle.rules.specs.claims.FreeRun.{FreeReach, at_start, one_more, NothingExceeds, SizeReached, StepsReached, EachReached}
use Rattle.rules.proofs.Basics.{cons_not_empty}
use Rattle.rules.proofs.checking.ImageExact.{check_exact}
use Rattle.rules.proofs.running.RunEnds.{store_count}
use Rattle.rules.proofs.running.WholeRun.{start_invariant}
use Rattle.rules.proofs.needs.Outlook.{bindable_need, environment_needs, sketches, Outlook, outlook, Stretch, once, through, lies, ahead, ahead_of}
use Rattle.rules.proofs.needs.StretchLaws.{by_figure, AllAtMost, none_ahead, one_ahead, Target, this, later, shown, shown_size}
use Rattle.rules.proofs.needs.NodeStretches.{covers, expression_least, command_least}
use Rattle.rules.proofs.needs.TestStretches.{Nearer, in_first, in_second, still_ahead}
use Rattle.rules.proofs.needs.StepKinds.{Ordered, none_left, other}
use Rattle.rules.proofs.needs.FreeStates.{FreeInvariant, free_invariant}
use Rattle.rules.proofs.needs.Without.{Without, step_without, start_without}
use Rattle.rules.proofs.needs.FreeSteps.{kept_within, step_counts, goes_on, brings_nearer, LongestStep, keeps_longest}

-- ---- The start.

registers_needs : (r : ℕ) → environment_needs (register_environment r) ≡ register_needs r
unfolding register_environment environment_needs bindable_need register_needs
registers_needs zero = refl
registers_needs (suc r) = ap {B = Needs} (λ N. record { name = r; need = nothing } ∷ N) (registers_needs r)

root_ordered : (t : Root) (n : ℕ) → Ordered (root_control t) n
root_ordered (Tree.expression e) n = other refl none_left
root_ordered (Tree.command c) n = other refl none_left
root_ordered Tree.absent n = none_left

pub start_free : (image : List ℕ) (r : ℕ) (t : Root) (a : Passed) → check_image image ≡ passed r t a → (zs : List ℤ) → AllInRange zs → FreeInvariant a r (start r t zs)
unfolding start
start_free image r t a passes zs ranged =
    record { history = first_history r; typed = start_invariant image r t a ((check_exact image r t a).0 passes) zs ranged; ordered = root_ordered t r }

-- What is ahead of the start: the root's need over the registers.
pub record Beginning (r : ℕ) (zs : List ℤ) (t : Root) (n : Need) : Type 0 where
  pub size_within : (f : Figure) → shown (start r t zs) f ≤ n.most f
  pub ahead_within : (f : Figure) → AllAtMost f (n.most f) (ahead_of (start r t zs))
  pub first : (f : Figure) → (shown (start r t zs) f ≡ n.most f) ⊎ Target f (n.most f) (ahead_of (start r t zs)) n.steps
  pub counted : through (ahead_of (start r t zs)) ≡ n.steps

module _ (r : ℕ) (zs : List ℤ) where
  abbrev at_registers : Outlook
  at_registers = outlook (state [] [] (register_environment r) (register_store r zs) [] r)

  over_registers : (n : Need) (f : Figure) → (over (lies 0 at_registers) n).most f ≡ (over (sizes 0 0 r r) n).most f
  unfolding sketches
  over_registers n = by_figure _ (omega (arith, store_count r zs))

  begins : (t : Root) (n : Need) → 1 ≤ n.most control → ahead_of (start r t zs) ≡ once (over (lies 0 at_registers) n) ∷ [] →
      ((f : Figure) → shown (start r t zs) f ≡ lies 1 at_registers f) → Beginning r zs t (over (sizes 0 0 r r) n)
  unfolding through
  begins t n least q here =
      record {
        size_within = λ f. omega (arith, here f, covers 0 at_registers n least f, over_registers n f);
        ahead_within = λ f. subst (AllAtMost f ((over (sizes 0 0 r r) n).most f)) (sym q) (one_ahead {s = once (over (lies 0 at_registers) n)} (omega (arith, over_registers n f)) none_ahead);
        first = λ f. inr (subst (λ ss. Target f ((over (sizes 0 0 r r) n).most f) ss n.steps) (sym q) (this {s = once (over (lies 0 at_registers) n)} (over_registers n f)));
        counted = ap through q ∙ omega arith;
      }

  pub beginning : (t : Root) → Beginning r zs t (routine_need r t)
  unfolding routine_need root_need start ahead sketches through
  beginning (Tree.expression e) = begins (Tree.expression e) (expression_need e) (expression_least e) refl (λ f. refl)
  beginning (Tree.command c) =
      begins (Tree.command c) (command_need (register_needs r) c) (command_least (register_needs r) c)
      (ap (λ N. once (over (lies 0 at_registers) (command_need N c)) ∷ []) (registers_needs r)) (λ f. refl)
  beginning Tree.absent =
      record {
        size_within = by_figure _ (omega (arith, store_count r zs));
        ahead_within = λ f. none_ahead;
        first = λ f. inl (by_figure (λ g. shown (start r Tree.absent zs) g ≡ (routine_need r Tree.absent).most g) (omega (arith, store_count r zs)) f);
        counted = refl;
      }

-- ---- 1. Nothing exceeds the figures.

record Under (a : Passed) (r : ℕ) (n : Need) (σ : State) : Type 0 where
  invariant : FreeInvariant a r σ
  size_under : (f : Figure) → shown σ f ≤ n.most f
  ahead_under : (f : Figure) → AllAtMost f (n.most f) (ahead_of σ)

under_all : {a : Passed} {r : ℕ} {n : Need} {first σ : State} {k : ℕ} → Under a r n first → FreeReach first k σ → Under a r n σ
under_all u at_start = u
under_all {n = n} u (one_more reached s) =
    let before = under_all u reached in
    record {
      invariant = free_invariant before.invariant s;
      size_under = λ f. (kept_within before.invariant s f (n.most f) (before.ahead_under f)).size_within;
      ahead_under = λ f. (kept_within before.invariant s f (n.most f) (before.ahead_under f)).ahead_within;
    }

pub reach_free : {a : Passed} {r : ℕ} {first σ : State} {k : ℕ} → FreeInvariant a r first → FreeReach first k σ → FreeInvariant a r σ
reach_free inv at_start = inv
reach_free inv (one_more reached s) = free_invariant (reach_free inv reached) s

pub reach_without : (t : Command → Bool) {first σ : State} {k : ℕ} → Without t first → FreeReach first k σ → Without t σ
reach_without t w at_start = w
reach_without t w (one_more reached s) = step_without t (reach_without t w reached) s

steps_under : {a : Passed} {r : ℕ} {first σ : State} {k : ℕ} → FreeInvariant a r first → Without is_loop first → FreeReach first k σ → k + through (ahead_of σ) ≤ through (ahead_of first)
steps_under inv w at_start = omega arith
steps_under inv w (one_more reached s) = omega (arith, steps_under inv w reached, step_counts (reach_free inv reached) (reach_without is_loop w reached) s)

pub nothing_exceeds : NothingExceeds
unfolding has_loop
nothing_exceeds image r t a passes zs count ranged k σ reached =
    let b = beginning r zs t in
    let inv = start_free image r t a passes zs ranged in
    let u = under_all {n = routine_need r t} (record { invariant = inv; size_under = b.size_within; ahead_under = b.ahead_within }) reached in (
      λ f. subst (λ m. m ≤ (routine_need r t).most f) (shown_size σ f) (u.size_under f),
      λ q. omega (arith, steps_under inv (start_without is_loop r t zs q) reached, b.counted),
    )

-- ---- 2. Each is reached.

SomeAhead : List Stretch → Type 0
SomeAhead [] = ⊥
SomeAhead (s ∷ ss) = Unit {0}

has_some : {f : Figure} {k d : ℕ} {ss : List Stretch} → Target f k ss d → SomeAhead ss
unfolding SomeAhead
has_some (this q) = tt
has_some (later t) = tt

-- Where something is ahead control is not empty.
pub control_left : {f : Figure} {k d : ℕ} (σ : State) → Target f k (ahead_of σ) d → control_of σ ≡ [] → ⊥
unfolding ahead SomeAhead
control_left (state [] X E S L n) t q = has_some t
control_left (state (i ∷ C) X E S L n) t q = cons_not_empty q

arrived : {first σ : State} {f : Figure} {k j : ℕ} → FreeReach first j σ → shown σ f ≡ k → SizeReached first f k
arrived {σ = σ} {f = f} {j = j} reached q = record { steps = j; there = σ; reached = reached; equal = sym (shown_size σ f) ∙ q }

-- By going nearer; `most` bounds the steps on the way.
size_reached : {a : Passed} {r : ℕ} {first : State} (most : ℕ) (f : Figure) (k d j : ℕ) (σ : State) → FreeInvariant a r σ → FreeReach first j σ → Target f k (ahead_of σ) d → d ≤ most →
    SizeReached first f k
size_reached {first = first} zero f k d j σ inv reached h l =
    let s = brings_nearer inv (goes_on σ inv (control_left σ h)) f k d h in
    by_nearer (one_more reached s.free) s.nearer
  where
    by_nearer : {τ : State} → FreeReach first (suc j) τ → Nearer f k d σ τ → SizeReached first f k
    by_nearer next (in_first q) = arrived reached q
    by_nearer next (in_second q) = arrived next q
    by_nearer next (still_ahead t m) = absurd (never m)
      where
        never : {i : ℕ} → i < d → ⊥
        never g = omega (arith, g, l)
size_reached {first = first} (suc most) f k d j σ inv reached h l =
    let s = brings_nearer inv (goes_on σ inv (control_left σ h)) f k d h in
    by_nearer s.after (one_more reached s.free) s.nearer
    (λ i t m. size_reached most f k i (suc j) s.after (free_invariant inv s.free) (one_more reached s.free) t m)
  where
    by_nearer : (τ : State) → FreeReach first (suc j) τ → Nearer f k d σ τ → ((i : ℕ) → Target f k (ahead_of τ) i → i ≤ most → SizeReached first f k) → SizeReached first f k
    by_nearer τ next (in_first q) go = arrived reached q
    by_nearer τ next (in_second q) go = arrived next q
    by_nearer τ next (still_ahead {j = i} t m) go = go i t (omega (arith, m, l))

empty_or_not : (σ : State) → (control_of σ ≡ []) ⊎ (control_of σ ≡ [] → ⊥)
empty_or_not (state [] X E S L n) = inl refl
empty_or_not (state (i ∷ C) X E S L n) = inr cons_not_empty

pub none_ahead_of : (σ : State) → control_of σ ≡ [] → through (ahead_of σ) ≡ 0
unfolding ahead through
none_ahead_of (state C X E S L n) q = ap (λ D. through (ahead D (outlook (state D X E S L n)))) q

-- Without Loops, by the longest way.
steps_reached : {a : Passed} {r : ℕ} {first : State} (left j : ℕ) (σ : State) → FreeInvariant a r σ → Without is_loop σ → FreeReach first j σ → through (ahead_of σ) ≡ left → StepsReached first (j + left)
steps_reached {a} {r} {first} zero j σ inv w reached q = ⊎_elim ended (λ more. absurd (clash (keeps_longest inv w (goes_on σ inv more)))) (empty_or_not σ)
  where
    ended : control_of σ ≡ [] → StepsReached first (j + 0)
    ended e = record { there = σ; reached = subst (λ m. FreeReach first m σ) (omega arith) reached; at_end = e }

    clash : LongestStep σ → ⊥
    clash s = omega (arith, s.counted, q)
steps_reached {a} {r} {first} (suc left) j σ inv w reached q =
    ⊎_elim (λ e. absurd (clash e))
    (λ more.
    let s = keeps_longest inv w (goes_on σ inv more) in
    subst (StepsReached first) (omega arith)
    (steps_reached left (suc j) s.after (free_invariant inv s.free) (step_without is_loop w s.free) (one_more reached s.free) (omega (arith, s.counted, q))))
    (empty_or_not σ)
  where
    clash : control_of σ ≡ [] → ⊥
    clash e = omega (arith, none_ahead_of σ e, q)

pub each_reached : EachReached
unfolding has_loop
each_reached image r t a passes zs count ranged =
    let b = beginning r zs t in
    let inv = start_free image r t a passes zs ranged in (
      λ f.
          ⊎_elim (λ q. arrived at_start q) (λ h. size_reached (routine_need r t).steps f ((routine_need r t).most f) (routine_need r t).steps 0 (start r t zs) inv at_start h (omega arith)) (b.first f),
      λ q.
          subst (StepsReached (start r t zs)) (omega arith)
          (steps_reached (routine_need r t).steps 0 (start r t zs) inv (start_without is_loop r t zs q) at_start b.counted),
    )
