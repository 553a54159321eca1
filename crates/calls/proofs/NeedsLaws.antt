-- The needs alone: the work words first, then the image, then the steps; and the figures of the tree that was loaded.
use Prim.Native.Nat.{ℕ, ◌<◌, ◌≤◌}
use mathlib.Core.Path.{◌≡◌, refl, sym, ap, ◌∙◌}
use mathlib.Core.Bool.{true, false}
use mathlib.Core.List.{List}
use native.Mathlib.Omega.{arith}
use borrow.Author.Tests.{le-ltb, lt-ltb}
use lib.ListN.{length}
use Rattle.std.specs.Prelude.{Option, Some, None, Result, Ok, Err}
use Rattle.rules.specs.declared.refusals.Refusal.TheVariants.{Work, TooManySteps}
use Rattle.rules.specs.declared.refusals.Refused.{Refused}
use Rattle.rules.specs.paper.Limits.{most_registers, most_steps, work_words}
use Rattle.rules.specs.paper.Tree.{Root}
use Rattle.rules.specs.paper.Needs.{control, values, cells, bindings, routine_need}
use Rattle.rules.specs.paper.Engine.{check_image, cleared, figures_of, needs_answer, needs}
use Rattle.rules.proofs.checking.ImageExact.{check_exact}
use Rattle.rules.proofs.needs.RoomBounds.{figures_small}
use Rattle.reader.specs.Put.{KeptBeyond}
use Rattle.reader.specs.Stored.{RootAt}
use Rattle.reader.specs.StoredLaws.{same_root}
use Rattle.estimator.specs.Figures.{stopped}
use Rattle.estimator.specs.Entries.{WritesEntriesFrom}
use Rattle.estimator.specs.Answers.{RoutineNeeds, LoopFound}
use Rattle.estimator.specs.declared.figures.Need.{Need}
use Rattle.estimator.proofs.EntryLaws.{entries_nodes}
use Rattle.loader.specs.Answers.{LoadAnswer}
use Rattle.loader.specs.declared.Loaded.{Loaded}
use Rattle.loader.proofs.LoadLaws.{drop_same}
use Rattle.calls.specs.Answers.{without_place}
use Rattle.calls.specs.Needs.{with_steps, needs_reply, SmallRoom, SmallTree, EstimatedAs}
use Rattle.calls.specs.declared.Estimated.{Estimated}
use Rattle.calls.proofs.CheckLaws.{cleared_same}
use Rattle.calls.proofs.LoadedLaws.{Passes, loaded_passes, loaded_refused}

-- ---- The figures of a tree.

same_figures : {k v c b k' v' c' b' : ℕ} {n n' : Option ℕ} → k ≡ k' → v ≡ v' → c ≡ c' → b ≡ b' → n ≡ n' →
    ◌≡◌ {A = Result Estimated Refused} (Ok (record { control = k; values = v; cells = c; bindings = b; steps = n })) (Ok (record { control = k'; values = v'; cells = c'; bindings = b'; steps = n' }))
same_figures p q r s t = λ i. Ok (record { control = p i; values = q i; cells = r i; bindings = s i; steps = t i })

pub beyond_entries : {a b : List ℕ} {node : ℕ} → WritesEntriesFrom a b node → KeptBeyond work_words a b
beyond_entries {a} {b} k = record { same_length = k.same_length; same_beyond = drop_same work_words a b k.same_length (λ i h. k.same_beyond i (omega (arith, h))) }

module _ (words words' : List ℕ) (registers nodes : ℕ) (need : Need) (routine : RoutineNeeds words registers nodes need) (kept : WritesEntriesFrom words words' 0) where
  pub kept_root : (t : Root) → RootAt words nodes t → RootAt words' nodes t
  kept_root t at = record { depth = at.depth; depth_low = at.depth_low; stored = same_root words words' (entries_nodes kept) at.stored }

  whole : (n m : ℕ) → n ≡ stopped m → m ≤ most_steps → n ≡ m
  whole n m q l = omega (arith, q, l)

  -- The room figures are those of the definition.
  module _ (t : Root) (at : RootAt words nodes t) (small : SmallRoom registers t) where
    pub is_control : need.control ≡ (routine_need registers t).most control
    is_control = whole need.control _ (ap (λ n. n.control) (routine t at)) (omega (arith, small control))

    pub is_values : need.values ≡ (routine_need registers t).most values
    is_values = whole need.values _ (ap (λ n. n.values) (routine t at)) (omega (arith, small values))

    pub is_cells : need.cells ≡ (routine_need registers t).most cells
    is_cells = whole need.cells _ (ap (λ n. n.cells) (routine t at)) (omega (arith, small cells))

    pub is_bindings : need.bindings ≡ (routine_need registers t).most bindings
    is_bindings = whole need.bindings _ (ap (λ n. n.bindings) (routine t at)) (omega (arith, small bindings))

    is_steps : need.steps ≡ stopped (routine_need registers t).steps
    is_steps = ap (λ n. n.steps) (routine t at)

  pub open_answered : LoopFound words' nodes true → (e : Estimated) → e ≡ with_steps need None → EstimatedAs words registers nodes (Ok e)
  unfolding figures_of
  open_answered loop e q t at small =
      rw (sym (loop t (kept_root t at)))
      (ap Ok q ∙ same_figures (is_control t at small) (is_values t at small) (is_cells t at small) (is_bindings t at small) refl)

  module _ (no_loop : LoopFound words' nodes false) where
    pub steps_refused : most_steps < need.steps → (x : Refused) → x ≡ without_place TooManySteps → EstimatedAs words registers nodes (Err x)
    unfolding figures_of
    steps_refused l x q t at small =
        rw (sym (no_loop t (kept_root t at)), lt-ltb most_steps (routine_need registers t).steps (omega (arith, l, is_steps t at small))) (ap Err q)

    pub figures_answered : need.steps ≤ most_steps → (e : Estimated) → e ≡ with_steps need (Some need.steps) → EstimatedAs words registers nodes (Ok e)
    unfolding figures_of
    figures_answered l e q t at small =
        rw (sym (no_loop t (kept_root t at)), le-ltb most_steps (routine_need registers t).steps (omega (arith, l, is_steps t at small)))
        (ap Ok q ∙ same_figures (is_control t at small) (is_values t at small) (is_cells t at small) (is_bindings t at small) (ap Some (omega (arith, l, is_steps t at small))))

-- ---- An image.

module _ (image before after : List ℕ) (e : Result Loaded Refused) (loaded : LoadAnswer (check_image image) e before after) where
  module _ (l : Loaded) (g : e ≡ Ok l) where
    image_passes : Passes image after l
    image_passes = loaded_passes image before after e loaded l g

    small : SmallRoom l.registers image_passes.tree
    small = figures_small image l.registers image_passes.tree l.root image_passes.passes

    pub tree_loaded : (l.registers ≤ most_registers) × SmallTree after l.registers l.nodes
    tree_loaded = (((check_exact image l.registers image_passes.tree l.root).0 image_passes.passes).shape.registers, (image_passes.tree, image_passes.stands, small))

    pub passed_answered : (r : Result Estimated Refused) → EstimatedAs after l.registers l.nodes r → r ≡ needs_reply (needs_answer (check_image image))
    passed_answered r done = done image_passes.tree image_passes.stands small ∙ sym (ap (λ c. needs_reply (needs_answer c)) image_passes.passes)

  pub refusal_answered : (x : Refused) → e ≡ Err x → (r : Result Estimated Refused) → r ≡ Err x → r ≡ needs_reply (needs_answer (check_image image))
  refusal_answered x g r p = p ∙ sym (ap (λ c. needs_reply (needs_answer c)) (loaded_refused image before after e loaded x g))

-- ---- The call.

-- Under 8,192 work words: nothing is touched.
pub little_room : (image work : List ℕ) (x : Refused) → (length work < work_words) × (x ≡ without_place Work) → (r : Result Estimated Refused) → r ≡ Err x →
    (r ≡ needs_reply (needs image work).answer) × (work ≡ (needs image work).work)
unfolding needs
little_room image work x h r p = rw (lt-ltb (length work) work_words h.0) (p ∙ ap Err h.1, refl)

enough : (image work : List ℕ) → work_words ≤ length work → needs image work ≡ record { answer = needs_answer (check_image image); work = cleared work }
unfolding needs
enough image work h = rw (le-ltb (length work) work_words h)

pub answered : (image work after last : List ℕ) (r : Result Estimated Refused) → work_words ≤ length work → r ≡ needs_reply (needs_answer (check_image image)) → KeptBeyond work_words work after →
    last ≡ cleared after → (r ≡ needs_reply (needs image work).answer) × (last ≡ (needs image work).work)
answered image work after last r h q b e =
    (q ∙ sym (ap (λ c. needs_reply c.answer) (enough image work h)), e ∙ cleared_same work after b ∙ sym (ap (λ c. c.work) (enough image work h)))
