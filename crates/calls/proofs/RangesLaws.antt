-- The ranges: the work words first, then the image, as many limits as registers, limits that do not cross, no Loop, few steps, room, and safe
-- arithmetic; a refusal keeps both lists.
use Prim.Native.Nat.{ℕ, ◌<◌, ◌≤◌}
use mathlib.Core.Path.{◌≡◌, refl, sym, ap, ◌∙◌, subst}
use mathlib.Core.Bool.{Bool, true, false, cond}
use mathlib.Core.Logic.{◌⊎◌, inl, inr}
use mathlib.Core.List.{List}
use mathlib.Core.Option as Rules
use mathlib.Core.Option.{none, some}
use native.Mathlib.Omega.{arith}
use borrow.Author.Tests.{le-ltb, lt-ltb, ltb-false, eq-eqb, ne_eqb}
use lib.Dec.{ltb}
use lib.IntN.{ℤ}
use lib.ListN.{length}
use Rattle.std.specs.Prelude.{Option, Some, None, Result, Ok, Err}
use Rattle.rules.specs.paper.Limits.{most_registers, most_steps, most_cells, most_bindings, most_value_entries, most_control_entries, work_words}
use Rattle.rules.specs.declared.refusals.Reason.{Reason}
use Rattle.rules.specs.declared.refusals.Reason.TheVariants.{Cells, Bindings, ValueEntries, ControlEntries}
use Rattle.rules.specs.declared.refusals.Refusal.{Refusal}
use Rattle.rules.specs.declared.refusals.Refusal.TheVariants.{Withheld, TooManySteps, HasLoop, UnsafeArithmetic}
use Rattle.rules.specs.declared.refusals.Refusal.TheVariants as Refusals
use Rattle.rules.specs.declared.refusals.Refused.{Refused}
use Rattle.rules.specs.paper.Tree.{Root}
use Rattle.rules.specs.declared.kinds.Passed.{Passed}
use Rattle.rules.specs.paper.Needs.{Sizes, control, values, cells, bindings, routine_need, has_loop}
use Rattle.rules.specs.paper.Engine.{check_image, passed, cleared}
use Rattle.rules.specs.paper.Carried.{Carrying, carried, unsafe, unfit}
use Rattle.rules.specs.paper.Carrying.{CarriedCells, carry_routine}
use Rattle.rules.specs.paper.Ranges.{RangesCalled, no_ranges, carried_ranges, limits_cross, room_refusal, with_room, ranges_of, ranges_checked, ranges}
use Rattle.rules.proofs.Basics.{missing}
use Rattle.rules.proofs.needs.RoomBounds.{figures_small}
use Rattle.rules.proofs.checking.ImageExact.{check_exact}
use Rattle.rules.proofs.ranges.Fitting.{carrying_fits}
use Rattle.integers.specs.Words.{integers_of}
use Rattle.integers.specs.WordLaws.{integers_length, words_back}
use Rattle.reader.specs.Put.{KeptBeyond}
use Rattle.reader.specs.Stored.{RootAt}
use Rattle.reader.specs.StoredLaws.{same_root}
use Rattle.estimator.specs.Figures.{stopped}
use Rattle.estimator.specs.Entries.{WritesEntriesFrom}
use Rattle.estimator.specs.Answers.{RoutineNeeds, LoopFound}
use Rattle.estimator.specs.declared.figures.Need.{Need}
use Rattle.estimator.proofs.EntryLaws.{entries_nodes}
use Rattle.carrying.specs.Frames.{Keeps}
use Rattle.ranges.specs.Routine.{EnoughRoom, SomeRoutine, CarriedAs, RoutineCarried}
use Rattle.loader.specs.Answers.{LoadAnswer}
use Rattle.loader.specs.declared.Loaded.{Loaded}
use Rattle.loader.proofs.LoadLaws.{drop_same}
use Rattle.calls.specs.Answers.{without_place}
use Rattle.calls.specs.Needs.{SmallRoom, SmallTree}
use Rattle.calls.specs.DeliveredRanges.{integers_back}
use Rattle.calls.specs.Runs.{TreeStands}
use Rattle.calls.specs.Ranges.{WordsFit, ranges_call, RangedAs, told, room_refused, room_of, tree_refusal, TreeRefused, TreeRanged, ImageRanged}
use Rattle.calls.proofs.CheckLaws.{cleared_same}
use Rattle.calls.proofs.LoadedLaws.{loaded_passes, loaded_refused}
use Rattle.calls.proofs.NeedsLaws.{is_control, is_values, is_cells, is_bindings}

-- ---- The room.

module _ (n : Need) where
  pub cells_full : most_cells < n.cells → Some (Withheld Cells) ≡ told (room_refused (room_refusal (room_of n)))
  unfolding room_refusal
  cells_full h = rw (lt-ltb most_cells n.cells h) refl

  module _ (few_cells : n.cells ≤ most_cells) where
    pub bindings_full : most_bindings < n.bindings → Some (Withheld Bindings) ≡ told (room_refused (room_refusal (room_of n)))
    unfolding room_refusal
    bindings_full h = rw (le-ltb most_cells n.cells few_cells, lt-ltb most_bindings n.bindings h) refl

    module _ (few_bindings : n.bindings ≤ most_bindings) where
      pub values_full : most_value_entries < n.values → Some (Withheld ValueEntries) ≡ told (room_refused (room_refusal (room_of n)))
      unfolding room_refusal
      values_full h = rw (le-ltb most_cells n.cells few_cells, le-ltb most_bindings n.bindings few_bindings, lt-ltb most_value_entries n.values h) refl

      module _ (few_values : n.values ≤ most_value_entries) where
        pub control_full : most_control_entries < n.control → Some (Withheld ControlEntries) ≡ told (room_refused (room_refusal (room_of n)))
        unfolding room_refusal
        control_full h =
            rw (le-ltb most_cells n.cells few_cells, le-ltb most_bindings n.bindings few_bindings, le-ltb most_value_entries n.values few_values, lt-ltb most_control_entries n.control h) refl

        pub nothing_full : n.control ≤ most_control_entries → None ≡ told (room_refused (room_refusal (room_of n)))
        unfolding room_refusal
        nothing_full h =
            rw (le-ltb most_cells n.cells few_cells, le-ltb most_bindings n.bindings few_bindings, le-ltb most_value_entries n.values few_values, le-ltb most_control_entries n.control h) refl

same_room : (s z : Sizes) → s control ≡ z control → s values ≡ z values → s cells ≡ z cells → s bindings ≡ z bindings → room_refusal s ≡ room_refusal z
unfolding room_refusal
same_room s z k v c b = rw (k, v, c, b) refl

-- ---- The Loop, the steps and the room of the tree that stands in the work words.

module _ (words : List ℕ) (registers nodes : ℕ) where
  pub loop_refused : LoopFound words nodes true → TreeRefused words registers nodes (Some HasLoop)
  loop_refused loop t at small = rw (sym (loop t at)) refl

  module _ (words' : List ℕ) (no_loop : LoopFound words nodes false) (need : Need) (routine : RoutineNeeds words registers nodes need) (kept : WritesEntriesFrom words words' 0) where
    is_all_steps : (t : Root) → RootAt words nodes t → need.all_steps ≡ stopped (routine_need registers t).all_steps
    is_all_steps t at = ap (λ n. n.all_steps) (routine t at)

    pub all_steps_refused : most_steps < need.all_steps → TreeRefused words registers nodes (Some TooManySteps)
    all_steps_refused l t at small =
        rw (sym (no_loop t at), lt-ltb most_steps (routine_need registers t).all_steps (omega (arith, l, is_all_steps t at))) refl

    pub room_answered : need.all_steps ≤ most_steps → (r : Option Refusal) → r ≡ told (room_refused (room_refusal (room_of need))) → TreeRefused words registers nodes r
    room_answered l r q t at small =
        rw (sym (no_loop t at), le-ltb most_steps (routine_need registers t).all_steps (omega (arith, l, is_all_steps t at)))
        (q ∙ ap (λ o. told (room_refused o)) (same_room (room_of need) (routine_need registers t).most
        (is_control words words' registers nodes need routine kept t at small) (is_values words words' registers nodes need routine kept t at small)
        (is_cells words words' registers nodes need routine kept t at small) (is_bindings words words' registers nodes need routine kept t at small)))

pub nothing_written : (words : List ℕ) → WritesEntriesFrom words words 0
nothing_written words = record { same_length = refl; same_below = λ i h. refl; same_needs = λ i g h. refl; same_beyond = λ i h. refl }

-- ---- Where no refusal is told.

untold : (loop many : Bool) (room : Rules.Option Reason) → None ≡ told (cond loop (some HasLoop) (cond many (some TooManySteps) (room_refused room))) →
    (loop ≡ false) × (many ≡ false) × (room ≡ none)
untold true many room q = cc
untold false true room q = cc
untold false false (some x) q = cc
untold false false none q = (refl, refl, refl)

room_left : (s : Sizes) → room_refusal s ≡ none → (s bindings ≤ most_bindings) × (s cells ≤ most_cells)
unfolding room_refusal
room_left s q = by _ (ltb most_cells (s cells)) (ltb most_bindings (s bindings)) refl refl q
  where
    by : (o : Rules.Option Reason) (c b : Bool) → ltb most_cells (s cells) ≡ c → ltb most_bindings (s bindings) ≡ b → cond c (some Cells) (cond b (some Bindings) o) ≡ none →
        (s bindings ≤ most_bindings) × (s cells ≤ most_cells)
    by o true b g h e = missing (sym e)
    by o false true g h e = missing (sym e)
    by o false false g h e = (ltb-false most_bindings (s bindings) h, ltb-false most_cells (s cells) g)

-- ---- The tests after those of the limits.

abbrev unless : Rules.Option Refusal → RangesCalled → (lowest highest : List ℤ) → List ℕ → RangesCalled
unless none body ls hs ws = body
unless (some x) body ls hs ws = no_ranges x 0 ls hs ws

module _ (r : ℕ) (t : Root) (ls hs : List ℤ) (ws : List ℕ) where
  lowest_refused : (length ls ≡ r → ⊥) → ranges_of r t ls hs ws ≡ no_ranges Refusals.Registers 0 ls hs ws
  unfolding ranges_of
  lowest_refused d = rw (ne_eqb (length ls) r d) refl

  module _ (many_low : length ls ≡ r) where
    highest_refused : (length hs ≡ r → ⊥) → ranges_of r t ls hs ws ≡ no_ranges Refusals.Registers 0 ls hs ws
    unfolding ranges_of
    highest_refused d = rw (eq-eqb (length ls) r many_low, ne_eqb (length hs) r d) refl

    module _ (many_high : length hs ≡ r) where
      crossed_refused : limits_cross ls hs ≡ true → ranges_of r t ls hs ws ≡ no_ranges Refusals.CrossedLimits 0 ls hs ws
      unfolding ranges_of
      crossed_refused q = rw (eq-eqb (length ls) r many_low, eq-eqb (length hs) r many_high, q) refl

      past_limits : limits_cross ls hs ≡ false → ranges_of r t ls hs ws ≡ unless (tree_refusal r t) (carried_ranges r (carry_routine r t ls hs) ls hs ws) ls hs ws
      unfolding ranges_of
      past_limits q =
          rw (eq-eqb (length ls) r many_low, eq-eqb (length hs) r many_high, q)
          (tests (has_loop t) (ltb most_steps (routine_need r t).all_steps) (room_refusal (routine_need r t).most) (carried_ranges r (carry_routine r t ls hs) ls hs ws))
        where
          tests : (loop many : Bool) (room : Rules.Option Reason) (c : RangesCalled) →
              cond loop (no_ranges HasLoop 0 ls hs ws) (cond many (no_ranges TooManySteps 0 ls hs ws) (with_room room c ls hs ws))
              ≡ unless (cond loop (some HasLoop) (cond many (some TooManySteps) (room_refused room))) c ls hs ws
          tests true many room c = refl
          tests false true room c = refl
          tests false false none c = refl
          tests false false (some x) c = refl

-- ---- Both lists kept.

module _ (lowest highest : List ℕ) (low : WordsFit lowest) (high : WordsFit highest) where
  pub both_kept : (x : Refusal) (p : ℕ) (work : List ℕ) (e : Refused) → e ≡ record { refusal = x; place = p } → RangedAs (no_ranges x p (integers_of lowest) (integers_of highest) work) (Err e) lowest highest work
  both_kept x p work e q =
      record { answer_is = ap Err q; lowest_are = sym (words_back lowest low); highest_are = sym (words_back highest high); lowest_hold = refl; highest_hold = refl; work_is = refl }

  -- ---- The limits.

  module _ (words : List ℕ) (registers nodes : ℕ) (e : Refused) where
    pub too_few : (length lowest ≡ registers → ⊥) ⊎ ((length lowest ≡ registers) × (length highest ≡ registers → ⊥)) → e ≡ without_place Refusals.Registers → TreeRanged registers words nodes lowest highest (Err e) lowest highest
    too_few d q image t a passes at work =
        subst (λ c. RangedAs c (Err e) lowest highest work) (sym (by d)) (both_kept Refusals.Registers 0 work e q)
      where
        by : (length lowest ≡ registers → ⊥) ⊎ ((length lowest ≡ registers) × (length highest ≡ registers → ⊥)) → ranges_of registers t (integers_of lowest) (integers_of highest) work ≡ no_ranges Refusals.Registers 0 (integers_of lowest) (integers_of highest) work
        by (inl d) = lowest_refused registers t (integers_of lowest) (integers_of highest) work (λ z. d (sym (integers_length lowest) ∙ z))
        by (inr d) = highest_refused registers t (integers_of lowest) (integers_of highest) work (integers_length lowest ∙ d.0) (λ z. d.1 (sym (integers_length highest) ∙ z))

    pub limits_refused : length lowest ≡ registers → length highest ≡ registers → limits_cross (integers_of lowest) (integers_of highest) ≡ true → e ≡ without_place Refusals.CrossedLimits →
        TreeRanged registers words nodes lowest highest (Err e) lowest highest
    limits_refused many_low many_high c q image t a passes at work =
        subst (λ c. RangedAs c (Err e) lowest highest work)
        (sym (crossed_refused registers t (integers_of lowest) (integers_of highest) work (integers_length lowest ∙ many_low) (integers_length highest ∙ many_high) c)) (both_kept Refusals.CrossedLimits 0 work e q)

  -- ---- The tree over limits that do not cross.

  module _ (words : List ℕ) (nodes : ℕ) (as_many : length highest ≡ length lowest) (ordered : limits_cross (integers_of lowest) (integers_of highest) ≡ false) where
    module _ (image : List ℕ) (t : Root) (a : Passed) (passes : check_image image ≡ passed (length lowest) t a) where
      small : SmallRoom (length lowest) t
      small = figures_small image (length lowest) t a passes

      is_unless : (work : List ℕ) →
          ranges_of (length lowest) t (integers_of lowest) (integers_of highest) work
          ≡ unless (tree_refusal (length lowest) t) (carried_ranges (length lowest) (carry_routine (length lowest) t (integers_of lowest) (integers_of highest)) (integers_of lowest) (integers_of highest) work) (integers_of lowest) (integers_of highest) work
      is_unless work = past_limits (length lowest) t (integers_of lowest) (integers_of highest) work (integers_length lowest) (integers_length highest ∙ as_many) ordered

      module _ (at : RootAt words nodes t) (nothing_told : TreeRefused words (length lowest) nodes None) where
        untested : (has_loop t ≡ false) × (ltb most_steps (routine_need (length lowest) t).all_steps ≡ false) × (room_refusal (routine_need (length lowest) t).most ≡ none)
        untested = untold _ _ _ (nothing_told t at small)

        enough : EnoughRoom (length lowest) t
        enough = let left = room_left (routine_need (length lowest) t).most untested.2 in record { few_bindings = left.0; few_cells = left.1 }

        fits : carry_routine (length lowest) t (integers_of lowest) (integers_of highest) ≡ unfit → ⊥
        fits = carrying_fits image (length lowest) t a passes untested.0 (integers_of lowest) (integers_of highest) (integers_length lowest) (integers_length highest ∙ as_many) ordered

        is_carried : (work : List ℕ) →
            ranges_of (length lowest) t (integers_of lowest) (integers_of highest) work
            ≡ carried_ranges (length lowest) (carry_routine (length lowest) t (integers_of lowest) (integers_of highest)) (integers_of lowest) (integers_of highest) work
        is_carried work = is_unless work ∙ none_told (has_loop t) (ltb most_steps (routine_need (length lowest) t).all_steps) (room_refusal (routine_need (length lowest) t).most) untested
          where
            none_told : (loop many : Bool) (room : Rules.Option Reason) → (loop ≡ false) × (many ≡ false) × (room ≡ none) →
                unless (cond loop (some HasLoop) (cond many (some TooManySteps) (room_refused room))) (carried_ranges (length lowest) (carry_routine (length lowest) t (integers_of lowest) (integers_of highest)) (integers_of lowest) (integers_of highest) work) (integers_of lowest) (integers_of highest) work
                ≡ carried_ranges (length lowest) (carry_routine (length lowest) t (integers_of lowest) (integers_of highest)) (integers_of lowest) (integers_of highest) work
            none_told loop many room q = rw (q.0, q.1, q.2) refl

    pub tree_refused : (x : Refusal) → TreeRefused words (length lowest) nodes (Some x) → (e : Refused) → e ≡ without_place x → TreeRanged (length lowest) words nodes lowest highest (Err e) lowest highest
    tree_refused x refusal e p image t a passes at work =
        subst (λ c. RangedAs c (Err e) lowest highest work) (sym (is_unless image t a passes work)) (by _ (tree_refusal (length lowest) t) (refusal t at (small image t a passes)))
      where
        by : (c : RangesCalled) (o : Rules.Option Refusal) → Some x ≡ told o → RangedAs (unless o c (integers_of lowest) (integers_of highest) work) (Err e) lowest highest work
        by c none q = absurd (never q)
          where
            never : Some x ≡ None → ⊥
            never q = cc
        by c (some y) q = both_kept y 0 work e (p ∙ ap without_place (same q))
          where
            same : Some x ≡ Some y → x ≡ y
            same q = cc

    -- ---- Carried: the work words have changed behind the nodes.

    module _ (words' : List ℕ) (nothing_told : TreeRefused words (length lowest) nodes None) (kept : WritesEntriesFrom words words' 0) where
      moved : (t : Root) → RootAt words nodes t → RootAt words' nodes t
      moved t at = record { depth = at.depth; depth_low = at.depth_low; stored = same_root words words' (entries_nodes kept) at.stored }

      pub routine_there : TreeStands (length lowest) words nodes → SomeRoutine words' nodes lowest highest
      routine_there s =
          (s.1, moved s.1 s.4, enough s.0 s.1 s.2 s.3 s.4 nothing_told, fits s.0 s.1 s.2 s.3 s.4 nothing_told)

      pub carried_answered : (lowest' highest' : List ℕ) (r : Result (Unit {0}) Refused) → RoutineCarried words' nodes lowest highest lowest' highest' r → TreeRanged (length lowest) words nodes lowest highest r lowest' highest'
      carried_answered lowest' highest' r done image t a passes at work =
          subst (λ c. RangedAs c r lowest' highest' work) (sym (is_carried image t a passes at nothing_told work))
          (by (carry_routine (length lowest) t (integers_of lowest) (integers_of highest)) (fits image t a passes at nothing_told) (done t (moved t at) (enough image t a passes at nothing_told)))
        where
          by : (c : Carrying CarriedCells) → (c ≡ unfit → ⊥) → CarriedAs c lowest highest lowest' highest' r →
              RangedAs (carried_ranges (length lowest) c (integers_of lowest) (integers_of highest) work) r lowest' highest' work
          by (carried K) fit ends =
              record {
                answer_is = ends.went_through;
                lowest_are = ends.lowest_are;
                highest_are = ends.highest_are;
                lowest_hold = ap integers_of ends.lowest_are ∙ integers_back _ ends.lowest_ranged;
                highest_hold = ap integers_of ends.highest_are ∙ integers_back _ ends.highest_ranged;
                work_is = refl;
              }
          by (unsafe p) fit lists =
              record {
                answer_is = lists.is_unsafe;
                lowest_are = lists.same_lowest ∙ sym (words_back lowest low);
                highest_are = lists.same_highest ∙ sym (words_back highest high);
                lowest_hold = ap integers_of lists.same_lowest;
                highest_hold = ap integers_of lists.same_highest;
                work_is = refl;
              }
          by unfit fit lists = absurd (fit refl)

  -- ---- An image.

  module _ (image before after : List ℕ) (e : Result Loaded Refused) (loaded : LoadAnswer (check_image image) e before after) where
    pub passed_ranged : (l : Loaded) → e ≡ Ok l → (r : Result (Unit {0}) Refused) (lowest' highest' : List ℕ) → TreeRanged l.registers after l.nodes lowest highest r lowest' highest' →
        ImageRanged (check_image image) lowest highest r lowest' highest'
    passed_ranged l g r lowest' highest' done work =
        let p = loaded_passes image before after e loaded l g in
        subst (λ c. RangedAs (ranges_checked c (integers_of lowest) (integers_of highest) work) r lowest' highest' work) (sym p.passes)
        (done image p.tree l.root p.passes p.stands work)

    pub refusal_ranged : (x : Refused) → e ≡ Err x → (r : Result (Unit {0}) Refused) → r ≡ Err x → ImageRanged (check_image image) lowest highest r lowest highest
    refusal_ranged x g r p work =
        subst (λ c. RangedAs (ranges_checked c (integers_of lowest) (integers_of highest) work) r lowest highest work) (sym (loaded_refused image before after e loaded x g))
        (subst (λ a. RangedAs (no_ranges x.refusal x.place (integers_of lowest) (integers_of highest) work) a lowest highest work) (sym p) (both_kept x.refusal x.place work x refl))

  -- ---- The call.

  -- Under 8,192 work words: nothing is touched.
  pub little_room : (image work : List ℕ) (x : Refused) → (length work < work_words) × (x ≡ without_place Refusals.Work) → (r : Result (Unit {0}) Refused) → r ≡ Err x →
      RangedAs (ranges_call image lowest highest work) r lowest highest work
  unfolding ranges
  little_room image work x h r p =
      rw (lt-ltb (length work) work_words h.0)
      (subst (λ a. RangedAs (no_ranges Refusals.Work 0 (integers_of lowest) (integers_of highest) work) a lowest highest work) (sym p) (both_kept Refusals.Work 0 work x h.1))

-- A tree passed so stands in the work words.
pub tree_loaded : (image before after : List ℕ) (e : Result Loaded Refused) → LoadAnswer (check_image image) e before after → (l : Loaded) → e ≡ Ok l → TreeStands l.registers after l.nodes
tree_loaded image before after e loaded l g = let p = loaded_passes image before after e loaded l g in (image, p.tree, l.root, p.passes, p.stands)

-- What the functions below ask of such a tree.
pub small_tree : {count nodes : ℕ} {words : List ℕ} → TreeStands count words nodes → (count ≤ most_registers) × SmallTree words count nodes
small_tree {count} s = (((check_exact s.0 count s.1 s.2).0 s.3).shape.registers, (s.1, s.4, figures_small s.0 count s.1 s.2 s.3))

-- As many limits as registers.
pub stands_counted : (count registers : ℕ) (words : List ℕ) (nodes : ℕ) → count ≡ registers → TreeStands registers words nodes → TreeStands count words nodes
stands_counted count registers words nodes q s = subst (λ n. TreeStands n words nodes) (sym q) s

pub ranged_counted : (count registers : ℕ) (words : List ℕ) (nodes : ℕ) (lowest highest : List ℕ) (r : Result (Unit {0}) Refused) (lowest' highest' : List ℕ) → count ≡ registers →
    TreeRanged count words nodes lowest highest r lowest' highest' → TreeRanged registers words nodes lowest highest r lowest' highest'
ranged_counted count registers words nodes lowest highest r lowest' highest' q done = subst (λ n. TreeRanged n words nodes lowest highest r lowest' highest') q done

pub beyond_regions : {a b : List ℕ} {bindings cells : ℕ} → Keeps a b bindings cells → KeptBeyond work_words a b
beyond_regions {a} {b} k = record { same_length = k.same_length; same_beyond = drop_same work_words a b k.same_length (λ i h. k.same_beyond i (omega (arith, h))) }

pub none_touched : (work : List ℕ) → KeptBeyond work_words work work
none_touched work = record { same_length = refl; same_beyond = refl }

pub answered : (image lowest highest lowest' highest' work after last : List ℕ) (r : Result (Unit {0}) Refused) → work_words ≤ length work → ImageRanged (check_image image) lowest highest r lowest' highest' →
    KeptBeyond work_words work after → last ≡ cleared after → RangedAs (ranges_call image lowest highest work) r lowest' highest' last
unfolding ranges
answered image lowest highest lowest' highest' work after last r h done b q =
    rw (le-ltb (length work) work_words h)
    (subst (λ ws. RangedAs (ranges_checked (check_image image) (integers_of lowest) (integers_of highest) (cleared work)) r lowest' highest' ws) (sym (q ∙ cleared_same work after b)) (done (cleared work)))
