-- The tests before a run, in their order: the work words, the budget, the image, the count of registers.
use Prim.Native.Nat.{ℕ, ◌<◌, ◌≤◌}
use mathlib.Core.Path.{◌≡◌, refl, sym, ap, ◌∙◌, subst}
use mathlib.Core.Bool.{Bool, true, false, cond}
use mathlib.Core.List.{List, []}
use borrow.Author.Tests.{le-ltb, lt-ltb, le-leb, lt-leb, eq-eqb, ne_eqb}
use lib.Dec.{eqb}
use lib.IntN.{ℤ}
use lib.ListN.{length}
use Rattle.std.specs.Prelude.{Result, Ok, Err}
use Rattle.rules.specs.paper.Limits.{work_words, most_budget}
use Rattle.rules.specs.declared.refusals.Refusal.{Refusal}
use Rattle.rules.specs.declared.refusals.Refusal.TheVariants as Refusals
use Rattle.rules.specs.declared.refusals.Refused.{Refused}
use Rattle.rules.specs.paper.Engine.{Checked, turned_back, passed, check_image, run_checked, refusing, Called, engine, cleared, finish, start}
use Rattle.rules.specs.paper.Run.{Ending, ended, stopped, lost, run}
use Rattle.rules.specs.paper.Needs.{Sizes}
use Rattle.rules.specs.paper.HighMarks.{high_marks}
use Rattle.integers.specs.Words.{integers_of, words_of}
use Rattle.integers.specs.WordLaws.{integers_length, words_back}
use Rattle.loader.specs.Answers.{LoadAnswer}
use Rattle.loader.specs.declared.Loaded.{Loaded}
use Rattle.loader.proofs.LoadLaws.{beyond_then}
use Rattle.calls.specs.Answers.{without_place}
use Rattle.calls.specs.Ranges.{WordsFit}
use Rattle.calls.specs.Runs.{unstarted_with, run_reply, run_call, RanAs, TreeStandsAs, RunsTreeAs, Performed, RunOf, run_of_image}
use Rattle.calls.specs.declared.Ran.{Ran}
use Rattle.calls.proofs.LoadedLaws.{Passes, loaded_beyond, loaded_passes, loaded_refused}
use Rattle.calls.proofs.CheckLaws.{cleared_same}

-- ---- What was loaded.

module _ (image before after : List ℕ) (e : Result Loaded Refused) (loaded : LoadAnswer (check_image image) e before after) (registers : List ℕ) (budget : ℕ) where
  -- The image is refused: 0 steps, and the registers are kept.
  pub image_refused : WordsFit registers → (x : Refused) → e ≡ Err x → (answer : Ran) → answer ≡ unstarted_with x → Performed (run_of_image image registers budget) answer registers before after
  image_refused low x q answer p =
      subst (λ k. Performed (run_checked k (integers_of registers) budget []) answer registers before after) (sym (loaded_refused image before after e loaded x q))
      (record { reply_is = p; registers_are = sym (words_back registers low); beyond = loaded_beyond image before after e loaded })

  module _ (l : Loaded) (q : e ≡ Ok l) where
    there : Passes image after l
    there = loaded_passes image before after e loaded l q

    -- There are not as many registers as the image asks.
    pub count_refused : WordsFit registers → (length registers ≡ l.registers → ⊥) → (x : Refused) → x ≡ without_place Refusals.Registers → (answer : Ran) → answer ≡ unstarted_with x →
        Performed (run_of_image image registers budget) answer registers before after
    count_refused low d x p answer r =
        subst (λ k. Performed (run_checked k (integers_of registers) budget []) answer registers before after) (sym there.passes)
        (subst (λ c. Performed c answer registers before after) (sym other)
        (record { reply_is = r ∙ ap unstarted_with p; registers_are = sym (words_back registers low); beyond = loaded_beyond image before after e loaded }))
      where
        other : run_checked (passed l.registers there.tree l.root) (integers_of registers) budget [] ≡ refusing Refusals.Registers 0 (integers_of registers) []
        other = rw (ne_eqb (length (integers_of registers)) l.registers (λ z. d (sym (integers_length registers) ∙ z)))

    module _ (same : length registers ≡ l.registers) where
      counted : check_image image ≡ passed (length registers) there.tree l.root
      counted = there.passes ∙ ap (λ k. passed k there.tree l.root) (sym same)

      pub tree_stands : TreeStandsAs (length registers) l.root after l.nodes
      tree_stands = (image, there.tree, counted, there.stands)

      pub run_performed : (r : Ran) (last last_words : List ℕ) → RunsTreeAs l.root registers budget l.nodes r last after last_words →
          Performed (run_of_image image registers budget) r last before last_words
      run_performed r last last_words runs =
          let done = runs image there.tree counted there.stands in
          subst (λ k. Performed (run_checked k (integers_of registers) budget []) r last before last_words) (sym counted)
          (subst (λ c. Performed c r last before last_words) (sym as_many)
          (record { reply_is = done.reply_is; registers_are = done.registers_are; beyond = beyond_then (loaded_beyond image before after e loaded) done.beyond }))
        where
          as_many : run_checked (passed (length registers) there.tree l.root) (integers_of registers) budget [] ≡ RunOf registers there.tree budget
          as_many = rw (eq-eqb (length (integers_of registers)) (length registers) (integers_length registers))

-- ---- A call's reply and registers do not depend on the work words that it is handed on.

finish_reply : (r : ℕ) (ws vs : List ℕ) (most : Sizes) (e : Ending) → (finish r ws most e).reply ≡ (finish r vs most e).reply
finish_reply r ws vs most (ended k σ) = refl
finish_reply r ws vs most (stopped x k σ) = refl
finish_reply r ws vs most (lost k σ) = refl

finish_registers : (r : ℕ) (ws vs : List ℕ) (most : Sizes) (e : Ending) → (finish r ws most e).registers ≡ (finish r vs most e).registers
finish_registers r ws vs most (ended k σ) = refl
finish_registers r ws vs most (stopped x k σ) = refl
finish_registers r ws vs most (lost k σ) = refl

finish_work : (r : ℕ) (ws : List ℕ) (most : Sizes) (e : Ending) → (finish r ws most e).work ≡ ws
finish_work r ws most (ended k σ) = refl
finish_work r ws most (stopped x k σ) = refl
finish_work r ws most (lost k σ) = refl

module _ (zs : List ℤ) (budget : ℕ) (ws vs : List ℕ) where
  reply_same : (k : Checked) → (run_checked k zs budget ws).reply ≡ (run_checked k zs budget vs).reply
  reply_same (turned_back x p) = refl
  reply_same (passed r t c) = by (eqb (length zs) r)
    where
      by : (b : Bool) → (cond b (finish r ws (high_marks budget (start r t zs)) (run budget 0 (start r t zs))) (refusing Refusals.Registers 0 zs ws)).reply ≡ (cond b (finish r vs (high_marks budget (start r t zs)) (run budget 0 (start r t zs))) (refusing Refusals.Registers 0 zs vs)).reply
      by true = finish_reply r ws vs (high_marks budget (start r t zs)) (run budget 0 (start r t zs))
      by false = refl

  registers_same : (k : Checked) → (run_checked k zs budget ws).registers ≡ (run_checked k zs budget vs).registers
  registers_same (turned_back x p) = refl
  registers_same (passed r t c) = by (eqb (length zs) r)
    where
      by : (b : Bool) → (cond b (finish r ws (high_marks budget (start r t zs)) (run budget 0 (start r t zs))) (refusing Refusals.Registers 0 zs ws)).registers ≡ (cond b (finish r vs (high_marks budget (start r t zs)) (run budget 0 (start r t zs))) (refusing Refusals.Registers 0 zs vs)).registers
      by true = finish_registers r ws vs (high_marks budget (start r t zs)) (run budget 0 (start r t zs))
      by false = refl

  work_same : (k : Checked) → (run_checked k zs budget ws).work ≡ ws
  work_same (turned_back x p) = refl
  work_same (passed r t c) = by (eqb (length zs) r)
    where
      by : (b : Bool) → (cond b (finish r ws (high_marks budget (start r t zs)) (run budget 0 (start r t zs))) (refusing Refusals.Registers 0 zs ws)).work ≡ ws
      by true = finish_work r ws (high_marks budget (start r t zs)) (run budget 0 (start r t zs))
      by false = refl

-- ---- The work words and the budget: nothing is touched.

module _ (image registers : List ℕ) (budget : ℕ) (work : List ℕ) (low : WordsFit registers) where
  as_called : (c : Called) (r : Ran) (last_registers last_work : List ℕ) → run_call image registers budget work ≡ c → r ≡ run_reply c.reply → last_registers ≡ words_of c.registers → last_work ≡ c.work →
      RanAs (run_call image registers budget work) r last_registers last_work
  as_called c r last_registers last_work e p q s =
      record { answer_is = p ∙ sym (ap (λ k. run_reply k.reply) e); registers_are = q ∙ sym (ap (λ k. words_of k.registers) e); work_is = s ∙ sym (ap (λ k. k.work) e) }

  refused_at_once : (x : Refusal) → run_call image registers budget work ≡ refusing x 0 (integers_of registers) work → (r : Refused) → r ≡ without_place x → (answer : Ran) → answer ≡ unstarted_with r →
      RanAs (run_call image registers budget work) answer registers work
  refused_at_once x e r q answer p = as_called (refusing x 0 (integers_of registers) work) answer registers work e (p ∙ ap unstarted_with q) (sym (words_back registers low)) refl

  pub work_refused : (r : Refused) → (length work < work_words) × (r ≡ without_place Refusals.Work) → (answer : Ran) → answer ≡ unstarted_with r → RanAs (run_call image registers budget work) answer registers work
  work_refused r h = refused_at_once Refusals.Work (unfold engine in (rw (lt-ltb (length work) work_words h.0))) r h.1

  pub budget_refused : work_words ≤ length work → most_budget < budget → (r : Refused) → r ≡ without_place Refusals.Budget → (answer : Ran) → answer ≡ unstarted_with r →
      RanAs (run_call image registers budget work) answer registers work
  budget_refused room h = refused_at_once Refusals.Budget (unfold engine in (rw (le-ltb (length work) work_words room, lt-leb budget most_budget h)))

  -- ---- Every other call: what was performed, and the first 8,192 work words 0.

  pub performed : work_words ≤ length work → budget ≤ most_budget → (r : Ran) (last after cleared_after : List ℕ) →
      Performed (run_of_image image registers budget) r last work after → cleared_after ≡ cleared after → RanAs (run_call image registers budget work) r last cleared_after
  performed room few r last after cleared_after done q =
      as_called (run_checked (check_image image) (integers_of registers) budget (cleared work)) r last cleared_after body
      (done.reply_is ∙ ap run_reply (reply_same (integers_of registers) budget [] (cleared work) (check_image image)))
      (done.registers_are ∙ ap words_of (registers_same (integers_of registers) budget [] (cleared work) (check_image image)))
      (q ∙ cleared_same work after done.beyond ∙ sym (work_same (integers_of registers) budget (cleared work) [] (check_image image)))
    where
      body : run_call image registers budget work ≡ run_checked (check_image image) (integers_of registers) budget (cleared work)
      body = unfold engine in (rw (le-ltb (length work) work_words room, le-leb budget most_budget few))
