-- The checker alone: the work words first, then the image.
use Prim.Native.Nat.{ℕ, ◌<◌, ◌≤◌}
use mathlib.Core.Path.{◌≡◌, refl, sym, ap, ◌∙◌}
use mathlib.Core.List.{List, ◌++◌}
use borrow.Author.Tests.{le-ltb, lt-ltb}
use lib.ListN.{length, replicate}
use Rattle.std.specs.Prelude.{Result, Ok, Err}
use Rattle.rules.specs.paper.Limits.{work_words}
use Rattle.rules.specs.declared.kinds.Passed.{Passed}
use Rattle.rules.specs.declared.kinds.Passed.TheVariants.{Expression as expression_of_code, Command as a_command}
use Rattle.rules.specs.declared.refusals.Refusal.TheVariants.{Work}
use Rattle.rules.specs.declared.refusals.Refused.{Refused}
use Rattle.rules.specs.paper.Engine.{checker, answer_of, check_answer, check_image, cleared}
use Rattle.reader.specs.Put.{KeptBeyond}
use Rattle.loader.specs.Answers.{LoadAnswer}
use Rattle.loader.specs.declared.Loaded.{Loaded}
use Rattle.calls.specs.Answers.{check_reply, without_place}
use Rattle.calls.proofs.LoadedLaws.{loaded_beyond, loaded_passes, loaded_refused}

-- Under 8,192 work words: nothing is touched.
pub little_room : (image work : List ℕ) (x : Refused) → (length work < work_words) × (x ≡ without_place Work) → (r : Result Passed Refused) → r ≡ Err x →
    (r ≡ check_reply (checker image work).answer) × (work ≡ (checker image work).work)
unfolding checker
little_room image work x h r p = rw (lt-ltb (length work) work_words h.0) (p ∙ ap Err h.1, refl)

enough : (image work : List ℕ) → work_words ≤ length work → checker image work ≡ record { answer = check_answer (check_image image); work = cleared work }
unfolding checker
enough image work h = rw (le-ltb (length work) work_words h)

pub cleared_same : (before after : List ℕ) → KeptBeyond work_words before after → cleared after ≡ cleared before
unfolding cleared
cleared_same before after b = ap (λ ws. replicate work_words 0 ++ ws) b.same_beyond

-- ---- What was loaded, as the checker alone answers it.

module _ (image work after last : List ℕ) (e : Result Loaded Refused) (room : work_words ≤ length work) (a : LoadAnswer (check_image image) e work after) (q : last ≡ cleared after) where
  answered_as : (r : Result Passed Refused) → r ≡ check_reply (check_answer (check_image image)) → (r ≡ check_reply (checker image work).answer) × (last ≡ (checker image work).work)
  answered_as r same =
      (same ∙ sym (ap (λ c. check_reply c.answer) (enough image work room)), q ∙ cleared_same work after (loaded_beyond image work after e a) ∙ sym (ap (λ c. c.work) (enough image work room)))

  pub passed_answered : (l : Loaded) → e ≡ Ok l → (Ok l.root ≡ check_reply (checker image work).answer) × (last ≡ (checker image work).work)
  passed_answered l g = answered_as (Ok l.root) (by l.root ∙ sym (ap (λ k. check_reply (check_answer k)) (loaded_passes image work after e a l g).passes))
    where
      by : (c : Passed) → ◌≡◌ {A = Result Passed Refused} (Ok c) (check_reply (answer_of c))
      by (expression_of_code k) = refl
      by a_command = refl

  pub refusal_answered : (x : Refused) → e ≡ Err x → (r : Result Passed Refused) → r ≡ Err x → (r ≡ check_reply (checker image work).answer) × (last ≡ (checker image work).work)
  refusal_answered x g r p = answered_as r (p ∙ sym (ap (λ k. check_reply (check_answer k)) (loaded_refused image work after e a x g)))
