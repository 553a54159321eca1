-- From the run on words to the run on bytes: the registers by their length, and the refusals that touch nothing.
use Prim.Native.Nat.{ℕ, ◌/◌, ◌%◌, ◌<◌, ◌≤◌}
use mathlib.Core.Path.{◌≡◌, refl, sym, ap, ◌∙◌, subst}
use mathlib.Core.Bool.{true, false, ◌&&◌}
use mathlib.Core.List.{List}
use lib.Dec.{leb}
use lib.IntN.{pos}
use lib.ListN.{length, replicate}
use borrow.Author.Tests.{le-ltb, lt-ltb, le-leb, lt-leb, eq-eqb, ne_eqb}
use Rattle.rules.specs.paper.Limits.{most_registers, work_words, most_budget}
use Rattle.rules.specs.Answers.{refused_at}
use Rattle.rules.specs.declared.refusals.Refusal.{Refusal}
use Rattle.rules.specs.declared.refusals.Refusal.TheVariants as Refusals
use Rattle.rules.specs.paper.HighMarks.{no_high_marks}
use Rattle.rules.specs.paper.Engine.{engine, refusing, refused}
use Rattle.integers.specs.Words.{integer_of, integers_of, words_of}
use Rattle.little_endian.specs.Numbers.{numbers, bytes_of_words}
use Rattle.little_endian.specs.NumberLaws.{AllBytes}
use Rattle.engine.specs.Bytes.{whole, register_values, register_bytes, value_bytes, run_call_registers, too_many_registers}
use Rattle.engine.specs.BytesKept.{values_whole, values_none, bytes_whole, bytes_none, registers_kept}
use Rattle.calls.specs.Runs.{run_call}
use Rattle.engine.specs.Replies.{RunReplies, outcome_fields, RunCalled}
use Rattle.engine.specs.declared.RunReply.{RunReply}

-- ---- Which bytes are registers.

pub odd_bytes : (bytes : ℕ) → (bytes % 8 ≡ 0 → ⊥) → whole 8 most_registers bytes ≡ false
odd_bytes bytes h = ap (λ t. t && leb (bytes / 8) most_registers) (ne_eqb (bytes % 8) 0 h)

pub many_bytes : (bytes : ℕ) → bytes % 8 ≡ 0 → most_registers < bytes / 8 → whole 8 most_registers bytes ≡ false
many_bytes bytes h g = ap (λ t. t && leb (bytes / 8) most_registers) (eq-eqb (bytes % 8) 0 h) ∙ lt-leb (bytes / 8) most_registers g

pub some_bytes : (bytes : ℕ) → bytes % 8 ≡ 0 → bytes / 8 ≤ most_registers → whole 8 most_registers bytes ≡ true
some_bytes bytes h g = ap (λ t. t && leb (bytes / 8) most_registers) (eq-eqb (bytes % 8) 0 h) ∙ le-leb (bytes / 8) most_registers g

too_many : integers_of (replicate too_many_registers 0) ≡ replicate too_many_registers (pos 0)
unfolding integers_of integer_of
too_many = refl

module _ (image bytes : List ℕ) (budget : ℕ) (work : List ℕ) where
  -- What a call on registers of bytes leaves.
  abbrev LeavesBytes : RunReply → (last_bytes last : List ℕ) → Type 0
  LeavesBytes r last_bytes last = RunCalled (register_bytes bytes) (run_call_registers image bytes budget work) r last_bytes last

  -- Bytes that are no registers: 17 values are handed on, and the bytes stay.
  pub no_registers : (r : RunReply) (values last : List ℕ) → whole 8 most_registers (length bytes) ≡ false → RunCalled words_of (run_call image (replicate too_many_registers 0) budget work) r values last →
      LeavesBytes r bytes last
  no_registers r values last p done =
      let same = too_many ∙ sym (values_none bytes p) in
      record {
        reply_is = subst (λ zs. RunReplies (engine image zs budget work).reply r) same done.reply_is;
        registers_are = sym (bytes_none bytes (run_call_registers image bytes budget work).registers p);
        work_is = subst (λ zs. last ≡ (engine image zs budget work).work) same done.work_is;
      }

  -- The values are unpacked, run on and packed again.
  pub values_run : (r : RunReply) (count : ℕ) (values after last_bytes last : List ℕ) → values ≡ numbers 8 count bytes → RunCalled words_of (run_call image values budget work) r after last →
      last_bytes ≡ bytes_of_words after → RunCalled value_bytes (run_call image (numbers 8 count bytes) budget work) r last_bytes last
  values_run r count values after last_bytes last same done packed =
      subst (λ ws. RunCalled value_bytes (run_call image ws budget work) r last_bytes last) same
      (record { reply_is = done.reply_is; registers_are = packed ∙ ap bytes_of_words done.registers_are; work_is = done.work_is })

  -- Bytes that are registers.
  pub some_registers : (r : RunReply) (count : ℕ) (last_bytes last : List ℕ) → whole 8 most_registers (length bytes) ≡ true → count ≡ length bytes / 8 →
      RunCalled value_bytes (run_call image (numbers 8 count bytes) budget work) r last_bytes last → LeavesBytes r last_bytes last
  some_registers r count last_bytes last p counted done =
      let same = ap (λ k. integers_of (numbers 8 k bytes)) counted ∙ sym (values_whole bytes p) in
      let here = subst (λ zs. RunCalled value_bytes (engine image zs budget work) r last_bytes last) same done in
      record {
        reply_is = here.reply_is;
        registers_are = here.registers_are ∙ sym (bytes_whole bytes (run_call_registers image bytes budget work).registers p);
        work_is = here.work_is;
      }

  -- ---- The work words and the budget: nothing is touched.

  untouched : (x : Refusal) → run_call_registers image bytes budget work ≡ refusing x 0 (register_values bytes) work → AllBytes bytes → (r : RunReply) → r ≡ outcome_fields (refused_at x 0) → LeavesBytes r bytes work
  untouched x e low r q =
      subst (λ c. RunCalled (register_bytes bytes) c r bytes work) (sym e)
      (record { reply_is = subst (RunReplies (record { answer = refused x 0; steps = 0; most = no_high_marks })) (sym q) at_once; registers_are = sym (registers_kept bytes low); work_is = refl })
    where
      at_once : RunReplies (record { answer = refused x 0; steps = 0; most = no_high_marks }) (outcome_fields (refused_at x 0))
      at_once =
          record { refusal_is = refl; outcome_is = refl; value_is = refl; place_is = refl; steps_are = refl; cells_are = refl; bindings_are = refl; values_are = refl; control_is = refl }

  pub work_refused : length work < work_words → AllBytes bytes → (r : RunReply) → r ≡ outcome_fields (refused_at Refusals.Work 0) → LeavesBytes r bytes work
  work_refused h = untouched Refusals.Work (unfold engine in (rw (lt-ltb (length work) work_words h)))

  pub budget_refused : work_words ≤ length work → most_budget < budget → AllBytes bytes → (r : RunReply) → r ≡ outcome_fields (refused_at Refusals.Budget 0) → LeavesBytes r bytes work
  budget_refused room h = untouched Refusals.Budget (unfold engine in (rw (le-ltb (length work) work_words room, lt-leb budget most_budget h)))
