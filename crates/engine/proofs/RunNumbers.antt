-- A run's answer in nine numbers.
use Prim.Native.Nat.{ℕ}
use mathlib.Core.Path.{◌≡◌, refl, sym, ap, ◌∙◌, subst}
use mathlib.Core.List.{List}
use Rattle.rules.specs.paper.Engine.{number, truth_of, cell, nothing, Answer, outcome, refused, Called}
use Rattle.integers.specs.Words.{words_of}
use Rattle.rules.specs.paper.Needs.{Sizes}
use Rattle.automaton.specs.Runs.{marks_of}
use Rattle.calls.specs.Runs.{ran, RanAs}
use Rattle.calls.specs.declared.Ran.{Ran}
use Rattle.engine.specs.Replies.{RunReplies, run_fields, RunCalled}
use Rattle.engine.specs.declared.RunReply.{RunReply}

replies : (a : Answer) (k : ℕ) (m : Sizes) → RunReplies (record { answer = a; steps = k; most = m }) (run_fields (ran a k (marks_of m)))
replies (outcome (number z)) k m =
    record { refusal_is = refl; outcome_is = refl; value_is = refl; place_is = refl; steps_are = refl; cells_are = refl; bindings_are = refl; values_are = refl; control_is = refl }
replies (outcome (truth_of b)) k m =
    record { refusal_is = refl; outcome_is = refl; value_is = refl; place_is = refl; steps_are = refl; cells_are = refl; bindings_are = refl; values_are = refl; control_is = refl }
replies (outcome (cell l)) k m =
    record { refusal_is = refl; outcome_is = refl; value_is = refl; place_is = refl; steps_are = refl; cells_are = refl; bindings_are = refl; values_are = refl; control_is = refl }
replies (outcome nothing) k m =
    record { refusal_is = refl; outcome_is = refl; value_is = refl; place_is = refl; steps_are = refl; cells_are = refl; bindings_are = refl; values_are = refl; control_is = refl }
replies (refused x p) k m =
    record { refusal_is = refl; outcome_is = refl; value_is = refl; place_is = refl; steps_are = refl; cells_are = refl; bindings_are = refl; values_are = refl; control_is = refl }

-- So for a C host.
pub called : {c : Called} {answer : Ran} {registers work : List ℕ} (reply : RunReply) → RanAs c answer registers work → reply ≡ run_fields answer → RunCalled words_of c reply registers work
called {c} reply p q =
    record {
      reply_is = subst (RunReplies c.reply) (sym (q ∙ ap run_fields p.answer_is)) (replies c.reply.answer c.reply.steps c.reply.most);
      registers_are = p.registers_are;
      work_is = p.work_is;
    }
