-- A run that starts from the registers ends as the rules' run does, and leaves in the registers what that leaves.
use Prim.Native.Nat.{ℕ, ◌<◌, ◌≤◌}
use mathlib.Core.Path.{◌≡◌, ◌∙◌}
use mathlib.Core.List.{List}
use lib.ListN.{length, get_or}
use Rattle.rules.specs.paper.Limits.{work_words}
use Rattle.rules.specs.paper.Tree.{Root}
use Rattle.rules.specs.declared.kinds.Passed.{Passed}
use Rattle.rules.specs.paper.States.{State, store_of}
use Rattle.rules.specs.paper.Run.{Ending, ended, stopped, lost, run}
use Rattle.rules.specs.paper.HighMarks.{high_marks}
use Rattle.rules.specs.claims.History.{History, first_history, Reach}
use Rattle.rules.specs.claims.Ends.{EndsWell, normally, withheld_for, RegisterHolds}
use Rattle.rules.proofs.running.Continuation.{Invariant}
use Rattle.rules.proofs.running.WholeRun.{start_invariant}
use Rattle.rules.proofs.running.RunEnds.{run_ends, state_facts}
use Rattle.rules.specs.paper.Engine.{check_image, passed, start, registers_from}
use Rattle.rules.proofs.checking.ImageExact.{check_exact}
use Rattle.integers.specs.Words.{integers_of, words_of}
use Rattle.integers.specs.WordLaws.{integers_length}
use Rattle.machine.specs.Steps.{Holds, Untouched}
use Rattle.automaton.specs.Runs.{RunAnswer}
use Rattle.automaton.specs.Starts.{StartsAt}
use Rattle.machine.specs.declared.Machine.{Machine}
use Rattle.automaton.specs.declared.Ending as Endings
use Rattle.reader.specs.Put.{KeptBeyond}
use Rattle.calls.specs.Delivered.{all_in_range}
use Rattle.calls.specs.Runs.{ExecuteAnswer}

pub few_registers : (image registers : List ℕ) (t : Root) (a : Passed) → check_image image ≡ passed (length registers) t a → length registers ≤ 16
few_registers image registers t a passes = ((check_exact image (length registers) t a).0 passes).shape.registers

module _ (image registers : List ℕ) (t : Root) (a : Passed) (passes : check_image image ≡ passed (length registers) t a)
    (low : (i : ℕ) → i < length registers → get_or registers i 0 < 18446744073709551616) where
  pub starts_sound : Invariant a (length registers) (start (length registers) t (integers_of registers)) (first_history (length registers))
  starts_sound =
      start_invariant image (length registers) t a ((check_exact image (length registers) t a).0 passes) (integers_of registers) (all_in_range registers low)

  registers_hold : (budget steps : ℕ) (σ : State) (h : History) → Reach budget (start (length registers) t (integers_of registers)) (length registers) steps σ h → (i : ℕ) → i < length registers → RegisterHolds (store_of σ) i
  registers_hold budget steps σ h reached =
      (state_facts image (length registers) t a passes (integers_of registers) (integers_length registers) (all_in_range registers low) budget steps σ h reached).registers_hold

  pub ends_well : (budget : ℕ) → EndsWell budget (start (length registers) t (integers_of registers)) (length registers) a (run budget 0 (start (length registers) t (integers_of registers)))
  ends_well budget = run_ends image (length registers) t a passes (integers_of registers) (integers_length registers) (all_in_range registers low) budget

  beyond_both : {before middle after : List ℕ} → Untouched before middle → Untouched middle after → KeptBeyond work_words before after
  beyond_both u v = record { same_length = v.same_length ∙ u.same_length; same_beyond = v.same_beyond ∙ u.same_beyond }

  pub executed : (budget : ℕ) (before middle after taken : List ℕ) (m : Machine) (answer : Endings.Ending) → StartsAt t registers m before middle →
      RunAnswer (high_marks budget (start (length registers) t (integers_of registers))) (run budget 0 (start (length registers) t (integers_of registers))) answer middle after →
      ((k : Machine) (σ : State) → Holds after k σ → ((i : ℕ) → i < length registers → RegisterHolds (store_of σ) i) → taken ≡ words_of (registers_from 0 (length registers) (store_of σ))) →
      ExecuteAnswer (high_marks budget (start (length registers) t (integers_of registers))) (run budget 0 (start (length registers) t (integers_of registers))) (length registers) answer taken before after
  executed budget before middle after taken m answer starts ran takes = by (run budget 0 (start (length registers) t (integers_of registers))) (ends_well budget) ran
    where
      by : (e : Ending) → EndsWell budget (start (length registers) t (integers_of registers)) (length registers) a e →
          RunAnswer (high_marks budget (start (length registers) t (integers_of registers))) e answer middle after →
          ExecuteAnswer (high_marks budget (start (length registers) t (integers_of registers))) e (length registers) answer taken before after
      by (ended k σ) (normally h reached empty final) r =
          record {
            machine = r.machine;
            answer_is = r.answer_is;
            holds = r.holds;
            registers_are = takes r.machine σ r.holds (registers_hold budget k σ h reached);
            beyond = beyond_both starts.untouched r.untouched;
          }
      by (stopped x k σ) (withheld_for h rule e reached applies w q) r =
          record {
            machine = r.machine;
            answer_is = r.answer_is;
            holds = r.holds;
            registers_are = takes r.machine σ r.holds (registers_hold budget k σ h reached);
            beyond = beyond_both starts.untouched r.untouched;
          }
      by (lost k σ) no_end r = elim no_end [ ]
