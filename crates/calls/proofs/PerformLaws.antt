-- From the run of a tree to the call's answer: the outcome by the root, or the reason.
use Prim.Native.Nat.{ℕ, suc, ◌≤◌}
use mathlib.Core.Path.{◌≡◌, refl, sym, ap, ◌∙◌, subst}
use mathlib.Core.Bool.{Bool, true, false}
use mathlib.Core.List.{List, []}
use lib.Dec.{eqb}
use mathlib.Core.Option.{Option, none, some, some-injective, map}
use native.Mathlib.Omega.{arith}
use Rattle.std.specs.Prelude.{Result, Ok, Err}
use Rattle.rules.proofs.Basics.{missing}
use Rattle.rules.specs.declared.kinds.Passed.{Passed}
use Rattle.rules.specs.declared.kinds.Passed.TheVariants.{Expression as expression_of_code, Command as a_command}
use Rattle.rules.specs.declared.refusals.Reason.{Reason}
use Rattle.rules.specs.declared.refusals.Refusal.TheVariants.{Withheld}
use Rattle.rules.specs.declared.refusals.Refused.{Refused}
use Rattle.rules.specs.paper.States.{Value, integer, truth, location, State, state}
use Rattle.rules.specs.claims.History.{Made, made_with, type_of}
use Rattle.rules.specs.paper.Run.{Ending, ended, stopped, lost}
use Rattle.rules.specs.claims.Ends.{EndsWell, normally, FinalValues}
use Rattle.rules.specs.paper.Engine.{outcome, outcome_of, outcome_of_value, Answer, refused, finish}
use Rattle.machine.specs.Steps.{Stands}
use Rattle.machine.specs.declared.Machine.{Machine}
use Rattle.rules.specs.paper.Needs.{Sizes}
use Rattle.automaton.specs.Starts.{value_word}
use Rattle.automaton.specs.declared.Ending as Endings
use Rattle.calls.specs.Answers.{without_place}
use Rattle.calls.specs.Runs.{value_outcome, outcome_reply, ExecuteAnswer, Performed, KindOf, LeftAs, LeavesAs, AnswersAs}
use Rattle.calls.specs.declared.Outcome as Declared
use Rattle.calls.specs.declared.Outcome.TheVariants.{Number, Truth, Location, Nothing}

-- ---- The outcome by the root's code.

pub number_left : (v : Value) (c word : ℕ) → KindOf v c → c ≡ 0 → word ≡ value_word v → Number word ≡ value_outcome v
number_left (integer z) c word k q p = ap Number p
number_left (truth b) c word k q p = absurd (omega (arith, k, q))
number_left (location l) c word k q p = absurd (omega (arith, k, q))

pub truth_left : (v : Value) (c word : ℕ) (b : Bool) → KindOf v c → c ≡ 1 → word ≡ value_word v → b ≡ eqb word 1 → Truth b ≡ value_outcome v
truth_left (integer z) c word b k q p r = absurd (omega (arith, k, q))
truth_left (truth true) c word b k q p r = ap Truth (r ∙ ap (λ w. eqb w 1) p)
truth_left (truth false) c word b k q p r = ap Truth (r ∙ ap (λ w. eqb w 1) p)
truth_left (location l) c word b k q p r = absurd (omega (arith, k, q))

pub location_left : (v : Value) (c word : ℕ) → KindOf v c → (c ≡ 0 → ⊥) → (c ≡ 1 → ⊥) → word ≡ value_word v → Location word ≡ value_outcome v
location_left (integer z) c word k d e p = absurd (d k)
location_left (truth b) c word k d e p = absurd (e k)
location_left (location l) c word k d e p = ap Location p

-- ---- The outcome by the root.

-- A value's outcome is that of the rules.
outcome_of_left : (v : Value) → ◌≡◌ {A = Result Declared.Outcome Refused} (Ok (value_outcome v)) (outcome_reply (outcome (outcome_of_value v)))
outcome_of_left (integer z) = refl
outcome_of_left (truth b) = refl
outcome_of_left (location l) = refl

pub expression_answered : (code : ℕ) (words : List ℕ) (m : Machine) (result : Result (Unit {0}) Reason) → result ≡ Ok tt → (o : Declared.Outcome) → ((v : Value) → LeftAs words m code v → o ≡ value_outcome v) →
    (what : Answer) → AnswersAs (expression_of_code code) words m result what → Ok o ≡ outcome_reply what
expression_answered code words m (Ok u) e o is what (p, q, (v, r, left)) = ap Ok (is v left) ∙ outcome_of_left v ∙ ap (λ x. outcome_reply (outcome x)) (sym r) ∙ ap outcome_reply (sym q)
expression_answered code words m (Err x) e o is what a = cc

pub command_answered : (words : List ℕ) (m : Machine) (result : Result (Unit {0}) Reason) → result ≡ Ok tt → (what : Answer) → AnswersAs a_command words m result what → Ok Nothing ≡ outcome_reply what
command_answered words m (Ok u) e what (p, q, r) = ap (λ x. outcome_reply (outcome x)) (sym r) ∙ ap outcome_reply (sym q)
command_answered words m (Err x) e what a = cc

pub reason_answered : (a : Passed) (words : List ℕ) (m : Machine) (result : Result (Unit {0}) Reason) (x : Reason) → result ≡ Err x → (r : Refused) → r ≡ without_place (Withheld x) →
    (what : Answer) → AnswersAs a words m result what → Err r ≡ outcome_reply what
reason_answered a words m result x e r q what p = ap Err q ∙ sym (ap outcome_reply (subst (λ o. AnswersAs a words m o what) e p))

pub value_there : (code : ℕ) (words : List ℕ) (m : Machine) (result : Result (Unit {0}) Reason) → result ≡ Ok tt → ((what : Answer) × AnswersAs (expression_of_code code) words m result what) → (v : Value) × LeftAs words m code v
value_there code words m (Ok u) e (what, (p, q, (v, r, left))) = (v, left)
value_there code words m (Err x) e a = absurd (never x e)
  where
    never : (x : Reason) → ◌≡◌ {A = Result (Unit {0}) Reason} (Err x) (Ok tt) → ⊥
    never x e = cc

-- ---- How the run ended.

kind_of : (M : Made) (v : Value) (c : ℕ) → type_of M v ≡ some c → KindOf v c
unfolding type_of
kind_of M (integer z) c q = sym (some-injective 0 c q)
kind_of M (truth b) c q = sym (some-injective 1 c q)
kind_of M (location l) c q = above (made_with l M) q
  where
    above : (o : Option ℕ) → map (λ d. suc (suc d)) o ≡ some c → 2 ≤ c
    above none e = missing e
    above (some d) e = omega (arith, some-injective (suc (suc d)) c e)

module _ (budget : ℕ) (first : State) (count : ℕ) (most : Sizes) (registers before after : List ℕ) where
  -- The machine's last state answers as the rules do.
  pub run_answered : (a : Passed) (e : Ending) → EndsWell budget first count a e → (answer : Endings.Ending) → ExecuteAnswer most e count answer registers before after →
      AnswersAs a after answer.«record».machine answer.outcome (finish count [] most e).reply.answer
  run_answered a (ended k (state C X E S L n)) (normally h reached empty final) answer t =
      subst (λ x. AnswersAs a after x.«record».machine x.outcome (outcome (outcome_of X))) (sym t.answer_is) (outcome_of X, refl, by a final)
    where
      by : (a : Passed) → FinalValues a h.made_types X → LeavesAs a after t.machine (outcome_of X)
      by (expression_of_code c) f = (
        f.0,
        ap outcome_of f.1,
        record {
          control = C;
          environment = E;
          store = S;
          locations = L;
          bindings = n;
          stands = subst (λ Y. Stands after t.machine C Y E S L n) f.1 t.holds;
          kind_is = kind_of h.made_types f.0 c f.2;
        },
      )
      by a_command f = ap outcome_of f
  run_answered a (stopped x k σ) w answer t = subst (λ y. AnswersAs a after y.«record».machine y.outcome (refused (Withheld x) 0)) (sym t.answer_is) refl
  run_answered a (lost k σ) w answer t = elim w [ ]

  -- With the steps and the marks.
  pub run_performed : (e : Ending) (answer : Endings.Ending) → ExecuteAnswer most e count answer registers before after → (r : Result Declared.Outcome Refused) → r ≡ outcome_reply (finish count [] most e).reply.answer →
      Performed (finish count [] most e) (record { outcome = r; steps = answer.steps; marks = answer.«record».marks }) registers before after
  run_performed (ended k σ) answer t r q =
      record { reply_is = λ i. record { outcome = q i; steps = (t.answer_is i).steps; marks = (t.answer_is i).«record».marks }; registers_are = t.registers_are; beyond = t.beyond }
  run_performed (stopped x k σ) answer t r q =
      record { reply_is = λ i. record { outcome = q i; steps = (t.answer_is i).steps; marks = (t.answer_is i).«record».marks }; registers_are = t.registers_are; beyond = t.beyond }
  run_performed (lost k σ) answer t r q = elim t [ ]
