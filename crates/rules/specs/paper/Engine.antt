-- The whole engine as one function (paper, "What the engine says no with"): from image words, register values, budget and the
-- work slice's words to the reply, the final registers and the final work words. And the checker alone, and the needs alone.
use Rattle.std.specs.Prelude.{ℕ, zero, suc, Bool, true, false, cond, List, [], ◌∷◌, ◌++◌, eqb, leb, ltb, ℤ, pos, length, get_or, drop, replicate}
use Rattle.std.proofs.Math.Option.{Option, none, some}
use Rattle.rules.specs.paper.Tree.{Root}
use Rattle.rules.specs.paper.Tree as Tree
use Rattle.rules.specs.paper.Refusals.{Refusal, Withheld}
use Rattle.rules.specs.paper.Refusals as Refusals
use Rattle.rules.specs.paper.Limits.{most_budget, most_steps, work_words}
use Rattle.rules.specs.paper.Reader.{Reading, bad, image, read}
use Rattle.rules.specs.paper.Checker.{Judged, fault, fine, Passed, expression_of_code, a_command, register_scope, root_is}
use Rattle.rules.specs.paper.States.{Value, integer, truth, location, Bindable, value, closure, Environment, empty, bound, Store, find, Entry, bindable, name, node, environment, locations, Item, expression, command, State, state, values_of, store_of}
use Rattle.rules.specs.paper.Run.{Ending, ended, stopped, lost, run}
use Rattle.rules.specs.paper.Needs.{Sizes, Need, routine_need, has_loop}
use Rattle.rules.specs.paper.Needs as Needs
use Rattle.rules.specs.paper.HighMarks.{no_high_marks, high_marks}

-- What the checker makes of an image: refused, or its registers, its tree and what the root is.
pub data Checked : Type 0 where
  turned_back : Refusal → (place : ℕ) → Checked
  passed : (registers : ℕ) → Root → Passed → Checked

abbrev pub checked : (registers : ℕ) → Root → Judged Passed → Checked
checked r t (fault x p) = turned_back x p
checked r t (fine c) = passed r t c

abbrev pub check_reading : Reading → Checked
check_reading (bad x p) = turned_back x p
check_reading (image r t) = checked r t (root_is (register_scope r) t)

-- Scope and types are walked only if the shape holds.
unfoldable pub check_image : List ℕ → Checked
check_image ws = check_reading (read ws)

-- Start: the root on control, V empty, registers at cells 0 to r − 1, L empty. With no root control is empty.
abbrev pub root_control : Root → List Item
root_control (Tree.expression e) = expression e ∷ []
root_control (Tree.command c) = command c ∷ []
root_control Tree.absent = []

unfoldable pub register_environment : ℕ → Environment
register_environment zero = empty
register_environment (suc r) = bound r (value (location r)) (register_environment r)

unfoldable pub register_store : ℕ → List ℤ → Store
register_store zero zs = []
register_store (suc r) zs = record { where_at = r; contents = integer (get_or zs r (pos 0)) } ∷ register_store r zs

unfoldable pub start : ℕ → Root → List ℤ → State
start r t zs = state (root_control t) [] (register_environment r) (register_store r zs) [] r

-- The outcome of a run that ends: the value that is left, or none after a command.
pub data Outcome : Type 0 where
  number : ℤ → Outcome
  truth_of : Bool → Outcome
  cell : ℕ → Outcome
  nothing : Outcome

abbrev pub outcome_of_value : Value → Outcome
outcome_of_value (integer z) = number z
outcome_of_value (truth b) = truth_of b
outcome_of_value (location l) = cell l

-- At a normal end the value stack is empty or holds one value; the other lines are never met.
abbrev pub outcome_of : List Entry → Outcome
outcome_of [] = nothing
outcome_of (bindable (value v) ∷ X) = outcome_of_value v
outcome_of (bindable (closure fs b E) ∷ X) = nothing
outcome_of (name x ∷ X) = nothing
outcome_of (node c ∷ X) = nothing
outcome_of (environment E ∷ X) = nothing
outcome_of (locations L ∷ X) = nothing

-- The registers are the contents of cells 0 to r − 1: integers in every state of a passed image's run.
abbrev pub as_register : Option Value → ℤ
as_register none = pos 0
as_register (some (integer z)) = z
as_register (some (truth b)) = pos 0
as_register (some (location l)) = pos 0

unfoldable pub registers_from : (first count : ℕ) → Store → List ℤ
registers_from i zero S = []
registers_from i (suc k) S = as_register (find i S) ∷ registers_from (suc i) k S

pub data Answer : Type 0 where
  outcome : Outcome → Answer
  refused : Refusal → (place : ℕ) → Answer

-- The answer, the steps made, and the most of each size over all states reached (document 02, request 9).
pub record Reply : Type 0 where
  pub answer : Answer
  pub steps : ℕ
  pub most : Sizes

-- A call's reply, and what it leaves in the registers and the work words.
pub record Called : Type 0 where
  pub reply : Reply
  pub registers : List ℤ
  pub work : List ℕ

-- Every call but 21 and 22 ends with the first 8,192 work words 0, the rest untouched.
unfoldable pub cleared : List ℕ → List ℕ
cleared ws = replicate work_words 0 ++ drop work_words ws

-- 1 to 22 report 0 steps and marks of 0, and keep the registers.
abbrev pub refusing : Refusal → (place : ℕ) → List ℤ → List ℕ → Called
refusing x p zs ws = record { reply = record { answer = refused x p; steps = 0; most = no_high_marks }; registers = zs; work = ws }

-- 30 to 36 report the steps made, at place 0, and leave the registers as before the withheld step. They report marks as a normal end does.
abbrev pub finish : (registers : ℕ) → List ℕ → (most : Sizes) → Ending → Called
finish r ws m (ended k σ) =
    record { reply = record { answer = outcome (outcome_of (values_of σ)); steps = k; most = m }; registers = registers_from 0 r (store_of σ); work = ws }
finish r ws m (stopped x k σ) =
    record { reply = record { answer = refused (Withheld x) 0; steps = k; most = m }; registers = registers_from 0 r (store_of σ); work = ws }
finish r ws m (lost k σ) =
    record { reply = record { answer = outcome nothing; steps = k; most = m }; registers = registers_from 0 r (store_of σ); work = ws }

-- 20: the register slice is not r long.
abbrev pub run_checked : Checked → List ℤ → (budget : ℕ) → List ℕ → Called
run_checked (turned_back x p) zs b ws = refusing x p zs ws
run_checked (passed r t c) zs b ws =
    let steps = finish r ws (high_marks b (start r t zs)) (run b 0 (start r t zs)) in
    cond (eqb (length zs) r) steps (refusing Refusals.Registers 0 zs ws)

-- A run tests 22, 21, the image, 20, then steps. 21 and 22 touch nothing.
unfoldable pub engine : (image : List ℕ) → (registers : List ℤ) → (budget : ℕ) → (work : List ℕ) → Called
engine im zs b ws =
    let body = run_checked (check_image im) zs b (cleared ws) in
    let budgeted = cond (leb b most_budget) body (refusing Refusals.Budget 0 zs ws) in
    cond (ltb (length ws) work_words) (refusing Refusals.Work 0 zs ws) budgeted

-- What the checker alone answers: the root's code, "command", or the refusal with its place; and the work words it leaves.
pub data CheckAnswer : Type 0 where
  root_code : ℕ → CheckAnswer
  root_command : CheckAnswer
  not_passed : Refusal → (place : ℕ) → CheckAnswer

abbrev pub answer_of : Passed → CheckAnswer
answer_of (expression_of_code c) = root_code c
answer_of a_command = root_command

abbrev pub check_answer : Checked → CheckAnswer
check_answer (turned_back x p) = not_passed x p
check_answer (passed r t c) = answer_of c

pub record CheckCalled : Type 0 where
  pub answer : CheckAnswer
  pub work : List ℕ

-- The checker alone tests 22, then the image. 22 touches nothing; every other call clears the work words.
unfoldable pub checker : (image : List ℕ) → (work : List ℕ) → CheckCalled
checker im ws =
    let body : CheckCalled = record { answer = check_answer (check_image im); work = cleared ws } in
    cond (ltb (length ws) work_words) (record { answer = not_passed Refusals.Work 0; work = ws }) body

-- What the needs alone answer: the four room figures and the most steps, which are open where a Loop is in the tree; or a refusal.
pub data MostSteps : Type 0 where
  given : ℕ → MostSteps
  left_open : MostSteps

pub data NeedsAnswer : Type 0 where
  figures : (control values cells bindings : ℕ) → MostSteps → NeedsAnswer
  no_figures : Refusal → (place : ℕ) → NeedsAnswer

abbrev pub room_figures : Need → MostSteps → NeedsAnswer
room_figures n s = figures (n.most Needs.control) (n.most Needs.values) (n.most Needs.cells) (n.most Needs.bindings) s

-- 40: no Loop is in the tree, and the steps come out above 1,000,000.
unfoldable pub figures_of : (registers : ℕ) → Root → NeedsAnswer
figures_of r t =
    let n = routine_need r t in
    let counted = cond (ltb most_steps n.steps) (no_figures Refusals.TooManySteps 0) (room_figures n (given n.steps)) in
    cond (has_loop t) (room_figures n left_open) counted

abbrev pub needs_answer : Checked → NeedsAnswer
needs_answer (turned_back x p) = no_figures x p
needs_answer (passed r t c) = figures_of r t

pub record NeedsCalled : Type 0 where
  pub answer : NeedsAnswer
  pub work : List ℕ

-- The needs alone test 22, then the image, then 40. 22 touches nothing; every other call clears the work words.
unfoldable pub needs : (image : List ℕ) → (work : List ℕ) → NeedsCalled
needs im ws =
    let body : NeedsCalled = record { answer = needs_answer (check_image im); work = cleared ws } in
    cond (ltb (length ws) work_words) (record { answer = no_figures Refusals.Work 0; work = ws }) body
