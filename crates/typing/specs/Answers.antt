-- What the checker's functions answer, by the definitions of the rules.
use Rattle.std.specs.Prelude.{ℕ, suc, ◌<◌, ◌≡◌, List, Option, Some, None, Result}
use Rattle.std.proofs.Math.Option as Maybe
use Rattle.rules.specs.Answers.{answer}
use Rattle.rules.specs.declared.refusals.Refusal.TheVariants.{Mistyped}
use Rattle.rules.specs.declared.refusals.Refused.{Refused}
use Rattle.rules.specs.paper.Limits.{codes}
use Rattle.rules.specs.paper.Tree.{Formal, Expression}
use Rattle.rules.specs.paper.Checker.{Meaning, code, function, Scope, Fine, Judged, fine, ◌>>=◌, meaning_of, bound_name, same_code, expression_code}
use Rattle.reader.specs.Stored.{StoredExpression}
use Rattle.typing.specs.Rows.{function_number, meaning_number, MeaningAt, ScopeAt}
use Rattle.typing.specs.declared.scope.Found.{Found}

-- A look-up answers the binding, by the number of its meaning and its pointer, or nothing.
pub data FoundAs (words : List ℕ) : Maybe.Option Meaning → Option Found → Type 0 where
  found_nothing : FoundAs words Maybe.none None
  found_binding : {m : Meaning} {k : ℕ} → MeaningAt words k m → FoundAs words (Maybe.some m) (Some (record { meaning = meaning_number m; pointer = suc k }))
  found_register : FoundAs words (Maybe.some (code 2)) (Some (record { meaning = 2; pointer = 0 }))

-- What the look-up of a name finds in the scope at a pointer.
abbrev pub NameFoundAt : List ℕ → (registers scope name : ℕ) → Option Found → Type 0
NameFoundAt words registers scope name r = (Γ : Scope) → ScopeAt words registers scope Γ → FoundAs words (meaning_of name Γ) r

-- A judgement answers a number for what was asked, or the refusal and the node.
abbrev pub code_answer : Judged ℕ → Result ℕ Refused
code_answer = answer (λ c. c)

abbrev pub fine_answer : Judged Fine → Result (Unit {0}) Refused
fine_answer = answer (λ done. tt)

abbrev pub meaning_answer : Judged Meaning → Result ℕ Refused
meaning_answer = answer meaning_number

abbrev pub mistyped_at : (place : ℕ) → Refused
mistyped_at p = record { refusal = Mistyped; place = p }

-- Two codes that both have to be the one that is wanted, and the result that is handed in.
abbrev pub both_give : (wanted result place : ℕ) → (first second : ℕ) → Judged ℕ
both_give w r p a b = same_code p w a >>= λ first. same_code p w b >>= λ second. fine r

-- The number of a name's meaning, or Unbound at the node.
abbrev pub MeaningJudgedAt : List ℕ → (registers scope node name : ℕ) → Result ℕ Refused → Type 0
MeaningJudgedAt words registers scope node name r = (Γ : Scope) → ScopeAt words registers scope Γ → r ≡ meaning_answer (bound_name node (meaning_of name Γ))

-- Which meaning a number stands for; of a function, it leaves open which.
pub data Numbered : ℕ → Meaning → Type 0 where
  numbered_code : {c : ℕ} → c < codes → Numbered c (code c)
  numbered_function : {fs : List Formal} → Numbered function_number (function fs)

-- An expression stands at a node, to some depth and up to some node.
pub record ExpressionAt (words : List ℕ) (node : ℕ) (e : Expression) : Type 0 where
  pub depth : ℕ
  pub next : ℕ
  pub stored : StoredExpression words depth node next e

-- The answer is the code of the expression that stands there, or its first fault.
abbrev pub ExpressionJudgedAt : List ℕ → (registers scope node : ℕ) → Result ℕ Refused → Type 0
ExpressionJudgedAt words registers scope node r = (e : Expression) (Γ : Scope) → ExpressionAt words node e → ScopeAt words registers scope Γ → r ≡ code_answer (expression_code Γ e)
