-- What the checker's functions answer about commands, declarations and what they bind, and which work words they leave alone.
use Rattle.std.specs.Prelude.{ℕ, ◌+◌, ◌*◌, ◌<◌, ◌≤◌, ◌≡◌, List, length, get_or, Result, Ok}
use Rattle.rules.specs.declared.refusals.Refusal.{Refusal}
use Rattle.rules.specs.declared.refusals.Refused.{Refused}
use Rattle.rules.specs.Answers.{refused_at, answer}
use Rattle.rules.specs.paper.Limits.{names, most_parameters}
use Rattle.rules.specs.paper.Tree.{Formal, Expression, Command, Assign, Call, Cond, Block, Declaration, Bound, Root}
use Rattle.rules.specs.paper.Checker.{Scope, Judged, fault, fine, ◌>>=◌, same_codes, distinct, with_formals, expression_codes, command_ok, block_ok, declaration_gives, bound_means, register_scope, root_is}
use Rattle.rules.specs.declared.kinds.Passed.{Passed}
use Rattle.reader.specs.Stored.{HasWord, StoredActuals, StoredFormals, StoredCommand, StoredBlock, StoredDeclaration, StoredBound, RootAt}
use Rattle.typing.specs.Rows.{rows_from, rows_end, Rows, ScopeAt}
use Rattle.typing.specs.Answers.{fine_answer, meaning_answer, ExpressionAt}
use Rattle.checker.specs.Packing.{packed_codes, AllCodes}

-- Only rows of nodes from this one on are written: the words below its row and those from `rows_end` on are as they were.
pub record WritesRowsFrom (words words' : List ℕ) (node : ℕ) : Type 0 where
  pub same_length : length words' ≡ length words
  pub same_below : (i : ℕ) → i < rows_from + node → get_or words' i 0 ≡ get_or words i 0
  pub same_beyond : (i : ℕ) → rows_end ≤ i → get_or words' i 0 ≡ get_or words i 0

-- Some expressions, one after the other from a node on.
pub record ActualsAt (words : List ℕ) (node count : ℕ) (es : List Expression) : Type 0 where
  pub depth : ℕ
  pub next : ℕ
  pub stored : StoredActuals words depth node next es
  pub number : length es ≡ count

-- Some Formals, one after the other from a node on.
pub record FormalsAt (words : List ℕ) (node count : ℕ) (fs : List Formal) : Type 0 where
  pub next : ℕ
  pub stored : StoredFormals words node next fs
  pub number : length fs ≡ count

pub record AssignAt (words : List ℕ) (node x : ℕ) (e : Expression) : Type 0 where
  pub end : ℕ
  pub name_low : x < names
  pub word : HasWord words node 20 x end
  pub value : ExpressionAt words (node + 1) e

pub record CallAt (words : List ℕ) (node x : ℕ) (es : List Expression) : Type 0 where
  pub end : ℕ
  pub count : ℕ
  pub name_low : x < names
  pub few : count ≤ most_parameters
  pub word : HasWord words node 24 (x + names * count) end
  pub actuals : ActualsAt words (node + 1) count es

pub record CommandAt (words : List ℕ) (node : ℕ) (c : Command) : Type 0 where
  pub depth : ℕ
  pub next : ℕ
  pub stored : StoredCommand words depth node next c

pub record BlockAt (words : List ℕ) (node : ℕ) (b : Block) : Type 0 where
  pub depth : ℕ
  pub next : ℕ
  pub stored : StoredBlock words depth node next b

pub record DeclarationAt (words : List ℕ) (node next : ℕ) (d : Declaration) : Type 0 where
  pub depth : ℕ
  pub stored : StoredDeclaration words depth node next d

pub record BoundAt (words : List ℕ) (node : ℕ) (b : Bound) : Type 0 where
  pub depth : ℕ
  pub next : ℕ
  pub stored : StoredBound words depth node next b

-- The expressions' codes, packed, or the first fault.
abbrev pub ActualsJudgedAt : List ℕ → (registers scope node count : ℕ) → Result ℕ Refused → Type 0
ActualsJudgedAt words registers scope node count r =
    (es : List Expression) (Γ : Scope) → ActualsAt words node count es → ScopeAt words registers scope Γ → r ≡ answer packed_codes (expression_codes Γ es)

-- Whether the codes that are given packed are those of the Formals.
abbrev pub AgreementJudgedAt : List ℕ → (place given formal count : ℕ) → Result (Unit {0}) Refused → Type 0
AgreementJudgedAt words place given formal count r =
    (fs : List Formal) (cs : List ℕ) → FormalsAt words formal count fs → length cs ≡ count → AllCodes cs → given ≡ packed_codes cs → r ≡ fine_answer (same_codes place fs cs)

abbrev pub CallJudgedAt : List ℕ → (registers scope node : ℕ) → Result (Unit {0}) Refused → Type 0
CallJudgedAt words registers scope node r =
    (x : ℕ) (es : List Expression) (Γ : Scope) → CallAt words node x es → ScopeAt words registers scope Γ → r ≡ fine_answer (command_ok Γ (Call node x es))

abbrev pub AssignJudgedAt : List ℕ → (registers scope node : ℕ) → Result (Unit {0}) Refused → Type 0
AssignJudgedAt words registers scope node r =
    (x : ℕ) (e : Expression) (Γ : Scope) → AssignAt words node x e → ScopeAt words registers scope Γ → r ≡ fine_answer (command_ok Γ (Assign node x e))

-- A pointer at the newest of some names, down to a pointer before them and below a node; or the first fault.
pub data NamesFrom (words : List ℕ) (to node : ℕ) : Judged Scope → Result ℕ Refused → Type 0 where
  names_from : {t : ℕ} {Δ : Scope} → Rows words t to Δ → t ≤ node → NamesFrom words to node (fine Δ) (Ok t)
  names_fault : {r : Refusal} {p : ℕ} → NamesFrom words to node (fault r p) (refused_at r p)

-- The names that Formals give on top of those seen before them; a name that comes twice is refused.
abbrev pub formals_give : Scope → List Formal → Judged Scope
formals_give seen fs = distinct seen fs >>= λ done. fine (with_formals fs seen)

abbrev pub FormalsJudgedAt : (words words' : List ℕ) (scope tail node count : ℕ) → Result ℕ Refused → Type 0
FormalsJudgedAt words words' scope tail node count r =
    (fs : List Formal) (seen : Scope) → FormalsAt words node count fs → Rows words tail scope seen → NamesFrom words' scope (node + count) (formals_give seen fs) r

-- The command that stands there is fine, or its first fault.
abbrev pub CommandJudgedAt : List ℕ → (registers scope node : ℕ) → Result (Unit {0}) Refused → Type 0
CommandJudgedAt words registers scope node r = (c : Command) (Γ : Scope) → CommandAt words node c → ScopeAt words registers scope Γ → r ≡ fine_answer (command_ok Γ c)

abbrev pub ConditionalJudgedAt : List ℕ → (registers scope node : ℕ) → Result (Unit {0}) Refused → Type 0
ConditionalJudgedAt words registers scope node r =
    (e : Expression) (c₁ c₂ : Command) (Γ : Scope) → CommandAt words node (Cond node e c₁ c₂) → ScopeAt words registers scope Γ → r ≡ fine_answer (command_ok Γ (Cond node e c₁ c₂))

abbrev pub BlockJudgedAt : List ℕ → (registers scope node : ℕ) → Result (Unit {0}) Refused → Type 0
BlockJudgedAt words registers scope node r = (b : Block) (Γ : Scope) → BlockAt words node b → ScopeAt words registers scope Γ → r ≡ fine_answer (block_ok Γ b)

-- The names that the declaration gives, with rows from the answer's pointer to the scope's; or its first fault.
abbrev pub DeclarationJudgedAt : (words words' : List ℕ) (registers scope node : ℕ) → Result ℕ Refused → Type 0
DeclarationJudgedAt words words' registers scope node r =
    (d : Declaration) (next : ℕ) (Γ : Scope) → DeclarationAt words node next d → ScopeAt words registers scope Γ → NamesFrom words' scope next (declaration_gives Γ d) r

-- The number of what the Bind's child means, or its first fault.
abbrev pub BoundJudgedAt : List ℕ → (registers scope node : ℕ) → Result ℕ Refused → Type 0
BoundJudgedAt words registers scope node r = (b : Bound) (Γ : Scope) → BoundAt words node b → ScopeAt words registers scope Γ → r ≡ meaning_answer (bound_means Γ b)

abbrev pub root_answer : Judged Passed → Result Passed Refused
root_answer = answer (λ c. c)

-- What the root of a tree of so many nodes is, with the registers in scope; or its first fault.
abbrev pub RootJudgedAt : List ℕ → (registers nodes : ℕ) → Result Passed Refused → Type 0
RootJudgedAt words registers nodes r = (t : Root) → RootAt words nodes t → r ≡ root_answer (root_is (register_scope registers) t)
