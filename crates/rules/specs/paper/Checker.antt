-- Scope and types, as a function (paper, "Scope and types"): children left to right, then the node; the first fault decides.
-- A fault's place is the node judged. Type codes are taken apart by 0, 1 and two more, so no rule subtracts.
-- The rules themselves stand in Typing.antt, and CheckerExact.antt shows that this function passes exactly what they derive.
use Rattle.std.specs.Prelude.{ℕ, zero, suc, ◌≤◌, Bool, true, false, cond, ◌||◌, List, [], ◌∷◌, ◌++◌, eqb, ltb}
use Rattle.std.proofs.Math.Option.{Option, none, some}
use Rattle.rules.specs.paper.Tree.{Operator, arithmetic, Eq, order, logic, Expression, Num, Boo, Id, DeRef, ValRef, Binary, Not, Formal, Command, Assign, Loop, CSeq, block, Call, Cond, Block, Blk, Declaration, Bind, DSeq, Bound, plain, Ref, Abs, Root, expression, command, absent}
use Rattle.rules.specs.paper.Limits.{plain_codes}
use Rattle.rules.specs.paper.Refusals.{Refusal, Unbound, Mistyped, Repeated, NotAssignable, BadCall}
-- What the checker answers of an image that passes, the root's code or "command", is the code's own type, of src/kinds.rt.
pub use Rattle.rules.specs.declared.kinds.Passed.{Passed}
pub use Rattle.rules.specs.declared.kinds.Passed.TheVariants.{Expression as expression_of_code, Command as a_command}

-- What a name means: a value of a type code, or a function with its Formals.
pub data Meaning : Type 0 where
  code : ℕ → Meaning
  function : List Formal → Meaning

pub record Named : Type 0 where
  pub name : ℕ
  pub meaning : Meaning

-- The names in scope, newest first: inner names hide outer ones.
abbrev pub Scope : Type 0
Scope = List Named

unfoldable pub meaning_of : ℕ → Scope → Option Meaning
meaning_of x [] = none
meaning_of x (n ∷ Γ) = let outer = meaning_of x Γ in cond (eqb n.name x) (some n.meaning) outer

-- A judgement: a fault at a node, or what was asked for.
pub data Judged (A : Type 0) : Type 0 where
  fault : Refusal → (place : ℕ) → Judged A
  fine : A → Judged A

infixr 20 ◌>>=◌
abbrev pub ◌>>=◌ : {A B : Type 0} → Judged A → (A → Judged B) → Judged B
◌>>=◌ (fault r p) f = fault r p
◌>>=◌ (fine a) f = f a

-- A name that has no binding stops the check there with 10.
abbrev pub bound_name : (place : ℕ) → Option Meaning → Judged Meaning
bound_name p none = fault Unbound p
bound_name p (some m) = fine m

-- Id: code c of 2 or more gives c − 2; 0 and 1 give themselves.
abbrev pub id_code : (place : ℕ) → Meaning → Judged ℕ
id_code p (code zero) = fine 0
id_code p (code (suc zero)) = fine 1
id_code p (code (suc (suc c))) = fine c
id_code p (function fs) = fault Mistyped p

-- DeRef: c of at least 2 gives c.
abbrev pub deref_code : (place : ℕ) → Meaning → Judged ℕ
deref_code p (code zero) = fault Mistyped p
deref_code p (code (suc zero)) = fault Mistyped p
deref_code p (code (suc (suc c))) = fine (suc (suc c))
deref_code p (function fs) = fault Mistyped p

-- ValRef: c of at least 4 gives c − 4.
abbrev pub valref_code : (place : ℕ) → Meaning → Judged ℕ
valref_code p (code zero) = fault Mistyped p
valref_code p (code (suc zero)) = fault Mistyped p
valref_code p (code (suc (suc zero))) = fault Mistyped p
valref_code p (code (suc (suc (suc zero)))) = fault Mistyped p
valref_code p (code (suc (suc (suc (suc c))))) = fine c
valref_code p (function fs) = fault Mistyped p

-- Sum to Div, and Lt to Ge: both 0, and the result that is handed in.
abbrev pub integers_give : (result place : ℕ) → (first second : ℕ) → Judged ℕ
integers_give r p zero zero = fine r
integers_give r p zero (suc b) = fault Mistyped p
integers_give r p (suc a) b = fault Mistyped p

-- And, Or: 1s, result 1.
abbrev pub truths_give : (place : ℕ) → (first second : ℕ) → Judged ℕ
truths_give p zero b = fault Mistyped p
truths_give p (suc zero) zero = fault Mistyped p
truths_give p (suc zero) (suc zero) = fine 1
truths_give p (suc zero) (suc (suc b)) = fault Mistyped p
truths_give p (suc (suc a)) b = fault Mistyped p

-- Eq: both 0 or both 1, result 1.
abbrev pub equals_give : (place : ℕ) → (first second : ℕ) → Judged ℕ
equals_give p zero zero = fine 1
equals_give p zero (suc b) = fault Mistyped p
equals_give p (suc zero) zero = fault Mistyped p
equals_give p (suc zero) (suc zero) = fine 1
equals_give p (suc zero) (suc (suc b)) = fault Mistyped p
equals_give p (suc (suc a)) b = fault Mistyped p

abbrev pub operator_code : Operator → (place : ℕ) → (first second : ℕ) → Judged ℕ
operator_code (arithmetic o) p a b = integers_give 0 p a b
operator_code Eq p a b = equals_give p a b
operator_code (order o) p a b = integers_give 1 p a b
operator_code (logic o) p a b = truths_give p a b

-- Not: a 1 gives 1. Loop and Cond: the test is 1.
abbrev pub truth_only : {A : Type 0} → (place : ℕ) → A → ℕ → Judged A
truth_only p a zero = fault Mistyped p
truth_only p a (suc zero) = fine a
truth_only p a (suc (suc c)) = fault Mistyped p

unfoldable pub expression_code : Scope → Expression → Judged ℕ
expression_code Γ (Num p n) = fine 0
expression_code Γ (Boo p b) = fine 1
expression_code Γ (Id p x) = bound_name p (meaning_of x Γ) >>= id_code p
expression_code Γ (DeRef p x) = bound_name p (meaning_of x Γ) >>= deref_code p
expression_code Γ (ValRef p x) = bound_name p (meaning_of x Γ) >>= valref_code p
expression_code Γ (Binary p o e₁ e₂) =
    expression_code Γ e₁ >>= λ a. expression_code Γ e₂ >>= λ b. operator_code o p a b
expression_code Γ (Not p e) = expression_code Γ e >>= truth_only p 1

-- The code of the value that may be assigned: 2 less than the name's, and plain, so the name has code 2 or 3; any other name is
-- not assignable (13).
abbrev pub assignable : (place : ℕ) → Meaning → Judged ℕ
assignable p (code zero) = fault NotAssignable p
assignable p (code (suc zero)) = fault NotAssignable p
assignable p (code (suc (suc c))) = cond (ltb c plain_codes) (fine c) (fault NotAssignable p)
assignable p (function fs) = fault NotAssignable p

-- A command is fine or not: there is one answer.
pub data Fine : Type 0 where
  ok : Fine

abbrev pub same_code : (place : ℕ) → (wanted given : ℕ) → Judged Fine
same_code p a b = cond (eqb a b) (fine ok) (fault Mistyped p)

unfoldable pub expression_codes : Scope → List Expression → Judged (List ℕ)
expression_codes Γ [] = fine []
expression_codes Γ (e ∷ es) = expression_code Γ e >>= λ c. expression_codes Γ es >>= λ cs. fine (c ∷ cs)

-- Call: a function (14).
abbrev pub called : (place : ℕ) → Meaning → Judged (List Formal)
called p (code c) = fault BadCall p
called p (function fs) = fine fs

-- Call: a function with that count (14).
abbrev pub same_count : (place : ℕ) → List Formal → List ℕ → Judged Fine
same_count p [] [] = fine ok
same_count p [] (c ∷ cs) = fault BadCall p
same_count p (f ∷ fs) [] = fault BadCall p
same_count p (f ∷ fs) (c ∷ cs) = same_count p fs cs

-- Call: codes equal to the Formals' (11).
abbrev pub same_codes : (place : ℕ) → List Formal → List ℕ → Judged Fine
same_codes p [] cs = fine ok
same_codes p (f ∷ fs) [] = fine ok
same_codes p (f ∷ fs) (c ∷ cs) = same_code p f.code c >>= λ done. same_codes p fs cs

unfoldable pub has_name : ℕ → Scope → Bool
has_name x [] = false
has_name x (n ∷ Γ) = eqb n.name x || has_name x Γ

-- Some name of the first scope stands in the second too.
unfoldable pub shares_name : Scope → Scope → Bool
shares_name [] Γ = false
shares_name (n ∷ Δ) Γ = has_name n.name Γ || shares_name Δ Γ

-- A repeated Formal is 12 where it is met. `seen` holds the Formals before it, newest first.
unfoldable pub distinct : (seen : Scope) → List Formal → Judged Fine
distinct seen [] = fine ok
distinct seen (f ∷ fs) =
    let later = distinct (record { name = f.name; meaning = code f.code } ∷ seen) fs in
    cond (has_name f.name seen) (fault Repeated f.place) later

-- The scope with the Formals added, the last one newest (002, `match`).
unfoldable pub with_formals : List Formal → Scope → Scope
with_formals [] Γ = Γ
with_formals (f ∷ fs) Γ = with_formals fs (record { name = f.name; meaning = code f.code } ∷ Γ)

-- Ref: c of at most 5 gives c + 2.
abbrev pub ref_code : (place : ℕ) → ℕ → Judged Meaning
ref_code p zero = fine (code 2)
ref_code p (suc zero) = fine (code 3)
ref_code p (suc (suc zero)) = fine (code 4)
ref_code p (suc (suc (suc zero))) = fine (code 5)
ref_code p (suc (suc (suc (suc zero)))) = fine (code 6)
ref_code p (suc (suc (suc (suc (suc zero))))) = fine (code 7)
ref_code p (suc (suc (suc (suc (suc (suc c)))))) = fault Mistyped p

unfoldable mutual
  pub command_ok : Scope → Command → Judged Fine
  command_ok Γ (Assign p x e) =
      expression_code Γ e >>= λ c.
      bound_name p (meaning_of x Γ) >>= λ m.
      assignable p m >>= λ wanted.
      same_code p wanted c
  command_ok Γ (Loop p e c) =
      expression_code Γ e >>= λ t. command_ok Γ c >>= λ done. truth_only p ok t
  command_ok Γ (CSeq p c₁ c₂) = command_ok Γ c₁ >>= λ done. command_ok Γ c₂
  command_ok Γ (block b) = block_ok Γ b
  command_ok Γ (Call p x es) =
      expression_codes Γ es >>= λ cs.
      bound_name p (meaning_of x Γ) >>= λ m.
      called p m >>= λ fs.
      same_count p fs cs >>= λ done.
      same_codes p fs cs
  -- Cond: both commands are checked, taken or not; its test is judged after all three children.
  command_ok Γ (Cond p e c₁ c₂) =
      expression_code Γ e >>= λ t. command_ok Γ c₁ >>= λ first. command_ok Γ c₂ >>= λ second. truth_only p ok t

  pub block_ok : Scope → Block → Judged Fine
  block_ok Γ (Blk p d c) = declaration_gives Γ d >>= λ Δ. command_ok (Δ ++ Γ) c

  -- The names that a declaration gives. The second declaration of a DSeq sees the names of the first.
  pub declaration_gives : Scope → Declaration → Judged Scope
  declaration_gives Γ (Bind p x b) = bound_means Γ b >>= λ m. fine (record { name = x; meaning = m } ∷ [])
  declaration_gives Γ (DSeq p d₁ d₂) =
      declaration_gives Γ d₁ >>= λ Δ₁.
      declaration_gives (Δ₁ ++ Γ) d₂ >>= λ Δ₂.
      cond (shares_name Δ₁ Δ₂) (fault Repeated p) (fine (Δ₂ ++ Δ₁))

  -- What a Bind gives its name: the child's code, or the function.
  -- Abs: its Blk sees the names around the Bind, then the Formals; not its own name.
  pub bound_means : Scope → Bound → Judged Meaning
  bound_means Γ (plain e) = expression_code Γ e >>= λ c. fine (code c)
  bound_means Γ (Ref p e) = expression_code Γ e >>= ref_code p
  bound_means Γ (Abs p fs b) =
      distinct [] fs >>= λ done. block_ok (with_formals fs Γ) b >>= λ inside. fine (function fs)

-- Names 0 to r − 1 start as registers, code 2.
unfoldable pub register_scope : ℕ → Scope
register_scope zero = []
register_scope (suc r) = record { name = r; meaning = code 2 } ∷ register_scope r

unfoldable pub root_is : Scope → Root → Judged Passed
root_is Γ (expression e) = expression_code Γ e >>= λ c. fine (expression_of_code c)
root_is Γ (command c) = command_ok Γ c >>= λ done. fine a_command
root_is Γ absent = fine a_command
