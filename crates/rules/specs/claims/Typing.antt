-- Scope and types, as rules (paper, "Scope and types"): inductive families with a line for each rule.
-- CheckerExact.antt shows that the checker passes exactly what these derive.
use Rattle.std.specs.Prelude.{ℕ, zero, suc, ◌≤◌, ◌<◌, ◌≡◌, Bool, List, [], ◌∷◌, ◌++◌}
use Rattle.std.proofs.Math.Option.{Option, none, some}
use Rattle.rules.specs.paper.Tree.{Arithmetic, Order, Logic, Operator, arithmetic, Eq, order, logic, Expression, Num, Boo, Id, DeRef, ValRef, Binary, Not, Formal, Command, Assign, Loop, CSeq, block, Call, Cond, Block, Blk, Declaration, Bind, DSeq, Bound, plain, Ref, Abs, Root, expression, command, absent}
use Rattle.rules.specs.paper.Limits.{plain_codes}
use Rattle.rules.specs.paper.Checker.{Meaning, code, function, Named, Scope, meaning_of, with_formals, Passed, expression_of_code, a_command}

-- Γ ⊢ e ∶ c: in this scope the expression has this type code.
pub data HasCode (Γ : Scope) : Expression → ℕ → Type 0 where
  num : {p n : ℕ} → HasCode Γ (Num p n) 0
  boo : {p : ℕ} {b : Bool} → HasCode Γ (Boo p b) 1
  -- Id: code c of 2 or more gives c − 2; 0 and 1 give themselves.
  id_plain : {p x c : ℕ} → c < 2 → meaning_of x Γ ≡ some (code c) → HasCode Γ (Id p x) c
  id_cell : {p x c : ℕ} → meaning_of x Γ ≡ some (code (suc (suc c))) → HasCode Γ (Id p x) c
  -- DeRef: c of at least 2 gives c.
  deref : {p x c : ℕ} → 2 ≤ c → meaning_of x Γ ≡ some (code c) → HasCode Γ (DeRef p x) c
  -- ValRef: c of at least 4 gives c − 4.
  valref : {p x c : ℕ} → meaning_of x Γ ≡ some (code (suc (suc (suc (suc c))))) → HasCode Γ (ValRef p x) c
  -- Sum to Div: both 0, result 0.
  arithmetic_of : {p : ℕ} {o : Arithmetic} {e₁ e₂ : Expression} → HasCode Γ e₁ 0 → HasCode Γ e₂ 0 → HasCode Γ (Binary p (arithmetic o) e₁ e₂) 0
  -- Lt to Ge: both 0, result 1.
  order_of : {p : ℕ} {o : Order} {e₁ e₂ : Expression} → HasCode Γ e₁ 0 → HasCode Γ e₂ 0 → HasCode Γ (Binary p (order o) e₁ e₂) 1
  -- Eq: both 0 or both 1, result 1.
  equal_of : {p c : ℕ} {e₁ e₂ : Expression} → c < 2 → HasCode Γ e₁ c → HasCode Γ e₂ c → HasCode Γ (Binary p Eq e₁ e₂) 1
  -- And, Or, Not: 1s, result 1.
  logic_of : {p : ℕ} {o : Logic} {e₁ e₂ : Expression} → HasCode Γ e₁ 1 → HasCode Γ e₂ 1 → HasCode Γ (Binary p (logic o) e₁ e₂) 1
  not_of : {p : ℕ} {e : Expression} → HasCode Γ e 1 → HasCode Γ (Not p e) 1

-- The actuals have the codes of the Formals, as many of them.
pub data ActualsFit (Γ : Scope) : List Expression → List Formal → Type 0 where
  no_actuals : ActualsFit Γ [] []
  actual : {e : Expression} {es : List Expression} {f : Formal} {fs : List Formal} →
      HasCode Γ e f.code → ActualsFit Γ es fs → ActualsFit Γ (e ∷ es) (f ∷ fs)

-- The scope has a binding of the name.
pub data Declares (x : ℕ) : Scope → Type 0 where
  here : {n : Named} {Γ : Scope} → n.name ≡ x → Declares x (n ∷ Γ)
  there : {n : Named} {Γ : Scope} → Declares x Γ → Declares x (n ∷ Γ)

-- No Formal repeats one before it.
pub data Distinct : (seen : Scope) → List Formal → Type 0 where
  no_formals : {seen : Scope} → Distinct seen []
  formal : {seen : Scope} {f : Formal} {fs : List Formal} → (Declares f.name seen → ⊥) →
      Distinct (record { name = f.name; meaning = code f.code } ∷ seen) fs → Distinct seen (f ∷ fs)

mutual
  pub data CommandOk : Scope → Command → Type 0 where
    -- Assign: the name bound, code 2 or 3, and the value's code 2 less.
    assign : {Γ : Scope} {p x c : ℕ} {e : Expression} →
        HasCode Γ e c → c < plain_codes → meaning_of x Γ ≡ some (code (suc (suc c))) → CommandOk Γ (Assign p x e)
    -- Loop: its test is 1.
    loop : {Γ : Scope} {p : ℕ} {e : Expression} {c : Command} → HasCode Γ e 1 → CommandOk Γ c → CommandOk Γ (Loop p e c)
    cseq : {Γ : Scope} {p : ℕ} {c₁ c₂ : Command} → CommandOk Γ c₁ → CommandOk Γ c₂ → CommandOk Γ (CSeq p c₁ c₂)
    block_of : {Γ : Scope} {b : Block} → BlockOk Γ b → CommandOk Γ (block b)
    -- Call: name bound, a function with that count, codes equal to the Formals'.
    call : {Γ : Scope} {p x : ℕ} {es : List Expression} {fs : List Formal} →
        ActualsFit Γ es fs → meaning_of x Γ ≡ some (function fs) → CommandOk Γ (Call p x es)
    -- Cond: its test is 1, and both commands are checked, taken or not.
    conditional : {Γ : Scope} {p : ℕ} {e : Expression} {c₁ c₂ : Command} →
        HasCode Γ e 1 → CommandOk Γ c₁ → CommandOk Γ c₂ → CommandOk Γ (Cond p e c₁ c₂)

  pub data BlockOk : Scope → Block → Type 0 where
    blk : {Γ Δ : Scope} {p : ℕ} {d : Declaration} {c : Command} → Gives Γ d Δ → CommandOk (Δ ++ Γ) c → BlockOk Γ (Blk p d c)

  -- The names that a declaration gives.
  pub data Gives : Scope → Declaration → Scope → Type 0 where
    -- Bind gives its name the child's code, or the function.
    bind : {Γ Δ : Scope} {p x : ℕ} {b : Bound} {m : Meaning} → Means Γ b m → Δ ≡ record { name = x; meaning = m } ∷ [] → Gives Γ (Bind p x b) Δ
    -- The second declaration of a DSeq sees the names of the first. A name on both sides is a fault.
    dseq : {Γ Δ₁ Δ₂ Δ : Scope} {p : ℕ} {d₁ d₂ : Declaration} → Gives Γ d₁ Δ₁ → Gives (Δ₁ ++ Γ) d₂ Δ₂ →
        ((x : ℕ) → Declares x Δ₁ → Declares x Δ₂ → ⊥) → Δ ≡ Δ₂ ++ Δ₁ → Gives Γ (DSeq p d₁ d₂) Δ

  -- What a Bind binds its name to.
  pub data Means : Scope → Bound → Meaning → Type 0 where
    plain_of : {Γ : Scope} {e : Expression} {c : ℕ} → HasCode Γ e c → Means Γ (plain e) (code c)
    -- Ref: c of at most 5 gives c + 2.
    ref : {Γ : Scope} {p c : ℕ} {e : Expression} → HasCode Γ e c → c ≤ 5 → Means Γ (Ref p e) (code (suc (suc c)))
    -- Abs: its Blk sees the names around the Bind, then the Formals; not its own name. No Formal is repeated.
    abs : {Γ : Scope} {p : ℕ} {fs : List Formal} {b : Block} → Distinct [] fs → BlockOk (with_formals fs Γ) b → Means Γ (Abs p fs b) (function fs)

pub data RootOk (Γ : Scope) : Root → Passed → Type 0 where
  root_expression : {e : Expression} {c : ℕ} → HasCode Γ e c → RootOk Γ (expression e) (expression_of_code c)
  root_command : {c : Command} → CommandOk Γ c → RootOk Γ (command c) a_command
  -- A slot with no routine is a command with no rule to apply.
  root_absent : RootOk Γ absent a_command
