-- Expressions that are names: every meaning in a scope has its number, and a name's code follows from it.
use Prim.Native.Nat.{ℕ, zero, suc}
use mathlib.Core.Path.{◌≡◌, refl, sym, subst}
use mathlib.Core.Bool.{Bool, true, false, cond}
use mathlib.Core.List.{List, ◌∷◌, ◌++◌}
use mathlib.Core.Option.{Option, none, some, none-ne-some}
use native.Mathlib.Omega.{arith}
use lib.Dec.{eqb}
use Rattle.rules.specs.paper.Checker.{Meaning, code, Named, Scope, meaning_of, bound_name, fine, register_scope}
use Rattle.typing.specs.Rows.{meaning_number, MeaningAt, code_at, function_at, Rows, no_rows, one_row, ScopeAt}
use Rattle.typing.specs.Answers.{Numbered, numbered_code, numbered_function}

-- ---- Every meaning in a scope has its number.

abbrev AllNumbered : Scope → Type 0
AllNumbered Γ = (x : ℕ) (m : Meaning) → meaning_of x Γ ≡ some m → Numbered (meaning_number m) m

numbered_cons : (n : Named) (Γ : Scope) → Numbered (meaning_number n.meaning) n.meaning → AllNumbered Γ → AllNumbered (n ∷ Γ)
unfolding meaning_of
numbered_cons n Γ h all x m = choose (eqb n.name x)
  where
    inject : (a b : Meaning) → some a ≡ some b → a ≡ b
    inject a b q = cc

    choose : (t : Bool) → cond t (some n.meaning) (meaning_of x Γ) ≡ some m → Numbered (meaning_number m) m
    choose true q = subst (λ k. Numbered (meaning_number k) k) (inject n.meaning m q) h
    choose false q = all x m q

pub meaning_numbered : {words : List ℕ} {k : ℕ} {m : Meaning} → MeaningAt words k m → Numbered (meaning_number m) m
meaning_numbered (code_at h) = numbered_code h
meaning_numbered (function_at h g) = numbered_function

registers_numbered : (r : ℕ) → AllNumbered (register_scope r)
unfolding register_scope meaning_of
registers_numbered zero x m q = absurd (none-ne-some m q)
registers_numbered (suc r) x m q = numbered_cons (record { name = r; meaning = code 2 }) (register_scope r) (numbered_code (omega arith)) (registers_numbered r) x m q

rows_numbered : {words : List ℕ} {from to : ℕ} {Δ : Scope} (Γ : Scope) → Rows words from to Δ → AllNumbered Γ → AllNumbered (Δ ++ Γ)
rows_numbered Γ no_rows all = all
rows_numbered Γ (one_row {n = n} {Δ = Δ} h q p a r) all = numbered_cons n (Δ ++ Γ) (meaning_numbered a) (rows_numbered Γ r all)

pub scope_numbered : (words : List ℕ) (registers scope node x : ℕ) (Γ : Scope) (m : Meaning) → ScopeAt words registers scope Γ → bound_name node (meaning_of x Γ) ≡ fine m → Numbered (meaning_number m) m
scope_numbered words registers scope node x Γ m s = by (meaning_of x Γ) refl
  where
    all : AllNumbered Γ
    all = subst AllNumbered (sym s.whole) (rows_numbered (register_scope registers) s.rows (registers_numbered registers))

    by : (o : Option Meaning) → meaning_of x Γ ≡ o → bound_name node o ≡ fine m → Numbered (meaning_number m) m
    by none p q = absurd (no_binding q)
      where
        no_binding : bound_name node none ≡ fine m → ⊥
        no_binding r = cc
    by (some k) p q = subst (λ n. Numbered (meaning_number n) n) (same q) (all x k p)
      where
        same : bound_name node (some k) ≡ fine m → k ≡ m
        same r = cc
