-- A name that is a function has no code: the answers of the three rules for names.
use Prim.Native.Nat.{ℕ, ◌≤◌}
use mathlib.Core.Path.{◌≡◌, refl}
use native.Mathlib.Omega.{arith}
use Rattle.std.specs.Prelude.{Err}
use Rattle.rules.specs.paper.Limits.{codes}
use Rattle.rules.specs.paper.Checker.{Meaning, id_code, deref_code, valref_code}
use Rattle.typing.specs.Answers.{mistyped_at, code_answer, Numbered, numbered_code, numbered_function}

pub id_function : (p n : ℕ) → codes ≤ n → (m : Meaning) → Numbered n m → Err (mistyped_at p) ≡ code_answer (id_code p m)
id_function p n h m (numbered_code l) = absurd (omega (arith, h, l))
id_function p n h m numbered_function = refl

pub deref_function : (p n : ℕ) → codes ≤ n → (m : Meaning) → Numbered n m → Err (mistyped_at p) ≡ code_answer (deref_code p m)
deref_function p n h m (numbered_code l) = absurd (omega (arith, h, l))
deref_function p n h m numbered_function = refl

pub valref_function : (p n : ℕ) → codes ≤ n → (m : Meaning) → Numbered n m → Err (mistyped_at p) ≡ code_answer (valref_code p m)
valref_function p n h m (numbered_code l) = absurd (omega (arith, h, l))
valref_function p n h m numbered_function = refl
