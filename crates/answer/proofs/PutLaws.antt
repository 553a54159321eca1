-- Texts put one behind the other: what both come to.
use Prim.Native.Nat.{ℕ, ◌+◌, ◌≤◌}
use mathlib.Core.Path.{◌≡◌, ap, ◌∙◌}
use mathlib.Core.List.{List, ◌++◌, append_assoc}
use native.Mathlib.Omega.{arith}
use Rattle.answer.specs.Adding.{Adds}

pub adds_then : {before middle after first second : List ℕ} {a b : ℕ} → Adds a before first middle → Adds b middle second after → Adds (a + b) before (first ++ second) after
adds_then {before} {first = first} {second} p q =
    record { added = q.added ∙ ap (λ l. l ++ second) p.added ∙ append_assoc before first second; short = omega (arith, p.short, q.short) }

pub adds_as : {before after text other : List ℕ} {a : ℕ} (b : ℕ) → text ≡ other → a ≤ b → Adds a before text after → Adds b before other after
adds_as {before} b q h p = record { added = p.added ∙ ap (λ l. before ++ l) q; short = omega (arith, p.short, h) }
