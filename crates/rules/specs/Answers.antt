-- What the code answers where the rules judge: what was asked for, or the refusal with its place.
use Rattle.std.specs.Prelude.{ℕ, Result, Ok, Err}
use Rattle.rules.specs.declared.refusals.Refusal.{Refusal}
use Rattle.rules.specs.declared.refusals.Refused.{Refused}
use Rattle.rules.specs.paper.Checker.{Judged, fault, fine}

abbrev pub refused_at : {A : Type 0} → Refusal → (place : ℕ) → Result A Refused
refused_at x p = Err (record { refusal = x; place = p })

abbrev pub answer : {A B : Type 0} → (A → B) → Judged A → Result B Refused
answer value (fault x p) = refused_at x p
answer value (fine a) = Ok (value a)
