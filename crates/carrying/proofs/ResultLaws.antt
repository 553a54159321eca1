-- An answer is a value or a refusal, and tells which.
use mathlib.Core.Path.{◌≡◌, ap}
use Rattle.std.specs.Prelude.{Result, Ok, Err}

pub ok_not_err : {A X E : Type 0} {x : X} {e : E} → ◌≡◌ {A = Result X E} (Ok x) (Err e) → A
ok_not_err q = absurd cc

pub same_ok : {X E : Type 0} {x y : X} → ◌≡◌ {A = Result X E} (Ok x) (Ok y) → x ≡ y
same_ok q = cc

-- The same refusal, where another value was asked for.
pub same_refusal : {X Y E : Type 0} {e f : E} → ◌≡◌ {A = Result X E} (Err e) (Err f) → ◌≡◌ {A = Result Y E} (Err e) (Err f)
same_refusal {e = e} {f = f} q = let same : e ≡ f = cc in ap Err same
