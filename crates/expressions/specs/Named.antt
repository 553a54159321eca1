-- The expressions that look up a name.
use Rattle.std.specs.Prelude.{ℕ}
use Rattle.rules.specs.paper.Tree.{Expression, Id, DeRef, ValRef}

-- This expression stands at this place, and looks up this name.
pub data Named (place : ℕ) : (name : ℕ) → Expression → Type 0 where
  by_id : {x : ℕ} → Named place x (Id place x)
  by_deref : {x : ℕ} → Named place x (DeRef place x)
  by_valref : {x : ℕ} → Named place x (ValRef place x)
