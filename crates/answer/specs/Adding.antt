-- Texts put one behind the other.
use Rattle.std.specs.Prelude.{ℕ, ◌+◌, ◌≤◌, ◌≡◌, List, ◌++◌, length}

-- A text stands behind what was there, with at most so many bytes more.
pub record Adds (most : ℕ) (before text after : List ℕ) : Type 0 where
  pub added : after ≡ before ++ text
  pub short : length after ≤ length before + most
