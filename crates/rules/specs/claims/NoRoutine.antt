-- A slot with no routine, stated: which words are one, and what the engine gives for it. NoRoutine.antt of the proofs shows it.
use Rattle.std.specs.Prelude.{ℕ, ◌≤◌, ◌<◌, ◌≡◌, ◌↔◌, List, [], ◌∷◌, ℤ, length}
use Rattle.rules.specs.paper.Tree.{absent}
use Rattle.rules.specs.paper.Refusals as Refusals
use Rattle.rules.specs.paper.Limits.{most_registers, most_budget, work_words}
use Rattle.rules.specs.paper.Checker.{Passed, a_command}
use Rattle.rules.specs.paper.Needs.{sizes}
use Rattle.rules.specs.paper.Engine.{turned_back, passed, check_image, root_command, checker, outcome, nothing, cleared, engine}

pub record NoRoutineClaim : Type 0 where
  -- The root is absent exactly where the image is two words, n = 0 and r of 0 to 16; and it passes as a command.
  pub passes : (ws : List ℕ) (r : ℕ) (c : Passed) → (check_image ws ≡ passed r absent c) ↔ ((ws ≡ 0 ∷ r ∷ []) × (r ≤ most_registers) × (c ≡ a_command))
  -- n = 0 with more words is 1, and with r above 16 it is 2.
  pub longer : (r w : ℕ) (ws : List ℕ) → r ≤ most_registers → check_image (0 ∷ r ∷ w ∷ ws) ≡ turned_back Refusals.Length 0
  pub many_registers : (r : ℕ) (ws : List ℕ) → most_registers < r → check_image (0 ∷ r ∷ ws) ≡ turned_back Refusals.Size 0
  -- The checker alone answers "command".
  pub checks : (r : ℕ) → r ≤ most_registers → (work : List ℕ) → work_words ≤ length work → checker (0 ∷ r ∷ []) work ≡ record { answer = root_command; work = cleared work }
  -- The run gives `none`, 0 steps, the registers as the most cells and bindings, and the registers unchanged, with any permitted budget, 0
  -- included.
  pub runs : (r : ℕ) → r ≤ most_registers → (registers : List ℤ) → length registers ≡ r → (budget : ℕ) → budget ≤ most_budget → (work : List ℕ) → work_words ≤ length work →
      engine (0 ∷ r ∷ []) registers budget work ≡ record { reply = record { answer = outcome nothing; steps = 0; most = sizes 0 0 r r }; registers = registers; work = cleared work }
