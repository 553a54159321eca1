-- The answer of the needs to a C host: the paper's numbers and values, each in a field of its own. With a refusal every figure is 0.
use Rattle.std.specs.Prelude.{ℕ, ◌≡◌, Option, Some, None, Result, Ok, Err}
use Rattle.rules.specs.paper.Refusals.{refusal_number}
use Rattle.rules.specs.declared.refusals.Refused.{Refused}
use Rattle.rules.specs.paper.Engine.{given, left_open, NeedsAnswer, figures, no_figures}
use Rattle.calls.specs.declared.Estimated.{Estimated}
use Rattle.engine.specs.declared.NeedsReply.{NeedsReply}

abbrev pub needs_refusal : NeedsAnswer → ℕ
needs_refusal (figures k v c b s) = 0
needs_refusal (no_figures x p) = refusal_number x

abbrev pub needs_place : NeedsAnswer → ℕ
needs_place (figures k v c b s) = 0
needs_place (no_figures x p) = p

abbrev pub needs_control : NeedsAnswer → ℕ
needs_control (figures k v c b s) = k
needs_control (no_figures x p) = 0

abbrev pub needs_values : NeedsAnswer → ℕ
needs_values (figures k v c b s) = v
needs_values (no_figures x p) = 0

abbrev pub needs_cells : NeedsAnswer → ℕ
needs_cells (figures k v c b s) = c
needs_cells (no_figures x p) = 0

abbrev pub needs_bindings : NeedsAnswer → ℕ
needs_bindings (figures k v c b s) = b
needs_bindings (no_figures x p) = 0

-- The steps, 0 where they are open.
abbrev pub needs_steps : NeedsAnswer → ℕ
needs_steps (figures k v c b (given s)) = s
needs_steps (figures k v c b left_open) = 0
needs_steps (no_figures x p) = 0

-- 1 where a Loop leaves the steps open.
abbrev pub needs_open : NeedsAnswer → ℕ
needs_open (figures k v c b (given s)) = 0
needs_open (figures k v c b left_open) = 1
needs_open (no_figures x p) = 0

-- The fields, from what the code answers.
abbrev pub steps_field : Option ℕ → ℕ
steps_field (Some s) = s
steps_field None = 0

abbrev pub open_field : Option ℕ → ℕ
open_field (Some s) = 0
open_field None = 1

abbrev pub needs_fields : Result Estimated Refused → NeedsReply
needs_fields (Ok e) =
    record { refusal = 0; place = 0; control = e.control; values = e.values; cells = e.cells; bindings = e.bindings; steps = steps_field e.steps; «open» = open_field e.steps }
needs_fields (Err r) =
    record { refusal = refusal_number r.refusal; place = r.place; control = 0; values = 0; cells = 0; bindings = 0; steps = 0; «open» = 0 }

pub record NeedsReplied (a : NeedsAnswer) (r : NeedsReply) : Type 0 where
  pub refusal_is : r.refusal ≡ needs_refusal a
  pub place_is : r.place ≡ needs_place a
  pub control_is : r.control ≡ needs_control a
  pub values_is : r.values ≡ needs_values a
  pub cells_is : r.cells ≡ needs_cells a
  pub bindings_is : r.bindings ≡ needs_bindings a
  pub steps_is : r.steps ≡ needs_steps a
  pub open_is : r.open ≡ needs_open a
