-- The code's figures: a need of the rules with every number stopped at one more than the most steps that are given, and how the code puts
-- needs together. FigureLaws.antt shows that this is what the definitions of the rules give, stopped.
use Rattle.std.specs.Prelude.{ℕ, suc, ◌+◌, min, max}
use Rattle.rules.specs.paper.Limits.{most_steps}
use Rattle.rules.specs.paper.Needs.{control, values, cells, bindings}
use Rattle.rules.specs.paper.Needs as Rules
use Rattle.estimator.specs.declared.figures.Need.{Need}

abbrev pub stopped : ℕ → ℕ
stopped n = min n (suc most_steps)

abbrev pub numbers : (control values cells bindings steps all_steps : ℕ) → Need
numbers k v c b s a = record { control = k; values = v; cells = c; bindings = b; steps = s; all_steps = a }

abbrev pub figures : Rules.Need → Need
figures n = numbers (stopped (n.most control)) (stopped (n.most values)) (stopped (n.most cells)) (stopped (n.most bindings)) (stopped n.steps) (stopped n.all_steps)

abbrev pub one_step : (control values cells bindings : ℕ) → Need
one_step k v c b = numbers k v c b 1 1

abbrev pub raised : Need → (control values cells bindings : ℕ) → Need
raised n k v c b = numbers (stopped (n.control + k)) (stopped (n.values + v)) (stopped (n.cells + c)) (stopped (n.bindings + b)) n.steps n.all_steps

abbrev pub both_in_turn : Need → Need → Need
both_in_turn n m =
    numbers (max n.control m.control) (max n.values m.values) (max n.cells m.cells) (max n.bindings m.bindings) (stopped (n.steps + m.steps)) (stopped (n.all_steps + m.all_steps))

-- The larger of each, and all steps of both.
abbrev pub larger_of : Need → Need → Need
larger_of n m =
    numbers (max n.control m.control) (max n.values m.values) (max n.cells m.cells) (max n.bindings m.bindings) (max n.steps m.steps) (stopped (n.all_steps + m.all_steps))

abbrev pub node_figures : Need
node_figures = one_step 1 0 0 0

abbrev pub unary_figures : Need → (under values cells bindings : ℕ) → Need
unary_figures n u v c b = both_in_turn node_figures (both_in_turn (raised n 1 u 0 0) (one_step 1 v c b))

abbrev pub binary_figures : Need → Need → Need
binary_figures n m = both_in_turn node_figures (both_in_turn (raised n 2 0 0 0) (both_in_turn (raised m 1 1 0 0) (one_step 1 2 0 0)))

abbrev pub tested_figures : Need → Need → Need
tested_figures n m = both_in_turn node_figures (both_in_turn (raised n 1 1 0 0) (both_in_turn (one_step 1 2 0 0) m))

abbrev pub sequence_figures : Need → Need → Need
sequence_figures n m = both_in_turn node_figures (both_in_turn (raised n 1 0 0 0) m)

abbrev pub scoped_figures : Need → (under : ℕ) → Need → (values cells bindings : ℕ) → Need
scoped_figures n u m v c b =
    both_in_turn node_figures
    (both_in_turn (raised n 3 u 0 0)
    (both_in_turn (one_step 3 2 n.cells n.bindings) (both_in_turn (raised m 1 2 n.cells n.bindings) (one_step 1 v c b))))

abbrev pub called_figures : Need → (count : ℕ) → Need → Need
called_figures n k m =
    both_in_turn node_figures (both_in_turn (raised n 1 0 0 0) (both_in_turn (one_step 1 k 0 0) (both_in_turn (raised m 1 2 0 k) (one_step 1 2 0 k))))
