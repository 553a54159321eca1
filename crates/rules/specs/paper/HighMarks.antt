-- The high marks of a run (document 02, request 9): the most cells, bindings, value entries and control entries over all states that it
-- reaches, the first included. A withheld step's state is not reached.
use Rattle.std.specs.Prelude.{ℕ, zero, suc, max, false, List, [], ◌∷◌, length}
use Rattle.rules.specs.paper.States.{State, state, control_of, values_of, store_of, bindings_of}
use Rattle.rules.specs.paper.Fire.{Firing, stuck, fires, fire}
use Rattle.rules.specs.paper.Run.{Verdict, made, withheld, judge}
use Rattle.rules.specs.paper.Needs.{Sizes, sizes}

-- The four sizes of a state.
abbrev pub size : State → Sizes
size σ = sizes (length (control_of σ)) (length (values_of σ)) (length (store_of σ)) (bindings_of σ)

-- The larger of each.
abbrev pub larger : Sizes → Sizes → Sizes
larger s t f = max (s f) (t f)

abbrev pub no_high_marks : Sizes
no_high_marks = sizes 0 0 0 0

-- The marks of a state and of what comes after the step that is tried there: of the states from the one on that it leaves, where it is made.
abbrev pub raised_by_verdict : Verdict → State → (State → Sizes) → Sizes
raised_by_verdict (made τ) σ later = larger (size σ) (later τ)
raised_by_verdict (withheld r) σ later = size σ

abbrev pub raised_by_firing : Firing → State → (State → Sizes) → Sizes
raised_by_firing stuck σ later = size σ
raised_by_firing (fires r e) σ later = raised_by_verdict (judge false e) σ later

-- The marks of the run from a state on, with so much of the budget left. It goes on as `run` does (Run.antt).
unfoldable pub high_marks : (left : ℕ) → State → Sizes
high_marks zero σ = size σ
high_marks (suc left) (state [] X E S L n) = size (state [] X E S L n)
high_marks (suc left) (state (i ∷ C) X E S L n) = raised_by_firing (fire (state (i ∷ C) X E S L n)) (state (i ∷ C) X E S L n) (λ τ. high_marks left τ)
