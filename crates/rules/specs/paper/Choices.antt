-- A choice without a loop, by examples: what a Cond does where its test is true and where it is false, and the order of its faults. A row
-- is as in Cases.antt, and so is what holds of it.
use Rattle.std.specs.Prelude.{ℕ, refl, List, [], ◌∷◌, pos}
use Rattle.rules.specs.paper.Refusals.{Withheld, Steps, Unbound, Mistyped}
use Rattle.rules.specs.paper.Limits.{most_budget}
use Rattle.rules.specs.paper.Engine.{outcome, refused, nothing}
use Rattle.rules.specs.paper.Cases.{Case, case, most, AllHold}

-- Cond(Lt(Id 0, 10), Assign(0, 1), Assign(0, 2)), one register
abbrev below_ten : List ℕ
below_ten =
    8 ∷ 1 ∷
    25 ∷ 9 ∷ 3 ∷ 1 ∷ 20 ∷ 1 ∷ 20 ∷ 1 ∷
    0 ∷ 0 ∷ 0 ∷ 10 ∷ 0 ∷ 1 ∷ 0 ∷ 2 ∷ []

-- Cond(test, Assign(x, 1), Assign(y, 1)), one register; the test is a node of this kind and operand
abbrev choice : (kind operand x y : ℕ) → List ℕ
choice k w x y =
    6 ∷ 1 ∷
    25 ∷ k ∷ 20 ∷ 1 ∷ 20 ∷ 1 ∷
    0 ∷ w ∷ x ∷ 1 ∷ y ∷ 1 ∷ []

abbrev pub choices : List Case
choices =
    -- true: the first command; false: the second
    case below_ten (pos 7 ∷ []) most_budget (outcome nothing) 9 (most 1 1 3 4) (pos 1 ∷ []) ∷
    case below_ten (pos 12 ∷ []) most_budget (outcome nothing) 9 (most 1 1 3 4) (pos 2 ∷ []) ∷
    -- the Cond and its test are five steps, and the mark is the sixth
    case below_ten (pos 7 ∷ []) 5 (refused (Withheld Steps) 0) 5 (most 1 1 3 4) (pos 7 ∷ []) ∷
    -- both commands are checked, taken or not: name 5 is not bound
    case (choice 2 1 0 5) (pos 7 ∷ []) most_budget (refused Unbound 4) 0 (most 0 0 0 0) (pos 7 ∷ []) ∷
    case (choice 2 0 5 0) (pos 7 ∷ []) most_budget (refused Unbound 2) 0 (most 0 0 0 0) (pos 7 ∷ []) ∷
    -- a test that is a number: 11 at the Cond, after the faults of all three children
    case (choice 1 1 0 0) (pos 7 ∷ []) most_budget (refused Mistyped 0) 0 (most 0 0 0 0) (pos 7 ∷ []) ∷
    case (choice 1 1 0 5) (pos 7 ∷ []) most_budget (refused Unbound 4) 0 (most 0 0 0 0) (pos 7 ∷ []) ∷
    []

pub choices_hold : AllHold choices
unfolding AllHold
choices_hold = (
  (refl, refl, refl, (refl, refl, refl, refl)),
  ((refl, refl, refl, (refl, refl, refl, refl)), ((refl, refl, refl, (refl, refl, refl, refl)), ((refl, refl, refl, (refl, refl, refl, refl)), ((refl, refl, refl, (refl, refl, refl, refl)), ((refl, refl, refl, (refl, refl, refl, refl)), ((refl, refl, refl, (refl, refl, refl, refl)), tt)))))),
)
