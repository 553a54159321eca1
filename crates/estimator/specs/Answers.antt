-- What the estimator's functions answer: the figures of the tree that stands at a node, in the scope at a pointer.
use Rattle.std.specs.Prelude.{ℕ, ◌≤◌, ◌≡◌, Bool, List, ◌++◌, length}
use Rattle.rules.specs.paper.Tree.{Formal, Expression, Command, Call, Declaration, Root}
use Rattle.rules.specs.paper.Needs.{Needs, expression_need, actuals_need, over_formals, command_need, declaration_need, names_given, register_needs, root_need, routine_need, has_loop}
use Rattle.reader.specs.Stored.{StoredExpression, StoredActuals, StoredFormals, StoredCommand, StoredDeclaration, RootAt}
use Rattle.estimator.specs.Figures.{figures}
use Rattle.estimator.specs.Entries.{NamesAt}
use Rattle.estimator.specs.declared.figures.Need.{Need}
use Rattle.estimator.specs.declared.commands.Declared.{Declared}

-- ---- What stands at a node.

abbrev pub SomeExpression : List ℕ → (node : ℕ) → Type 0
SomeExpression words node = (d j : ℕ) × (e : Expression) × StoredExpression words d node j e

abbrev pub SomeActuals : List ℕ → (node count : ℕ) → Type 0
SomeActuals words node count = (d j : ℕ) × (es : List Expression) × StoredActuals words d node j es × (length es ≡ count)

abbrev pub SomeFormals : List ℕ → (node count : ℕ) → Type 0
SomeFormals words node count = (j : ℕ) × (fs : List Formal) × StoredFormals words node j fs × (length fs ≡ count)

abbrev pub SomeCommand : List ℕ → (node : ℕ) → Type 0
SomeCommand words node = (d j : ℕ) × (c : Command) × StoredCommand words d node j c

abbrev pub SomeCall : List ℕ → (node : ℕ) → Type 0
SomeCall words node = (d j x : ℕ) × (es : List Expression) × StoredCommand words d node j (Call node x es)

abbrev pub SomeDeclaration : List ℕ → (node : ℕ) → Type 0
SomeDeclaration words node = (d j : ℕ) × (c : Declaration) × StoredDeclaration words d node j c

-- ---- Expressions.

abbrev pub ExpressionNeeds : List ℕ → (node : ℕ) → Need → Type 0
ExpressionNeeds words node r = (d j : ℕ) (e : Expression) → StoredExpression words d node j e → r ≡ figures (expression_need e)

abbrev pub ActualsNeed : List ℕ → (node count : ℕ) → Need → Type 0
ActualsNeed words node count r = (d j : ℕ) (es : List Expression) → StoredActuals words d node j es → length es ≡ count → r ≡ figures (actuals_need es)

-- ---- Commands.

abbrev pub CallNeeds : List ℕ → (scope node : ℕ) → Need → Type 0
CallNeeds words scope node r =
    (d j x : ℕ) (es : List Expression) (N : Needs) → StoredCommand words d node j (Call node x es) → NamesAt words scope N → r ≡ figures (command_need N (Call node x es))

abbrev pub CommandNeeds : List ℕ → (scope node : ℕ) → Need → Type 0
CommandNeeds words scope node r = (d j : ℕ) (c : Command) (N : Needs) → StoredCommand words d node j c → NamesAt words scope N → r ≡ figures (command_need N c)

-- ---- Names.

-- The answer points at the Formals' names, on those before them.
abbrev pub FormalsNamed : (words words' : List ℕ) (scope node count : ℕ) → ℕ → Type 0
FormalsNamed words words' scope node count r =
    (j : ℕ) (fs : List Formal) (N : Needs) → StoredFormals words node j fs → length fs ≡ count → NamesAt words scope N → NamesAt words' r (over_formals fs N) × (r ≤ j)

-- A declaration's need, and a pointer at its names, on those before them.
pub record DeclaredAs (words : List ℕ) (next : ℕ) (N : Needs) (c : Declaration) (r : Declared) : Type 0 where
  pub need_is : r.need ≡ figures (declaration_need N c)
  pub names_there : NamesAt words r.newest (names_given N c ++ N)
  pub newest_low : r.newest ≤ next

abbrev pub DeclarationNeeds : (words words' : List ℕ) (scope node : ℕ) → Declared → Type 0
DeclarationNeeds words words' scope node r = (d j : ℕ) (c : Declaration) (N : Needs) → StoredDeclaration words d node j c → NamesAt words scope N → DeclaredAs words' j N c r

-- ---- The whole routine.

-- The registers' names have no need, whatever their number.
abbrev pub RootNeeds : List ℕ → (nodes : ℕ) → Need → Type 0
RootNeeds words nodes r = (registers : ℕ) (t : Root) → RootAt words nodes t → r ≡ figures (root_need (register_needs registers) t)

abbrev pub RoutineNeeds : List ℕ → (registers nodes : ℕ) → Need → Type 0
RoutineNeeds words registers nodes r = (t : Root) → RootAt words nodes t → r ≡ figures (routine_need registers t)

abbrev pub LoopFound : List ℕ → (nodes : ℕ) → Bool → Type 0
LoopFound words nodes r = (t : Root) → RootAt words nodes t → r ≡ has_loop t
