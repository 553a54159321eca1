-- A declaration makes cells and bindings and leaves none before its block is left: the most of each are those that it leaves.
use mathlib.Core.Path.{◌≡◌, refl}
use mathlib.Core.List.{◌++◌}
use native.Mathlib.Omega.{arith}
use Rattle.rules.specs.paper.Tree.{Expression, Num, Boo, Id, DeRef, ValRef, Binary, Not, Declaration, Bind, DSeq, Bound, plain, Ref, Abs}
use Rattle.rules.specs.paper.Needs.{cells, bindings, in_turn, expression_need, Needs, cells_of_bound, cells_left, bindings_left, bound_need, declaration_need, names_given}

expression_cells : (e : Expression) → (expression_need e).most cells ≡ 0
unfolding expression_need in_turn
expression_cells (Num p n) = refl
expression_cells (Boo p b) = refl
expression_cells (Id p x) = refl
expression_cells (DeRef p x) = refl
expression_cells (ValRef p x) = refl
expression_cells (Binary p o e₁ e₂) = omega (arith, expression_cells e₁, expression_cells e₂)
expression_cells (Not p e) = omega (arith, expression_cells e)

expression_bindings : (e : Expression) → (expression_need e).most bindings ≡ 0
unfolding expression_need in_turn
expression_bindings (Num p n) = refl
expression_bindings (Boo p b) = refl
expression_bindings (Id p x) = refl
expression_bindings (DeRef p x) = refl
expression_bindings (ValRef p x) = refl
expression_bindings (Binary p o e₁ e₂) = omega (arith, expression_bindings e₁, expression_bindings e₂)
expression_bindings (Not p e) = omega (arith, expression_bindings e)

bound_cells : (b : Bound) → (bound_need b).most cells ≡ cells_of_bound b
unfolding bound_need in_turn
bound_cells (plain e) = expression_cells e
bound_cells (Ref p e) = omega (arith, expression_cells e)
bound_cells (Abs p fs b) = refl

bound_bindings : (b : Bound) → (bound_need b).most bindings ≡ 0
unfolding bound_need in_turn
bound_bindings (plain e) = expression_bindings e
bound_bindings (Ref p e) = omega (arith, expression_bindings e)
bound_bindings (Abs p fs b) = refl

pub declaration_cells : (N : Needs) (d : Declaration) → (declaration_need N d).most cells ≡ cells_left d
unfolding declaration_need cells_left in_turn
declaration_cells N (Bind p x b) = omega (arith, bound_cells b)
declaration_cells N (DSeq p d₁ d₂) = omega (arith, declaration_cells N d₁, declaration_cells (names_given N d₁ ++ N) d₂)

pub declaration_bindings : (N : Needs) (d : Declaration) → (declaration_need N d).most bindings ≡ bindings_left d
unfolding declaration_need bindings_left in_turn
declaration_bindings N (Bind p x b) = omega (arith, bound_bindings b)
declaration_bindings N (DSeq p d₁ d₂) = omega (arith, declaration_bindings N d₁, declaration_bindings (names_given N d₁ ++ N) d₂)
