-- The four room figures of a passed image are small: at most four for each node, and the registers. No function calls itself, so a call's
-- need is that of nodes before it.
use Rattle.std.specs.Prelude.{ℕ, zero, suc, ◌+◌, ◌*◌, ◌-◌, ◌≤◌, Bool, true, false, cond, List, [], ◌∷◌, ◌++◌, eqb, length}
use Rattle.std.proofs.Common.{sym, subst, arith}
use Rattle.rules.specs.paper.Tree.{Expression, Formal, Command, Block, Declaration, Bind, Bound, Root}
use Rattle.rules.proofs.Basics.{append_assoc}
use Rattle.rules.specs.paper.Needs.{Figure, control, values, cells, bindings, Need, nothing, in_turn, expression_need, actuals_need, Needs, need_of, over_formals, register_needs, cells_of_bound, cells_left, bindings_left, bound_need, function_need, tested_need, command_need, block_need, declaration_need, names_given, bound_function, root_need, routine_need}
use Rattle.rules.specs.claims.Shape.{ShapedExpression, ShapedFormal, Many, none_left, one_more, ShapedCommand, ShapedBlock, ShapedDeclaration, ShapedBound, ShapedRoot}
use Rattle.rules.specs.claims.Shape as Shape
use Rattle.rules.specs.claims.FreeRun.{FiguresSmall}
use Rattle.rules.proofs.checking.ImageExact.{check_exact}
use Rattle.rules.proofs.needs.StretchLaws.{by_figure}

-- ---- Trees without names.

expression_bound : {d i j : ℕ} {e : Expression} → ShapedExpression d i j e → (f : Figure) → (expression_need e).most f + 4 * i ≤ 4 * j
unfolding expression_need in_turn
expression_bound (Shape.num h) = by_figure _ (omega arith)
expression_bound Shape.boo = by_figure _ (omega arith)
expression_bound (Shape.id h) = by_figure _ (omega arith)
expression_bound (Shape.deref h) = by_figure _ (omega arith)
expression_bound (Shape.valref h) = by_figure _ (omega arith)
expression_bound (Shape.binary a b) =
    by_figure _ (
      omega (arith, expression_bound a control, expression_bound b control),
      omega (arith, expression_bound a values, expression_bound b values),
      omega (arith, expression_bound a cells, expression_bound b cells),
      omega (arith, expression_bound a bindings, expression_bound b bindings),
    )
expression_bound (Shape.negation a) =
    by_figure _ (omega (arith, expression_bound a control), omega (arith, expression_bound a values), omega (arith, expression_bound a cells), omega (arith, expression_bound a bindings))

expression_later : {d i j : ℕ} {e : Expression} → ShapedExpression d i j e → suc i ≤ j
expression_later (Shape.num h) = omega arith
expression_later Shape.boo = omega arith
expression_later (Shape.id h) = omega arith
expression_later (Shape.deref h) = omega arith
expression_later (Shape.valref h) = omega arith
expression_later (Shape.binary a b) = omega (arith, expression_later a, expression_later b)
expression_later (Shape.negation a) = omega (arith, expression_later a)

actuals_later : {d i j : ℕ} {es : List Expression} → Many Expression (ShapedExpression d) i j es → length es + i ≤ j
actuals_later none_left = omega arith
actuals_later (one_more h g) = omega (arith, expression_later h, actuals_later g)

actuals_bound : {d i j : ℕ} {es : List Expression} → Many Expression (ShapedExpression d) i j es → (f : Figure) → (actuals_need es).most f + 4 * i ≤ 4 * j
unfolding actuals_need in_turn
actuals_bound none_left = by_figure _ (omega arith)
actuals_bound (one_more h g) =
    by_figure _ (
      omega (arith, expression_bound h control, actuals_bound g control, expression_later h),
      omega (arith, expression_bound h values, actuals_bound g values, actuals_later g, expression_later h),
      omega (arith, expression_bound h cells, actuals_bound g cells, expression_later h),
      omega (arith, expression_bound h bindings, actuals_bound g bindings, expression_later h),
    )

formals_later : {d i j : ℕ} {fs : List Formal} → Many Formal (ShapedFormal d) i j fs → i ≤ j
formals_later none_left = omega arith
formals_later (one_more (Shape.formal q h g) m) = omega (arith, formals_later m)

mutual
  command_later : {d i j : ℕ} {c : Command} → ShapedCommand d i j c → suc i ≤ j
  command_later (Shape.assign l a) = omega (arith, expression_later a)
  command_later (Shape.loop a b) = omega (arith, expression_later a, command_later b)
  command_later (Shape.cseq a b) = omega (arith, command_later a, command_later b)
  command_later (Shape.block_of b) = block_later b
  command_later (Shape.call l g m) = omega (arith, actuals_later m)
  command_later (Shape.conditional a b c) = omega (arith, expression_later a, command_later b, command_later c)

  block_later : {d i j : ℕ} {b : Block} → ShapedBlock d i j b → suc i ≤ j
  block_later (Shape.blk a b) = omega (arith, declaration_later a, command_later b)

  declaration_later : {d i j : ℕ} {c : Declaration} → ShapedDeclaration d i j c → suc i ≤ j
  declaration_later (Shape.bind l a) = omega (arith, bound_later a)
  declaration_later (Shape.dseq a b) = omega (arith, declaration_later a, declaration_later b)

  bound_later : {d i j : ℕ} {b : Bound} → ShapedBound d i j b → suc i ≤ j
  bound_later (Shape.plain_of a) = expression_later a
  bound_later (Shape.ref a) = omega (arith, expression_later a)
  bound_later (Shape.abs l m b) = omega (arith, formals_later m, block_later b)

-- ---- Declarations: what they bind is not run.

bound_bound : {d i j : ℕ} {b : Bound} → ShapedBound d i j b → (f : Figure) → (bound_need b).most f + 4 * i ≤ 4 * j
unfolding bound_need in_turn
bound_bound (Shape.plain_of a) = expression_bound a
bound_bound (Shape.ref a) =
    by_figure _ (omega (arith, expression_bound a control), omega (arith, expression_bound a values), omega (arith, expression_bound a cells), omega (arith, expression_bound a bindings))
bound_bound (Shape.abs l m b) = by_figure _ (omega (arith, formals_later m, block_later b))

cells_few : {d i j : ℕ} {b : Bound} → ShapedBound d i j b → cells_of_bound b ≤ 1
cells_few (Shape.plain_of a) = omega arith
cells_few (Shape.ref a) = omega arith
cells_few (Shape.abs l m b) = omega arith

left_few : {d i j : ℕ} {c : Declaration} → ShapedDeclaration d i j c → (cells_left c + i ≤ j) × (bindings_left c + i ≤ j)
unfolding cells_left bindings_left
left_few (Shape.bind l a) = (omega (arith, cells_few a, bound_later a), omega (arith, bound_later a))
left_few (Shape.dseq a b) = let f = left_few a in let g = left_few b in (omega (arith, f.0, g.0), omega (arith, f.1, g.1))

declaration_bound : (N : Needs) {d i j : ℕ} {c : Declaration} → ShapedDeclaration d i j c → (f : Figure) → (declaration_need N c).most f + 4 * i ≤ 4 * j
unfolding declaration_need in_turn
declaration_bound N (Shape.bind l a) =
    by_figure _ (
      omega (arith, bound_bound a control, bound_later a),
      omega (arith, bound_bound a values, bound_later a),
      omega (arith, bound_bound a cells, bound_later a, cells_few a),
      omega (arith, bound_bound a bindings, bound_later a),
    )
declaration_bound N (Shape.dseq {d₁ = d₁} a b) =
    let first = declaration_bound N a in
    let second = declaration_bound (names_given N d₁ ++ N) b in
    let few = left_few a in
    let few_later = left_few b in
    by_figure _ (
      omega (arith, first control, second control, declaration_later a, declaration_later b),
      omega (arith, first values, second values, declaration_later a, declaration_later b),
      omega (arith, first cells, second cells, declaration_later a, declaration_later b, few.0, few_later.0),
      omega (arith, first bindings, second bindings, declaration_later a, declaration_later b, few.1, few_later.1),
    )

-- ---- Commands: with a bound on the needs of the names in scope.

-- No name's need is above this.
record Below (m : ℕ) (N : Needs) : Type 0 where
  each : (x : ℕ) (f : Figure) → (need_of x N).most f ≤ m

below_more : {m k : ℕ} {N : Needs} → m ≤ k → Below m N → Below k N
below_more l h = record { each = λ x f. omega (arith, l, h.each x f) }

below_name : {m : ℕ} {N : Needs} (y : ℕ) (n : Need) → ((f : Figure) → n.most f ≤ m) → Below m N → Below m (record { name = y; need = n } ∷ N)
unfolding need_of
below_name {m} {N} y n h g = record { each = λ x f. choose x f (eqb y x) }
  where
    choose : (x : ℕ) (f : Figure) (t : Bool) → (cond t n (need_of x N)).most f ≤ m
    choose x f true = h f
    choose x f false = g.each x f

nothing_small : (m : ℕ) (f : Figure) → nothing.most f ≤ m
nothing_small m = by_figure _ (omega arith)

below_formals : (m : ℕ) (fs : List Formal) (N : Needs) → Below m N → Below m (over_formals fs N)
unfolding over_formals
below_formals m [] N h = h
below_formals m (f ∷ fs) N h = below_formals m fs (record { name = f.name; need = nothing } ∷ N) (below_name f.name nothing (nothing_small m) h)

-- The names that a declaration gives are below a greater bound, with the cells and bindings that it leaves.
record Given (m i j : ℕ) (N : Needs) (c : Declaration) : Type 0 where
  bound_then : ℕ
  below_then : Below bound_then (names_given N c ++ N)
  cells_then : cells_left c + bound_then + 4 * i ≤ m + 4 * j
  bindings_then : bindings_left c + bound_then + 4 * i ≤ m + 4 * j
  greater : m ≤ bound_then

mutual
  unfolding command_need block_need function_need tested_need names_given bound_function cells_left bindings_left in_turn

  command_bound : (m : ℕ) (N : Needs) → Below m N → {d i j : ℕ} {c : Command} → ShapedCommand d i j c → (f : Figure) → (command_need N c).most f + 4 * i ≤ m + 4 * j
  command_bound m N h (Shape.assign l a) =
      let inside = expression_bound a in
      by_figure _ (
        omega (arith, inside control, expression_later a),
        omega (arith, inside values, expression_later a),
        omega (arith, inside cells, expression_later a),
        omega (arith, inside bindings, expression_later a),
      )
  command_bound m N h (Shape.loop a b) =
      let test = expression_bound a in
      let body = command_bound m N h b in
      by_figure _ (
        omega (arith, test control, body control, expression_later a, command_later b),
        omega (arith, test values, body values, expression_later a, command_later b),
        omega (arith, test cells, body cells, expression_later a, command_later b),
        omega (arith, test bindings, body bindings, expression_later a, command_later b),
      )
  command_bound m N h (Shape.cseq a b) =
      let first = command_bound m N h a in
      let second = command_bound m N h b in
      by_figure _ (
        omega (arith, first control, second control, command_later a, command_later b),
        omega (arith, first values, second values, command_later a, command_later b),
        omega (arith, first cells, second cells, command_later a, command_later b),
        omega (arith, first bindings, second bindings, command_later a, command_later b),
      )
  command_bound m N h (Shape.block_of b) = block_bound m N h b
  command_bound m N h (Shape.call {x = x} l g a) =
      let given = actuals_bound a in
      let function = h.each x in
      by_figure _ (
        omega (arith, given control, function control, actuals_later a),
        omega (arith, given values, function values, actuals_later a),
        omega (arith, given cells, function cells, actuals_later a),
        omega (arith, given bindings, function bindings, actuals_later a),
      )
  command_bound m N h (Shape.conditional a b c) =
      let test = expression_bound a in
      let first = command_bound m N h b in
      let second = command_bound m N h c in
      by_figure _ (
        omega (arith, test control, first control, second control, expression_later a, command_later b, command_later c),
        omega (arith, test values, first values, second values, expression_later a, command_later b, command_later c),
        omega (arith, test cells, first cells, second cells, expression_later a, command_later b, command_later c),
        omega (arith, test bindings, first bindings, second bindings, expression_later a, command_later b, command_later c),
      )

  block_bound : (m : ℕ) (N : Needs) → Below m N → {d i j : ℕ} {b : Block} → ShapedBlock d i j b → (f : Figure) → (block_need N b).most f + 4 * i ≤ m + 4 * j
  block_bound m N h (Shape.blk {dec = c} a b) =
      let declared = declaration_bound N a in
      let given = names_bound m N h a in
      let body = command_bound given.bound_then (names_given N c ++ N) given.below_then b in
      let few = left_few a in
      by_figure _ (
        omega (arith, declared control, body control, given.bindings_then, declaration_later a, command_later b),
        omega (arith, declared values, body values, given.bindings_then, declaration_later a, command_later b),
        omega (arith, declared cells, body cells, given.cells_then, few.0, declaration_later a, command_later b),
        omega (arith, declared bindings, body bindings, given.bindings_then, few.1, declaration_later a, command_later b),
      )

  names_bound : (m : ℕ) (N : Needs) → Below m N → {d i j : ℕ} {c : Declaration} → ShapedDeclaration d i j c → Given m i j N c
  names_bound m N h (Shape.bind {i = i} {x = x} l a) = bind_given m N h x i a (omega arith)
  names_bound m N h (Shape.dseq {d₁ = d₁} {d₂ = d₂} a b) =
      let first = names_bound m N h a in
      let second = names_bound first.bound_then (names_given N d₁ ++ N) first.below_then b in
      record {
        bound_then = second.bound_then;
        below_then = subst (Below second.bound_then) (sym (append_assoc (names_given (names_given N d₁ ++ N) d₂) (names_given N d₁) N)) second.below_then;
        cells_then = omega (arith, first.cells_then, second.cells_then);
        bindings_then = omega (arith, first.bindings_then, second.bindings_then);
        greater = omega (arith, first.greater, second.greater);
      }

  bind_given : (m : ℕ) (N : Needs) → Below m N → {d h j p : ℕ} (x i : ℕ) {b : Bound} → ShapedBound d h j b → suc i ≤ h → Given m i j N (Bind p x b)
  bind_given m N h x i (Shape.plain_of a) low =
      record {
        bound_then = m;
        below_then = below_name x nothing (nothing_small m) h;
        cells_then = omega (arith, expression_later a, low);
        bindings_then = omega (arith, expression_later a, low);
        greater = omega arith;
      }
  bind_given m N h x i (Shape.ref a) low =
      record {
        bound_then = m;
        below_then = below_name x nothing (nothing_small m) h;
        cells_then = omega (arith, expression_later a, low);
        bindings_then = omega (arith, expression_later a, low);
        greater = omega arith;
      }
  bind_given m N h {j = j} x i (Shape.abs {j = k} {fs = fs} {b = b} l f c) low =
      let inside = block_bound m (over_formals fs N) (below_formals m fs N h) c in
      record {
        bound_then = m + 4 * (j - k);
        below_then =
            below_name x (block_need (over_formals fs N) b) (by_figure _ (omega (arith, inside control), omega (arith, inside values), omega (arith, inside cells), omega (arith, inside bindings)))
            (below_more (omega arith) h);
        cells_then = omega (arith, formals_later f, block_later c, low);
        bindings_then = omega (arith, formals_later f, block_later c, low);
        greater = omega arith;
      }

registers_below : (r : ℕ) → Below 0 (register_needs r)
unfolding register_needs need_of
registers_below zero = record { each = λ x. nothing_small 0 }
registers_below (suc r) = below_name r nothing (nothing_small 0) (registers_below r)

root_bound : (r : ℕ) {d j : ℕ} {t : Root} → ShapedRoot d 0 j t → (f : Figure) → (root_need (register_needs r) t).most f ≤ 4 * j
unfolding root_need
root_bound r (Shape.root_expression s) = λ f. omega (arith, expression_bound s f)
root_bound r (Shape.root_command s) = λ f. omega (arith, command_bound 0 (register_needs r) (registers_below r) s f)
root_bound r Shape.root_absent = nothing_small 0

pub figures_small : FiguresSmall
unfolding routine_need
figures_small image r t a passes =
    let shape = ((check_exact image r t a).0 passes).shape in
    let inside = root_bound r shape.shape in
    by_figure _ (
      omega (arith, inside control, shape.size),
      omega (arith, inside values, shape.size),
      omega (arith, inside cells, shape.size, shape.registers),
      omega (arith, inside bindings, shape.size, shape.registers),
    )
