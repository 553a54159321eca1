-- The ranges, by examples: ends over all pairs of the operands' ends, both commands of a Cond or one, the place of 44, and what is refused before;
-- and the steps with both commands of a Cond counted.
use Rattle.std.specs.Prelude.{ℕ, ◌≡◌, refl, List, [], ◌∷◌, ℤ, pos, negsuc, replicate}
use Rattle.rules.specs.paper.Tree.{Root, command, Cond, Assign, Binary, Id, Num, order, Lt, arithmetic, Sum}
use Rattle.rules.specs.paper.Refusals.{Registers, CrossedLimits, HasLoop, UnsafeArithmetic}
use Rattle.rules.specs.paper.Limits.{work_words}
use Rattle.rules.specs.paper.Integers.{greatest_integer, compute, compare, equal_integers}
use Rattle.rules.specs.paper.Kinds.{kind_of, operand_fits}
use Rattle.rules.specs.paper.Reader.{read, read_root, read_command, read_expression, read_many, read_formal, node, nodes_of}
use Rattle.rules.specs.paper.Checker.{root_is, register_scope, command_ok, expression_codes, expression_code, meaning_of, has_name, shares_name, distinct, with_formals}
use Rattle.rules.specs.paper.Needs.{in_turn, expression_need, actuals_need, need_of, over_formals, register_needs, cells_left, bindings_left, bound_need, function_need, tested_need, command_need, root_need, routine_need, some_command, some_in_root, has_loop}
use Rattle.rules.specs.paper.Carried.{lower, higher, over_ends, carry_arithmetic, carry_order, carry_operator}
use Rattle.rules.specs.paper.Carrying.{carried_at, carry_to, oldest_cells, wider_cells, carried_meaning, carry_formals, carry_expression, carry_actuals, carry_assign, carry_command, carry_root, register_names, register_cells, carry_routine}
use Rattle.rules.specs.paper.Engine.{check_image}
use Rattle.rules.specs.paper.Ranges.{RangesAnswer, ends_given, no_ends, ends_from, limits_cross, room_refusal, ranges_of, ranges}

-- A call's image and limits, its answer, and what it leaves in both lists.
pub record Span : Type 0 where
  pub image : List ℕ
  pub lowest : List ℤ
  pub highest : List ℤ
  pub answer : RangesAnswer
  pub lowest_after : List ℤ
  pub highest_after : List ℤ

abbrev span : List ℕ → (lowest highest : List ℤ) → (lowest_after highest_after : List ℤ) → Span
span i ls hs ks gs = record { image = i; lowest = ls; highest = hs; answer = ends_given; lowest_after = ks; highest_after = gs }

-- A refusal keeps both lists.
abbrev kept : List ℕ → (lowest highest : List ℤ) → RangesAnswer → Span
kept i ls hs a = record { image = i; lowest = ls; highest = hs; answer = a; lowest_after = ls; highest_after = hs }

-- Cond(Lt(Id 0, 10), Assign(1, 1), Assign(1, Div(5, 0))), two registers
abbrev guarded : List ℕ
guarded = 10 ∷ 2 ∷ 25 ∷ 9 ∷ 3 ∷ 1 ∷ 20 ∷ 1 ∷ 20 ∷ 7 ∷ 1 ∷ 1 ∷ 0 ∷ 0 ∷ 0 ∷ 10 ∷ 1 ∷ 1 ∷ 1 ∷ 0 ∷ 5 ∷ 0 ∷ []

-- Assign(0, Div(100, Id 0)), one register
abbrev divided : List ℕ
divided = 4 ∷ 1 ∷ 20 ∷ 7 ∷ 1 ∷ 3 ∷ 0 ∷ 0 ∷ 100 ∷ 0 ∷ []

-- Blk(Bind(1, Abs(Formal 2 of code 0, Blk(Bind(3, Ref(Id 2)), Assign(0, Sum(Id 3, Id 0))))), Call(1, Mul(Id 0, 2))), one register
abbrev calling : List ℕ
calling =
    16 ∷ 1 ∷
    23 ∷ 30 ∷ 41 ∷ 42 ∷ 23 ∷ 30 ∷ 40 ∷ 3 ∷ 20 ∷ 4 ∷ 3 ∷ 3 ∷ 24 ∷ 6 ∷ 3 ∷ 1 ∷
    0 ∷ 1 ∷ 1 ∷ 2 ∷ 0 ∷ 3 ∷ 0 ∷ 2 ∷ 0 ∷ 0 ∷ 3 ∷ 0 ∷ 65 ∷ 0 ∷ 0 ∷ 2 ∷ []

-- Blk(Bind(1, Abs(Formal 2 of code 0, Formal 3 of code 0, Blk(Bind(4, 1), Assign(0, Id 2)))), Call(1, Div(1, Id 0), Div(2, Id 0))), one register
abbrev two_actuals : List ℕ
two_actuals =
    17 ∷ 1 ∷
    23 ∷ 30 ∷ 41 ∷ 42 ∷ 42 ∷ 23 ∷ 30 ∷ 1 ∷ 20 ∷ 3 ∷ 24 ∷ 7 ∷ 1 ∷ 3 ∷ 7 ∷ 1 ∷ 3 ∷
    0 ∷ 1 ∷ 2 ∷ 2 ∷ 3 ∷ 0 ∷ 4 ∷ 1 ∷ 0 ∷ 2 ∷ 129 ∷ 0 ∷ 1 ∷ 0 ∷ 0 ∷ 2 ∷ 0 ∷ []

-- `negsuc n` is −(n + 1).
abbrev pub spans : List Span
spans =
    -- Assign(0, Sub(Id 0, Id 0)) over 20 to 40: no value is connected with another
    span (4 ∷ 1 ∷ 20 ∷ 5 ∷ 3 ∷ 3 ∷ 0 ∷ 0 ∷ 0 ∷ 0 ∷ []) (pos 20 ∷ []) (pos 40 ∷ []) (negsuc 19 ∷ []) (pos 20 ∷ []) ∷
    -- Assign(0, Mul(Id 0, Id 1)) over −2 to 3 and −5 to 7: of 10, −14, −15 and 21 the least and greatest
    span (4 ∷ 2 ∷ 20 ∷ 6 ∷ 3 ∷ 3 ∷ 0 ∷ 0 ∷ 0 ∷ 1 ∷ []) (negsuc 1 ∷ negsuc 4 ∷ []) (pos 3 ∷ pos 7 ∷ []) (negsuc 14 ∷ negsuc 4 ∷ []) (pos 21 ∷ pos 7 ∷ []) ∷
    -- a divisor from −5 to −2; one from −1 to 1: 44 at the Div
    span divided (negsuc 4 ∷ []) (negsuc 1 ∷ []) (negsuc 49 ∷ []) (negsuc 19 ∷ []) ∷
    kept divided (negsuc 0 ∷ []) (pos 1 ∷ []) (no_ends UnsafeArithmetic 1) ∷
    -- Cond(Lt(Id 0, 10), Assign(1, 1), Assign(1, 5)): the test may be both
    span (8 ∷ 2 ∷ 25 ∷ 9 ∷ 3 ∷ 1 ∷ 20 ∷ 1 ∷ 20 ∷ 1 ∷ 0 ∷ 0 ∷ 0 ∷ 10 ∷ 1 ∷ 1 ∷ 1 ∷ 5 ∷ []) (pos 0 ∷ pos 9 ∷ []) (pos 20 ∷ pos 9 ∷ []) (pos 0 ∷ pos 1 ∷ []) (pos 20 ∷ pos 5 ∷ []) ∷
    -- the test can be only true, and the second command is not carried; it may be both, and it is: 44 at its Div
    span guarded (pos 0 ∷ pos 0 ∷ []) (pos 9 ∷ pos 0 ∷ []) (pos 0 ∷ pos 1 ∷ []) (pos 9 ∷ pos 1 ∷ []) ∷
    kept guarded (pos 0 ∷ pos 0 ∷ []) (pos 10 ∷ pos 0 ∷ []) (no_ends UnsafeArithmetic 7) ∷
    -- Assign(0, Sum(Mul(Id 0, Id 0), Div(1, Id 0))) over 0 to 2^63 − 1: 44 at the first of two such nodes
    kept (8 ∷ 1 ∷ 20 ∷ 4 ∷ 6 ∷ 3 ∷ 3 ∷ 7 ∷ 1 ∷ 3 ∷ 0 ∷ 0 ∷ 0 ∷ 0 ∷ 0 ∷ 0 ∷ 1 ∷ 0 ∷ []) (pos 0 ∷ []) (greatest_integer ∷ []) (no_ends UnsafeArithmetic 2) ∷
    -- Cond(Lt(Id 0, 10), Assign(0, Div(1, Id 0)), Assign(0, Div(2, Id 0))) over 0 to 20: 44 in the first command
    kept (
    12 ∷ 1 ∷
    25 ∷ 9 ∷ 3 ∷ 1 ∷ 20 ∷ 7 ∷ 1 ∷ 3 ∷ 20 ∷ 7 ∷ 1 ∷ 3 ∷
    0 ∷ 0 ∷ 0 ∷ 10 ∷ 0 ∷ 0 ∷ 1 ∷ 0 ∷ 0 ∷ 0 ∷ 2 ∷ 0 ∷ []
    ) (pos 0 ∷ []) (pos 20 ∷ []) (no_ends UnsafeArithmetic 5) ∷
    -- actuals run last to first: 44 at the second
    kept two_actuals (pos 0 ∷ []) (pos 1 ∷ []) (no_ends UnsafeArithmetic 14) ∷
    -- a function called with twice the register: 2 to 20 and 1 to 10; and where three times the register leaves the integers, 44 at the Sum in its Blk
    span calling (pos 1 ∷ []) (pos 10 ∷ []) (pos 3 ∷ []) (pos 30 ∷ []) ∷
    kept calling (pos 1 ∷ []) (pos 4000000000000000000 ∷ []) (no_ends UnsafeArithmetic 9) ∷
    -- Loop(Lt(Id 0, 10), Assign(0, Sum(Id 0, 1))): 43
    kept (8 ∷ 1 ∷ 21 ∷ 9 ∷ 3 ∷ 1 ∷ 20 ∷ 4 ∷ 3 ∷ 1 ∷ 0 ∷ 0 ∷ 0 ∷ 10 ∷ 0 ∷ 0 ∷ 0 ∷ 1 ∷ []) (pos 0 ∷ []) (pos 5 ∷ []) (no_ends HasLoop 0) ∷
    -- a lowest start that exceeds its highest: 42; a list that is too short: 20
    kept divided (pos 5 ∷ []) (pos 4 ∷ []) (no_ends CrossedLimits 0) ∷
    kept divided (pos 5 ∷ []) [] (no_ends Registers 0) ∷
    -- no routine, two registers
    span (0 ∷ 2 ∷ []) (pos 1 ∷ negsuc 2 ∷ []) (pos 4 ∷ pos 0 ∷ []) (pos 1 ∷ negsuc 2 ∷ []) (pos 4 ∷ pos 0 ∷ []) ∷
    []

-- The ranges, lent 8,192 work words, give what the row says.
unfoldable pub Holds : Span → Type 0
unfolding ranges ranges_of limits_cross room_refusal ends_from carry_routine register_names register_cells carry_root carry_command carry_assign carry_actuals carry_expression carry_formals carried_meaning wider_cells oldest_cells carry_to carried_at carry_operator carry_order carry_arithmetic over_ends lower higher compute compare equal_integers check_image read read_root read_command read_expression read_many read_formal node nodes_of kind_of operand_fits root_is register_scope command_ok expression_codes expression_code meaning_of has_name shares_name distinct with_formals in_turn expression_need actuals_need need_of over_formals register_needs cells_left bindings_left bound_need function_need tested_need command_need root_need routine_need some_command some_in_root has_loop
Holds s =
    ((ranges s.image s.lowest s.highest (replicate work_words 0)).answer ≡ s.answer)
    × ((ranges s.image s.lowest s.highest (replicate work_words 0)).lowest ≡ s.lowest_after)
    × ((ranges s.image s.lowest s.highest (replicate work_words 0)).highest ≡ s.highest_after)

unfoldable pub AllHold : List Span → Type 0
unfolding Holds
AllHold [] = Unit {0}
AllHold (s ∷ ss) = Holds s × AllHold ss

pub spans_hold : AllHold spans
unfolding AllHold
spans_hold = ((refl, refl, refl), ((refl, refl, refl), ((refl, refl, refl), ((refl, refl, refl), ((refl, refl, refl), ((refl, refl, refl), ((refl, refl, refl), ((refl, refl, refl), ((refl, refl, refl), ((refl, refl, refl), ((refl, refl, refl), ((refl, refl, refl), ((refl, refl, refl), ((refl, refl, refl), ((refl, refl, refl), ((refl, refl, refl), tt))))))))))))))))

-- ---- 40 counts both commands of a Cond: of Cond(Lt(Id 0, 10), Assign(1, 1), Assign(1, Sum(Id 1, 5))) a test of 4 steps and commands of 3 and 6.

abbrev choosing : Root
choosing =
    command (Cond 0 (Binary 1 (order Lt) (Id 2 0) (Num 3 10)) (Assign 4 1 (Num 5 1)) (Assign 6 1 (Binary 7 (arithmetic Sum) (Id 8 1) (Num 9 5))))

pub both_counted : ((routine_need 2 choosing).steps ≡ 12) × ((routine_need 2 choosing).all_steps ≡ 15)
unfolding in_turn expression_need need_of tested_need command_need root_need routine_need register_needs
both_counted = (refl, refl)
