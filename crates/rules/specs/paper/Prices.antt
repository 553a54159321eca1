-- The needs before loading, by examples: cases of the paper, and a slot with no routine.
use Rattle.std.specs.Prelude.{ℕ, ◌≡◌, refl, List, [], ◌∷◌, replicate}
use Rattle.rules.specs.paper.Refusals.{NotAssignable}
use Rattle.rules.specs.paper.Limits.{work_words}
use Rattle.rules.specs.paper.Kinds.{kind_of, operand_fits}
use Rattle.rules.specs.paper.Reader.{read, read_root, read_command, read_expression, read_many, read_formal, node, nodes_of}
use Rattle.rules.specs.paper.Checker.{root_is, register_scope, command_ok, expression_codes, expression_code, meaning_of, has_name, shares_name, distinct, with_formals}
use Rattle.rules.specs.paper.Needs.{in_turn, expression_need, actuals_need, need_of, over_formals, register_needs, cells_left, bindings_left, bound_need, function_need, tested_need, command_need, root_need, routine_need, some_command, some_in_root, has_loop}
use Rattle.rules.specs.paper.Engine.{check_image, NeedsAnswer, figures, no_figures, given, left_open, figures_of, needs}

pub record Price : Type 0 where
  pub image : List ℕ
  pub answer : NeedsAnswer

abbrev price : List ℕ → NeedsAnswer → Price
price i a = record { image = i; answer = a }

abbrev pub prices : List Price
prices =
    -- A: 5 × (3 + 2)
    price (5 ∷ 0 ∷ 6 ∷ 1 ∷ 4 ∷ 1 ∷ 1 ∷ 0 ∷ 5 ∷ 0 ∷ 3 ∷ 2 ∷ []) (figures 4 3 0 0 (given 7)) ∷
    -- G: Loop(Not(Eq(Id y, 0)), CSeq(Assign(z, Mul(Id z, Id y)), Assign(y, Sub(Id y, 1)))), two registers
    price (
    14 ∷ 2 ∷
    21 ∷ 15 ∷ 8 ∷ 3 ∷ 1 ∷ 22 ∷ 20 ∷ 6 ∷ 3 ∷ 3 ∷ 20 ∷ 5 ∷ 3 ∷ 1 ∷
    0 ∷ 0 ∷ 0 ∷ 1 ∷ 0 ∷ 0 ∷ 0 ∷ 0 ∷ 0 ∷ 1 ∷ 1 ∷ 0 ∷ 1 ∷ 1 ∷ []
    ) (figures 6 3 2 2 left_open) ∷
    -- H: Blk(Bind(1, Ref(Id 0)), Assign(0, Sum(Id 1, Id 1))), one register
    price (8 ∷ 1 ∷ 23 ∷ 30 ∷ 40 ∷ 3 ∷ 20 ∷ 4 ∷ 3 ∷ 3 ∷ 0 ∷ 1 ∷ 0 ∷ 0 ∷ 0 ∷ 0 ∷ 1 ∷ 1 ∷ []) (figures 6 5 2 2 (given 14)) ∷
    -- I: Blk(Bind(1, Abs(Formal 2 of code 0, Blk(Bind(3, Ref(Id 2)), Assign(0, Id 3)))), Call(1, 7)), one register
    price (12 ∷ 1 ∷ 23 ∷ 30 ∷ 41 ∷ 42 ∷ 23 ∷ 30 ∷ 40 ∷ 3 ∷ 20 ∷ 3 ∷ 24 ∷ 1 ∷ 0 ∷ 1 ∷ 1 ∷ 2 ∷ 0 ∷ 3 ∷ 0 ∷ 2 ∷ 0 ∷ 3 ∷ 65 ∷ 7 ∷ []) (figures 8 8 2 4 (given 21)) ∷
    -- K: 13 at 4
    price (6 ∷ 1 ∷ 23 ∷ 30 ∷ 40 ∷ 16 ∷ 20 ∷ 16 ∷ 0 ∷ 1 ∷ 0 ∷ 0 ∷ 1 ∷ 0 ∷ []) (no_figures NotAssignable 4) ∷
    -- no routine, three registers
    price (0 ∷ 3 ∷ []) (figures 0 0 3 3 (given 0)) ∷
    []

-- The needs, lent 8,192 work words, give what the row says.
unfoldable pub Holds : Price → Type 0
unfolding needs check_image read read_root read_command read_expression read_many read_formal node nodes_of kind_of operand_fits root_is register_scope command_ok expression_codes expression_code meaning_of has_name shares_name distinct with_formals figures_of in_turn expression_need actuals_need need_of over_formals register_needs cells_left bindings_left bound_need function_need tested_need command_need root_need routine_need some_command some_in_root has_loop
Holds p = (needs p.image (replicate work_words 0)).answer ≡ p.answer

unfoldable pub AllHold : List Price → Type 0
unfolding Holds
AllHold [] = Unit {0}
AllHold (p ∷ ps) = Holds p × AllHold ps

pub prices_hold : AllHold prices
unfolding AllHold
prices_hold = (refl, (refl, (refl, (refl, (refl, (refl, tt))))))
