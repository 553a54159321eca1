-- Cases A to L (paper, "The program and its cases"), in one table under one theorem.
-- A row has the image's words, the registers, the budget, and what comes out: the answer, the steps, the high marks, the registers.
use Rattle.std.specs.Prelude.{ℕ, ◌≡◌, refl, List, [], ◌∷◌, ℤ, pos, negsuc, replicate}
use Rattle.rules.specs.paper.Refusals.{Withheld, Steps, ZeroDivisor, OutOfRange, NotAssignable}
use Rattle.rules.specs.paper.Refusals.{reason_number}
use Rattle.rules.specs.paper.Limits.{most_budget, work_words}
use Rattle.rules.specs.paper.Kinds.{kind_of, operand_fits}
use Rattle.rules.specs.paper.Reader.{node, read_expression, read_many, read_formal, read_command, read_root, nodes_of, read}
use Rattle.rules.specs.paper.Checker.{meaning_of, expression_code, expression_codes, has_name, shares_name, distinct, with_formals, command_ok, register_scope, root_is}
use Rattle.rules.specs.paper.Integers.{compute, compare, equal_integers, equal_truths, combine}
use Rattle.rules.specs.paper.States.{lookup, join, find, store_at, in_set, remove}
use Rattle.rules.specs.paper.Rules.{put_actuals, match_formals}
use Rattle.rules.specs.paper.Fire.{fire_expression, fire_command, fire_operator, fire_mark, fire_item, fire}
use Rattle.rules.specs.paper.Run.{priority, holds, first_holding, judge, run}
use Rattle.rules.specs.paper.Needs.{control, values, cells, bindings, Sizes, sizes}
use Rattle.rules.specs.paper.HighMarks.{high_marks}
use Rattle.rules.specs.paper.Engine.{Answer, outcome, refused, number, nothing, check_image, register_environment, register_store, start, registers_from, engine}

pub record Case : Type 0 where
  pub image : List ℕ
  pub registers : List ℤ
  pub budget : ℕ
  pub answer : Answer
  pub steps : ℕ
  pub most : Sizes
  pub left : List ℤ  -- the registers after

abbrev pub case : List ℕ → List ℤ → ℕ → Answer → ℕ → Sizes → List ℤ → Case
case im zs b a k m ys = record { image = im; registers = zs; budget = b; answer = a; steps = k; most = m; left = ys }

-- The most of each size, in the order in which the program prints them.
abbrev pub most : (cells bindings values control : ℕ) → Sizes
most c b v k = sizes k v c b

-- 5 × (3 + 2)
abbrev product : List ℕ
product = 5 ∷ 0 ∷ 6 ∷ 1 ∷ 4 ∷ 1 ∷ 1 ∷ 0 ∷ 5 ∷ 0 ∷ 3 ∷ 2 ∷ []

-- Loop(Not(Eq(Id y, 0)), CSeq(Assign(z, Mul(Id z, Id y)), Assign(y, Sub(Id y, 1)))), with z and y names 0 and 1
abbrev factorial : List ℕ
factorial =
    14 ∷ 2 ∷
    21 ∷ 15 ∷ 8 ∷ 3 ∷ 1 ∷ 22 ∷ 20 ∷ 6 ∷ 3 ∷ 3 ∷ 20 ∷ 5 ∷ 3 ∷ 1 ∷
    0 ∷ 0 ∷ 0 ∷ 1 ∷ 0 ∷ 0 ∷ 0 ∷ 0 ∷ 0 ∷ 1 ∷ 1 ∷ 0 ∷ 1 ∷ 1 ∷ []

abbrev pub cases : List Case
cases =
    -- A: 5 × (3 + 2)
    case product [] most_budget (outcome (number (pos 25))) 7 (most 0 0 3 4) [] ∷
    -- B: the same, budget 6; and 7 is enough
    case product [] 6 (refused (Withheld Steps) 0) 6 (most 0 0 3 4) [] ∷
    case product [] 7 (outcome (number (pos 25))) 7 (most 0 0 3 4) [] ∷
    -- C: budget 0
    case product [] 0 (refused (Withheld Steps) 0) 0 (most 0 0 0 1) [] ∷
    -- D: Sub(3, 5)
    case (3 ∷ 0 ∷ 5 ∷ 1 ∷ 1 ∷ 0 ∷ 3 ∷ 5 ∷ []) [] most_budget (outcome (number (negsuc 1))) 4 (most 0 0 2 3) [] ∷
    -- E: Div(1, 0)
    case (3 ∷ 0 ∷ 7 ∷ 1 ∷ 1 ∷ 0 ∷ 1 ∷ 0 ∷ []) [] most_budget (refused (Withheld ZeroDivisor) 0) 3 (most 0 0 2 3) [] ∷
    -- F: register 0 = −7, Div(Id 0, 2): −4
    case (3 ∷ 1 ∷ 7 ∷ 3 ∷ 1 ∷ 0 ∷ 0 ∷ 2 ∷ []) (negsuc 6 ∷ []) most_budget (outcome (number (negsuc 3))) 4 (most 1 1 2 3) (negsuc 6 ∷ []) ∷
    -- G: the factorial, with y 3, 20 and 21
    case factorial (pos 1 ∷ pos 3 ∷ []) most_budget (outcome nothing) 71 (most 2 2 3 6) (pos 6 ∷ pos 0 ∷ []) ∷
    case factorial (pos 1 ∷ pos 20 ∷ []) most_budget (outcome nothing) 428 (most 2 2 3 6) (pos 2432902008176640000 ∷ pos 0 ∷ []) ∷
    case factorial (pos 1 ∷ pos 21 ∷ []) most_budget (refused (Withheld OutOfRange) 0) 391 (most 2 2 3 6) (pos 8515157028618240000 ∷ pos 3 ∷ []) ∷
    -- H: register 0 = 5, Blk(Bind(1, Ref(Id 0)), Assign(0, Sum(Id 1, Id 1)))
    case (8 ∷ 1 ∷ 23 ∷ 30 ∷ 40 ∷ 3 ∷ 20 ∷ 4 ∷ 3 ∷ 3 ∷ 0 ∷ 1 ∷ 0 ∷ 0 ∷ 0 ∷ 0 ∷ 1 ∷ 1 ∷ []) (pos 5 ∷ []) most_budget
    (outcome nothing) 14 (most 2 2 5 6) (pos 10 ∷ []) ∷
    -- I: Blk(Bind(1, Abs(Formal 2 of code 0, Blk(Bind(3, Ref(Id 2)), Assign(0, Id 3)))), Call(1, 7)), one register
    case (12 ∷ 1 ∷ 23 ∷ 30 ∷ 41 ∷ 42 ∷ 23 ∷ 30 ∷ 40 ∷ 3 ∷ 20 ∷ 3 ∷ 24 ∷ 1 ∷ 0 ∷ 1 ∷ 1 ∷ 2 ∷ 0 ∷ 3 ∷ 0 ∷ 2 ∷ 0 ∷ 3 ∷ 65 ∷ 7 ∷ []) (pos 0 ∷ []) most_budget
    (outcome nothing) 21 (most 2 4 8 8) (pos 7 ∷ []) ∷
    -- J: register 0 = 9, Blk(Bind(1, Ref(DeRef 0)), Assign(0, Sum(ValRef 1, 1)))
    case (8 ∷ 1 ∷ 23 ∷ 30 ∷ 40 ∷ 16 ∷ 20 ∷ 4 ∷ 17 ∷ 1 ∷ 0 ∷ 1 ∷ 0 ∷ 0 ∷ 0 ∷ 0 ∷ 1 ∷ 1 ∷ []) (pos 9 ∷ []) most_budget
    (outcome nothing) 14 (most 2 2 5 6) (pos 10 ∷ []) ∷
    -- K: the same with Assign(1, DeRef 0) as command
    case (6 ∷ 1 ∷ 23 ∷ 30 ∷ 40 ∷ 16 ∷ 20 ∷ 16 ∷ 0 ∷ 1 ∷ 0 ∷ 0 ∷ 1 ∷ 0 ∷ []) (pos 9 ∷ []) most_budget
    (refused NotAssignable 4) 0 (most 0 0 0 0) (pos 9 ∷ []) ∷
    -- L: Blk(DSeq(Bind(1, Ref(Num 1)), Bind(2, Ref(Id 1))), Assign(1, 0)): the second declaration sees the first
    case (10 ∷ 0 ∷ 23 ∷ 31 ∷ 30 ∷ 40 ∷ 1 ∷ 30 ∷ 40 ∷ 3 ∷ 20 ∷ 1 ∷ 0 ∷ 0 ∷ 1 ∷ 0 ∷ 1 ∷ 2 ∷ 0 ∷ 1 ∷ 1 ∷ 0 ∷ []) [] most_budget
    (outcome nothing) 19 (most 2 2 5 9) [] ∷
    []

abbrev pub SameSizes : Sizes → Sizes → Type 0
SameSizes m n = (m cells ≡ n cells) × (m bindings ≡ n bindings) × (m values ≡ n values) × (m control ≡ n control)

-- The engine, lent 8,192 work words, gives what the row says.
unfoldable pub Holds : Case → Type 0
unfolding engine check_image read read_root read_command read_expression read_many read_formal node nodes_of kind_of operand_fits root_is register_scope command_ok expression_codes expression_code meaning_of has_name shares_name distinct with_formals start register_environment register_store run high_marks judge holds first_holding priority reason_number fire fire_item fire_expression fire_command fire_mark fire_operator compute compare equal_integers equal_truths combine lookup join find store_at in_set remove put_actuals match_formals registers_from
Holds c =
    let called = engine c.image c.registers c.budget (replicate work_words 0) in
    (called.reply.answer ≡ c.answer) × (called.reply.steps ≡ c.steps) × (called.registers ≡ c.left) × SameSizes called.reply.most c.most

unfoldable pub AllHold : List Case → Type 0
unfolding Holds
AllHold [] = Unit {0}
AllHold (c ∷ cs) = Holds c × AllHold cs

-- Cases A to L: the rules give, for each row of the table, the paper's answer, steps and registers, and the high marks.
pub cases_hold : AllHold cases
unfolding AllHold
cases_hold = (
  (refl, refl, refl, (refl, refl, refl, refl)),
  (
    (refl, refl, refl, (refl, refl, refl, refl)),
    (
      (refl, refl, refl, (refl, refl, refl, refl)),
      (
        (refl, refl, refl, (refl, refl, refl, refl)),
        (
          (refl, refl, refl, (refl, refl, refl, refl)),
          (
            (refl, refl, refl, (refl, refl, refl, refl)),
            (
              (refl, refl, refl, (refl, refl, refl, refl)),
              (
                (refl, refl, refl, (refl, refl, refl, refl)),
                (
                  (refl, refl, refl, (refl, refl, refl, refl)),
                  (
                    (refl, refl, refl, (refl, refl, refl, refl)),
                    (
                      (refl, refl, refl, (refl, refl, refl, refl)),
                      (
                        (refl, refl, refl, (refl, refl, refl, refl)),
                        (
                          (refl, refl, refl, (refl, refl, refl, refl)),
                          (
                            (refl, refl, refl, (refl, refl, refl, refl)),
                            (
                              (refl, refl, refl, (refl, refl, refl, refl)),
                              tt,
                            ),
                          ),
                        ),
                      ),
                    ),
                  ),
                ),
              ),
            ),
          ),
        ),
      ),
    ),
  ),
)
