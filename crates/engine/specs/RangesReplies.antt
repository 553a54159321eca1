-- The answer of the ranges to a C host: the paper's number and the place, and what is left of both lists and of the work words.
use Rattle.std.specs.Prelude.{ℕ, ◌≡◌, List, Result, Ok, Err}
use Rattle.rules.specs.paper.Refusals.{refusal_number}
use Rattle.rules.specs.declared.refusals.Refused.{Refused}
use Rattle.rules.specs.paper.Ranges.{RangesAnswer, ends_given, no_ends, RangesCalled}
use Rattle.integers.specs.Words.{words_of}
use Rattle.engine.specs.declared.limits.RangesReply.{RangesReply}

-- 0 where the ends are given.
abbrev pub ranges_refusal : RangesAnswer → ℕ
ranges_refusal ends_given = 0
ranges_refusal (no_ends x p) = refusal_number x

abbrev pub ranges_place : RangesAnswer → ℕ
ranges_place ends_given = 0
ranges_place (no_ends x p) = p

-- The fields, from what the code answers.
abbrev pub ranges_fields : Result (Unit {0}) Refused → RangesReply
ranges_fields (Ok u) = record { refusal = 0; place = 0 }
ranges_fields (Err r) = record { refusal = refusal_number r.refusal; place = r.place }

pub record RangesReplied (c : RangesCalled) (r : RangesReply) (lowest highest work : List ℕ) : Type 0 where
  pub refusal_is : r.refusal ≡ ranges_refusal c.answer
  pub place_is : r.place ≡ ranges_place c.answer
  pub lowest_are : lowest ≡ words_of c.lowest
  pub highest_are : highest ≡ words_of c.highest
  pub work_is : work ≡ c.work
