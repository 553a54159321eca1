-- An answer that shows registers shows as many as the input's second word says. So a reader of the answer knows from the input how many
-- lines there must be (`Whole`).
use Rattle.std.specs.Prelude.{ℕ, zero, suc, ◌+◌, ◌*◌, ◌≡◌, refl, Bool, true, false, cond, List, [], T, eqb, leb, ltb, ℤ, length, take, drop, replicate}
use Rattle.std.proofs.Common.{sym, ap, ◌∙◌, subst, eqb-true}
use Rattle.rules.specs.paper.Refusals.{refusal_number}
use Rattle.rules.specs.declared.refusals.Refusal.TheVariants as Refusals
use Rattle.rules.specs.paper.Limits.{most_budget, work_words}
use Rattle.rules.specs.paper.Reader.{size_fits}
use Rattle.rules.specs.paper.Run.{Ending, ended, stopped, lost, run}
use Rattle.rules.specs.paper.States.{Store, store_of}
use Rattle.rules.specs.paper.Needs.{Sizes}
use Rattle.rules.specs.paper.HighMarks.{high_marks}
use Rattle.rules.specs.paper.Engine.{Called, Checked, turned_back, passed, check_image, cleared, refusing, finish, start, registers_from, run_checked, engine}
use Rattle.integers.specs.Words.{integers_of}
use Rattle.integers.specs.WordLaws.{integers_length}
use Rattle.little_endian.specs.Numbers.{little_endian, numbers}
use Rattle.little_endian.specs.NumberLaws.{numbers_length}
use Rattle.answer.specs.Program.{shows_registers, input_bytes, run_input, call_input}

-- Where registers are shown, they are this many.
pub record ShowsAll (registers : ℕ) (c : Called) : Type 0 where
  pub as_many : shows_registers c.reply.answer ≡ true → length c.registers ≡ registers

registers_length : (i k : ℕ) (S : Store) → length (registers_from i k S) ≡ k
unfolding registers_from
registers_length i zero S = refl
registers_length i (suc k) S = ap suc (registers_length (suc i) k S)

finish_shows : (r : ℕ) (ws : List ℕ) (most : Sizes) (e : Ending) → ShowsAll r (finish r ws most e)
finish_shows r ws most (ended k σ) = record { as_many = λ t. registers_length 0 r (store_of σ) }
finish_shows r ws most (stopped x k σ) = record { as_many = λ t. registers_length 0 r (store_of σ) }
finish_shows r ws most (lost k σ) = record { as_many = λ t. registers_length 0 r (store_of σ) }

by_test : (b : Bool) (r : ℕ) (x y : Called) → (b ≡ true → ShowsAll r x) → ShowsAll r y → ShowsAll r (cond b x y)
by_test true r x y p q = p refl
by_test false r x y p q = q

run_shows : (c : Checked) (zs : List ℤ) (b : ℕ) (ws : List ℕ) → ShowsAll (length zs) (run_checked c zs b ws)
run_shows (turned_back x p) zs b ws = record { as_many = λ t. refl }
run_shows (passed r t c) zs b ws =
    by_test (eqb (length zs) r) (length zs) (finish r ws (high_marks b (start r t zs)) (run b 0 (start r t zs))) (refusing Refusals.Registers 0 zs ws)
    (λ e. subst (λ (n : ℕ). ShowsAll n (finish r ws (high_marks b (start r t zs)) (run b 0 (start r t zs)))) (sym (eqb-true (length zs) r e)) (finish_shows r ws (high_marks b (start r t zs)) (run b 0 (start r t zs))))
    (record { as_many = λ t. refl })

engine_shows : (image : List ℕ) (zs : List ℤ) (b : ℕ) (ws : List ℕ) → ShowsAll (length zs) (engine image zs b ws)
unfolding engine
engine_shows image zs b ws =
    by_test (ltb (length ws) work_words) (length zs) _ _ (λ e. record { as_many = λ t. refl })
    (by_test (leb b most_budget) (length zs) _ _ (λ e. run_shows (check_image image) zs b (cleared ws)) (record { as_many = λ t. refl }))

input_shows : (n r : ℕ) (input : List ℕ) → ShowsAll r (run_input n r input)
unfolding run_input
input_shows n r input =
    subst (λ (k : ℕ). ShowsAll k (run_input n r input)) (integers_length (numbers 8 r (drop (8 + 8 * n) input)) ∙ numbers_length 8 r (drop (8 + 8 * n) input))
    (engine_shows (numbers 4 (2 + 2 * n) input) (integers_of (numbers 8 r (drop (8 + 8 * n) input))) most_budget (replicate work_words 0))

-- A refusal of the image shows none.
length_shows : (r : ℕ) → ShowsAll r (refusing Refusals.Length 0 [] [])
unfolding refusal_number
length_shows r = record { as_many = λ t. absurd (subst T (sym t) tt) }

size_shows : (r : ℕ) → ShowsAll r (refusing Refusals.Size 0 [] [])
unfolding refusal_number
size_shows r = record { as_many = λ t. absurd (subst T (sym t) tt) }

pub registers_shown : (input : List ℕ) → ShowsAll (little_endian (take 4 (drop 4 input))) (call_input input)
unfolding call_input
registers_shown input =
    by_test (ltb (length input) 8) r _ _ (λ e. length_shows r)
    (by_test (size_fits n r) r _ _ (λ e. by_test (eqb (length input) (input_bytes n r)) r _ _ (λ d. input_shows n r input) (length_shows r)) (size_shows r))
  where
    n : ℕ
    n = little_endian (take 4 input)

    r : ℕ
    r = little_endian (take 4 (drop 4 input))
