-- A slot with no routine passes as a command, and its run makes no step and leaves the registers as they were.
use Rattle.std.specs.Prelude.{ℕ, zero, suc, ◌+◌, ◌*◌, ◌≤◌, ◌<◌, ◌≡◌, refl, Bool, true, false, cond, List, [], ◌∷◌, eqb, ℤ, pos, length, get_or}
use Rattle.std.proofs.Common.{sym, ap, ◌∙◌, arith, add-zero, add-suc, suc-add, zero-add, le-ltb, le-leb, eq-eqb, ne_eqb, eqb-true}
use Rattle.std.proofs.Math.Option.{some}
use Rattle.std.proofs.lemmas.Bool.{lt-leb, eqb-false}
use Rattle.rules.specs.paper.Tree.{absent}
use Rattle.rules.specs.paper.Limits.{most_registers, most_budget, work_words}
use Rattle.rules.specs.paper.Reader.{read}
use Rattle.rules.specs.paper.Checker.{Scope, Passed, a_command}
use Rattle.rules.specs.paper.States.{integer, Store, find}
use Rattle.rules.specs.paper.Run.{ended, run}
use Rattle.rules.specs.paper.Needs.{sizes}
use Rattle.rules.specs.paper.HighMarks.{high_marks}
use Rattle.rules.specs.paper.Engine.{passed, check_image, root_command, checker, start, register_store, as_register, registers_from, outcome, nothing, cleared, engine}
use Rattle.rules.specs.claims.Listing.{root_nodes, kind_words, operand_words, image_words}
use Rattle.rules.specs.claims.Shape as Shape
use Rattle.rules.specs.claims.Typing.{RootOk}
use Rattle.rules.specs.claims.Typing as Typing
use Rattle.rules.specs.claims.Image.{Meets}
use Rattle.rules.specs.claims.NoRoutine.{NoRoutineClaim}
use Rattle.rules.proofs.checking.ImageExact.{check_exact}
use Rattle.rules.proofs.running.RunEnds.{store_count}

-- ---- The check.

only_a_command : {Γ : Scope} {c : Passed} → RootOk Γ absent c → c ≡ a_command
only_a_command Typing.root_absent = refl

absent_words : (r : ℕ) → image_words r absent ≡ 0 ∷ r ∷ []
unfolding image_words root_nodes kind_words operand_words
absent_words r = refl

absent_meets : (r : ℕ) → r ≤ most_registers → Meets (0 ∷ r ∷ []) r absent a_command
unfolding root_nodes
absent_meets r few =
    record {
      shape = record { words = sym (absent_words r); size = omega arith; registers = few; shape = Shape.root_absent };
      types = Typing.root_absent;
    }

absent_passes : (r : ℕ) → r ≤ most_registers → check_image (0 ∷ r ∷ []) ≡ passed r absent a_command
absent_passes r few = (check_exact (0 ∷ r ∷ []) r absent a_command).1 (absent_meets r few)

checks_as_command : (r : ℕ) → r ≤ most_registers → (work : List ℕ) → work_words ≤ length work → checker (0 ∷ r ∷ []) work ≡ record { answer = root_command; work = cleared work }
unfolding checker
checks_as_command r few work room = rw (le-ltb (length work) work_words room, absent_passes r few)

-- ---- The run.

find_register : (r : ℕ) (zs : List ℤ) (i : ℕ) → i < r → find i (register_store r zs) ≡ some (integer (get_or zs i (pos 0)))
unfolding find register_store
find_register zero zs i h = absurd (omega (arith, h))
find_register (suc r) zs i h = by (eqb r i) refl (find_register r zs i)
  where
    by : (t : Bool) → eqb r i ≡ t → (i < r → find i (register_store r zs) ≡ some (integer (get_or zs i (pos 0)))) →
        cond t (some (integer (get_or zs r (pos 0)))) (find i (register_store r zs)) ≡ some (integer (get_or zs i (pos 0)))
    by true q older = ap (λ k. some (integer (get_or zs k (pos 0)))) (eqb-true r i q)
    by false q older = older (omega (arith, h, eqb-false r i q))

-- Cells that hold the values in their order are the registers.
registers_held : (i : ℕ) (zs : List ℤ) (S : Store) → ((j : ℕ) → j < length zs → find (i + j) S ≡ some (integer (get_or zs j (pos 0)))) → registers_from i (length zs) S ≡ zs
unfolding registers_from
registers_held i [] S held = refl
registers_held i (z ∷ zs) S held =
    ap {B = List ℤ} (λ v. as_register v ∷ registers_from (suc i) (length zs) S) (ap (λ k. find k S) (sym (add-zero i)) ∙ held 0 (omega arith))
    ∙ ap {B = List ℤ} (λ rest. z ∷ rest) (registers_held (suc i) zs S (λ j h. ap (λ k. find k S) (suc-add i j ∙ sym (add-suc i j)) ∙ held (suc j) (omega (arith, h))))

registers_start : (r : ℕ) (zs : List ℤ) → length zs ≡ r → registers_from 0 r (register_store r zs) ≡ zs
registers_start r zs q =
    ap (λ k. registers_from 0 k (register_store r zs)) (sym q)
    ∙ registers_held 0 zs (register_store r zs) (λ j h. ap (λ k. find k (register_store r zs)) (zero-add j) ∙ find_register r zs j (omega (arith, h, q)))

ends_at_once : (r budget : ℕ) (zs : List ℤ) → run budget 0 (start r absent zs) ≡ ended 0 (start r absent zs)
unfolding run start
ends_at_once r zero zs = refl
ends_at_once r (suc budget) zs = refl

-- The only state is the first.
only_registers : (r budget : ℕ) (zs : List ℤ) → high_marks budget (start r absent zs) ≡ sizes 0 0 r r
unfolding high_marks start
only_registers r zero zs = ap (λ n. sizes 0 0 n r) (store_count r zs)
only_registers r (suc budget) zs = ap (λ n. sizes 0 0 n r) (store_count r zs)

-- ---- All of it.

runs_to_none : (r : ℕ) → r ≤ most_registers → (registers : List ℤ) → length registers ≡ r → (budget : ℕ) → budget ≤ most_budget → (work : List ℕ) → work_words ≤ length work →
    engine (0 ∷ r ∷ []) registers budget work ≡ record { reply = record { answer = outcome nothing; steps = 0; most = sizes 0 0 r r }; registers = registers; work = cleared work }
unfolding engine start
runs_to_none r few registers count budget permitted work room =
    rw (le-ltb (length work) work_words room, le-leb budget most_budget permitted, absent_passes r few, eq-eqb (length registers) r count, ends_at_once r budget registers, only_registers r budget registers, registers_start r registers count)

pub no_routine : NoRoutineClaim
unfolding check_image read
no_routine =
    record {
      passes = λ ws r c. (
        λ q. let m = (check_exact ws r absent c).0 q in (m.shape.words ∙ absent_words r, m.shape.registers, only_a_command m.types),
        λ h. ap check_image h.0 ∙ absent_passes r h.1 ∙ ap (passed r absent) (sym h.2),
      );
      longer = λ r w ws few. rw (le-leb r most_registers few, ne_eqb (length (w ∷ ws)) (2 * 0) (λ q. omega (arith, q)));
      many_registers = λ r ws many. rw (lt-leb r most_registers many);
      checks = checks_as_command;
      runs = runs_to_none;
    }
