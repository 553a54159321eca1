-- An error of the system is an interruption by its number as by its kind.
use Rattle.std.specs.Prelude.{ℕ, ◌≡◌, Bool, true, false, cond, List, [], ◌∷◌, ℤ, pos, negsuc, int_lt, ◌==◌}
use Rattle.std.proofs.Common.{refl, ap, ◌∙◌, arith}
use Rattle.std.proofs.lemmas.Bool.{cond_both, false_from_ne_true, cond-false, ne_eqb, true≢false, false≢true}
use borrow.Author.Tests.{eqb-true, eqb-false, ltb-true}
use Rattle.std.specs.IoError.{error_kind, os_error_kind, os_error_kinds, kind_in}
use Rattle.std.specs.declared.io.Error.{Error}
use Rattle.std.specs.declared.io.ErrorKind.{ErrorKind}
use Rattle.std.specs.declared.io.ErrorKind.TheVariants.{Uncategorized}
use Rattle.streams.specs.Transfers.{is_interruption_kind, is_interruption}

-- EINTR: by this number the system says that a signal interrupted the call before it moved a byte.
abbrev pub interrupted : ℕ
interrupted = 4

-- Whether an error's number is that of an interruption.
abbrev pub interrupts : (error : ℤ) → Bool
interrupts (pos n) = n == interrupted
interrupts (negsuc n) = false

-- Of these numbers, each with its kind, no other one has the kind of an interruption.
abbrev is_told_apart : List (ℕ × ErrorKind) → Bool
is_told_apart [] = true
is_told_apart (row ∷ rows) = cond (row.0 == interrupted) (is_told_apart rows) (cond (is_interruption_kind row.1) false (is_told_apart rows))

row_told : (a b rest : Bool) → cond a rest (cond b false rest) ≡ true → (rest ≡ true) × (a ≡ false → b ≡ false)
row_told true b rest h = (h, λ e. absurd (true≢false e))
row_told false true rest h = absurd (false≢true h)
row_told false false rest h = (h, λ e. refl)

other_number : (rows : List (ℕ × ErrorKind)) (n : ℕ) → is_told_apart rows ≡ true → (n ≡ interrupted → ⊥) → is_interruption_kind (kind_in rows n) ≡ false
other_number [] n h d = refl
other_number (row ∷ rows) n h d =
    let told : (is_told_apart rows ≡ true) × ((row.0 == interrupted) ≡ false → is_interruption_kind row.1 ≡ false) = row_told (row.0 == interrupted) (is_interruption_kind row.1) (is_told_apart rows) h in
    cond_both (n == row.0) row.1 (kind_in rows n) (λ (k : ErrorKind). is_interruption_kind k ≡ false)
    (λ e. told.1 (ne_eqb row.0 interrupted (λ f. d (eqb-true n row.0 e ∙ f))))
    (λ e. other_number rows n told.0 d)

by_test : (n : ℕ) (b : Bool) → (n == interrupted) ≡ b → is_interruption_kind (kind_in os_error_kinds n) ≡ b
by_test n true e = ap (λ m. is_interruption_kind (kind_in os_error_kinds m)) (eqb-true n interrupted e)
by_test n false e = other_number os_error_kinds n refl (eqb-false n interrupted e)

not_negative : (n : ℕ) → int_lt (pos n) (pos 0) ≡ false
not_negative n = false_from_ne_true (int_lt (pos n) (pos 0)) (λ e. omega (arith, ltb-true n 0 e))

by_number : (code : ℤ) → is_interruption_kind (os_error_kind code) ≡ interrupts code
unfolding os_error_kind
by_number (pos n) =
    ap is_interruption_kind (cond-false (int_lt (pos n) (pos 0)) Uncategorized (kind_in os_error_kinds n) (not_negative n)) ∙ by_test n (n == interrupted) refl
by_number (negsuc n) = refl

-- An error that has the kind which std gives a failed call's number is an interruption where that number is one's.
pub interruption_by_number : (error : Error) (code : ℤ) → error_kind error ≡ os_error_kind code → is_interruption error ≡ interrupts code
interruption_by_number error code e = ap is_interruption_kind e ∙ by_number code
