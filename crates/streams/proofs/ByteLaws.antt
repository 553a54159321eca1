-- The bytes that all calls so far have moved, and those of one more.
use Rattle.std.proofs.Common.{◌≡◌, ℕ, ◌+◌, ◌-◌, ◌≤◌, List, ◌++◌, length, take, drop, Option, arith, sym, ap, ◌∙◌, subst}
use lib.Seq.{take-add}
use Rattle.std.specs.Io.KnownBytes.{Consumes, Appends}
use Rattle.std.proofs.KnownBytes.{Consumes-trans, Appends-trans}

-- The bytes before the last ones that are left, and then those that a call moved.
joined : (all left left' : ℕ) (xs : List ℕ) → left' ≤ left → left ≤ all → take (all - left) xs ++ take (left - left') (drop (all - left) xs) ≡ take (all - left') xs
joined all left left' xs p q =
    let same : (all - left) + (left - left') ≡ all - left' = omega arith in
    sym (take-add (all - left) (left - left') xs) ∙ ap (λ n. take n xs) same

-- What was read before a call, and what the call gave. The call left the bytes before its own as they were.
pub consumed_on : (left left' : ℕ) (a b c : Option (List ℕ)) (xs ys : List ℕ) → left' ≤ left → left ≤ length xs → length ys ≡ length xs
    → take (length xs - left) ys ≡ take (length xs - left) xs
    → Consumes a b (take (length xs - left) xs) → Consumes b c (take (left - left') (drop (length ys - left) ys)) → Consumes a c (take (length ys - left') ys)
consumed_on left left' a b c xs ys p q same front before by =
    let kept : take (length ys - left) ys ≡ take (length xs - left) xs = ap (λ n. take (n - left) ys) same ∙ front in
    let within : left ≤ length ys = omega arith in
    subst (Consumes a c) (joined (length ys) left left' ys p within)
    (Consumes-trans a b c _ _ (subst (Consumes a b) (sym kept) before) by)

-- What was written before a call, and what the call took.
pub appended_on : (left left' : ℕ) (a b c : Option (List ℕ)) (xs : List ℕ) → left' ≤ left → left ≤ length xs
    → Appends a b (take (length xs - left) xs) → Appends b c (take (left - left') (drop (length xs - left) xs)) → Appends a c (take (length xs - left') xs)
appended_on left left' a b c xs p q before by = subst (Appends a c) (joined (length xs) left left' xs p q) (Appends-trans a b c _ _ before by)
