-- A number that is written in its columns from the right to the left: its last digit first, then the others, then blanks.
use Prim.Native.Nat.{ℕ, suc, ◌+◌, ◌-◌, ◌/◌, ◌%◌, ◌<◌, ◌≤◌}
use mathlib.Core.Path.{◌≡◌, refl, sym, ap, ◌∙◌}
use mathlib.Core.List.{List, [], ◌∷◌, ◌++◌}
use native.Mathlib.Omega.{arith}
use lib.ListN.{length, set, take, drop, length-replicate, length-set, length-drop}
use lib.Seq.{length-take-le}
use borrow.Rule.Slice.PartMut.{put_mid}
use Rattle.rules.proofs.Basics.{append_assoc}
use Rattle.rules.specs.paper.Decimal.{digit, decimal}
use Rattle.reader.specs.Put.{put, put_none, put_length, set_put}
use Rattle.page.specs.Page.{blank, blanks, to_the_right}
use Rattle.page.specs.DecimalLaws.{decimal_short, decimal_long, length_long, decimal_some}
use Rattle.page.proofs.PutLaws.{put_joined, put_over, set_one}

-- ---- The last digit of a number that stands to the right.

one_less : (a b : ℕ) → suc a - (b + 1) ≡ a - b
one_less a b = omega arith

last_digit : (columns n : ℕ) → 10 ≤ n → to_the_right (suc columns) (decimal n) ≡ to_the_right columns (decimal (n / 10)) ++ (digit (n % 10) ∷ [])
last_digit columns n h =
    ap (λ k. blanks (suc columns - k) ++ decimal n) (length_long n h)
    ∙ ap (λ k. blanks k ++ decimal n) (one_less columns (length (decimal (n / 10))))
    ∙ ap (λ l. blanks (columns - length (decimal (n / 10))) ++ l) (decimal_long n h)
    ∙ sym (append_assoc (blanks (columns - length (decimal (n / 10)))) (decimal (n / 10)) (digit (n % 10) ∷ []))

all_but_one : (a : ℕ) → suc a - 1 ≡ a
all_but_one a = omega arith

only_digit : (columns n : ℕ) → n < 10 → to_the_right (suc columns) (decimal n) ≡ blanks columns ++ (digit n ∷ [])
only_digit columns n h = ap (to_the_right (suc columns)) (decimal_short n h) ∙ ap (λ k. blanks k ++ (digit n ∷ [])) (all_but_one columns)

-- ---- The digits.

-- The columns from this one on are written; in those before it the digits of what is left are to come.
pub record DigitsFrom (before : List ℕ) (at columns number left column : ℕ) (now : List ℕ) : Type 0 where
  pub ahead : ℕ
  pub column_is : column ≡ at + ahead
  pub fits : length (decimal left) ≤ ahead
  pub done : List ℕ
  pub counted : ahead + length done ≡ columns
  pub text : to_the_right columns (decimal number) ≡ to_the_right ahead (decimal left) ++ done
  pub written : now ≡ put column done before

pub no_digit : (before : List ℕ) (at columns number : ℕ) → length (decimal number) ≤ columns → DigitsFrom before at columns number number (at + columns) before
no_digit before at columns number fits =
    record {
      ahead = columns;
      column_is = refl;
      fits = fits;
      done = [];
      counted = omega arith;
      text = sym (nothing_behind (to_the_right columns (decimal number)));
      written = sym (put_none (at + columns) before);
    }
  where
    nothing_behind : (l : List ℕ) → l ++ [] ≡ l
    nothing_behind [] = refl
    nothing_behind (x ∷ l) = ap {B = List ℕ} (λ r. x ∷ r) (nothing_behind l)

module _ {before now : List ℕ} {at columns number left column : ℕ} (w : DigitsFrom before at columns number left column now) where
  -- There is room for a digit.
  pub digit_room : at < column
  digit_room = omega (arith, w.column_is, w.fits, decimal_some left)

  pub digit_low : column ≤ at + columns
  digit_low = omega (arith, w.column_is, w.counted)

  pub digits_length : length now ≡ length before
  digits_length = ap length w.written ∙ put_length column w.done before

  one_ahead : (k : ℕ) → w.ahead ≡ suc k → column ≡ suc (at + k)
  one_ahead k q = omega (arith, w.column_is, q)

  -- A byte at the column before.
  pub byte_before : (v : ℕ) → set now (column - 1) v ≡ put (column - 1) (v ∷ w.done) before
  byte_before v = ap (λ l. set l (column - 1) v) (w.written ∙ ap (λ c. put c w.done before) (again column digit_room)) ∙ set_put (column - 1) v w.done before
    where
      again : (c : ℕ) → at < c → c ≡ suc (c - 1)
      again c h = omega (arith, h)

  pub digit_written : 10 ≤ left → DigitsFrom before at columns number (left / 10) (column - 1) (set now (column - 1) (48 + left % 10))
  digit_written h =
      record {
        ahead = w.ahead - 1;
        column_is = omega (arith, w.column_is, w.fits, decimal_some left);
        fits = omega (arith, w.fits, length_long left h);
        done = digit (left % 10) ∷ w.done;
        counted = omega (arith, w.counted, w.fits, decimal_some left);
        text = w.text ∙ ap (λ k. to_the_right k (decimal left) ++ w.done) again ∙ ap (λ l. l ++ w.done) (last_digit (w.ahead - 1) left h) ∙ append_assoc (to_the_right (w.ahead - 1) (decimal (left / 10))) (digit (left % 10) ∷ []) w.done;
        written = byte_before (48 + left % 10);
      }
    where
      again : w.ahead ≡ suc (w.ahead - 1)
      again = omega (arith, w.fits, decimal_some left)

-- ---- The whole of it: a byte behind the columns, the digits, the first digit, the blanks.

pub number_written : (before : List ℕ) (behind : ℕ) {digits_now : List ℕ} (filled : List ℕ) {at columns number left column : ℕ} →
    (w : DigitsFrom (set before (at + columns) behind) at columns number left column digits_now) → left < 10 → at + columns < length before →
    filled ≡ blanks (length (take (column - 1 - at) (drop at (set digits_now (column - 1) (48 + left))))) →
    put_mid at (column - 1 - at) (set digits_now (column - 1) (48 + left)) filled ≡ put at (to_the_right columns (decimal number) ++ (behind ∷ [])) before
number_written before behind {digits_now} filled {at} {columns} {number} {left} {column} w low room blank_all =
    ap (put_mid at count one_digit) (blank_all ∙ ap blanks (length-take-le count (drop at one_digit) (omega (arith, fits, length-drop at one_digit))))
    ∙ put_over at count (blanks count) one_digit (length-replicate count blank) fits
    ∙ ap (put at (blanks count)) (byte_before w (48 + left) ∙ ap (put (column - 1) (digit left ∷ w.done)) (set_one (at + columns) behind before) ∙ put_joined (column - 1) (at + columns) (digit left ∷ w.done) (behind ∷ []) before after_digits)
    ∙ put_joined at (column - 1) (blanks count) ((digit left ∷ w.done) ++ (behind ∷ [])) before after_blanks
    ∙ ap (λ l. put at l before) (sym whole)
  where
    count : ℕ
    count = column - 1 - at

    one_digit : List ℕ
    one_digit = set digits_now (column - 1) (48 + left)

    after_digits : at + columns ≡ (column - 1) + suc (length w.done)
    after_digits = omega (arith, w.column_is, w.counted, digit_room w)

    after_blanks : column - 1 ≡ at + length (blanks count)
    after_blanks = omega (arith, digit_room w, length-replicate count blank)

    fits : at + count ≤ length one_digit
    fits = omega (arith, digit_room w, digit_low w, digits_length w, length-set digits_now (column - 1) (48 + left), length-set before (at + columns) behind, room)

    ahead_is : w.ahead ≡ suc count
    ahead_is = omega (arith, w.column_is, digit_room w)

    whole : to_the_right columns (decimal number) ++ (behind ∷ []) ≡ blanks count ++ ((digit left ∷ w.done) ++ (behind ∷ []))
    whole =
        ap (λ l. l ++ (behind ∷ [])) (w.text ∙ ap (λ k. to_the_right k (decimal left) ++ w.done) ahead_is ∙ ap (λ l. l ++ w.done) (only_digit count left low) ∙ append_assoc (blanks count) (digit left ∷ []) w.done)
        ∙ append_assoc (blanks count) (digit left ∷ w.done) (behind ∷ [])
