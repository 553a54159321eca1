-- The integer that a word holds is the word cast to the signed type, and the word of an integer is the integer cast back. What is there of the signed
-- type, just where it fits, comes to what the rules say of the integer.
use Rattle.std.specs.Prelude.{◌≡◌, ℕ, ◌^◌, ◌<◌, true, false, ℤ, pos, negsuc, FitsSigned, Option, Some, None, Ok, Err, refl}
use Rattle.std.specs.Int.{w64, cast_signed, cast_unsigned}
use Rattle.std.specs.Option.{SomeIff}
use Rattle.std.specs.Int.Signed.{mag}
use Rattle.std.proofs.Common.{ap, arith, lt-ltb, le-ltb}
use Rattle.std.proofs.lemmas.Int.{to_z-of_z, of_z-to_z}
use Rattle.rules.specs.declared.refusals.Reason.TheVariants.{OutOfRange}
use Rattle.rules.specs.paper.Integers.{in_range, ranged}
use Rattle.integers.specs.Words.{integer_of, word_of, computed}
use Rattle.integers.specs.WordLaws.{by_sign}
use Rattle.rules.proofs.Basics.{by_order}

pub signed_word : (w : ℕ) → w < 2 ^ 64 → cast_signed w64 w ≡ integer_of w
unfolding integer_of
signed_word w fits =
    by_sign w
    (λ low. rw (lt-ltb w (2 ^ 63) low))
    (λ high. rw (le-ltb w (2 ^ 63) high) (ap negsuc (omega arith)))

pub unsigned_integer : (z : ℤ) → cast_unsigned w64 z ≡ word_of z
unfolding word_of
unsigned_integer (pos n) = refl
unsigned_integer (negsuc n) = omega arith

-- A word that was cast to the signed type, as a call is given it.
pub cast_word : (w : ℕ) → w < 2 ^ 64 → cast_signed w64 (cast_unsigned w64 (cast_signed w64 w)) ≡ integer_of w
cast_word w fits = rw (of_z-to_z w64 w fits) (signed_word w fits)

-- ---- What an integer comes to that is there just where it fits.

module _ (o : Option ℤ) (z : ℤ) (there : SomeIff o (FitsSigned w64 z) z) where
  pub is_kept : (x : ℤ) (word : ℕ) → o ≡ Some x → word ≡ cast_unsigned w64 (cast_signed w64 (cast_unsigned w64 x)) → Ok word ≡ computed (ranged z)
  unfolding computed
  is_kept x word found cast =
      let fits : FitsSigned w64 z × (x ≡ z) = rw found at there in
      let inside : in_range z ≡ true = lt-ltb (mag z) (2 ^ 63) fits.0.sfits in
      rw (inside, cast, fits.1, to_z-of_z w64 z fits.0, unsigned_integer z)

  pub is_out : o ≡ None → Err OutOfRange ≡ computed (ranged z)
  unfolding computed
  is_out missing =
      let out : FitsSigned w64 z → ⊥ = rw missing at there in
      let outside : in_range z ≡ false = le-ltb (mag z) (2 ^ 63) (by_order (mag z) (2 ^ 63) (λ l. absurd (out (record { sfits = l }))) (λ h. h)) in
      rw outside
