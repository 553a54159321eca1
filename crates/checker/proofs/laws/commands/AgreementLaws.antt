-- The Formals' codes, packed one after the other, against those that are given.
use Prim.Native.Nat.{ℕ, ◌+◌, ◌*◌, ◌-◌, ◌/◌, ◌<◌}
use mathlib.Core.Path.{◌≡◌, refl, sym, ap, ◌∙◌, subst}
use mathlib.Core.List.{List, [], ◌∷◌}
use native.Mathlib.Omega.{arith}
use lib.ListN.{length, get_or}
use Rattle.rules.specs.paper.Limits.{names, codes}
use Rattle.rules.specs.paper.Tree.{Formal}
use Rattle.rules.specs.paper.Checker.{same_code}
use Rattle.reader.specs.Pack.{packed_operand}
use Rattle.reader.specs.Stored.{StoredFormals, no_formals, one_formal}
use Rattle.typing.specs.Answers.{fine_answer}
use Rattle.checker.specs.Packing.{packed_onto, packed_codes, AllCodes, formal_codes}
use Rattle.checker.specs.Commands.{FormalsAt, AgreementJudgedAt}
use Rattle.std.specs.Prelude.{Result}
use Rattle.rules.specs.declared.refusals.Refused.{Refused}
use Rattle.checker.proofs.laws.commands.PackingLaws.{PackedSoFar, one_packed, same_packed}
use Rattle.checker.proofs.laws.declarations.FormalLaws.{first_formal, formal_code}

formals_low : {words : List ℕ} {i j : ℕ} {fs : List Formal} → StoredFormals words i j fs → AllCodes (formal_codes fs)
formals_low no_formals = tt
formals_low (one_formal q l c h g) = (c, formals_low g)

-- Some Formals' codes are packed: the others stand here, and what they come to onto these codes is what all of them come to.
pub record WantedSoFar (words : List ℕ) (formal count at left wanted : ℕ) : Type 0 where
  pub packed : PackedSoFar count left wanted
  pub others : (fs : List Formal) × FormalsAt words at left fs
  pub whole : (n : ℕ) → ((fs : List Formal) → FormalsAt words at left fs → n ≡ packed_onto wanted (formal_codes fs)) → (fs : List Formal) → FormalsAt words formal count fs → n ≡ packed_codes (formal_codes fs)

module _ (words : List ℕ) (at left w : ℕ) (some_left : left ≡ 0 → ⊥) (is : w ≡ packed_operand (get_or words at 0)) where
  pub wanted_code_low : ((fs : List Formal) × FormalsAt words at left fs) → w / names < codes
  wanted_code_low a = let first = first_formal a.1 some_left in subst (λ c. c < codes) (sym (formal_code first w is)) first.code_low

  pub one_wanted : (formal count wanted : ℕ) → WantedSoFar words formal count at left wanted → (less : ℕ) → left - 1 ≡ less → WantedSoFar words formal count (at + 1) less (wanted * codes + w / names)
  one_wanted formal count wanted known less fewer =
      let first = first_formal known.others.1 some_left in
      subst (λ n. WantedSoFar words formal count (at + 1) n (wanted * codes + w / names)) fewer
      record {
        packed = one_packed count left wanted (w / names) known.packed some_left (wanted_code_low known.others);
        others = (first.rest, first.later);
        whole =
            λ n o. known.whole n
            (λ fs a.
            let g = first_formal a some_left in
            subst (λ l. n ≡ packed_onto wanted (formal_codes l)) (sym g.split)
            (subst (λ c. n ≡ packed_onto (wanted * codes + c) (formal_codes g.rest)) (formal_code g w is) (o g.rest g.later)));
      }

-- All of them are packed.
pub all_agree : (words : List ℕ) (formal count at left wanted : ℕ) → WantedSoFar words formal count at left wanted → left ≡ 0 → (place given : ℕ) (r : Result (Unit {0}) Refused) → r ≡ fine_answer (same_code place wanted given) →
    AgreementJudgedAt words place given formal count r
all_agree words formal count at left wanted known none_left place given r q fs cs a number low is =
    q ∙ ap (λ n. fine_answer (same_code place n given)) (known.whole wanted (λ gs b. last gs (b.number ∙ none_left)) fs a) ∙
    ap (λ n. fine_answer (same_code place (packed_codes (formal_codes fs)) n)) is ∙
    ap fine_answer (same_packed place fs cs (a.number ∙ sym number) (formals_low a.stored) low)
  where
    last : (gs : List Formal) → length gs ≡ 0 → wanted ≡ packed_onto wanted (formal_codes gs)
    last [] e = refl
    last (g ∷ gs) e = absurd (omega (arith, e))
