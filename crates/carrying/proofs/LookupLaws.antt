-- Looking for a name along the chain of rows: so far the name was not met, so the names from here on give it the same meaning and need.
use Prim.Native.Nat.{ℕ, suc, ◌+◌, ◌-◌, ◌/◌, ◌%◌, ◌<◌, ◌≤◌}
use mathlib.Core.Path.{◌≡◌, refl, sym, ap, ◌∙◌, subst}
use mathlib.Core.Bool.{true, false, cond}
use mathlib.Core.List.{List, ◌∷◌}
use mathlib.Core.Option.{some, some-injective}
use Rattle.std.specs.Prelude.{Some, None}
use native.Mathlib.Omega.{arith}
use lib.Dec.{T, eqb, eqb→eq, eqb_refl}
use lib.ListN.{get_or}
use Rattle.rules.specs.paper.Limits.{most_bindings, names}
use Rattle.rules.specs.paper.Needs.{Need, Needs, nothing, need_of}
use Rattle.rules.proofs.Basics.{missing, true_test, false_test}
use Rattle.rules.specs.paper.Carrying.{CarriedMeaning, CarriedName, CarriedNames, carried_meaning}
use Rattle.reader.proofs.StandingLaws.{bound_on}
use Rattle.intervals.specs.declared.values.Value.{Value}
use Rattle.carrying.specs.Layout.{row_links, pointer_unit}
use Rattle.carrying.specs.States.{RowAt, needing, NamesAt, no_names, one_value, one_function, SomeNames, FoundAt}
use Rattle.carrying.proofs.StateLaws.{names_later, row_is_pointer, row_is_name}

abbrev pub meaning_as : ℕ → CarriedMeaning → CarriedName
meaning_as x m = record { name = x; meaning = m }

-- The row that a pointer other than 0 points at.
pub record Pointed (words : List ℕ) (limit at : ℕ) (A : CarriedNames) (N : Needs) : Type 0 where
  row : ℕ
  name : ℕ
  below : ℕ
  value : Value
  meaning : CarriedMeaning
  need : Need
  others : CarriedNames
  other_needs : Needs
  older_limit : ℕ
  is_row : at ≡ suc row
  row_there : RowAt words row name below value
  names_are : A ≡ meaning_as name meaning ∷ others
  needs_are : N ≡ needing name need ∷ other_needs
  sooner : older_limit ≤ limit
  older : NamesAt words older_limit below others other_needs

pointed : {words : List ℕ} {limit at : ℕ} {A : CarriedNames} {N : Needs} → NamesAt words limit at A N → (at ≡ 0 → ⊥) → Pointed words limit at A N
pointed no_names f = absurd (f refl)
pointed {limit = limit} (one_value {k = k} {x = x} {l = l} {r = r} row v older) f =
    record {
      row = k;
      name = x;
      below = l;
      value = r;
      meaning = _;
      need = nothing;
      others = _;
      other_needs = _;
      older_limit = limit;
      is_row = refl;
      row_there = row;
      names_are = refl;
      needs_are = refl;
      sooner = omega arith;
      older = older;
    }
pointed (one_function {k = k} {x = x} {l = l} {q = q} {r = r} row p tree end older) f =
    record {
      row = k;
      name = x;
      below = l;
      value = r;
      meaning = _;
      need = _;
      others = _;
      other_needs = _;
      older_limit = q;
      is_row = refl;
      row_there = row;
      names_are = refl;
      needs_are = refl;
      sooner = omega (arith, end, bound_on tree);
      older = older;
    }

-- So far the name was not met.
pub record WalkedTo (words : List ℕ) (limit x at : ℕ) (A : CarriedNames) (N : Needs) : Type 0 where
  from_here : CarriedNames
  needs_here : Needs
  limit_here : ℕ
  sooner : limit_here ≤ limit
  there : NamesAt words limit_here at from_here needs_here
  same_meaning : carried_meaning x A ≡ carried_meaning x from_here
  same_need : need_of x N ≡ need_of x needs_here

abbrev pub Walked : List ℕ → (environment name at : ℕ) → Type 0
Walked words environment x at = (limit : ℕ) (A : CarriedNames) (N : Needs) → NamesAt words limit environment A N → WalkedTo words limit x at A N

pub walk_start : (words : List ℕ) (environment name : ℕ) → Walked words environment name environment
walk_start words environment x limit A N s = record { from_here = A; needs_here = N; limit_here = limit; sooner = omega arith; there = s; same_meaning = refl; same_need = refl }

module _ (words : List ℕ) (environment x at : ℕ) (some_names : SomeNames words environment) (walked : Walked words environment x at) (more : at ≡ 0 → ⊥) where
  here : WalkedTo words some_names.0 x at some_names.1 some_names.2
  here = walked some_names.0 some_names.1 some_names.2 some_names.3

  pub walk_low : (1 ≤ at) × (at ≤ most_bindings)
  walk_low = let p = pointed here.there more in (omega (arith, p.is_row), omega (arith, p.is_row, p.row_there.row_few))

  -- The pointer of the row below.
  link_below : {limit : ℕ} {A : CarriedNames} {N : Needs} (p : Pointed words limit at A N) → get_or words (row_links - 1 + at) 0 / pointer_unit ≡ p.below
  link_below p = ap (λ i. get_or words (row_links - 1 + i) 0 / pointer_unit) p.is_row ∙ row_is_pointer p.row_there

  link_name : {limit : ℕ} {A : CarriedNames} {N : Needs} (p : Pointed words limit at A N) → get_or words (row_links - 1 + at) 0 % names ≡ p.name
  link_name p = ap (λ i. get_or words (row_links - 1 + i) 0 % names) p.is_row ∙ row_is_name p.row_there

  pub walk_less : get_or words (row_links - 1 + at) 0 / pointer_unit < at
  walk_less = let p = pointed here.there more in omega (arith, link_below p, p.is_row, p.row_there.below_older)

  -- Another name: the names below give the same.
  pub walk_on : (get_or words (row_links - 1 + at) 0 % names ≡ x → ⊥) → Walked words environment x (get_or words (row_links - 1 + at) 0 / pointer_unit)
  unfolding carried_meaning need_of
  walk_on other limit A N s =
      let w = walked limit A N s in
      let p = pointed w.there more in
      let differs : eqb p.name x ≡ false = false_test (eqb p.name x) (λ t. other (link_name p ∙ eqb→eq p.name x t)) in
      record {
        from_here = p.others;
        needs_here = p.other_needs;
        limit_here = p.older_limit;
        sooner = omega (arith, p.sooner, w.sooner);
        there = subst (λ i. NamesAt words p.older_limit i p.others p.other_needs) (sym (link_below p)) p.older;
        same_meaning = w.same_meaning ∙ ap (carried_meaning x) p.names_are ∙ ap (λ t. cond t (some p.meaning) (carried_meaning x p.others)) differs;
        same_need = w.same_need ∙ ap (need_of x) p.needs_are ∙ ap (λ t. cond t p.need (need_of x p.other_needs)) differs;
      }

  pub walk_found : get_or words (row_links - 1 + at) 0 % names ≡ x → FoundAt words environment x (Some at)
  unfolding carried_meaning need_of
  walk_found met limit A N m s found =
      let w = walked limit A N s in
      let p = pointed w.there more in
      let is_name : p.name ≡ x = sym (link_name p) ∙ met in
      let equal : eqb p.name x ≡ true = true_test (eqb p.name x) (subst (λ y. T (eqb p.name y)) is_name (eqb_refl p.name)) in
      let meaning_is : p.meaning ≡ m =
      some-injective p.meaning m
      (sym (ap (carried_meaning x) p.names_are ∙ ap (λ t. cond t (some p.meaning) (carried_meaning x p.others)) equal) ∙ sym w.same_meaning ∙ found) in
      let need_is : p.need ≡ need_of x N = sym (w.same_need ∙ ap (need_of x) p.needs_are ∙ ap (λ t. cond t p.need (need_of x p.other_needs)) equal) in
      record {
        others = p.others;
        other_needs = p.other_needs;
        names_there =
            names_later w.sooner
            (subst (λ B. NamesAt words w.limit_here at B (needing x (need_of x N) ∷ p.other_needs)) (p.names_are ∙ ap (λ y. meaning_as y p.meaning ∷ p.others) is_name ∙ ap (λ n. meaning_as x n ∷ p.others) meaning_is)
            (subst (NamesAt words w.limit_here at w.from_here) (p.needs_are ∙ ap (λ y. needing y p.need ∷ p.other_needs) is_name ∙ ap (λ n. needing x n ∷ p.other_needs) need_is) w.there));
      }

-- No row is left: the name has no meaning.
pub walk_none : (words : List ℕ) (environment x at : ℕ) → Walked words environment x at → at ≡ 0 → FoundAt words environment x None
unfolding carried_meaning
walk_none words environment x at walked none_left limit A N m s found = by (walked limit A N s) none_left
  where
    no_more : {l i : ℕ} {B : CarriedNames} {M : Needs} → i ≡ 0 → NamesAt words l i B M → carried_meaning x B ≡ some m → ⊥
    no_more z no_names q = missing q
    no_more z (one_value row v older) q = omega (arith, z)
    no_more z (one_function row p tree end older) q = omega (arith, z)

    by : WalkedTo words limit x at A N → at ≡ 0 → ⊥
    by w z = no_more z w.there (sym w.same_meaning ∙ found)
