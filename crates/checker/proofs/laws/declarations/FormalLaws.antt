-- Formals one after the other: each gets a row, linked to the one before it, unless its name is there already.
use Prim.Native.Nat.{ℕ, suc, ◌+◌, ◌*◌, ◌-◌, ◌/◌, ◌%◌, ◌<◌, ◌≤◌}
use mathlib.Core.Path.{◌≡◌, refl, sym, ap, ◌∙◌, subst}
use mathlib.Core.Bool.{true, false}
use mathlib.Core.List.{List, [], ◌∷◌}
use native.Mathlib.Omega.{arith}
use lib.ListN.{length, get_or, set}
use Rattle.rules.specs.declared.refusals.Refusal.TheVariants.{Repeated}
use Rattle.rules.specs.paper.Limits.{most_nodes, names, codes}
use Rattle.rules.specs.paper.Tree.{Formal}
use Rattle.rules.specs.paper.Checker.{code, Named, Scope, fault, has_name, distinct, with_formals}
use Rattle.reader.specs.Pack.{packed_operand}
use Rattle.reader.specs.Stored.{HasWord, StoredFormals, no_formals, one_formal}
use Rattle.reader.proofs.StoredFields.{operand_is}
use Rattle.reader.proofs.StandingLaws.{after_node, operand_name, operand_number}
use Rattle.typing.specs.Rows.{meaning_numbers, rows_from, rows_end, row_word, code_at, Rows, one_row, RowFound}
use Rattle.checker.specs.Commands.{WritesRowsFrom, FormalsAt, NamesFrom, names_from, names_fault, formals_give, FormalsJudgedAt}
use Rattle.std.specs.Prelude.{Option, is_some, Result, Ok}
use Rattle.rules.specs.Answers.{refused_at}
use Rattle.rules.specs.declared.refusals.Refused.{Refused}
use Rattle.typing.proofs.laws.scope.RowLaws.{row_has, row_has_not}
use Rattle.checker.proofs.laws.commands.KeptLaws.{kept_then, kept_rows, kept_formals, kept_row, row_there}

abbrev pub named : Formal → Named
named f = record { name = f.name; meaning = code f.code }

-- ---- The first of some Formals.

pub record FirstFormal (words : List ℕ) (node count : ℕ) (fs : List Formal) : Type 0 where
  pub first : Formal
  pub rest : List Formal
  pub split : fs ≡ first ∷ rest
  pub place_is : first.place ≡ node
  pub name_low : first.name < names
  pub code_low : first.code < codes
  pub word : HasWord words node 42 (first.name + names * first.code) (suc node)
  pub later : FormalsAt words (node + 1) (count - 1) rest

pub first_formal : {words : List ℕ} {node count : ℕ} {fs : List Formal} → FormalsAt words node count fs → ¬ (count ≡ 0) → FirstFormal words node count fs
first_formal {words} {count = count} a f = by a.stored a.number f
  where
    by : {i next : ℕ} {gs : List Formal} → StoredFormals words i next gs → length gs ≡ count → ¬ (count ≡ 0) → FirstFormal words i count gs
    by no_formals q f = absurd (f (sym q))
    by (one_formal {i = i} {k = k} {f = g} {fs = gs} p l c h s) q f =
        record {
          first = g;
          rest = gs;
          split = refl;
          place_is = p;
          name_low = l;
          code_low = c;
          word = h;
          later = record { next = k; stored = subst (λ j. StoredFormals words j k gs) (after_node i) s; number = fewer (length gs) q };
        }
      where
        fewer : (n : ℕ) → suc n ≡ count → n ≡ count - 1
        fewer n e = omega arith

module _ {words : List ℕ} {node count : ℕ} {fs : List Formal} (o : FirstFormal words node count fs) (w : ℕ) (is : w ≡ packed_operand (get_or words node 0)) where
  formal_word : w ≡ o.first.name + names * o.first.code
  formal_word = is ∙ operand_is o.word (omega arith)

  pub formal_name : w % names ≡ o.first.name
  formal_name = ap (λ v. v % names) formal_word ∙ operand_name o.first.name o.first.code o.name_low

  pub formal_code : w / names ≡ o.first.code
  formal_code = ap (λ v. v / names) formal_word ∙ operand_number o.first.name o.first.code o.name_low

pub formal_node_low : (words : List ℕ) (node count : ℕ) → ((fs : List Formal) × FormalsAt words node count fs) → ¬ (count ≡ 0) → node < most_nodes
formal_node_low words node count e f = (first_formal e.1 f).word.place_low

pub formal_code_low : (words : List ℕ) (node count w : ℕ) → ((fs : List Formal) × FormalsAt words node count fs) → ¬ (count ≡ 0) → w ≡ packed_operand (get_or words node 0) → w / names < meaning_numbers
formal_code_low words node count w e f is =
    let o = first_formal e.1 f in
    omega (arith, formal_code o w is, o.code_low)

-- ---- No Formals.

pub formals_none : (words : List ℕ) (scope tail node count : ℕ) → count ≡ 0 → tail ≤ node → FormalsJudgedAt words words scope tail node count (Ok tail)
unfolding distinct with_formals
formals_none words scope tail node count z h fs seen a r = by fs (a.number ∙ z)
  where
    by : (gs : List Formal) → length gs ≡ 0 → NamesFrom words scope (node + count) (formals_give seen gs) (Ok tail)
    by [] q = names_from r (omega (arith, h))
    by (g ∷ gs) q = absurd (never (length gs) q)
      where
        never : (n : ℕ) → suc n ≡ 0 → ⊥
        never n e = omega arith

-- ---- What the first Formal's name decides.

give_repeated : (seen : Scope) (f : Formal) (fs : List Formal) → has_name f.name seen ≡ true → formals_give seen (f ∷ fs) ≡ fault Repeated f.place
unfolding distinct with_formals
give_repeated seen f fs q = rw q

give_later : (seen : Scope) (f : Formal) (fs : List Formal) → has_name f.name seen ≡ false → formals_give seen (f ∷ fs) ≡ formals_give (named f ∷ seen) fs
unfolding distinct with_formals
give_later seen f fs q = rw q

module _ (words : List ℕ) (scope tail node count w : ℕ) (found : Option ℕ) (some_left : ¬ (count ≡ 0)) (is : w ≡ packed_operand (get_or words node 0))
    (looked : (Δ : Scope) → Rows words tail scope Δ → RowFound words scope (w % names) Δ found) where
  pub formals_repeated : is_some found ≡ true → FormalsJudgedAt words words scope tail node count (refused_at Repeated node)
  formals_repeated f fs seen a r =
      let o = first_formal a some_left in
      let has : has_name o.first.name seen ≡ true = ap (λ x. has_name x seen) (sym (formal_name o w is)) ∙ row_has (looked seen r) f in
      let gives : formals_give seen fs ≡ fault Repeated node = ap (formals_give seen) o.split ∙ give_repeated seen o.first o.rest has ∙ ap (fault Repeated) o.place_is in
      subst (λ j. NamesFrom words scope (node + count) j (refused_at Repeated node)) (sym gives) names_fault

  -- The row of the first Formal, written at its node.
  pub formal_rows : (v : ℕ) → rows_end ≤ length words → tail ≤ node → v ≡ row_word (w % names) (w / names) tail → (fs : List Formal) (a : FormalsAt words node count fs) (seen : Scope) →
      Rows words tail scope seen → Rows (set words (rows_from + node) v) (node + 1) scope (named (first_formal a some_left).first ∷ seen)
  formal_rows v long low row fs a seen r =
      let o = first_formal a some_left in
      let place = o.word.place_low in
      subst (λ j. Rows (set words (rows_from + node) v) j scope (named o.first ∷ seen)) (after_node node)
      (one_row {x = o.first.name} {m = o.first.code} {l = tail}
      record {
        word = row_there words node v place long ∙ row ∙ ap (λ x. row_word x (w / names) tail) (formal_name o w is) ∙ ap (λ m. row_word o.first.name m tail) (formal_code o w is);
        node_low = place;
        name_low = o.name_low;
        meaning_low = omega (arith, o.code_low);
        link_low = low;
      }
      refl refl (code_at o.code_low) (kept_rows (kept_row words node v place) r low))

  pub formals_more : (v : ℕ) (words'' : List ℕ) (answer : Result ℕ Refused) → rows_end ≤ length words → tail ≤ node → v ≡ row_word (w % names) (w / names) tail → is_some found ≡ false →
      FormalsJudgedAt (set words (rows_from + node) v) words'' scope (node + 1) (node + 1) (count - 1) answer → FormalsJudgedAt words words'' scope tail node count answer
  formals_more v words'' answer long low row absent later fs seen a r =
      let o = first_formal a some_left in
      let has : has_name o.first.name seen ≡ false = ap (λ x. has_name x seen) (sym (formal_name o w is)) ∙ row_has_not (looked seen r) absent in
      let gives : formals_give seen fs ≡ formals_give (named o.first ∷ seen) o.rest = ap (formals_give seen) o.split ∙ give_later seen o.first o.rest has in
      subst (λ j. NamesFrom words'' scope (node + count) j answer) (sym gives)
      (subst (λ n. NamesFrom words'' scope n (formals_give (named o.first ∷ seen) o.rest) answer) (together node count some_left)
      (later o.rest (named o.first ∷ seen) (kept_formals (kept_row words node v o.word.place_low) o.later) (formal_rows v long low row fs a seen r)))
    where
      together : (i n : ℕ) → ¬ (n ≡ 0) → i + 1 + (n - 1) ≡ i + n
      together i n f = omega (arith, f)

-- ---- Those that have rows so far.

-- Some Formals have rows: the others stand here, and what they come to is what all of them come to.
pub record RowsSoFar (before words : List ℕ) (scope tail node count newest at left : ℕ) : Type 0 where
  pub others : (fs : List Formal) × FormalsAt words at left fs
  pub rows : (seen : Scope) × Rows words newest scope seen
  pub linked : newest ≤ at
  pub onward : node ≤ at
  pub kept : WritesRowsFrom before words node
  pub whole : (r : Result ℕ Refused) (after : List ℕ) → FormalsJudgedAt words after scope newest at left r → FormalsJudgedAt before after scope tail node count r

module _ (before words : List ℕ) (scope tail node count newest at left : ℕ) (so_far : RowsSoFar before words scope tail node count newest at left) (w : ℕ) (found : Option ℕ) (v : ℕ) (some_left : ¬ (left ≡ 0))
    (is : w ≡ packed_operand (get_or words at 0)) (looked : (Δ : Scope) → Rows words newest scope Δ → RowFound words scope (w % names) Δ found) where
  pub one_row_more : rows_end ≤ length words → v ≡ row_word (w % names) (w / names) newest → is_some found ≡ false → (less : ℕ) → left - 1 ≡ less →
      RowsSoFar before (set words (rows_from + at) v) scope tail node count (at + 1) (at + 1) less
  one_row_more long row absent less fewer =
      let a = so_far.others.1 in
      let o = first_formal a some_left in
      let keeps = kept_row words at v o.word.place_low in
      subst (RowsSoFar before (set words (rows_from + at) v) scope tail node count (at + 1) (at + 1)) fewer
      record {
        others = (o.rest, kept_formals keeps o.later);
        rows = (named o.first ∷ so_far.rows.0, formal_rows words scope newest at left w found some_left is looked v long so_far.linked row _ a _ so_far.rows.1);
        linked = omega arith;
        onward = omega (arith, so_far.onward);
        kept = kept_then so_far.kept keeps so_far.onward;
        whole = λ r after later. so_far.whole r after (formals_more words scope newest at left w found some_left is looked v after r long so_far.linked row absent later);
      }
