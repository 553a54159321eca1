-- A Call's need from its actuals' and its function's, and the Formals' names.
use Prim.Native.Nat.{ℕ, zero, suc, ◌+◌, ◌-◌, ◌/◌, ◌%◌, ◌<◌, ◌≤◌}
use mathlib.Core.Path.{◌≡◌, sym, ap, ◌∙◌, subst}
use mathlib.Core.List.{List, ◌∷◌}
use native.Mathlib.Omega.{arith}
use lib.ListN.{length, get_or}
use Rattle.rules.specs.paper.Limits.{most_nodes, names, most_parameters}
use Rattle.rules.specs.paper.Tree.{Formal, Expression, Call}
use Rattle.rules.specs.paper.Needs.{Needs, nothing, need_of, over_formals, command_need}
use Rattle.reader.specs.Pack.{packed_operand}
use Rattle.reader.specs.Stored.{StoredActuals, StoredFormals, no_formals, one_formal, StoredCommand, call}
use Rattle.reader.proofs.StoredFields.{operand_is}
use Rattle.reader.specs.StoredLaws.{same_formals}
use Rattle.reader.proofs.StandingLaws.{after_node, operand_name, operand_number}
use Rattle.estimator.specs.Figures.{figures, numbers, called_figures}
use Rattle.estimator.specs.Entries.{HasEntry, WritesEntriesFrom, KeptEntry, NamesAt, one_name, NeedFoundAt}
use Rattle.estimator.specs.Answers.{SomeActuals, SomeFormals, SomeCall, ActualsNeed, CallNeeds, FormalsNamed}
use Rattle.estimator.specs.declared.figures.Need.{Need}
use Rattle.estimator.proofs.FigureLaws.{called_law}
use Rattle.estimator.proofs.EntryLaws.{entries_nodes, entries_same, entries_then, names_kept}

-- ---- A Call.

module _ (words : List ℕ) (node word : ℕ) (known : word ≡ packed_operand (get_or words node 0)) where
  pub call_actuals : SomeCall words node → (word / names ≤ most_parameters) × SomeActuals words (node + 1) (word / names)
  call_actuals s = by known s.4
    where
      by : {d n j m x : ℕ} {es : List Expression} → word ≡ packed_operand (get_or words n 0) → StoredCommand words d n j (Call m x es) → (word / names ≤ most_parameters) × SomeActuals words (n + 1) (word / names)
      by {d = zero} is_packed stored = elim stored [ ]
      by {d = suc d} {n = n} {j = j} {x = x} {es = es} is_packed (call l few w a) =
          let count : word / names ≡ length es = ap (λ o. o / names) (is_packed ∙ operand_is w (omega arith)) ∙ operand_number x (length es) l in
          (omega (arith, few, count), (d, j, es, subst (λ i. StoredActuals words d i j es) (after_node n) a, sym count))

  pub call_needs : (scope : ℕ) (given function r : Need) → ActualsNeed words (node + 1) (word / names) given → NeedFoundAt words scope (word % names) function →
      r ≡ called_figures given (word / names) function → CallNeeds words scope node r
  unfolding command_need
  call_needs scope given function r first found q d j x es N stored s = by known first stored
    where
      by : {d n j m : ℕ} {es : List Expression} → word ≡ packed_operand (get_or words n 0) → ActualsNeed words (n + 1) (word / names) given → StoredCommand words d n j (Call m x es) → r ≡ figures (command_need N (Call m x es))
      by {d = zero} is_packed actuals stored = elim stored [ ]
      by {d = suc c} {n = n} {j = j} {es = es} is_packed actuals (call l few w a) =
          let whole = is_packed ∙ operand_is w (omega arith) in
          let count : word / names ≡ length es = ap (λ o. o / names) whole ∙ operand_number x (length es) l in
          let name : word % names ≡ x = ap (λ o. o % names) whole ∙ operand_name x (length es) l in
          q
          ∙ ap (λ k. called_figures given k function) count
          ∙ (called_law (length es) (omega (arith, few)) (record { equal = actuals c j es (subst (λ i. StoredActuals words c i j es) (after_node n) a) (sym count) })
          (record { equal = found N s ∙ ap (λ y. figures (need_of y N)) name })
          ).equal

-- ---- Formals.

pub formal_low : (words : List ℕ) (node count : ℕ) → (count ≡ 0 → ⊥) → SomeFormals words node count → node < most_nodes
formal_low words node count some_left s = by s.2 s.3
  where
    by : {j : ℕ} {fs : List Formal} → StoredFormals words node j fs → length fs ≡ count → node < most_nodes
    by no_formals n = absurd (some_left (sym n))
    by (one_formal p l m w g) n = w.place_low

-- Each has a node.
formals_low : {words : List ℕ} {node next : ℕ} {fs : List Formal} → StoredFormals words node next fs → 1 ≤ length fs → node + length fs ≤ most_nodes
formals_low no_formals h = omega (arith, h)
formals_low (one_formal p l m w no_formals) h = omega (arith, w.place_low)
formals_low (one_formal p l m w (one_formal q n o x g)) h = omega (arith, formals_low (one_formal q n o x g) (omega arith))

pub formals_end : {words : List ℕ} {node count : ℕ} (most : ℕ) → SomeFormals words node count → node ≤ most → most_nodes ≤ most → node + count ≤ most
formals_end {node = node} {count = count} most s n m = by count s.3 s.2
  where
    by : {words : List ℕ} {j : ℕ} {fs : List Formal} (count : ℕ) → length fs ≡ count → StoredFormals words node j fs → node + count ≤ most
    by zero e f = omega (arith, n)
    by (suc k) e f = omega (arith, e, m, formals_low f (omega (arith, e)))

module _ (words : List ℕ) (scope node count : ℕ) where
  pub no_formal : scope ≤ node → count ≡ 0 → FormalsNamed words words scope node count scope
  unfolding over_formals
  no_formal h z j fs N no_formals n s = (s, h)
  no_formal h z j fs N (one_formal p l m w g) n s = absurd (omega (arith, z, n))

  module _ (some_left : count ≡ 0 → ⊥) where
    module _ (words' : List ℕ) (word : ℕ) (none : Need) (known : word ≡ packed_operand (get_or words node 0)) (no_need : none ≡ numbers 0 0 0 0 0 0)
        (written : KeptEntry words words' node (word % names) scope none) where
      -- The names with this Formal's.
      formal_named : (f : Formal) (N : Needs) → word % names ≡ f.name → scope ≤ node → NamesAt words scope N → NamesAt words' (node + 1) (record { name = f.name; need = nothing } ∷ N)
      formal_named f N q l s =
          subst (λ p. NamesAt words' p (record { name = f.name; need = nothing } ∷ N)) (after_node node)
          (one_name (subst (λ x. HasEntry words' node x scope (numbers 0 0 0 0 0 0)) q (subst (HasEntry words' node (word % names) scope) no_need written.entry))
          (names_kept written.others l s))

      name_of : {j : ℕ} {f : Formal} {fs : List Formal} → StoredFormals words node j (f ∷ fs) → word % names ≡ f.name
      name_of (one_formal {f = f} p l m w g) = ap (λ o. o % names) (known ∙ operand_is w (omega arith)) ∙ operand_name f.name f.code l

      rest_of : {j : ℕ} {f : Formal} {fs : List Formal} → StoredFormals words node j (f ∷ fs) → StoredFormals words' (node + 1) j fs
      rest_of {j} {fs = fs} (one_formal p l m w g) = subst (λ i. StoredFormals words' i j fs) (after_node node) (same_formals words words' (entries_nodes written.others) g)

      pub later_formals : SomeFormals words node count → SomeFormals words' (node + 1) (count - 1)
      later_formals s = by s.2 s.3
        where
          by : {j : ℕ} {fs : List Formal} → StoredFormals words node j fs → length fs ≡ count → SomeFormals words' (node + 1) (count - 1)
          by no_formals n = absurd (some_left (sym n))
          by {j} (one_formal {fs = fs} p l m w g) n = (j, fs, rest_of (one_formal p l m w g), omega (arith, n))

      pub names_on : scope ≤ node → SomeFormals words node count → ((N : Needs) × NamesAt words scope N) → (N : Needs) × NamesAt words' (node + 1) N
      names_on l s N = by s.2 s.3
        where
          by : {j : ℕ} {fs : List Formal} → StoredFormals words node j fs → length fs ≡ count → (N : Needs) × NamesAt words' (node + 1) N
          by no_formals n = absurd (some_left (sym n))
          by (one_formal {f = f} p h m w g) n = (_, formal_named f N.0 (name_of (one_formal p h m w g)) l N.1)

      pub formals_named : scope ≤ node → (words'' : List ℕ) (r : ℕ) → FormalsNamed words' words'' (node + 1) (node + 1) (count - 1) r → FormalsNamed words words'' scope node count r
      unfolding over_formals
      formals_named l words'' r later j fs N no_formals n s = absurd (some_left (sym n))
      formals_named l words'' r later j fs N (one_formal {f = f} {fs = fs'} p h m w g) n s =
          later j fs' (record { name = f.name; need = nothing } ∷ N) (rest_of (one_formal p h m w g)) (omega (arith, n)) (formal_named f N (name_of (one_formal p h m w g)) l s)

-- ---- The Formals that have names so far.

-- The others stand here, and what they come to is what all of them come to.
pub record NamedSoFar (before words : List ℕ) (scope node count newest at left : ℕ) : Type 0 where
  pub others : SomeFormals words at left
  pub named : (N : Needs) × NamesAt words newest N
  pub linked : newest ≤ at
  pub onward : node ≤ at
  pub kept : WritesEntriesFrom before words node
  pub whole : (after : List ℕ) (r : ℕ) → FormalsNamed words after newest at left r → FormalsNamed before after scope node count r

pub none_named : (words : List ℕ) (scope node count left : ℕ) → left ≡ count → SomeFormals words node count → ((N : Needs) × NamesAt words scope N) → scope ≤ node →
    NamedSoFar words words scope node count scope node left
none_named words scope node count left q s N l =
    record {
      others = subst (SomeFormals words node) (sym q) s;
      named = N;
      linked = l;
      onward = omega arith;
      kept = entries_same words node;
      whole = λ after r later. subst (λ n. FormalsNamed words after scope node n r) q later;
    }

pub one_more_named : (before words words' : List ℕ) (scope node count newest at left later : ℕ) → NamedSoFar before words scope node count newest at left → left ≡ suc later → (word : ℕ) (none : Need) →
    word ≡ packed_operand (get_or words at 0) → none ≡ numbers 0 0 0 0 0 0 → KeptEntry words words' at (word % names) newest none →
    NamedSoFar before words' scope node count (at + 1) (at + 1) later
one_more_named before words words' scope node count newest at left later so_far one_left word none known no_need written =
    record {
      others = subst (SomeFormals words' (at + 1)) fewer (later_formals words newest at left some_left words' word none known no_need written so_far.others);
      named = names_on words newest at left some_left words' word none known no_need written so_far.linked so_far.others so_far.named;
      linked = omega arith;
      onward = omega (arith, so_far.onward);
      kept = entries_then so_far.kept written.others so_far.onward;
      whole =
          λ after r done.
          so_far.whole after r
          (formals_named words newest at left some_left words' word none known no_need written so_far.linked after r (subst (λ n. FormalsNamed words' after (at + 1) (at + 1) n r) (sym fewer) done));
    }
  where
    some_left : left ≡ 0 → ⊥
    some_left z = omega (arith, z, one_left)

    fewer : left - 1 ≡ later
    fewer = omega (arith, one_left)
