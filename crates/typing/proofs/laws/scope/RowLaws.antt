-- Rows of the scope: what they hold, how they are walked, and what writing elsewhere leaves of them.
use Prim.Native.Nat.{ℕ, zero, suc, ◌+◌, ◌/◌, ◌%◌, ◌<◌, ◌≤◌}
use mathlib.Core.Path.{◌≡◌, refl, sym, ap, ◌∙◌, subst}
use mathlib.Core.Bool.{Bool, true, false, cond, ◌||◌}
use mathlib.Core.List.{List, [], ◌∷◌, ◌++◌}
use mathlib.Core.Option.{none, some, none-ne-some}
use native.Mathlib.Omega.{arith}
use lib.Dec.{T, eqb, eqb→eq, eqb_refl}
use lib.ListN.{get_or}
use Rattle.std.specs.Prelude.{Option, Some, None, is_some}
use Rattle.rules.specs.paper.Limits.{names, most_nodes}
use Rattle.rules.proofs.Basics.{true_test, false_test}
use Rattle.rules.specs.paper.Checker.{Meaning, code, Named, Scope, meaning_of, has_name, shares_name, register_scope}
use Rattle.typing.specs.Rows.{rows_from, pointers_from, meaning_numbers, link_factor, row_word, meaning_number, MeaningAt, HasRow, Rows, no_rows, one_row, ScopeAt, RowFound, absent, present}
use Rattle.typing.specs.Answers.{FoundAs, found_nothing, found_binding, found_register}

-- ---- A row's parts.

pub row_name : {words : List ℕ} {k x m l : ℕ} → HasRow words k x m l → get_or words (rows_from + k) 0 % names ≡ x
row_name {x = x} {m = m} {l = l} h = ap (λ w. w % names) h.word ∙ inside x m l h.name_low
  where
    inside : (x m l : ℕ) → x < names → row_word x m l % names ≡ x
    inside x m l g = omega arith

pub row_meaning : {words : List ℕ} {k x m l : ℕ} → HasRow words k x m l → get_or words (rows_from + k) 0 / names % meaning_numbers ≡ m
row_meaning {x = x} {m = m} {l = l} h = ap (λ w. w / names % meaning_numbers) h.word ∙ inside x m l h.name_low h.meaning_low
  where
    inside : (x m l : ℕ) → x < names → m < meaning_numbers → row_word x m l / names % meaning_numbers ≡ m
    inside x m l g f = omega arith

pub row_link : {words : List ℕ} {k x m l : ℕ} → HasRow words k x m l → get_or words (rows_from + k) 0 / link_factor ≡ l
row_link {x = x} {m = m} {l = l} h = ap (λ w. w / link_factor) h.word ∙ inside x m l h.name_low h.meaning_low
  where
    inside : (x m l : ℕ) → x < names → m < meaning_numbers → row_word x m l / link_factor ≡ l
    inside x m l g f = omega arith

pub rows_order : {words : List ℕ} {from to : ℕ} {Δ : Scope} → Rows words from to Δ → to ≤ from
rows_order no_rows = omega arith
rows_order (one_row h q p m r) = omega (arith, rows_order r, h.link_low)

pub rows_low : {words : List ℕ} {from to : ℕ} {Δ : Scope} → Rows words from to Δ → to ≤ most_nodes → from ≤ most_nodes
rows_low no_rows h = h
rows_low (one_row r q p m s) h = omega (arith, r.node_low)

-- ---- Walking rows.

-- Where a pointer is not the last one, it has a row.
pub record Opened (words : List ℕ) (at to : ℕ) (Δ : Scope) : Type 0 where
  pub node : ℕ
  pub name : ℕ
  pub meaning : Meaning
  pub link : ℕ
  pub rest : Scope
  pub pointer : at ≡ suc node
  pub row : HasRow words node name (meaning_number meaning) link
  pub known : MeaningAt words node meaning
  pub split : Δ ≡ record { name = name; meaning = meaning } ∷ rest
  pub later : Rows words link to rest

pub opened : {words : List ℕ} {at to : ℕ} {Δ : Scope} → Rows words at to Δ → ¬ (at ≡ to) → Opened words at to Δ
opened no_rows f = absurd (f refl)
opened {words} (one_row {k = k} {x = x} {m = m} {l = l} {n = n} {Δ = Δ} h q p a r) f =
    record {
      node = k;
      name = n.name;
      meaning = n.meaning;
      link = l;
      rest = Δ;
      pointer = refl;
      row = subst (λ j. HasRow words k j (meaning_number n.meaning) l) (sym q) (subst (λ j. HasRow words k x j l) (sym p) h);
      known = a;
      split = refl;
      later = r;
    }

-- The word of a row, by its pointer.
pub pointer_word : (words : List ℕ) (at k : ℕ) → at ≡ suc k → get_or words (pointers_from + at) 0 ≡ get_or words (rows_from + k) 0
pointer_word words at k q = ap (λ j. get_or words j 0) (place q)
  where
    place : at ≡ suc k → pointers_from + at ≡ rows_from + k
    place e = omega arith

-- ---- Looking for a name.

-- So far the name has not been met.
abbrev pub Walked : List ℕ → (from to name at : ℕ) → Type 0
Walked words from to name at = (Δ : Scope) → Rows words from to Δ → (Δ' : Scope) × Rows words at to Δ' × (meaning_of name Δ ≡ meaning_of name Δ')

meaning_head : (x : ℕ) (n : Named) (Δ : Scope) → n.name ≡ x → meaning_of x (n ∷ Δ) ≡ some n.meaning
unfolding meaning_of
meaning_head x n Δ q = rw (true_test (eqb n.name x) (subst (λ j. T (eqb n.name j)) q (eqb_refl n.name)))

meaning_tail : (x : ℕ) (n : Named) (Δ : Scope) → ¬ (n.name ≡ x) → meaning_of x (n ∷ Δ) ≡ meaning_of x Δ
unfolding meaning_of
meaning_tail x n Δ f = rw (false_test (eqb n.name x) (λ t. f (eqb→eq n.name x t)))

pub walk_on : (words : List ℕ) (from to name at : ℕ) → Walked words from to name at → ¬ (at ≡ to) → ¬ (get_or words (pointers_from + at) 0 % names ≡ name) →
    Walked words from to name (get_or words (pointers_from + at) 0 / link_factor)
walk_on words from to name at w f g Δ r =
    let s = w Δ r in
    let o = opened s.1 f in
    let word = pointer_word words at o.node o.pointer in (
      o.rest,
      subst (λ l. Rows words l to o.rest) (sym (ap (λ v. v / link_factor) word ∙ row_link o.row)) o.later,
      s.2 ∙ ap (meaning_of name) o.split ∙ meaning_tail name _ o.rest (λ e. g (ap (λ v. v % names) word ∙ row_name o.row ∙ e)),
    )

pub walk_less : (words : List ℕ) (from to name at : ℕ) → ((Δ : Scope) × Rows words from to Δ) → Walked words from to name at → ¬ (at ≡ to) → get_or words (pointers_from + at) 0 / link_factor < at
walk_less words from to name at e w f =
    let o = opened (w e.0 e.1).1 f in
    subst (λ v. v < at) (sym (ap (λ v. v / link_factor) (pointer_word words at o.node o.pointer) ∙ row_link o.row)) (omega (arith, o.row.link_low, o.pointer))

pub walk_low : (words : List ℕ) (from to name at : ℕ) → ((Δ : Scope) × Rows words from to Δ) → Walked words from to name at → ¬ (at ≡ to) → at ≤ most_nodes
walk_low words from to name at e w f = let o = opened (w e.0 e.1).1 f in omega (arith, o.row.node_low, o.pointer)

pub walk_found : (words : List ℕ) (from to name at : ℕ) → Walked words from to name at → ¬ (at ≡ to) → get_or words (pointers_from + at) 0 % names ≡ name →
    (Δ : Scope) → Rows words from to Δ → RowFound words to name Δ (Some at)
walk_found words from to name at w f q Δ r =
    let s = w Δ r in
    let o = opened s.1 f in
    let is : o.name ≡ name = sym (ap (λ v. v % names) (pointer_word words at o.node o.pointer) ∙ row_name o.row) ∙ q in
    subst (λ p. RowFound words to name Δ (Some p)) (sym o.pointer)
    (present (s.2 ∙ ap (meaning_of name) o.split ∙ meaning_head name _ o.rest is)
    (subst (λ j. HasRow words o.node j (meaning_number o.meaning) o.link) is o.row) o.known
    (omega (arith, rows_order o.later, o.row.link_low)))

pub walk_absent : (words : List ℕ) (from to name at : ℕ) → Walked words from to name at → at ≡ to → (Δ : Scope) → Rows words from to Δ → RowFound words to name Δ None
walk_absent words from to name at w q Δ r =
    let s = w Δ r in
    absent (s.2 ∙ none_left at to s.0 s.1 q)
  where
    none_left : (at to : ℕ) (Δ : Scope) → Rows words at to Δ → at ≡ to → meaning_of name Δ ≡ none
    none_left at to Δ no_rows e = unfold meaning_of in refl
    none_left at to Δ (one_row h p n a r) e = absurd (clash (rows_order r) h.link_low e)
      where
        clash : {l k t : ℕ} → t ≤ l → l ≤ k → suc k ≡ t → ⊥
        clash a b c = omega arith

-- ---- A whole scope: its rows, then the registers.

append_absent : (x : ℕ) (Δ Γ : Scope) → meaning_of x Δ ≡ none → meaning_of x (Δ ++ Γ) ≡ meaning_of x Γ
unfolding meaning_of
append_absent x [] Γ q = refl
append_absent x (n ∷ Δ) Γ q = choose (eqb n.name x) q (append_absent x Δ Γ)
  where
    choose : (t : Bool) → cond t (some n.meaning) (meaning_of x Δ) ≡ none → (meaning_of x Δ ≡ none → meaning_of x (Δ ++ Γ) ≡ meaning_of x Γ) →
        cond t (some n.meaning) (meaning_of x (Δ ++ Γ)) ≡ meaning_of x Γ
    choose true p later = absurd (none-ne-some n.meaning (sym p))
    choose false p later = later p

append_present : (x : ℕ) (m : Meaning) (Δ Γ : Scope) → meaning_of x Δ ≡ some m → meaning_of x (Δ ++ Γ) ≡ some m
unfolding meaning_of
append_present x m [] Γ q = absurd (none-ne-some m q)
append_present x m (n ∷ Δ) Γ q = choose (eqb n.name x) q (append_present x m Δ Γ)
  where
    choose : (t : Bool) → cond t (some n.meaning) (meaning_of x Δ) ≡ some m → (meaning_of x Δ ≡ some m → meaning_of x (Δ ++ Γ) ≡ some m) →
        cond t (some n.meaning) (meaning_of x (Δ ++ Γ)) ≡ some m
    choose true p later = p
    choose false p later = later p

register_in : (x r : ℕ) → x < r → meaning_of x (register_scope r) ≡ some (code 2)
unfolding meaning_of register_scope
register_in x zero h = absurd (never h)
  where
    never : x < 0 → ⊥
    never l = omega arith
register_in x (suc r) h = choose (eqb r x) refl (register_in x r)
  where
    choose : (t : Bool) → eqb r x ≡ t → (x < r → meaning_of x (register_scope r) ≡ some (code 2)) → cond t (some (code 2)) (meaning_of x (register_scope r)) ≡ some (code 2)
    choose true q later = refl
    choose false q later = later (below (λ e. subst T q (subst (λ j. T (eqb r j)) e (eqb_refl r))))
      where
        below : (r ≡ x → ⊥) → x < r
        below f = omega (arith, h, f)

register_out : (x r : ℕ) → r ≤ x → meaning_of x (register_scope r) ≡ none
unfolding meaning_of register_scope
register_out x zero h = refl
register_out x (suc r) h = rw (false_test (eqb r x) (λ t. clash (eqb→eq r x t))) (register_out x r (omega arith))
  where
    clash : r ≡ x → ⊥
    clash e = omega arith

not_found : {words : List ℕ} {x : ℕ} {Δ : Scope} {p : Option ℕ} → RowFound words 0 x Δ p → p ≡ None → meaning_of x Δ ≡ none
not_found (absent q) e = q
not_found (present q h a l) e = absurd cc

module _ (words : List ℕ) (registers scope name : ℕ) (at : Option ℕ) (looked : (Δ : Scope) → Rows words scope 0 Δ → RowFound words 0 name Δ at) where
  pub lookup_register : at ≡ None → name < registers → (Γ : Scope) → ScopeAt words registers scope Γ → FoundAs words (meaning_of name Γ) (Some (record { meaning = 2; pointer = 0 }))
  lookup_register z h Γ s =
      subst (λ o. FoundAs words o (Some (record { meaning = 2; pointer = 0 })))
      (sym (ap (meaning_of name) s.whole ∙ append_absent name s.own (register_scope registers) (not_found (looked s.own s.rows) z) ∙ register_in name registers h)) found_register

  pub lookup_nothing : at ≡ None → registers ≤ name → (Γ : Scope) → ScopeAt words registers scope Γ → FoundAs words (meaning_of name Γ) None
  lookup_nothing z h Γ s =
      subst (λ o. FoundAs words o None)
      (sym (ap (meaning_of name) s.whole ∙ append_absent name s.own (register_scope registers) (not_found (looked s.own s.rows) z) ∙ register_out name registers h)) found_nothing

  module _ (pointer : ℕ) (is : at ≡ Some pointer) where
    pub lookup_row : (Γ : Scope) → ScopeAt words registers scope Γ → FoundAs words (meaning_of name Γ) (Some (record { meaning = get_or words (pointers_from + pointer) 0 / names % meaning_numbers; pointer = pointer }))
    lookup_row Γ s = by (looked s.own s.rows) is
      where
        by : {p : Option ℕ} → RowFound words 0 name s.own p → p ≡ Some pointer → FoundAs words (meaning_of name Γ) (Some (record { meaning = get_or words (pointers_from + pointer) 0 / names % meaning_numbers; pointer = pointer }))
        by (absent q) g = absurd cc
        by (present {k = k} {m = m} q h a l) g =
            let there : pointer ≡ suc k = cc in
            let number : get_or words (pointers_from + pointer) 0 / names % meaning_numbers ≡ meaning_number m = ap (λ v. v / names % meaning_numbers) (pointer_word words pointer k there) ∙ row_meaning h in
            let known : meaning_of name Γ ≡ some m = ap (meaning_of name) s.whole ∙ append_present name m s.own (register_scope registers) q in
            rw (known, number, there) (found_binding a)

    pub found_low : ((Γ : Scope) × ScopeAt words registers scope Γ) → pointer ≤ most_nodes
    found_low e = by (looked e.1.own e.1.rows) is
      where
        by : {p : Option ℕ} → RowFound words 0 name e.1.own p → p ≡ Some pointer → pointer ≤ most_nodes
        by (absent q) g = absurd cc
        by (present {k = k} q h a l) g = let there : pointer ≡ suc k = cc in omega (arith, h.node_low)

-- ---- Names that two lots of rows share.

has_by_meaning : (x : ℕ) (Δ : Scope) → meaning_of x Δ ≡ none → has_name x Δ ≡ false
unfolding has_name meaning_of
has_by_meaning x [] q = refl
has_by_meaning x (n ∷ Δ) q = choose (eqb n.name x) q (has_by_meaning x Δ)
  where
    choose : (t : Bool) → cond t (some n.meaning) (meaning_of x Δ) ≡ none → (meaning_of x Δ ≡ none → has_name x Δ ≡ false) → (t || has_name x Δ) ≡ false
    choose true p later = absurd (none-ne-some n.meaning (sym p))
    choose false p later = later p

has_by_some : (x : ℕ) (m : Meaning) (Δ : Scope) → meaning_of x Δ ≡ some m → has_name x Δ ≡ true
unfolding has_name meaning_of
has_by_some x m [] q = absurd (none-ne-some m q)
has_by_some x m (n ∷ Δ) q = choose (eqb n.name x) q (has_by_some x m Δ)
  where
    choose : (t : Bool) → cond t (some n.meaning) (meaning_of x Δ) ≡ some m → (meaning_of x Δ ≡ some m → has_name x Δ ≡ true) → (t || has_name x Δ) ≡ true
    choose true p later = refl
    choose false p later = later p

pub row_has : {words : List ℕ} {to x : ℕ} {Δ : Scope} {p : Option ℕ} → RowFound words to x Δ p → is_some p ≡ true → has_name x Δ ≡ true
row_has (absent q) e = absurd cc
row_has {x = x} {Δ = Δ} (present {m = m} q h a l) e = has_by_some x m Δ q

pub row_has_not : {words : List ℕ} {to x : ℕ} {Δ : Scope} {p : Option ℕ} → RowFound words to x Δ p → is_some p ≡ false → has_name x Δ ≡ false
row_has_not {x = x} {Δ = Δ} (absent q) e = has_by_meaning x Δ q
row_has_not (present q h a l) e = absurd cc

abbrev pub Compared : List ℕ → (from middle to at : ℕ) → Type 0
Compared words from middle to at =
    (Δ₁ Δ₂ : Scope) → Rows words middle to Δ₁ → Rows words from middle Δ₂ → (Δ' : Scope) × Rows words at to Δ' × (shares_name Δ₁ Δ₂ ≡ shares_name Δ' Δ₂)

module _ (words : List ℕ) (from middle to at : ℕ) (p : Option ℕ) (w : Compared words from middle to at) (f : ¬ (at ≡ to))
    (found : (Δ : Scope) → Rows words from middle Δ → RowFound words middle (get_or words (pointers_from + at) 0 % names) Δ p) where
  pub compare_shared : is_some p ≡ true → (Δ₁ Δ₂ : Scope) → Rows words middle to Δ₁ → Rows words from middle Δ₂ → true ≡ shares_name Δ₁ Δ₂
  compare_shared g Δ₁ Δ₂ r s =
      let c = w Δ₁ Δ₂ r s in
      let o = opened c.1 f in
      let is : o.name ≡ get_or words (pointers_from + at) 0 % names = sym (ap (λ v. v % names) (pointer_word words at o.node o.pointer) ∙ row_name o.row) in
      sym (c.2 ∙ ap (λ Δ. shares_name Δ Δ₂) o.split ∙ first_shared o.name o.meaning o.rest Δ₂ (ap (λ x. has_name x Δ₂) is ∙ row_has (found Δ₂ s) g))
    where
      first_shared : (x : ℕ) (m : Meaning) (Δ Γ : Scope) → has_name x Γ ≡ true → shares_name (record { name = x; meaning = m } ∷ Δ) Γ ≡ true
      first_shared x m Δ Γ q = unfold shares_name in (rw q)

  pub compare_on : is_some p ≡ false → Compared words from middle to (get_or words (pointers_from + at) 0 / link_factor)
  compare_on g Δ₁ Δ₂ r s =
      let c = w Δ₁ Δ₂ r s in
      let o = opened c.1 f in
      let word = pointer_word words at o.node o.pointer in
      let is : o.name ≡ get_or words (pointers_from + at) 0 % names = sym (ap (λ v. v % names) word ∙ row_name o.row) in (
        o.rest,
        subst (λ l. Rows words l to o.rest) (sym (ap (λ v. v / link_factor) word ∙ row_link o.row)) o.later,
        c.2 ∙ ap (λ Δ. shares_name Δ Δ₂) o.split ∙ first_not o.name o.meaning o.rest Δ₂ (ap (λ x. has_name x Δ₂) is ∙ row_has_not (found Δ₂ s) g),
      )
    where
      first_not : (x : ℕ) (m : Meaning) (Δ Γ : Scope) → has_name x Γ ≡ false → shares_name (record { name = x; meaning = m } ∷ Δ) Γ ≡ shares_name Δ Γ
      first_not x m Δ Γ q = unfold shares_name in (rw q)

pub compare_none : (words : List ℕ) (from middle to at : ℕ) → Compared words from middle to at → at ≡ to → (Δ₁ Δ₂ : Scope) → Rows words middle to Δ₁ → Rows words from middle Δ₂ → false ≡ shares_name Δ₁ Δ₂
compare_none words from middle to at w q Δ₁ Δ₂ r s = let c = w Δ₁ Δ₂ r s in sym (c.2 ∙ none_left at to c.0 c.1 q)
  where
    none_left : (at to : ℕ) (Δ : Scope) → Rows words at to Δ → at ≡ to → shares_name Δ Δ₂ ≡ false
    none_left at to Δ no_rows e = unfold shares_name in refl
    none_left at to Δ (one_row h p n a r) e = absurd (clash (rows_order r) h.link_low e)
      where
        clash : {l k t : ℕ} → t ≤ l → l ≤ k → suc k ≡ t → ⊥
        clash a b c = omega arith

module _ (words : List ℕ) (from middle to at : ℕ) (e : (Δ : Scope) × Rows words from middle Δ) (d : (Δ : Scope) × Rows words middle to Δ)
    (w : Compared words from middle to at) (f : ¬ (at ≡ to)) where
  pub compare_low : at ≤ most_nodes
  compare_low = let o = opened (w d.0 e.0 d.1 e.1).1 f in omega (arith, o.row.node_low, o.pointer)

  pub compare_less : get_or words (pointers_from + at) 0 / link_factor < at
  compare_less =
      let o = opened (w d.0 e.0 d.1 e.1).1 f in
      subst (λ v. v < at) (sym (ap (λ v. v / link_factor) (pointer_word words at o.node o.pointer) ∙ row_link o.row)) (omega (arith, o.row.link_low, o.pointer))
