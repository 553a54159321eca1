-- Expressions without children: Num and Boo from their operands, Id, DeRef and ValRef from the row of their name and the cells.
use Prim.Native.Nat.{ℕ, suc, ◌-◌, ◌<◌, ◌≤◌}
use mathlib.Core.Path.{◌≡◌, refl, sym, ap, ◌∙◌, subst}
use mathlib.Core.Bool.{Bool, true, false, not}
use mathlib.Core.List.{List, [], ◌∷◌}
use mathlib.Core.Option.{Option, none, some, some-injective}
use native.Mathlib.Omega.{arith}
use Rattle.std.specs.Prelude.{Some, None}
use lib.Dec.{T, lt→ltb}
use lib.IntN.{pos}
use lib.ListN.{get_or}
use Rattle.rules.specs.paper.Limits.{most_cells, most_bindings}
use Rattle.rules.specs.paper.Limits as Limits
use Rattle.rules.proofs.Basics.{missing}
use Rattle.rules.specs.paper.Integers.{in_range, range_bound}
use Rattle.rules.specs.paper.Tree.{Expression, Num, Boo, Id, DeRef, ValRef, Binary, Not}
use Rattle.rules.specs.paper.Needs.{Needs}
use Rattle.rules.specs.claims.Listing.{truth_word}
use Rattle.rules.specs.paper.Carried.{Carried, numbers, truths, location, unfit, fitting}
use Rattle.rules.specs.paper.Carrying.{CarriedCells, CarriedMeaning, a_value, a_function, CarriedNames, carried_at, carried_meaning, value_of, location_in, contents_at, carry_id, located, carry_expression}
use Rattle.rules.specs.paper.Kinds.{kind_number}
use Rattle.rules.specs.declared.kinds.ExpressionKind.{ExpressionKind}
use Rattle.rules.specs.declared.kinds.ExpressionKind.TheVariants.{Num as num, Boo as boo, Id as id, DeRef as deref, ValRef as valref}
use Rattle.rules.specs.declared.kinds.Kind.TheVariants.{Expression as expression_kind}
use Rattle.reader.specs.NodeKinds.{expression_kind_of}
use Rattle.reader.proofs.NodeKindLaws.{expression_is}
use Rattle.reader.specs.Pack.{packed_kind, packed_operand}
use Rattle.reader.specs.Stored.{StoredExpression}
use Rattle.reader.specs.Stored as Stored
use Rattle.reader.proofs.StoredFields.{kind_is, operand_is}
use Rattle.integers.specs.Words.{word_of}
use Rattle.intervals.specs.Values.{location_sort, flag, HoldsValue, holds_numbers, holds_truths, holds_location, Gives}
use Rattle.intervals.specs.declared.values.Value.{Value}
use Rattle.carrying.specs.Layout.{row_value, cell_value}
use Rattle.carrying.specs.States.{NamesAt, no_names, one_value, one_function, FoundAt, CellsAt, Sees}
use Rattle.carrying.specs.Answers.{Fits, Names, IsLeaf, ExpressionThere, SomeLeaf}
use Rattle.carrying.proofs.StateLaws.{names_few, row_is_value, holds_same, cell_there}

-- ---- The row of a value's name.

pub record ValueRow (words : List ℕ) (pointer : ℕ) (v : Carried) : Type 0 where
  pub some_row : 1 ≤ pointer
  pub few : pointer ≤ most_bindings
  pub holds : HoldsValue (row_value words pointer) v

abbrev newest_value : CarriedNames → Option Carried
newest_value [] = none
newest_value (n ∷ A) = value_of (some n.meaning)

row_of_value : {words : List ℕ} {limit r : ℕ} {v : Carried} {B : CarriedNames} {N : Needs} → NamesAt words limit r B N → newest_value B ≡ some v → ValueRow words r v
row_of_value no_names q = missing q
row_of_value {words} {v = v} (one_value {k = k} {v = w} row h older) q =
    record {
      some_row = omega arith;
      few = names_few (one_value row h older);
      holds = subst (HoldsValue (row_value words (suc k))) (some-injective w v q) (holds_same (sym (row_is_value row)) h);
    }
row_of_value (one_function row p tree end older) q = missing q

pub found_value : {words : List ℕ} {environment : ℕ} {A : CarriedNames} {K : CarriedCells} (x r : ℕ) (v : Carried) → FoundAt words environment x (Some r) → Sees words environment A K →
    carried_meaning x A ≡ some (a_value v) → ValueRow words r v
found_value {A = A} x r v found sees q = row_of_value (found sees.limit A sees.needs (a_value v) sees.names_are q).names_there refl

-- ---- Which leaf stands there.

abbrev value_with : (sort low high : ℕ) → Value
value_with s l h = record { sort = s; low = l; high = h }

-- One of the three that name something.
pub data Naming (node x : ℕ) : ExpressionKind → Expression → Type 0 where
  by_id : Naming node x id (Id node x)
  by_deref : Naming node x deref (DeRef node x)
  by_valref : Naming node x valref (ValRef node x)

pub id_not_deref : ◌≡◌ {A = ExpressionKind} id deref → ⊥
id_not_deref q = cc

number_small : (n : ℕ) → n < Limits.words → T (in_range (pos n))
number_small n h = lt→ltb n range_bound (omega (arith, h))

flag_of : (b : Bool) → truth_word b ≡ flag b
flag_of false = refl
flag_of true = refl

flag_of_not : (b : Bool) → 1 - truth_word b ≡ flag (not b)
flag_of_not false = refl
flag_of_not true = refl

truth_small : (b : Bool) → truth_word b ≤ 1
truth_small false = omega arith
truth_small true = omega arith

-- A leaf that is neither Num nor Boo names something.
pub names_left : (words : List ℕ) (environment node : ℕ) (k : ExpressionKind) → kind_number (expression_kind k) ≡ packed_kind (get_or words node 0) → (k ≡ num → ⊥) → (k ≡ boo → ⊥) → SomeLeaf words environment node → Names k
names_left words environment node k known not_number not_truth s = by s.0 s.5 (let same = expression_is (expression_kind k) s.3.tree known in cc)
  where
    by : (e : Expression) → IsLeaf e → k ≡ expression_kind_of e → Names k
    by (Num p n) l q = absurd (not_number q)
    by (Boo p b) l q = absurd (not_truth q)
    by (Id p x) l q = subst Names (sym q) tt
    by (DeRef p x) l q = subst Names (sym q) tt
    by (ValRef p x) l q = subst Names (sym q) tt
    by (Binary p o e₁ e₂) l q = absurd l
    by (Not p e) l q = absurd l

module _ (words : List ℕ) (environment node word : ℕ) (operand : word ≡ packed_operand (get_or words node 0)) where
  -- Num.
  pub number_gives : kind_number (expression_kind num) ≡ packed_kind (get_or words node 0) → (e : Expression) (A : CarriedNames) (K : CarriedCells) → ExpressionThere words environment node e A K → IsLeaf e →
      Gives (carry_expression A K e) (value_with 0 word word)
  unfolding carry_expression word_of
  number_gives q e A K there leaf = by there.tree leaf
    where
      by : {d j : ℕ} {e : Expression} → StoredExpression words d node j e → IsLeaf e → Gives (carry_expression A K e) (value_with 0 word word)
      by (Stored.num {n = n} h) l = let same : word ≡ n = operand ∙ operand_is h (omega arith) in holds_numbers refl same same (number_small n h.operand_low) (number_small n h.operand_low)
      by (Stored.boo h) l = absurd (omega (arith, q, kind_is h (omega arith)))
      by (Stored.id n h) l = absurd (omega (arith, q, kind_is h (omega arith)))
      by (Stored.deref n h) l = absurd (omega (arith, q, kind_is h (omega arith)))
      by (Stored.valref n h) l = absurd (omega (arith, q, kind_is h (omega arith)))
      by (Stored.binary h a b) l = absurd l
      by (Stored.negation h a) l = absurd l

  -- Boo.
  module _ (q : kind_number (expression_kind boo) ≡ packed_kind (get_or words node 0)) where
    only_truth : {d j : ℕ} {e : Expression} (X : Expression → Type 0) → ((b : Bool) → word ≡ truth_word b → X (Boo node b)) → StoredExpression words d node j e → IsLeaf e → X e
    only_truth X give (Stored.num h) l = absurd (omega (arith, q, kind_is h (omega arith)))
    only_truth X give (Stored.boo {b = b} h) l = give b (operand ∙ operand_is h (omega arith))
    only_truth X give (Stored.id n h) l = absurd (omega (arith, q, kind_is h (omega arith)))
    only_truth X give (Stored.deref n h) l = absurd (omega (arith, q, kind_is h (omega arith)))
    only_truth X give (Stored.valref n h) l = absurd (omega (arith, q, kind_is h (omega arith)))
    only_truth X give (Stored.binary h a b) l = absurd l
    only_truth X give (Stored.negation h a) l = absurd l

    pub truth_low : SomeLeaf words environment node → word ≤ 1
    truth_low s = only_truth (λ e. word ≤ 1) (λ b same. omega (arith, same, truth_small b)) s.3.tree s.5

    pub truth_gives : (e : Expression) (A : CarriedNames) (K : CarriedCells) → ExpressionThere words environment node e A K → IsLeaf e → Gives (carry_expression A K e) (value_with 2 (1 - word) word)
    unfolding carry_expression
    truth_gives e A K there leaf =
        only_truth (λ e. Gives (carry_expression A K e) (value_with 2 (1 - word) word)) (λ b same. holds_truths refl (ap (λ w. 1 - w) same ∙ flag_of_not b) (same ∙ flag_of b)) there.tree leaf

  -- The others name something.
  module _ (k : ExpressionKind) (known : kind_number (expression_kind k) ≡ packed_kind (get_or words node 0)) (names : Names k) where
    naming : {d j : ℕ} {e : Expression} → expression_kind k ≡ expression_kind (expression_kind_of e) → StoredExpression words d node j e → IsLeaf e → Naming node word k e
    naming q (Stored.num h) l = let same : k ≡ num = cc in absurd (subst Names same names)
    naming q (Stored.boo h) l = let same : k ≡ boo = cc in absurd (subst Names same names)
    naming q (Stored.id {x = x} n h) l = both (cc) (operand ∙ operand_is h (omega arith))
      where
        both : k ≡ id → word ≡ x → Naming node word k (Id node x)
        both p q = subst (λ w. Naming node word w (Id node x)) (sym p) (subst (λ y. Naming node y id (Id node x)) (sym q) by_id)
    naming q (Stored.deref {x = x} n h) l = both (cc) (operand ∙ operand_is h (omega arith))
      where
        both : k ≡ deref → word ≡ x → Naming node word k (DeRef node x)
        both p q = subst (λ w. Naming node word w (DeRef node x)) (sym p) (subst (λ y. Naming node y deref (DeRef node x)) (sym q) by_deref)
    naming q (Stored.valref {x = x} n h) l = both (cc) (operand ∙ operand_is h (omega arith))
      where
        both : k ≡ valref → word ≡ x → Naming node word k (ValRef node x)
        both p q = subst (λ w. Naming node word w (ValRef node x)) (sym p) (subst (λ y. Naming node y valref (ValRef node x)) (sym q) by_valref)
    naming q (Stored.binary h a b) l = absurd l
    naming q (Stored.negation h a) l = absurd l

    pub leaf_names : {e : Expression} {A : CarriedNames} {K : CarriedCells} → ExpressionThere words environment node e A K → IsLeaf e → Naming node word k e
    leaf_names there leaf = naming (expression_is (expression_kind k) there.tree known) there.tree leaf

-- ---- What a name's row and the cells give.

-- A name whose carrying is fit is bound to a value.
module _ (node x : ℕ) where
  pub bound_value : {k : ExpressionKind} {e : Expression} (A : CarriedNames) (K : CarriedCells) → Naming node x k e → Fits (carry_expression A K e) → (v : Carried) × (carried_meaning x A ≡ some (a_value v))
  unfolding carry_expression
  bound_value A K by_id fits = by (carried_meaning x A) refl fits
    where
      by : (m : Option CarriedMeaning) → carried_meaning x A ≡ m → (fitting (carry_id (value_of m) K) ≡ unfit → ⊥) → (v : Carried) × (carried_meaning x A ≡ some (a_value v))
      by none q f = absurd (f refl)
      by (some (a_value v)) q f = (v, q)
      by (some (a_function g)) q f = absurd (f refl)
  bound_value A K by_deref fits = by (carried_meaning x A) refl fits
    where
      by : (m : Option CarriedMeaning) → carried_meaning x A ≡ m → (fitting (located (location_in (value_of m))) ≡ unfit → ⊥) → (v : Carried) × (carried_meaning x A ≡ some (a_value v))
      by none q f = absurd (f refl)
      by (some (a_value v)) q f = (v, q)
      by (some (a_function g)) q f = absurd (f refl)
  bound_value A K by_valref fits = by (carried_meaning x A) refl fits
    where
      by : (m : Option CarriedMeaning) → carried_meaning x A ≡ m → (fitting (contents_at (location_in (contents_at (location_in (value_of m)) K)) K) ≡ unfit → ⊥) → (v : Carried) × (carried_meaning x A ≡ some (a_value v))
      by none q f = absurd (f refl)
      by (some (a_value v)) q f = (v, q)
      by (some (a_function g)) q f = absurd (f refl)

-- Its row is found.
pub some_found : (words : List ℕ) (environment node x : ℕ) → FoundAt words environment x None → {k : ExpressionKind} {e : Expression} {A : CarriedNames} {K : CarriedCells} → Naming node x k e → Fits (carry_expression A K e) →
    Sees words environment A K → ⊥
some_found words environment node x found {A = A} {K = K} named fits sees = let v = bound_value node x A K named fits in found sees.limit A sees.needs (a_value v.0) sees.names_are v.1

module _ (words : List ℕ) (environment node x r : ℕ) (found : FoundAt words environment x (Some r)) where
  pub row_found : {k : ExpressionKind} {e : Expression} {A : CarriedNames} {K : CarriedCells} → Naming node x k e → Fits (carry_expression A K e) → Sees words environment A K → (1 ≤ r) × (r ≤ most_bindings)
  row_found {A = A} {K = K} named fits sees =
      let v = bound_value node x A K named fits in
      let row = found_value x r v.0 found sees v.1 in
      (row.some_row, row.few)

  -- What a leaf gives by the row's value: `give` of the value, as the rules say.
  by_row : {A : CarriedNames} {K : CarriedCells} (give : Option Carried → Option Carried) (s : Value) → give none ≡ none → Sees words environment A K →
      ((v : Carried) → HoldsValue (row_value words r) v → Gives (fitting (give (some v))) s) → Gives (fitting (give (value_of (carried_meaning x A)))) s
  by_row {A = A} give s nothing sees each = by (carried_meaning x A) refl
    where
      by : (m : Option CarriedMeaning) → carried_meaning x A ≡ m → Gives (fitting (give (value_of m))) s
      by none q = rw nothing tt
      by (some (a_value v)) q = each v (found_value x r v found sees q).holds
      by (some (a_function g)) q = rw nothing tt

  -- DeRef gives the row's value.
  pub deref_gives : {e : Expression} {A : CarriedNames} {K : CarriedCells} {k : ExpressionKind} (s : Value) → s ≡ row_value words r → Sees words environment A K → k ≡ deref → Naming node x k e → Gives (carry_expression A K e) s
  unfolding carry_expression
  deref_gives s same sees q by_id = absurd cc
  deref_gives {A = A} {K = K} s same sees q by_deref = by_row {A = A} {K = K} (λ v. located (location_in v)) s refl sees each
    where
      each : (v : Carried) → HoldsValue (row_value words r) v → Gives (fitting (located (location_in (some v)))) s
      each (numbers a b) h = tt
      each (truths f t) h = tt
      each (location l) h = holds_same (sym same) h
  deref_gives s same sees q by_valref = absurd cc

  -- So does Id, and DeRef and ValRef are given another sort, where the row's value is no location.
  pub plain_gives : {e : Expression} {A : CarriedNames} {K : CarriedCells} {k : ExpressionKind} (s : Value) → s ≡ row_value words r → (s.sort ≡ location_sort → ⊥) → Sees words environment A K → Naming node x k e →
      Gives (carry_expression A K e) s
  unfolding carry_expression
  plain_gives {A = A} {K = K} s same other sees named = by named
    where
      no_location : {l : ℕ} → HoldsValue s (location l) → ⊥
      no_location (holds_location p i j) = other p

      by_id_value : (v : Carried) → HoldsValue (row_value words r) v → Gives (fitting (carry_id (some v) K)) s
      by_id_value (numbers a b) h = holds_same (sym same) h
      by_id_value (truths f t) h = holds_same (sym same) h
      by_id_value (location l) h = absurd (no_location (holds_same (sym same) h))

      by_deref_value : (v : Carried) → HoldsValue (row_value words r) v → Gives (fitting (located (location_in (some v)))) s
      by_deref_value (numbers a b) h = tt
      by_deref_value (truths f t) h = tt
      by_deref_value (location l) h = absurd (no_location (holds_same (sym same) h))

      by_valref_value : (v : Carried) → HoldsValue (row_value words r) v → Gives (fitting (contents_at (location_in (contents_at (location_in (some v)) K)) K)) s
      by_valref_value (numbers a b) h = tt
      by_valref_value (truths f t) h = tt
      by_valref_value (location l) h = absurd (no_location (holds_same (sym same) h))

      by : {k : ExpressionKind} {e : Expression} → Naming node x k e → Gives (carry_expression A K e) s
      by by_id = by_row {A = A} {K = K} (λ v. carry_id v K) s refl sees by_id_value
      by by_deref = by_row {A = A} {K = K} (λ v. located (location_in v)) s refl sees by_deref_value
      by by_valref = by_row {A = A} {K = K} (λ v. contents_at (location_in (contents_at (location_in v) K)) K) s refl sees by_valref_value

  -- ---- The row's value is a location.

  location_row : {s : Value} {v : Carried} → s.sort ≡ location_sort → HoldsValue s v → v ≡ location s.low
  location_row q (holds_numbers p i j a b) = absurd (omega (arith, p, q))
  location_row q (holds_truths p i j) = absurd (omega (arith, p, q))
  location_row q (holds_location p i j) = ap location (sym i)

  -- A cell that is there.
  some_cell : {n : ℕ} {K : CarriedCells} (l : ℕ) → CellsAt words n K → n ≤ most_cells → (fitting (carried_at l K) ≡ unfit → ⊥) → l < most_cells
  some_cell {n = n} {K = K} l cells few fits = by (carried_at l K) refl fits
    where
      by : (o : Option Carried) → carried_at l K ≡ o → (fitting o ≡ unfit → ⊥) → l < most_cells
      by none q f = absurd (f refl)
      by (some w) q f = omega (arith, few, (cell_there l w cells q).among)

  valref_cell : {n : ℕ} {K : CarriedCells} (l : ℕ) → CellsAt words n K → n ≤ most_cells → (fitting (contents_at (location_in (carried_at l K)) K) ≡ unfit → ⊥) → l < most_cells
  valref_cell {n = n} {K = K} l cells few fits = by (carried_at l K) refl fits
    where
      by : (o : Option Carried) → carried_at l K ≡ o → (fitting (contents_at (location_in o) K) ≡ unfit → ⊥) → l < most_cells
      by none q f = absurd (f refl)
      by (some w) q f = omega (arith, few, (cell_there l w cells q).among)

  module _ (s : Value) (same : s ≡ row_value words r) (is_location : s.sort ≡ location_sort) where
    the_location : {A : CarriedNames} {K : CarriedCells} (v : Carried) → Sees words environment A K → carried_meaning x A ≡ some (a_value v) → v ≡ location s.low
    the_location v sees q = location_row is_location (holds_same (sym same) (found_value x r v found sees q).holds)

    meaning_there : {A : CarriedNames} {K : CarriedCells} {k : ExpressionKind} {e : Expression} → Sees words environment A K → Naming node x k e → Fits (carry_expression A K e) → carried_meaning x A ≡ some (a_value (location s.low))
    meaning_there {A = A} {K = K} sees named fits =
        let v = bound_value node x A K named fits in
        v.1 ∙ ap (λ w. some (a_value w)) (the_location v.0 sees v.1)

    pub cell_among : {A : CarriedNames} {K : CarriedCells} {k : ExpressionKind} {e : Expression} → Sees words environment A K → (k ≡ deref → ⊥) → Naming node x k e → Fits (carry_expression A K e) → s.low < most_cells
    unfolding carry_expression
    cell_among {A = A} {K = K} sees q by_id fits = some_cell s.low sees.cells_are sees.count_few (λ p. fits (ap (λ m. fitting (carry_id (value_of m) K)) (meaning_there {A = A} {K = K} sees by_id fits) ∙ p))
    cell_among sees q by_deref fits = absurd (q refl)
    cell_among {A = A} {K = K} sees q by_valref fits =
        valref_cell s.low sees.cells_are sees.count_few
        (λ p. fits (ap (λ m. fitting (contents_at (location_in (contents_at (location_in (value_of m)) K)) K)) (meaning_there {A = A} {K = K} sees by_valref fits) ∙ p))

    module _ (t : Value) (there : t ≡ cell_value words s.low) where
      -- Id gives the cell's contents.
      pub contents_gives : {e : Expression} {A : CarriedNames} {K : CarriedCells} {k : ExpressionKind} → Sees words environment A K → k ≡ id → Naming node x k e → Gives (carry_expression A K e) t
      unfolding carry_expression
      contents_gives {A = A} {K = K} sees q by_id = by_row {A = A} {K = K} (λ v. carry_id v K) t refl sees each
        where
          inside : (o : Option Carried) → carried_at s.low K ≡ o → Gives (fitting o) t
          inside none p = tt
          inside (some w) p = holds_same (sym there) (cell_there s.low w sees.cells_are p).holds

          each : (v : Carried) → HoldsValue (row_value words r) v → Gives (fitting (carry_id (some v) K)) t
          each v h = subst (λ w. Gives (fitting (carry_id (some w) K)) t) (sym (location_row is_location (holds_same (sym same) h))) (inside (carried_at s.low K) refl)
      contents_gives sees q by_deref = absurd cc
      contents_gives sees q by_valref = absurd cc

      -- ValRef finds a location there.
      shown : {A : CarriedNames} {K : CarriedCells} → Sees words environment A K → (fitting (contents_at (location_in (carried_at s.low K)) K) ≡ unfit → ⊥) → t.low < most_cells
      shown {K = K} sees fits = by (carried_at s.low K) refl fits
        where
          by : (o : Option Carried) → carried_at s.low K ≡ o → (fitting (contents_at (location_in o) K) ≡ unfit → ⊥) → t.low < most_cells
          by none q f = absurd (f refl)
          by (some (numbers a b)) q f = absurd (f refl)
          by (some (truths g u)) q f = absurd (f refl)
          by (some (location l)) q f = within (holds_same (sym there) (cell_there s.low (location l) sees.cells_are q).holds) (some_cell l sees.cells_are sees.count_few f)
            where
              within : HoldsValue t (location l) → l < most_cells → t.low < most_cells
              within (holds_location p i j) few = omega (arith, i, few)

      pub shown_among : {A : CarriedNames} {K : CarriedCells} {k : ExpressionKind} {e : Expression} → Sees words environment A K → (k ≡ deref → ⊥) → (k ≡ id → ⊥) → Naming node x k e →
          Fits (carry_expression A K e) → t.low < most_cells
      unfolding carry_expression
      shown_among sees q f by_id fits = absurd (f refl)
      shown_among sees q f by_deref fits = absurd (q refl)
      shown_among {A = A} {K = K} sees q f by_valref fits =
          shown {A = A} sees (λ p. fits (ap (λ m. fitting (contents_at (location_in (contents_at (location_in (value_of m)) K)) K)) (meaning_there {A = A} {K = K} sees by_valref fits) ∙ p))

      pub shown_gives : {e : Expression} {A : CarriedNames} {K : CarriedCells} {k : ExpressionKind} (u : Value) → u ≡ cell_value words t.low → Sees words environment A K → (k ≡ deref → ⊥) → (k ≡ id → ⊥) →
          Naming node x k e → Gives (carry_expression A K e) u
      unfolding carry_expression
      shown_gives u last sees q f by_id = absurd (f refl)
      shown_gives u last sees q f by_deref = absurd (q refl)
      shown_gives {A = A} {K = K} u last sees q f by_valref = by_row {A = A} {K = K} (λ v. contents_at (location_in (contents_at (location_in v) K)) K) u refl sees each
        where
          second : (l : ℕ) → t.low ≡ l → (o : Option Carried) → carried_at l K ≡ o → Gives (fitting o) u
          second l e none p = tt
          second l e (some w) p = holds_same (ap (cell_value words) (sym e) ∙ sym last) (cell_there l w sees.cells_are p).holds

          inside : (o : Option Carried) → carried_at s.low K ≡ o → Gives (fitting (contents_at (location_in o) K)) u
          inside none p = tt
          inside (some (numbers a b)) p = tt
          inside (some (truths g k)) p = tt
          inside (some (location l)) p = at_shown (holds_same (sym there) (cell_there s.low (location l) sees.cells_are p).holds)
            where
              at_shown : HoldsValue t (location l) → Gives (fitting (carried_at l K)) u
              at_shown (holds_location a i j) = second l i (carried_at l K) refl

          each : (v : Carried) → HoldsValue (row_value words r) v → Gives (fitting (contents_at (location_in (contents_at (location_in (some v)) K)) K)) u
          each v h =
              subst (λ w. Gives (fitting (contents_at (location_in (contents_at (location_in (some w)) K)) K)) u) (sym (location_row is_location (holds_same (sym same) h)))
              (inside (carried_at s.low K) refl)
