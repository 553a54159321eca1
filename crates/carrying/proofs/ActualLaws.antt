-- A Call's actuals, last to first, each in its row; and its function's Formals, which give the rows their names.
use Prim.Native.Nat.{ℕ, suc, ◌+◌, ◌-◌, ◌%◌, ◌<◌, ◌≤◌}
use mathlib.Core.Path.{◌≡◌, refl, sym, ap, ◌∙◌, subst}
use mathlib.Core.List.{List, [], ◌∷◌}
use Rattle.std.specs.Prelude.{Ok, Err}
use Rattle.rules.specs.declared.refusals.Refused.{Refused}
use mathlib.Core.Option.{some-injective}
use native.Mathlib.Omega.{arith}
use Rattle.rules.proofs.Basics.{missing}
use lib.ListN.{get_or}
use Rattle.rules.specs.paper.Limits.{most_nodes, most_bindings, most_cells, names}
use Rattle.rules.specs.paper.Tree.{Expression, Formal}
use Rattle.rules.specs.paper.Needs.{nothing, over_formals}
use Rattle.rules.specs.paper.Carried.{Carried, Carrying, carried, unsafe, unfit, ◌>>=◌}
use Rattle.rules.specs.paper.Carrying.{CarriedCells, CarriedNames, carry_formals, carry_expression, carry_actuals}
use Rattle.reader.specs.Pack.{packed_end, packed_operand}
use Rattle.reader.specs.Stored.{StoredExpression, StoredActuals, one_actual, StoredFormals, one_formal}
use Rattle.reader.proofs.StoredFields.{operand_is}
use Rattle.reader.specs.StoredLaws.{same_expression, same_formals}
use Rattle.reader.proofs.StandingLaws.{after_node, operand_name, expression_low, expression_end}
use Rattle.intervals.specs.Values.{HoldsValue, ExpressedAs}
use Rattle.intervals.specs.declared.values.Value.{Value}
use Rattle.carrying.specs.Layout.{row_links, row_lows, row_highs, sorts, row_value}
use Rattle.carrying.specs.States.{valued, needing, NamesAt, one_value, Sees}
use Rattle.carrying.specs.Frames.{Keeps, KeepsCells, PutRow}
use Rattle.carrying.specs.Answers.{Fits, ExpressionThere, SomeExpression, ExpressionCarried, ValuesAt, no_values, one_value_more, ActualsThere, SomeActuals, ActualsAs, ActualsCarried, FormalsThere, SomeFormals, FormalsNamed}
use Rattle.carrying.proofs.ResultLaws.{ok_not_err, same_refusal}
use Rattle.carrying.proofs.FrameLaws.{keeps_all, keeps_all_cells, keeps_fewer, keeps_then, keeps_cells_then, row_keeps, row_keeps_cells, kept_nodes}
use Rattle.carrying.proofs.StateLaws.{names_kept, row_there, row_is_value, sort_small, holds_same, cells_kept}
use Rattle.carrying.proofs.DeclarationLaws.{first_fits, answer_held, value_held}

-- ---- Values in their rows.

-- A row that is put leaves the later ones.
values_kept : {words words' : List ℕ} {row name below k : ℕ} {value : Value} {vs : List Carried} → row < most_bindings → PutRow words words' row name below value → row < k → ValuesAt words k vs → ValuesAt words' k vs
values_kept few put later no_values = no_values
values_kept {k = k} few put later (one_value_more at holds others) =
    one_value_more
    (record {
      link_is = put.others (row_links + k) (omega (arith, later)) (omega (arith, few, at.row_few)) (omega (arith, few, at.row_few)) ∙ at.link_is;
      low_is = put.others (row_lows + k) (omega (arith, few, at.row_few)) (omega (arith, later)) (omega (arith, few, at.row_few)) ∙ at.low_is;
      high_is = put.others (row_highs + k) (omega (arith, few, at.row_few)) (omega (arith, few, at.row_few)) (omega (arith, later)) ∙ at.high_is;
      row_few = at.row_few;
      name_low = at.name_low;
      sort_low = at.sort_low;
      below_older = at.below_older;
    })
    holds (values_kept few put (omega (arith, later)) others)

sees_kept : {words words' : List ℕ} {environment row : ℕ} {A : CarriedNames} {K : CarriedCells} → Keeps words words' row most_cells → KeepsCells words words' most_cells → environment ≤ row →
    Sees words environment A K → Sees words' environment A K
sees_kept kept cells h sees =
    record {
      limit = sees.limit;
      needs = sees.needs;
      count = sees.count;
      names_are = names_kept kept h sees.names_are;
      cells_are = cells_kept kept cells sees.count_few sees.cells_are;
      count_few = sees.count_few;
    }

-- ---- Actuals.

module _ (words : List ℕ) (environment node left row : ℕ) where
  pub no_actual_left : left ≡ 0 → ActualsCarried words words environment node left row (Ok tt)
  unfolding carry_actuals
  no_actual_left z [] A K there = (refl, sym z, no_values)
  no_actual_left z (e ∷ es) A K there = absurd (omega (arith, z, there.as_many))

  module _ (some_left : left ≡ 0 → ⊥) where
    -- The first of them and those after it.
    record First (e : Expression) (es : List Expression) (A : CarriedNames) (K : CarriedCells) : Type 0 where
      depth : ℕ
      end : ℕ
      tree : StoredExpression words depth node end e
      row_few : row < most_bindings
      later : ActualsThere words environment end (left - 1) (row + 1) es A K

    first_of : {e : Expression} {es : List Expression} {A : CarriedNames} {K : CarriedCells} → ActualsThere words environment node left row (e ∷ es) A K → First e es A K
    first_of {e} {es} {A} {K} there = by there.tree
      where
        by : {d j : ℕ} → StoredActuals words d node j (e ∷ es) → First e es A K
        by {d} {j} (one_actual {j = m} tree others) =
            record {
              depth = d;
              end = m;
              tree = tree;
              row_few = omega (arith, some_left, there.row_room);
              later = record {
                depth = d;
                next = j;
                tree = others;
                as_many = omega (arith, there.as_many);
                sees = there.sees;
                pointed = omega (arith, there.pointed);
                row_room = omega (arith, some_left, there.row_room);
              };
            }

    split : {R : Type 0} → SomeActuals words environment node left row →
        ((e : Expression) (es : List Expression) (A : CarriedNames) (K : CarriedCells) → First e es A K → ActualsThere words environment node left row (e ∷ es) A K → Fits (carry_actuals A K (e ∷ es)) → R) → R
    split {R} s go = by s.0 s.3 s.4 go
      where
        by : (es : List Expression) → ActualsThere words environment node left row es s.1 s.2 → Fits (carry_actuals s.1 s.2 es) →
            ((e : Expression) (es : List Expression) (A : CarriedNames) (K : CarriedCells) → First e es A K → ActualsThere words environment node left row (e ∷ es) A K → Fits (carry_actuals A K (e ∷ es)) → R) → R
        by [] there fits go = absurd (some_left (sym there.as_many))
        by (e ∷ es) there fits go = go e es s.1 s.2 (first_of there) there fits

    pub actuals_low : SomeActuals words environment node left row → (node < most_nodes) × (row < most_bindings)
    actuals_low s = split s (λ e es A K first there fits. (expression_low first.tree, first.row_few))

    module _ (after : ℕ) (ends : after ≡ packed_end (get_or words node 0)) where
      later_of : {e : Expression} {es : List Expression} {A : CarriedNames} {K : CarriedCells} → First e es A K → ActualsThere words environment after (left - 1) (row + 1) es A K
      later_of {es = es} {A = A} {K = K} first = subst (λ i. ActualsThere words environment i (left - 1) (row + 1) es A K) (sym (ends ∙ expression_end first.tree)) first.later

      pub later_there : SomeActuals words environment node left row → SomeActuals words environment after (left - 1) (row + 1)
      unfolding carry_actuals
      later_there s = split s (λ e es A K first there fits. (es, A, K, later_of first, first_fits (carry_actuals A K es) _ fits))

      -- A later one is unsafe.
      pub later_unsafe : (words₁ : List ℕ) (refused : Refused) → ActualsCarried words words₁ environment after (left - 1) (row + 1) (Err refused) → ActualsCarried words words₁ environment node left row (Err refused)
      unfolding carry_actuals
      later_unsafe words₁ refused carries [] A K there = absurd (some_left (sym there.as_many))
      later_unsafe words₁ refused carries (e ∷ es) A K there = by (carry_actuals A K es) (carries es A K (later_of (first_of there)))
        where
          by : (m : Carrying (List Carried)) → ActualsAs words₁ (left - 1) (row + 1) m (Err refused) → ActualsAs words₁ left row (m >>= λ vs. carry_expression A K e >>= λ v. carried (v ∷ vs)) (Err refused)
          by (carried vs) (p, many, values) = ok_not_err (sym p)
          by (unsafe p) answer = answer
          by unfit answer = tt

      module _ (words₁ : List ℕ) (carries : ActualsCarried words words₁ environment after (left - 1) (row + 1) (Ok tt)) (kept : Keeps words words₁ (row + 1) most_cells) (cells : KeepsCells words words₁ most_cells) where
        seen_first : {e : Expression} {es : List Expression} {A : CarriedNames} {K : CarriedCells} → First e es A K → ActualsThere words environment node left row (e ∷ es) A K →
            ExpressionThere words₁ environment node e A K
        seen_first first there =
            record { depth = first.depth; next = first.end; tree = same_expression words words₁ (kept_nodes kept) first.tree; sees = sees_kept kept cells (omega (arith, there.pointed)) there.sees }

        -- The later ones are carried, so that this one's carrying is fit.
        pub first_there : SomeActuals words environment node left row → SomeExpression words₁ environment node
        unfolding carry_actuals
        first_there s = split s (λ e es A K first there fits. (e, A, K, seen_first first there, by e A K (carry_actuals A K es) (carries es A K (later_of first)) fits))
          where
            by : (e : Expression) (A : CarriedNames) (K : CarriedCells) (m : Carrying (List Carried)) → ActualsAs words₁ (left - 1) (row + 1) m (Ok tt) →
                Fits {A = List Carried} (m >>= λ vs. carry_expression A K e >>= λ v. carried (v ∷ vs)) → Fits (carry_expression A K e)
            by e A K (carried vs) answer fits = first_fits (carry_expression A K e) _ fits
            by e A K (unsafe p) answer fits = ok_not_err answer
            by e A K unfit answer fits = absurd (fits refl)

        pub first_unsafe : (refused : Refused) → ExpressionCarried words₁ environment node (Err refused) → ActualsCarried words words₁ environment node left row (Err refused)
        unfolding carry_actuals
        first_unsafe refused expressed [] A K there = absurd (some_left (sym there.as_many))
        first_unsafe refused expressed (e ∷ es) A K there = by (carry_actuals A K es) (carries es A K (later_of (first_of there))) (carry_expression A K e) (expressed e A K (seen_first (first_of there) there))
          where
            by : (m : Carrying (List Carried)) → ActualsAs words₁ (left - 1) (row + 1) m (Ok tt) → (n : Carrying Carried) → ExpressedAs n (Err refused) →
                ActualsAs words₁ left row (m >>= λ vs. n >>= λ v. carried (v ∷ vs)) (Err refused)
            by (carried vs) later (carried v) (y, same, holds) = ok_not_err (sym same)
            by (carried vs) later (unsafe p) answer = same_refusal answer
            by (carried vs) later unfit answer = tt
            by (unsafe p) later n answer = ok_not_err later
            by unfit later n answer = tt

        module _ (value : Value) (expressed : ExpressionCarried words₁ environment node (Ok value)) where
          pub actual_sort : SomeActuals words environment node left row → value.sort < sorts
          actual_sort s = let t = first_there s in sort_small (value_held (carry_expression t.1 t.2 t.0) value t.4 (expressed t.0 t.1 t.2 t.3)).2

          module _ (words₂ : List ℕ) (put : PutRow words₁ words₂ row 0 0 value) where
            pub actual_put : ActualsCarried words words₂ environment node left row (Ok tt)
            unfolding carry_actuals
            actual_put [] A K there = absurd (some_left (sym there.as_many))
            actual_put (e ∷ es) A K there = by (carry_actuals A K es) (carries es A K (later_of first)) (carry_expression A K e) (expressed e A K (seen_first first there))
              where
                first : First e es A K
                first = first_of there

                by : (m : Carrying (List Carried)) → ActualsAs words₁ (left - 1) (row + 1) m (Ok tt) → (n : Carrying Carried) → ExpressedAs n (Ok value) →
                    ActualsAs words₂ left row (m >>= λ vs. n >>= λ v. carried (v ∷ vs)) (Ok tt)
                by (carried vs) (p, many, values) (carried v) answer =
                    let holds = answer_held answer in (
                      refl,
                      omega (arith, many, some_left),
                      one_value_more (row_there first.row_few (omega arith) (sort_small holds) (omega arith) put) holds
                          (values_kept first.row_few put (omega arith) (subst (λ k. ValuesAt words₁ k vs) (sym (after_node row)) values)),
                    )
                by (carried vs) later (unsafe p) answer = ok_not_err answer
                by (carried vs) later unfit answer = tt
                by (unsafe p) later n answer = ok_not_err later
                by unfit later n answer = tt

-- ---- Formals.

module _ (words : List ℕ) (formal left row below : ℕ) where
  pub no_formal_left : left ≡ 0 → FormalsNamed words words formal left row below below
  unfolding carry_formals over_formals
  no_formal_left z [] [] limit A F N there older q = subst (λ B. NamesAt words limit below B N) (some-injective A F q) older
  no_formal_left z [] (v ∷ vs) limit A F N there older q = missing q
  no_formal_left z (f ∷ fs) vs limit A F N there older q = absurd (omega (arith, z, there.as_many))

  module _ (some_left : left ≡ 0 → ⊥) where
    -- The first of them, its value's row and those after it.
    record FirstFormal (f : Formal) (v : Carried) (fs : List Formal) (vs : List Carried) : Type 0 where
      next : ℕ
      name_low : f.name < names
      formal_low : formal < most_nodes
      named : packed_operand (get_or words formal 0) % names ≡ f.name
      row_few : row < most_bindings
      holds : HoldsValue (row_value words (row + 1)) v
      others : StoredFormals words (formal + 1) next fs
      values : ValuesAt words (suc row) vs

    first_formal : {f : Formal} {v : Carried} {fs : List Formal} {vs : List Carried} → FormalsThere words formal left row below (f ∷ fs) (v ∷ vs) → FirstFormal f v fs vs
    first_formal {f} {v} {fs} {vs} there = by there.tree there.values
      where
        by : {j : ℕ} → StoredFormals words formal j (f ∷ fs) → ValuesAt words row (v ∷ vs) → FirstFormal f v fs vs
        by {j} (one_formal p l c w others) (one_value_more at holds values) =
            record {
              next = j;
              name_low = l;
              formal_low = w.place_low;
              named = ap (λ n. n % names) (operand_is w (omega arith)) ∙ operand_name f.name f.code l;
              row_few = at.row_few;
              holds = subst (λ p. HoldsValue (row_value words p) v) (after_node row) (holds_same (sym (row_is_value at)) holds);
              others = subst (λ i. StoredFormals words i j fs) (after_node formal) others;
              values = values;
            }

    split_formals : {R : Type 0} (fs : List Formal) (vs : List Carried) → FormalsThere words formal left row below fs vs →
        ((f : Formal) (v : Carried) (fs : List Formal) (vs : List Carried) → FirstFormal f v fs vs → FormalsThere words formal left row below (f ∷ fs) (v ∷ vs) → R) → R
    split_formals [] vs there go = absurd (some_left (sym there.as_many))
    split_formals (f ∷ fs) [] there go = absurd (some_left (sym there.values_many))
    split_formals (f ∷ fs) (v ∷ vs) there go = go f v fs vs (first_formal there) there

    pub formals_low : SomeFormals words formal left row below → (formal < most_nodes) × (row < most_bindings) × (below ≤ most_bindings) × ((row_value words (row + 1)).sort < sorts)
    formals_low s =
        split_formals s.0 s.1 s.2 (λ f v fs vs first there. (first.formal_low, first.row_few, omega (arith, there.below_older, first.row_few), sort_small first.holds))

    module _ (value : Value) (read : value ≡ row_value words (row + 1)) (word : ℕ) (operand : word ≡ packed_operand (get_or words formal 0)) (words₁ : List ℕ)
        (put : PutRow words words₁ row (word % names) below value) where
      later_formals : {f : Formal} {v : Carried} {fs : List Formal} {vs : List Carried} → FirstFormal f v fs vs → FormalsThere words formal left row below (f ∷ fs) (v ∷ vs) →
          FormalsThere words₁ (formal + 1) (left - 1) (row + 1) (row + 1) fs vs
      later_formals {vs = vs} first there =
          record {
            next = first.next;
            tree = same_formals words words₁ (kept_nodes (row_keeps first.row_few put)) first.others;
            as_many = omega (arith, there.as_many);
            values_many = omega (arith, there.values_many);
            values = subst (λ k. ValuesAt words₁ k vs) (after_node row) (values_kept first.row_few put (omega arith) first.values);
            row_room = omega (arith, some_left, there.row_room);
            below_older = omega arith;
          }

      pub formals_later : SomeFormals words formal left row below → SomeFormals words₁ (formal + 1) (left - 1) (row + 1) (row + 1)
      formals_later s = split_formals s.0 s.1 s.2 (λ f v fs vs first there. (fs, vs, later_formals first there))

      pub formals_named : (words₂ : List ℕ) (r : ℕ) → FormalsNamed words₁ words₂ (formal + 1) (left - 1) (row + 1) (row + 1) r → FormalsNamed words words₂ formal left row below r
      unfolding carry_formals over_formals
      formals_named words₂ r later [] vs limit A F N there older q = absurd (some_left (sym there.as_many))
      formals_named words₂ r later (f ∷ fs) [] limit A F N there older q = missing q
      formals_named words₂ r later (f ∷ fs) (v ∷ vs) limit A F N there older q =
          let first = first_formal there in
          let holds = holds_same (sym read) first.holds in
          let placed = subst (λ x. PutRow words words₁ row x below value) (ap (λ n. n % names) operand ∙ first.named) put in
          later fs vs limit (valued f.name v ∷ A) F (needing f.name nothing ∷ N) (later_formals first there)
          (subst (λ p. NamesAt words₁ limit p (valued f.name v ∷ A) (needing f.name nothing ∷ N)) (after_node row)
          (one_value (row_there first.row_few first.name_low (sort_small holds) there.below_older placed) holds (names_kept (row_keeps first.row_few put) there.below_older older))) q

-- So many of them are named, the newest at this pointer; the others are left, and whatever they come to, all come to.
pub record NamedSoFar (first words : List ℕ) (formal count row below at newest : ℕ) : Type 0 where
  pub place : ℕ
  pub rest : ℕ
  pub now : ℕ
  pub place_is : place ≡ formal + at
  pub rest_is : rest + at ≡ count
  pub now_is : now ≡ row + at
  pub others : SomeFormals words place rest now newest
  pub all : (words' : List ℕ) (r : ℕ) → FormalsNamed words words' place rest now newest r → FormalsNamed first words' formal count row below r
  pub older : newest ≤ row + at
  pub keeps : Keeps first words row most_cells
  pub keeps_cells : KeepsCells first words most_cells

pub none_named : (words : List ℕ) (formal count row below : ℕ) → SomeFormals words formal count row below → NamedSoFar words words formal count row below 0 below
none_named words formal count row below s =
    record {
      place = formal;
      rest = count;
      now = row;
      place_is = omega arith;
      rest_is = omega arith;
      now_is = omega arith;
      others = s;
      all = λ words' r named. named;
      older = omega (arith, s.2.below_older);
      keeps = keeps_all words row most_cells;
      keeps_cells = keeps_all_cells words most_cells;
    }

module _ (first words : List ℕ) (formal count row below at newest : ℕ) (more : at < count) (so : NamedSoFar first words formal count row below at newest) where
  some_left : so.rest ≡ 0 → ⊥
  some_left z = omega (arith, z, so.rest_is, more)

  pub named_low : (formal + at < most_nodes) × (row + at < most_bindings) × (newest ≤ most_bindings) × ((row_value words (row + at + 1)).sort < sorts)
  named_low =
      let low = formals_low words so.place so.rest so.now newest some_left so.others in
      (omega (arith, low.0, so.place_is), omega (arith, low.1, so.now_is), low.2, subst (λ k. (row_value words (k + 1)).sort < sorts) so.now_is low.3)

  pub one_more_named : (value : Value) → value ≡ row_value words (row + at + 1) → (word : ℕ) → word ≡ packed_operand (get_or words (formal + at) 0) → (words₁ : List ℕ) → PutRow words words₁ (row + at) (word % names) newest value →
      NamedSoFar first words₁ formal count row below (at + 1) (row + at + 1)
  one_more_named value read word operand words₁ put =
      record {
        place = so.place + 1;
        rest = so.rest - 1;
        now = so.now + 1;
        place_is = omega (arith, so.place_is);
        rest_is = omega (arith, so.rest_is, more);
        now_is = omega (arith, so.now_is);
        others = subst (SomeFormals words₁ (so.place + 1) (so.rest - 1) (so.now + 1)) next (formals_later words so.place so.rest so.now newest some_left value read_here word operand_here words₁ put_here so.others);
        all =
            λ words' r named.
            so.all words' r
            (formals_named words so.place so.rest so.now newest some_left value read_here word operand_here words₁ put_here words' r
            (subst (λ k. FormalsNamed words₁ words' (so.place + 1) (so.rest - 1) (so.now + 1) k r) (sym next) named));
        older = omega arith;
        keeps = keeps_then so.keeps (keeps_fewer (omega arith) (omega arith) (row_keeps named_low.1 put));
        keeps_cells = keeps_cells_then so.keeps_cells (row_keeps_cells named_low.1 put);
      }
    where
      next : so.now + 1 ≡ row + at + 1
      next = ap (λ k. k + 1) so.now_is

      read_here : value ≡ row_value words (so.now + 1)
      read_here = read ∙ ap (λ k. row_value words (k + 1)) (sym so.now_is)

      operand_here : word ≡ packed_operand (get_or words so.place 0)
      operand_here = operand ∙ ap (λ i. packed_operand (get_or words i 0)) (sym so.place_is)

      put_here : PutRow words words₁ so.now (word % names) newest value
      put_here = subst (λ k. PutRow words words₁ k (word % names) newest value) (sym so.now_is) put

pub all_named : (first words : List ℕ) (formal count row below at newest : ℕ) → count ≤ at → NamedSoFar first words formal count row below at newest → FormalsNamed first words formal count row below newest
all_named first words formal count row below at newest done so = so.all words newest (no_formal_left words so.place so.rest so.now newest (omega (arith, done, so.rest_is)))
