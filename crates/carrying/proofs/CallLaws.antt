-- A Call up to its function's Blk: its actuals are carried, then its name is looked for, and the Formals give the actuals' rows their names on those
-- that the function was bound among.
use Prim.Native.Nat.{ℕ, suc, ◌+◌, ◌*◌, ◌/◌, ◌%◌, ◌<◌, ◌≤◌}
use mathlib.Core.Path.{◌≡◌, refl, sym, ap, ◌∙◌, subst}
use mathlib.Core.List.{List, [], ◌∷◌}
use Rattle.std.specs.Prelude.{Some, None, Ok, Err}
use Rattle.rules.specs.declared.refusals.Refused.{Refused}
use mathlib.Core.Option.{Option, none, some}
use native.Mathlib.Omega.{arith}
use lib.ListN.{length, get_or}
use Rattle.rules.specs.paper.Limits.{most_nodes, most_bindings, most_cells, names}
use Rattle.rules.proofs.Basics.{missing}
use Rattle.rules.specs.paper.Tree.{Expression, Formal, Command, Call, Block, Bound, Abs}
use Rattle.rules.specs.paper.Needs.{Need, Needs, nothing, in_turn, need_of, over_formals, function_need, command_need, block_need}
use Rattle.rules.specs.paper.Carried.{Carried, Carrying, carried, unsafe, unfit, ◌>>=◌, fitting}
use Rattle.rules.specs.paper.Carrying.{CarriedCells, CarriedMeaning, a_value, a_function, CarriedNames, carried_meaning, carry_formals, carry_actuals, carry_call, carry_command, carry_block}
use Rattle.reader.specs.Pack.{packed_operand}
use Rattle.reader.specs.Stored.{StoredActuals, StoredFormals, StoredCommand, StoredBlock, StoredBound}
use Rattle.reader.proofs.StoredFields.{operand_is}
use Rattle.reader.specs.Stored as Stored
use Rattle.reader.specs.StoredLaws.{same_block}
use Rattle.reader.proofs.StandingLaws.{after_node, operand_name, operand_number, command_low, block_low}
use Rattle.carrying.specs.Layout.{row_value, row_pointer}
use Rattle.carrying.specs.States.{NamesAt, no_names, one_value, one_function, SomeNames, FoundAt, StateAt, Room}
use Rattle.carrying.specs.Frames.{Keeps, KeepsCells}
use Rattle.carrying.specs.Answers.{Fits, ValuesAt, ActualsThere, SomeActuals, ActualsAs, ActualsCarried, FormalsThere, SomeFormals, FormalsNamed, CommandThere, SomeCall, FunctionThere, EnteredAs, entered, not_entered, never_entered, CallCarried}
use Rattle.carrying.specs.declared.Held.{Held}
use Rattle.carrying.proofs.ResultLaws.{ok_not_err, same_refusal}
use Rattle.carrying.proofs.FrameLaws.{kept_nodes}
use Rattle.carrying.proofs.StateLaws.{names_kept, names_later, row_is_value, row_is_pointer, cells_kept}
use Rattle.carrying.proofs.DeclarationLaws.{first_fits, state_seen}

-- ---- Formals.

formals_next : {words : List ℕ} {i j : ℕ} {fs : List Formal} → StoredFormals words i j fs → j ≡ i + length fs
formals_next Stored.no_formals = omega arith
formals_next (Stored.one_formal p l m w g) = omega (arith, formals_next g)

formals_many : (fs : List Formal) (vs : List Carried) (A F : CarriedNames) → carry_formals fs vs A ≡ some F → length fs ≡ length vs
unfolding carry_formals
formals_many [] [] A F q = refl
formals_many [] (v ∷ vs) A F q = missing q
formals_many (f ∷ fs) [] A F q = missing q
formals_many (f ∷ fs) (v ∷ vs) A F q = ap suc (formals_many fs vs _ F q)

-- ---- Room.

call_room : {held : Held} (N : Needs) (p x : ℕ) (es : List Expression) → Room held (command_need N (Call p x es)) →
    (held.bindings + length es ≤ most_bindings) × (held.cells ≤ most_cells) × ((inner : Held) (count : ℕ) → length es ≡ count → inner.bindings ≡ held.bindings + count → inner.cells ≡ held.cells → Room inner (need_of x N))
unfolding command_need in_turn function_need
call_room N p x es room = (
  omega (arith, room.bindings_fit),
  omega (arith, room.cells_fit),
  λ inner count q g h. record { bindings_fit = omega (arith, room.bindings_fit, q, g); cells_fit = omega (arith, room.cells_fit, h) },
)

-- ---- The row of a function.

abbrev Given : Type 0
Given = List Carried → CarriedCells → Carrying CarriedCells

-- The function that the newest name is, and its need.
abbrev meant : CarriedMeaning → Given
meant (a_value v) vs K = unfit
meant (a_function g) vs K = g vs K

abbrev newest : CarriedNames → Given
newest [] vs K = unfit
newest (n ∷ A) vs K = meant n.meaning vs K

abbrev newest_need : Needs → Need
newest_need [] = nothing
newest_need (n ∷ N) = n.need

abbrev IsFunction : CarriedNames → Type 0
IsFunction [] = ⊥
IsFunction (n ∷ A) = by n.meaning
  where
    by : CarriedMeaning → Type 0
    by (a_value v) = ⊥
    by (a_function g) = Unit {0}

record Closure (words : List ℕ) (limit pointer : ℕ) (B : CarriedNames) (M : Needs) : Type 0 where
  place : ℕ
  below : ℕ
  depth : ℕ
  inside : ℕ
  end : ℕ
  its_formals : List Formal
  body : Block
  outer : CarriedNames
  outer_needs : Needs
  is_given : newest B ≡ (λ vs K. fitting (carry_formals its_formals vs outer) >>= λ F. carry_block F K body)
  need_is : newest_need M ≡ block_need (over_formals its_formals outer_needs) body
  low : (1 ≤ pointer) × (pointer ≤ most_bindings)
  place_is : (row_value words pointer).low ≡ place
  below_is : row_pointer words pointer ≡ below
  older : below < pointer
  formals_there : StoredFormals words (place + 1) inside its_formals
  body_there : StoredBlock words depth inside end body
  ended : end ≤ limit
  names_there : NamesAt words place below outer outer_needs

-- The parts of an Abs.
record AbsParts (words : List ℕ) (i j : ℕ) (fs : List Formal) (b : Block) : Type 0 where
  depth : ℕ
  inside : ℕ
  its_formals : StoredFormals words (i + 1) inside fs
  body : StoredBlock words depth inside j b

abs_parts : {words : List ℕ} {d i j : ℕ} {c : Bound} (q : ℕ) (fs : List Formal) (b : Block) → c ≡ Abs q fs b → StoredBound words d i j c → AbsParts words i j fs b
abs_parts q fs b e (Stored.plain_of a) = absurd cc
abs_parts q fs b e (Stored.ref w a) = absurd cc
abs_parts {words} {i = i} {j = j} q fs b e (Stored.abs {d = d} {j = m} {fs = gs} {b = c} few w formals body) =
    record {
      depth = d;
      inside = m;
      its_formals = subst (λ p. StoredFormals words p m fs) (after_node i) (subst (StoredFormals words (suc i) m) (let same : gs ≡ fs = cc in same) formals);
      body = subst (StoredBlock words d m j) (let same : c ≡ b = cc in same) body;
    }

closure : {words : List ℕ} {limit pointer : ℕ} {B : CarriedNames} {M : Needs} → IsFunction B → NamesAt words limit pointer B M → Closure words limit pointer B M
closure is no_names = absurd is
closure is (one_value row v older) = absurd is
closure {words} is (one_function {l = l} {q = q} {j = j} {fs = fs} {b = b} {A = A} {N = N} row p tree ends older) =
    let parts = abs_parts q fs b refl tree in
    record {
      place = q;
      below = l;
      depth = parts.depth;
      inside = parts.inside;
      end = j;
      its_formals = fs;
      body = b;
      outer = A;
      outer_needs = N;
      is_given = refl;
      need_is = refl;
      low = (omega arith, omega (arith, row.row_few));
      place_is = ap (λ v. v.low) (row_is_value row) ∙ p;
      below_is = row_is_pointer row;
      older = omega (arith, row.below_older);
      formals_there = parts.its_formals;
      body_there = parts.body;
      ended = ends;
      names_there = older;
    }

-- ---- The Call at a node.

module _ (words : List ℕ) (held : Held) (node word : ℕ) (read : word ≡ packed_operand (get_or words node 0)) where
  record CallParts (x : ℕ) (es : List Expression) : Type 0 where
    depth : ℕ
    next : ℕ
    tree : StoredActuals words depth (node + 1) next es
    name_is : word % names ≡ x
    count_is : word / names ≡ length es

  calling_parts : {d j x : ℕ} {es : List Expression} {c : Command} → c ≡ Call node x es → StoredCommand words d node j c → CallParts x es
  calling_parts q (Stored.assign l w a) = absurd cc
  calling_parts q (Stored.loop w a b) = absurd cc
  calling_parts q (Stored.cseq w a b) = absurd cc
  calling_parts q (Stored.block_of a) = absurd cc
  calling_parts q (Stored.conditional w a b c) = absurd cc
  calling_parts {j = j} {x = x} {es = es} q (Stored.call {d = d} {x = y} {es = fs} l few w a) =
      let same_name : y ≡ x = cc in
      let same_actuals : fs ≡ es = cc in
      let is : word ≡ y + names * length fs = read ∙ operand_is w (omega arith) in
      record {
        depth = d;
        next = j;
        tree = subst (StoredActuals words d (node + 1) j) same_actuals (subst (λ i. StoredActuals words d i j fs) (after_node node) a);
        name_is = ap (λ n. n % names) is ∙ operand_name y (length fs) l ∙ same_name;
        count_is = ap (λ n. n / names) is ∙ operand_number y (length fs) l ∙ ap length same_actuals;
      }

  call_parts : {d j x : ℕ} {es : List Expression} → StoredCommand words d node j (Call node x es) → CallParts x es
  call_parts t = calling_parts refl t

  actuals_of : (x : ℕ) (es : List Expression) (A : CarriedNames) (N : Needs) (K : CarriedCells) → CommandThere words held node (Call node x es) A N K →
      ActualsThere words held.environment (node + 1) (word / names) held.bindings es A K
  actuals_of x es A N K there =
      let parts = call_parts there.tree in
      let room = call_room N node x es there.room in
      record {
        depth = parts.depth;
        next = parts.next;
        tree = parts.tree;
        as_many = sym parts.count_is;
        sees = state_seen room.1 there.state;
        pointed = there.state.pointed;
        row_room = omega (arith, room.0, parts.count_is);
      }

  pub call_low : SomeCall words held node → (node < most_nodes) × (held.bindings + word / names ≤ most_bindings)
  call_low s = (command_low s.5.tree, (actuals_of s.0 s.1 s.2 s.3 s.4 s.5).row_room)

  pub actuals_there : SomeCall words held node → SomeActuals words held.environment (node + 1) (word / names) held.bindings
  unfolding carry_command
  actuals_there s = (s.1, s.2, s.4, actuals_of s.0 s.1 s.2 s.3 s.4 s.5, first_fits (carry_actuals s.2 s.4 s.1) _ s.6)

  pub call_unsafe : (words₁ : List ℕ) (refused : Refused) → ActualsCarried words words₁ held.environment (node + 1) (word / names) held.bindings (Err refused) → CallCarried words words₁ held node (Err refused)
  unfolding carry_command
  call_unsafe words₁ refused carries x es A N K there = by (carry_actuals A K es) (carries es A K (actuals_of x es A N K there))
    where
      by : (m : Carrying (List Carried)) → ActualsAs words₁ (word / names) held.bindings m (Err refused) → EnteredAs words₁ held node K (m >>= λ vs. carry_call (carried_meaning x A) vs K) (Err refused)
      by (carried vs) (p, many, values) = ok_not_err (sym p)
      by (unsafe p) answer = not_entered p (same_refusal answer) refl
      by unfit answer = never_entered refl

  module _ (words₁ : List ℕ) (carries : ActualsCarried words words₁ held.environment (node + 1) (word / names) held.bindings (Ok tt)) (kept : Keeps words words₁ held.bindings most_cells) (cells : KeepsCells words words₁ most_cells) where
    names_after : {A : CarriedNames} {N : Needs} {K : CarriedCells} → StateAt words node held A N K → NamesAt words₁ node held.environment A N
    names_after state = names_kept kept state.pointed state.names_are

    pub names_there : SomeCall words held node → SomeNames words₁ held.environment
    names_there s = (node, s.2, s.3, names_after s.5.state)

    -- The name is found.
    pub function_found : FoundAt words₁ held.environment (word % names) None → SomeCall words held node → ⊥
    unfolding carry_command
    function_found found s = by (carry_actuals s.2 s.4 s.1) (carries s.1 s.2 s.4 (actuals_of s.0 s.1 s.2 s.3 s.4 s.5)) s.6
      where
        known : FoundAt words₁ held.environment s.0 None
        known = subst (λ y. FoundAt words₁ held.environment y None) (call_parts s.5.tree).name_is found

        meaning : (vs : List Carried) (o : Option CarriedMeaning) → carried_meaning s.0 s.2 ≡ o → (carry_call o vs s.4 ≡ unfit → ⊥) → ⊥
        meaning vs none q fits = fits refl
        meaning vs (some m) q fits = known node s.2 s.3 m (names_after s.5.state) q

        by : (m : Carrying (List Carried)) → ActualsAs words₁ (word / names) held.bindings m (Ok tt) → Fits {A = CarriedCells} (m >>= λ vs. carry_call (carried_meaning s.0 s.2) vs s.4) → ⊥
        by (carried vs) answer fits = meaning vs (carried_meaning s.0 s.2) refl fits
        by (unsafe p) answer fits = ok_not_err answer
        by unfit answer fits = fits refl

    -- The name is looked for: it is a function of as many Formals, or the whole is unfit.
    module _ (function : ℕ) (found : FoundAt words₁ held.environment (word % names) (Some function)) (among : function ≤ held.environment) where
      data CallSeen (x : ℕ) (N : Needs) (K : CarriedCells) : Carrying CarriedCells → Type 0 where
        seen_unfit : CallSeen x N K unfit
        seen_function : {B : CarriedNames} {M : Needs} (vs : List Carried) (F : CarriedNames) (c : Closure words₁ node function B M) → newest_need M ≡ need_of x N →
            carry_formals c.its_formals vs c.outer ≡ some F → length vs ≡ word / names → ValuesAt words₁ held.bindings vs → CallSeen x N K (carry_block F K c.body)

      call_seen : (x : ℕ) (es : List Expression) (A : CarriedNames) (N : Needs) (K : CarriedCells) → CommandThere words held node (Call node x es) A N K → CallSeen x N K (carry_command A K (Call node x es))
      unfolding carry_command
      call_seen x es A N K there = by (carry_actuals A K es) (carries es A K (actuals_of x es A N K there))
        where
          known : FoundAt words₁ held.environment x (Some function)
          known = subst (λ y. FoundAt words₁ held.environment y (Some function)) (call_parts there.tree).name_is found

          bound : {B : CarriedNames} {M : Needs} (vs : List Carried) (c : Closure words₁ node function B M) → newest_need M ≡ need_of x N → length vs ≡ word / names → ValuesAt words₁ held.bindings vs →
              (o : Option CarriedNames) → carry_formals c.its_formals vs c.outer ≡ o → CallSeen x N K (fitting o >>= λ F. carry_block F K c.body)
          bound vs c n many values none q = seen_unfit
          bound vs c n many values (some F) q = seen_function vs F c n q many values

          meaning : (vs : List Carried) → length vs ≡ word / names → ValuesAt words₁ held.bindings vs → (o : Option CarriedMeaning) → carried_meaning x A ≡ o → CallSeen x N K (carry_call o vs K)
          meaning vs many values none q = seen_unfit
          meaning vs many values (some (a_value v)) q = seen_unfit
          meaning vs many values (some (a_function g)) q =
              let f = known node A N (a_function g) (names_after there.state) q in
              let c = closure tt f.names_there in
              subst (CallSeen x N K) (sym (ap (λ h. h vs K) c.is_given)) (bound vs c refl many values (carry_formals c.its_formals vs c.outer) refl)

          by : (m : Carrying (List Carried)) → ActualsAs words₁ (word / names) held.bindings m (Ok tt) → CallSeen x N K (m >>= λ vs. carry_call (carried_meaning x A) vs K)
          by (carried vs) (p, many, values) = meaning vs many values (carried_meaning x A) refl
          by (unsafe p) answer = ok_not_err answer
          by unfit answer = seen_unfit

      pub function_low : SomeCall words held node → (1 ≤ function) × (function ≤ most_bindings) × ((row_value words₁ function).low + 1 + word / names < most_nodes)
      function_low s = by (call_seen s.0 s.1 s.2 s.3 s.4 s.5) s.6
        where
          by : {whole : Carrying CarriedCells} → CallSeen s.0 s.3 s.4 whole → Fits whole → (1 ≤ function) × (function ≤ most_bindings) × ((row_value words₁ function).low + 1 + word / names < most_nodes)
          by seen_unfit fits = absurd (fits refl)
          by (seen_function vs F c n q many values) fits =
              (c.low.0, c.low.1, omega (arith, block_low c.body_there, formals_next c.formals_there, formals_many c.its_formals vs c.outer F q, many, c.place_is))

      module _ (place below : ℕ) (place_is : place ≡ (row_value words₁ function).low) (below_is : below ≡ row_pointer words₁ function) where
        formals_of : {B : CarriedNames} {M : Needs} (s : SomeCall words held node) (vs : List Carried) (F : CarriedNames) (c : Closure words₁ node function B M) →
            carry_formals c.its_formals vs c.outer ≡ some F → length vs ≡ word / names → ValuesAt words₁ held.bindings vs →
            FormalsThere words₁ (place + 1) (word / names) held.bindings below c.its_formals vs
        formals_of s vs F c q many values =
            record {
              next = c.inside;
              tree = subst (λ i. StoredFormals words₁ (i + 1) c.inside c.its_formals) (sym (place_is ∙ c.place_is)) c.formals_there;
              as_many = formals_many c.its_formals vs c.outer F q ∙ many;
              values_many = many;
              values = values;
              row_room = (call_low s).1;
              below_older = omega (arith, below_is, c.below_is, c.older, among, s.5.state.pointed);
            }

        pub formals_there : SomeCall words held node → SomeFormals words₁ (place + 1) (word / names) held.bindings below
        formals_there s = by (call_seen s.0 s.1 s.2 s.3 s.4 s.5) s.6
          where
            by : {whole : Carrying CarriedCells} → CallSeen s.0 s.3 s.4 whole → Fits whole → SomeFormals words₁ (place + 1) (word / names) held.bindings below
            by seen_unfit fits = absurd (fits refl)
            by (seen_function vs F c n q many values) fits = (c.its_formals, vs, formals_of s vs F c q many values)

        pub call_entered : (words₂ : List ℕ) (environment : ℕ) → FormalsNamed words₁ words₂ (place + 1) (word / names) held.bindings below environment → environment ≤ held.bindings + word / names →
            Keeps words₁ words₂ held.bindings most_cells → KeepsCells words₁ words₂ most_cells → SomeCall words held node →
            CallCarried words words₂ held node (Ok (record { held = record { environment = environment; bindings = held.bindings + word / names; cells = held.cells }; block = place + 1 + word / names }))
        call_entered words₂ environment named low kept₂ cells₂ s x es A N K there = by (call_seen x es A N K there)
          where
            inner : Held
            inner = record { environment = environment; bindings = held.bindings + word / names; cells = held.cells }

            room : (held.bindings + length es ≤ most_bindings) × (held.cells ≤ most_cells) × ((inner : Held) (count : ℕ) → length es ≡ count → inner.bindings ≡ held.bindings + count → inner.cells ≡ held.cells → Room inner (need_of x N))
            room = call_room N node x es there.room

            function_there : {B : CarriedNames} {M : Needs} (vs : List Carried) (F : CarriedNames) (c : Closure words₁ node function B M) → newest_need M ≡ need_of x N →
                carry_formals c.its_formals vs c.outer ≡ some F → length vs ≡ word / names → ValuesAt words₁ held.bindings vs →
                FunctionThere words₂ held node inner (place + 1 + word / names) c.body F (over_formals c.its_formals c.outer_needs) K
            function_there vs F c n q many values =
                let formals = formals_of s vs F c q many values in
                let at : c.inside ≡ place + 1 + word / names = omega (arith, formals_next c.formals_there, formals.as_many, place_is, c.place_is) in
                let outer = subst (λ p. NamesAt words₁ c.place p c.outer c.outer_needs) (sym (below_is ∙ c.below_is)) c.names_there in
                record {
                  depth = c.depth;
                  next = c.end;
                  tree = subst (λ i. StoredBlock words₂ c.depth i c.end c.body) at (same_block words₁ words₂ (kept_nodes kept₂) c.body_there);
                  before = c.ended;
                  state = record {
                    names_are = names_later (omega (arith, place_is, c.place_is)) (named c.its_formals vs c.place c.outer F c.outer_needs formals outer q);
                    cells_are = cells_kept kept₂ cells₂ room.1 (cells_kept kept cells room.1 there.state.cells_are);
                    pointed = low;
                  };
                  room = subst (Room inner) (sym n ∙ c.need_is) (room.2 inner (word / names) (sym (call_parts there.tree).count_is) refl refl);
                  same_cells = refl;
                  more_bindings = omega arith;
                }

            by : {whole : Carrying CarriedCells} → CallSeen x N K whole → EnteredAs words₂ held node K whole (Ok (record { held = inner; block = place + 1 + word / names }))
            by seen_unfit = never_entered refl
            by (seen_function vs F c n q many values) = entered inner (place + 1 + word / names) c.body F (over_formals c.its_formals c.outer_needs) refl (function_there vs F c n q many values) refl
