-- CSeq, Blk and Call: their parts, each over the names and cells that it finds, and what the node leaves from what they leave.
use Prim.Native.Nat.{ℕ, ◌+◌, ◌<◌, ◌≤◌}
use mathlib.Core.Path.{◌≡◌, refl, sym, ap, ◌∙◌, subst}
use mathlib.Core.List.{List, ◌++◌}
use Rattle.std.specs.Prelude.{Result, Ok, Err}
use Rattle.rules.specs.declared.refusals.Refused.{Refused}
use native.Mathlib.Omega.{arith}
use lib.ListN.{length, get_or}
use Rattle.rules.specs.paper.Limits.{most_nodes}
use Rattle.rules.specs.paper.Tree.{Expression, Command, Loop, CSeq, block, Call, Block, Blk, Declaration}
use Rattle.rules.specs.paper.Needs.{sizes, Needs, over, cells_left, bindings_left, command_need, names_given}
use Rattle.rules.specs.paper.Carried.{Carrying, carried, unsafe, unfit, ◌>>=◌}
use Rattle.rules.specs.paper.Carrying.{CarriedCells, CarriedNames, CarriedDeclared, oldest_cells, carry_command, carry_block, carry_declaration}
use Rattle.reader.specs.KindNumbers.{cseq_number, blk_number, call_number}
use Rattle.reader.specs.Pack.{packed_kind, packed_end}
use Rattle.reader.specs.Stored.{StoredCommand, block_of}
use Rattle.reader.specs.StoredLaws.{same_command}
use Rattle.reader.proofs.StandingLaws.{command_on, command_root, block_root}
use Rattle.carrying.specs.States.{CellsAt, StateAt, Room}
use Rattle.carrying.specs.Frames.{Keeps}
use Rattle.carrying.specs.Answers.{Fits, DeclarationThere, SomeDeclaration, DeclaredState, DeclarationCarried, CommandThere, SomeCommand, CommandAs, CommandCarried, FunctionThere, EnteredAs, entered, not_entered, never_entered, SomeCall, CallCarried}
use Rattle.carrying.specs.declared.Held.{Held}
use Rattle.carrying.specs.declared.functions.Entered.{Entered}
use Rattle.carrying.proofs.ResultLaws.{ok_not_err, same_ok, same_refusal}
use Rattle.carrying.proofs.FrameLaws.{kept_nodes, keeps_all}
use Rattle.carrying.proofs.StateLaws.{cells_length, cells_oldest}
use Rattle.carrying.proofs.ReachLaws.{second_place, reach, child_reach, function_reach}
use Rattle.carrying.proofs.ExpressionLaws.{first_fits}
use Rattle.ranges.proofs.OutcomeLaws.{told_through, told_at, told_names, told_undeclared, less_room, state_later}
use Rattle.ranges.proofs.CommandLaws.{Part, Seen, seen_assign, seen_loop, seen_sequence, seen_block, seen_call, seen_conditional, seen}

module _ (words : List ℕ) (held : Held) (node which : ℕ) (known : which ≡ packed_kind (get_or words node 0)) where
  -- ---- A part, where other words than its own were written.

  pub part_there : {next place : ℕ} {c : Command} {A : CarriedNames} {N : Needs} {K M : CarriedCells} (words₁ : List ℕ) → Keeps words words₁ held.bindings held.cells → Part words held node which known place next c →
      StateAt words node held A N K → CellsAt words₁ held.cells M → Room held (command_need N c) → CommandThere words₁ held place c A N M
  part_there words₁ kept p state now room =
      record {
        depth = p.depth;
        next = p.end;
        tree = same_command words words₁ (kept_nodes kept) p.tree;
        state = state_later kept (omega (arith, p.later)) state now;
        room = room;
      }

  pub part_reach : {j d place : ℕ} {b c : Command} (words₁ : List ℕ) → Keeps words words₁ held.bindings held.cells → StoredCommand words d node j b → Part words held node which known place j c → reach words₁ place < reach words node
  part_reach words₁ kept tree p = child_reach (command_root tree) (command_root (same_command words words₁ (kept_nodes kept) p.tree)) p.later p.within

  kept_here : Keeps words words held.bindings held.cells
  kept_here = keeps_all words held.bindings held.cells

  -- ---- CSeq.

  module _ (q : which ≡ cseq_number) where
    only_sequence : {next : ℕ} {A : CarriedNames} {N : Needs} {K : CarriedCells} {c : Command} (X : Command → Type 0) →
        ((c₁ c₂ : Command) → Part words held node which known (node + 1) next c₁ → Part words held node which known (second_place words node) next c₂ → Room held (command_need N c₁) → Room held (command_need N c₂) → X (CSeq node c₁ c₂)) →
        ((e : Expression) (c : Command) → X (Loop node e c)) → Seen words held node which known next A N K c → X c
    only_sequence X give never (seen_assign p e) = absurd (omega (arith, p, q))
    only_sequence X give never seen_loop = never _ _
    only_sequence X give never (seen_sequence p a b f g) = give _ _ a b f g
    only_sequence X give never (seen_block p e a b r) = absurd (omega (arith, p, q))
    only_sequence X give never (seen_call p) = absurd (omega (arith, p, q))
    only_sequence X give never (seen_conditional p e a b f g) = absurd (omega (arith, p, q))

    pub sequence_first : SomeCommand words held node → SomeCommand words held (node + 1) × (reach words (node + 1) < reach words node)
    unfolding carry_command
    sequence_first s =
        only_sequence (λ c. StoredCommand words s.4.depth node s.4.next c → Fits (carry_command s.1 s.3 c) → SomeCommand words held (node + 1) × (reach words (node + 1) < reach words node))
        (λ c₁ c₂ a b f g tree fits. (
          (c₁, s.1, s.2, s.3, part_there words kept_here a s.4.state s.4.state.cells_are f, first_fits (λ M. carry_command s.1 M c₂) (carry_command s.1 s.3 c₁) fits),
          part_reach words kept_here tree a,
        ))
        (λ e c tree fits. absurd (fits refl)) (seen words held node which known s.4) s.4.tree s.5

    pub sequence_unsafe : (words₁ : List ℕ) (refused : Refused) → CommandCarried words words₁ held (node + 1) (Err refused) → CommandCarried words words₁ held node (Err refused)
    unfolding carry_command
    sequence_unsafe words₁ refused first c A N K there =
        only_sequence (λ c. CommandAs words₁ held.cells (carry_command A K c) (Err refused))
        (λ c₁ c₂ a b f g.
        told_at words₁ held.cells words₁ held.cells (λ M. carry_command A M c₂) (carry_command A K c₁) refused
        (first c₁ A N K (part_there words kept_here a there.state there.state.cells_are f)))
        (λ e c. tt) (seen words held node which known there)

    module _ (words₁ : List ℕ) (first : CommandCarried words words₁ held (node + 1) (Ok tt)) (kept : Keeps words words₁ held.bindings held.cells) (after : ℕ)
        (place : after ≡ second_place words₁ node) (node_low : node + 1 < most_nodes) where
      after_is : after ≡ second_place words node
      after_is = place ∙ ap packed_end (kept.same_nodes (node + 1) node_low)

      second_there : {next : ℕ} {c₂ : Command} {A : CarriedNames} {N : Needs} {K M : CarriedCells} → Part words held node which known (second_place words node) next c₂ → StateAt words node held A N K →
          CellsAt words₁ held.cells M → Room held (command_need N c₂) → CommandThere words₁ held after c₂ A N M
      second_there {c₂ = c₂} {A = A} {N = N} {M = M} b state now g = subst (λ i. CommandThere words₁ held i c₂ A N M) (sym after_is) (part_there words₁ kept b state now g)

      pub sequence_second : SomeCommand words held node → SomeCommand words₁ held after × (reach words₁ after < reach words node)
      unfolding carry_command
      sequence_second s =
          only_sequence (λ c. StoredCommand words s.4.depth node s.4.next c → Fits (carry_command s.1 s.3 c) → SomeCommand words₁ held after × (reach words₁ after < reach words node))
          (λ c₁ c₂ a b f g tree fits.
          told_through (carry_command s.1 s.3 c₁) (first c₁ s.1 s.2 s.3 (part_there words kept_here a s.4.state s.4.state.cells_are f))
          (λ M same now. (
            (c₂, s.1, s.2, M, second_there b s.4.state now g, λ never. fits (ap (λ o. o >>= λ M. carry_command s.1 M c₂) same ∙ never)),
            subst (λ i. reach words₁ i < reach words node) (sym after_is) (part_reach words₁ kept tree b),
          ))
          (λ never. absurd (fits (ap (λ o. o >>= λ M. carry_command s.1 M c₂) never))))
          (λ e c tree fits. absurd (fits refl)) (seen words held node which known s.4) s.4.tree s.5

      pub sequence_carried : (words₂ : List ℕ) (t : Result (Unit {0}) Refused) → CommandCarried words₁ words₂ held after t → CommandCarried words words₂ held node t
      unfolding carry_command
      sequence_carried words₂ t second c A N K there =
          only_sequence (λ c. CommandAs words₂ held.cells (carry_command A K c) t)
          (λ c₁ c₂ a b f g.
          told_through (carry_command A K c₁) (first c₁ A N K (part_there words kept_here a there.state there.state.cells_are f))
          (λ M same now. subst (λ o. CommandAs words₂ held.cells (o >>= λ M. carry_command A M c₂) t) (sym same) (second c₂ A N M (second_there b there.state now g)))
          (λ never. subst (λ o. CommandAs words₂ held.cells (o >>= λ M. carry_command A M c₂) t) (sym never) tt))
          (λ e c. tt) (seen words held node which known there)

  -- ---- Blk.

  module _ (q : which ≡ blk_number) where
    only_block : {next : ℕ} {A : CarriedNames} {N : Needs} {K : CarriedCells} {c : Command} (X : Command → Type 0) →
        ((d : Declaration) (c : Command) (m : ℕ) → second_place words node ≡ m → DeclarationThere words held (node + 1) m d A N K → Part words held node which known m next c →
        Room held (over (sizes 1 2 (cells_left d) (bindings_left d)) (command_need (names_given N d ++ N) c)) → X (block (Blk node d c))) →
        ((e : Expression) (c : Command) → X (Loop node e c)) → Seen words held node which known next A N K c → X c
    only_block X give never (seen_assign p e) = absurd (omega (arith, p, q))
    only_block X give never seen_loop = never _ _
    only_block X give never (seen_sequence p a b f g) = absurd (omega (arith, p, q))
    only_block X give never (seen_block p e a b r) = give _ _ _ e a b r
    only_block X give never (seen_call p) = absurd (omega (arith, p, q))
    only_block X give never (seen_conditional p e a b f g) = absurd (omega (arith, p, q))

    -- What comes after the declaration.
    abbrev inside_then : CarriedNames → CarriedCells → Command → CarriedDeclared → Carrying CarriedCells
    inside_then A K c D = carry_command (D.names_declared ++ A) D.cells_after c >>= λ M. carried (oldest_cells (length K) M)

    pub block_declaration : SomeCommand words held node → SomeDeclaration words held (node + 1)
    unfolding carry_command carry_block
    block_declaration s =
        only_block (λ c. Fits (carry_command s.1 s.3 c) → SomeDeclaration words held (node + 1))
        (λ d c m e a b r fits. (m, d, s.1, s.2, s.3, a, first_fits (inside_then s.1 s.3 c) (carry_declaration s.1 s.3 d) fits))
        (λ e c fits. absurd (fits refl)) (seen words held node which known s.4) s.5

    pub block_unsafe : (words₁ : List ℕ) (refused : Refused) → DeclarationCarried words words₁ held (node + 1) (Err refused) → CommandCarried words words₁ held node (Err refused)
    unfolding carry_command carry_block
    block_unsafe words₁ refused declared c A N K there =
        only_block (λ c. CommandAs words₁ held.cells (carry_command A K c) (Err refused))
        (λ d c m e a b room. told_undeclared words₁ m held d A N words₁ held.cells (inside_then A K c) (carry_declaration A K d) refused (declared m d A N K a))
        (λ e c. tt) (seen words held node which known there)

    module _ (words₁ : List ℕ) (inner : Held) (declared : DeclarationCarried words words₁ held (node + 1) (Ok inner)) (kept : Keeps words words₁ held.bindings held.cells)
        (inside : ℕ) (place : inside ≡ second_place words₁ node) (node_low : node + 1 < most_nodes) where
      inside_is : inside ≡ second_place words node
      inside_is = place ∙ ap packed_end (kept.same_nodes (node + 1) node_low)

      inside_there : {next m : ℕ} {d : Declaration} {c : Command} {A : CarriedNames} {N : Needs} {D : CarriedDeclared} → second_place words node ≡ m → Part words held node which known m next c →
          Room held (over (sizes 1 2 (cells_left d) (bindings_left d)) (command_need (names_given N d ++ N) c)) → DeclaredState words₁ m held inner d A N D →
          CommandThere words₁ inner inside c (D.names_declared ++ A) (names_given N d ++ N) D.cells_after
      inside_there {d = d} {c = c} {A = A} {N = N} {D = D} e b room state =
          subst (λ i. CommandThere words₁ inner i c (D.names_declared ++ A) (names_given N d ++ N) D.cells_after) (sym (inside_is ∙ e))
          (record {
            depth = b.depth;
            next = b.end;
            tree = same_command words words₁ (kept_nodes kept) b.tree;
            state = state.state;
            room = less_room (bindings_left d) (cells_left d) state.bindings_are state.cells_are (omega arith) (omega arith) room;
          })

      pub more_held : SomeCommand words held node → (held.bindings ≤ inner.bindings) × (held.cells ≤ inner.cells)
      unfolding carry_command carry_block
      more_held s =
          only_block (λ c. Fits (carry_command s.1 s.3 c) → (held.bindings ≤ inner.bindings) × (held.cells ≤ inner.cells))
          (λ d c m e a b room fits.
          told_names (carry_declaration s.1 s.3 d) inner (declared m d s.1 s.2 s.3 a)
          (λ D same state. (omega (arith, state.bindings_are), omega (arith, state.cells_are))) (λ never. absurd (fits (ap (λ o. o >>= inside_then s.1 s.3 c) never))))
          (λ e c fits. absurd (fits refl)) (seen words held node which known s.4) s.5

      pub block_inside : SomeCommand words held node → SomeCommand words₁ inner inside × (reach words₁ inside < reach words node)
      unfolding carry_command carry_block
      block_inside s =
          only_block (λ c. StoredCommand words s.4.depth node s.4.next c → Fits (carry_command s.1 s.3 c) → SomeCommand words₁ inner inside × (reach words₁ inside < reach words node))
          (λ d c m e a b room tree fits.
          told_names (carry_declaration s.1 s.3 d) inner (declared m d s.1 s.2 s.3 a)
          (λ D same state. (
            (
              c,
              D.names_declared ++ s.1,
              names_given s.2 d ++ s.2,
              D.cells_after,
              inside_there {d = d} e b room state,
              λ never.
                  fits (ap (λ o. o >>= inside_then s.1 s.3 c) same ∙ ap (λ o. o >>= λ M. carried (oldest_cells (length s.3) M)) never),
            ),
            subst (λ i. reach words₁ i < reach words node) (sym (inside_is ∙ e)) (part_reach words₁ kept tree b),
          ))
          (λ never. absurd (fits (ap (λ o. o >>= inside_then s.1 s.3 c) never))))
          (λ e c tree fits. absurd (fits refl)) (seen words held node which known s.4) s.4.tree s.5

      -- The cells there were.
      left_as : (words₂ : List ℕ) (t : Result (Unit {0}) Refused) (K : CarriedCells) (o : Carrying CarriedCells) → length K ≡ held.cells → held.cells ≤ inner.cells → CommandAs words₂ inner.cells o t →
          CommandAs words₂ held.cells (o >>= λ M. carried (oldest_cells (length K) M)) t
      left_as words₂ t K (carried M) long more (same, now) = (same, subst (λ n. CellsAt words₂ held.cells (oldest_cells n M)) (sym long) (cells_oldest more now))
      left_as words₂ t K (unsafe p) long more same = same
      left_as words₂ t K unfit long more answer = tt

      pub block_carried : (words₂ : List ℕ) (t : Result (Unit {0}) Refused) → CommandCarried words₁ words₂ inner inside t → CommandCarried words words₂ held node t
      unfolding carry_command carry_block
      block_carried words₂ t ran c A N K there =
          only_block (λ c. CommandAs words₂ held.cells (carry_command A K c) t)
          (λ d c m e a b room.
          told_names (carry_declaration A K d) inner (declared m d A N K a)
          (λ D same state.
          subst (λ o. CommandAs words₂ held.cells (o >>= inside_then A K c) t) (sym same)
          (left_as words₂ t K (carry_command (D.names_declared ++ A) D.cells_after c) (cells_length there.state.cells_are) (omega (arith, state.cells_are))
          (ran c (D.names_declared ++ A) (names_given N d ++ N) D.cells_after (inside_there {d = d} e b room state))))
          (λ never. subst (λ o. CommandAs words₂ held.cells (o >>= inside_then A K c) t) (sym never) tt))
          (λ e c. tt) (seen words held node which known there)

  -- ---- Call.

  module _ (q : which ≡ call_number) where
    only_call : {next : ℕ} {A : CarriedNames} {N : Needs} {K : CarriedCells} {c : Command} (X : Command → Type 0) → ((x : ℕ) (es : List Expression) → X (Call node x es)) →
        ((e : Expression) (c : Command) → X (Loop node e c)) → Seen words held node which known next A N K c → X c
    only_call X give never (seen_assign p e) = absurd (omega (arith, p, q))
    only_call X give never seen_loop = never _ _
    only_call X give never (seen_sequence p a b f g) = absurd (omega (arith, p, q))
    only_call X give never (seen_block p e a b r) = absurd (omega (arith, p, q))
    only_call X give never (seen_call p) = give _ _
    only_call X give never (seen_conditional p e a b f g) = absurd (omega (arith, p, q))

    pub call_there : SomeCommand words held node → SomeCall words held node
    unfolding carry_command
    call_there s =
        only_call (λ c. CommandThere words held node c s.1 s.2 s.3 → Fits (carry_command s.1 s.3 c) → SomeCall words held node) (λ x es there fits. (x, es, s.1, s.2, s.3, there, fits))
        (λ e c there fits. absurd (fits refl)) (seen words held node which known s.4) s.4 s.5

    abbrev entered_as : (inner : Held) (inside : ℕ) → Entered
    entered_as inner inside = record { held = inner; block = inside }

    pub call_unsafe : (words₁ : List ℕ) (refused : Refused) → CallCarried words words₁ held node (Err refused) → CommandCarried words words₁ held node (Err refused)
    unfolding carry_command
    call_unsafe words₁ refused called c A N K there =
        only_call (λ c. CommandThere words held node c A N K → CommandAs words₁ held.cells (carry_command A K c) (Err refused)) (λ x es there. by (carry_command A K (Call node x es)) (called x es A N K there)) (λ e c there. tt)
        (seen words held node which known there) there
      where
        by : (whole : Carrying CarriedCells) → EnteredAs words₁ held node K whole (Err refused) → CommandAs words₁ held.cells whole (Err refused)
        by whole (entered inner inside b F M same function is) = ok_not_err (sym same)
        by whole (not_entered o same is) = subst (λ w. CommandAs words₁ held.cells w (Err refused)) (sym is) (same_refusal same)
        by whole (never_entered is) = subst (λ w. CommandAs words₁ held.cells w (Err refused)) (sym is) tt

    module _ (words₁ : List ℕ) (inner : Held) (inside : ℕ) (called : CallCarried words words₁ held node (Ok (entered_as inner inside))) where
      -- The function's Blk as a command.
      function_there : {b : Block} {F : CarriedNames} {N : Needs} {K : CarriedCells} → FunctionThere words₁ held node inner inside b F N K → CommandThere words₁ inner inside (block b) F N K
      unfolding command_need
      function_there f = record { depth = f.depth; next = f.next; tree = block_of f.tree; state = f.state; room = f.room }

      pub function_inside : SomeCommand words held node →
          SomeCommand words₁ inner inside × (reach words₁ inside < reach words node) × (held.bindings ≤ inner.bindings) × (inner.cells ≡ held.cells)
      unfolding carry_command
      function_inside s =
          only_call
          (λ c. CommandThere words held node c s.1 s.2 s.3 → Fits (carry_command s.1 s.3 c) →
          SomeCommand words₁ inner inside × (reach words₁ inside < reach words node) × (held.bindings ≤ inner.bindings) × (inner.cells ≡ held.cells))
          (λ x es there fits. by (carry_command s.1 s.3 (Call node x es)) there.tree fits (called x es s.1 s.2 s.3 there)) (λ e c there fits. absurd (fits refl)) (seen words held node which known s.4) s.4
          s.5
        where
          by : {d j : ℕ} {c : Command} (whole : Carrying CarriedCells) → StoredCommand words d node j c → Fits whole → EnteredAs words₁ held node s.3 whole (Ok (entered_as inner inside)) →
              SomeCommand words₁ inner inside × (reach words₁ inside < reach words node) × (held.bindings ≤ inner.bindings) × (inner.cells ≡ held.cells)
          by whole tree fits (entered x i b F M same function is) =
              let here : FunctionThere words₁ held node inner inside b F M s.3 =
              subst (λ y. FunctionThere words₁ held node y inside b F M s.3) (sym (ap (λ e. e.held) (same_ok same)))
              (subst (λ k. FunctionThere words₁ held node x k b F M s.3) (sym (ap (λ e. e.block) (same_ok same))) function) in (
                (block b, F, M, s.3, function_there here, λ never. fits (is ∙ never)),
                function_reach (command_root tree) (block_root here.tree) (command_on tree) here.before,
                here.more_bindings,
                here.same_cells,
              )
          by whole tree fits (not_entered o same is) = ok_not_err same
          by whole tree fits (never_entered is) = absurd (fits is)

      pub call_carried : (words₂ : List ℕ) (t : Result (Unit {0}) Refused) → CommandCarried words₁ words₂ inner inside t → CommandCarried words words₂ held node t
      unfolding carry_command
      call_carried words₂ t ran c A N K there =
          only_call (λ c. CommandThere words held node c A N K → CommandAs words₂ held.cells (carry_command A K c) t) (λ x es there. by (carry_command A K (Call node x es)) (called x es A N K there)) (λ e c there. tt)
          (seen words held node which known there) there
        where
          by : (whole : Carrying CarriedCells) → EnteredAs words₁ held node K whole (Ok (entered_as inner inside)) → CommandAs words₂ held.cells whole t
          by whole (entered x i b F M same function is) =
              let here : FunctionThere words₁ held node inner inside b F M K =
              subst (λ y. FunctionThere words₁ held node y inside b F M K) (sym (ap (λ e. e.held) (same_ok same)))
              (subst (λ k. FunctionThere words₁ held node x k b F M K) (sym (ap (λ e. e.block) (same_ok same))) function) in
              subst (λ w. CommandAs words₂ held.cells w t) (sym is) (subst (λ n. CommandAs words₂ n (carry_block F K b) t) here.same_cells (ran (block b) F M K (function_there here)))
          by whole (not_entered o same is) = ok_not_err same
          by whole (never_entered is) = subst (λ w. CommandAs words₂ held.cells w t) (sym is) tt
