-- A DSeq: its second declaration is carried on the names and cells that its first leaves, and the names of both are given. Any other declaration is a
-- Bind.
use Prim.Native.Nat.{ℕ, suc, ◌+◌, ◌-◌, ◌<◌, ◌≤◌}
use mathlib.Core.Path.{◌≡◌, refl, sym, ◌∙◌, subst}
use mathlib.Core.List.{List, ◌++◌}
use Rattle.std.specs.Prelude.{Result, Ok, Err}
use Rattle.rules.specs.declared.refusals.Refused.{Refused}
use native.Mathlib.Omega.{arith}
use lib.ListN.{get_or}
use Rattle.rules.specs.paper.Limits.{most_nodes}
use Rattle.rules.proofs.Basics.{append_assoc}
use Rattle.rules.specs.paper.Tree.{Declaration, DSeq}
use Rattle.rules.specs.paper.Needs.{Needs, cells_left, bindings_left, declaration_need, names_given}
use Rattle.rules.specs.paper.Carried.{Carrying, carried, unsafe, unfit, ◌>>=◌}
use Rattle.rules.specs.paper.Carrying.{CarriedCells, CarriedNames, CarriedDeclared, carry_declaration}
use Rattle.reader.specs.KindNumbers.{dseq_number}
use Rattle.reader.specs.NodeKinds.{Known}
use Rattle.reader.proofs.NodeKindLaws.{declaration_known}
use Rattle.reader.specs.Pack.{packed_kind, packed_end}
use Rattle.reader.specs.Stored.{StoredDeclaration}
use Rattle.reader.proofs.StoredFields.{kind_is}
use Rattle.reader.specs.Stored as Stored
use Rattle.reader.specs.StoredLaws.{same_declaration}
use Rattle.reader.proofs.StandingLaws.{after_node, declaration_low, declaration_end, declaration_on}
use Rattle.carrying.specs.States.{StateAt, Room}
use Rattle.carrying.specs.Frames.{Keeps, KeepsCells}
use Rattle.carrying.specs.Answers.{Fits, SomeDeclaration, SomeBind, DeclaredState, DeclaredAs, DeclarationCarried}
use Rattle.carrying.specs.declared.Held.{Held}
use Rattle.carrying.proofs.ResultLaws.{ok_not_err, same_ok}
use Rattle.carrying.proofs.FrameLaws.{keeps_fewer, keeps_fewer_cells, keeps_then, keeps_cells_then, kept_nodes}
use Rattle.carrying.proofs.StateLaws.{names_later}
use Rattle.carrying.proofs.DeclarationLaws.{first_fits, sequence_room}

-- The size of the tree at a node: the measure.
abbrev pub declaration_size : List ℕ → (node : ℕ) → ℕ
declaration_size words node = packed_end (get_or words node 0) - node

-- The second on what the first comes to.
abbrev sequenced : CarriedNames → Declaration → Carrying CarriedDeclared → Carrying CarriedDeclared
sequenced A d₂ m =
    m >>= λ D. carry_declaration (D.names_declared ++ A) D.cells_after d₂ >>= λ F. carried (record { names_declared = F.names_declared ++ D.names_declared; cells_after = F.cells_after })

-- What an answer says of the carrying.
declared_names : {words : List ℕ} {next : ℕ} {held : Held} {c : Declaration} {A : CarriedNames} {N : Needs} {D : CarriedDeclared} {inner : Held} →
    DeclaredAs words next held c A N (carried D) (Ok inner) → DeclaredState words next held inner c A N D
declared_names {words} {next} {held} {c} {A} {N} {D} (i, p, state) = subst (λ h. DeclaredState words next held h c A N D) (sym (same_ok p)) state

state_later : {words : List ℕ} {limit later : ℕ} {held : Held} {A : CarriedNames} {N : Needs} {K : CarriedCells} → limit ≤ later → StateAt words limit held A N K → StateAt words later held A N K
state_later h s = record { names_are = names_later h s.names_are; cells_are = s.cells_are; pointed = s.pointed }

-- The kind of the node is known, and is a declaration's.
pub known_there : (words : List ℕ) (held : Held) (node : ℕ) → SomeDeclaration words held node → Known (get_or words node 0)
known_there words held node s = declaration_known s.5.tree

module _ (words : List ℕ) (held : Held) (node which : ℕ) (known : which ≡ packed_kind (get_or words node 0)) where
  pub bind_there : (which ≡ dseq_number → ⊥) → SomeDeclaration words held node → SomeBind words held node
  bind_there other s = by s.1 s.5.tree s.5.state s.5.room s.6
    where
      by : {d : ℕ} (c : Declaration) → StoredDeclaration words d node s.0 c → StateAt words node held s.2 s.3 s.4 → Room held (declaration_need s.3 c) → Fits (carry_declaration s.2 s.4 c) → SomeBind words held node
      by {d} c (Stored.bind {d = e} {x = x} {b = b} l h a) state room fits = (s.0, x, b, s.2, s.3, s.4, record { depth = suc e; tree = Stored.bind l h a; state = state; room = room }, fits)
      by c (Stored.dseq h a b) state room fits = absurd (other (known ∙ kind_is h (omega arith)))

  module _ (is_sequence : which ≡ dseq_number) where
    -- The first.
    pub record First : Type 0 where
      pub there : SomeDeclaration words held (node + 1)
      pub low : node + 1 < most_nodes
      pub less : declaration_size words (node + 1) < declaration_size words node

    pub first_there : SomeDeclaration words held node → First
    unfolding carry_declaration
    first_there s = by s.1 s.5.tree s.5.state s.5.room s.6
      where
        smaller : {d e j k : ℕ} {c₁ c : Declaration} → StoredDeclaration words d (node + 1) j c₁ → StoredDeclaration words e node k c → j < k → declaration_size words (node + 1) < declaration_size words node
        smaller a b h = omega (arith, declaration_end a, declaration_end b, declaration_on a, h)

        by : {d : ℕ} (c : Declaration) → StoredDeclaration words d node s.0 c → StateAt words node held s.2 s.3 s.4 → Room held (declaration_need s.3 c) → Fits (carry_declaration s.2 s.4 c) → First
        by c (Stored.bind l h a) state room fits = absurd (omega (arith, is_sequence, known, kind_is h (omega arith)))
        by c (Stored.dseq {d = e} {j = j} {d₁ = d₁} {d₂ = d₂} h a b) state room fits =
            let tree = subst (λ i. StoredDeclaration words e i j d₁) (after_node node) a in
            let inner : Held = record { environment = 0; bindings = bindings_left d₁ + held.bindings; cells = cells_left d₁ + held.cells } in
            record {
              there =
                  (j, d₁, s.2, s.3, s.4, record { depth = e; tree = tree; state = state_later (omega arith) state; room = (sequence_room inner s.3 node d₁ d₂ refl refl room).0 }, first_fits (carry_declaration s.2 s.4 d₁) _ fits);
              low = declaration_low tree;
              less = smaller tree (Stored.dseq h a b) (declaration_on b);
            }

    module _ (words₁ : List ℕ) (kept : Keeps words words₁ held.bindings held.cells) where
      -- The first is unsafe.
      pub first_unsafe : (refused : Refused) → DeclarationCarried words words₁ held (node + 1) (Err refused) → DeclarationCarried words words₁ held node (Err refused)
      unfolding carry_declaration
      first_unsafe refused declared next c A N K there = by there.tree there.state there.room
        where
          given : (j : ℕ) (d₁ d₂ : Declaration) (m : Carrying CarriedDeclared) → DeclaredAs words₁ j held d₁ A N m (Err refused) →
              DeclaredAs words₁ next held (DSeq node d₁ d₂) A N (sequenced A d₂ m) (Err refused)
          given j d₁ d₂ (carried D) (inner, o, state) = ok_not_err (sym o)
          given j d₁ d₂ (unsafe o) answer = answer
          given j d₁ d₂ unfit answer = tt

          by : {d : ℕ} {c : Declaration} → StoredDeclaration words d node next c → StateAt words node held A N K → Room held (declaration_need N c) → DeclaredAs words₁ next held c A N (carry_declaration A K c) (Err refused)
          by (Stored.bind l h a) state room = absurd (omega (arith, is_sequence, known, kind_is h (omega arith)))
          by (Stored.dseq {d = e} {j = j} {d₁ = d₁} {d₂ = d₂} h a b) state room =
              let tree = subst (λ i. StoredDeclaration words e i j d₁) (after_node node) a in
              let inner : Held = record { environment = 0; bindings = bindings_left d₁ + held.bindings; cells = cells_left d₁ + held.cells } in
              given j d₁ d₂ (carry_declaration A K d₁) (declared j d₁ A N K (record { depth = e; tree = tree; state = state_later (omega arith) state; room = (sequence_room inner N node d₁ d₂ refl refl room).0 }))

      module _ (inner : Held) (declared : DeclarationCarried words words₁ held (node + 1) (Ok inner)) (after : ℕ) (ends : after ≡ packed_end (get_or words₁ (node + 1) 0)) where
        end_there : {d j : ℕ} {c : Declaration} → StoredDeclaration words d (node + 1) j c → after ≡ j
        end_there tree = ends ∙ declaration_end (same_declaration words words₁ (kept_nodes kept) tree)

        -- The second, on the names and cells that the first leaves.
        pub record Second : Type 0 where
          pub there : SomeDeclaration words₁ inner after
          pub less : declaration_size words₁ after < declaration_size words node
          pub more_bindings : held.bindings ≤ inner.bindings
          pub more_cells : held.cells ≤ inner.cells

        pub second_there : SomeDeclaration words held node → Second
        unfolding carry_declaration
        second_there s = by s.1 s.5.tree s.5.state s.5.room s.6
          where
            smaller : {d e k : ℕ} {c₁ c : Declaration} → StoredDeclaration words₁ d after k c₁ → StoredDeclaration words e node k c → node < after → declaration_size words₁ after < declaration_size words node
            smaller a b h = omega (arith, declaration_end a, declaration_end b, declaration_on a, h)

            given : (d j : ℕ) (d₁ d₂ : Declaration) → StoredDeclaration words (suc d) node s.0 (DSeq node d₁ d₂) → StoredDeclaration words d (node + 1) j d₁ → StoredDeclaration words d j s.0 d₂ →
                Room held (declaration_need s.3 (DSeq node d₁ d₂)) → (m : Carrying CarriedDeclared) → DeclaredAs words₁ j held d₁ s.2 s.3 m (Ok inner) →
                Fits (sequenced s.2 d₂ m) → Second
            given d j d₁ d₂ whole a b room (carried D) answer fits =
                let state = declared_names answer in
                let at = end_there a in
                let tree = subst (λ i. StoredDeclaration words₁ d i s.0 d₂) (sym at) (same_declaration words words₁ (kept_nodes kept) b) in
                record {
                  there = (
                    s.0,
                    d₂,
                    D.names_declared ++ s.2,
                    names_given s.3 d₁ ++ s.3,
                    D.cells_after,
                    record {
                      depth = d;
                      tree = tree;
                      state = subst (λ i. StateAt words₁ i inner (D.names_declared ++ s.2) (names_given s.3 d₁ ++ s.3) D.cells_after) (sym at) state.state;
                      room = (sequence_room inner s.3 node d₁ d₂ state.bindings_are state.cells_are room).1;
                    },
                    first_fits (carry_declaration (D.names_declared ++ s.2) D.cells_after d₂) _ fits,
                  );
                  less = smaller tree whole (omega (arith, at, declaration_on a));
                  more_bindings = omega (arith, state.bindings_are);
                  more_cells = omega (arith, state.cells_are);
                }
            given d j d₁ d₂ whole a b room (unsafe o) answer fits = ok_not_err answer
            given d j d₁ d₂ whole a b room unfit answer fits = absurd (fits refl)

            by : {d : ℕ} (c : Declaration) → StoredDeclaration words d node s.0 c → StateAt words node held s.2 s.3 s.4 → Room held (declaration_need s.3 c) → Fits (carry_declaration s.2 s.4 c) → Second
            by c (Stored.bind l h a) state room fits = absurd (omega (arith, is_sequence, known, kind_is h (omega arith)))
            by c (Stored.dseq {d = e} {j = j} {d₁ = d₁} {d₂ = d₂} h a b) state room fits =
                let tree = subst (λ i. StoredDeclaration words e i j d₁) (after_node node) a in
                let wide : Held = record { environment = 0; bindings = bindings_left d₁ + held.bindings; cells = cells_left d₁ + held.cells } in
                given e j d₁ d₂ (Stored.dseq h a b) tree b room (carry_declaration s.2 s.4 d₁)
                (declared j d₁ s.2 s.3 s.4 (record { depth = e; tree = tree; state = state_later (omega arith) state; room = (sequence_room wide s.3 node d₁ d₂ refl refl room).0 })) fits

        module _ (words₂ : List ℕ) (u : Result Held Refused) (declared₂ : DeclarationCarried words₁ words₂ inner after u) where
          pub sequence_declared : DeclarationCarried words words₂ held node u
          unfolding carry_declaration names_given bindings_left cells_left
          sequence_declared next c A N K there = by there.tree there.state there.room
            where
              both : (d₁ d₂ : Declaration) (D : CarriedDeclared) → inner.bindings ≡ bindings_left d₁ + held.bindings → inner.cells ≡ cells_left d₁ + held.cells → (m : Carrying CarriedDeclared) →
                  DeclaredAs words₂ next inner d₂ (D.names_declared ++ A) (names_given N d₁ ++ N) m u →
                  DeclaredAs words₂ next held (DSeq node d₁ d₂) A N (m >>= λ F. carried (record { names_declared = F.names_declared ++ D.names_declared; cells_after = F.cells_after })) u
              both d₁ d₂ D p q (carried F) (inmost, o, state) = (
                inmost,
                o,
                record {
                  state =
                      subst (λ B. StateAt words₂ next inmost B ((names_given (names_given N d₁ ++ N) d₂ ++ names_given N d₁) ++ N) F.cells_after) (sym (append_assoc F.names_declared D.names_declared A))
                      (subst (λ M. StateAt words₂ next inmost (F.names_declared ++ (D.names_declared ++ A)) M F.cells_after) (sym (append_assoc (names_given (names_given N d₁ ++ N) d₂) (names_given N d₁) N)) state.state);
                  bindings_are = omega (arith, p, state.bindings_are);
                  cells_are = omega (arith, q, state.cells_are);
                },
              )
              both d₁ d₂ D p q (unsafe o) answer = answer
              both d₁ d₂ D p q unfit answer = tt

              given : (d j : ℕ) (d₁ d₂ : Declaration) → StoredDeclaration words d (node + 1) j d₁ → StoredDeclaration words d j next d₂ → Room held (declaration_need N (DSeq node d₁ d₂)) →
                  (m : Carrying CarriedDeclared) → DeclaredAs words₁ j held d₁ A N m (Ok inner) →
                  DeclaredAs words₂ next held (DSeq node d₁ d₂) A N (sequenced A d₂ m) u
              given d j d₁ d₂ a b room (carried D) answer =
                  let state = declared_names answer in
                  let at = end_there a in
                  both d₁ d₂ D state.bindings_are state.cells_are (carry_declaration (D.names_declared ++ A) D.cells_after d₂)
                  (declared₂ next d₂ (D.names_declared ++ A) (names_given N d₁ ++ N) D.cells_after (record {
                    depth = d;
                    tree = subst (λ i. StoredDeclaration words₁ d i next d₂) (sym at) (same_declaration words words₁ (kept_nodes kept) b);
                    state = subst (λ i. StateAt words₁ i inner (D.names_declared ++ A) (names_given N d₁ ++ N) D.cells_after) (sym at) state.state;
                    room = (sequence_room inner N node d₁ d₂ state.bindings_are state.cells_are room).1;
                  }))
              given d j d₁ d₂ a b room (unsafe o) answer = ok_not_err answer
              given d j d₁ d₂ a b room unfit answer = tt

              by : {d : ℕ} {c : Declaration} → StoredDeclaration words d node next c → StateAt words node held A N K → Room held (declaration_need N c) → DeclaredAs words₂ next held c A N (carry_declaration A K c) u
              by (Stored.bind l h a) state room = absurd (omega (arith, is_sequence, known, kind_is h (omega arith)))
              by (Stored.dseq {d = e} {j = j} {d₁ = d₁} {d₂ = d₂} h a b) state room =
                  let tree = subst (λ i. StoredDeclaration words e i j d₁) (after_node node) a in
                  let wide : Held = record { environment = 0; bindings = bindings_left d₁ + held.bindings; cells = cells_left d₁ + held.cells } in
                  given e j d₁ d₂ tree b room (carry_declaration A K d₁) (declared j d₁ A N K (record { depth = e; tree = tree; state = state_later (omega arith) state; room = (sequence_room wide N node d₁ d₂ refl refl room).0 }))

          pub sequence_keeps : KeepsCells words words₁ held.cells → Keeps words₁ words₂ inner.bindings inner.cells → KeepsCells words₁ words₂ inner.cells → SomeDeclaration words held node →
              Keeps words words₂ held.bindings held.cells × KeepsCells words words₂ held.cells
          sequence_keeps cells kept₂ cells₂ s =
              let second = second_there s in
              (keeps_then kept (keeps_fewer second.more_bindings second.more_cells kept₂), keeps_cells_then cells (keeps_fewer_cells second.more_cells cells₂))
