-- A Cond whose test may be both: the first command is carried from the cells before it, with a copy kept; then cells and copy change places, the second
-- is carried from the cells before it, with what the first left in the copy; and the cells are widened by the copy.
use Prim.Native.Nat.{ℕ, ◌+◌, ◌<◌, ◌≤◌}
use mathlib.Core.Path.{◌≡◌, refl, sym, ap, ◌∙◌, subst}
use mathlib.Core.Bool.{true}
use mathlib.Core.List.{List}
use Rattle.std.specs.Prelude.{Result, Ok, Err}
use Rattle.rules.specs.declared.refusals.Refused.{Refused}
use mathlib.Core.Option.{Option, none, some}
use native.Mathlib.Omega.{arith}
use lib.ListN.{get_or}
use Rattle.rules.specs.paper.Limits.{most_nodes, most_bindings, most_cells}
use Rattle.rules.specs.paper.Tree.{Expression, Command, Cond}
use Rattle.rules.specs.paper.Needs.{Needs, command_need}
use Rattle.rules.specs.paper.Carried.{truths, Carrying, carried, ◌>>=◌, fitting}
use Rattle.rules.specs.paper.Carrying.{CarriedCells, CarriedNames, wider_cells, carry_expression, carry_choosing, carry_command}
use Rattle.reader.specs.Pack.{packed_kind, packed_end}
use Rattle.reader.proofs.StandingLaws.{command_low}
use Rattle.carrying.specs.States.{CellsAt, Room}
use Rattle.carrying.specs.Frames.{Keeps, Copied, Exchanged, Widened}
use Rattle.carrying.specs.Answers.{ExpressionThere, CommandThere, SomeCommand, CommandAs, CommandCarried}
use Rattle.ranges.specs.Commands.{SomeBoth, BothCarried}
use Rattle.carrying.specs.declared.Held.{Held}
use Rattle.carrying.specs.declared.cells.Ends.{Ends}
use Rattle.carrying.proofs.FrameLaws.{keeps_all, keeps_then, keeps_fewer}
use Rattle.carrying.proofs.StateLaws.{KeptAt, kept_stays, cells_copied, cells_exchanged, copy_exchanged, cells_widened}
use Rattle.carrying.proofs.ReachLaws.{second_place, reach}
use Rattle.ranges.proofs.OutcomeLaws.{told_through, told_at}
use Rattle.ranges.proofs.CommandLaws.{Part, Seen, seen_assign, seen_loop, seen_sequence, seen_block, seen_call, seen_conditional, seen}
use Rattle.ranges.proofs.BranchLaws.{part_there, part_reach}

-- What comes of both commands.
abbrev of_both : (first second : Carrying CarriedCells) → Carrying CarriedCells
of_both first second = first >>= λ K. second >>= λ M. fitting (wider_cells K M)

module _ (words : List ℕ) (held : Held) (node : ℕ) where
  abbrev which : ℕ
  which = packed_kind (get_or words node 0)

  abbrev third_place : ℕ
  third_place = packed_end (get_or words (second_place words node) 0)

  -- Its parts.
  record Parts (next : ℕ) (A : CarriedNames) (N : Needs) (K : CarriedCells) (e : Expression) (c₁ c₂ : Command) : Type 0 where
    test : ExpressionThere words held.environment (node + 1) e A K
    first : Part words held node which refl (second_place words node) next c₁
    second : Part words held node which refl third_place next c₂
    first_room : Room held (command_need N c₁)
    second_room : Room held (command_need N c₂)

  parts_at : {next : ℕ} {A : CarriedNames} {N : Needs} {K : CarriedCells} {e : Expression} {c₁ c₂ c : Command} → c ≡ Cond node e c₁ c₂ → Seen words held node which refl next A N K c → Parts next A N K e c₁ c₂
  parts_at q (seen_assign p e) = absurd cc
  parts_at q seen_loop = absurd cc
  parts_at q (seen_sequence p a b f g) = absurd cc
  parts_at q (seen_block p e a b r) = absurd cc
  parts_at q (seen_call p) = absurd cc
  parts_at {next = next} {A = A} {N = N} {K = K} {e = e} {c₁ = c₁} {c₂ = c₂} q (seen_conditional {e = t} {c₁ = d₁} {c₂ = d₂} p there a b f g) =
      let same_test : t ≡ e = cc in
      let same_first : d₁ ≡ c₁ = cc in
      let same_second : d₂ ≡ c₂ = cc in
      record {
        test = subst (λ x. ExpressionThere words held.environment (node + 1) x A K) same_test there;
        first = subst (λ c. Part words held node which refl (second_place words node) next c) same_first a;
        second = subst (λ c. Part words held node which refl third_place next c) same_second b;
        first_room = subst (λ c. Room held (command_need N c)) same_first f;
        second_room = subst (λ c. Room held (command_need N c)) same_second g;
      }

  parts_of : {next : ℕ} {A : CarriedNames} {N : Needs} {K : CarriedCells} {e : Expression} {c₁ c₂ : Command} → Seen words held node which refl next A N K (Cond node e c₁ c₂) → Parts next A N K e c₁ c₂
  parts_of s = parts_at refl s

  parts : {A : CarriedNames} {N : Needs} {K : CarriedCells} {e : Expression} {c₁ c₂ : Command} (there : CommandThere words held node (Cond node e c₁ c₂) A N K) → Parts there.next A N K e c₁ c₂
  parts there = parts_of (seen words held node which refl there)

  -- It comes to both.
  whole_is : (A : CarriedNames) (K : CarriedCells) (e : Expression) (c₁ c₂ : Command) → carry_expression A K e ≡ carried (truths true true) →
      carry_command A K (Cond node e c₁ c₂) ≡ of_both (carry_command A K c₁) (carry_command A K c₂)
  unfolding carry_command
  whole_is A K e c₁ c₂ same = ap (λ o. o >>= λ v. carry_choosing v (carry_command A K c₁) (carry_command A K c₂)) same

  pub cells_few : SomeBoth words held node → held.cells ≤ most_cells
  cells_few s = omega (arith, s.6.room.cells_fit)

  kept_here : Keeps words words held.bindings held.cells
  kept_here = keeps_all words held.bindings held.cells

  module _ (first : ℕ) (place : first ≡ second_place words node) where
    first_command : {A : CarriedNames} {N : Needs} {K : CarriedCells} {e : Expression} {c₁ c₂ : Command} → CommandThere words held node (Cond node e c₁ c₂) A N K → CommandThere words held first c₁ A N K
    first_command {A} {N} {K} {c₁ = c₁} there =
        subst (λ i. CommandThere words held i c₁ A N K) (sym place)
        (part_there words held node which refl words kept_here (parts there).first there.state there.state.cells_are (parts there).first_room)

    pub first_low : SomeBoth words held node → first < most_nodes
    first_low s = command_low (first_command s.6).tree

    pub first_there : SomeBoth words held node → SomeCommand words held first × (reach words first < reach words node)
    first_there s = (
      (
        s.1,
        s.3,
        s.4,
        s.5,
        first_command s.6,
        λ never. s.8 (whole_is s.3 s.5 s.0 s.1 s.2 s.7 ∙ ap (λ o. of_both o (carry_command s.3 s.5 s.2)) never),
      ),
      subst (λ i. reach words i < reach words node) (sym place) (part_reach words held node which refl words kept_here s.6.tree (parts s.6).first),
    )

    pub first_unsafe : (words₁ : List ℕ) (refused : Refused) → CommandCarried words words₁ held first (Err refused) → BothCarried words words₁ held node (Err refused)
    first_unsafe words₁ refused ran e c₁ c₂ A N K there same =
        subst (λ o. CommandAs words₁ held.cells o (Err refused)) (sym (whole_is A K e c₁ c₂ same))
        (told_at words₁ held.cells words₁ held.cells (λ K₁. carry_command A K c₂ >>= λ M. fitting (wider_cells K₁ M)) (carry_command A K c₁) refused (ran c₁ A N K (first_command there)))

    module _ (words₁ words₂ : List ℕ) (copy copy' : List Ends) (ran : CommandCarried words words₁ held first (Ok tt)) (kept : Keeps words words₁ held.bindings held.cells)
        (copied : Copied words copy held.cells) (exchanged : Exchanged words₁ words₂ copy copy' held.cells) (few : held.cells ≤ most_cells) (some_rows : held.bindings ≤ most_bindings) (low : first < most_nodes)
        (second : ℕ) (second_is : second ≡ packed_end (get_or words₂ first 0)) where
      pub kept_twice : Keeps words words₂ held.bindings held.cells
      kept_twice = keeps_then kept (keeps_fewer some_rows few exchanged.keeps)

      -- The cells before the Cond are back ..
      before : {K : CarriedCells} → CellsAt words held.cells K → CellsAt words₂ held.cells K
      before now = cells_exchanged exchanged few (omega arith) (kept_stays kept (omega arith) (cells_copied copied (omega arith) now))

      -- .. and what the first command left is in the copy.
      after : {M : CarriedCells} → CellsAt words₁ held.cells M → KeptAt words₂ copy' held.cells M
      after now = copy_exchanged exchanged few (omega arith) now

      place_is : second ≡ third_place
      place_is = second_is ∙ ap packed_end (kept_twice.same_nodes first low) ∙ ap (λ i. packed_end (get_or words i 0)) place

      second_command : {A : CarriedNames} {N : Needs} {K : CarriedCells} {e : Expression} {c₁ c₂ : Command} → CommandThere words held node (Cond node e c₁ c₂) A N K → CommandThere words₂ held second c₂ A N K
      second_command {A} {N} {K} {c₂ = c₂} there =
          subst (λ i. CommandThere words₂ held i c₂ A N K) (sym place_is)
          (part_there words held node which refl words₂ kept_twice (parts there).second there.state (before there.state.cells_are) (parts there).second_room)

      pub second_there : SomeBoth words held node → SomeCommand words₂ held second × (reach words₂ second < reach words node)
      second_there s =
          told_through (carry_command s.3 s.5 s.1) (ran s.1 s.3 s.4 s.5 (first_command s.6))
          (λ M same now. (
            (
              s.2,
              s.3,
              s.4,
              s.5,
              second_command s.6,
              λ never.
                  s.8
                  (whole_is s.3 s.5 s.0 s.1 s.2 s.7 ∙ ap (λ o. of_both o (carry_command s.3 s.5 s.2)) same ∙ ap (λ o. o >>= λ L. fitting (wider_cells M L)) never),
            ),
            subst (λ i. reach words₂ i < reach words node) (sym place_is) (part_reach words held node which refl words₂ kept_twice s.6.tree (parts s.6).second),
          ))
          (λ never. absurd (s.8 (whole_is s.3 s.5 s.0 s.1 s.2 s.7 ∙ ap (λ o. of_both o (carry_command s.3 s.5 s.2)) never)))

      -- What the second's answer comes to.
      both_as : (words₃ : List ℕ) (t : Result (Unit {0}) Refused) → ((A : CarriedNames) (N : Needs) (K M : CarriedCells) (c₂ : Command) → CommandThere words₂ held second c₂ A N K → KeptAt words₂ copy' held.cells M →
          CommandAs words₃ held.cells (carry_command A K c₂ >>= λ L. fitting (wider_cells M L)) t) → BothCarried words words₃ held node t
      both_as words₃ t give e c₁ c₂ A N K there same =
          subst (λ o. CommandAs words₃ held.cells o t) (sym (whole_is A K e c₁ c₂ same))
          (told_through (carry_command A K c₁) (ran c₁ A N K (first_command there))
          (λ M left now. subst (λ o. CommandAs words₃ held.cells (of_both o (carry_command A K c₂)) t) (sym left) (give A N K M c₂ (second_command there) (after now)))
          (λ never. subst (λ o. CommandAs words₃ held.cells (of_both o (carry_command A K c₂)) t) (sym never) tt))

      pub second_unsafe : (words₃ : List ℕ) (refused : Refused) → CommandCarried words₂ words₃ held second (Err refused) → BothCarried words words₃ held node (Err refused)
      second_unsafe words₃ refused ran_second =
          both_as words₃ (Err refused) (λ A N K M c₂ there copy_there. told_at words₃ held.cells words₃ held.cells (λ L. fitting (wider_cells M L)) (carry_command A K c₂) refused (ran_second c₂ A N K there))

      pub both_carried : (words₃ words₄ : List ℕ) → CommandCarried words₂ words₃ held second (Ok tt) → Keeps words₂ words₃ held.bindings held.cells → Widened words₃ words₄ copy' held.cells →
          BothCarried words words₄ held node (Ok tt)
      both_carried words₃ words₄ ran_second kept_second widened =
          both_as words₄ (Ok tt) (λ A N K M c₂ there copy_there.
          told_through (carry_command A K c₂) (ran_second c₂ A N K there)
          (λ L left now.
          subst (λ o. CommandAs words₄ held.cells (o >>= λ L. fitting (wider_cells M L)) (Ok tt)) (sym left)
          (wide (wider_cells M L) refl (kept_stays kept_second (omega arith) copy_there) now))
          (λ never. subst (λ o. CommandAs words₄ held.cells (o >>= λ L. fitting (wider_cells M L)) (Ok tt)) (sym never) tt))
        where
          wide : {M L : CarriedCells} (o : Option CarriedCells) → wider_cells M L ≡ o → KeptAt words₃ copy' held.cells M → CellsAt words₃ held.cells L → CommandAs words₄ held.cells (fitting o) (Ok tt)
          wide none q copy_there now = tt
          wide (some W) q copy_there now = (refl, cells_widened widened (omega arith) copy_there now q)
