-- Commands by the kind of their node: what stands there, that its parts' carrying is fit where its own is, and what it leaves from what they leave.
use Prim.Native.Nat.{ℕ, suc, ◌+◌, ◌<◌, ◌≤◌}
use mathlib.Core.Path.{◌≡◌, sym, ap, ◌∙◌, subst}
use mathlib.Core.List.{List, [], ◌∷◌, ◌++◌}
use native.Mathlib.Omega.{arith}
use lib.ListN.{get_or}
use Rattle.rules.specs.paper.Tree.{Expression, Command, Assign, Loop, CSeq, block, Call, Cond, Blk, Declaration}
use Rattle.rules.specs.paper.Needs.{Figure, sizes, Need, Needs, step, over, either, node_step, in_turn, expression_need, cells_left, bindings_left, tested_need, command_need, block_need, declaration_need, names_given}
use Rattle.rules.specs.paper.Carrying.{CarriedCells, CarriedNames}
use Rattle.rules.specs.paper.Kinds.{kind_number}
use Rattle.rules.specs.declared.kinds.CommandKind.{CommandKind}
use Rattle.rules.specs.declared.kinds.Kind.{Kind}
use Rattle.rules.specs.declared.kinds.Kind.TheVariants.{Command as command_kind}
use Rattle.reader.specs.NodeKinds.{command_kind_of, Known}
use Rattle.reader.proofs.NodeKindLaws.{command_known, command_is}
use Rattle.reader.specs.KindNumbers.{assign_number, cseq_number, blk_number, call_number, conditional_number}
use Rattle.reader.specs.Pack.{packed_kind, packed_end}
use Rattle.reader.specs.Stored.{StoredExpression, StoredCommand, blk, StoredDeclaration}
use Rattle.reader.proofs.StoredFields.{kind_is}
use Rattle.reader.specs.Stored as Stored
use Rattle.reader.proofs.StandingLaws.{after_node, expression_on, expression_end, command_on, command_end, declaration_on, declaration_end}
use Rattle.carrying.specs.States.{StateAt, Sees, Room}
use Rattle.carrying.specs.Answers.{ExpressionThere, DeclarationThere, CommandThere, SomeCommand}
use Rattle.carrying.specs.declared.Held.{Held}
use Rattle.carrying.proofs.StateLaws.{names_later}
use Rattle.carrying.proofs.ReachLaws.{second_place}
use Rattle.ranges.proofs.OutcomeLaws.{first_of, later_of, same_room}

-- ---- The kind of its node.

pub known_there : (words : List ℕ) (held : Held) (node : ℕ) → SomeCommand words held node → Known (get_or words node 0)
known_there words held node s = command_known s.4.tree

pub no_other : (words : List ℕ) (held : Held) (node : ℕ) (k : Kind) → kind_number k ≡ packed_kind (get_or words node 0) → ((x : CommandKind) → k ≡ command_kind x → ⊥) → SomeCommand words held node → ⊥
no_other words held node k known other s = other (command_kind_of s.0) (command_is k s.4.tree known)

-- Its number, where it is one of the commands'.
pub number_at : {which : ℕ} {k : CommandKind} (l : CommandKind) → kind_number (command_kind k) ≡ which → k ≡ l → which ≡ kind_number (command_kind l)
number_at l known same = sym known ∙ ap (λ k. kind_number (command_kind k)) same

-- ---- What an expression of a command sees.

pub state_sees : {words : List ℕ} {limit : ℕ} {held : Held} {A : CarriedNames} {N : Needs} {K : CarriedCells} {n : Need} → Room held n → StateAt words limit held A N K → Sees words held.environment A K
state_sees {limit = limit} {held = held} {N = N} room state =
    record { limit = limit; needs = N; count = held.cells; names_are = state.names_are; cells_are = state.cells_are; count_few = omega (arith, room.cells_fit) }

module _ (words : List ℕ) (held : Held) (node which : ℕ) (known : which ≡ packed_kind (get_or words node 0)) where
  -- ---- What stands there.

  -- The tree of a part, which begins after the node and ends no later.
  pub record Part (place next : ℕ) (c : Command) : Type 0 where
    pub depth : ℕ
    pub end : ℕ
    pub tree : StoredCommand words depth place end c
    pub later : node < place
    pub within : end ≤ next

  pub data Seen (next : ℕ) (A : CarriedNames) (N : Needs) (K : CarriedCells) : Command → Type 0 where
    seen_assign : {x : ℕ} {e : Expression} → which ≡ assign_number → ExpressionThere words held.environment (node + 1) e A K → Seen next A N K (Assign node x e)
    seen_loop : {e : Expression} {c : Command} → Seen next A N K (Loop node e c)
    seen_sequence : {c₁ c₂ : Command} → which ≡ cseq_number → Part (node + 1) next c₁ → Part (second_place words node) next c₂ → Room held (command_need N c₁) → Room held (command_need N c₂) →
        Seen next A N K (CSeq node c₁ c₂)
    seen_block : {d : Declaration} {c : Command} {m : ℕ} → which ≡ blk_number → second_place words node ≡ m → DeclarationThere words held (node + 1) m d A N K → Part m next c →
        Room held (over (sizes 1 2 (cells_left d) (bindings_left d)) (command_need (names_given N d ++ N) c)) → Seen next A N K (block (Blk node d c))
    seen_call : {x : ℕ} {es : List Expression} → which ≡ call_number → Seen next A N K (Call node x es)
    seen_conditional : {e : Expression} {c₁ c₂ : Command} → which ≡ conditional_number → ExpressionThere words held.environment (node + 1) e A K → Part (second_place words node) next c₁ →
        Part (packed_end (get_or words (second_place words node) 0)) next c₂ → Room held (command_need N c₁) → Room held (command_need N c₂) → Seen next A N K (Cond node e c₁ c₂)

  child : {d j : ℕ} {c : Command} → StoredCommand words d (suc node) j c → StoredCommand words d (node + 1) j c
  child {d} {j} {c} s = subst (λ k. StoredCommand words d k j c) (after_node node) s

  child_expression : {d j : ℕ} {e : Expression} → StoredExpression words d (suc node) j e → StoredExpression words d (node + 1) j e
  child_expression {d} {j} {e} s = subst (λ k. StoredExpression words d k j e) (after_node node) s

  child_declaration : {d j : ℕ} {c : Declaration} → StoredDeclaration words d (suc node) j c → StoredDeclaration words d (node + 1) j c
  child_declaration {d} {j} {c} s = subst (λ k. StoredDeclaration words d k j c) (after_node node) s

  pub seen : {c : Command} {A : CarriedNames} {N : Needs} {K : CarriedCells} (there : CommandThere words held node c A N K) → Seen there.next A N K c
  unfolding command_need block_need tested_need
  seen {c} {A} {N} {K} there = by there.tree there.room
    where
      sees : Sees words held.environment A K
      sees = state_sees there.room there.state

      expression_there : {d j : ℕ} {e : Expression} → StoredExpression words d (suc node) j e → ExpressionThere words held.environment (node + 1) e A K
      expression_there {d} {j} a = record { depth = d; next = j; tree = child_expression a; sees = sees }

      by : {d j : ℕ} {c : Command} → StoredCommand words d node j c → Room held (command_need N c) → Seen j A N K c
      by (Stored.assign l h a) room = seen_assign (known ∙ kind_is h (omega arith)) (expression_there a)
      by (Stored.loop h a b) room = seen_loop
      by {j = k} (Stored.cseq {d = d} {j = j} {c₁ = c₁} {c₂ = c₂} h a b) room =
          let end : second_place words node ≡ j = command_end (child a) in
          seen_sequence (known ∙ kind_is h (omega arith)) (record { depth = d; end = j; tree = child a; later = omega arith; within = omega (arith, command_on b) })
          (record { depth = d; end = k; tree = subst (λ i. StoredCommand words d i k c₂) (sym end) b; later = omega (arith, end, command_on a); within = omega arith })
          (same_room (λ f. omega (arith, first_of (over (sizes 1 0 0 0) (command_need N c₁)) (command_need N c₂ ∷ []) f, later_of node_step (over (sizes 1 0 0 0) (command_need N c₁) ∷ command_need N c₂ ∷ []) f)) room)
          (same_room
          (λ f.
          omega (
            arith,
            first_of (command_need N c₂) [] f,
            later_of (over (sizes 1 0 0 0) (command_need N c₁)) (command_need N c₂ ∷ []) f,
            later_of node_step (over (sizes 1 0 0 0) (command_need N c₁) ∷ command_need N c₂ ∷ []) f,
          ))
          room)
      by (Stored.block_of (blk {d = d} {j = j} {k = k} {dec = s} {c = c} h a b)) room =
          let declared = over (sizes 3 1 0 0) (declaration_need N s) in
          let first_mark = step (sizes 3 2 (cells_left s) (bindings_left s)) in
          let inside = over (sizes 1 2 (cells_left s) (bindings_left s)) (command_need (names_given N s ++ N) c) in
          let last_mark = step (sizes 1 2 (cells_left s) (bindings_left s)) in
          seen_block (known ∙ kind_is h (omega arith)) (declaration_end (child_declaration a))
          (record {
            depth = d;
            tree = child_declaration a;
            state = record { names_are = names_later (omega arith) there.state.names_are; cells_are = there.state.cells_are; pointed = there.state.pointed };
            room = same_room (λ f. omega (arith, first_of declared (first_mark ∷ inside ∷ last_mark ∷ []) f, later_of node_step (declared ∷ first_mark ∷ inside ∷ last_mark ∷ []) f)) room;
          })
          (record { depth = d; end = k; tree = b; later = omega (arith, declaration_on a); within = omega arith })
          (same_room
          (λ f.
          omega (
            arith,
            first_of inside (last_mark ∷ []) f,
            later_of first_mark (inside ∷ last_mark ∷ []) f,
            later_of declared (first_mark ∷ inside ∷ last_mark ∷ []) f,
            later_of node_step (declared ∷ first_mark ∷ inside ∷ last_mark ∷ []) f,
          ))
          room)
      by (Stored.call l g h a) room = seen_call (known ∙ kind_is h (omega arith))
      by (Stored.conditional {d = d} {j = j} {k = k} {l = m} {e = e} {c₁ = c₁} {c₂ = c₂} h a b c) room =
          let place : second_place words node ≡ j = expression_end (child_expression a) in
          let first = subst (λ i. StoredCommand words d i k c₁) (sym place) b in
          let end : packed_end (get_or words (second_place words node) 0) ≡ k = command_end first in
          let test = over (sizes 1 1 0 0) (expression_need e) in
          let mark = step (sizes 1 2 0 0) in
          let commands = either (command_need N c₁) (command_need N c₂) in
          let larger : (f : Figure) → commands.most f ≤ (command_need N (Cond node e c₁ c₂)).most f =
          λ f.
          omega (
            arith,
            first_of commands [] f,
            later_of mark (commands ∷ []) f,
            first_of (in_turn (mark ∷ commands ∷ [])) [] f,
            later_of test (in_turn (mark ∷ commands ∷ []) ∷ []) f,
            later_of node_step (test ∷ in_turn (mark ∷ commands ∷ []) ∷ []) f,
          ) in
          seen_conditional (known ∙ kind_is h (omega arith)) (expression_there a)
          (record { depth = d; end = k; tree = first; later = omega (arith, place, expression_on a); within = omega (arith, command_on c) })
          (record { depth = d; end = m; tree = subst (λ i. StoredCommand words d i m c₂) (sym end) c; later = omega (arith, end, place, expression_on a, command_on b); within = omega arith })
          (same_room (λ f. omega (arith, larger f)) room) (same_room (λ f. omega (arith, larger f)) room)
