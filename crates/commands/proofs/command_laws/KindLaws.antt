-- Which command or declaration stands at a place, by the kind of its node.
use Prim.Native.Nat.{ℕ}
use mathlib.Core.Path.{◌≡◌, sym, ap, ◌∙◌, subst}
use native.Mathlib.Omega.{arith}
use mathlib.Core.List.{List}
use lib.ListN.{get_or}
use Rattle.rules.specs.paper.Kinds.{kind_number}
use Rattle.rules.specs.declared.kinds.CommandKind.{CommandKind}
use Rattle.rules.specs.declared.kinds.DeclarationKind.{DeclarationKind}
use Rattle.rules.specs.declared.kinds.Kind.TheVariants.{Command as command_kind, Declaration as declaration_kind}
use Rattle.rules.specs.paper.Tree.{Expression, Command, Assign, Loop, CSeq, block, Call, Cond, Blk, Declaration, Bind, DSeq, Bound}
use Rattle.rules.specs.paper.States.{Item, command, declaration}
use Rattle.reader.specs.Pack.{packed_kind}
use Rattle.reader.specs.KindNumbers.{assign_number, loop_number, cseq_number, blk_number, call_number, conditional_number, bind_number, dseq_number}
use Rattle.reader.proofs.StandingLaws.{command_root, declaration_root}
use Rattle.reader.proofs.KindTrees.{CommandOf, command_of, is_assign, is_loop, is_sequence, is_block, is_call, is_conditional, DeclarationOf, declaration_of, is_bind, is_declaration_sequence}
use Rattle.machine.specs.Regions.{regions}
use Rattle.machine.specs.Steps.{Applicable, Steps}
use Rattle.machine.specs.declared.Machine.{Machine}
use Rattle.std.specs.Prelude.{Result}
use Rattle.machine.proofs.state_laws.ItemLaws.{node_kind, command_top, declaration_top}
use Rattle.rules.specs.declared.refusals.Reason.{Reason}

-- ---- Whose kind is known.

-- Every tree that a rule applies at there has this shape.
module _ {T A B : Type 0} (item : T → Item) (words : List ℕ) (m : Machine) (i : ℕ) (shape : A → B → T)
    (is : (t : T) → Applicable words m i (item t) → (a : A) × (b : B) × (t ≡ shape a b)) where
  pub asked : (t : T) × Applicable words m i (item t) → (a : A) × (b : B) × Applicable words m i (item (shape a b))
  asked (t, given) = let s = is t given in (s.0, s.1, subst (λ u. Applicable words m i (item u)) s.2 given)

  pub arm : (r : Result Machine Reason) (after : List ℕ) → ((a : A) (b : B) → Steps words m i (item (shape a b)) r after) → (t : T) →
      Steps words m i (item t) r after
  arm r after steps t C X E S L n rule f ready =
      let s = is t (record {
        control = C;
        values = X;
        environment = E;
        store = S;
        locations = L;
        bindings = n;
        rule = rule;
        effect = f;
        ready = ready;
      }) in
      subst (λ u. Steps words m i (item u) r after) (sym s.2) (steps s.0 s.1) C X E S L n rule f ready

-- The number of a kind that is told.
pub command_number : {k l : CommandKind} → k ≡ l → kind_number (command_kind k) ≡ kind_number (command_kind l)
command_number q = ap (λ k. kind_number (command_kind k)) q

pub declaration_number : {k l : DeclarationKind} → k ≡ l → kind_number (declaration_kind k) ≡ kind_number (declaration_kind l)
declaration_number q = ap (λ k. kind_number (declaration_kind k)) q

-- ---- Commands.

module _ (words : List ℕ) (m : Machine) (i kind : ℕ) (known : kind ≡ packed_kind (get_or words i 0)) (c : Command)
    (given : Applicable words m i (command c)) where
  standing_command : CommandOf i kind c
  standing_command =
      let stored = (command_top (regions words m) i c given.ready.models).stored in
      subst (λ k. CommandOf i k c) (sym (known ∙ node_kind words m (command_root stored))) (command_of stored)

  pub assign_there : kind ≡ assign_number → (x : ℕ) × (e : Expression) × (c ≡ Assign i x e)
  assign_there = is_assign standing_command

  pub loop_there : kind ≡ loop_number → (e : Expression) × (d : Command) × (c ≡ Loop i e d)
  loop_there = is_loop standing_command

  pub sequence_there : kind ≡ cseq_number → (c₁ c₂ : Command) × (c ≡ CSeq i c₁ c₂)
  sequence_there = is_sequence standing_command

  pub block_there : kind ≡ blk_number → (d : Declaration) × (b : Command) × (c ≡ block (Blk i d b))
  block_there = is_block standing_command

  pub conditional_there : kind ≡ conditional_number → (e : Expression) × (both : Command × Command) × (c ≡ Cond i e both.0 both.1)
  conditional_there q = let s = is_conditional standing_command q in (s.0, (s.1, s.2), s.3)

  pub call_there : kind ≡ call_number → (x : ℕ) × (es : List Expression) × (c ≡ Call i x es)
  call_there q = is_call standing_command (λ h. omega (arith, q, h)) (λ h. omega (arith, q, h)) (λ h. omega (arith, q, h)) (λ h. omega (arith, q, h))
      (λ h. omega (arith, q, h))

-- ---- Declarations.

module _ (words : List ℕ) (m : Machine) (i kind : ℕ) (known : kind ≡ packed_kind (get_or words i 0)) (c : Declaration)
    (given : Applicable words m i (declaration c)) where
  standing_declaration : DeclarationOf i kind c
  standing_declaration =
      let stored = (declaration_top (regions words m) i c given.ready.models).stored in
      subst (λ k. DeclarationOf i k c) (sym (known ∙ node_kind words m (declaration_root stored))) (declaration_of stored)

  pub bind_there : kind ≡ bind_number → (x : ℕ) × (b : Bound) × (c ≡ Bind i x b)
  bind_there = is_bind standing_declaration

  pub declaration_sequence_there : kind ≡ dseq_number → (d₁ d₂ : Declaration) × (c ≡ DSeq i d₁ d₂)
  declaration_sequence_there q = is_declaration_sequence standing_declaration (λ h. omega (arith, q, h))
