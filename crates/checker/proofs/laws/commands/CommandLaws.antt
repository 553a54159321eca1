-- Commands by the kind of their node: which command stands there, and what it is judged from its parts.
use Prim.Native.Nat.{ℕ, suc, ◌+◌, ◌<◌, ◌≤◌}
use mathlib.Core.Path.{◌≡◌, refl, sym, ◌∙◌, subst}
use mathlib.Core.List.{List}
use native.Mathlib.Omega.{arith}
use lib.ListN.{length, get_or}
use Rattle.rules.specs.paper.Tree.{Expression, Command, Assign, Loop, CSeq, block, Call, Cond, Block}
use Rattle.rules.specs.paper.Checker.{Scope, ◌>>=◌, ok, same_code, truth_only, expression_code, command_ok}
use Rattle.rules.specs.paper.Kinds.{kind_number}
use Rattle.rules.specs.declared.kinds.Kind.{Kind}
use Rattle.rules.specs.declared.kinds.Kind.TheVariants.{Command as command_kind}
use Rattle.rules.specs.declared.kinds.CommandKind.{CommandKind}
use Rattle.rules.specs.declared.kinds.CommandKind.TheVariants.{Assign as assign, Loop as loop, CSeq as cseq, Blk as blk, Call as call, Cond as conditional}
use Rattle.reader.specs.NodeKinds.{command_kind_of}
use Rattle.reader.specs.KindNumbers.{assign_number, loop_number, cseq_number, blk_number, call_number, conditional_number}
use Rattle.reader.proofs.NodeKindLaws.{command_number, command_is}
use Rattle.reader.specs.Pack.{packed_kind, packed_end}
use Rattle.reader.specs.Stored.{StoredExpression, StoredActuals, StoredCommand}
use Rattle.reader.specs.Stored as Stored
use Rattle.reader.proofs.StandingLaws.{expression_on, expression_end, command_on, command_end, after_node}
use Rattle.typing.specs.Rows.{ScopeAt}
use Rattle.typing.specs.Answers.{fine_answer, ExpressionAt, ExpressionJudgedAt}
use Rattle.checker.specs.Commands.{WritesRowsFrom, AssignAt, AssignJudgedAt, CallAt, CallJudgedAt, CommandAt, BlockAt, CommandJudgedAt, ConditionalJudgedAt, BlockJudgedAt}
use Rattle.std.specs.Prelude.{Result, Ok, Err}
use Rattle.rules.specs.declared.refusals.Refused.{Refused}
use Rattle.typing.proofs.laws.codes.AnswerLaws.{then_fault, then_fine, then_code, truth_fine}
use Rattle.checker.proofs.laws.commands.KeptLaws.{kept_command, kept_scope}

-- ---- Which command it is, by its kind.

-- The node after the first child and its descendants.
abbrev pub second_place : List ℕ → ℕ → ℕ
second_place words node = packed_end (get_or words (node + 1) 0)

pub data CommandOfKind (words : List ℕ) (node : ℕ) : CommandKind → Command → Type 0 where
  assign_of_kind : {x : ℕ} {e : Expression} → AssignAt words node x e → CommandOfKind words node assign (Assign node x e)
  loop_of_kind : {e : Expression} {c : Command} → ExpressionAt words (node + 1) e → CommandAt words (second_place words node) c → node < second_place words node →
      CommandOfKind words node loop (Loop node e c)
  sequence_of_kind : {c₁ c₂ : Command} → CommandAt words (node + 1) c₁ → CommandAt words (second_place words node) c₂ → node < second_place words node →
      CommandOfKind words node cseq (CSeq node c₁ c₂)
  block_of_kind : {b : Block} → BlockAt words node b → CommandOfKind words node blk (block b)
  call_of_kind : {x : ℕ} {es : List Expression} → CallAt words node x es → CommandOfKind words node call (Call node x es)
  conditional_of_kind : {e : Expression} {c₁ c₂ : Command} → CommandAt words node (Cond node e c₁ c₂) → CommandOfKind words node conditional (Cond node e c₁ c₂)

pub command_of_kind : (words : List ℕ) (node : ℕ) (c : Command) → CommandAt words node c → CommandOfKind words node (command_kind_of c) c
command_of_kind words node c at = by at.stored
  where
    child : {d j : ℕ} {e : Expression} → StoredExpression words d (suc node) j e → StoredExpression words d (node + 1) j e
    child {d} {j} {e} s = subst (λ i. StoredExpression words d i j e) (after_node node) s

    child_command : {d j : ℕ} {c : Command} → StoredCommand words d (suc node) j c → StoredCommand words d (node + 1) j c
    child_command {d} {j} {c} s = subst (λ i. StoredCommand words d i j c) (after_node node) s

    by : {d j : ℕ} {c : Command} → StoredCommand words d node j c → CommandOfKind words node (command_kind_of c) c
    by {d = suc d} {j = j} (Stored.assign l h a) =
        assign_of_kind (record { end = j; name_low = l; word = h; value = record { depth = d; next = j; stored = child a } })
    by {d = suc d} (Stored.loop {j = j} {k = m} {c = c} h a b) =
        let end : second_place words node ≡ j = expression_end (child a) in
        loop_of_kind (record { depth = d; next = j; stored = child a }) (record { depth = d; next = m; stored = subst (λ i. StoredCommand words d i m c) (sym end) b })
        (subst (λ i. node < i) (sym end) (omega (arith, expression_on a)))
    by {d = suc d} (Stored.cseq {j = j} {k = m} {c₂ = c₂} h a b) =
        let end : second_place words node ≡ j = command_end (child_command a) in
        sequence_of_kind (record { depth = d; next = j; stored = child_command a }) (record { depth = d; next = m; stored = subst (λ i. StoredCommand words d i m c₂) (sym end) b })
        (subst (λ i. node < i) (sym end) (omega (arith, command_on a)))
    by {d = d} {j = j} (Stored.block_of a) = block_of_kind (record { depth = d; next = j; stored = a })
    by {d = suc d} {j = j} (Stored.call {es = es} l g h a) =
        call_of_kind (record {
          end = j;
          count = length es;
          few = g;
          name_low = l;
          word = h;
          actuals = record { depth = d; next = j; stored = subst (λ i. StoredActuals words d i j es) (after_node node) a; number = refl };
        })
    by {d = suc d} {j = j} (Stored.conditional h a b c) = conditional_of_kind (record { depth = suc d; next = j; stored = Stored.conditional h a b c })

-- Whatever command stands there is of this kind.
abbrev pub KindThere : List ℕ → ℕ → CommandKind → Type 0
KindThere words node x = (c : Command) → CommandAt words node c → command_kind_of c ≡ x

pub kind_there : (words : List ℕ) (node : ℕ) (k : Kind) (x y : CommandKind) → kind_number k ≡ packed_kind (get_or words node 0) → k ≡ command_kind x → x ≡ y → KindThere words node y
kind_there words node k x y known is same c at = let told : k ≡ command_kind (command_kind_of c) = command_is k at.stored known in cc

-- Which command it is, by the number of its kind.
pub data SeenCommand (words : List ℕ) (node : ℕ) : (which : ℕ) → Command → Type 0 where
  seen_assign : {x : ℕ} {e : Expression} → AssignAt words node x e → SeenCommand words node assign_number (Assign node x e)
  seen_loop : {e : Expression} {c : Command} → ExpressionAt words (node + 1) e → CommandAt words (second_place words node) c → node < second_place words node →
      SeenCommand words node loop_number (Loop node e c)
  seen_sequence : {c₁ c₂ : Command} → CommandAt words (node + 1) c₁ → CommandAt words (second_place words node) c₂ → node < second_place words node →
      SeenCommand words node cseq_number (CSeq node c₁ c₂)
  seen_block : {b : Block} → BlockAt words node b → SeenCommand words node blk_number (block b)
  seen_call : {x : ℕ} {es : List Expression} → CallAt words node x es → SeenCommand words node call_number (Call node x es)
  seen_conditional : {e : Expression} {c₁ c₂ : Command} → CommandAt words node (Cond node e c₁ c₂) → SeenCommand words node conditional_number (Cond node e c₁ c₂)

pub seen_command : (words : List ℕ) (node which : ℕ) (c : Command) → which ≡ packed_kind (get_or words node 0) → CommandAt words node c → SeenCommand words node which c
seen_command words node which c k at =
    subst (λ w. SeenCommand words node w c) (sym (k ∙ command_number at.stored)) (by (command_of_kind words node c at))
  where
    by : {x : CommandKind} {c : Command} → CommandOfKind words node x c → SeenCommand words node (kind_number (command_kind x)) c
    by (assign_of_kind a) = seen_assign a
    by (loop_of_kind a b l) = seen_loop a b l
    by (sequence_of_kind a b l) = seen_sequence a b l
    by (block_of_kind b) = seen_block b
    by (call_of_kind a) = seen_call a
    by (conditional_of_kind c) = seen_conditional c

-- ---- What stands there, by the kind.

module _ (words : List ℕ) (node : ℕ) where
  pub assign_there : KindThere words node assign → ((c : Command) × CommandAt words node c) → (x : ℕ) × (e : Expression) × AssignAt words node x e
  assign_there q c = by (command_of_kind words node c.0 c.1) (q c.0 c.1)
    where
      by : {w : CommandKind} {c : Command} → CommandOfKind words node w c → w ≡ assign → (x : ℕ) × (e : Expression) × AssignAt words node x e
      by (assign_of_kind {x = x} {e = e} a) q = (x, e, a)
      by (loop_of_kind a b l) q = absurd cc
      by (sequence_of_kind a b l) q = absurd cc
      by (block_of_kind a) q = absurd cc
      by (call_of_kind a) q = absurd cc
      by (conditional_of_kind a) q = absurd cc

  pub block_there : KindThere words node blk → ((c : Command) × CommandAt words node c) → (b : Block) × BlockAt words node b
  block_there q c = by (command_of_kind words node c.0 c.1) (q c.0 c.1)
    where
      by : {w : CommandKind} {c : Command} → CommandOfKind words node w c → w ≡ blk → (b : Block) × BlockAt words node b
      by (assign_of_kind a) q = absurd cc
      by (loop_of_kind a b l) q = absurd cc
      by (sequence_of_kind a b l) q = absurd cc
      by (block_of_kind {b = b} a) q = (b, a)
      by (call_of_kind a) q = absurd cc
      by (conditional_of_kind a) q = absurd cc

  pub call_there : KindThere words node call → ((c : Command) × CommandAt words node c) → (x : ℕ) × (es : List Expression) × CallAt words node x es
  call_there q c = by (command_of_kind words node c.0 c.1) (q c.0 c.1)
    where
      by : {w : CommandKind} {c : Command} → CommandOfKind words node w c → w ≡ call → (x : ℕ) × (es : List Expression) × CallAt words node x es
      by (assign_of_kind a) q = absurd cc
      by (loop_of_kind a b l) q = absurd cc
      by (sequence_of_kind a b l) q = absurd cc
      by (block_of_kind a) q = absurd cc
      by (call_of_kind {x = x} {es = es} a) q = (x, es, a)
      by (conditional_of_kind a) q = absurd cc

  pub loop_there : KindThere words node loop → ((c : Command) × CommandAt words node c) →
      (e : Expression) × (c : Command) × ExpressionAt words (node + 1) e × CommandAt words (second_place words node) c × (node < second_place words node)
  loop_there q c = by (command_of_kind words node c.0 c.1) (q c.0 c.1)
    where
      by : {w : CommandKind} {c : Command} → CommandOfKind words node w c → w ≡ loop →
          (e : Expression) × (c : Command) × ExpressionAt words (node + 1) e × CommandAt words (second_place words node) c × (node < second_place words node)
      by (assign_of_kind a) q = absurd cc
      by (loop_of_kind {e = e} {c = c} a b l) q = (e, c, a, b, l)
      by (sequence_of_kind a b l) q = absurd cc
      by (block_of_kind a) q = absurd cc
      by (call_of_kind a) q = absurd cc
      by (conditional_of_kind a) q = absurd cc

  pub conditional_there : KindThere words node conditional → ((c : Command) × CommandAt words node c) → (e : Expression) × (c₁ : Command) × (c₂ : Command) × CommandAt words node (Cond node e c₁ c₂)
  conditional_there q c = by (command_of_kind words node c.0 c.1) (q c.0 c.1)
    where
      by : {w : CommandKind} {c : Command} → CommandOfKind words node w c → w ≡ conditional → (e : Expression) × (c₁ : Command) × (c₂ : Command) × CommandAt words node (Cond node e c₁ c₂)
      by (assign_of_kind a) q = absurd cc
      by (loop_of_kind a b l) q = absurd cc
      by (sequence_of_kind a b l) q = absurd cc
      by (block_of_kind a) q = absurd cc
      by (call_of_kind a) q = absurd cc
      by (conditional_of_kind {e = e} {c₁ = c₁} {c₂ = c₂} a) q = (e, c₁, c₂, a)

  pub commands_there : KindThere words node cseq → ((c : Command) × CommandAt words node c) →
      (c₁ : Command) × (c₂ : Command) × CommandAt words (node + 1) c₁ × CommandAt words (second_place words node) c₂ × (node < second_place words node)
  commands_there q c = by (command_of_kind words node c.0 c.1) (q c.0 c.1)
    where
      by : {w : CommandKind} {c : Command} → CommandOfKind words node w c → w ≡ cseq →
          (c₁ : Command) × (c₂ : Command) × CommandAt words (node + 1) c₁ × CommandAt words (second_place words node) c₂ × (node < second_place words node)
      by (assign_of_kind a) q = absurd cc
      by (loop_of_kind a b l) q = absurd cc
      by (sequence_of_kind {c₁ = c₁} {c₂ = c₂} a b l) q = (c₁, c₂, a, b, l)
      by (block_of_kind a) q = absurd cc
      by (call_of_kind a) q = absurd cc
      by (conditional_of_kind a) q = absurd cc

-- ---- What it is judged.

module _ (words : List ℕ) (registers scope node : ℕ) where
  abbrev Judges : Result (Unit {0}) Refused → Type 0
  Judges r = CommandJudgedAt words registers scope node r

  pub command_assign : (r : Result (Unit {0}) Refused) → KindThere words node assign → AssignJudgedAt words registers scope node r → Judges r
  command_assign r q judged c Γ at s = by (command_of_kind words node c at) (q c at)
    where
      by : {w : CommandKind} {c : Command} → CommandOfKind words node w c → w ≡ assign → r ≡ fine_answer (command_ok Γ c)
      by (assign_of_kind {x = x} {e = e} a) q = judged x e Γ a s
      by (loop_of_kind a b l) q = absurd cc
      by (sequence_of_kind a b l) q = absurd cc
      by (block_of_kind a) q = absurd cc
      by (call_of_kind a) q = absurd cc
      by (conditional_of_kind a) q = absurd cc

  pub command_block : (r : Result (Unit {0}) Refused) → KindThere words node blk → BlockJudgedAt words registers scope node r → Judges r
  unfolding command_ok
  command_block r q judged c Γ at s = by (command_of_kind words node c at) (q c at)
    where
      by : {w : CommandKind} {c : Command} → CommandOfKind words node w c → w ≡ blk → r ≡ fine_answer (command_ok Γ c)
      by (assign_of_kind a) q = absurd cc
      by (loop_of_kind a b l) q = absurd cc
      by (sequence_of_kind a b l) q = absurd cc
      by (block_of_kind {b = b} a) q = judged b Γ a s
      by (call_of_kind a) q = absurd cc
      by (conditional_of_kind a) q = absurd cc

  pub command_call : (r : Result (Unit {0}) Refused) → KindThere words node call → CallJudgedAt words registers scope node r → Judges r
  command_call r q judged c Γ at s = by (command_of_kind words node c at) (q c at)
    where
      by : {w : CommandKind} {c : Command} → CommandOfKind words node w c → w ≡ call → r ≡ fine_answer (command_ok Γ c)
      by (assign_of_kind a) q = absurd cc
      by (loop_of_kind a b l) q = absurd cc
      by (sequence_of_kind a b l) q = absurd cc
      by (block_of_kind a) q = absurd cc
      by (call_of_kind {x = x} {es = es} a) q = judged x es Γ a s
      by (conditional_of_kind a) q = absurd cc

  pub command_conditional : (r : Result (Unit {0}) Refused) → KindThere words node conditional → ConditionalJudgedAt words registers scope node r → Judges r
  command_conditional r q judged c Γ at s = by (command_of_kind words node c at) (q c at)
    where
      by : {w : CommandKind} {c : Command} → CommandOfKind words node w c → w ≡ conditional → r ≡ fine_answer (command_ok Γ c)
      by (assign_of_kind a) q = absurd cc
      by (loop_of_kind a b l) q = absurd cc
      by (sequence_of_kind a b l) q = absurd cc
      by (block_of_kind a) q = absurd cc
      by (call_of_kind a) q = absurd cc
      by (conditional_of_kind {e = e} {c₁ = c₁} {c₂ = c₂} a) q = judged e c₁ c₂ Γ a s

  -- what holds of every Loop there holds of the command
  of_loop : (r : Result (Unit {0}) Refused) → KindThere words node loop → ((e : Expression) (c : Command) (Γ : Scope) → ExpressionAt words (node + 1) e → CommandAt words (second_place words node) c → ScopeAt words registers scope Γ →
      r ≡ fine_answer (command_ok Γ (Loop node e c))) → Judges r
  of_loop r q judged c Γ at s = by (command_of_kind words node c at) (q c at)
    where
      by : {w : CommandKind} {c : Command} → CommandOfKind words node w c → w ≡ loop → r ≡ fine_answer (command_ok Γ c)
      by (assign_of_kind a) q = absurd cc
      by (loop_of_kind {e = e} {c = c} a b l) q = judged e c Γ a b s
      by (sequence_of_kind a b l) q = absurd cc
      by (block_of_kind a) q = absurd cc
      by (call_of_kind a) q = absurd cc
      by (conditional_of_kind a) q = absurd cc

  module _ (is_loop : KindThere words node loop) (test : Result ℕ Refused) (tested : ExpressionJudgedAt words registers scope (node + 1) test) where
    pub loop_test_fault : (x : Refused) → test ≡ Err x → (r : Result (Unit {0}) Refused) → r ≡ Err x → Judges r
    loop_test_fault x q r stays =
        of_loop r is_loop
        (λ e c Γ a b s. unfold command_ok in
        (then_fault (λ t. t) (λ done. tt) (expression_code Γ e) (λ t. command_ok Γ c >>= λ done. truth_only node ok t) test r x (tested e Γ a s) q stays))

    module _ (t next : ℕ) (body : Result (Unit {0}) Refused) (got : test ≡ Ok t) (end : next ≡ second_place words node) (judged : CommandJudgedAt words registers scope next body) where
      after_test : (r : Result (Unit {0}) Refused) → ((c : Command) (Γ : Scope) → body ≡ fine_answer (command_ok Γ c) → r ≡ fine_answer (command_ok Γ c >>= λ done. truth_only node ok t)) → Judges r
      after_test r done =
          of_loop r is_loop
          (λ e c Γ a b s. unfold command_ok in
          (then_code (λ done. tt) (expression_code Γ e) (λ t. command_ok Γ c >>= λ done. truth_only node ok t) test r t (tested e Γ a s) got
          (done c Γ (judged c Γ (subst (λ i. CommandAt words i c) (sym end) b) s))))

      pub loop_body_fault : (x : Refused) → body ≡ Err x → (r : Result (Unit {0}) Refused) → r ≡ Err x → Judges r
      loop_body_fault x q r stays = after_test r (λ c Γ b. then_fault (λ done. tt) (λ done. tt) (command_ok Γ c) (λ done. truth_only node ok t) body r x b q stays)

      pub loop_fine : (z : Unit {0}) (r : Result (Unit {0}) Refused) → body ≡ Ok z → r ≡ fine_answer (same_code node 1 t) → Judges r
      loop_fine z r q done =
          after_test r (λ c Γ b. then_fine (λ done. tt) (λ done. tt) (command_ok Γ c) (λ done. truth_only node ok t) body r z b q (λ a k e. done ∙ truth_fine node t))

  module _ (is_sequence : KindThere words node cseq) (first : Result (Unit {0}) Refused) (judged : CommandJudgedAt words registers scope (node + 1) first) where
    of_sequence : (r : Result (Unit {0}) Refused) → ((c₁ c₂ : Command) (Γ : Scope) → first ≡ fine_answer (command_ok Γ c₁) → CommandAt words (second_place words node) c₂ → ScopeAt words registers scope Γ →
        r ≡ fine_answer (command_ok Γ c₁ >>= λ done. command_ok Γ c₂)) → Judges r
    unfolding command_ok
    of_sequence r done c Γ at s = by (command_of_kind words node c at) (is_sequence c at)
      where
        by : {w : CommandKind} {c : Command} → CommandOfKind words node w c → w ≡ cseq → r ≡ fine_answer (command_ok Γ c)
        by (assign_of_kind a) q = absurd cc
        by (loop_of_kind a b l) q = absurd cc
        by (sequence_of_kind {c₁ = c₁} {c₂ = c₂} a b l) q = done c₁ c₂ Γ (judged c₁ Γ a s) b s
        by (block_of_kind a) q = absurd cc
        by (call_of_kind a) q = absurd cc
        by (conditional_of_kind a) q = absurd cc

    pub commands_fault : (x : Refused) → first ≡ Err x → (r : Result (Unit {0}) Refused) → r ≡ Err x → Judges r
    commands_fault x q r stays = of_sequence r (λ c₁ c₂ Γ f b s. then_fault (λ done. tt) (λ done. tt) (command_ok Γ c₁) (λ done. command_ok Γ c₂) first r x f q stays)

    pub commands_fine : (z : Unit {0}) (next : ℕ) (r : Result (Unit {0}) Refused) → first ≡ Ok z → next ≡ second_place words node → CommandJudgedAt words registers scope next r → Judges r
    commands_fine z next r q end later =
        of_sequence r
        (λ c₁ c₂ Γ f b s.
        then_fine (λ done. tt) (λ done. tt) (command_ok Γ c₁) (λ done. command_ok Γ c₂) first r z f q (λ a k e. later c₂ Γ (subst (λ i. CommandAt words i c₂) (sym end) b) s))

-- What was judged after rows were written holds of the words before.
pub fine_before : {words words' : List ℕ} {low : ℕ} (registers scope node : ℕ) (r : Result (Unit {0}) Refused) → WritesRowsFrom words words' low → scope ≤ low → CommandJudgedAt words' registers scope node r →
    CommandJudgedAt words registers scope node r
fine_before registers scope node r k l judged c Γ at s = judged c Γ (kept_command k at) (kept_scope k l s)
