-- Which tree a kind means: what stands at a node, by the kind in its word, and between which numbers the kinds of each sort lie. Whoever
-- dispatches on a node's kind cites these.
use Rattle.std.specs.Prelude.{ℕ, ◌<◌, ◌≤◌, ◌≡◌, refl, Bool, List, get_or}
use Rattle.std.proofs.Common.{arith}
use Rattle.rules.specs.paper.Kinds.{operator_number}
use Rattle.rules.specs.paper.Tree.{Expression, Num, Boo, Id, DeRef, ValRef, Binary, Not, Command, Assign, Loop, CSeq, block, Call, Cond, Blk, Declaration, Bind, DSeq, Bound}
use Rattle.rules.specs.declared.kinds.Operator.{Operator}
use Rattle.reader.specs.KindNumbers.{num_number, boo_number, id_number, not_number, deref_number, valref_number, assign_number, loop_number, cseq_number, blk_number, call_number, conditional_number, bind_number, dseq_number, ref_number}
use Rattle.reader.specs.Pack.{packed_kind}
use Rattle.reader.specs.Stored.{StoredExpression, StoredCommand, StoredDeclaration}
use Rattle.reader.specs.Stored as Stored
use Rattle.reader.proofs.StandingLaws.{operator_above, operator_below, expression_root, block_root, command_root, declaration_root, root_kind}

-- ---- Expressions.
pub data ExpressionOf (place : ℕ) : ℕ → Expression → Type 0 where
  is_number : {k : ℕ} → ExpressionOf place num_number (Num place k)
  is_truth : {b : Bool} → ExpressionOf place boo_number (Boo place b)
  is_id : {x : ℕ} → ExpressionOf place id_number (Id place x)
  is_binary : {o : Operator} {e₁ e₂ : Expression} → ExpressionOf place (operator_number o) (Binary place o e₁ e₂)
  is_negation : {e : Expression} → ExpressionOf place not_number (Not place e)
  is_deref : {x : ℕ} → ExpressionOf place deref_number (DeRef place x)
  is_valref : {x : ℕ} → ExpressionOf place valref_number (ValRef place x)

module _ {place : ℕ} where
  pub number_kind : {n : ℕ} {e : Expression} → ExpressionOf place n e → n ≡ num_number → (k : ℕ) × (e ≡ Num place k)
  number_kind (is_number {k = k}) q = (k, refl)
  number_kind is_truth q = absurd (omega (arith, q))
  number_kind is_id q = absurd (omega (arith, q))
  number_kind (is_binary {o = o}) q = absurd (omega (arith, q, operator_above o))
  number_kind is_negation q = absurd (omega (arith, q))
  number_kind is_deref q = absurd (omega (arith, q))
  number_kind is_valref q = absurd (omega (arith, q))

  pub truth_kind : {n : ℕ} {e : Expression} → ExpressionOf place n e → n ≡ boo_number → (b : Bool) × (e ≡ Boo place b)
  truth_kind is_number q = absurd (omega (arith, q))
  truth_kind (is_truth {b = b}) q = (b, refl)
  truth_kind is_id q = absurd (omega (arith, q))
  truth_kind (is_binary {o = o}) q = absurd (omega (arith, q, operator_above o))
  truth_kind is_negation q = absurd (omega (arith, q))
  truth_kind is_deref q = absurd (omega (arith, q))
  truth_kind is_valref q = absurd (omega (arith, q))

  pub id_kind : {n : ℕ} {e : Expression} → ExpressionOf place n e → n ≡ id_number → (x : ℕ) × (e ≡ Id place x)
  id_kind is_number q = absurd (omega (arith, q))
  id_kind is_truth q = absurd (omega (arith, q))
  id_kind (is_id {x = x}) q = (x, refl)
  id_kind (is_binary {o = o}) q = absurd (omega (arith, q, operator_above o))
  id_kind is_negation q = absurd (omega (arith, q))
  id_kind is_deref q = absurd (omega (arith, q))
  id_kind is_valref q = absurd (omega (arith, q))

  pub negation_kind : {n : ℕ} {e : Expression} → ExpressionOf place n e → n ≡ not_number → (inner : Expression) × (e ≡ Not place inner)
  negation_kind is_number q = absurd (omega (arith, q))
  negation_kind is_truth q = absurd (omega (arith, q))
  negation_kind is_id q = absurd (omega (arith, q))
  negation_kind (is_binary {o = o}) q = absurd (omega (arith, q, operator_below o))
  negation_kind (is_negation {e = e}) q = (e, refl)
  negation_kind is_deref q = absurd (omega (arith, q))
  negation_kind is_valref q = absurd (omega (arith, q))

  pub deref_kind : {n : ℕ} {e : Expression} → ExpressionOf place n e → n ≡ deref_number → (x : ℕ) × (e ≡ DeRef place x)
  deref_kind is_number q = absurd (omega (arith, q))
  deref_kind is_truth q = absurd (omega (arith, q))
  deref_kind is_id q = absurd (omega (arith, q))
  deref_kind (is_binary {o = o}) q = absurd (omega (arith, q, operator_below o))
  deref_kind is_negation q = absurd (omega (arith, q))
  deref_kind (is_deref {x = x}) q = (x, refl)
  deref_kind is_valref q = absurd (omega (arith, q))

  pub valref_kind : {n : ℕ} {e : Expression} → ExpressionOf place n e → n ≡ valref_number → (x : ℕ) × (e ≡ ValRef place x)
  valref_kind is_number q = absurd (omega (arith, q))
  valref_kind is_truth q = absurd (omega (arith, q))
  valref_kind is_id q = absurd (omega (arith, q))
  valref_kind (is_binary {o = o}) q = absurd (omega (arith, q, operator_below o))
  valref_kind is_negation q = absurd (omega (arith, q))
  valref_kind is_deref q = absurd (omega (arith, q))
  valref_kind (is_valref {x = x}) q = (x, refl)

pub expression_of : {words : List ℕ} {d i j : ℕ} {e : Expression} (s : StoredExpression words d i j e) → ExpressionOf i (expression_root s).kind e
unfolding expression_root
expression_of (Stored.num h) = is_number
expression_of (Stored.boo h) = is_truth
expression_of (Stored.id l h) = is_id
expression_of (Stored.deref l h) = is_deref
expression_of (Stored.valref l h) = is_valref
expression_of (Stored.binary h a b) = is_binary
expression_of (Stored.negation h a) = is_negation

-- The kinds of expressions are below those of commands.
pub expression_kinds : {i k : ℕ} {e : Expression} → ExpressionOf i k e → k < assign_number
expression_kinds is_number = omega arith
expression_kinds is_truth = omega arith
expression_kinds is_id = omega arith
expression_kinds (is_binary {o = o}) = omega (arith, operator_below o)
expression_kinds is_negation = omega arith
expression_kinds is_deref = omega arith
expression_kinds is_valref = omega arith

-- The same of the kind in the word where an expression is stored.
pub stored_expression_kind : {words : List ℕ} {d i j : ℕ} {e : Expression} → StoredExpression words d i j e → packed_kind (get_or words i 0) < assign_number
stored_expression_kind s = omega (arith, root_kind (expression_root s), expression_kinds (expression_of s))

-- ---- Commands.

pub data CommandOf (i : ℕ) : (kind : ℕ) → Command → Type 0 where
  assign_at : {x : ℕ} {e : Expression} → CommandOf i assign_number (Assign i x e)
  loop_at : {e : Expression} {c : Command} → CommandOf i loop_number (Loop i e c)
  sequence_at : {c₁ c₂ : Command} → CommandOf i cseq_number (CSeq i c₁ c₂)
  block_at : {d : Declaration} {c : Command} → CommandOf i blk_number (block (Blk i d c))
  call_at : {x : ℕ} {es : List Expression} → CommandOf i call_number (Call i x es)
  conditional_at : {e : Expression} {c₁ c₂ : Command} → CommandOf i conditional_number (Cond i e c₁ c₂)

pub command_of : {words : List ℕ} {d i j : ℕ} {c : Command} (s : StoredCommand words d i j c) → CommandOf i (command_root s).kind c
unfolding command_root block_root
command_of (Stored.assign l h a) = assign_at
command_of (Stored.loop h a b) = loop_at
command_of (Stored.cseq h a b) = sequence_at
command_of (Stored.block_of (Stored.blk h a b)) = block_at
command_of (Stored.call l g h a) = call_at
command_of (Stored.conditional h a b c) = conditional_at

pub is_assign : {i k : ℕ} {c : Command} → CommandOf i k c → k ≡ assign_number → (x : ℕ) × (e : Expression) × (c ≡ Assign i x e)
is_assign (assign_at {x = x} {e = e}) q = (x, e, refl)
is_assign loop_at q = absurd (omega (arith, q))
is_assign sequence_at q = absurd (omega (arith, q))
is_assign block_at q = absurd (omega (arith, q))
is_assign call_at q = absurd (omega (arith, q))
is_assign conditional_at q = absurd (omega (arith, q))

pub is_loop : {i k : ℕ} {c : Command} → CommandOf i k c → k ≡ loop_number → (e : Expression) × (d : Command) × (c ≡ Loop i e d)
is_loop assign_at q = absurd (omega (arith, q))
is_loop (loop_at {e = e} {c = c}) q = (e, c, refl)
is_loop sequence_at q = absurd (omega (arith, q))
is_loop block_at q = absurd (omega (arith, q))
is_loop call_at q = absurd (omega (arith, q))
is_loop conditional_at q = absurd (omega (arith, q))

pub is_sequence : {i k : ℕ} {c : Command} → CommandOf i k c → k ≡ cseq_number → (c₁ c₂ : Command) × (c ≡ CSeq i c₁ c₂)
is_sequence assign_at q = absurd (omega (arith, q))
is_sequence loop_at q = absurd (omega (arith, q))
is_sequence (sequence_at {c₁ = c₁} {c₂ = c₂}) q = (c₁, c₂, refl)
is_sequence block_at q = absurd (omega (arith, q))
is_sequence call_at q = absurd (omega (arith, q))
is_sequence conditional_at q = absurd (omega (arith, q))

pub is_block : {i k : ℕ} {c : Command} → CommandOf i k c → k ≡ blk_number → (d : Declaration) × (b : Command) × (c ≡ block (Blk i d b))
is_block assign_at q = absurd (omega (arith, q))
is_block loop_at q = absurd (omega (arith, q))
is_block sequence_at q = absurd (omega (arith, q))
is_block (block_at {d = d} {c = c}) q = (d, c, refl)
is_block call_at q = absurd (omega (arith, q))
is_block conditional_at q = absurd (omega (arith, q))

pub is_conditional : {i k : ℕ} {c : Command} → CommandOf i k c → k ≡ conditional_number → (e : Expression) × (c₁ c₂ : Command) × (c ≡ Cond i e c₁ c₂)
is_conditional assign_at q = absurd (omega (arith, q))
is_conditional loop_at q = absurd (omega (arith, q))
is_conditional sequence_at q = absurd (omega (arith, q))
is_conditional block_at q = absurd (omega (arith, q))
is_conditional call_at q = absurd (omega (arith, q))
is_conditional (conditional_at {e = e} {c₁ = c₁} {c₂ = c₂}) q = (e, c₁, c₂, refl)

pub is_call : {i k : ℕ} {c : Command} → CommandOf i k c → (k ≡ assign_number → ⊥) → (k ≡ loop_number → ⊥) → (k ≡ cseq_number → ⊥) → (k ≡ blk_number → ⊥) → (k ≡ conditional_number → ⊥) → (x : ℕ) × (es : List Expression) × (c ≡ Call i x es)
is_call assign_at q r s t u = absurd (q refl)
is_call loop_at q r s t u = absurd (r refl)
is_call sequence_at q r s t u = absurd (s refl)
is_call block_at q r s t u = absurd (t refl)
is_call (call_at {x = x} {es = es}) q r s t u = (x, es, refl)
is_call conditional_at q r s t u = absurd (u refl)

-- The kinds of commands are below those of declarations.
pub command_kinds : {i k : ℕ} {c : Command} → CommandOf i k c → (assign_number ≤ k) × (k < bind_number)
command_kinds assign_at = (omega arith, omega arith)
command_kinds loop_at = (omega arith, omega arith)
command_kinds sequence_at = (omega arith, omega arith)
command_kinds block_at = (omega arith, omega arith)
command_kinds call_at = (omega arith, omega arith)
command_kinds conditional_at = (omega arith, omega arith)

pub stored_command_kind : {words : List ℕ} {d i j : ℕ} {c : Command} → StoredCommand words d i j c → (assign_number ≤ packed_kind (get_or words i 0)) × (packed_kind (get_or words i 0) < bind_number)
stored_command_kind s = let k = command_kinds (command_of s) in (omega (arith, root_kind (command_root s), k.0), omega (arith, root_kind (command_root s), k.1))

-- ---- Declarations.

pub data DeclarationOf (i : ℕ) : (kind : ℕ) → Declaration → Type 0 where
  bind_at : {x : ℕ} {b : Bound} → DeclarationOf i bind_number (Bind i x b)
  sequence_of_declarations : {d₁ d₂ : Declaration} → DeclarationOf i dseq_number (DSeq i d₁ d₂)

pub declaration_of : {words : List ℕ} {d i j : ℕ} {c : Declaration} (s : StoredDeclaration words d i j c) → DeclarationOf i (declaration_root s).kind c
unfolding declaration_root
declaration_of (Stored.bind l h a) = bind_at
declaration_of (Stored.dseq h a b) = sequence_of_declarations

pub is_bind : {i k : ℕ} {c : Declaration} → DeclarationOf i k c → k ≡ bind_number → (x : ℕ) × (b : Bound) × (c ≡ Bind i x b)
is_bind (bind_at {x = x} {b = b}) q = (x, b, refl)
is_bind sequence_of_declarations q = absurd (omega (arith, q))

pub is_declaration_sequence : {i k : ℕ} {c : Declaration} → DeclarationOf i k c → (k ≡ bind_number → ⊥) → (d₁ d₂ : Declaration) × (c ≡ DSeq i d₁ d₂)
is_declaration_sequence bind_at q = absurd (q refl)
is_declaration_sequence (sequence_of_declarations {d₁ = d₁} {d₂ = d₂}) q = (d₁, d₂, refl)

-- The kinds of declarations are below those of Ref, Abs and Formal.
pub declaration_kinds : {i k : ℕ} {c : Declaration} → DeclarationOf i k c → (bind_number ≤ k) × (k < ref_number)
declaration_kinds bind_at = (omega arith, omega arith)
declaration_kinds sequence_of_declarations = (omega arith, omega arith)
