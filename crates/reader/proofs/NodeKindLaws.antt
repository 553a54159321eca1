-- The kind that a stored tree's word has is that of the tree: whoever asks the reader for a node's kind cites these.
use Rattle.std.specs.Prelude.{ℕ, ◌≡◌, List, get_or}
use Rattle.std.proofs.Common.{arith, ap, sym, ◌∙◌}
use Rattle.std.proofs.Math.Option.{some}
use Rattle.rules.specs.paper.Kinds.{kind_number, kind_of}
use Rattle.rules.specs.declared.kinds.Kind.{Kind}
use Rattle.rules.specs.declared.kinds.Kind.TheVariants.{Expression as expression_kind, Command as command_kind, Declaration as declaration_kind}
use Rattle.rules.specs.paper.Tree.{Expression, Command, block, Block, Declaration, Bound}
use Rattle.rules.proofs.reading.ReaderComplete.{kind_known}
use Rattle.reader.specs.Pack.{packed_kind}
use Rattle.reader.specs.Stored.{StoredExpression, StoredCommand, StoredBlock, StoredDeclaration, StoredBound}
use Rattle.reader.specs.Stored as Stored
use Rattle.reader.specs.NodeKinds.{expression_kind_of, command_kind_of, declaration_kind_of, bound_kind_of, Known}
use Rattle.reader.proofs.StoredFields.{kind_is}
use Rattle.reader.proofs.StandingLaws.{operator_low}

-- Kinds with the same number are the same.
pub kinds_told : (k l : Kind) → kind_number k ≡ kind_number l → k ≡ l
kinds_told k l q =
    let same : some k ≡ some l = sym (kind_known k) ∙ ap kind_of q ∙ kind_known l in cc

-- ---- The number in the word.

pub expression_number : {words : List ℕ} {d i j : ℕ} {e : Expression} → StoredExpression words d i j e → packed_kind (get_or words i 0) ≡ kind_number (expression_kind (expression_kind_of e))
expression_number (Stored.num h) = kind_is h (omega arith)
expression_number (Stored.boo h) = kind_is h (omega arith)
expression_number (Stored.id l h) = kind_is h (omega arith)
expression_number (Stored.deref l h) = kind_is h (omega arith)
expression_number (Stored.valref l h) = kind_is h (omega arith)
expression_number (Stored.binary {o = o} h a b) = kind_is h (operator_low o)
expression_number (Stored.negation h a) = kind_is h (omega arith)

pub block_number : {words : List ℕ} {d i j : ℕ} {b : Block} → StoredBlock words d i j b → packed_kind (get_or words i 0) ≡ kind_number (command_kind (command_kind_of (block b)))
block_number (Stored.blk h a b) = kind_is h (omega arith)

pub command_number : {words : List ℕ} {d i j : ℕ} {c : Command} → StoredCommand words d i j c → packed_kind (get_or words i 0) ≡ kind_number (command_kind (command_kind_of c))
command_number (Stored.assign l h a) = kind_is h (omega arith)
command_number (Stored.loop h a b) = kind_is h (omega arith)
command_number (Stored.cseq h a b) = kind_is h (omega arith)
command_number (Stored.block_of a) = block_number a
command_number (Stored.call l g h a) = kind_is h (omega arith)
command_number (Stored.conditional h a b c) = kind_is h (omega arith)

pub declaration_number : {words : List ℕ} {d i j : ℕ} {c : Declaration} → StoredDeclaration words d i j c → packed_kind (get_or words i 0) ≡ kind_number (declaration_kind (declaration_kind_of c))
declaration_number (Stored.bind l h a) = kind_is h (omega arith)
declaration_number (Stored.dseq h a b) = kind_is h (omega arith)

pub bound_number : {words : List ℕ} {d i j : ℕ} {b : Bound} → StoredBound words d i j b → packed_kind (get_or words i 0) ≡ kind_number (bound_kind_of b)
bound_number (Stored.plain_of s) = expression_number s
bound_number (Stored.ref h a) = kind_is h (omega arith)
bound_number (Stored.abs l h a b) = kind_is h (omega arith)

-- ---- Some kind is known there.

pub expression_known : {words : List ℕ} {d i j : ℕ} {e : Expression} → StoredExpression words d i j e → Known (get_or words i 0)
expression_known {e = e} s = record { kind = expression_kind (expression_kind_of e); number_is = expression_number s }

pub block_known : {words : List ℕ} {d i j : ℕ} {b : Block} → StoredBlock words d i j b → Known (get_or words i 0)
block_known {b = b} s = record { kind = command_kind (command_kind_of (block b)); number_is = block_number s }

pub command_known : {words : List ℕ} {d i j : ℕ} {c : Command} → StoredCommand words d i j c → Known (get_or words i 0)
command_known {c = c} s = record { kind = command_kind (command_kind_of c); number_is = command_number s }

pub declaration_known : {words : List ℕ} {d i j : ℕ} {c : Declaration} → StoredDeclaration words d i j c → Known (get_or words i 0)
declaration_known {c = c} s = record { kind = declaration_kind (declaration_kind_of c); number_is = declaration_number s }

pub bound_known : {words : List ℕ} {d i j : ℕ} {b : Bound} → StoredBound words d i j b → Known (get_or words i 0)
bound_known {b = b} s = record { kind = bound_kind_of b; number_is = bound_number s }

-- ---- And it is the tree's: k is what `kind` answered.

pub expression_is : {words : List ℕ} {d i j : ℕ} {e : Expression} (k : Kind) → StoredExpression words d i j e → kind_number k ≡ packed_kind (get_or words i 0) → k ≡ expression_kind (expression_kind_of e)
expression_is k s q = kinds_told k _ (q ∙ expression_number s)

pub block_is : {words : List ℕ} {d i j : ℕ} {b : Block} (k : Kind) → StoredBlock words d i j b → kind_number k ≡ packed_kind (get_or words i 0) → k ≡ command_kind (command_kind_of (block b))
block_is k s q = kinds_told k _ (q ∙ block_number s)

pub command_is : {words : List ℕ} {d i j : ℕ} {c : Command} (k : Kind) → StoredCommand words d i j c → kind_number k ≡ packed_kind (get_or words i 0) → k ≡ command_kind (command_kind_of c)
command_is k s q = kinds_told k _ (q ∙ command_number s)

pub declaration_is : {words : List ℕ} {d i j : ℕ} {c : Declaration} (k : Kind) → StoredDeclaration words d i j c → kind_number k ≡ packed_kind (get_or words i 0) → k ≡ declaration_kind (declaration_kind_of c)
declaration_is k s q = kinds_told k _ (q ∙ declaration_number s)

pub bound_is : {words : List ℕ} {d i j : ℕ} {b : Bound} (k : Kind) → StoredBound words d i j b → kind_number k ≡ packed_kind (get_or words i 0) → k ≡ bound_kind_of b
bound_is k s q = kinds_told k _ (q ∙ bound_number s)
