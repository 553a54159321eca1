-- Which tree the work words hold (the reader's promise): `Stored.. words d i j t` says that the node at place i is the root of t,
-- that t's nodes end before j and t is at most d deep, and that each of its nodes has its word.
use Rattle.std.specs.Prelude.{ℕ, suc, ◌+◌, ◌*◌, ◌<◌, ◌≤◌, ◌≡◌, Bool, List, [], ◌∷◌, length, get_or}
use Rattle.rules.specs.paper.Kinds.{operator_number}
use Rattle.rules.specs.paper.Tree.{Expression, Num, Boo, Id, DeRef, ValRef, Binary, Not, Formal, Command, Assign, Loop, CSeq, block, Call, Cond, Block, Blk, Declaration, Bind, DSeq, Bound, plain, Ref, Abs, Root, expression, command, absent}
use Rattle.rules.specs.declared.kinds.Operator.{Operator}
use Rattle.rules.specs.paper.Limits as Limits
use Rattle.rules.specs.paper.Limits.{most_nodes, most_depth, names, codes, most_parameters}
use Rattle.rules.specs.claims.Listing.{truth_word}
use Rattle.reader.specs.KindNumbers.{num_number, boo_number, id_number, not_number, deref_number, valref_number, assign_number, loop_number, cseq_number, blk_number, call_number, conditional_number, bind_number, dseq_number, ref_number, abs_number, formal_number}
use Rattle.reader.specs.Pack.{pack}

-- The word of a node: its kind, its operand, and the first node after its descendants.
pub record HasWord (words : List ℕ) (place kind operand end : ℕ) : Type 0 where
  pub word : get_or words place 0 ≡ pack kind operand end
  pub place_low : place < most_nodes
  pub operand_low : operand < Limits.words
  pub end_low : end ≤ most_nodes

pub data StoredExpression (words : List ℕ) : (depth place next : ℕ) → Expression → Type 0 where
  num : {d i n : ℕ} → HasWord words i num_number n (suc i) → StoredExpression words (suc d) i (suc i) (Num i n)
  boo : {d i : ℕ} {b : Bool} → HasWord words i boo_number (truth_word b) (suc i) → StoredExpression words (suc d) i (suc i) (Boo i b)
  id : {d i x : ℕ} → x < names → HasWord words i id_number x (suc i) → StoredExpression words (suc d) i (suc i) (Id i x)
  deref : {d i x : ℕ} → x < names → HasWord words i deref_number x (suc i) → StoredExpression words (suc d) i (suc i) (DeRef i x)
  valref : {d i x : ℕ} → x < names → HasWord words i valref_number x (suc i) → StoredExpression words (suc d) i (suc i) (ValRef i x)
  binary : {d i j k : ℕ} {o : Operator} {e₁ e₂ : Expression} → HasWord words i (operator_number o) 0 k →
      StoredExpression words d (suc i) j e₁ → StoredExpression words d j k e₂ → StoredExpression words (suc d) i k (Binary i o e₁ e₂)
  negation : {d i j : ℕ} {e : Expression} → HasWord words i not_number 0 j → StoredExpression words d (suc i) j e → StoredExpression words (suc d) i j (Not i e)

pub data StoredActuals (words : List ℕ) : (depth place next : ℕ) → List Expression → Type 0 where
  no_actuals : {d i : ℕ} → StoredActuals words d i i []
  one_actual : {d i j k : ℕ} {e : Expression} {es : List Expression} → StoredExpression words d i j e → StoredActuals words d j k es → StoredActuals words d i k (e ∷ es)

pub data StoredFormals (words : List ℕ) : (place next : ℕ) → List Formal → Type 0 where
  no_formals : {i : ℕ} → StoredFormals words i i []
  one_formal : {i k : ℕ} {f : Formal} {fs : List Formal} → f.place ≡ i → f.name < names → f.code < codes →
      HasWord words i formal_number (f.name + names * f.code) (suc i) → StoredFormals words (suc i) k fs → StoredFormals words i k (f ∷ fs)

mutual
  pub data StoredCommand (words : List ℕ) : (depth place next : ℕ) → Command → Type 0 where
    assign : {d i j x : ℕ} {e : Expression} → x < names → HasWord words i assign_number x j → StoredExpression words d (suc i) j e → StoredCommand words (suc d) i j (Assign i x e)
    loop : {d i j k : ℕ} {e : Expression} {c : Command} → HasWord words i loop_number 0 k → StoredExpression words d (suc i) j e → StoredCommand words d j k c → StoredCommand words (suc d) i k (Loop i e c)
    cseq : {d i j k : ℕ} {c₁ c₂ : Command} → HasWord words i cseq_number 0 k → StoredCommand words d (suc i) j c₁ → StoredCommand words d j k c₂ → StoredCommand words (suc d) i k (CSeq i c₁ c₂)
    block_of : {d i j : ℕ} {b : Block} → StoredBlock words d i j b → StoredCommand words d i j (block b)
    call : {d i j x : ℕ} {es : List Expression} → x < names → length es ≤ most_parameters → HasWord words i call_number (x + names * length es) j →
        StoredActuals words d (suc i) j es → StoredCommand words (suc d) i j (Call i x es)
    conditional : {d i j k l : ℕ} {e : Expression} {c₁ c₂ : Command} → HasWord words i conditional_number 0 l →
        StoredExpression words d (suc i) j e → StoredCommand words d j k c₁ → StoredCommand words d k l c₂ → StoredCommand words (suc d) i l (Cond i e c₁ c₂)

  pub data StoredBlock (words : List ℕ) : (depth place next : ℕ) → Block → Type 0 where
    blk : {d i j k : ℕ} {dec : Declaration} {c : Command} → HasWord words i blk_number 0 k → StoredDeclaration words d (suc i) j dec → StoredCommand words d j k c → StoredBlock words (suc d) i k (Blk i dec c)

  pub data StoredDeclaration (words : List ℕ) : (depth place next : ℕ) → Declaration → Type 0 where
    bind : {d i j x : ℕ} {b : Bound} → x < names → HasWord words i bind_number x j → StoredBound words d (suc i) j b → StoredDeclaration words (suc d) i j (Bind i x b)
    dseq : {d i j k : ℕ} {d₁ d₂ : Declaration} → HasWord words i dseq_number 0 k → StoredDeclaration words d (suc i) j d₁ → StoredDeclaration words d j k d₂ → StoredDeclaration words (suc d) i k (DSeq i d₁ d₂)

  pub data StoredBound (words : List ℕ) : (depth place next : ℕ) → Bound → Type 0 where
    plain_of : {d i j : ℕ} {e : Expression} → StoredExpression words d i j e → StoredBound words d i j (plain e)
    ref : {d i j : ℕ} {e : Expression} → HasWord words i ref_number 0 j → StoredExpression words d (suc i) j e → StoredBound words (suc d) i j (Ref i e)
    abs : {d i j k : ℕ} {fs : List Formal} {b : Block} → length fs ≤ most_parameters → HasWord words i abs_number (length fs) k →
        StoredFormals words (suc i) j fs → StoredBlock words d j k b → StoredBound words (suc d) i k (Abs i fs b)

pub data StoredRoot (words : List ℕ) : (depth place next : ℕ) → Root → Type 0 where
  root_expression : {d i j : ℕ} {e : Expression} → StoredExpression words d i j e → StoredRoot words d i j (expression e)
  root_command : {d i j : ℕ} {c : Command} → StoredCommand words d i j c → StoredRoot words d i j (command c)
  root_absent : {d i : ℕ} → StoredRoot words d i i absent

-- A tree of so many nodes stands in the work words from node 0 on. The count tells an absent root from all others.
pub record RootAt (words : List ℕ) (nodes : ℕ) (t : Root) : Type 0 where
  pub depth : ℕ
  pub depth_low : depth ≤ most_depth
  pub stored : StoredRoot words depth 0 nodes t
