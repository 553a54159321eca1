-- What a tree of the image is (paper, "The image"), one line a kind: `Shaped.. d i j t` says that t's own node has place i, that
-- the nodes of t are numbered in preorder from i up to but not including j, that t is at most d deep, and that its names,
-- counts and codes are within the paper's limits.
use Rattle.std.specs.Prelude.{ℕ, zero, suc, ◌≤◌, ◌<◌, ◌≡◌, Bool, List, [], ◌∷◌, length}
use Rattle.rules.specs.paper.Tree.{Operator, Expression, Num, Boo, Id, DeRef, ValRef, Binary, Not, Formal, Command, Assign, Loop, CSeq, block, Call, Cond, Block, Blk, Declaration, Bind, DSeq, Bound, plain, Ref, Abs, Root, expression, command, absent}
use Rattle.rules.specs.paper.Limits.{words, names, codes, most_parameters}

pub data ShapedExpression : (depth place next : ℕ) → Expression → Type 0 where
  num : {d i n : ℕ} → n < words → ShapedExpression (suc d) i (suc i) (Num i n)
  boo : {d i : ℕ} {b : Bool} → ShapedExpression (suc d) i (suc i) (Boo i b)
  id : {d i x : ℕ} → x < names → ShapedExpression (suc d) i (suc i) (Id i x)
  deref : {d i x : ℕ} → x < names → ShapedExpression (suc d) i (suc i) (DeRef i x)
  valref : {d i x : ℕ} → x < names → ShapedExpression (suc d) i (suc i) (ValRef i x)
  binary : {d i j k : ℕ} {o : Operator} {e₁ e₂ : Expression} →
      ShapedExpression d (suc i) j e₁ → ShapedExpression d j k e₂ → ShapedExpression (suc d) i k (Binary i o e₁ e₂)
  negation : {d i j : ℕ} {e : Expression} → ShapedExpression d (suc i) j e → ShapedExpression (suc d) i j (Not i e)

pub data ShapedFormal : (depth place next : ℕ) → Formal → Type 0 where
  formal : {d i : ℕ} {f : Formal} → f.place ≡ i → f.name < names → f.code < codes → ShapedFormal (suc d) i (suc i) f

-- Several, one after the other.
pub data Many (A : Type 0) (Shaped : (place next : ℕ) → A → Type 0) : (place next : ℕ) → List A → Type 0 where
  none_left : {i : ℕ} → Many A Shaped i i []
  one_more : {i j k : ℕ} {a : A} {rest : List A} → Shaped i j a → Many A Shaped j k rest → Many A Shaped i k (a ∷ rest)

mutual
  pub data ShapedCommand : (depth place next : ℕ) → Command → Type 0 where
    assign : {d i j x : ℕ} {e : Expression} → x < names → ShapedExpression d (suc i) j e → ShapedCommand (suc d) i j (Assign i x e)
    loop : {d i j k : ℕ} {e : Expression} {c : Command} → ShapedExpression d (suc i) j e → ShapedCommand d j k c → ShapedCommand (suc d) i k (Loop i e c)
    cseq : {d i j k : ℕ} {c₁ c₂ : Command} → ShapedCommand d (suc i) j c₁ → ShapedCommand d j k c₂ → ShapedCommand (suc d) i k (CSeq i c₁ c₂)
    block_of : {d i j : ℕ} {b : Block} → ShapedBlock d i j b → ShapedCommand d i j (block b)
    call : {d i j x : ℕ} {es : List Expression} → x < names → length es ≤ most_parameters →
        Many Expression (ShapedExpression d) (suc i) j es → ShapedCommand (suc d) i j (Call i x es)
    conditional : {d i j k l : ℕ} {e : Expression} {c₁ c₂ : Command} →
        ShapedExpression d (suc i) j e → ShapedCommand d j k c₁ → ShapedCommand d k l c₂ → ShapedCommand (suc d) i l (Cond i e c₁ c₂)

  pub data ShapedBlock : (depth place next : ℕ) → Block → Type 0 where
    blk : {d i j k : ℕ} {dec : Declaration} {c : Command} → ShapedDeclaration d (suc i) j dec → ShapedCommand d j k c → ShapedBlock (suc d) i k (Blk i dec c)

  pub data ShapedDeclaration : (depth place next : ℕ) → Declaration → Type 0 where
    bind : {d i j x : ℕ} {b : Bound} → x < names → ShapedBound d (suc i) j b → ShapedDeclaration (suc d) i j (Bind i x b)
    dseq : {d i j k : ℕ} {d₁ d₂ : Declaration} → ShapedDeclaration d (suc i) j d₁ → ShapedDeclaration d j k d₂ → ShapedDeclaration (suc d) i k (DSeq i d₁ d₂)

  pub data ShapedBound : (depth place next : ℕ) → Bound → Type 0 where
    plain_of : {d i j : ℕ} {e : Expression} → ShapedExpression d i j e → ShapedBound d i j (plain e)
    ref : {d i j : ℕ} {e : Expression} → ShapedExpression d (suc i) j e → ShapedBound (suc d) i j (Ref i e)
    abs : {d i j k : ℕ} {fs : List Formal} {b : Block} → length fs ≤ most_parameters →
        Many Formal (ShapedFormal d) (suc i) j fs → ShapedBlock d j k b → ShapedBound (suc d) i k (Abs i fs b)

pub data ShapedRoot : (depth place next : ℕ) → Root → Type 0 where
  root_expression : {d i j : ℕ} {e : Expression} → ShapedExpression d i j e → ShapedRoot d i j (expression e)
  root_command : {d i j : ℕ} {c : Command} → ShapedCommand d i j c → ShapedRoot d i j (command c)
  -- no node
  root_absent : {d i : ℕ} → ShapedRoot d i i absent
