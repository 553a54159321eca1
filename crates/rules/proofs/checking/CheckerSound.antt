-- What the checker passes, the rules of Typing.antt derive: one half of CheckerExact.antt.
use Rattle.std.specs.Prelude.{ℕ, zero, suc, ◌≤◌, ◌<◌, ◌≡◌, refl, Bool, true, false, cond, ◌||◌, List, [], ◌∷◌, ◌++◌, T, eqb, ltb}
use Rattle.std.proofs.Common.{sym, ap, ◌∙◌, subst, arith, eqb→eq, ltb→lt}
use Rattle.std.proofs.Math.Option.{Option, none, some}
use Rattle.std.proofs.Math.Dec.{eqb_refl}
use Rattle.rules.proofs.Basics.{failed_test, or_left, or_right, passed_test}
use Rattle.rules.specs.paper.Tree.{Operator, arithmetic, Eq, order, logic, Expression, Num, Boo, Id, DeRef, ValRef, Binary, Not, Formal, Command, Assign, Loop, CSeq, block, Call, Cond, Block, Blk, Declaration, Bind, DSeq, Bound, plain, Ref, Abs}
use Rattle.rules.specs.paper.Limits.{plain_codes}
use Rattle.rules.specs.paper.Checker.{Meaning, code, function, Named, Scope, meaning_of, Judged, fault, fine, ◌>>=◌, bound_name, id_code, deref_code, valref_code, operator_code, truth_only, expression_code, assignable, Fine, ok, same_code, expression_codes, called, same_count, same_codes, has_name, shares_name, distinct, with_formals, ref_code, command_ok, block_ok, declaration_gives, bound_means}
use Rattle.rules.specs.claims.Typing.{HasCode, ActualsFit, no_actuals, actual, Declares, here, there, Distinct, CommandOk, BlockOk, Gives, Means}
use Rattle.rules.specs.claims.Typing as Typing

-- What is asked for holds of the answer, if there is one.
abbrev pub Satisfies : {A : Type 0} → (A → Type 0) → Judged A → Type 0
Satisfies P (fault r p) = Unit {0}
Satisfies P (fine a) = P a

bind_satisfies : {A B : Type 0} (P : A → Type 0) (Q : B → Type 0) (m : Judged A) (f : A → Judged B) →
    Satisfies P m → ((a : A) → P a → Satisfies Q (f a)) → Satisfies Q (m >>= f)
bind_satisfies P Q (fault r p) f s h = tt
bind_satisfies P Q (fine a) f s h = h a s

-- what holds of every answer may be traded for what follows from it
each : {A P Q : Type 0} (m : Judged A) → (P → Q) → Satisfies (λ done. P) m → Satisfies (λ done. Q) m
each (fault r p) f h = tt
each (fine a) f h = f h

bound_satisfies : (p : ℕ) (o : Option Meaning) → Satisfies (λ m. o ≡ some m) (bound_name p o)
bound_satisfies p none = tt
bound_satisfies p (some m) = refl

module _ (Γ : Scope) where
  id_satisfies : (p x : ℕ) (m : Meaning) → meaning_of x Γ ≡ some m → Satisfies (HasCode Γ (Id p x)) (id_code p m)
  id_satisfies p x (code zero) q = Typing.id_plain {c = 0} (omega arith) q
  id_satisfies p x (code (suc zero)) q = Typing.id_plain {c = 1} (omega arith) q
  id_satisfies p x (code (suc (suc c))) q = Typing.id_cell q
  id_satisfies p x (function fs) q = tt

  deref_satisfies : (p x : ℕ) (m : Meaning) → meaning_of x Γ ≡ some m → Satisfies (HasCode Γ (DeRef p x)) (deref_code p m)
  deref_satisfies p x (code zero) q = tt
  deref_satisfies p x (code (suc zero)) q = tt
  deref_satisfies p x (code (suc (suc c))) q = Typing.deref {c = suc (suc c)} (omega arith) q
  deref_satisfies p x (function fs) q = tt

  valref_satisfies : (p x : ℕ) (m : Meaning) → meaning_of x Γ ≡ some m → Satisfies (HasCode Γ (ValRef p x)) (valref_code p m)
  valref_satisfies p x (code zero) q = tt
  valref_satisfies p x (code (suc zero)) q = tt
  valref_satisfies p x (code (suc (suc zero))) q = tt
  valref_satisfies p x (code (suc (suc (suc zero)))) q = tt
  valref_satisfies p x (code (suc (suc (suc (suc c))))) q = Typing.valref q
  valref_satisfies p x (function fs) q = tt

  arithmetic_satisfies : (p : ℕ) (o : _) (e₁ e₂ : Expression) (a b : ℕ) → HasCode Γ e₁ a → HasCode Γ e₂ b → Satisfies (HasCode Γ (Binary p (arithmetic o) e₁ e₂)) (operator_code (arithmetic o) p a b)
  arithmetic_satisfies p o e₁ e₂ zero zero h k = Typing.arithmetic_of h k
  arithmetic_satisfies p o e₁ e₂ zero (suc b) h k = tt
  arithmetic_satisfies p o e₁ e₂ (suc a) b h k = tt

  order_satisfies : (p : ℕ) (o : _) (e₁ e₂ : Expression) (a b : ℕ) → HasCode Γ e₁ a → HasCode Γ e₂ b → Satisfies (HasCode Γ (Binary p (order o) e₁ e₂)) (operator_code (order o) p a b)
  order_satisfies p o e₁ e₂ zero zero h k = Typing.order_of h k
  order_satisfies p o e₁ e₂ zero (suc b) h k = tt
  order_satisfies p o e₁ e₂ (suc a) b h k = tt

  equal_satisfies : (p : ℕ) (e₁ e₂ : Expression) (a b : ℕ) → HasCode Γ e₁ a → HasCode Γ e₂ b → Satisfies (HasCode Γ (Binary p Eq e₁ e₂)) (operator_code Eq p a b)
  equal_satisfies p e₁ e₂ zero zero h k = Typing.equal_of {c = 0} (omega arith) h k
  equal_satisfies p e₁ e₂ zero (suc b) h k = tt
  equal_satisfies p e₁ e₂ (suc zero) zero h k = tt
  equal_satisfies p e₁ e₂ (suc zero) (suc zero) h k = Typing.equal_of {c = 1} (omega arith) h k
  equal_satisfies p e₁ e₂ (suc zero) (suc (suc b)) h k = tt
  equal_satisfies p e₁ e₂ (suc (suc a)) b h k = tt

  logic_satisfies : (p : ℕ) (o : _) (e₁ e₂ : Expression) (a b : ℕ) → HasCode Γ e₁ a → HasCode Γ e₂ b → Satisfies (HasCode Γ (Binary p (logic o) e₁ e₂)) (operator_code (logic o) p a b)
  logic_satisfies p o e₁ e₂ zero b h k = tt
  logic_satisfies p o e₁ e₂ (suc zero) zero h k = tt
  logic_satisfies p o e₁ e₂ (suc zero) (suc zero) h k = Typing.logic_of h k
  logic_satisfies p o e₁ e₂ (suc zero) (suc (suc b)) h k = tt
  logic_satisfies p o e₁ e₂ (suc (suc a)) b h k = tt

  operator_satisfies : (p : ℕ) (o : Operator) (e₁ e₂ : Expression) (a b : ℕ) → HasCode Γ e₁ a → HasCode Γ e₂ b → Satisfies (HasCode Γ (Binary p o e₁ e₂)) (operator_code o p a b)
  operator_satisfies p (arithmetic o) e₁ e₂ a b h k = arithmetic_satisfies p o e₁ e₂ a b h k
  operator_satisfies p Eq e₁ e₂ a b h k = equal_satisfies p e₁ e₂ a b h k
  operator_satisfies p (order o) e₁ e₂ a b h k = order_satisfies p o e₁ e₂ a b h k
  operator_satisfies p (logic o) e₁ e₂ a b h k = logic_satisfies p o e₁ e₂ a b h k

  -- a test for code 1
  truth_satisfies : {A : Type 0} (P : A → Type 0) (p : ℕ) (a : A) (e : Expression) (c : ℕ) → (HasCode Γ e 1 → P a) → HasCode Γ e c → Satisfies P (truth_only p a c)
  truth_satisfies P p a e zero f h = tt
  truth_satisfies P p a e (suc zero) f h = f h
  truth_satisfies P p a e (suc (suc c)) f h = tt

  pub expression_satisfies : (e : Expression) → Satisfies (HasCode Γ e) (expression_code Γ e)
  unfolding expression_code
  expression_satisfies (Num p n) = Typing.num
  expression_satisfies (Boo p b) = Typing.boo
  expression_satisfies (Id p x) = bind_satisfies (λ m. meaning_of x Γ ≡ some m) _ (bound_name p (meaning_of x Γ)) _ (bound_satisfies p (meaning_of x Γ)) (id_satisfies p x)
  expression_satisfies (DeRef p x) = bind_satisfies (λ m. meaning_of x Γ ≡ some m) _ (bound_name p (meaning_of x Γ)) _ (bound_satisfies p (meaning_of x Γ)) (deref_satisfies p x)
  expression_satisfies (ValRef p x) = bind_satisfies (λ m. meaning_of x Γ ≡ some m) _ (bound_name p (meaning_of x Γ)) _ (bound_satisfies p (meaning_of x Γ)) (valref_satisfies p x)
  expression_satisfies (Binary p o e₁ e₂) =
      bind_satisfies (HasCode Γ e₁) _ (expression_code Γ e₁) _ (expression_satisfies e₁) (λ a h.
      bind_satisfies (HasCode Γ e₂) _ (expression_code Γ e₂) _ (expression_satisfies e₂) (λ b k.
      operator_satisfies p o e₁ e₂ a b h k))
  expression_satisfies (Not p e) =
      bind_satisfies (HasCode Γ e) _ (expression_code Γ e) _ (expression_satisfies e) (λ c h.
      truth_satisfies (HasCode Γ (Not p e)) p 1 e c Typing.not_of h)

-- The actuals' codes, one after the other.
data HaveCodes (Γ : Scope) : List Expression → List ℕ → Type 0 where
  no_codes : HaveCodes Γ [] []
  codes_of : {e : Expression} {es : List Expression} {c : ℕ} {cs : List ℕ} → HasCode Γ e c → HaveCodes Γ es cs → HaveCodes Γ (e ∷ es) (c ∷ cs)

-- As many of one as of the other.
data Paired : List Formal → List ℕ → Type 0 where
  no_pairs : Paired [] []
  pairs : {f : Formal} {fs : List Formal} {c : ℕ} {cs : List ℕ} → Paired fs cs → Paired (f ∷ fs) (c ∷ cs)

cond_satisfies : {A : Type 0} (P : A → Type 0) (t : Bool) (x y : Judged A) → (t ≡ true → Satisfies P x) → (t ≡ false → Satisfies P y) → Satisfies P (cond t x y)
cond_satisfies P true x y h k = h refl
cond_satisfies P false x y h k = k refl

same_satisfies : (p a b : ℕ) → Satisfies (λ done. a ≡ b) (same_code p a b)
same_satisfies p a b = cond_satisfies (λ done. a ≡ b) (eqb a b) (fine ok) _ (λ q. eqb→eq a b (passed_test q)) (λ q. tt)

assignable_satisfies : (p : ℕ) (m : Meaning) → Satisfies (λ c. (c < plain_codes) × (m ≡ code (suc (suc c)))) (assignable p m)
assignable_satisfies p (code zero) = tt
assignable_satisfies p (code (suc zero)) = tt
assignable_satisfies p (code (suc (suc c))) =
    cond_satisfies (λ d. (d < plain_codes) × (code (suc (suc c)) ≡ code (suc (suc d)))) (ltb c plain_codes) (fine c) _
    (λ q. (ltb→lt c plain_codes (passed_test q), refl)) (λ q. tt)
assignable_satisfies p (function fs) = tt

called_satisfies : (p : ℕ) (m : Meaning) → Satisfies (λ fs. m ≡ function fs) (called p m)
called_satisfies p (code c) = tt
called_satisfies p (function fs) = refl

count_satisfies : (p : ℕ) (fs : List Formal) (cs : List ℕ) → Satisfies (λ done. Paired fs cs) (same_count p fs cs)
count_satisfies p [] [] = no_pairs
count_satisfies p [] (c ∷ cs) = tt
count_satisfies p (f ∷ fs) [] = tt
count_satisfies p (f ∷ fs) (c ∷ cs) = each (same_count p fs cs) pairs (count_satisfies p fs cs)

codes_satisfy : (Γ : Scope) (p : ℕ) (es : List Expression) (fs : List Formal) (cs : List ℕ) → Paired fs cs → HaveCodes Γ es cs →
    Satisfies (λ done. ActualsFit Γ es fs) (same_codes p fs cs)
codes_satisfy Γ p es fs cs no_pairs no_codes = no_actuals
codes_satisfy Γ p es fs cs (pairs {f = f} {fs = gs} {c = c} {cs = ds} h) (codes_of {e = e} {es = is} k ks) =
    bind_satisfies (λ done. f.code ≡ c) _ (same_code p f.code c) _ (same_satisfies p f.code c) (λ done q.
    each (same_codes p gs ds) (λ a. actual (subst (HasCode Γ e) (sym q) k) a) (codes_satisfy Γ p is gs ds h ks))

expressions_satisfy : (Γ : Scope) (es : List Expression) → Satisfies (HaveCodes Γ es) (expression_codes Γ es)
unfolding expression_codes
expressions_satisfy Γ [] = no_codes
expressions_satisfy Γ (e ∷ es) =
    bind_satisfies (HasCode Γ e) _ (expression_code Γ e) _ (expression_satisfies Γ e) (λ c h.
    bind_satisfies (HaveCodes Γ es) _ (expression_codes Γ es) _ (expressions_satisfy Γ es) (λ cs k. codes_of h k))

declared_tests : (x : ℕ) (Γ : Scope) → Declares x Γ → T (has_name x Γ)
unfolding has_name
declared_tests x Γ (here {n = n} {Γ = Δ} q) = or_left (eqb n.name x) (has_name x Δ) (subst (λ y. T (eqb n.name y)) q (eqb_refl n.name))
declared_tests x Γ (there {n = n} {Γ = Δ} d) = or_right (eqb n.name x) (has_name x Δ) (declared_tests x Δ d)

shared_tests : (x : ℕ) (Δ Γ : Scope) → Declares x Δ → Declares x Γ → T (shares_name Δ Γ)
unfolding shares_name
shared_tests x Δ Γ (here {n = n} {Γ = Θ} q) d =
    or_left (has_name n.name Γ) (shares_name Θ Γ) (declared_tests n.name Γ (subst (λ y. Declares y Γ) (sym q) d))
shared_tests x Δ Γ (there {n = n} {Γ = Θ} c) d = or_right (has_name n.name Γ) (shares_name Θ Γ) (shared_tests x Θ Γ c d)

distinct_satisfies : (seen : Scope) (fs : List Formal) → Satisfies (λ done. Distinct seen fs) (distinct seen fs)
unfolding distinct
distinct_satisfies seen [] = Typing.no_formals
distinct_satisfies seen (f ∷ fs) =
    cond_satisfies (λ done. Distinct seen (f ∷ fs)) (has_name f.name seen) _ _ (λ q. tt) (λ q.
    each (distinct (record { name = f.name; meaning = code f.code } ∷ seen) fs)
    (λ h. Typing.formal (λ d. failed_test q (declared_tests f.name seen d)) h)
    (distinct_satisfies (record { name = f.name; meaning = code f.code } ∷ seen) fs))

ref_satisfies : (Γ : Scope) (p : ℕ) (e : Expression) (c : ℕ) → HasCode Γ e c → Satisfies (Means Γ (Ref p e)) (ref_code p c)
ref_satisfies Γ p e zero h = Typing.ref {c = 0} h (omega arith)
ref_satisfies Γ p e (suc zero) h = Typing.ref {c = 1} h (omega arith)
ref_satisfies Γ p e (suc (suc zero)) h = Typing.ref {c = 2} h (omega arith)
ref_satisfies Γ p e (suc (suc (suc zero))) h = Typing.ref {c = 3} h (omega arith)
ref_satisfies Γ p e (suc (suc (suc (suc zero)))) h = Typing.ref {c = 4} h (omega arith)
ref_satisfies Γ p e (suc (suc (suc (suc (suc zero))))) h = Typing.ref {c = 5} h (omega arith)
ref_satisfies Γ p e (suc (suc (suc (suc (suc (suc c)))))) h = tt

call_satisfies : (Γ : Scope) (p x : ℕ) (es : List Expression) (cs : List ℕ) (m : Meaning) → HaveCodes Γ es cs → meaning_of x Γ ≡ some m →
    Satisfies (λ done. CommandOk Γ (Call p x es)) (called p m >>= λ fs. same_count p fs cs >>= λ done. same_codes p fs cs)
call_satisfies Γ p x es cs m h q =
    bind_satisfies (λ fs. m ≡ function fs) _ (called p m) _ (called_satisfies p m) (λ fs r.
    bind_satisfies (λ done. Paired fs cs) _ (same_count p fs cs) _ (count_satisfies p fs cs) (λ done k.
    each (same_codes p fs cs) (λ fit. Typing.call fit (q ∙ ap {B = Option Meaning} some r)) (codes_satisfy Γ p es fs cs k h)))

assign_satisfies : (Γ : Scope) (p x : ℕ) (e : Expression) (c : ℕ) (m : Meaning) → HasCode Γ e c → meaning_of x Γ ≡ some m →
    Satisfies (λ done. CommandOk Γ (Assign p x e)) (assignable p m >>= λ wanted. same_code p wanted c)
assign_satisfies Γ p x e c m h q =
    bind_satisfies (λ w. (w < plain_codes) × (m ≡ code (suc (suc w)))) _ (assignable p m) _ (assignable_satisfies p m) (λ w k.
    each (same_code p w c) (λ t. Typing.assign (subst (HasCode Γ e) (sym t) h) k.0 (q ∙ ap {B = Option Meaning} some k.1))
    (same_satisfies p w c))

mutual
  unfolding command_ok

  pub command_satisfies : (c : Command) (Γ : Scope) → Satisfies (λ done. CommandOk Γ c) (command_ok Γ c)
  command_satisfies (Assign p x e) Γ =
      bind_satisfies (HasCode Γ e) _ (expression_code Γ e) _ (expression_satisfies Γ e) (λ c h.
      bind_satisfies (λ m. meaning_of x Γ ≡ some m) _ (bound_name p (meaning_of x Γ)) _ (bound_satisfies p (meaning_of x Γ)) (λ m q.
      assign_satisfies Γ p x e c m h q))
  command_satisfies (Loop p e c) Γ =
      bind_satisfies (HasCode Γ e) _ (expression_code Γ e) _ (expression_satisfies Γ e) (λ t h.
      bind_satisfies (λ done. CommandOk Γ c) _ (command_ok Γ c) _ (command_satisfies c Γ) (λ done k.
      truth_satisfies Γ (λ done. CommandOk Γ (Loop p e c)) p ok e t (λ h₁. Typing.loop h₁ k) h))
  command_satisfies (CSeq p c₁ c₂) Γ =
      bind_satisfies (λ done. CommandOk Γ c₁) _ (command_ok Γ c₁) _ (command_satisfies c₁ Γ) (λ done h.
      each (command_ok Γ c₂) (λ k. Typing.cseq h k) (command_satisfies c₂ Γ))
  command_satisfies (block b) Γ = each (block_ok Γ b) Typing.block_of (block_satisfies b Γ)
  command_satisfies (Call p x es) Γ =
      bind_satisfies (HaveCodes Γ es) _ (expression_codes Γ es) _ (expressions_satisfy Γ es) (λ cs h.
      bind_satisfies (λ m. meaning_of x Γ ≡ some m) _ (bound_name p (meaning_of x Γ)) _ (bound_satisfies p (meaning_of x Γ)) (λ m q.
      call_satisfies Γ p x es cs m h q))
  command_satisfies (Cond p e c₁ c₂) Γ =
      bind_satisfies (HasCode Γ e) _ (expression_code Γ e) _ (expression_satisfies Γ e) (λ t h.
      bind_satisfies (λ done. CommandOk Γ c₁) _ (command_ok Γ c₁) _ (command_satisfies c₁ Γ) (λ first k₁.
      bind_satisfies (λ done. CommandOk Γ c₂) _ (command_ok Γ c₂) _ (command_satisfies c₂ Γ) (λ second k₂.
      truth_satisfies Γ (λ done. CommandOk Γ (Cond p e c₁ c₂)) p ok e t (λ h₁. Typing.conditional h₁ k₁ k₂) h)))

  pub block_satisfies : (b : Block) (Γ : Scope) → Satisfies (λ done. BlockOk Γ b) (block_ok Γ b)
  block_satisfies (Blk p d c) Γ =
      bind_satisfies (Gives Γ d) _ (declaration_gives Γ d) _ (declaration_satisfies d Γ) (λ Δ h.
      each (command_ok (Δ ++ Γ) c) (λ k. Typing.blk h k) (command_satisfies c (Δ ++ Γ)))

  pub declaration_satisfies : (d : Declaration) (Γ : Scope) → Satisfies (Gives Γ d) (declaration_gives Γ d)
  declaration_satisfies (Bind p x b) Γ =
      bind_satisfies (Means Γ b) _ (bound_means Γ b) _ (bound_means_satisfies b Γ) (λ m h. Typing.bind h refl)
  declaration_satisfies (DSeq p d₁ d₂) Γ =
      bind_satisfies (Gives Γ d₁) _ (declaration_gives Γ d₁) _ (declaration_satisfies d₁ Γ) (λ Δ₁ h.
      bind_satisfies (Gives (Δ₁ ++ Γ) d₂) _ (declaration_gives (Δ₁ ++ Γ) d₂) _ (declaration_satisfies d₂ (Δ₁ ++ Γ)) (λ Δ₂ k.
      cond_satisfies (Gives Γ (DSeq p d₁ d₂)) (shares_name Δ₁ Δ₂) _ _ (λ q. tt) (λ q.
      Typing.dseq h k (λ x d e. failed_test q (shared_tests x Δ₁ Δ₂ d e)) refl)))

  pub bound_means_satisfies : (b : Bound) (Γ : Scope) → Satisfies (Means Γ b) (bound_means Γ b)
  bound_means_satisfies (plain e) Γ =
      bind_satisfies (HasCode Γ e) _ (expression_code Γ e) _ (expression_satisfies Γ e) (λ c h. Typing.plain_of h)
  bound_means_satisfies (Ref p e) Γ =
      bind_satisfies (HasCode Γ e) _ (expression_code Γ e) _ (expression_satisfies Γ e) (λ c h. ref_satisfies Γ p e c h)
  bound_means_satisfies (Abs p fs b) Γ =
      bind_satisfies (λ done. Distinct [] fs) _ (distinct [] fs) _ (distinct_satisfies [] fs) (λ done h.
      bind_satisfies (λ done. BlockOk (with_formals fs Γ) b) _ (block_ok (with_formals fs Γ) b) _ (block_satisfies b (with_formals fs Γ)) (λ done k.
      Typing.abs h k))
