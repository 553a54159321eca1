-- The row with a number is its kind's row, and says what its operand is below; and what the checks come to, of a row and of its kind. That the own
-- sort is one of the kind's, and which its children's sorts are, the check of `has_sort` and `children` finds from the rows alone.
use Prim.Native.Nat.{ℕ}
use mathlib.Core.Path.{◌≡◌, refl, sym, ap, ◌∙◌}
use mathlib.Core.Option.{Option, none, some}
use Rattle.std.specs.Prelude.{Some, None, Result, Ok, Err}
use Rattle.std.specs.Prelude as Prelude
use Rattle.rules.specs.declared.refusals.Refused.{Refused}
use Rattle.rules.specs.declared.kinds.Kind.{Kind}
use Rattle.rules.specs.paper.Kinds.{kind_of, operand_bound}
use Rattle.rules.specs.declared.kinds.Kind.TheVariants.{Expression as expression_kind, Command as command_kind, Declaration as declaration_kind, Ref as ref, Abs as abs, Formal as formal}
use Rattle.rules.specs.declared.kinds.ExpressionKind.TheVariants.{Num as num, Boo as boo, Id as id, DeRef as deref, ValRef as valref, Binary as binary, Not as negation}
use Rattle.rules.specs.declared.kinds.CommandKind.TheVariants.{Assign as assign, Loop as loop, CSeq as cseq, Blk as blk, Call as call, Cond as conditional}
use Rattle.rules.specs.declared.kinds.DeclarationKind.TheVariants.{Bind as bind, DSeq as dseq}
use Rattle.reader.specs.declared.tables.Row.{Row}
use Rattle.reader.specs.Scan.{found_kind, kind_at}
use Rattle.reader.specs.Rows.{row_for, found_row, row_at, kind_answer}

-- ---- The row with a number.

kind_of_row : (k : Kind) → (row_for k).kind ≡ k
kind_of_row (expression_kind num) = refl
kind_of_row (expression_kind boo) = refl
kind_of_row (expression_kind id) = refl
kind_of_row (expression_kind (binary o)) = refl
kind_of_row (expression_kind negation) = refl
kind_of_row (expression_kind deref) = refl
kind_of_row (expression_kind valref) = refl
kind_of_row (command_kind assign) = refl
kind_of_row (command_kind loop) = refl
kind_of_row (command_kind cseq) = refl
kind_of_row (command_kind blk) = refl
kind_of_row (command_kind call) = refl
kind_of_row (command_kind conditional) = refl
kind_of_row (declaration_kind bind) = refl
kind_of_row (declaration_kind dseq) = refl
kind_of_row ref = refl
kind_of_row abs = refl
kind_of_row formal = refl

pub record RowThere (n : ℕ) (r : Row) : Type 0 where
  pub numbered : kind_at n ≡ Some r.kind
  pub of_table : r ≡ row_for r.kind

pub row_there : (n : ℕ) (r : Row) → row_at n ≡ Some r → RowThere n r
unfolding row_at kind_at
row_there n r q = by (kind_of n) refl q
  where
    same : (k : Kind) → row_for k ≡ r → k ≡ r.kind
    same k e = sym (kind_of_row k) ∙ ap (λ s. s.kind) e

    by : (o : Option Kind) → kind_of n ≡ o → found_row o ≡ Some r → RowThere n r
    by none e h = absurd cc
    by (some k) e h =
        let its : row_for k ≡ r = cc in
        record { numbered = ap found_kind e ∙ ap {B = Prelude.Option Kind} Some (same k its); of_table = sym its ∙ ap row_for (same k its) }

pub row_missing : (n : ℕ) → row_at n ≡ None → kind_at n ≡ None
unfolding row_at kind_at
row_missing n q = by (kind_of n) q
  where
    by : (o : Option Kind) → found_row o ≡ None → found_kind o ≡ None
    by none e = refl
    by (some k) e = absurd cc

-- ---- What the row says.

bound : (k : Kind) → (row_for k).bound ≡ operand_bound k
unfolding operand_bound
bound (expression_kind num) = refl
bound (expression_kind boo) = refl
bound (expression_kind id) = refl
bound (expression_kind (binary o)) = refl
bound (expression_kind negation) = refl
bound (expression_kind deref) = refl
bound (expression_kind valref) = refl
bound (command_kind assign) = refl
bound (command_kind loop) = refl
bound (command_kind cseq) = refl
bound (command_kind blk) = refl
bound (command_kind call) = refl
bound (command_kind conditional) = refl
bound (declaration_kind bind) = refl
bound (declaration_kind dseq) = refl
bound ref = refl
bound abs = refl
bound formal = refl

pub bound_of : (r : Row) → r ≡ row_for r.kind → r.bound ≡ operand_bound r.kind
bound_of r q = ap (λ s. s.bound) q ∙ bound r.kind

-- ---- What the checks come to, of the row.

pub kind_answered : (r : Result Row Refused) (row : Row) (p : Result Kind Refused) → kind_answer r ≡ p → r ≡ Ok row → p ≡ Ok row.kind
kind_answered (Ok other) row p q e = cc
kind_answered (Err x) row p q e = absurd cc

pub refusal_answered : (r : Result Row Refused) (x : Refused) (p : Result Kind Refused) → kind_answer r ≡ p → r ≡ Err x → p ≡ Err x
refusal_answered (Ok row) x p q e = absurd cc
refusal_answered (Err y) x p q e = cc
