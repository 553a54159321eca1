-- The type code of a root is 0, 1 or 2: its only names are the registers, which have code 2.
use Rattle.std.specs.Prelude.{ℕ, zero, suc, ◌≤◌, ◌≡◌, refl, Bool, true, false, cond, List, eqb}
use Rattle.std.proofs.Common.{arith, sym, ap, ◌∙◌}
use Rattle.std.proofs.Math.Option.{Option, none, some}
use Rattle.rules.specs.paper.Tree.{Expression, Root}
use Rattle.rules.specs.paper.Checker.{Meaning, code, function, meaning_of, Passed, expression_of_code, a_command, register_scope}
use Rattle.rules.specs.paper.Engine.{check_image, passed}
use Rattle.rules.specs.claims.Typing.{HasCode, num, boo, id_plain, id_cell, deref, valref, arithmetic_of, order_of, equal_of, logic_of, not_of, RootOk, root_expression, root_command, root_absent}
use Rattle.rules.proofs.checking.ImageExact.{check_exact}

-- The code that a name's meaning has, and a register's where it has none.
abbrev code_of : Option Meaning → ℕ
code_of none = 2
code_of (some (code c)) = c
code_of (some (function fs)) = 2

this_or_outer : (b : Bool) (outer : Option Meaning) → code_of outer ≡ 2 → code_of (cond b (some (code 2)) outer) ≡ 2
this_or_outer true outer e = refl
this_or_outer false outer e = e

register_code : (x r : ℕ) → code_of (meaning_of x (register_scope r)) ≡ 2
unfolding meaning_of register_scope
register_code x zero = refl
register_code x (suc r) = this_or_outer (eqb r x) (meaning_of x (register_scope r)) (register_code x r)

-- A name of code c among the registers: c is 2.
named_code : (x r : ℕ) {c : ℕ} → meaning_of x (register_scope r) ≡ some (code c) → c ≡ 2
named_code x r e = sym (ap code_of e) ∙ register_code x r

expression_low : (r : ℕ) {e : Expression} {c : ℕ} → HasCode (register_scope r) e c → c ≤ 2
expression_low r num = omega arith
expression_low r boo = omega arith
expression_low r (id_plain p m) = omega (arith, p)
expression_low r (id_cell {x = x} m) = omega (arith, named_code x r m)
expression_low r (deref {x = x} p m) = omega (arith, named_code x r m)
expression_low r (valref {x = x} m) = absurd (omega (arith, named_code x r m))
expression_low r (arithmetic_of h k) = omega arith
expression_low r (order_of h k) = omega arith
expression_low r (equal_of p h k) = omega arith
expression_low r (logic_of h k) = omega arith
expression_low r (not_of h) = omega arith

-- What a check answers of an expression: an integer, a truth, or the location of a register.
abbrev Low : Passed → Type 0
Low (expression_of_code c) = c ≤ 2
Low a_command = Unit {0}

root_low : (r : ℕ) {t : Root} {a : Passed} → RootOk (register_scope r) t a → Low a
root_low r (root_expression h) = expression_low r h
root_low r (root_command h) = tt
root_low r root_absent = tt

pub root_codes : (ws : List ℕ) (r : ℕ) (t : Root) (c : ℕ) → check_image ws ≡ passed r t (expression_of_code c) → c ≤ 2
root_codes ws r t c e = root_low r ((check_exact ws r t (expression_of_code c)).0 e).types
