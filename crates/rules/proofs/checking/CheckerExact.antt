-- The checker passes exactly what the rules derive (the halves are in CheckerSound.antt and CheckerComplete.antt).
use Rattle.std.specs.Prelude.{ℕ, ◌≡◌, refl, ◌↔◌}
use Rattle.std.proofs.Common.{ap, subst}
use Rattle.rules.specs.paper.Tree.{Expression, Command, Block, Declaration, Bound, Root, expression, command, absent}
use Rattle.rules.specs.paper.Checker.{Meaning, Scope, Judged, fault, fine, ◌>>=◌, expression_code, Fine, ok, command_ok, block_ok, declaration_gives, bound_means, Passed, expression_of_code, a_command, root_is}
use Rattle.rules.specs.claims.Typing.{HasCode, CommandOk, BlockOk, Gives, Means, RootOk}
use Rattle.rules.specs.claims.Typing as Typing
use Rattle.rules.proofs.checking.CheckerSound.{Satisfies, expression_satisfies, command_satisfies, block_satisfies, declaration_satisfies, bound_means_satisfies}
use Rattle.rules.proofs.checking.CheckerComplete.{expression_fine, command_fine, block_fine, declaration_fine, bound_fine}

-- An expression has a code by the function exactly when it has it by the rules.
pub expression_exact : (Γ : Scope) (e : Expression) (c : ℕ) → (expression_code Γ e ≡ fine c) ↔ HasCode Γ e c
expression_exact Γ e c = (λ q. subst (Satisfies (HasCode Γ e)) q (expression_satisfies Γ e), expression_fine Γ e c)

-- A command passes by the function exactly when the rules derive it; blocks, declarations and what they bind likewise.
pub command_exact : (Γ : Scope) (c : Command) → (command_ok Γ c ≡ fine ok) ↔ CommandOk Γ c
command_exact Γ c = (λ q. subst (Satisfies (λ done. CommandOk Γ c)) q (command_satisfies c Γ), command_fine)

pub block_exact : (Γ : Scope) (b : Block) → (block_ok Γ b ≡ fine ok) ↔ BlockOk Γ b
block_exact Γ b = (λ q. subst (Satisfies (λ done. BlockOk Γ b)) q (block_satisfies b Γ), block_fine)

pub declaration_exact : (Γ : Scope) (d : Declaration) (Δ : Scope) → (declaration_gives Γ d ≡ fine Δ) ↔ Gives Γ d Δ
declaration_exact Γ d Δ = (λ q. subst (Satisfies (Gives Γ d)) q (declaration_satisfies d Γ), declaration_fine)

pub bound_exact : (Γ : Scope) (b : Bound) (m : Meaning) → (bound_means Γ b ≡ fine m) ↔ Means Γ b m
bound_exact Γ b m = (λ q. subst (Satisfies (Means Γ b)) q (bound_means_satisfies b Γ), bound_fine)

root_satisfies : (Γ : Scope) (t : Root) → Satisfies (RootOk Γ t) (root_is Γ t)
unfolding root_is
root_satisfies Γ (expression e) = pass (expression_code Γ e) (expression_satisfies Γ e)
  where
    pass : (m : Judged ℕ) → Satisfies (HasCode Γ e) m → Satisfies (RootOk Γ (expression e)) (m >>= λ c. fine (expression_of_code c))
    pass (fault r p) h = tt
    pass (fine c) h = Typing.root_expression h
root_satisfies Γ (command c) = pass (command_ok Γ c) (command_satisfies c Γ)
  where
    pass : (m : Judged Fine) → Satisfies (λ done. CommandOk Γ c) m → Satisfies (RootOk Γ (command c)) (m >>= λ done. fine a_command)
    pass (fault r p) h = tt
    pass (fine d) h = Typing.root_command h
root_satisfies Γ absent = Typing.root_absent

root_fine : (Γ : Scope) (t : Root) (a : Passed) → RootOk Γ t a → root_is Γ t ≡ fine a
unfolding root_is
root_fine Γ t a (Typing.root_expression {e = e} {c = c} h) = rw (expression_fine Γ e c h)
root_fine Γ t a (Typing.root_command h) = rw (command_fine h)
root_fine Γ t a Typing.root_absent = refl

-- The checker passes a tree with code c, or as a command, exactly when the rules derive it.
pub root_exact : (Γ : Scope) (t : Root) (a : Passed) → (root_is Γ t ≡ fine a) ↔ RootOk Γ t a
root_exact Γ t a = (λ q. subst (Satisfies (RootOk Γ t)) q (root_satisfies Γ t), root_fine Γ t a)
